-- A file read from standard input into a buffer. Which bytes come is outside the logic. Assumes nothing.
use Rattle.std.specs.Prelude.{◌≡◌, List, ℕ, ◌<◌, length, Option, Some}

-- n bytes, fewer than the buffer b has; none for no file
pub record FileIn (o : Option ℕ) (b b' : List ℕ) : Type 0 where
  pub size : length b' ≡ length b
  pub fits : (n : ℕ) → o ≡ Some n → n < length b

-- The digits of a byte in hexadecimal. Assumes nothing.
use Rattle.std.specs.Prelude.{cond, ℕ, ◌+◌, ltb}

-- 0 to 9, then a to f
unfoldable pub digit_of : ℕ → ℕ
digit_of n = cond (ltb n 10) (n + 48) (n + 87)

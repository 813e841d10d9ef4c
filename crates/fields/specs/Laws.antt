-- What is known of a field that was read, and a list spelled out: the laws about them are in proofs/Laws.antt.
use Rattle.std.specs.Prelude.{ℕ, zero, suc, ◌+◌, ◌≤◌, ◌≡◌, true, List, [], ◌∷◌}
use Rattle.std.proofs.Math.ListN.{length, get_or}
use Rattle.integers.specs.Bytes.{word}
use Rattle.fields.specs.Fields.{may_stand, length_fits, count_fits}

-- what is known of a field that was read at a position
pub record FieldRead (s : List ℕ) (at stage t st l : ℕ) : Type 0 where
  pub tag : t ≡ get_or s at 0
  pub start : st ≡ at + 3
  pub len : l ≡ word (get_or s (at + 1) 0) (get_or s (at + 2) 0)
  pub whole : st + l ≤ length s
  pub stands : may_stand stage t ≡ true
  pub fits : length_fits t l ≡ true
  pub counts : count_fits t l ≡ true

-- n bytes of b from i on
abbrev pub bytes_at : List ℕ → ℕ → ℕ → List ℕ
bytes_at b i zero = []
bytes_at b i (suc n) = get_or b i 0 ∷ bytes_at b (i + 1) n

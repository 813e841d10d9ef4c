-- A segmentation of a record, and the numbers by which two of equal cost are compared. The quoted words are those of the scope paper (01),
-- "The model". Assumes nothing.
use Rattle.std.specs.Prelude.{◌≡◌, ◌⊎◌, List, [], ◌∷◌, ℕ, suc, ◌≤◌, ℤ, pos, ◌<ℤ◌}
use Rattle.std.proofs.Common.{arith}

-- "A segmentation gives each reading a state and a level .., and each boundary .. an edge": the first reading's state and level; then, for
-- each later reading, the number of the edge that leads to it and its level. (Its state is the one that the edge leads to.)
pub data Seg : Type 0 where
  first : ℕ → ℤ → Seg
  next : Seg → ℕ → ℤ → Seg

unfoldable pub readings : Seg → ℕ
readings (first s m) = 1
readings (next g e m) = suc (readings g)

unfoldable pub last_level : Seg → ℤ
last_level (first s m) = m
last_level (next g e m) = m

-- "going back one boundary at a time, lower edge number, then lower level of the reading before it"
unfoldable pub back : Seg → List ℤ
back (first s m) = []
back (next g e m) = pos e ∷ last_level g ∷ back g

-- the first number that differs is lower
abbrev pub Lower : List ℤ → List ℤ → Type 0
Lower [] ys = ⊥
Lower (x ∷ xs) [] = ⊥
Lower (x ∷ xs) (y ∷ ys) = (x <ℤ y) ⊎ ((x ≡ y) × Lower xs ys)

pub readings_pos : (g : Seg) → 1 ≤ readings g
unfolding readings
readings_pos (first s m) = omega arith
readings_pos (next g e m) = omega arith

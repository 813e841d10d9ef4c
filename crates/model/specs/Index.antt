-- What one edge makes of a function of the level, by the level's index above lo. Stay is the function itself, up and down the running minimum
-- moved by the gap, abs the lesser of both, and any is abs with the gap 1. What code has to show: its list has at each index the value `edge_min`, or it
-- looked at the permitted indices and has `edge_min_is` or `edge_min_none`. `permits_index` and `edge_min_lem` make of it the least over the levels
-- that the model permits. Assumes nothing.
use Rattle.std.specs.Prelude.{◌≡◌, ◌⊎◌, Bool, true, not, cond, ℕ, zero, suc, ◌+◌, ◌-◌, ◌*◌, ◌/◌, ◌%◌, ◌^◌, ◌≤◌, ◌<◌, min, leb, ltb, eqb}
use Rattle.std.proofs.Math.Option.{Option, none, some}
use Rattle.integers.specs.Pairs.{unit}
use Rattle.plan.specs.declared.Kind.{Kind}
use Rattle.plan.specs.declared.Kind.TheVariants.{Stay, Any, Up, Down, Abs}
use Rattle.model.specs.Cost.{Cost}

-- ---- what code holds

-- one number stands for a cost and a number of changes
abbrev pub pair_of : ℕ → Cost
pair_of v = (v / unit, v % unit)

-- this number or more means that there is none
abbrev pub no_cost : ℕ
no_cost = unit * 2 ^ 60

unfoldable pub held : ℕ → Option Cost
held v = cond (ltb v no_cost) (some (pair_of v)) none

-- the cost that is reported for a number
unfoldable pub reported : ℕ → Option ℕ
reported v = cond (ltb v no_cost) (some (v / unit)) none

-- from index i to the next index j
unfoldable pub permits_at : Kind → ℕ → ℕ → Bool
permits_at Stay i j = eqb i j
permits_at Any i j = not (eqb i j)
permits_at (Up g) i j = leb (i + g) j
permits_at (Down g) i j = leb (j + g) i
permits_at (Abs g) i j = cond (leb (i + g) j) true (leb (j + g) i)

-- r j is the least of f i over the indices i that the kind permits before j
pub record MinAt (L : ℕ) (k : Kind) (f r : ℕ → ℕ) : Type 0 where
  pub met : (j : ℕ) → j < L → r j < no_cost → (i : ℕ) × (i < L) × (permits_at k i j ≡ true) × (f i ≡ r j)
  pub least : (i j : ℕ) → i < L → j < L → permits_at k i j ≡ true → f i < no_cost → r j ≤ f i

-- the least of f 0 .. f j
unfoldable pub prefix_min : (ℕ → ℕ) → ℕ → ℕ
prefix_min f zero = f 0
prefix_min f (suc j) = min (prefix_min f j) (f (suc j))

-- the least of f j .. f (L - 1): the mirror image
unfoldable pub suffix_min : ℕ → (ℕ → ℕ) → ℕ → ℕ
suffix_min L f j = prefix_min (λ i. f (L - 1 - i)) (L - 1 - j)

unfoldable pub up_min : ℕ → (ℕ → ℕ) → ℕ → ℕ
up_min g f j = cond (leb g j) (prefix_min f (j - g)) no_cost

unfoldable pub down_min : ℕ → ℕ → (ℕ → ℕ) → ℕ → ℕ
down_min L g f j = cond (ltb (j + g) L) (suffix_min L f (j + g)) no_cost

-- what code computes for each kind
unfoldable pub edge_min : ℕ → Kind → (ℕ → ℕ) → ℕ → ℕ
edge_min L Stay f j = f j
edge_min L Any f j = min (up_min 1 f j) (down_min L 1 f j)
edge_min L (Up g) f j = up_min g f j
edge_min L (Down g) f j = down_min L g f j
edge_min L (Abs g) f j = min (up_min g f j) (down_min L g f j)

-- ---- for code that looks at a range of levels

abbrev pub Permitted : Kind → ℕ → ℕ → Type 0
Permitted Stay i j = i ≡ j
Permitted Any i j = (i + 1 ≤ j) ⊎ (j + 1 ≤ i)
Permitted (Up g) i j = i + g ≤ j
Permitted (Down g) i j = j + g ≤ i
Permitted (Abs g) i j = (i + g ≤ j) ⊎ (j + g ≤ i)

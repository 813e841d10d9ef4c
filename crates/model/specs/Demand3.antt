-- What `result_of` means: the third condition of acceptance of the scope paper (01), whose sentences are quoted, of the model's result; of the two
-- calls it is said in `search/specs/Right`. Allowed, cost and order are those of `Model`. Assumes nothing.
use Rattle.std.specs.Prelude.{◌≡◌, ◌⊎◌, List, [], ℕ, ◌≤◌, ℤ, length, take}
use Rattle.plan.specs.declared.Plan.{Plan}
use Rattle.model.specs.Segmentation.{Seg, last_level}
use Rattle.model.specs.Model.{cost, last_state, Allowed, AllowedWhole, LeastCost, First}
use Rattle.model.specs.Run.{run_numbers}
use Rattle.model.specs.Refusals.{search_number, point_number}
use Rattle.model.specs.Result.{whole, point, found, refused, result_of}

-- no segmentation of n readings is allowed
abbrev pub NoneAllowed : Plan → ℕ → Type 0
NoneAllowed P n = (g : Seg) → AllowedWhole P n g → ⊥

pub record Demand3 (P : Plan) (zs : List ℤ) : Type 0 where
  -- "The cost and the whole list of runs that a search gives, where it is not refused, equal those of the segmentation that comes first in the
  -- order among the cheapest allowed ones."
  pub whole_found : (c : ℕ) (ns : List ℤ) → result_of P zs whole ≡ found c ns → (g : Seg) × First P zs g × (cost P zs g ≡ c) × (run_numbers P g ≡ ns)
  pub one_first : (g g' : Seg) → First P zs g → First P zs g' → g ≡ g'
  -- "A cost at a point that is not refused equals the least of the costs of all segmentations allowed at that point that end in the named state
  -- at the named level."
  pub point_found : (s : ℕ) (m : ℤ) (c : ℕ) (ns : List ℤ) → result_of P zs (point s m) ≡ found c ns → LeastCost P zs (length zs) s m c × (ns ≡ [])
  -- "Each of the two calls gives 16 exactly when no earlier refusal applies and no such segmentation exists."
  pub whole_16 : result_of P zs whole ≡ refused 16 → (search_number P (length zs) ≡ 0) × NoneAllowed P (length zs)
  pub 16-whole : search_number P (length zs) ≡ 0 → NoneAllowed P (length zs) → result_of P zs whole ≡ refused 16
  pub point_16 : (s : ℕ) (m : ℤ) → result_of P zs (point s m) ≡ refused 16
      → (point_number P (length zs) s m ≡ 0) × ((g : Seg) → Allowed P (length zs) g → last_state P g ≡ s → last_level g ≡ m → ⊥)
  pub 16-point : (s : ℕ) (m : ℤ) → point_number P (length zs) s m ≡ 0 → ((g : Seg) → Allowed P (length zs) g → last_state P g ≡ s → last_level g ≡ m → ⊥)
      → result_of P zs (point s m) ≡ refused 16
  -- an earlier refusal gives its number, and without one there is an answer or 16
  pub whole_early : (n : ℕ) → search_number P (length zs) ≡ n → (n ≡ 0 → ⊥) → result_of P zs whole ≡ refused n
  pub whole_else : search_number P (length zs) ≡ 0 → ((c : ℕ) × (ns : List ℤ) × (result_of P zs whole ≡ found c ns)) ⊎ (result_of P zs whole ≡ refused 16)
  pub point_early : (s : ℕ) (m : ℤ) (n : ℕ) → point_number P (length zs) s m ≡ n → (n ≡ 0 → ⊥) → result_of P zs (point s m) ≡ refused n
  pub point_else : (s : ℕ) (m : ℤ) → point_number P (length zs) s m ≡ 0 → ((c : ℕ) × (result_of P zs (point s m) ≡ found c [])) ⊎ (result_of P zs (point s m) ≡ refused 16)
  -- "A record stopped at a point is the list of its first n readings, for any n from 1 to its length."
  pub stopped : (n : ℕ) → n ≤ length zs → (s : ℕ) (m : ℤ) (c : ℕ)
      → (LeastCost P (take n zs) (length (take n zs)) s m c → LeastCost P zs n s m c) × (LeastCost P zs n s m c → LeastCost P (take n zs) (length (take n zs)) s m c)

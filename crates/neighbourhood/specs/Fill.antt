-- The table itself, once no refusal before 16 applies. Assumes nothing.
use Rattle.std.specs.Prelude.{◌≡◌, List, Bool, true, false, ℕ, suc, ◌≤◌, ℤ, length, take, Option, Some, None}
use Rattle.std.proofs.Math.Option as M
use Rattle.plan.specs.declared.Plan.{Plan}
use Rattle.model.specs.Result.{cost_list, no_costs}
use Rattle.model.specs.Neighbourhood.{entries, table_of}
use Rattle.layer.specs.declared.Shape.{Shape}
use Rattle.saved.specs.Packed.{Inside}
use Rattle.search.specs.ToldCosts.{Filled}
use Rattle.search.specs.Costs.{FilledBy}
use Rattle.neighbourhood.specs.Slots.{table_limit, Ground}

-- a cost or none, as the model has it
abbrev pub entry_told : Option ℕ → M.Option ℕ
entry_told None = M.none
entry_told (Some c) = M.some c

-- the entries stand at the front of a list; where one is a cost the answer is not 16
pub record Put (P : Plan) (zs : List ℤ) (most : ℕ) (r : Bool) (list list' : List ℕ) : Type 0 where
  pub size : length list' ≡ length list
  pub done : take (suc most) list' ≡ entries P zs (suc most)
  pub some : r ≡ true → table_of P zs most ≡ cost_list (entries P zs (suc most))

-- 16, or the entries
pub record Decided (P : Plan) (zs : List ℤ) (most : ℕ) (r : Bool) (ws ws' : List ℕ) : Type 0 where
  pub none : r ≡ true → table_of P zs most ≡ no_costs 16
  pub found : r ≡ false → table_of P zs most ≡ cost_list (entries P zs (suc most))
  pub inside : Inside 0 (table_limit P most) ws ws'

pub record Fillable (P : Plan) (zs : List ℤ) (most : ℕ) (g : Shape) (ws out : List ℕ) : Type 0 where
  pub ground : Ground P zs most g ws
  pub room : suc most ≤ length out

-- the model's costs, and no word above the workspace's part changed
abbrev pub FilledTo : Plan → List ℤ → ℕ → Filled → List ℕ → List ℕ → List ℕ → List ℕ → Type 0
FilledTo P zs most r ws ws' out out' = FilledBy (table_of P zs most) (table_limit P most) r ws ws' out out'

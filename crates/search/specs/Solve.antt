-- The search, and the cost at a point, once no refusal before 16 applies. Assumes nothing.
use Rattle.std.specs.Prelude.{◌≡◌, List, true, ℕ, ◌*◌, ◌≤◌, ℤ, length}
use Rattle.plan.specs.declared.Plan.{Plan}
use Rattle.model.specs.Refusals.{search_number, point_number}
use Rattle.model.specs.Result.{whole, point, result_of}
use Rattle.layer.specs.declared.Shape.{Shape}
use Rattle.saved.specs.Packed.{Inside}
use Rattle.saved.specs.Walk.{Workspace, limit}
use Rattle.search.specs.Told.{Found}
use Rattle.search.specs.Told.{Cost}
use Rattle.search.specs.Search.{found_of, cost_of, runs_after, looked}

pub record Solvable (P : Plan) (zs : List ℤ) (g : Shape) (ws : List ℕ) (out : List ℤ) : Type 0 where
  pub accepts : search_number P (length zs) ≡ 0
  pub space : Workspace P zs g ws
  pub room : 5 * length zs ≤ length out

-- the model's answer, and no word above the workspace's part changed
pub record Solved (P : Plan) (zs : List ℤ) (r : Found) (ws ws' : List ℕ) (out out' : List ℤ) : Type 0 where
  pub answer : r ≡ found_of (result_of P zs whole)
  pub runs : out' ≡ runs_after (result_of P zs whole) out
  pub looks : looked (result_of P zs whole) ≡ true
  pub inside : Inside 0 (limit P) ws ws'

pub record Askable (P : Plan) (zs : List ℤ) (g : Shape) (s : ℕ) (m : ℤ) (ws : List ℕ) : Type 0 where
  pub accepts : point_number P (length zs) s m ≡ 0
  pub space : Workspace P zs g ws

pub record Told (P : Plan) (zs : List ℤ) (s : ℕ) (m : ℤ) (r : Cost) (ws ws' : List ℕ) : Type 0 where
  pub answer : r ≡ cost_of (result_of P zs (point s m))
  pub looks : looked (result_of P zs (point s m)) ≡ true
  pub inside : Inside 0 (limit P) ws ws'

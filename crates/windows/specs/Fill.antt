-- The walk over the windows, once no refusal before 16 applies. Assumes nothing.
use Rattle.std.specs.Prelude.{List, ℕ, ◌≤◌, ◌<◌, ℤ, pos, length, get_or}
use Rattle.std.specs.Int.Signed.{mag}
use Rattle.plan.specs.declared.Plan.{Plan}
use Rattle.model.specs.Checked.{AcceptedWindow}
use Rattle.model.specs.Window.{starts, windows_of}
use Rattle.layer.specs.declared.Shape.{Shape}
use Rattle.layer.specs.Layer.{ShapeOf}
use Rattle.saved.specs.Walk.{limit}
use Rattle.search.specs.ToldCosts.{Filled}
use Rattle.search.specs.Costs.{FilledBy}

pub record Fillable (P : Plan) (zs : List ℤ) (w : ℕ) (g : Shape) (ws out : List ℕ) : Type 0 where
  pub accepts : AcceptedWindow P (length zs) w
  pub shape : ShapeOf P g
  pub low : mag P.lo < 32768
  pub high : mag P.hi < 32768
  pub fits : (t : ℕ) → mag (get_or zs t (pos 0)) < 32768
  pub words : limit P ≤ length ws
  pub room : starts (length zs) w ≤ length out

-- the model's costs, and no word above the workspace's part changed
abbrev pub FilledTo : Plan → List ℤ → ℕ → Filled → List ℕ → List ℕ → List ℕ → List ℕ → Type 0
FilledTo P zs w r ws ws' out out' = FilledBy (windows_of P zs w) (limit P) r ws ws' out out'

-- The way back from the cheapest end, boundary by boundary. Assumes nothing.
use Rattle.std.specs.Prelude.{◌≡◌, List, [], ◌∷◌, ◌++◌, reverse, ℕ, suc, ◌+◌, ◌*◌, ◌≤◌, ℤ, pos, ◌+ℤ◌, length}
use Rattle.plan.specs.declared.Plan.{Plan}
use Rattle.model.specs.Run as M
use Rattle.model.specs.Runs.{walk_back}
use Rattle.layer.specs.declared.Shape.{Shape}
use Rattle.saved.specs.declared.Walk.{Walk}
use Rattle.saved.specs.declared.Saved.{Saved}
use Rattle.saved.specs.Packed.{Inside}
use Rattle.saved.specs.Walk.{Workspace, At, Stack, limit}
use Rattle.runs.specs.Runs.{Holds}
use Rattle.trace.specs.declared.Point.{Point}
use Rattle.trace.specs.Trace.{PointAt, node_at}

pub record WayReady (P : Plan) (zs : List ℤ) (g : Shape) (w : Walk) (p : Point) (T : List Saved) (ws : List ℕ) (out : List ℤ) : Type 0 where
  pub space : Workspace P zs g ws
  pub at : At P zs w ws
  pub stack : Stack P zs w.count T ws
  pub time : w.time ≡ length zs
  pub here : PointAt P zs (length zs) p
  pub last : p.last ≡ length zs
  pub none : p.runs ≡ 0
  pub room : 5 * length zs ≤ length out

-- from p₀ after all readings to p after t + 1 of them: the runs written so far, and what is left of the way
pub record WayTo (P : Plan) (zs : List ℤ) (t : ℕ) (p₀ p : Point) (ws ws' : List ℕ) (out out' : List ℤ) : Type 0 where
  pub here : PointAt P zs (suc t) p
  pub last : p.last ≤ length zs
  pub inside : Inside 0 (limit P) ws ws'
  pub size : length out' ≡ length out
  pub done : List M.Run
  pub count : p.runs ≡ length done
  pub few : p.runs + suc t ≤ length zs
  pub way : walk_back P zs p₀.last (length zs) (node_at P p₀) ≡ done ++ walk_back P zs p.last (suc t) (node_at P p)
  pub holds : Holds done out out'

-- the first run written after the others, and all turned round
pub record Finished (P : Plan) (p : Point) (n : ℕ) (out out' : List ℤ) : Type 0 where
  pub count : n ≡ p.runs + 1
  pub size : length out' ≡ length out
  pub holds : (rs : List M.Run) (l₀ : List ℤ) → p.runs ≡ length rs → Holds rs l₀ out → Holds (reverse (rs ++ (M.run 1 p.last p.key.state (P.lo +ℤ pos p.low.level) 255 ∷ []))) l₀ out'

-- One step of the way back, in the model's terms. Assumes nothing.
use Rattle.std.specs.Prelude.{◌≡◌, List, ◌++◌, ℕ, suc, ◌+◌, ◌*◌, ◌≤◌, ◌<◌, ℤ, pos, ◌+ℤ◌, length}
use Rattle.integers.specs.Pairs.{lex}
use Rattle.plan.specs.declared.Plan.{Plan}
use Rattle.model.specs.Model.{width}
use Rattle.model.specs.Labels.{counts}
use Rattle.model.specs.Run as M
use Rattle.model.specs.Nodes.{Node, node}
use Rattle.model.specs.Index.{no_cost}
use Rattle.model.specs.Ends.{table_at}
use Rattle.model.specs.Runs.{walk_back}
use Rattle.quadratic.specs.Quad.{count_limit}
use Rattle.layer.specs.declared.Shape.{Shape}
use Rattle.layer.specs.Layer.{place_most, Layer}
use Rattle.layer.specs.Next.{Task}
use Rattle.runs.specs.Runs.{Holds}
use Rattle.trace.specs.declared.Point.{Point}

-- its cost with its changes, as one number
abbrev pub value_of : Point → ℕ
value_of p = lex p.low.rank.value p.low.rank.changes

-- the point has a cost after t readings
pub record PointAt (P : Plan) (zs : List ℤ) (t : ℕ) (p : Point) : Type 0 where
  pub count : p.key.count < counts
  pub state : p.key.state < P.states
  pub level : p.low.level < width P
  pub is : value_of p ≡ table_at P zs t p.key.count p.key.state p.low.level
  pub some : value_of p < no_cost
  pub changes : p.low.rank.changes ≤ count_limit

abbrev pub node_at : Plan → Point → Node
node_at P p = node p.key.count p.key.state (P.lo +ℤ pos p.low.level)

pub record StepReady (P : Plan) (zs : List ℤ) (t cur : ℕ) (g : Shape) (p : Point) (ws : List ℕ) (out : List ℤ) : Type 0 where
  pub task : Task P zs g
  pub positive : 1 ≤ t
  pub more : t < length zs
  pub layer : Layer P zs t ws cur
  pub place : cur ≤ place_most
  pub here : PointAt P zs (suc t) p
  pub last : p.last ≤ length zs
  pub few : p.runs ≤ 4096
  pub room : 5 * p.runs + 5 ≤ length out

-- the point before, the runs written on the way to it, and what is left of the way
pub record StepMade (P : Plan) (zs : List ℤ) (t : ℕ) (p r : Point) (out out' : List ℤ) : Type 0 where
  pub here : PointAt P zs t r
  pub last : r.last ≤ length zs
  pub size : length out' ≡ length out
  pub new : List M.Run
  pub few : length new ≤ 1
  pub count : r.runs ≡ p.runs + length new
  pub way : walk_back P zs p.last (suc t) (node_at P p) ≡ new ++ walk_back P zs r.last t (node_at P r)
  pub holds : (rs : List M.Run) (l₀ : List ℤ) → p.runs ≡ length rs → Holds rs l₀ out → Holds (rs ++ new) l₀ out'

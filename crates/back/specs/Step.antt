-- The step back over one boundary. Assumes nothing.
use Rattle.std.specs.Prelude.{◌≡◌, List, Bool, true, false, ◌&&◌, ℕ, ◌+◌, ◌≤◌, ◌<◌, eqb, ltb, Option as Maybe, Some, None}
use Rattle.std.proofs.Math.Option.{Option}
use Rattle.plan.specs.declared.Plan.{Plan}
use Rattle.plan.specs.declared.Edge.{Edge}
use Rattle.plan.specs.declared.Label.{Label}
use Rattle.plan.specs.Build.{gap_of}
use Rattle.model.specs.Model.{width, edge_at}
use Rattle.model.specs.Labels.{label_on, counts}
use Rattle.model.specs.Checked.{Checked}
use Rattle.model.specs.Index.{no_cost, Permitted}
use Rattle.model.specs.Held.{Table, from_count, leads_at, edge_least, edge_weight}
use Rattle.labels.specs.Boundary.{leads_from}
use Rattle.quadratic.specs.Quad.{count_limit}
use Rattle.curve.specs.declared.Low.{Low}
use Rattle.curve.specs.Pieces.{piece}
use Rattle.curve.specs.Lows.{low_of, costs}
use Rattle.edges.specs.Back.{LeastOf}
use Rattle.layer.specs.declared.Shape.{Shape}
use Rattle.layer.specs.Layer.{ShapeOf}
use Rattle.layer.specs.Step.{source}
use Rattle.back.specs.declared.Step.{Step}

-- a value there is, which with the edge's weight is the wanted one
abbrev pub meets_at : ℕ → ℕ → ℕ → Bool
meets_at value weight want = ltb value no_cost && eqb (value + weight) want

pub record MayOffer (o : Option Label) (t : ℕ) (x : Edge) (k s j : ℕ) (g : Shape) : Type 0 where
  pub boundary : t < 65536
  pub count : k < counts
  pub index : j < g.grid.levels
  pub from : x.from < g.states
  pub gap : gap_of x.kind ≤ 1023

pub record Offers (o : Option Label) (t : ℕ) (x : Edge) (k s j cur : ℕ) (g : Shape) (ws : List ℕ) (r : Low) : Type 0 where
  pub off : leads_from o t x k s ≡ false → no_cost ≤ low_of r
  pub on : leads_from o t x k s ≡ true → LeastOf (λ (i : ℕ). Permitted x.kind i j) g.grid.levels (costs g.grid.base (piece ws (source o t x k cur g) g.grid.levels)) r
  pub changes : r.rank.changes ≤ count_limit

pub record BackReady (P : Plan) (o : Option Label) (t k s j : ℕ) (g : Shape) : Type 0 where
  pub checked : Checked P
  pub shape : ShapeOf P g
  pub on : o ≡ label_on P t
  pub boundary : t ≤ 4096
  pub count : k < counts
  pub index : j < width P

-- the edge leads here, and its least over the permitted levels with its penalty and its change is the wanted value
abbrev pub Meets : Plan → ℕ → Table → ℕ → ℕ → ℕ → ℕ → ℕ → Type 0
Meets P t H k s j want e = (leads_at P t e k s ≡ true) × (edge_least P t H k j e < no_cost) × (edge_least P t H k j e + edge_weight P e ≡ want)

-- the lowest such edge, and the lowest level with its least
pub record StepFound (P : Plan) (t : ℕ) (H : Table) (k s j want e i v : ℕ) : Type 0 where
  pub known : e < P.edgecount
  pub meets : Meets P t H k s j want e
  pub lowest : (e' : ℕ) → e' < e → Meets P t H k s j want e' → ⊥
  pub value : v ≡ edge_least P t H k j e
  pub inside : i < width P
  pub permitted : Permitted (edge_at P e).kind i j
  pub at : H (from_count P t e k) (edge_at P e).from i ≡ edge_least P t H k j e
  pub first : (i' : ℕ) → i' < i → Permitted (edge_at P e).kind i' j → H (from_count P t e k) (edge_at P e).from i' ≡ edge_least P t H k j e → ⊥

abbrev pub StepTo : Plan → ℕ → Table → ℕ → ℕ → ℕ → ℕ → Maybe Step → Type 0
StepTo P t H k s j want (Some b) = StepFound P t H k s j want b.edge b.low.level (low_of b.low) × (b.low.rank.changes ≤ count_limit)
StepTo P t H k s j want None = (e : ℕ) → e < P.edgecount → Meets P t H k s j want e → ⊥

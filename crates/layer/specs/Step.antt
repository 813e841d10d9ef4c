-- One edge of one list, and what it makes of the least so far. Assumes nothing.
use Rattle.std.specs.Prelude.{◌≡◌, refl, List, true, cond, ℕ, ◌+◌, ◌-◌, ◌≤◌, ◌<◌, min, length, get_or}
use Rattle.std.proofs.Math.Option.{Option}
use Rattle.integers.specs.Pairs.{lex}
use Rattle.plan.specs.declared.Plan.{Plan}
use Rattle.plan.specs.declared.Edge.{Edge}
use Rattle.plan.specs.declared.Label.{Label}
use Rattle.plan.specs.Build.{gap_of, no_edge}
use Rattle.model.specs.Model.{edge_at, change_of, penalty, width}
use Rattle.model.specs.Labels.{label_on, count_before, counts}
use Rattle.model.specs.Held.{from_count}
use Rattle.model.specs.Index.{no_cost, edge_min}
use Rattle.model.specs.Held.{raise, penalty_most, Table, leads_at, by_edge, min_below}
use Rattle.labels.specs.Boundary.{leads_from}
use Rattle.quadratic.specs.Quad.{count_limit, cost_limit}
use Rattle.curve.specs.Curve.{Curve, Limits}
use Rattle.edges.specs.Edge.{Ready, OneOf, Spared, Hand, Sound}
use Rattle.layer.specs.declared.Shape.{Shape}
use Rattle.layer.specs.Layer.{Shape-small, place_most, list_at, from_place}

-- the list that the edge comes from
abbrev pub source : Option Label → ℕ → Edge → ℕ → ℕ → Shape → ℕ
source o t x k cur g = list_at cur g.states g.grid.levels (count_before o t x.kind k) x.from

-- and in which of two layers, one for stays and one for changes
abbrev pub source_of : Option Label → ℕ → Edge → ℕ → ℕ → ℕ → Shape → ℕ
source_of o t x k cur moved g = source o t x k (from_place (change_of x.kind) cur moved) g

-- what the edge offers at list (k, s) and index j, over the table H
unfoldable pub offered : Option Label → ℕ → Edge → ℕ → ℕ → ℕ → Table → ℕ → ℕ
offered o t x k s L H j =
    cond (leads_from o t x k s) (raise (edge_min L x.kind (H (count_before o t x.kind k) x.from) j) (lex (penalty x.class) (change_of x.kind))) no_cost

pub offered_by : (P : Plan) (t : ℕ) (H : Table) (k s j e : ℕ) → offered (label_on P t) t (edge_at P e) k s (width P) H j ≡ by_edge P t H k s j e
unfolding offered by_edge leads_at from_count leads_from
offered_by P t H k s j e = refl

-- what is asked before an edge is taken in: acc is the least so far, the next one may go to next, and work is one to work in
pub record MayTake (o : Option Label) (t : ℕ) (x : Edge) (k s cur : ℕ) (g : Shape) (acc next work : ℕ) (ws : List ℕ) : Type 0 where
  pub small : Shape-small g
  pub boundary : t < 65536
  pub count : k < counts
  pub place : cur ≤ place_most
  pub limits : Limits count_limit cost_limit g.grid.base g.grid.levels
  pub before : leads_from o t x k s ≡ true → count_before o t x.kind k < counts
  pub from : x.from < 8
  pub gap : gap_of x.kind ≤ 1023
  pub ready : leads_from o t x k s ≡ true → Ready acc next work (source o t x k cur g) (penalty x.class) g.grid.base g.grid.levels ws

-- the least so far, with the edge, stands at r
pub record TookOne (o : Option Label) (t : ℕ) (x : Edge) (k s cur : ℕ) (g : Shape) (ws ws' : List ℕ) (acc next work r : ℕ) : Type 0 where
  pub place : OneOf acc next r
  pub spared : Spared acc next work g.grid.levels ws ws'
  pub curve : (A B C D : ℕ) (F : ℕ → ℕ) (H : Table) → Limits A B g.grid.base g.grid.levels → D < A → C + penalty_most ≤ B → Curve A B g.grid.base g.grid.levels ws acc F
      → (leads_from o t x k s ≡ true → Curve D C g.grid.base g.grid.levels ws (source o t x k cur g) (H (count_before o t x.kind k) x.from))
      → Curve A B g.grid.base g.grid.levels ws' r (λ (j : ℕ). min (F j) (offered o t x k s g.grid.levels H j))

-- ---- all edges

abbrev pub edge_of : List Edge → ℕ → Edge
edge_of es e = get_or es e no_edge

-- the least that the first n edges offer, an edge with c changes over the table T c
abbrev pub least_offered : Option Label → ℕ → List Edge → ℕ → ℕ → ℕ → ℕ → (ℕ → Table) → ℕ → ℕ
least_offered o t es n k s L T j = min_below n (λ (e : ℕ). offered o t (edge_of es e) k s L (T (change_of (edge_of es e).kind)) j)

-- what is asked before the edges are taken in: first is the least so far, the next ones go to second and first in turn
pub record EdgesReady (o : Option Label) (t : ℕ) (es : List Edge) (n k s cur moved : ℕ) (g : Shape) (first second work : ℕ) (ws : List ℕ) : Type 0 where
  pub small : Shape-small g
  pub boundary : t < 65536
  pub count : k < counts
  pub place : cur ≤ place_most
  pub place_moved : moved ≤ place_most
  pub limits : Limits count_limit cost_limit g.grid.base g.grid.levels
  pub few : n ≤ 32
  pub some : 0 < g.grid.levels
  pub so_far : Sound count_limit cost_limit g.grid.base g.grid.levels ws first
  pub from : (e : ℕ) → e < n → (edge_of es e).from < 8
  pub gap : (e : ℕ) → e < n → gap_of (edge_of es e).kind ≤ 1023
  pub before : (e : ℕ) → e < n → leads_from o t (edge_of es e) k s ≡ true → count_before o t (edge_of es e).kind k < counts
  pub hand : (e : ℕ) → e < n → leads_from o t (edge_of es e) k s ≡ true → Hand first second work (source_of o t (edge_of es e) k cur moved g) g.grid.levels (length ws)
  pub sound : (e : ℕ) → e < n → leads_from o t (edge_of es e) k s ≡ true → Sound (count_limit - 1) (cost_limit - penalty_most) g.grid.base g.grid.levels ws (source_of o t (edge_of es e) k cur moved g)

-- the least over the first n edges stands at r
pub record TookEdges (o : Option Label) (t : ℕ) (es : List Edge) (n k s cur moved : ℕ) (g : Shape) (ws ws' : List ℕ) (first second work r : ℕ) : Type 0 where
  pub place : OneOf first second r
  pub spared : Spared first second work g.grid.levels ws ws'
  pub curve : (A B C D : ℕ) (F : ℕ → ℕ) (T : ℕ → Table) → Limits A B g.grid.base g.grid.levels → D < A → C + penalty_most ≤ B → Curve A B g.grid.base g.grid.levels ws first F
      → ((e : ℕ) → e < n → leads_from o t (edge_of es e) k s ≡ true → Curve D C g.grid.base g.grid.levels ws (source_of o t (edge_of es e) k cur moved g) (T (change_of (edge_of es e).kind) (count_before o t (edge_of es e).kind k) (edge_of es e).from))
      → Curve A B g.grid.base g.grid.levels ws' r (λ (j : ℕ). min (F j) (least_offered o t es n k s g.grid.levels T j))

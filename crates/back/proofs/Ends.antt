-- What the functions that read a list ask and give, for the lists of a layer. Assumes nothing.
use mathlib.Core.Path.{◌≡◌, sym, ◌∙◌, ap, subst}
use mathlib.Core.Logic.{⊎_elim}
use mathlib.Core.List.{List}
use Prim.Native.Nat.{ℕ, ◌+◌, ◌-◌, ◌/◌, ◌≤◌, ◌<◌, min}
use native.Mathlib.Omega.{arith}
use Rattle.plan.specs.declared.Plan.{Plan}
use Rattle.model.specs.Model.{width}
use Rattle.model.specs.Index.{no_cost}
use Rattle.model.specs.Held.{Table, min_below}
use Rattle.model.specs.Ends.{point_at}
use Rattle.integers.specs.Rep.{le_or_lt}
use Rattle.integers.specs.Pairs.{unit}
use Rattle.quadratic.specs.Quad.{none, Fine, count_limit, cost_limit}
use Rattle.curve.specs.declared.Low.{Low}
use Rattle.curve.specs.declared.Rank.{Rank}
use Rattle.curve.specs.Pieces.{piece, Held}
use Rattle.curve.specs.Lows.{low_of, rank_of, costs, Least, LeastIn}
use Rattle.curve.specs.Curve.{curve_fine, curve_most}
use Rattle.edges.specs.Edge.{Sound}
use Rattle.layer.specs.declared.Shape.{Shape}
use Rattle.layer.specs.Layer.{list_at, ShapeOf}
use Rattle.back.specs.Read.{Readable, Reads, min_one_more, min_none_yet}
use Rattle.layer.proofs.Next.{min_ext}

module _ {n cur : ℕ} {g : Shape} {ws : List ℕ} (a : Readable n cur g ws) (k s : ℕ) (hk : k < n) (hs : s < g.states) (f : ℕ) (ef : f ≡ list_at cur g.states g.grid.levels k s) where
  pub held : Held ws f g.grid.levels
  held = subst (λ (o : ℕ). Held ws o g.grid.levels) (sym ef) (a.list k s hk hs).held

  pub fine : (j : ℕ) → j < g.grid.levels → Fine count_limit cost_limit (piece ws f g.grid.levels j) (g.grid.base + j)
  fine = subst (λ (o : ℕ). (j : ℕ) → j < g.grid.levels → Fine count_limit cost_limit (piece ws o g.grid.levels j) (g.grid.base + j)) (sym ef) (curve_fine a.bounds (a.list k s hk hs))

  pub sound : Sound count_limit cost_limit g.grid.base g.grid.levels ws f
  sound = subst (λ (o : ℕ). Sound count_limit cost_limit g.grid.base g.grid.levels ws o) (sym ef) (a.list k s hk hs)

  module _ {H : Table} (r : Reads n cur g ws H) where
    cost_is : (j : ℕ) → j < g.grid.levels → costs g.grid.base (piece ws f g.grid.levels) j ≡ H k s j
    cost_is j h = ap (λ (o : ℕ). costs g.grid.base (piece ws o g.grid.levels) j) ef ∙ r.at k s j hk hs h

    cost_most : (j : ℕ) → j < g.grid.levels → H k s j ≤ no_cost
    cost_most j h = omega (arith, r.at k s j hk hs h, curve_most a.bounds (a.list k s hk hs) j h)

    module _ (P : Plan) (e : ShapeOf P g) where
      pub least_all : {low : Low} → LeastIn (costs g.grid.base (piece ws f g.grid.levels)) 0 (g.grid.levels - 1) low → Least (H k s) 0 (width P - 1) low
      least_all {low} l =
          let m = l.some (omega arith) in
          let n = a.some in
          record {
            low = m.low;
            high = omega (arith, m.high, e.levels);
            is = m.is ∙ cost_is low.level (omega (arith, m.high));
            least = λ i p q. omega (arith, m.least i p (omega (arith, e.levels)), cost_is i (omega (arith, e.levels)));
            first = λ i p q. omega (arith, m.first i p q, cost_is i (omega (arith, m.high)));
          }

      pub least_most : {low : Low} → Least (H k s) 0 (width P - 1) low → low_of low ≤ no_cost
      least_most {low} l = let n = a.some in omega (arith, l.is, cost_most low.level (omega (arith, l.high, e.levels)))

-- ---- the cost at a point, count by count

-- the least over the first n counts of what the lists cost at state s and index j
abbrev pub point_to : ℕ → Shape → List ℕ → ℕ → ℕ → ℕ → ℕ
point_to cur g ws s j n = min_below n (λ (k : ℕ). costs g.grid.base (piece ws (list_at cur g.states g.grid.levels k s) g.grid.levels) j)

pub point_none : (cur : ℕ) (g : Shape) (ws : List ℕ) (s j : ℕ) → none ≡ point_to cur g ws s j 0 / unit
point_none cur g ws s j = omega (arith, min_none_yet (λ (k : ℕ). costs g.grid.base (piece ws (list_at cur g.states g.grid.levels k s) g.grid.levels) j))

-- the cost of the lesser is the lesser cost
min_cost : (x y : ℕ) → min (x / unit) (y / unit) ≡ min x y / unit
min_cost x y = ⊎_elim
    (λ h. let e : min x y ≡ x = omega arith in rw e (omega arith))
    (λ h. let e : min x y ≡ y = omega arith in rw e (omega arith))
    (le_or_lt x y)

pub point_more : (cur : ℕ) (g : Shape) (ws : List ℕ) (s j n best f : ℕ) (v : Rank) (r : ℕ) → best ≡ point_to cur g ws s j n / unit → f ≡ list_at cur g.states g.grid.levels n s
    → rank_of v ≡ costs g.grid.base (piece ws f g.grid.levels) j → v.changes ≤ count_limit → r ≡ min best v.value → r ≡ point_to cur g ws s j (n + 1) / unit
point_more cur g ws s j n best f v r eb ef ev hv er =
    let here : ℕ = costs g.grid.base (piece ws (list_at cur g.states g.grid.levels n s) g.grid.levels) j in
    let w : rank_of v ≡ here = ev ∙ ap (λ (o : ℕ). costs g.grid.base (piece ws o g.grid.levels) j) ef in
    let c : v.value ≡ here / unit = omega arith in
    er ∙ ap (λ (x : ℕ). min x v.value) eb ∙ ap (min (point_to cur g ws s j n / unit)) c ∙ min_cost (point_to cur g ws s j n) here ∙ ap (λ (x : ℕ). x / unit) (sym (min_one_more n _))

pub point_all : {n cur : ℕ} {g : Shape} {ws : List ℕ} {H : Table} (s j m best : ℕ) → Reads n cur g ws H → s < g.states → j < g.grid.levels → m ≡ n → best ≡ point_to cur g ws s j m / unit → best ≡ point_at n H s j / unit
unfolding point_at
point_all {n} {cur} {g} {ws} {H} s j m best r hs hj e b =
    b ∙ ap (λ (x : ℕ). point_to cur g ws s j x / unit) e ∙ ap (λ (x : ℕ). x / unit) (min_ext n _ _ (λ k hk. r.at k s j hk hs hj))

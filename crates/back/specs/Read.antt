-- A layer that is read: what its lists cost, and its cheapest end. Assumes nothing.
use Rattle.std.specs.Prelude.{◌≡◌, List, true, false, ℕ, zero, suc, ◌+◌, ◌-◌, ◌*◌, ◌≤◌, ◌<◌, min, ℤ}
use Rattle.std.proofs.Math.Path.{refl, sym}
use Rattle.std.proofs.Common.{◌∙◌, ap, subst, mul-le-mul_right}
use Rattle.std.proofs.Math.Logic.{inl, inr, ⊎_elim}
use native.Mathlib.Omega.{arith}
use Rattle.integers.specs.Rep.{le_or_lt}
use Rattle.quadratic.specs.Quad.{none, count_limit, cost_limit}
use Rattle.plan.specs.declared.Plan.{Plan}
use Rattle.model.specs.Model.{width, in_set}
use Rattle.model.specs.Labels.{label_on, counts, used_at}
use Rattle.model.proofs.Labels.{used_most}
use Rattle.model.specs.Least.{Upto}
use Rattle.model.specs.Index.{no_cost}
use Rattle.model.specs.Held.{Table, min_below}
use Rattle.model.proofs.Held.{min_none}
use Rattle.model.specs.Ends.{end_at}
use Rattle.curve.specs.declared.Low.{Low}
use Rattle.curve.specs.Pieces.{piece}
use Rattle.curve.specs.Lows.{low_of, costs, Least}
use Rattle.curve.specs.Curve.{Curve, Limits, curve_costs, curve_wider}
use Rattle.edges.specs.Edge.{Sound}
use Rattle.layer.specs.declared.Shape.{Shape}
use Rattle.layer.specs.Layer.{reading_most, count_most, place_most, list_at, Shape-small, LayerOf}
use Rattle.layer.specs.Next.{Task}
use Rattle.layer.proofs.Next.{to_shape, limits, shape_small, some_levels}
use Rattle.back.specs.declared.End.{End}

-- the lists of the first n counts of the layer at cur may be read
pub record Readable (n cur : ℕ) (g : Shape) (ws : List ℕ) : Type 0 where
  pub few : n ≤ counts
  pub small : Shape-small g
  pub some : 0 < g.grid.levels
  pub place : cur ≤ place_most
  pub bounds : Limits count_limit cost_limit g.grid.base g.grid.levels
  pub list : (k s : ℕ) → k < n → s < g.states → Sound count_limit cost_limit g.grid.base g.grid.levels ws (list_at cur g.states g.grid.levels k s)

-- and their values are H
pub record Reads (n cur : ℕ) (g : Shape) (ws : List ℕ) (H : Table) : Type 0 where
  pub at : (k s j : ℕ) → k < n → s < g.states → j < g.grid.levels → costs g.grid.base (piece ws (list_at cur g.states g.grid.levels k s) g.grid.levels) j ≡ H k s j

-- the least over the ends in the states below n
abbrev pub ends_below : Plan → Table → ℕ → ℕ
ends_below P H n = min_below n (λ (s : ℕ). min_below (width P) (λ (j : ℕ). end_at P H s j))

-- its value: the cost with its changes, as one number
abbrev pub end_of : End → ℕ
end_of r = low_of r.low

-- the cheapest end in the states below n: fewest changes, then lowest state, then lowest level
pub record EndTo (P : Plan) (H : Table) (n : ℕ) (r : End) : Type 0 where
  pub is : end_of r ≡ ends_below P H n
  pub state : end_of r < no_cost → r.state < n
  pub level : end_of r < no_cost → r.low.level < width P
  pub met : end_of r < no_cost → end_at P H r.state r.low.level ≡ end_of r
  pub lowest : end_of r < no_cost → (s j : ℕ) → s < n → j < width P → end_at P H s j ≡ end_of r → Upto r.state r.low.level s j
  pub nowhere : no_cost ≤ end_of r → (r.state ≡ 0) × (r.low.level ≡ 0)

-- ---- the model's least

pub min_least : (n : ℕ) (f : ℕ → ℕ) (i : ℕ) → i < n → min_below n f ≤ f i
unfolding min_below
min_least zero f i h = absurd (omega arith)
min_least (suc n) f i h = ⊎_elim (λ (p : n ≤ i). let e : i ≡ n = omega arith in rw e (omega arith)) (λ (p : i < n). omega (arith, min_least n f i p)) (le_or_lt n i)

pub min_of : (n : ℕ) (f : ℕ → ℕ) (v : ℕ) → v ≤ no_cost → ((i : ℕ) → i < n → v ≤ f i) → v ≤ min_below n f
unfolding min_below
min_of zero f v h low = h
min_of (suc n) f v h low = omega (arith, min_of n f v h (λ i k. low i (omega arith)), low n (omega arith))

-- a value that one has and none is below
pub min_is : (n : ℕ) (f : ℕ → ℕ) (i : ℕ) → i < n → f i ≤ no_cost → ((j : ℕ) → j < n → f i ≤ f j) → min_below n f ≡ f i
min_is n f i h k low = omega (arith, min_least n f i h, min_of n f (f i) k low)

pub min_all_none : (n : ℕ) (f : ℕ → ℕ) → ((i : ℕ) → i < n → f i ≡ no_cost) → min_below n f ≡ no_cost
min_all_none n f h = omega (arith, min_none n f, min_of n f no_cost (omega arith) (λ i k. omega (arith, h i k)))

pub min_one_more : (n : ℕ) (f : ℕ → ℕ) → min_below (n + 1) f ≡ min (min_below n f) (f n)
unfolding min_below
min_one_more n f = let e : n + 1 ≡ suc n = omega arith in rw e refl

pub min_none_yet : (f : ℕ → ℕ) → min_below 0 f ≡ no_cost
unfolding min_below
min_none_yet f = refl

-- ---- ends, state by state

module _ {P : Plan} {H : Table} {s : ℕ} {best : End} (a : EndTo P H s best) where
  -- a state outside the end set
  pub end_skipped : in_set P.end s ≡ false → EndTo P H (s + 1) best
  unfolding end_at
  end_skipped e =
      let none_here : min_below (width P) (λ (j : ℕ). end_at P H s j) ≡ no_cost = min_all_none (width P) _ (λ j h. rw e refl) in
      record {
        is = omega (arith, a.is, min_one_more s (λ (s : ℕ). min_below (width P) (λ (j : ℕ). end_at P H s j)), none_here, min_none s (λ (s : ℕ). min_below (width P) (λ (j : ℕ). end_at P H s j)));
        state = λ h. omega (arith, a.state h);
        level = a.level;
        met = a.met;
        lowest = λ h s' j' hs hj q. ⊎_elim (λ p. inl (omega (arith, a.state h))) (λ p. a.lowest h s' j' p hj q) (le_or_lt s s');
        nowhere = a.nowhere;
      }

  module _ (e : in_set P.end s ≡ true) (low : Low) (l : Least (H 0 s) 0 (width P - 1) low) (high : low_of low ≤ no_cost) where
    here : (j : ℕ) → end_at P H s j ≡ H 0 s j
    unfolding end_at
    here j = rw e refl

    inside : low.level < width P
    unfolding width
    inside = omega (arith, l.high)

    least_here : min_below (width P) (λ (j : ℕ). end_at P H s j) ≡ low_of low
    unfolding width
    least_here =
        min_is (width P) (λ (j : ℕ). end_at P H s j) low.level inside (omega (arith, here low.level, l.is)) (λ j h. omega (arith, here low.level, here j, l.is, l.least j (omega arith) (omega arith)))
        ∙ here low.level ∙ sym l.is

    more : ends_below P H (s + 1) ≡ min (ends_below P H s) (low_of low)
    more = min_one_more s (λ (s : ℕ). min_below (width P) (λ (j : ℕ). end_at P H s j)) ∙ ap (min (ends_below P H s)) least_here

    -- it is better
    pub end_better : low_of low < end_of best → EndTo P H (s + 1) (record { low = low; state = s })
    unfolding width
    end_better h = record {
      is = omega (arith, more, a.is);
      state = λ k. omega arith;
      level = λ k. inside;
      met = λ k. here low.level ∙ sym l.is;
      lowest = λ k s' j' hs hj q. ⊎_elim
          (λ p. let z : s' ≡ s = omega arith in inr (sym z, later j' hj (ap (λ (x : ℕ). end_at P H x j') (sym z) ∙ q)))
          (λ p. absurd (omega (arith, a.is, q, min_least s (λ (s : ℕ). min_below (width P) (λ (j : ℕ). end_at P H s j)) s' p, min_least (width P) (λ (j : ℕ). end_at P H s' j) j' hj)))
          (le_or_lt s s');
      nowhere = λ k. absurd (omega (arith, a.is, min_none s (λ (s : ℕ). min_below (width P) (λ (j : ℕ). end_at P H s j))));
    }
      where
        later : (j : ℕ) → j < width P → end_at P H s j ≡ low_of low → low.level ≤ j
        later j hj q = ⊎_elim (λ p. p) (λ p. absurd (omega (arith, l.first j (omega arith) p, here j, q))) (le_or_lt low.level j)

    -- it is not
    pub end_kept : end_of best ≤ low_of low → EndTo P H (s + 1) best
    end_kept h = record {
      is = omega (arith, more, a.is);
      state = λ k. omega (arith, a.state k);
      level = a.level;
      met = a.met;
      lowest = λ k s' j' hs hj q. ⊎_elim (λ p. inl (omega (arith, a.state k))) (λ p. a.lowest k s' j' p hj q) (le_or_lt s s');
      nowhere = a.nowhere;
    }

pub end_none : (P : Plan) (H : Table) → EndTo P H 0 (record { low = record { rank = record { value = none; changes = 0 }; level = 0 }; state = 0 })
unfolding min_below
end_none P H = record {
  is = refl;
  state = λ h. absurd (omega arith);
  level = λ h. absurd (omega arith);
  met = λ h. absurd (omega arith);
  lowest = λ h s j hs hj q. absurd (omega arith);
  nowhere = λ h. (refl, refl);
}

pub end_all : {P : Plan} {H : Table} {n m : ℕ} {r : End} → n ≡ m → EndTo P H n r → EndTo P H m r
end_all {P} {H} {n} {m} {r} e a = subst (λ (x : ℕ). EndTo P H x r) e a

-- ---- a layer may be read

module _ {P : Plan} {zs : List ℤ} {g : Shape} (a : Task P zs g) {t cur : ℕ} {H : Table} {ws : List ℕ} (l : LayerOf P t H ws cur) where
  list_here : (k s : ℕ) → k < used_at P t → s < g.states → Curve (t * count_most) (t * reading_most) g.grid.base g.grid.levels ws (list_at cur g.states g.grid.levels k s) (H k s)
  list_here k s hk hs = to_shape a.shape (rw (a.shape.states, a.shape.levels) (l.list k s hk (omega (arith, a.shape.states))))

  pub layer_reads : Reads (used_at P t) cur g ws H
  layer_reads = record { at = λ k s j hk hs hj. ((list_here k s hk hs).at j hj).is }

  pub layer_readable : cur ≤ place_most → t ≤ 4096 → Readable (used_at P t) cur g ws
  layer_readable h few = record {
    few = used_most (label_on P t);
    small = shape_small a;
    some = some_levels a;
    place = h;
    bounds = limits a count_limit cost_limit (omega arith) (omega arith);
    list = λ k s hk hs. curve_costs (curve_wider count_limit cost_limit (omega arith) (omega (arith, mul-le-mul_right reading_most few)) (list_here k s hk hs));
  }

-- fewer counts of it
module _ {m n cur : ℕ} {g : Shape} {ws : List ℕ} (h : m ≤ n) where
  pub readable_fewer : Readable n cur g ws → Readable m cur g ws
  readable_fewer a = record { few = omega (arith, a.few); small = a.small; some = a.some; place = a.place; bounds = a.bounds; list = λ k s hk. a.list k s (omega arith) }

  pub reads_fewer : {H : Table} → Reads n cur g ws H → Reads m cur g ws H
  reads_fewer r = record { at = λ k s j hk. r.at k s j (omega arith) }

-- One list of the next layer: the least over the edges, then the loss. Assumes nothing.
use mathlib.Core.Path.{◌≡◌, refl, sym, ◌∙◌, ap, subst}
use mathlib.Core.List.{List}
use mathlib.Core.Option.{Option}
use mathlib.Core.Logic.{◌⊎◌, inl, inr, ⊎_elim}
use mathlib.Core.Bool.{Bool, true, false, ◌&&◌, cond}
use borrow.Author.Tests.{eq-eqb}
use lib.Dec.{eqb, ltb, T}
use Prim.Native.Nat.{ℕ, zero, suc, ◌+◌, ◌-◌, ◌*◌, ◌^◌, ◌≤◌, ◌<◌, min}
use native.Mathlib.Omega.{arith}
use native.Mathlib.Nat.{mul-le-mul_right}
use lib.IntN.{ℤ, pos, ◌+ℤ◌}
use lib.ListN.{length, get_or}
use lib.Signed.{mag, non_neg, yes_non_neg, pos-nat_abs}
use mir.Facts.{to_z-of_z}
use mir.Syntax.{w16}
use mir.Val.{SFits, to_z, of_z, hbits}
use Rattle.plan.specs.declared.Plan.{Plan}
use Rattle.plan.specs.declared.Label.{Label}
use Rattle.plan.specs.declared.Kind.{Kind}
use Rattle.plan.specs.declared.Kind.TheVariants.{Stay, Any, Up, Down, Abs}
use Rattle.integers.specs.Rep.{iz, nz, ◌⊕◌, eq_n, le_z_of, sfits_n}
use Rattle.model.specs.Model.{width, above, edge_at, change_of, on_grid, loss_at, in_set}
use Rattle.model.proofs.Grid.{above_add}
use Rattle.model.specs.Labels.{label_on, counts, used_at, count_before}
use Rattle.model.proofs.Labels.{used_most}
use Rattle.model.specs.Held.{from_count}
use Rattle.model.proofs.Held.{leads_used}
use Rattle.model.specs.Index.{no_cost}
use Rattle.model.specs.Held.{raise, penalty_most, Table, min_below, by_edge, leads_at, first_table, next_from, next_table}
use Rattle.model.proofs.Held.{min_none}
use Rattle.model.specs.Ends.{loss_most, table_at}
use Rattle.model.proofs.Ends.{losses_low}
use Rattle.labels.specs.Boundary.{leads_from, leads_at_lem}
use Rattle.integers.specs.Pairs.{unit, lex}
use Rattle.quadratic.specs.Quad.{none, no_value, flat, absent, count_limit, cost_limit}
use Rattle.quadratic.specs.Fine.{far}
use Rattle.curve.specs.Pieces.{Made, Apart}
use Rattle.curve.specs.Lows.{levelled_is}
use Rattle.curve.specs.Curve.{Curve, Limits, Bounded, curve_as, curve_kept, curve_costs, curve_wider, curve_flat, near}
use Rattle.edges.specs.Edge.{Sound, Off, WithLoss, loss_place}
use Rattle.layer.specs.declared.Shape.{Shape}
use Rattle.layer.specs.Layer.{temp_words, reading_most, count_most, base_of, list_at, layer_words, Shape-small, ShapeOf, from_place, LayerOf, Sources}
use Rattle.layer.specs.Step.{source_of, offered_by, edge_of, least_offered, EdgesReady, TookEdges}
use Rattle.layer.specs.Next.{Task, Beside, NextReady, NextList, FirstReady, first_cost}

-- a list lies within its layer
pub list_within : (o S L k s : ℕ) → k < counts → s < S → (o ≤ list_at o S L k s) × (list_at o S L k s + 4 * L ≤ o + 4 * counts * (S * L))
unfolding list_at
list_within o S L k s hk hs =
    let c : suc k * S ≤ counts * S = mul-le-mul_right S hk in
    let h : suc (k * S + s) ≤ counts * S = omega arith in
    (omega arith, omega (arith, mul-le-mul_right (4 * L) h))

-- the table of one reading more
pub table_next : (P : Plan) (zs : List ℤ) (t : ℕ) → 1 ≤ t → next_table P zs t (table_at P zs t) ≡ table_at P zs (suc t)
unfolding table_at
table_next P zs zero h = absurd (omega arith)
table_next P zs (suc t) h = refl

pub min_ext : (n : ℕ) (f g : ℕ → ℕ) → ((i : ℕ) → i < n → f i ≡ g i) → min_below n f ≡ min_below n g
unfolding min_below
min_ext zero f g h = refl
min_ext (suc n) f g h = rw (min_ext n f g (λ i k. h i (omega arith)), h n (omega arith)) refl

-- the plan's shape, in a curve
module _ {P : Plan} {g : Shape} (e : ShapeOf P g) {A B o : ℕ} {ws : List ℕ} {F : ℕ → ℕ} where
  pub to_shape : Curve A B (base_of P) (width P) ws o F → Curve A B g.grid.base g.grid.levels ws o F
  to_shape c = rw (e.base, e.levels) c

  pub of_shape : Curve A B g.grid.base g.grid.levels ws o F → Curve A B (base_of P) (width P) ws o F
  of_shape c = rw (← e.base, ← e.levels) c

module _ {P : Plan} {zs : List ℤ} {g : Shape} (a : Task P zs g) where
  abbrev lo_fits : SFits w16 P.lo
  lo_fits = record { sfits = a.ready.lo_16 }

  abbrev hi_fits : SFits w16 P.hi
  hi_fits = record { sfits = a.ready.hi_16 }

  -- the place of the lowest level, and those of all levels
  pub lowest_place_lem : pos (base_of P) ≡ P.lo +ℤ pos 163840
  unfolding base_of
  lowest_place_lem =
      let b = sfits_n w16 (iz P.lo) lo_fits in
      let known : T (non_neg (P.lo +ℤ pos 163840)) = yes_non_neg (le_z_of (nz 0) (iz P.lo ⊕ nz 163840) (omega arith)) in
      pos-nat_abs (P.lo +ℤ pos 163840) known

  pub places_from : 131072 ≤ base_of P
  places_from = let b = sfits_n w16 (iz P.lo) lo_fits in omega (arith, eq_n (nz (base_of P)) (iz P.lo ⊕ nz 163840) lowest_place_lem)

  pub places_to : base_of P + width P ≤ 196608
  unfolding width
  places_to =
      let b = sfits_n w16 (iz P.hi) hi_fits in
      omega (arith, eq_n (nz (base_of P)) (iz P.lo ⊕ nz 163840) lowest_place_lem, eq_n (iz P.lo ⊕ nz (above P.lo P.hi)) (iz P.hi) (above_add P.lo P.hi a.ready.plan.grid))

  -- no reading costs more on the grid
  pub losses : (t : ℕ) (m : ℤ) → on_grid P m ≡ true → loss_at zs t m ≤ loss_most
  losses = losses_low P zs a.ready.lo_16 a.ready.hi_16 a.ready.readings_16

  pub some_levels : 0 < g.grid.levels
  unfolding width
  some_levels = omega (arith, a.shape.levels)

  pub shape_small : Shape-small g
  shape_small = record { states = omega (arith, a.shape.states, a.ready.plan.few_states); levels = omega (arith, a.shape.levels, a.ready.plan.narrow) }

  pub limits : (A B : ℕ) → A ≤ count_limit → B ≤ cost_limit → Limits A B g.grid.base g.grid.levels
  limits A B h k = record { readings = h; cost = k; low = omega (arith, a.shape.base, places_from); high = omega (arith, a.shape.base, a.shape.levels, places_to) }

  -- a count that is used
  pub used_low : (t : ℕ) {k : ℕ} → k < used_at P t → k < counts
  used_low t h = omega (arith, used_most (label_on P t))

  -- a list's place, by the shape
  pub list_is : (o k s : ℕ) {d : ℕ} → d ≡ list_at o g.states g.grid.levels k s → d ≡ list_at o P.states (width P) k s
  list_is o k s e = e ∙ ap (λ (x : ℕ). list_at o x g.grid.levels k s) a.shape.states ∙ ap (λ (x : ℕ). list_at o P.states x k s) a.shape.levels

  -- the base is the place of the lowest level
  pub base_place : pos g.grid.base ≡ P.lo +ℤ pos 163840
  base_place = rw a.shape.base lowest_place_lem

-- a reading is read back as itself
pub reading_is : (z : ℤ) (u : ℕ) → mag z < 2 ^ hbits w16 → pos u ≡ to_z w16 (of_z w16 z) +ℤ pos 163840 → pos u ≡ z +ℤ pos 163840
reading_is z u h e = let f : SFits w16 z = record { sfits = h } in rw (to_z-of_z f) at e

-- the layer that an edge comes from
pub source_layer : {P : Plan} {t : ℕ} {T : ℕ → Table} {ws : List ℕ} {cur moved : ℕ} → Sources P t T ws cur moved → (x : Kind) → LayerOf P t (T (change_of x)) ws (from_place (change_of x) cur moved)
unfolding change_of from_place
source_layer m Stay = m.stays
source_layer m Any = m.changes
source_layer m (Up gap) = m.changes
source_layer m (Down gap) = m.changes
source_layer m (Abs gap) = m.changes

module _ {P : Plan} {zs : List ℤ} {o : Option Label} {t cur moved dst free k s : ℕ} {g : Shape} {ws : List ℕ} (a : NextReady P zs o t cur moved dst free k s g ws) where
  abbrev size : ℕ
  size = 4 * g.grid.levels

  few : t < 4096
  few = omega (arith, a.more, a.task.ready.few_readings)

  led : (e : ℕ) → leads_from o t (edge_of P.edges e) k s ≡ true → leads_at P t e k s ≡ true
  led e l = sym (leads_at_lem P t e k s) ∙ subst (λ (x : Option Label). leads_from x t (edge_at P e) k s ≡ true) a.on l

  before_used : (e : ℕ) → leads_from o t (edge_of P.edges e) k s ≡ true → count_before o t (edge_at P e).kind k < used_at P t
  unfolding from_count
  before_used e l = subst (λ (x : Option Label). count_before x t (edge_at P e).kind k < used_at P t) (sym a.on) (leads_used P t e k s (led e l))

  before_low : (e : ℕ) → leads_from o t (edge_of P.edges e) k s ≡ true → count_before o t (edge_at P e).kind k < counts
  before_low e l = used_low a.task t (before_used e l)

  -- where an edge comes from
  abbrev place : ℕ → ℕ
  place e = from_place (change_of (edge_at P e).kind) cur moved

  place_below : (e : ℕ) → place e + layer_words P ≤ free
  unfolding from_place
  place_below e = from_one (change_of (edge_at P e).kind)
    where
      from_one : (c : ℕ) → from_place c cur moved + layer_words P ≤ free
      from_one zero = a.below
      from_one (suc c) = a.moved_below

  source_below : (e : ℕ) → e < P.edgecount → leads_from o t (edge_of P.edges e) k s ≡ true → source_of o t (edge_of P.edges e) k cur moved g + size ≤ free
  source_below e h l =
      let w = list_within (place e) P.states (width P) (count_before o t (edge_at P e).kind k) (edge_at P e).from (before_low e l) (a.task.ready.plan.edge e h).from_below in
      rw (a.task.shape.states, a.task.shape.levels) (omega (arith, w, place_below e))

  most_cost : t * reading_most ≤ cost_limit - penalty_most
  most_cost = omega (arith, mul-le-mul_right reading_most few)

  module _ (T : ℕ → Table) (m : Sources P t T ws cur moved) where
    -- the list that an edge comes from, and what it costs
    source_list : (e : ℕ) → e < P.edgecount → leads_from o t (edge_of P.edges e) k s ≡ true
        → Curve (t * count_most) (t * reading_most) g.grid.base g.grid.levels ws (source_of o t (edge_of P.edges e) k cur moved g) (T (change_of (edge_at P e).kind) (count_before o t (edge_at P e).kind k) (edge_at P e).from)
    source_list e h l =
        to_shape a.task.shape
        (rw (a.task.shape.states, a.task.shape.levels) ((source_layer m (edge_at P e).kind).list (count_before o t (edge_at P e).kind k) (edge_at P e).from (before_used e l) (a.task.ready.plan.edge e h).from_below))

    source_kept : {w1 : List ℕ} → Made (λ (j : ℕ). absent) ws w1 free g.grid.levels → (e : ℕ) → e < P.edgecount → leads_from o t (edge_of P.edges e) k s ≡ true
        → Curve (t * count_most) (t * reading_most) g.grid.base g.grid.levels w1 (source_of o t (edge_of P.edges e) k cur moved g) (T (change_of (edge_at P e).kind) (count_before o t (edge_at P e).kind k) (edge_at P e).from)
    source_kept m1 e h l = let c = source_list e h l in curve_kept m1.kept c (near free c (inl (source_below e h l)))

  module _ {w1 : List ℕ} (m1 : Made (λ (j : ℕ). absent) ws w1 free g.grid.levels) where
    room_now : free + 3 * size ≤ length w1
    room_now = omega (arith, m1.kept.size, a.room, a.task.shape.levels)

    acc_none : {A B : ℕ} → Curve A B g.grid.base g.grid.levels w1 free (λ (j : ℕ). no_value)
    acc_none = curve_flat (inl refl) (omega (arith, a.room, a.task.shape.levels)) m1

    pub edges_ready : EdgesReady o t P.edges P.edgecount k s cur moved g free (free + size) (free + 2 * size) w1
    edges_ready = record {
      small = shape_small a.task;
      boundary = omega (arith, few);
      count = a.count;
      place = omega (arith, a.below, a.place);
      place_moved = omega (arith, a.moved_below, a.place);
      limits = limits a.task count_limit cost_limit (omega arith) (omega arith);
      few = a.task.ready.plan.few_edges;
      some = some_levels a.task;
      so_far = curve_costs acc_none;
      from = λ e h. omega (arith, (a.task.ready.plan.edge e h).from_below, a.task.ready.plan.few_states);
      gap = λ e h. (a.task.ready.plan.edge e h).gap_low;
      before = λ e h l. before_low e l;
      hand = λ e h l. let b = source_below e h l in record {
        into = record { f_next = inl (omega arith); f_work = inl (omega arith); next_work = inl (omega arith); room_next = omega (arith, room_now); room_work = omega (arith, room_now) };
        acc_next = inl (omega arith);
        acc_work = inl (omega arith);
        f_acc = inl b;
        room_acc = omega (arith, room_now);
      };
      sound = λ e h l. curve_costs (curve_wider (count_limit - 1) (cost_limit - penalty_most) (omega (arith, few)) most_cost (source_kept a.tables a.sources m1 e h l));
    }

    module _ {w2 : List ℕ} {r : ℕ} (m2 : TookEdges o t P.edges P.edgecount k s cur moved g w1 w2 free (free + size) (free + 2 * size) r) where
      -- the least over the edges
      acc_least : (T : ℕ → Table) → Sources P t T ws cur moved
          → Curve (t * count_most + 1) (t * reading_most + penalty_most) g.grid.base g.grid.levels w2 r (λ (j : ℕ). min no_value (least_offered o t P.edges P.edgecount k s g.grid.levels T j))
      acc_least T m =
          m2.curve (t * count_most + 1) (t * reading_most + penalty_most) (t * reading_most) (t * count_most) (λ (j : ℕ). no_value) T (limits a.task _ _ (omega (arith, few)) (omega (arith, most_cost))) (omega arith) (omega arith) acc_none
          (λ e h l. source_kept T m m1 e h l)

      dst_apart : Apart r dst (4 * g.grid.levels)
      dst_apart = inr (⊎_elim (λ e. omega (arith, a.under, a.task.shape.levels)) (λ e. omega (arith, a.under, a.task.shape.levels)) m2.place)

      dst_room : dst + 4 * g.grid.levels ≤ length w2
      dst_room = omega (arith, a.under, a.task.shape.levels, a.room, m1.kept.size, m2.spared.size)

      acc_sound : Sound count_limit cost_limit g.grid.base g.grid.levels w2 r
      acc_sound = curve_costs (curve_wider count_limit cost_limit (omega (arith, few)) (omega (arith, most_cost)) (acc_least a.tables a.sources))

      pub reading_ready : {u : ℕ} → (131072 ≤ u) × (u < 196608)
          → ((Apart r dst (4 * g.grid.levels) × (dst + 4 * g.grid.levels ≤ length w2)) × ((((131072 ≤ u) × (u < 196608)) × ((1 < 256) × (g.grid.base + g.grid.levels ≤ 196608))) × (Limits count_limit cost_limit g.grid.base g.grid.levels × Sound count_limit cost_limit g.grid.base g.grid.levels w2 r)))
      reading_ready h =
          ((dst_apart, dst_room), ((h, (omega arith, omega (arith, a.task.shape.base, a.task.shape.levels, places_to a.task))), (limits a.task count_limit cost_limit (omega arith) (omega arith), acc_sound)))

      module _ (u : ℕ) (at : pos u ≡ get_or zs t (pos 0) +ℤ pos 163840) {w3 : List ℕ} (m3 : WithLoss 1 u g.grid.base g.grid.levels w2 w3 r dst) where
        value_is : (T : ℕ → Table) (j : ℕ) → raise (min no_value (least_offered o t P.edges P.edgecount k s g.grid.levels T j)) (unit * (1 * (far u (g.grid.base + j) * far u (g.grid.base + j)))) ≡ next_from P zs t T k s j
        unfolding next_from
        value_is T j =
            let L = a.task.shape.levels in
            let f : ℕ → ℕ = λ (e : ℕ). by_edge P t (T (change_of (edge_at P e).kind)) k s j e in
            let x : least_offered o t P.edges P.edgecount k s g.grid.levels T j ≡ min_below P.edgecount f =
            min_ext P.edgecount _ _ (λ e h. rw (L, a.on) (offered_by P t (T (change_of (edge_at P e).kind)) k s j e)) in
            let y : min no_value (least_offered o t P.edges P.edgecount k s g.grid.levels T j) ≡ min_below P.edgecount f = omega (arith, x, min_none P.edgecount f) in
            let z : 1 * (far u (g.grid.base + j) * far u (g.grid.base + j)) ≡ loss_at zs t (P.lo +ℤ pos j) = omega (arith, loss_place zs t P.lo u g.grid.base at (base_place a.task) j) in
            rw (y, z) refl

        next_curve : (T : ℕ → Table) → Sources P t T ws cur moved → Curve (suc t * count_most) (suc t * reading_most) (base_of P) (width P) w3 dst (next_from P zs t T k s)
        next_curve T m =
            of_shape a.task.shape
            (curve_wider (suc t * count_most) (suc t * reading_most) (omega arith) (omega arith)
            (curve_as (next_from P zs t T k s) (λ j h. value_is T j)
            (m3.curve (t * count_most + 1) (t * reading_most + penalty_most) _ (limits a.task _ _ (omega (arith, few)) (omega (arith, most_cost))) (acc_least T m))))

        besides : Beside dst free (width P) ws w3
        besides = record { size = m3.kept.size ∙ m2.spared.size ∙ m1.kept.size; word = word }
          where
            off : (i d : ℕ) → free ≤ d → d + size ≤ free + temp_words (width P) → (i < free) ⊎ (free + temp_words (width P) ≤ i) → Off d g.grid.levels i
            off i d h l = ⊎_elim (λ p. inl (omega arith)) (λ p. inr (omega arith))

            word : (i : ℕ) → Off dst (width P) i → (i < free) ⊎ (free + temp_words (width P) ≤ i) → get_or w3 i 0 ≡ get_or ws i 0
            word i p q =
                let L = a.task.shape.levels in
                ⊎_elim (λ x. m3.kept.before i x) (λ x. m3.kept.after i (omega arith)) p
                ∙ m2.spared.word i (off i free (omega arith) (omega arith) q) (off i (free + size) (omega arith) (omega arith) q) (off i (free + 2 * size) (omega arith) (omega arith) q)
                ∙ ⊎_elim (λ x. m1.kept.before i x) (λ x. m1.kept.after i (omega arith)) q

        pub next_list : (T : ℕ → Table) → Sources P t T ws cur moved → NextList P t (next_from P zs t T) dst free k s ws w3
        next_list T m = record { beside = besides; list = next_curve T m }

-- ---- the first layer

pub first_in_lem : (P : Plan) (k s : ℕ) → in_set P.start s ≡ true → k ≡ 0 → 0 ≡ first_cost P k s
unfolding first_cost
first_in_lem P k s e h = rw (eq-eqb k 0 h, e) refl

module _ {P : Plan} {zs : List ℤ} {dst free k s : ℕ} {g : Shape} {ws : List ℕ} (a : FirstReady P zs dst free k s g ws) (c : ℕ) (is : c ≡ first_cost P k s) {w1 : List ℕ} (m1 : Made (λ (j : ℕ). flat c 0) ws w1 free g.grid.levels) where
  acc_first : Curve 0 1 g.grid.base g.grid.levels w1 free (λ (j : ℕ). lex c 0)
  unfolding first_cost
  acc_first =
      curve_flat (go (in_set P.start s && eqb k 0) is) (omega (arith, a.room, a.task.shape.levels)) (record { kept = m1.kept; formed = m1.formed; is = λ j h. m1.is j h ∙ sym (levelled_is c 0 (omega arith)) })
    where
      go : (b : Bool) → c ≡ cond b 0 none → Bounded 0 1 (lex c 0)
      go true e = inr (omega arith, omega arith)
      go false e = inl (omega arith)

  pub first_ready : {u : ℕ} → (131072 ≤ u) × (u < 196608)
      → ((Apart free dst (4 * g.grid.levels) × (dst + 4 * g.grid.levels ≤ length w1)) × ((((131072 ≤ u) × (u < 196608)) × ((1 < 256) × (g.grid.base + g.grid.levels ≤ 196608))) × (Limits count_limit cost_limit g.grid.base g.grid.levels × Sound count_limit cost_limit g.grid.base g.grid.levels w1 free)))
  first_ready h = (
    (inr (omega (arith, a.under, a.task.shape.levels)), omega (arith, a.under, a.room, a.task.shape.levels, m1.kept.size)),
    ((h, (omega arith, omega (arith, a.task.shape.base, a.task.shape.levels, places_to a.task))), (limits a.task count_limit cost_limit (omega arith) (omega arith), curve_costs (curve_wider count_limit cost_limit (omega arith) (omega arith) acc_first))),
  )

  module _ (u : ℕ) (at : pos u ≡ get_or zs 0 (pos 0) +ℤ pos 163840) {w2 : List ℕ} (m2 : WithLoss 1 u g.grid.base g.grid.levels w1 w2 free dst) where
    value_first : (j : ℕ) → raise (lex c 0) (unit * (1 * (far u (g.grid.base + j) * far u (g.grid.base + j)))) ≡ first_table P zs k s j
    unfolding first_table first_cost raise
    value_first j =
        let z : 1 * (far u (g.grid.base + j) * far u (g.grid.base + j)) ≡ loss_at zs 0 (P.lo +ℤ pos j) = omega (arith, loss_place zs 0 P.lo u g.grid.base at (base_place a.task) j) in
        rw (is, z) (go (in_set P.start s && eqb k 0))
      where
        go : (b : Bool) → cond (ltb (lex (cond b 0 none) 0) no_cost) (lex (cond b 0 none) 0 + unit * loss_at zs 0 (P.lo +ℤ pos j)) (lex (cond b 0 none) 0) ≡ cond b (unit * loss_at zs 0 (P.lo +ℤ pos j)) no_cost
        go true = omega arith
        go false = refl

    pub first_made : NextList P 0 (first_table P zs) dst free k s ws w2
    first_made = record {
      beside = record {
        size = m2.kept.size ∙ m1.kept.size;
        word = λ i p q.
            let L = a.task.shape.levels in
            ⊎_elim (λ x. m2.kept.before i x) (λ x. m2.kept.after i (omega arith)) p
            ∙ ⊎_elim (λ x. m1.kept.before i x) (λ x. m1.kept.after i (omega arith)) q;
      };
      list =
          of_shape a.task.shape
          (curve_wider (1 * count_most) (1 * reading_most) (omega arith) (omega arith) (curve_as (first_table P zs k s) (λ j h. value_first j) (m2.curve 0 1 _ (limits a.task _ _ (omega arith) (omega arith)) acc_first)));
    }

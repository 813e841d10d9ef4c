-- The least costs for each number of changes, by layers and in numbers. A slot stands for a number of changes: slot 0 has nothing, and slot i + 1 the
-- segmentations with i changes. An edge without a change stays in its slot, and an edge with one comes from the slot before. What code has to show: its
-- first lists are those of a search in slot 1 (`total_first`) and none in every other, and its next ones `next_from` of the slots (`total_next`).
-- Then `total_held` says that each number is that of the least cost there, and from slot t + 1 on there is none after t readings (`total_none`). Assumes nothing.
use Rattle.std.specs.Prelude.{◌≡◌, List, true, ℤ, pos, ◌+ℤ◌}
use Rattle.std.proofs.Math.Path.{refl, ap, subst}
use Rattle.std.proofs.Common.{sym, ◌∙◌}
use Rattle.std.proofs.Math.Option.{Option, none, some}
use Prim.Native.Nat.{ℕ, zero, suc, ◌+◌, ◌-◌, ◌≤◌, ◌<◌}
use native.Mathlib.Omega.{arith}
use Rattle.std.proofs.Math.Decide.{dec_lt}
use Rattle.plan.specs.declared.Plan.{Plan}
use Rattle.model.specs.Cost.{Cost, ◌⊕◌, ◌≼◌}
use Rattle.model.proofs.Cost.{≼_trans, ≼-antisym, ≼-mono, cancel}
use Rattle.model.specs.Segmentation.{Seg, first, next, readings}
use Rattle.model.specs.Rank.{first_cost, step_cost, rank}
use Rattle.model.specs.Layers.{Graph, Laws}
use Rattle.model.proofs.Layers.{Runs}
use Rattle.model.proofs.Layers as G
use Rattle.model.specs.Model.{edge_at, change_of, width, on_grid, change_count, Allowed}
use Rattle.model.specs.Checked.{Checked}
use Rattle.model.proofs.Marks.{rules_marks, marks_rules}
use Rattle.model.specs.Labels.{counts}
use Rattle.model.specs.Nodes.{Node, node, Start, Step, graph, node_of}
use Rattle.model.proofs.Nodes.{laws, runs_model, model_runs}
use Rattle.model.specs.Opt.{step_from}
use Rattle.model.proofs.Opt.{from_met, from_low, from_grid, opt_grid, opt_layers}
use Rattle.model.specs.Index.{pair_of, no_cost}
use Rattle.model.proofs.Index.{some_held}
use Rattle.model.specs.Held.{HoldingOf, first_table, next_from, Low}
use Rattle.model.proofs.Held.{held_none, change_low, changes_few, rank_low, first_holding, from_holding, from_most}
use Rattle.model.specs.Ends.{loss_most}
use Rattle.model.proofs.Ends.{room}
use Rattle.model.specs.Tables.{Ready}
use Rattle.model.proofs.Tables.{losses, first_most}
use Rattle.model.specs.Totals.{SlotNode, opt_with, total_at}

not_some : {A : Type 0} {o : Option Cost} {c : Cost} → o ≡ none → o ≡ some c → A
not_some p q = let z : ◌≡◌ {A = ℕ} 0 1 = cc in absurd (omega arith)

abbrev slotted : ℕ → Node → SlotNode
slotted i v = record { slot = i; here = v }

abbrev slot_graph : Plan → List ℤ → Graph
slot_graph P zs = record {
  Cost = Cost;
  ◌⊕◌ = ◌⊕◌;
  ◌≼◌ = ◌≼◌;
  Node = SlotNode;
  state = λ w. w.here.state;
  level = λ w. w.here.level;
  Init = λ s m w. Start P s m w.here × (w.slot ≡ 1);
  Arc = λ t u e m w. Step P t u.here e m w.here × (w.slot ≡ u.slot + change_of (edge_at P e).kind);
  loss = first_cost zs;
  weight = step_cost P zs;
}

module _ (P : Plan) (zs : List ℤ) where
  slot_laws : Laws (slot_graph P zs)
  slot_laws = record {
    trans = ≼_trans;
    antisym = ≼-antisym;
    mono = ≼-mono;
    cancel = cancel;
    init_level = λ i. (laws P zs).init_level i.0;
    init_one = λ i i'. (laws P zs).init_one i.0 i'.0;
    arc_level = λ a. (laws P zs).arc_level a.0;
    arc_one = λ {t} {e} {m} {m'} {u} {u'} {v} a a' h.
        let p : u.here ≡ u'.here = (laws P zs).arc_one a.0 a'.0 h in
        let q : u.slot ≡ u'.slot = omega (arith, a.1, a'.1) in
        λ i. record { slot = q i; here = p i };
  }

  -- its walks are those of the model, and the slot counts the changes
  slot_runs : (g : Seg) (w : SlotNode) → Runs (slot_graph P zs) g w → Runs (graph P zs) g w.here × (w.slot ≡ suc (change_count P g))
  unfolding Runs change_count
  slot_runs (first s m) w i = i
  slot_runs (next g e m) w (u, r, a) =
      let (q, n) = slot_runs g u r in
      ((u.here, q, a.0), omega (arith, a.1))

  runs_slot : (g : Seg) (v : Node) → Runs (graph P zs) g v → Runs (slot_graph P zs) g (slotted (suc (change_count P g)) v)
  unfolding Runs change_count
  runs_slot (first s m) v i = (i, refl)
  runs_slot (next g e m) v (u, r, a) = (slotted (suc (change_count P g)) u, runs_slot g u r, (a, omega arith))

  slot_cost : (g : Seg) → G.cost (slot_graph P zs) g ≡ rank P zs g
  unfolding G.cost rank
  slot_cost (first s m) = refl
  slot_cost (next g e m) = ap (λ x. x ⊕ step_cost P zs (readings g) e m) (slot_cost g)

  -- ---- the layers keep its rules

  -- slot 0 has nothing
  with_zero : (t : ℕ) (v : Node) → opt_with P zs t 0 v ≡ none
  unfolding opt_with
  with_zero zero v = refl
  with_zero (suc zero) v = refl
  with_zero (suc (suc t)) v = refl

  with_step : (t i : ℕ) (v : Node) → opt_with P zs (suc (suc t)) (suc i) v ≡ step_from P zs (suc t) (λ c. opt_with P zs (suc t) (suc i - c)) v
  unfolding opt_with
  with_step t i v = refl

  pub with_grid : (t i : ℕ) (v : Node) (c : Cost) → opt_with P zs t i v ≡ some c → on_grid P v.level ≡ true
  unfolding opt_with
  with_grid zero i v c p = not_some refl p
  with_grid (suc zero) zero v c p = not_some refl p
  with_grid (suc zero) (suc zero) v c p = opt_grid P zs 1 v c p
  with_grid (suc zero) (suc (suc i)) v c p = not_some refl p
  with_grid (suc (suc t)) zero v c p = not_some refl p
  with_grid (suc (suc t)) (suc i) v c p = from_grid P zs (suc t) (λ c. opt_with P zs (suc t) (suc i - c)) v c p

  start_met : (i : ℕ) (v : Node) (c : Cost) → opt_with P zs 1 i v ≡ some c → (s : ℕ) × (m : ℤ) × (Start P s m v × (i ≡ 1)) × (first_cost zs m ≡ c)
  unfolding opt_with
  start_met zero v c p = not_some refl p
  start_met (suc zero) v c p = let (s, m, a, q) = (opt_layers P zs).start.met p in (s, m, (a, refl), q)
  start_met (suc (suc i)) v c p = not_some refl p

  start_low : (s : ℕ) (m : ℤ) (i : ℕ) (v : Node) → Start P s m v → i ≡ 1 → (c : Cost) × (opt_with P zs 1 i v ≡ some c) × (c ≼ first_cost zs m)
  unfolding opt_with
  start_low s m i v a e = rw e ((opt_layers P zs).start.least a)

  step_met : (t i : ℕ) (v : Node) (c : Cost) → opt_with P zs (suc (suc t)) i v ≡ some c
      → (u : SlotNode) × (e : ℕ) × (m : ℤ) × (d : Cost) × (Step P (suc t) u.here e m v × (i ≡ u.slot + change_of (edge_at P e).kind))
      × (opt_with P zs (suc t) u.slot u.here ≡ some d) × (d ⊕ step_cost P zs (suc t) e m ≡ c)
  step_met t zero v c p = not_some (with_zero (suc (suc t)) v) p
  step_met t (suc i) v c p =
      let (u, e, m, d, a, q, w) = from_met P zs (suc t) (λ c. opt_with P zs (suc t) (suc i - c)) v c (sym (with_step t i v) ∙ p) in
      (slotted (suc i - change_of (edge_at P e).kind) u, e, m, d, (a, omega (arith, change_low (edge_at P e).kind)), q, w)

  step_low : (t i n : ℕ) (u v : Node) (e : ℕ) (m : ℤ) (d : Cost) → Step P (suc t) u e m v → n ≡ i + change_of (edge_at P e).kind → opt_with P zs (suc t) i u ≡ some d
      → (c : Cost) × (opt_with P zs (suc (suc t)) n v ≡ some c) × (c ≼ d ⊕ step_cost P zs (suc t) e m)
  step_low t zero n u v e m d a h p = not_some (with_zero (suc t) u) p
  step_low t (suc i) zero u v e m d a h p = absurd (omega arith)
  step_low t (suc i) (suc n) u v e m d a h p =
      let F : ℕ → Node → Option Cost = λ c. opt_with P zs (suc t) (suc n - c) in
      let k : suc i ≡ suc n - change_of (edge_at P e).kind = omega arith in
      let q : F (change_of (edge_at P e).kind) u ≡ some d = subst (λ (x : ℕ). opt_with P zs (suc t) x u ≡ some d) k p in
      let (c, r, l) = from_low P zs (suc t) F (λ c. with_grid (suc t) (suc n - c)) u v e m d a q in
      (c, with_step t n v ∙ r, l)

  abbrev layer : ℕ → SlotNode → Option Cost
  layer t w = opt_with P zs t w.slot w.here

  with_layers : G.Layers (slot_graph P zs) layer
  with_layers = record {
    start = record {
      met = λ {v} {c} p. start_met v.slot v.here c p;
      least = λ {s} {m} {v} i. start_low s m v.slot v.here i.0 i.1;
    };
    step = step;
  }
    where
      step : (t : ℕ) → 1 ≤ t → G.NextLayer (slot_graph P zs) t (layer t) (layer (suc t))
      step zero h = absurd (omega arith)
      step (suc t) h = record {
        met = λ {v} {c} p. step_met t v.slot v.here c p;
        least = λ {u} {v} {e} {m} {d} a p. step_low t u.slot v.slot u.here v.here e m d a.0 a.1 p;
      }

  -- ---- so they have the least costs

  module _ (ch : Checked P) where
    pub with_met : (t i : ℕ) (v : Node) (c : Cost) → opt_with P zs (suc t) i v ≡ some c
        → (g : Seg) × Allowed P (suc t) g × (node_of P g ≡ v) × (i ≡ suc (change_count P g)) × (rank P zs g ≡ c)
    with_met t i v c p =
        let (g, n, r, w) = G.met_by (slot_graph P zs) slot_laws layer with_layers t {v = slotted i v} p in
        let (q, k) = slot_runs g (slotted i v) r in
        let (f, l, e) = runs_model P zs ch g v q in
        (g, record { count = n; follows = f; labels = marks_rules P g l }, sym e, k, sym (slot_cost g) ∙ w)

    pub with_least : (n : ℕ) (g : Seg) → Allowed P n g
        → (c : Cost) × (opt_with P zs n (suc (change_count P g)) (node_of P g) ≡ some c) × (c ≼ rank P zs g)
    with_least n g a =
        let w = slotted (suc (change_count P g)) (node_of P g) in
        let (c, p, h) = G.at_least (slot_graph P zs) slot_laws layer with_layers g w (runs_slot g (node_of P g) (model_runs P zs ch g a.follows (rules_marks P g a.labels))) in
        (c, rw a.count at p, rw (slot_cost g) at h)

-- ---- in numbers

module _ (P : Plan) (zs : List ℤ) where
  pub total_first : total_at P zs 1 1 ≡ first_table P zs
  unfolding total_at
  total_first = refl

  pub total_zero : (t k s j : ℕ) → total_at P zs t 0 k s j ≡ no_cost
  unfolding total_at
  total_zero zero k s j = refl
  total_zero (suc zero) k s j = refl
  total_zero (suc (suc t)) k s j = refl

  pub total_next : (t i : ℕ) → 1 ≤ t → next_from P zs t (λ c. total_at P zs t (suc i - c)) ≡ total_at P zs (suc t) (suc i)
  unfolding total_at
  total_next zero i h = absurd (omega arith)
  total_next (suc t) i h = refl

  module _ (R : Ready P zs) where
    -- the same bound as for a search
    with_low : (t i : ℕ) (v : Node) (c : Cost) → opt_with P zs t i v ≡ some c → Low loss_most t c
    unfolding opt_with
    with_low zero i v c p = not_some refl p
    with_low (suc t) i v c p =
        let (g, a, e, n, w) = with_met P zs R.plan t i v c p in
        subst (Low loss_most (suc t)) w (rank_low P zs R.plan loss_most (losses P zs R) (suc t) g a)

    none_held_at : HoldingOf P (λ v. none) (λ k s j. no_cost)
    none_held_at = record { at = λ k s j hk hs hj. held_none }

    -- each number is the least cost there
    pub total_held : (t i : ℕ) → 1 ≤ t → t ≤ 4096 → HoldingOf P (opt_with P zs t i) (total_at P zs t i)
    unfolding opt_with total_at
    total_held zero i h l = absurd (omega arith)
    total_held (suc zero) zero h l = none_held_at
    total_held (suc zero) (suc zero) h l = first_holding P zs (λ m on. omega (arith, losses P zs R 0 m on)) R.plan.grid
    total_held (suc zero) (suc (suc i)) h l = none_held_at
    total_held (suc (suc t)) zero h l = none_held_at
    total_held (suc (suc t)) (suc i) h l =
        from_holding P zs R.plan loss_most (losses P zs R) (suc t) (λ c. opt_with P zs (suc t) (suc i - c)) (λ c. total_at P zs (suc t) (suc i - c))
        (λ c. total_held (suc t) (suc i - c) (omega arith) (omega arith)) (λ c. with_low (suc t) (suc i - c)) (room (suc t) (omega arith))

    total_most : (t i k s j : ℕ) → 1 ≤ t → t ≤ 4096 → j < width P → total_at P zs t i k s j ≤ no_cost
    unfolding total_at
    total_most zero i k s j h l hj = absurd (omega arith)
    total_most (suc zero) zero k s j h l hj = omega arith
    total_most (suc zero) (suc zero) k s j h l hj = first_most P zs R k s j hj
    total_most (suc zero) (suc (suc i)) k s j h l hj = omega arith
    total_most (suc (suc t)) zero k s j h l hj = omega arith
    total_most (suc (suc t)) (suc i) k s j h l hj =
        from_most P zs R.plan loss_most (losses P zs R) (suc t) (λ c. opt_with P zs (suc t) (suc i - c)) (λ c. total_at P zs (suc t) (suc i - c))
        (λ c. total_held (suc t) (suc i - c) (omega arith) (omega arith)) (λ c. with_low (suc t) (suc i - c)) (room (suc t) (omega arith)) k s j hj

    total_value : (t i k s j : ℕ) → 1 ≤ t → t ≤ 4096 → k < counts → s < P.states → j < width P → total_at P zs t i k s j < no_cost
        → opt_with P zs t i (node k s (P.lo +ℤ pos j)) ≡ some (pair_of (total_at P zs t i k s j))
    total_value t i k s j h l hk hs hj d = sym ((total_held t i h l).at k s j hk hs hj) ∙ some_held (total_at P zs t i k s j) d

    -- a slot that has a cost after t readings is one of 1 to t
    with_slot : (t i : ℕ) (v : Node) (c : Cost) → opt_with P zs t i v ≡ some c → i ≤ t
    unfolding opt_with
    with_slot zero i v c p = not_some refl p
    with_slot (suc t) i v c p =
        let (g, a, e, n, w) = with_met P zs R.plan t i v c p in
        omega (arith, changes_few P g, a.count)

    -- t readings have fewer than t changes
    pub total_none : (t i k s j : ℕ) → 1 ≤ t → t ≤ 4096 → t < i → k < counts → s < P.states → j < width P → total_at P zs t i k s j ≡ no_cost
    total_none t i k s j h l b hk hs hj = go (dec_lt (total_at P zs t i k s j) no_cost)
      where
        go : Dec (total_at P zs t i k s j < no_cost) → total_at P zs t i k s j ≡ no_cost
        go (yes d) = absurd (omega (arith, with_slot t i (node k s (P.lo +ℤ pos j)) (pair_of (total_at P zs t i k s j)) (total_value t i k s j h l hk hs hj d)))
        go (no d) = omega (arith, total_most t i k s j h l hj)

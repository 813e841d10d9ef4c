-- The least costs by recursion on the number of readings: plain minima over the edges and over all levels. Assumes nothing.
use Rattle.std.proofs.Math.Path.{◌≡◌, refl, sym, ap, subst}
use Rattle.std.proofs.Common.{◌∙◌}
use Rattle.std.proofs.Math.Option.{Option, none, some, map, some-injective}
use Rattle.std.specs.Prelude.{List, Bool, ◌&&◌, ℤ, pos, ◌+ℤ◌, length}
use Rattle.std.proofs.Math.Bool.{true}
use Prim.Native.Nat.{ℕ, zero, suc, ◌≤◌, ◌<◌}
use native.Mathlib.Omega.{arith}
use Rattle.std.proofs.Math.Dec.{eqb}
use borrow.Author.Tests.{eqb-true, eq-eqb}
use Rattle.plan.specs.declared.Plan.{Plan}
use Rattle.plan.specs.declared.Kind.{Kind}
use Rattle.model.specs.Cost.{Cost, ◌⊕◌, ◌≼◌, value}
use Rattle.model.proofs.Cost.{≼_trans, ≼_refl, value_mono}
use Rattle.model.specs.Segmentation.{Seg, readings, last_level}
use Rattle.model.specs.Rank.{first_cost, step_cost, rank}
use Rattle.model.proofs.Rank.{rank_value}
use Rattle.model.proofs.Layers as G
use Rattle.model.specs.Least.{least_below, given, plus}
use Rattle.model.proofs.Least.{below_met, below_least, given_met, plus_met}
use Rattle.model.proofs.Grid.{grid_index}
use Rattle.model.proofs.Bools.{and_yes}
use Rattle.model.specs.Model.{edge_at, change_of, width, above, permits, in_set, on_grid, last_state, cost, Allowed, LeastCost}
use Rattle.model.specs.Checked.{Checked}
use Rattle.model.proofs.Marks.{rules_marks}
use Rattle.model.specs.Labels.{label_on, count_in, count_after, label_test, count_before, used_at}
use Rattle.model.proofs.Labels.{count_back, count_used}
use Rattle.model.specs.Nodes.{Node, node, Start, Step, graph, node_of}
use Rattle.model.proofs.Nodes.{sound, least}
use Rattle.model.specs.Opt.{before, offer, opt, point_best, point_cost, start_test, step_from, step_of, step_test}

-- ---- it keeps the rules of layers

six_yes : (a b c d e f : Bool) → (a && (b && (c && (d && (e && f))))) ≡ true
    → (a ≡ true) × (b ≡ true) × (c ≡ true) × (d ≡ true) × (e ≡ true) × (f ≡ true)
six_yes a b c d e f h =
    let k = and_yes a (b && (c && (d && (e && f)))) h in
    let l = and_yes b (c && (d && (e && f))) k.1 in
    let m = and_yes c (d && (e && f)) l.1 in
    let n = and_yes d (e && f) m.1 in
    let o = and_yes e f n.1 in
    (k.0, l.0, m.0, n.0, o.0, o.1)

yes_six : (a b c d e f : Bool) → a ≡ true → b ≡ true → c ≡ true → d ≡ true → e ≡ true → f ≡ true → (a && (b && (c && (d && (e && f))))) ≡ true
yes_six a b c d e f h i j k l m = simp (h, i, j, k, l, m)

module _ (P : Plan) where
  test_step : (t : ℕ) (u : Node) (e : ℕ) (v : Node) → e < P.edgecount → (edge_at P e).from ≡ u.state → step_test P t u e v ≡ true → Step P t u e v.level v
  unfolding step_test
  test_step t u e v known from h =
      let x = (edge_at P e).kind in
      let k : ℕ = count_after (label_on P t) t x u.count in
      let (a, b, c, d, f, g) = six_yes (permits (edge_at P e).kind u.level v.level) (on_grid P u.level) (on_grid P v.level)
      (label_test (label_on P t) t x u.count) (eqb v.count k) (eqb v.state (edge_at P e).to) h in
      record {
        known = known;
        from' = from;
        permitted = a;
        grid = c;
        label = d;
        at = λ i. record { count = eqb-true v.count k f i; state = eqb-true v.state (edge_at P e).to g i; level = v.level };
      }

  step_test_lem : (t : ℕ) (u : Node) (e : ℕ) (m : ℤ) (v : Node) → Step P t u e m v → on_grid P u.level ≡ true → step_test P t u e v ≡ true
  unfolding step_test
  step_test_lem t u e m v a h =
      let l : v.level ≡ m = ap (λ (w : Node). w.level) a.at in
      let p : permits (edge_at P e).kind u.level v.level ≡ true = rw l a.permitted in
      let q : on_grid P v.level ≡ true = rw l a.grid in
      yes_six _ _ _ _ _ _ p h q a.label (eq-eqb _ _ (ap (λ (w : Node). w.count) a.at)) (eq-eqb _ _ (ap (λ (w : Node). w.state) a.at))

  -- the node before is known from the edge, the level before and the node after
  before_is : (t : ℕ) (u : Node) (e : ℕ) (m : ℤ) (v : Node) (j : ℕ) → Step P t u e m v → P.lo +ℤ pos j ≡ u.level → before P t v e j ≡ u
  unfolding before
  before_is t u e m v j a h = λ i. record { count = counts i; state = a.from' i; level = h i }
    where
      x : Kind
      x = (edge_at P e).kind

      counts : count_before (label_on P t) t x v.count ≡ u.count
      counts = ap (λ (w : Node). count_before (label_on P t) t x w.count) a.at ∙ sym (count_back (label_on P t) t x u.count a.label)

  from_before : (t : ℕ) (v : Node) (e j : ℕ) → (edge_at P e).from ≡ (before P t v e j).state
  unfolding before
  from_before t v e j = refl

  cell : (F : Node → Option Cost) (t : ℕ) (u u' v : Node) (e : ℕ) (d x y : Cost) → u' ≡ u → step_test P t u e v ≡ true → F u ≡ some d → x ≡ y
      → given (step_test P t u' e v) (plus (F u') x) ≡ some (d ⊕ y)
  cell F t u u' v e d x y b s p h = rw b (rw (s, p, h) refl)

  module _ (zs : List ℤ) where
    pub offer_met : (t : ℕ) (F : Node → Option Cost) (v : Node) (e j : ℕ) (c : Cost) → e < P.edgecount → offer P zs t F v e j ≡ some c
        → (d : Cost) × Step P t (before P t v e j) e v.level v × (F (before P t v e j) ≡ some d) × (d ⊕ step_cost P zs t e v.level ≡ c)
    unfolding offer
    offer_met t F v e j c he p =
        let (y, z) = given_met (step_test P t (before P t v e j) e v) (plus (F (before P t v e j)) (step_cost P zs t e v.level)) c p in
        let (d, i, k) = plus_met (F (before P t v e j)) (step_cost P zs t e v.level) c z in
        (d, test_step t (before P t v e j) e v he (from_before t v e j) y, i, k)

    pub offer_of : (t : ℕ) (F : Node → Option Cost) (u v : Node) (e : ℕ) (m : ℤ) (d : Cost) → Step P t u e m v → on_grid P u.level ≡ true → F u ≡ some d
        → (j : ℕ) × (j < width P) × (P.lo +ℤ pos j ≡ u.level) × (offer P zs t F v e j ≡ some (d ⊕ step_cost P zs t e m))
    unfolding offer
    offer_of t F u v e m d a on p =
        let j = above P.lo u.level in
        let (hj, i) = grid_index P u.level on in
        let l : v.level ≡ m = ap (λ (w : Node). w.level) a.at in
        (j, hj, i, cell F t u (before P t v e j) v e d (step_cost P zs t e v.level) (step_cost P zs t e m) (before_is t u e m v j a i) (step_test_lem t u e m v a on) p (ap (step_cost P zs t e) l))

    -- what a step has is met by an edge from its layer
    pub from_met : (t : ℕ) (F : ℕ → Node → Option Cost) (v : Node) (c : Cost) → step_from P zs t F v ≡ some c
        → (u : Node) × (e : ℕ) × (m : ℤ) × (d : Cost) × Step P t u e m v × (F (change_of (edge_at P e).kind) u ≡ some d) × (d ⊕ step_cost P zs t e m ≡ c)
    unfolding step_from
    from_met t F v c p =
        let (e, he, q) = below_met P.edgecount (λ e. least_below (width P) (offer P zs t (F (change_of (edge_at P e).kind)) v e)) c p in
        let (j, hj, r) = below_met (width P) (offer P zs t (F (change_of (edge_at P e).kind)) v e) c q in
        let (d, a, i, k) = offer_met t (F (change_of (edge_at P e).kind)) v e j c he r in
        (before P t v e j, e, v.level, d, a, i, k)

    -- and no edge offers less
    pub from_low : (t : ℕ) (F : ℕ → Node → Option Cost) → ((c : ℕ) (u : Node) (d : Cost) → F c u ≡ some d → on_grid P u.level ≡ true)
        → (u v : Node) (e : ℕ) (m : ℤ) (d : Cost) → Step P t u e m v → F (change_of (edge_at P e).kind) u ≡ some d
        → (c : Cost) × (step_from P zs t F v ≡ some c) × (c ≼ d ⊕ step_cost P zs t e m)
    unfolding step_from
    from_low t F on u v e m d a p =
        let x = change_of (edge_at P e).kind in
        let (j, hj, i, r) = offer_of t (F x) u v e m d a (on x u d p) p in
        let (c, q, h) = below_least (width P) (offer P zs t (F x) v e) j (d ⊕ step_cost P zs t e m) hj r in
        let (c', q', h') = below_least P.edgecount (λ e. least_below (width P) (offer P zs t (F (change_of (edge_at P e).kind)) v e)) e c a.known q in
        (c', q', ≼_trans h' h)

    pub from_grid : (t : ℕ) (F : ℕ → Node → Option Cost) (v : Node) (c : Cost) → step_from P zs t F v ≡ some c → on_grid P v.level ≡ true
    from_grid t F v c p =
        let (u, e, m, d, a, q, w) = from_met t F v c p in
        subst (λ (l : ℤ). on_grid P l ≡ true) (sym (ap (λ (w : Node). w.level) a.at)) a.grid

    pub step_next : (t : ℕ) (F : Node → Option Cost) → ((u : Node) (d : Cost) → F u ≡ some d → on_grid P u.level ≡ true)
        → G.NextLayer (graph P zs) t F (step_of P zs t F)
    step_next t F on = record {
      met = λ {v} {c} p. from_met t (λ c. F) v c p;
      least = λ {u} {v} {e} {m} {d} a p. from_low t (λ c. F) (λ c. on) u v e m d a p;
    }

    pub opt_grid : (t : ℕ) (u : Node) (d : Cost) → opt P zs t u ≡ some d → on_grid P u.level ≡ true
    unfolding opt start_test
    opt_grid zero u d p = let z : ◌≡◌ {A = ℕ} 0 1 = cc in absurd (omega arith)
    opt_grid (suc zero) u d p =
        let h = (given_met (start_test P u) (some (first_cost zs u.level)) d p).0 in
        (and_yes (on_grid P u.level) (eqb u.count 0) (and_yes (in_set P.start u.state) (on_grid P u.level && eqb u.count 0) h).1).0
    opt_grid (suc (suc t)) u d p = from_grid (suc t) (λ c. opt P zs (suc t)) u d p

    pub opt_layers : G.Layers (graph P zs) (opt P zs)
    unfolding opt start_test
    opt_layers = record { start = record { met = λ {v} {c} p. met v c p; least = λ {s} {m} {v} i. low s m v i }; step = step }
      where
        met : (v : Node) (c : Cost) → opt P zs 1 v ≡ some c → (s : ℕ) × (m : ℤ) × Start P s m v × (first_cost zs m ≡ c)
        met v c p =
            let (h, q) = given_met (start_test P v) (some (first_cost zs v.level)) c p in
            let (a, h') = and_yes (in_set P.start v.state) (on_grid P v.level && eqb v.count 0) h in
            let (b, k) = and_yes (on_grid P v.level) (eqb v.count 0) h' in
            (v.state, v.level, record { starts = a; grid = b; at = λ i. record { count = eqb-true v.count 0 k i; state = v.state; level = v.level } }, cc)

        low : (s : ℕ) (m : ℤ) (v : Node) → Start P s m v → (c : Cost) × (opt P zs 1 v ≡ some c) × (c ≼ first_cost zs m)
        low s m v i =
            (first_cost zs m, subst (λ (w : Node). opt P zs 1 w ≡ some (first_cost zs m)) (sym i.at) (simp (i.starts, i.grid)), ≼_refl _)

        step : (t : ℕ) → 1 ≤ t → G.NextLayer (graph P zs) t (opt P zs t) (opt P zs (suc t))
        step zero h = absurd (omega arith)
        step (suc t) h = step_next (suc t) (opt P zs (suc t)) (opt_grid (suc t))

pub opt_step : (P : Plan) (zs : List ℤ) (t : ℕ) (v : Node) → 1 ≤ t → opt P zs (suc t) v ≡ step_of P zs t (opt P zs t) v
unfolding opt
opt_step P zs zero v h = absurd (omega arith)
opt_step P zs (suc t) v h = refl

module _ (P : Plan) (zs : List ℤ) (ch : Checked P) (some_readings : 1 ≤ length zs) (s : ℕ) (m : ℤ) where
  reached : (g : Seg) → Allowed P (length zs) g → last_state P g ≡ s → last_level g ≡ m
      → (c : Cost) × (point_best P zs s m ≡ some c) × (value c ≤ cost P zs g)
  unfolding point_best node_of
  reached g a hs hm =
      let (d, p, h) = least P zs ch (opt P zs) (opt_layers P zs) (length zs) g a in
      let k = count_in P (label_on P (readings g)) g in
      let b : k < used_at P (length zs) = subst (λ (n : ℕ). k < used_at P n) a.count (count_used P g (rules_marks P g a.labels)) in
      let q : opt P zs (length zs) (node k s m) ≡ some d = subst (λ (l : ℤ). opt P zs (length zs) (node k s l) ≡ some d) hm (subst (λ (x : ℕ). opt P zs (length zs) (node k x (last_level g)) ≡ some d) hs p) in
      let (c, r, l) = below_least (used_at P (length zs)) (λ k. opt P zs (length zs) (node k s m)) k d b q in
      (c, r, rw (← rank_value P zs g) (value_mono (≼_trans l h)))

  met_at : (n : ℕ) (v : Node) (c : Cost) → 1 ≤ n → opt P zs n v ≡ some c → (g : Seg) × Allowed P n g × (node_of P g ≡ v) × (rank P zs g ≡ c)
  met_at zero v c h p = absurd (omega arith)
  met_at (suc n) v c h p = sound P zs ch (opt P zs) (opt_layers P zs) n p

  met_point : (c : Cost) → point_best P zs s m ≡ some c → (g : Seg) × Allowed P (length zs) g × (last_state P g ≡ s) × (last_level g ≡ m) × (cost P zs g ≡ value c)
  unfolding point_best node_of
  met_point c p =
      let (k, hk, q) = below_met (used_at P (length zs)) (λ k. opt P zs (length zs) (node k s m)) c p in
      let (g, a, e, w) = met_at (length zs) (node k s m) c some_readings q in
      (g, a, ap (λ (v : Node). v.state) e, ap (λ (v : Node). v.level) e, sym (rank_value P zs g) ∙ ap value w)

  pub point_least : (c : ℕ) → point_cost P zs s m ≡ some c → LeastCost P zs (length zs) s m c
  unfolding point_cost
  point_least c p = go (point_best P zs s m) refl p
    where
      go : (o : Option Cost) → point_best P zs s m ≡ o → map value o ≡ some c → LeastCost P zs (length zs) s m c
      go none e q = let z : ◌≡◌ {A = ℕ} 0 1 = cc in absurd (omega arith)
      go (some b) e q =
          let w : value b ≡ c = cc in
          record {
            met = subst (λ (x : ℕ). (g : Seg) × Allowed P (length zs) g × (last_state P g ≡ s) × (last_level g ≡ m) × (cost P zs g ≡ x)) w (met_point b e);
            least = λ g a hs hm. let (d, r, h) = reached g a hs hm in let i : b ≡ d = some-injective b d (sym e ∙ r) in rw (← w, i) h;
          }

  pub point_none : point_cost P zs s m ≡ none → (g : Seg) → Allowed P (length zs) g → last_state P g ≡ s → last_level g ≡ m → ⊥
  unfolding point_cost
  point_none p g a hs hm = let (d, q, h) = reached g a hs hm in let r : map value (point_best P zs s m) ≡ some (value d) = rw q refl in let z : ◌≡◌ {A = ℕ} 0 1 = cc in omega arith

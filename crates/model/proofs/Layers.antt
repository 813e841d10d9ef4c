-- Cheapest walks through layers: what a family of layers must satisfy so that it holds the least costs, and which walk back
-- through it comes first in the order. Nothing here knows a plan, a label or a loss. Assumes nothing.
use Rattle.std.specs.Prelude.{◌≡◌, ◌⊎◌, List, [], ◌∷◌, ℤ, ◌<ℤ◌}
use Rattle.std.proofs.Math.Path.{refl, sym, ap, subst}
use Rattle.std.proofs.Common.{◌∙◌}
use Rattle.std.proofs.Math.Option.{Option, some}
use Rattle.std.proofs.Math.Logic.{inl, inr}
use Prim.Native.Nat.{ℕ, zero, suc, ◌≤◌}
use native.Mathlib.Omega.{arith}
use Rattle.std.proofs.Math.IntN.{pos}
use Rattle.model.specs.Segmentation.{Seg, first, next, readings, last_level, back, Lower, readings_pos}
use Rattle.model.specs.Layers.{Graph, Laws}

module _ (G : Graph) where
  open G use {Cost, ◌⊕◌, ◌≼◌, Node, state, level, Init, Arc, loss, weight}

  infixl 60 ◌⊕◌
  infix 50 ◌≼◌
  unfoldable pub cost : Seg → Cost
  cost (first s m) = loss m
  cost (next g e m) = cost g ⊕ weight (readings g) e m

  -- the segmentation keeps the rules, and ends at the node
  unfoldable pub Runs : Seg → Node → Type 0
  Runs (first s m) v = Init s m v
  Runs (next g e m) v = (u : Node) × Runs g u × Arc (readings g) u e m v

  -- ---- what a layer must satisfy: each of its costs is met, and none is above what an arc offers

  pub record FirstLayer (F : Node → Option Cost) : Type 0 where
    pub met : {v : Node} {c : Cost} → F v ≡ some c → (s : ℕ) × (m : ℤ) × Init s m v × (loss m ≡ c)
    pub least : {s : ℕ} {m : ℤ} {v : Node} → Init s m v → (c : Cost) × (F v ≡ some c) × (c ≼ loss m)

  pub record NextLayer (t : ℕ) (F F' : Node → Option Cost) : Type 0 where
    pub met : {v : Node} {c : Cost} → F' v ≡ some c → (u : Node) × (e : ℕ) × (m : ℤ) × (d : Cost) × Arc t u e m v × (F u ≡ some d) × (d ⊕ weight t e m ≡ c)
    pub least : {u v : Node} {e : ℕ} {m : ℤ} {d : Cost} → Arc t u e m v → F u ≡ some d → (c : Cost) × (F' v ≡ some c) × (c ≼ d ⊕ weight t e m)

  -- layer t is that of t readings
  pub record Layers (L : ℕ → Node → Option Cost) : Type 0 where
    pub start : FirstLayer (L 1)
    pub step : (t : ℕ) → 1 ≤ t → NextLayer t (L t) (L (suc t))

  cost_next : (g : Seg) (e : ℕ) (m : ℤ) {t : ℕ} {d : Cost} → readings g ≡ t → cost g ≡ d → cost (next g e m) ≡ d ⊕ weight t e m
  unfolding cost
  cost_next g e m p q = cc

  module _ (laws : Laws G) (L : ℕ → Node → Option Cost) (layers : Layers L) where
    -- ---- least: no segmentation at a node costs less than the layer says, and where there is one the layer has a cost

    pub at_least : (g : Seg) (v : Node) → Runs g v → (c : Cost) × (L (readings g) v ≡ some c) × (c ≼ cost g)
    unfolding readings cost Runs
    at_least (first s m) v r = layers.start.least r
    at_least (next g e m) v (u, r, a) =
        let (d, p, q) = at_least g u r in
        let (c, p', q') = (layers.step (readings g) (readings_pos g)).least a p in
        (c, p', laws.trans q' (laws.mono _ q))

    -- ---- met: a cost of the layer is that of a segmentation

    pub met_by : (t : ℕ) {v : Node} {c : Cost} → L (suc t) v ≡ some c → (g : Seg) × (readings g ≡ suc t) × Runs g v × (cost g ≡ c)
    unfolding readings cost Runs
    met_by zero p =
        let (s, m, i, q) = layers.start.met p in
        (first s m, refl, i, q)
    met_by (suc t) p =
        let (u, e, m, d, a, q, w) = (layers.step (suc t) (omega arith)).met p in
        let (g, n, r, k) = met_by t q in
        (next g e m, ap suc n, (u, r, rw n a), cost_next g e m n k ∙ w)

    -- ---- first in the order

    abbrev key : ℕ → Node → List ℤ
    key e u = pos e ∷ level u ∷ []

    -- among the arcs into v that meet its cost, this one has the lowest edge number, then the lowest level before it
    pub record Lowest (t : ℕ) (u : Node) (e : ℕ) (m : ℤ) (v : Node) : Type 0 where
      pub arc : Arc t u e m v
      pub before : Cost
      pub known : L t u ≡ some before
      pub meets : L (suc t) v ≡ some (before ⊕ weight t e m)
      pub lowest : {u' : Node} {e' : ℕ} {m' : ℤ} {d : Cost} → Arc t u' e' m' v → L t u' ≡ some d
          → L (suc t) v ≡ some (d ⊕ weight t e' m') → (key e u ≡ key e' u') ⊎ Lower (key e u) (key e' u')

    -- the walk back from v that takes the lowest arc each time
    unfoldable pub Traced : Seg → Node → Type 0
    Traced (first s m) v = Init s m v
    Traced (next g e m) v = (u : Node) × Traced g u × Lowest (readings g) u e m v

    pub traced_runs : (g : Seg) (v : Node) → Traced g v → Runs g v
    unfolding Traced Runs
    traced_runs (first s m) v i = i
    traced_runs (next g e m) v (u, r, l) = (u, traced_runs g u r, l.arc)

    some_inj : {a b : Cost} {o : Option Cost} → o ≡ some a → o ≡ some b → a ≡ b
    some_inj p q = cc

    pub traced_cost : (g : Seg) (v : Node) → Traced g v → L (readings g) v ≡ some (cost g)
    unfolding Traced cost readings
    traced_cost (first s m) v i =
        let (c, p, q) = layers.start.least i in
        let (s', m', i', q') = layers.start.met p in
        let h : m' ≡ m = sym (laws.init_level i') ∙ laws.init_level i in
        p ∙ ap some (sym q' ∙ ap loss h)
    traced_cost (next g e m) v (u, r, l) =
        l.meets ∙ ap some (ap (λ x. x ⊕ weight (readings g) e m) (some_inj l.known (traced_cost g u r)))

    runs_level : (g : Seg) (v : Node) → Runs g v → level v ≡ last_level g
    unfolding Runs last_level
    runs_level (first s m) v i = laws.init_level i
    runs_level (next g e m) v (u, r, a) = laws.arc_level a

    -- an arc that a cheapest segmentation takes meets the layer's cost
    on_cheapest : (g : Seg) (u v : Node) (e : ℕ) (m : ℤ) → Runs g u → Arc (readings g) u e m v
        → L (suc (readings g)) v ≡ some (cost g ⊕ weight (readings g) e m) → L (readings g) u ≡ some (cost g)
    on_cheapest g u v e m r a h =
        let (d, p, q) = at_least g u r in
        let (c, p', q') = (layers.step (readings g) (readings_pos g)).least a p in
        let w = weight (readings g) e m in
        let k : cost g ⊕ w ≼ d ⊕ w = subst (λ x. x ≼ d ⊕ w) (some_inj p' h) q' in
        p ∙ ap some (laws.cancel w (laws.antisym (laws.mono w q) k))

    -- two steps into one node, the first by its lowest arc: as the keys decide, and else as what came before
    compare : (g g' : Seg) (u u' v : Node) (e e' : ℕ) (m m' : ℤ) (t : ℕ) → Lowest t u e m v → Arc t u' e' m' v
        → L t u' ≡ some (cost g') → L (suc t) v ≡ some (cost g' ⊕ weight t e' m') → level u ≡ last_level g → level u' ≡ last_level g'
        → (u' ≡ u → (g ≡ g') ⊎ Lower (back g) (back g')) → (next g e m ≡ next g' e' m') ⊎ Lower (back (next g e m)) (back (next g' e' m'))
    unfolding back
    compare g g' u u' v e e' m m' t l a p h k k' before = by_key (l.lowest a p h)
      where
        m_eq : m ≡ m'
        m_eq = sym (laws.arc_level l.arc) ∙ laws.arc_level a

        by_rest : e ≡ e' → level u ≡ level u' → (g ≡ g') ⊎ Lower (back g) (back g')
            → (next g e m ≡ next g' e' m') ⊎ Lower (back (next g e m)) (back (next g' e' m'))
        by_rest i j (inl x) = inl (cc m_eq)
        by_rest i j (inr x) = inr (inr (ap pos i, inr (sym k ∙ j ∙ k', x)))

        by_key : (key e u ≡ key e' u') ⊎ Lower (key e u) (key e' u')
            → (next g e m ≡ next g' e' m') ⊎ Lower (back (next g e m)) (back (next g' e' m'))
        by_key (inl x) =
            let i : e ≡ e' = cc in
            let j : level u ≡ level u' = cc in
            by_rest i j (before (laws.arc_one (subst (λ y. Arc t u' y m' v) (sym i) a) l.arc (sym j)))
        by_key (inr (inl x)) = inr (inl x)
        by_key (inr (inr (i, inl x))) = inr (inr (i, inl (subst (λ y. last_level g <ℤ y) k' (subst (λ y. y <ℤ level u') k x))))
        by_key (inr (inr (i, inr (j, x)))) = absurd x

    -- the walk back by the lowest arcs comes before every other segmentation at its node that is as cheap
    pub traced_first : (g g' : Seg) (v : Node) → Traced g v → Runs g' v → readings g ≡ readings g'
        → L (readings g) v ≡ some (cost g') → (g ≡ g') ⊎ Lower (back g) (back g')
    unfolding Traced Runs readings cost
    traced_first (first s m) (first s' m') v i i' n h =
        let x : s ≡ s' = laws.init_one i i' in
        let y : m ≡ m' = sym (laws.init_level i) ∙ laws.init_level i' in
        inl (cc)
    traced_first (first s m) (next g e m') v i r n h = let k = readings_pos g in absurd (omega arith)
    traced_first (next g e m) (first s m') v r i n h = let k = readings_pos g in absurd (omega arith)
    traced_first (next g e m) (next g' e' m') v (u, r, l) (u', r', a) n h =
        let q : readings g ≡ readings g' = omega arith in
        let h' : L (suc (readings g')) v ≡ some (cost g' ⊕ weight (readings g') e' m') = subst (λ n. L (suc n) v ≡ some (cost g' ⊕ weight (readings g') e' m')) q h in
        let p = on_cheapest g' u' v e' m' r' a h' in
        compare g g' u u' v e e' m m' (readings g) l (rw q a) (rw q p) (rw q h') (runs_level g u (traced_runs g u r)) (runs_level g' u' r')
        (λ x. traced_first g g' u r (subst (λ y. Runs g' y) x r') q (rw q (subst (λ y. L (readings g') y ≡ some (cost g')) x p)))

    -- ---- the end: the node to walk back from

    -- the last state and level, then going back
    unfoldable pub trail : Node → Seg → List ℤ
    trail v g = pos (state v) ∷ level v ∷ back g

    -- among the ends with a cost, one of the least; among those the lowest state, then the lowest level
    pub record BestEnd (Ends : Node → Type 0) (n : ℕ) (v : Node) : Type 0 where
      pub ends : Ends v
      pub cheapest : Cost
      pub known : L n v ≡ some cheapest
      pub lowest : (v' : Node) (c : Cost) → Ends v' → L n v' ≡ some c
          → (cheapest ≼ c) × (c ≼ cheapest → (v ≡ v') ⊎ Lower (pos (state v) ∷ level v ∷ []) (pos (state v') ∷ level v' ∷ []))

    -- it costs no more than any other, and each that costs no more than it is itself or comes later
    pub whole_first : (Ends : Node → Type 0) (g g' : Seg) (v v' : Node) → BestEnd Ends (readings g) v → Traced g v
        → Ends v' → Runs g' v' → readings g ≡ readings g'
        → (cost g ≼ cost g') × (cost g' ≼ cost g → (g ≡ g') ⊎ Lower (trail v g) (trail v' g'))
    unfolding trail
    whole_first Ends g g' v v' b r en r' n =
        let (d, p, q) = at_least g' v' r' in
        let p' : L (readings g) v' ≡ some d = rw n p in
        let same : b.cheapest ≡ cost g = some_inj b.known (traced_cost g v r) in
        let low = b.lowest v' d en p' in (
          rw (← same) (laws.trans low.0 q),
          λ h. go d q p' same (laws.antisym q (laws.trans h (subst (λ x. x ≼ d) same low.0))) h (low.1 (laws.trans q (rw same h))),
        )
      where
        go : (d : Cost) → d ≼ cost g' → L (readings g) v' ≡ some d → b.cheapest ≡ cost g → d ≡ cost g' → cost g' ≼ cost g
            → (v ≡ v') ⊎ Lower (pos (state v) ∷ level v ∷ []) (pos (state v') ∷ level v' ∷ [])
            → (g ≡ g') ⊎ Lower (trail v g) (trail v' g')
        go d q p same e h (inl x) = at_same x (traced_first g g' v r (subst (λ y. Runs g' y) (sym x) r') n (subst (λ y. L (readings g) y ≡ some (cost g')) (sym x) (p ∙ ap some e)))
          where
            at_same : v ≡ v' → (g ≡ g') ⊎ Lower (back g) (back g') → (g ≡ g') ⊎ Lower (trail v g) (trail v' g')
            at_same x (inl y) = inl y
            at_same x (inr y) = inr (inr (ap (λ w. pos (state w)) x, inr (ap level x, y)))
        go d q p same e h (inr (inl x)) = inr (inl x)
        go d q p same e h (inr (inr (i, inl x))) = inr (inr (i, inl x))
        go d q p same e h (inr (inr (i, inr (j, x)))) = absurd x

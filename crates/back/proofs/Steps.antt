-- Edges one by one, going back. Assumes nothing.
use mathlib.Core.Path.{◌≡◌, refl, sym, ◌∙◌, ap, subst}
use mathlib.Core.Logic.{◌⊎◌, inl, inr, ⊎_elim}
use mathlib.Core.List.{List}
use mathlib.Core.Option.{Option}
use mathlib.Core.Bool.{Bool, true, false, ◌&&◌}
use Prim.Native.Nat.{ℕ, ◌+◌, ◌<◌}
use native.Mathlib.Omega.{arith}
use lib.Dec.{eqb, ltb}
use borrow.Author.Tests.{ltb-true, eqb-true, lt-ltb, eq-eqb}
use Rattle.integers.specs.Rep.{le_or_lt}
use Rattle.integers.specs.Pairs.{lex}
use Rattle.plan.specs.declared.Plan.{Plan}
use Rattle.plan.specs.declared.Edge.{Edge}
use Rattle.plan.specs.declared.Label.{Label}
use Rattle.model.specs.Model.{width, edge_at, penalty, change_of}
use Rattle.model.specs.Labels.{used, count_before}
use Rattle.model.specs.Index.{no_cost, Permitted}
use Rattle.model.specs.Held.{Table, from_count, leads_at, edge_weight}
use Rattle.labels.specs.Boundary.{leads_from, leads_at_lem, leads_from_used}
use Rattle.curve.specs.declared.Low.{Low}
use Rattle.curve.specs.Lows.{low_of}
use Rattle.edges.specs.Back.{LeastOf, Offered, offered, offered_none, least_same}
use Rattle.layer.specs.declared.Shape.{Shape}
use Rattle.back.specs.Read.{Reads}
use Rattle.back.specs.Step.{meets_at, Offers, BackReady, Meets, StepFound}

-- ---- the tests

meets_yes : (v p w : ℕ) → meets_at v p w ≡ true → (v < no_cost) × (v + p ≡ w)
meets_yes v p w h = go (ltb v no_cost) refl h
  where
    go : (b : Bool) → ltb v no_cost ≡ b → (b && eqb (v + p) w) ≡ true → (v < no_cost) × (v + p ≡ w)
    go true e q = (ltb-true v no_cost e, eqb-true (v + p) w q)
    go false e q = let z : ◌≡◌ {A = ℕ} 0 1 = cc in absurd (omega arith)

meets_low : (v p w : ℕ) → v < no_cost → eqb (v + p) w ≡ meets_at v p w
meets_low v p w h = rw (lt-ltb v no_cost h) refl

-- ---- one edge

module _ {P : Plan} {o : Option Label} {t k s j : ℕ} {g : Shape} (a : BackReady P o t k s j g) where
  led : (e : ℕ) → leads_from o t (edge_at P e) k s ≡ leads_at P t e k s
  led e = ap (λ (x : Option Label). leads_from x t (edge_at P e) k s) a.on ∙ leads_at_lem P t e k s

  count_is : (e : ℕ) → count_before o t (edge_at P e).kind k ≡ from_count P t e k
  unfolding from_count
  count_is e = ap (λ (x : Option Label). count_before x t (edge_at P e).kind k) a.on

  module _ {cur : ℕ} {ws : List ℕ} {H : Table} (r : Reads (used o) cur g ws H) (want e : ℕ) (h : e < P.edgecount) (low : Low) (f : Offers o t (edge_at P e) k s j cur g ws low) where
    -- what the list costs that the edge comes from
    here : leads_at P t e k s ≡ true → LeastOf (λ (i : ℕ). Permitted (edge_at P e).kind i j) (width P) (H (from_count P t e k) (edge_at P e).from) low
    here l =
        let m = f.on (led e ∙ l) in
        let c = leads_from_used o t (edge_at P e) k s (led e ∙ l) in
        let q = least_same (λ i hi. r.at (count_before o t (edge_at P e).kind k) (edge_at P e).from i c (omega (arith, (a.checked.edge e h).from_below, a.shape.states)) hi) m in
        subst (λ (n : ℕ). LeastOf (λ (i : ℕ). Permitted (edge_at P e).kind i j) n (H (from_count P t e k) (edge_at P e).from) low) a.shape.levels
        (subst (λ (n : ℕ). LeastOf (λ (i : ℕ). Permitted (edge_at P e).kind i j) g.grid.levels (H n (edge_at P e).from) low) (count_is e) q)

    leads_or : (leads_at P t e k s ≡ true) ⊎ (leads_at P t e k s ≡ false)
    leads_or = go (leads_at P t e k s) refl
      where
        go : (b : Bool) → leads_at P t e k s ≡ b → (leads_at P t e k s ≡ true) ⊎ (leads_at P t e k s ≡ false)
        go true p = inl p
        go false p = inr p

    -- the test fails: it is not this edge
    pub not_this : meets_at (low_of low) (edge_weight P e) want ≡ false → Meets P t H k s j want e → ⊥
    not_this n (l, v, w) = ⊎_elim
        (λ x. omega (arith, offered_none (edge_at P e).kind j a.index (here l) x))
        (λ x. no (offered (edge_at P e).kind j a.index (here l) x) x)
        (le_or_lt no_cost (low_of low))
      where
        no : Offered (width P) (edge_at P e).kind (H (from_count P t e k) (edge_at P e).from) j low → low_of low < no_cost → ⊥
        no q x =
            let z : eqb (low_of low + edge_weight P e) want ≡ true = eq-eqb (low_of low + edge_weight P e) want (omega (arith, q.is)) in
            let y : ◌≡◌ {A = Bool} true false = sym z ∙ meets_low (low_of low) (edge_weight P e) want x ∙ n in
            let u : ◌≡◌ {A = ℕ} 0 1 = cc in omega arith

    -- it passes, and no edge before did
    pub is_this : meets_at (low_of low) (edge_weight P e) want ≡ true → ((e' : ℕ) → e' < e → Meets P t H k s j want e' → ⊥) → StepFound P t H k s j want e low.level (low_of low)
    is_this y lowest = ⊎_elim found (λ x. absurd (omega (arith, f.off (led e ∙ x), meets_yes (low_of low) (edge_weight P e) want y))) leads_or
      where
        found : leads_at P t e k s ≡ true → StepFound P t H k s j want e low.level (low_of low)
        found l =
            let (v, w) = meets_yes (low_of low) (edge_weight P e) want y in
            let q = offered (edge_at P e).kind j a.index (here l) v in
            record {
              known = h;
              meets = (l, omega (arith, q.is), omega (arith, q.is));
              lowest = lowest;
              value = sym q.is;
              inside = q.inside;
              permitted = q.permitted;
              at = q.at;
              first = q.first;
            }

module _ (P : Plan) (e : ℕ) (x : Edge) (q : x ≡ edge_at P e) where
  pub offers_of : {o : Option Label} {t k s j cur : ℕ} {g : Shape} {ws : List ℕ} {low : Low} → Offers o t x k s j cur g ws low → Offers o t (edge_at P e) k s j cur g ws low
  offers_of {o} {t} {k} {s} {j} {cur} {g} {ws} {low} f = subst (λ (y : Edge). Offers o t y k s j cur g ws low) q f

  -- the penalty as code looked it up
  pub test_of : (v w : ℕ) {b : Bool} (pen ch : ℕ) → pen ≡ penalty x.class → ch ≡ change_of x.kind → b ≡ meets_at v (lex pen ch) w → meets_at v (edge_weight P e) w ≡ b
  test_of v w pen ch ep ec eb =
      ap (λ (n : ℕ). meets_at v n w) (ap (λ (y : Edge). lex (penalty y.class) (change_of y.kind)) (sym q) ∙ ap (λ (n : ℕ). lex n (change_of x.kind)) (sym ep) ∙ ap (lex pen) (sym ec)) ∙ sym eb

pub none_before : (P : Plan) (t : ℕ) (H : Table) (k s j want i : ℕ) → ((e : ℕ) → e < i → Meets P t H k s j want e → ⊥) → (Meets P t H k s j want i → ⊥) → (e : ℕ) → e < i + 1 → Meets P t H k s j want e → ⊥
none_before P t H k s j want i f n e h m = ⊎_elim (λ q. let z : e ≡ i = omega arith in n (subst (λ (x : ℕ). Meets P t H k s j want x) z m)) (λ q. f e q m) (le_or_lt i e)

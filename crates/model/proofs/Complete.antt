-- The listing is complete, its tests are the rules of the model, and so the listed answer is the first segmentation and the listed cost at a
-- point the least. Assumes nothing.
use Rattle.std.proofs.Math.Path.{◌≡◌, refl}
use Rattle.std.proofs.Common.{sym, ◌∙◌, ap, subst}
use Rattle.std.specs.Prelude.{◌⊎◌, Bool, false, cond, leb, ltb, eqb, ℤ, length}
use Rattle.std.proofs.Math.Logic.{inl, inr}
use Rattle.std.proofs.Math.Option.{Option, none, some, some-injective}
use mathlib.Core.List.{List, [], ◌∷◌, ◌++◌}
use Rattle.std.proofs.Math.Bool.{true}
use Prim.Native.Nat.{ℕ, zero, suc, ◌≤◌, ◌<◌, min}
use native.Mathlib.Omega.{arith}
use Rattle.std.proofs.Math.Decide.{dec_le, ℕ_discrete}
use borrow.Author.Tests.{ltb-true, ltb-false, leb-true, leb-false, eqb-true, lt-ltb, le-leb, eq-eqb}
use Rattle.std.specs.Int.Signed.{le_z, ≤ℤ_refl}
use Rattle.integers.specs.Rep.{nz, lt_n}
use Rattle.plan.specs.declared.Plan.{Plan}
use Rattle.plan.specs.declared.Label.{Label}
use Rattle.plan.specs.Build.{plan_number}
use Rattle.model.specs.Segmentation.{Seg, first, next, readings, last_level, Lower, readings_pos}
use Rattle.model.specs.Model.{edge_at, label_at, above, width, permits, in_set, on_grid, last_state, Follows, cost, need, changes, asked, Exactly, AtMost, HoldsAt, KeepsLabels, Allowed, AllowedWhole, LeastCost, order, First}
use Rattle.model.specs.Listed.{each, each_of, every_seg, follows_test, exactly_test, at_most_test, holds_test, all_below, allowed_test, whole_test, point_test, keep, lower_test, key, earlier, first_in, listed, lowest, least_in, listed_cost}
use Rattle.model.specs.Lists.{In}
use Rattle.model.proofs.Lists.{in_left, in_right}
use Rattle.model.proofs.Bools.{clash, and_yes, yes_and}
use Rattle.model.proofs.Grid.{grid_index, le_z_true, le_z_both}
use Rattle.model.proofs.Order.{lower_yes, lower_no, lower_trans, back_length, order_one}
use Rattle.model.proofs.Checked.{checked}

-- ---- what is listed and kept

in_each : {A : Type 0} (x : A) (n : ℕ) (f : ℕ → List A) (i : ℕ) → i < n → In x (f i) → In x (each n f)
unfolding each
in_each x zero f i h k = absurd (omega arith)
in_each x (suc n) f i h k = go (ℕ_discrete i n) (in_each x n f i)
  where
    go : Dec (i ≡ n) → (i < n → In x (f i) → In x (each n f)) → In x (each n f ++ f n)
    go (yes e) ih = in_right x (each n f) (f n) (subst (λ (j : ℕ). In x (f j)) e k)
    go (no e) ih = in_left x (each n f) (f n) (ih (omega arith) k)

in_each_of : {A B : Type 0} (y : B) (xs : List A) (f : A → List B) (x : A) → In x xs → In y (f x) → In y (each_of xs f)
unfolding each_of
in_each_of y [] f x h k = absurd h
in_each_of {A} y (z ∷ xs) f x (inl e) k = in_left y (f z) (each_of xs f) (subst (λ (w : A). In y (f w)) e k)
in_each_of y (z ∷ xs) f x (inr h) k = in_right y (f z) (each_of xs f) (in_each_of y xs f x h k)

pub in_keep : {A : Type 0} (t : A → Bool) (x : A) (xs : List A) → In x xs → t x ≡ true → In x (keep t xs)
unfolding keep
in_keep t x [] h p = absurd h
in_keep {A} t x (z ∷ xs) h p = go (t z) refl h (in_keep t x xs)
  where
    go : (b : Bool) → t z ≡ b → (x ≡ z) ⊎ In x xs → (In x xs → t x ≡ true → In x (keep t xs)) → In x (cond b (z ∷ keep t xs) (keep t xs))
    go true e (inl q) ih = inl q
    go true e (inr q) ih = inr (ih q p)
    go false e (inl q) ih = let w : ◌≡◌ {A = Bool} true false = sym p ∙ ap t q ∙ e in clash (sym w)
    go false e (inr q) ih = ih q p

pub keep_in : {A : Type 0} (t : A → Bool) (x : A) (xs : List A) → In x (keep t xs) → t x ≡ true
unfolding keep
keep_in t x [] h = absurd h
keep_in t x (z ∷ xs) h = go (t z) refl h (keep_in t x xs)
  where
    go : (b : Bool) → t z ≡ b → In x (cond b (z ∷ keep t xs) (keep t xs)) → (In x (keep t xs) → t x ≡ true) → t x ≡ true
    go true e (inl q) ih = ap t q ∙ e
    go true e (inr q) ih = ih q
    go false e q ih = ih q

-- ---- the listing is complete

module _ (P : Plan) (built : plan_number P ≡ 0) where
  every_one : (t : ℕ) (g : Seg) → readings g ≡ suc t → Follows P g → In g (every_seg P (suc t))
  unfolding every_seg readings Follows
  every_one zero (first s m) n f =
      let (h, e) = grid_index P m f.1 in
      in_each (first s m) P.states _ s ((checked P built).starts s f.0) (in_each (first s m) (width P) _ (above P.lo m) h (inl (ap (first s) (sym e))))
  every_one zero (next g e m) n f = absurd (omega (arith, readings_pos g))
  every_one (suc t) (first s m) n f = absurd (omega arith)
  every_one (suc t) (next g e m) n f =
      let (h, i) = grid_index P m f.4 in
      in_each_of (next g e m) (every_seg P (suc t)) _ g (every_one t g (omega arith) f.0)
      (in_each (next g e m) P.edgecount _ e f.1 (in_each (next g e m) (width P) _ (above P.lo m) h (inl (ap (next g e) (sym i)))))

  -- every segmentation that keeps the edge rules of the plan is listed
  pub every_listed : (n : ℕ) (g : Seg) → readings g ≡ n → Follows P g → In g (every_seg P n)
  every_listed zero g e f = absurd (omega (arith, readings_pos g))
  every_listed (suc t) g e f = every_one t g e f

-- ---- the tests are the rules

all_yes : (f : ℕ → Bool) (n i : ℕ) → all_below f n ≡ true → i < n → f i ≡ true
unfolding all_below
all_yes f zero i p h = absurd (omega arith)
all_yes f (suc n) i p h = let (a, b) = and_yes (all_below f n) (f n) p in go a b (ℕ_discrete i n) (all_yes f n i)
  where
    go : all_below f n ≡ true → f n ≡ true → Dec (i ≡ n) → (all_below f n ≡ true → i < n → f i ≡ true) → f i ≡ true
    go a b (yes e) ih = rw e b
    go a b (no e) ih = ih a (omega arith)

yes_all : (f : ℕ → Bool) (n : ℕ) → ((i : ℕ) → i < n → f i ≡ true) → all_below f n ≡ true
unfolding all_below
yes_all f zero h = refl
yes_all f (suc n) h = yes_and (all_below f n) (f n) (yes_all f n (λ i k. h i (omega arith))) (h n (omega arith))

module _ (P : Plan) where
  test_follows : (g : Seg) → follows_test P g ≡ true → Follows P g
  unfolding follows_test Follows
  test_follows (first s m) h = and_yes (in_set P.start s) (on_grid P m) h
  test_follows (next g e m) h =
      let (a, r) = and_yes (follows_test P g) _ h in
      let (b, r₁) = and_yes (ltb e P.edgecount) _ r in
      let (c, r₂) = and_yes (eqb (edge_at P e).from (last_state P g)) _ r₁ in
      let (d, k) = and_yes (permits (edge_at P e).kind (last_level g) m) (on_grid P m) r₂ in
      (test_follows g a, ltb-true e P.edgecount b, eqb-true (edge_at P e).from (last_state P g) c, d, k)

  follows_test_lem : (g : Seg) → Follows P g → follows_test P g ≡ true
  unfolding follows_test Follows
  follows_test_lem (first s m) h = yes_and _ _ h.0 h.1
  follows_test_lem (next g e m) h =
      yes_and _ _ (follows_test_lem g h.0) (yes_and _ _ (lt-ltb e P.edgecount h.1) (yes_and _ _ (eq-eqb _ _ h.2) (yes_and _ _ h.3 h.4)))

test_exactly : (l : Label) (x y : ℕ) → exactly_test l x y ≡ true → Exactly l x y
unfolding exactly_test
test_exactly l x y h = let (a, b) = and_yes (eqb x (need l)) (eqb y (need l)) h in (eqb-true x (need l) a, eqb-true y (need l) b)

exactly_test_lem : (l : Label) (x y : ℕ) → Exactly l x y → exactly_test l x y ≡ true
unfolding exactly_test
exactly_test_lem l x y (a, b) = yes_and _ _ (eq-eqb x (need l) a) (eq-eqb y (need l) b)

test_at_most : (l : Label) (x y : ℕ) → at_most_test l x y ≡ true → AtMost l x y
unfolding at_most_test
test_at_most l x y h = let (a, b) = and_yes (leb x (need l)) (eqb y x) h in (leb-true x (need l) a, eqb-true y x b)

at_most_test_lem : (l : Label) (x y : ℕ) → AtMost l x y → at_most_test l x y ≡ true
unfolding at_most_test
at_most_test_lem l x y (a, b) = yes_and _ _ (le-leb x (need l) a) (eq-eqb y x b)

test_holds : (l : Label) (n x y : ℕ) → holds_test l n x y ≡ true → HoldsAt l n x y
unfolding holds_test
test_holds l n x y h = go (leb l.q n) refl h
  where
    inner : (b : Bool) → ltb l.p n ≡ b → l.p < n → cond b (at_most_test l x y) true ≡ true → AtMost l x y
    inner true e k r = test_at_most l x y r
    inner false e k r = absurd (omega (arith, ltb-false l.p n e))

    go : (b : Bool) → leb l.q n ≡ b → cond b (exactly_test l x y) (cond (ltb l.p n) (at_most_test l x y) true) ≡ true → HoldsAt l n x y
    go true e r = let k = leb-true l.q n e in record { closed = λ a. test_exactly l x y r; open' = λ a b. absurd (omega arith) }
    go false e r = let k = leb-false l.q n e in record { closed = λ a. absurd (omega arith); open' = λ a b. inner (ltb l.p n) refl a r }

holds_test_lem : (l : Label) (n x y : ℕ) → HoldsAt l n x y → holds_test l n x y ≡ true
unfolding holds_test
holds_test_lem l n x y h = go (leb l.q n) refl
  where
    inner : (b : Bool) → ltb l.p n ≡ b → n < l.q → cond b (at_most_test l x y) true ≡ true
    inner true e k = at_most_test_lem l x y (h.open' (ltb-true l.p n e) k)
    inner false e k = refl

    go : (b : Bool) → leb l.q n ≡ b → cond b (exactly_test l x y) (cond (ltb l.p n) (at_most_test l x y) true) ≡ true
    go true e = exactly_test_lem l x y (h.closed (leb-true l.q n e))
    go false e = inner (ltb l.p n) refl (leb-false l.q n e)

module _ (P : Plan) (n : ℕ) (g : Seg) where
  test_allowed : allowed_test P n g ≡ true → Allowed P n g
  unfolding allowed_test KeepsLabels
  test_allowed h =
      let (a, r) = and_yes (eqb (readings g) n) _ h in
      let (b, c) = and_yes (follows_test P g) _ r in
      record {
        count = eqb-true (readings g) n a;
        follows = test_follows P g b;
        labels = λ i k. test_holds _ _ _ _ (all_yes _ P.labelcount i c k);
      }

  allowed_test_lem : Allowed P n g → allowed_test P n g ≡ true
  unfolding allowed_test KeepsLabels
  allowed_test_lem a =
      yes_and _ _ (eq-eqb _ _ a.count) (yes_and _ _ (follows_test_lem P g a.follows)
      (yes_all _ P.labelcount (λ i k. holds_test_lem _ _ _ _ (a.labels i k))))

  pub test_whole : whole_test P n g ≡ true → AllowedWhole P n g
  unfolding whole_test
  test_whole h =
      let (a, r) = and_yes (eqb (readings g) n) _ h in
      let (b, r₁) = and_yes (follows_test P g) _ r in
      let (c, d) = and_yes (all_below (λ i. exactly_test (label_at P i) (changes P (label_at P i) g) (asked P (label_at P i) g)) P.labelcount) (in_set P.end (last_state P g)) r₁ in
      record {
        count = eqb-true (readings g) n a;
        follows = test_follows P g b;
        labels = λ i k. test_exactly _ _ _ (all_yes _ P.labelcount i c k);
        ends = d;
      }

  pub whole_test_lem : AllowedWhole P n g → whole_test P n g ≡ true
  unfolding whole_test
  whole_test_lem a =
      yes_and _ _ (eq-eqb _ _ a.count) (yes_and _ _ (follows_test_lem P g a.follows)
      (yes_and _ _ (yes_all _ P.labelcount (λ i k. exactly_test_lem _ _ _ (a.labels i k))) a.ends))

  module _ (s : ℕ) (m : ℤ) where
    test_point : point_test P n s m g ≡ true → Allowed P n g × (last_state P g ≡ s) × (last_level g ≡ m)
    unfolding point_test
    test_point h =
        let (a, r) = and_yes (allowed_test P n g) _ h in
        let (b, r₁) = and_yes (eqb (last_state P g) s) _ r in
        let (c, d) = and_yes (le_z (last_level g) m) (le_z m (last_level g)) r₁ in
        (test_allowed a, eqb-true _ _ b, le_z_both (last_level g) m c d)

    point_test_lem : Allowed P n g → last_state P g ≡ s → last_level g ≡ m → point_test P n s m g ≡ true
    unfolding point_test
    point_test_lem a p q =
        let e : le_z m m ≡ true = le_z_true m m (≤ℤ_refl m) in
        yes_and _ _ (allowed_test_lem a) (yes_and _ _ (eq-eqb _ _ p) (rw q (yes_and _ _ e e)))

-- ---- the fold keeps the first

module _ (P : Plan) (zs : List ℤ) where
  abbrev Before : Seg → Seg → Type 0
  Before g g' = (g ≡ g') ⊎ Lower (key P zs g) (key P zs g')

  before_trans : (a b c : Seg) → Before a b → Before b c → Before a c
  before_trans a b c (inl e) k = subst (λ (x : Seg). Before x c) (sym e) k
  before_trans a b c (inr h) (inl e) = inr (subst (λ (x : Seg). Lower (key P zs a) (key P zs x)) e h)
  before_trans a b c (inr h) (inr k) = inr (lower_trans (key P zs a) (key P zs b) (key P zs c) h k)

  not_lower : (g g' : Seg) → readings g ≡ readings g' → Follows P g → Follows P g' → lower_test (key P zs g) (key P zs g') ≡ false → Before g' g
  unfolding key order
  not_lower g g' n f f' h = go (lower_no (key P zs g) (key P zs g') (ap (λ (k : ℕ). suc (suc (suc (suc k)))) (back_length g g' n)) h)
    where
      go : (key P zs g ≡ key P zs g') ⊎ Lower (key P zs g') (key P zs g) → Before g' g
      go (inl e) = let o : order P g ≡ order P g' = cc in inl (sym (order_one P g g' f f' o))
      go (inr l) = inr l

  first_some : (gs : List Seg) (g : Seg) → first_in P zs gs ≡ none → In g gs → ⊥
  unfolding first_in
  first_some [] g e h = h
  first_some (y ∷ ys) g e h = let z : ◌≡◌ {A = ℕ} 0 1 = cc in omega arith

  module _ (n : ℕ) where
    first_in_lem : (gs : List Seg) (g : Seg) → ((g : Seg) → In g gs → (readings g ≡ n) × Follows P g) → first_in P zs gs ≡ some g
        → In g gs × ((g' : Seg) → In g' gs → Before g g')
    unfolding first_in
    first_in_lem [] g alike p = let z : ◌≡◌ {A = ℕ} 0 1 = cc in absurd (omega arith)
    first_in_lem (x ∷ gs) g alike p = go (first_in P zs gs) refl (some-injective _ g p) (λ y. first_in_lem gs y (λ h k. alike h (inr k)))
      where
        Best : Seg → Type 0
        Best g = In g (x ∷ gs) × ((g' : Seg) → In g' (x ∷ gs) → Before g g')

        against : (y : Seg) → Before y x → ((g' : Seg) → In g' gs → Before y g') → (g' : Seg) → (g' ≡ x) ⊎ In g' gs → Before y g'
        against y h k g' (inl e) = subst (λ (w : Seg). Before y w) (sym e) h
        against y h k g' (inr i) = k g' i

        by_test : (y : Seg) (b : Bool) → lower_test (key P zs y) (key P zs x) ≡ b → (In y gs × ((g' : Seg) → In g' gs → Before y g')) → Best (cond b y x)
        by_test y true e (i, k) = (inr i, against y (inr (lower_yes (key P zs y) (key P zs x) e)) k)
        by_test y false e (i, k) =
            let (r, f) = alike y (inr i) in
            let (r', f') = alike x (inl refl) in
            let h = not_lower y x (r ∙ sym r') f f' e in
            (inl refl, against x (inl refl) (λ g' l. before_trans x y g' h (k g' l)))

        go : (o : Option Seg) → first_in P zs gs ≡ o → earlier P zs x o ≡ g
            → ((y : Seg) → first_in P zs gs ≡ some y → In y gs × ((g' : Seg) → In g' gs → Before y g')) → Best g
        go none e q ih = subst (λ (w : Seg). Best w) q (inl refl, against x (inl refl) (λ g' l. absurd (first_some gs g' e l)))
        go (some y) e q ih = subst (λ (w : Seg). Best w) q (by_test y (lower_test (key P zs y) (key P zs x)) refl (ih y e))

-- ---- the listed answer is the first, and is none exactly where no segmentation is allowed

module _ (P : Plan) (zs : List ℤ) (built : plan_number P ≡ 0) where
  abbrev n : ℕ
  n = length zs

  -- what is kept of the listing is what is allowed
  pub kept : (g : Seg) → AllowedWhole P n g → In g (keep (whole_test P n) (every_seg P n))
  kept g a = in_keep (whole_test P n) g (every_seg P n) (every_listed P built n g a.count a.follows) (whole_test_lem P n g a)

  pub kept_allowed : (g : Seg) → In g (keep (whole_test P n) (every_seg P n)) → AllowedWhole P n g
  kept_allowed g h = test_whole P n g (keep_in (whole_test P n) g (every_seg P n) h)

  cheap : (g g' : Seg) → Before P zs g g' → cost P zs g ≤ cost P zs g'
  unfolding key
  cheap g g' (inl e) = rw e (omega arith)
  cheap g g' (inr (inl h)) = omega (arith, lt_n (nz (cost P zs g)) (nz (cost P zs g')) h)
  cheap g g' (inr (inr (e, h))) = let c : cost P zs g ≡ cost P zs g' = cc in omega arith

  tie : (g g' : Seg) → Before P zs g g' → cost P zs g ≡ cost P zs g' → (g ≡ g') ⊎ Lower (order P g) (order P g')
  unfolding key
  tie g g' (inl e) c = inl e
  tie g g' (inr (inl h)) c = absurd (omega (arith, lt_n (nz (cost P zs g)) (nz (cost P zs g')) h))
  tie g g' (inr (inr (e, h))) c = inr h

  pub listed_first : (g : Seg) → listed P zs ≡ some g → First P zs g
  unfolding listed
  listed_first g p =
      let gs = keep (whole_test P n) (every_seg P n) in
      let (i, b) = first_in_lem P zs n gs g (λ h k. let a = kept_allowed h k in (a.count, a.follows)) p in
      record { allowed = kept_allowed g i; cheapest = λ g' a. cheap g g' (b g' (kept g' a)); before = λ g' a. tie g g' (b g' (kept g' a)) }

  pub listed_none : listed P zs ≡ none → (g : Seg) → AllowedWhole P n g → ⊥
  unfolding listed
  listed_none p g a = first_some P zs (keep (whole_test P n) (every_seg P n)) g p (kept g a)

-- ---- the listed cost at a point is the least, and is none exactly where no segmentation ends there

pub least_some : (P : Plan) (zs : List ℤ) (gs : List Seg) (g : Seg) → least_in P zs gs ≡ none → In g gs → ⊥
unfolding least_in
least_some P zs [] g e h = h
least_some P zs (y ∷ ys) g e h = let z : ◌≡◌ {A = ℕ} 0 1 = cc in omega arith

pub least_in_lem : (P : Plan) (zs : List ℤ) (gs : List Seg) (c : ℕ) → least_in P zs gs ≡ some c
    → ((g : Seg) × In g gs × (cost P zs g ≡ c)) × ((g : Seg) → In g gs → c ≤ cost P zs g)
unfolding least_in
least_in_lem P zs [] c p = let z : ◌≡◌ {A = ℕ} 0 1 = cc in absurd (omega arith)
least_in_lem P zs (x ∷ gs) c p = go (least_in P zs gs) refl (some-injective _ c p) (least_in_lem P zs gs)
  where
    Best : ℕ → Type 0
    Best c = ((g : Seg) × In g (x ∷ gs) × (cost P zs g ≡ c)) × ((g : Seg) → In g (x ∷ gs) → c ≤ cost P zs g)

    all : (c : ℕ) → c ≤ cost P zs x → ((g : Seg) → In g gs → c ≤ cost P zs g) → (g : Seg) → In g (x ∷ gs) → c ≤ cost P zs g
    all c h k g (inl e) = subst (λ (y : Seg). c ≤ cost P zs y) (sym e) h
    all c h k g (inr i) = k g i

    with_more : (d : ℕ) → ((g : Seg) × In g gs × (cost P zs g ≡ d)) × ((g : Seg) → In g gs → d ≤ cost P zs g) → Dec (cost P zs x ≤ d) → Best (min (cost P zs x) d)
    with_more d ((g, i, e), b) (yes h) = ((x, inl refl, omega arith), all (min (cost P zs x) d) (omega arith) (λ g' k. omega (arith, b g' k)))
    with_more d ((g, i, e), b) (no h) = ((g, inr i, omega arith), all (min (cost P zs x) d) (omega arith) (λ g' k. omega (arith, b g' k)))

    go : (o : Option ℕ) → least_in P zs gs ≡ o → lowest (cost P zs x) o ≡ c
        → ((d : ℕ) → least_in P zs gs ≡ some d → ((g : Seg) × In g gs × (cost P zs g ≡ d)) × ((g : Seg) → In g gs → d ≤ cost P zs g)) → Best c
    go none e q ih = subst (λ (y : ℕ). Best y) q ((x, inl refl, refl), all (cost P zs x) (omega arith) (λ g i. absurd (least_some P zs gs g e i)))
    go (some d) e q ih = subst (λ (y : ℕ). Best y) q (with_more d (ih d e) (dec_le (cost P zs x) d))

module _ (P : Plan) (zs : List ℤ) (built : plan_number P ≡ 0) (s : ℕ) (m : ℤ) where
  abbrev len : ℕ
  len = length zs

  pub kept_point : (g : Seg) → Allowed P len g → last_state P g ≡ s → last_level g ≡ m → In g (keep (point_test P len s m) (every_seg P len))
  kept_point g a p q =
      in_keep (point_test P len s m) g (every_seg P len) (every_listed P built len g a.count a.follows) (point_test_lem P len g s m a p q)

  pub kept_point_allowed : (g : Seg) → In g (keep (point_test P len s m) (every_seg P len)) → Allowed P len g × (last_state P g ≡ s) × (last_level g ≡ m)
  kept_point_allowed g h = test_point P len g s m (keep_in (point_test P len s m) g (every_seg P len) h)

  pub listed_least : (c : ℕ) → listed_cost P zs s m ≡ some c → LeastCost P zs len s m c
  unfolding listed_cost
  listed_least c p =
      let ((g, i, e), b) = least_in_lem P zs (keep (point_test P len s m) (every_seg P len)) c p in
      let (a, ps, pm) = kept_point_allowed g i in
      record { met = (g, a, ps, pm, e); least = λ g' a' p' q'. b g' (kept_point g' a' p' q') }

  pub listed_point_none : listed_cost P zs s m ≡ none → (g : Seg) → Allowed P len g → last_state P g ≡ s → last_level g ≡ m → ⊥
  unfolding listed_cost
  listed_point_none p g a q r = least_some P zs (keep (point_test P len s m) (every_seg P len)) g p (kept_point g a q r)

-- there is one least cost
pub least_one : (P : Plan) (zs : List ℤ) (n s : ℕ) (m : ℤ) (c d : ℕ) → LeastCost P zs n s m c → LeastCost P zs n s m d → c ≡ d
least_one P zs n s m c d x y =
    let (g, a, p, q, e) = x.met in
    let (g', a', p', q', e') = y.met in
    omega (arith, x.least g' a' p' q', y.least g a p q)

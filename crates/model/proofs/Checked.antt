-- What the plan check (`plan_number P ≡ 0`), and a search, a point, a table of costs for each number of changes or a moving window that no earlier
-- number refuses, ensure: the proofs of the model rest on these facts alone, and none is assumed. Assumes nothing.
use Rattle.std.specs.Prelude.{◌≡◌, Bool, ◌⊎◌, List, [], ◌∷◌, ℕ, zero, suc, ◌-◌, ◌/◌, ◌%◌, ◌^◌, ◌≤◌, ◌<◌, leb, ltb, eqb, ℤ, pos, negsuc, ◌-ℤ◌, get_or}
use Rattle.std.proofs.Math.Path.{refl}
use Rattle.std.proofs.Common.{sym, ◌∙◌, ap, inl, inr, arith}
use Rattle.std.proofs.Math.Bool.{true, false}
use Rattle.std.proofs.Math.Numerals.{unary_clauses}
use Rattle.std.proofs.Math.Nat.{div-eq_of_lt, pow-le-pow_right}
use Rattle.std.proofs.Math.Decide.{dec_lt, ℕ_discrete}
use borrow.Author.Tests.{ltb-true, ltb-false, leb-true, leb-false, eqb-true, eqb-false, le-leb, lt-leb, eq-eqb, ne_eqb}
use Rattle.std.specs.Int.Signed.{le_z, lt_z, le_z_yes}
use Rattle.integers.specs.Rep.{iz, nz, ◌⊕◌, ◌⊖◌, eq_n, le_n, holds}
use Rattle.plan.specs.declared.Plan.{Plan}
use Rattle.plan.specs.declared.Edge.{Edge}
use Rattle.plan.specs.declared.Label.{Label}
use Rattle.plan.specs.Build.{pick, any_below, first_below, kind_number, gap_of, kind_of, kind_at, with_kind, edge_of, same_edge, has_edge, no_edge, no_label, read_edge, fresh_edge, edge_step, edge_step_number, entry_number, edges_number, label_number, labels_number, grid_ok, mask_ok, states_ok, open_number, or_else, plan_number}
use Rattle.model.specs.Model.{edge_at, label_at, above, width, in_set, on_grid}
use Rattle.model.proofs.Bools.{clash}
use Rattle.model.proofs.Grid.{above_add}
use Rattle.plan.specs.Counts.{count_within, count_ok, long_ok, count_is, long_is}
unfoldable pub use Rattle.model.specs.Refusals.{late, search_number, point_number, table_number, window_ok, window_number}
use Rattle.model.specs.Checked.{Accepted, AcceptedPoint, AcceptedWindow, Checked, early_numbers, every, holds_early, is_early, is_in}
use Rattle.std.specs.Prelude.{Option, Some, None}
use Rattle.plan.specs.Build.{RefuseEdge}

-- ---- a number that is 0 passed every test

zero_if : (b : Bool) (x y : ℕ) → (x ≡ 0 → ⊥) → pick b x y ≡ 0 → (b ≡ false) × (y ≡ 0)
zero_if true x y h p = absurd (h p)
zero_if false x y h p = (refl, p)

zero_else : (b : Bool) (x y : ℕ) → (y ≡ 0 → ⊥) → pick b x y ≡ 0 → (b ≡ true) × (x ≡ 0)
zero_else true x y h p = (refl, p)
zero_else false x y h p = absurd (h p)

or_zero : (a b : ℕ) → or_else a b ≡ 0 → (a ≡ 0) × (b ≡ 0)
or_zero a b p = go (eqb a 0) refl p
  where
    go : (t : Bool) → eqb a 0 ≡ t → pick t b a ≡ 0 → (a ≡ 0) × (b ≡ 0)
    go true e q = (eqb-true a 0 e, q)
    go false e q = absurd (eqb-false a 0 e q)

yes_if : (b x : Bool) → pick b false x ≡ true → (b ≡ false) × (x ≡ true)
yes_if true x p = clash p
yes_if false x p = (refl, p)

yes_both : (b x : Bool) → pick b x false ≡ true → (b ≡ true) × (x ≡ true)
yes_both true x p = (refl, p)
yes_both false x p = clash p

first_zero : (f : ℕ → ℕ) (n i : ℕ) → first_below f n ≡ 0 → i < n → f i ≡ 0
unfolding first_below
first_zero f zero i p h = absurd (omega arith)
first_zero f (suc n) i p h =
    let (a, b) = or_zero (first_below f n) (f n) p in
    go a b (ℕ_discrete i n) (first_zero f n i)
  where
    go : first_below f n ≡ 0 → f n ≡ 0 → Dec (i ≡ n) → (first_below f n ≡ 0 → i < n → f i ≡ 0) → f i ≡ 0
    go a b (yes e) ih = rw e b
    go a b (no e) ih = ih a (omega arith)

any_not : (f : ℕ → Bool) (n i : ℕ) → any_below f n ≡ false → i < n → f i ≡ false
unfolding any_below
any_not f zero i p h = absurd (omega arith)
any_not f (suc n) i p h = go (any_below f n) refl p (ℕ_discrete i n) (any_not f n i)
  where
    go : (b : Bool) → any_below f n ≡ b → pick b true (f n) ≡ false → Dec (i ≡ n) → (any_below f n ≡ false → i < n → f i ≡ false) → f i ≡ false
    go true e q d ih = clash (sym q)
    go false e q (yes k) ih = rw k q
    go false e q (no k) ih = ih e (omega arith)

-- ---- opening

grid_le : (lo hi : ℤ) → lt_z hi lo ≡ false → le_z lo hi ≡ true
grid_le (pos a) (pos b) h = le-leb a b (ltb-false b a h)
grid_le (pos a) (negsuc b) h = clash (sym h)
grid_le (negsuc a) (pos b) h = refl
grid_le (negsuc a) (negsuc b) h = le-leb b a (ltb-false a b h)

grid_narrow : (lo hi : ℤ) → le_z lo hi ≡ true → le_z (hi -ℤ lo) (pos 1023) ≡ true → above lo hi ≤ 1023
grid_narrow lo hi h k =
    let e = eq_n (iz lo ⊕ nz (above lo hi)) (iz hi) (above_add lo hi h) in
    let l = le_n (iz hi ⊖ iz lo) (nz 1023) (le_z_yes (holds k)) in
    omega arith

mask_below : (m n s : ℕ) → mask_ok n m ≡ true → in_set m s ≡ true → s < n
unfolding in_set
mask_below m n s h k = go (dec_lt s n)
  where
    go : Dec (s < n) → s < n
    go (yes l) = l
    go (no l) =
        let b = ltb-true m (2 ^ n) (yes_if (eqb m 0) (ltb m (2 ^ n)) h).1 in
        let p : 2 ^ n ≤ 2 ^ s = pow-le-pow_right {n = 2} (omega arith) {i = n} {j = s} (omega arith) in
        let z : m / 2 ^ s ≡ 0 = div-eq_of_lt (omega arith) in
        let w : (m / 2 ^ s) % 2 ≡ 1 = eqb-true (m / 2 ^ s % 2) 1 k in
        let v : 0 % 2 ≡ 1 = rw z at w in
        absurd (omega arith)

-- ---- edges

is_if : (b : Bool) (x : Option Edge) (e : Edge) → pick b x None ≡ Some e → (b ≡ true) × (x ≡ Some e)
is_if true x e h = (refl, h)
is_if false x e h = let z : ◌≡◌ {A = ℕ} 0 1 = cc in absurd (omega arith)

step_zero : (b : Bool) (es : List Edge) (n f t k : ℕ) (r : Option Edge) → edge_step_number (pick b (RefuseEdge 10) (read_edge es n f t k r)) ≡ 0
    → (b ≡ false) × (e : Edge) × (r ≡ Some e) × (has_edge es n f t k ≡ false)
step_zero true es n f t k r p = absurd (omega arith)
step_zero false es n f t k None p = absurd (omega arith)
step_zero false es n f t k (Some e) p = go (has_edge es n f t k) refl p
  where
    go : (b : Bool) → has_edge es n f t k ≡ b → edge_step_number (fresh_edge b e) ≡ 0 → (false ≡ false) × (e' : Edge) × (Some e ≡ Some e') × (has_edge es n f t k ≡ false)
    go true i q = absurd (omega arith)
    go false i q = (refl, e, refl, i)

kind_low : (f t c k g : ℕ) (e : Edge) → with_kind f t c (kind_of k g) ≡ Some e → g ≤ 1023
kind_low f t c k g e h = go (ltb 1023 g) refl h
  where
    go : (b : Bool) → ltb 1023 g ≡ b → with_kind f t c (pick b None (kind_at k g)) ≡ Some e → g ≤ 1023
    go true i q = let z : ◌≡◌ {A = ℕ} 0 1 = cc in absurd (omega arith)
    go false i q = ltb-false 1023 g i

abbrev Good : ℕ → Edge → Type 0
Good S e = (e.from < S) × (e.to < S) × (e.class ≤ 15) × (gap_of e.kind ≤ 1023)

entry_good : (S : ℕ) (es : List Edge) (n : ℕ) (e : Edge) → entry_number S es n e ≡ 0
    → (n < 32) × Good S e × (has_edge es n e.from e.to (kind_number e.kind) ≡ false)
unfolding entry_number edge_step edge_of
entry_good S es n e p =
    let f = e.from in
    let t = e.to in
    let c = e.class in
    let k = kind_number e.kind in
    let g = gap_of e.kind in
    let (a, x, r, h) = step_zero (leb 32 n) es n f t k (edge_of S f t k g c) p in
    let (b₁, r₁) = is_if (ltb f S) (pick (ltb t S) (pick (leb c 15) (with_kind f t c (kind_of k g)) None) None) x r in
    let (b₂, r₂) = is_if (ltb t S) (pick (leb c 15) (with_kind f t c (kind_of k g)) None) x r₁ in
    let (b₃, r₃) = is_if (leb c 15) (with_kind f t c (kind_of k g)) x r₂ in
    (leb-false 32 n a, (ltb-true f S b₁, ltb-true t S b₂, leb-true c 15 b₃, kind_low f t c k g x r₃), h)

-- ---- labels

label_good : (ls : List Label) (n : ℕ) (l : Label) → label_number ls n l ≡ 0
    → (n < 64) × (1 ≤ l.p) × (l.p < l.q) × (l.q ≤ 4096) × ((n ≡ 0) ⊎ ((get_or ls (n - 1) no_label).q ≤ l.p))
unfolding label_number
label_good ls n l h₀ =
    let (a₁, h₁) = zero_if (leb 64 n) 10 _ (λ e. omega arith) h₀ in
    let (a₂, h₂) = zero_if (eqb l.p 0) 8 _ (λ e. omega arith) h₁ in
    let (a₃, h₃) = zero_if (leb l.q l.p) 8 _ (λ e. omega arith) h₂ in
    let (a₄, h₄) = zero_if (ltb 4096 l.q) 8 _ (λ e. omega arith) h₃ in
    let (a₅, h₅) = zero_if (ltb 9 l.c) 8 _ (λ e. omega arith) h₄ in
    let p : l.p ≡ 0 → ⊥ = eqb-false l.p 0 a₂ in
    (leb-false 64 n a₁, omega (arith, p), leb-false l.q l.p a₃, ltb-false 4096 l.q a₄, go (eqb n 0) refl h₅)
  where
    go : (b : Bool) → eqb n 0 ≡ b → ◌≡◌ {A = ℕ} (pick b 0 (pick (ltb l.p (get_or ls (n - 1) no_label).q) 12 0)) 0 → (n ≡ 0) ⊎ ((get_or ls (n - 1) no_label).q ≤ l.p)
    go true e q = inl (eqb-true n 0 e)
    go false e q = inr (ltb-false l.p _ (zero_if (ltb l.p (get_or ls (n - 1) no_label).q) 12 0 (λ e. omega arith) q).0)

count_low : (n k : ℕ) → ((i : ℕ) → i < n → i < k) → n ≤ k
count_low zero k h = omega arith
count_low (suc n) k h = omega (arith, h n (omega arith))

module _ (ls : List Label) (n : ℕ) (good : (i : ℕ) → i < n → label_number ls i (get_or ls i no_label) ≡ 0) where
  abbrev at : ℕ → Label
  at i = get_or ls i no_label

  apart : (i j : ℕ) → i < j → j < n → (at i).q ≤ (at j).p
  apart i zero h k = absurd (omega arith)
  apart i (suc j) h k = go (ℕ_discrete i j) (apart i j) (label_good ls (suc j) (at (suc j)) (good (suc j) k)) (label_good ls j (at j) (good j (omega arith)))
    where
      Facts : ℕ → Type 0
      Facts n = (n < 64) × (1 ≤ (at n).p) × ((at n).p < (at n).q) × ((at n).q ≤ 4096) × ((n ≡ 0) ⊎ ((get_or ls (n - 1) no_label).q ≤ (at n).p))

      next : (suc j ≡ 0) ⊎ ((get_or ls (suc j - 1) no_label).q ≤ (at (suc j)).p) → (at j).q ≤ (at (suc j)).p
      next (inl e) = absurd (omega arith)
      next (inr e) = simp unary_clauses at e

      go : Dec (i ≡ j) → (i < j → j < n → (at i).q ≤ (at j).p) → Facts (suc j) → Facts j → (at i).q ≤ (at (suc j)).p
      go (yes e) ih f g = rw e (next f.4)
      go (no e) ih f g = omega (arith, ih (omega arith) (omega arith), next f.4, g.2)

-- ---- the whole plan

module _ (P : Plan) (h : plan_number P ≡ 0) where
  parts : (open_number P.lo P.hi P.states P.start P.end ≡ 0) × (edges_number P.states P.edges P.edgecount ≡ 0) × (labels_number P.labels P.labelcount ≡ 0)
  unfolding plan_number
  parts =
      let (a, b) = or_zero (open_number P.lo P.hi P.states P.start P.end) _ h in
      let (c, d) = or_zero (edges_number P.states P.edges P.edgecount) (labels_number P.labels P.labelcount) b in
      (a, c, d)

  opened : (grid_ok P.lo P.hi ≡ true) × (states_ok P.states P.start P.end ≡ true)
  unfolding open_number
  opened =
      let (a, b) = zero_else (grid_ok P.lo P.hi) (pick (states_ok P.states P.start P.end) 0 5) 4 (λ e. omega arith) parts.0 in
      (a, (zero_else (states_ok P.states P.start P.end) 0 5 (λ e. omega arith) b).0)

  entry : (e : ℕ) → e < P.edgecount → entry_number P.states P.edges e (edge_at P e) ≡ 0
  unfolding edges_number
  entry e k = first_zero (λ i. entry_number P.states P.edges i (get_or P.edges i no_edge)) P.edgecount e parts.1 k

  label : (i : ℕ) → i < P.labelcount → label_number P.labels i (label_at P i) ≡ 0
  unfolding labels_number
  label i k = first_zero (λ i. label_number P.labels i (get_or P.labels i no_label)) P.labelcount i parts.2 k

  -- an edge that is like an earlier one is refused (7)
  not_twice : (i j : ℕ) → i < j → j < P.edgecount → (edge_at P i).from ≡ (edge_at P j).from → (edge_at P i).to ≡ (edge_at P j).to
      → kind_number (edge_at P i).kind ≡ kind_number (edge_at P j).kind → ⊥
  unfolding has_edge
  not_twice i j h k a b c =
      let f = (edge_at P j).from in
      let t = (edge_at P j).to in
      let n = kind_number (edge_at P j).kind in
      let e : same_edge (edge_at P i) f t n ≡ false = any_not (λ i. same_edge (get_or P.edges i no_edge) f t n) j i (entry_good P.states P.edges j (edge_at P j) (entry j k)).2 h in
      let e' : same_edge (edge_at P i) f t n ≡ true = rw (eq-eqb (edge_at P i).from f a, eq-eqb (edge_at P i).to t b, eq-eqb (kind_number (edge_at P i).kind) n c) refl in
      clash (sym e ∙ e')

  one_edge : (e e' : ℕ) → e < P.edgecount → e' < P.edgecount → (edge_at P e).from ≡ (edge_at P e').from → (edge_at P e).to ≡ (edge_at P e').to
      → kind_number (edge_at P e).kind ≡ kind_number (edge_at P e').kind → e ≡ e'
  one_edge e e' h h' a b c = go (dec_lt e e') (dec_lt e' e)
    where
      go : Dec (e < e') → Dec (e' < e) → e ≡ e'
      go (yes l) d = absurd (not_twice e e' l h' a b c)
      go (no l) (yes d) = absurd (not_twice e' e d h (sym a) (sym b) (sym c))
      go (no l) (no d) = omega arith

  pub checked : Checked P
  unfolding width
  checked =
      let (g₁, g₂) = yes_if (lt_z P.hi P.lo) (le_z (P.hi -ℤ P.lo) (pos 1023)) opened.0 in
      let (s₁, r₁) = yes_if (eqb P.states 0) _ opened.1 in
      let (s₂, r₂) = yes_if (ltb 8 P.states) _ r₁ in
      let (s₃, r₃) = yes_both (mask_ok P.states P.start) (mask_ok P.states P.end) r₂ in
      let le = grid_le P.lo P.hi g₁ in
      let z : P.states ≡ 0 → ⊥ = eqb-false P.states 0 s₁ in
      record {
        grid = le;
        narrow = omega (arith, grid_narrow P.lo P.hi le g₂);
        some_states = omega (arith, z);
        few_states = ltb-false 8 P.states s₂;
        starts = λ s k. mask_below P.start P.states s s₃ k;
        ends = λ s k. mask_below P.end P.states s r₃ k;
        few_edges = count_low P.edgecount 32 (λ i k. (entry_good P.states P.edges i (edge_at P i) (entry i k)).0);
        few_labels = count_low P.labelcount 64 (λ i k. (label_good P.labels i (label_at P i) (label i k)).0);
        edge = λ e k. let q = (entry_good P.states P.edges e (edge_at P e) (entry e k)).1 in record { from_below = q.0; to_below = q.1; class_low = q.2; gap_low = q.3 };
        distinct = one_edge;
        labels = record {
          positive = λ i k. (label_good P.labels i (label_at P i) (label i k)).1;
          proper = λ i k. (label_good P.labels i (label_at P i) (label i k)).2;
          apart = λ i j k l. apart P.labels P.labelcount label i j k l;
        };
        low = λ i k. (label_good P.labels i (label_at P i) (label i k)).3;
      }

pub built_search : (P : Plan) (n : ℕ) → search_number P n ≡ 0 → plan_number P ≡ 0
unfolding search_number
built_search P n h = (or_zero (plan_number P) _ h).0

pub built_point : (P : Plan) (n s : ℕ) (m : ℤ) → point_number P n s m ≡ 0 → plan_number P ≡ 0
unfolding point_number
built_point P n s m h = (or_zero (plan_number P) _ h).0

pub accepted : (P : Plan) (n : ℕ) → search_number P n ≡ 0 → Accepted P n
unfolding search_number late
accepted P n h =
    let (a, r) = or_zero (plan_number P) _ h in
    let (b, r₁) = zero_else P.sealed _ 11 (λ e. omega arith) r in
    let (c, r₂) = zero_else (count_ok n) _ 9 (λ e. omega arith) r₁ in
    let (d, r₃) = zero_if (late P n) 13 0 (λ e. omega arith) r₂ in
    let k = count_is n c in
    record {
      plan = checked P a;
      sealed = b;
      some_readings = omega (arith, k.0);
      few_readings = k.1;
      closed = λ i l. ltb-false n (label_at P i).q (any_not (λ i. ltb n (label_at P i).q) P.labelcount i d l);
    }

pub accepted_point : (P : Plan) (n s : ℕ) (m : ℤ) → point_number P n s m ≡ 0 → AcceptedPoint P n s m
unfolding point_number
accepted_point P n s m h =
    let (a, r) = or_zero (plan_number P) _ h in
    let (b, r₁) = zero_else P.sealed _ 11 (λ e. omega arith) r in
    let (c, r₂) = zero_else (count_ok n) _ 9 (λ e. omega arith) r₁ in
    let (d, r₃) = zero_else (ltb s P.states) _ 5 (λ e. omega arith) r₂ in
    let (e, r₄) = zero_else (on_grid P m) 0 4 (λ e. omega arith) r₃ in
    let k = count_is n c in
    record { plan = checked P a; sealed = b; some_readings = omega (arith, k.0); few_readings = k.1; state = ltb-true s P.states d; level = e }

pub accepted_table : (P : Plan) (n most : ℕ) → table_number P n most ≡ 0 → (search_number P n ≡ 0) × (most ≤ 32)
unfolding table_number
accepted_table P n most h =
    let (a, r) = or_zero (search_number P n) _ h in
    (a, leb-true most 32 (zero_else (leb most 32) 0 20 (λ e. omega arith) r).0)

-- no label is late where there is none
not_late : (P : Plan) (n : ℕ) → P.labelcount ≡ 0 → late P n ≡ false
unfolding late any_below
not_late P n e = rw e refl

pub accepted_window : (P : Plan) (n w : ℕ) → window_number P n w ≡ 0 → AcceptedWindow P n w
unfolding window_number window_ok search_number count_ok count_within
accepted_window P n w h =
    let (a, r) = or_zero (plan_number P) _ h in
    let (b, r₁) = zero_else P.sealed _ 11 (λ e. omega arith) r in
    let (c, r₂) = zero_else (long_ok n) _ 9 (λ e. omega arith) r₁ in
    let (d, r₃) = zero_else (eqb P.labelcount 0) _ 18 (λ e. omega arith) r₂ in
    let (e, r₄) = zero_else (window_ok n w) 0 19 (λ e. omega arith) r₃ in
    let (z, e₁) = yes_if (eqb w 0) (pick (leb w 1024) (leb w n) false) e in
    let (e₂, e₃) = yes_both (leb w 1024) (leb w n) e₁ in
    let k : w ≤ 1024 = leb-true w 1024 e₂ in
    record {
      plan = checked P a;
      few_readings = (long_is n c).1;
      inside = leb-true w n e₃;
      part = rw (a, not_late P w (eqb-true P.labelcount 0 d), b, z, le-leb w 4096 (omega arith)) refl;
    }

-- The number of a table, case by case: a number of the search comes first, and then 20.
pub table_search : (P : Plan) (n most : ℕ) → (search_number P n ≡ 0 → ⊥) → table_number P n most ≡ search_number P n
unfolding table_number
table_search P n most h = rw (ne_eqb (search_number P n) 0 h) refl

pub table_20 : (P : Plan) (n most : ℕ) → search_number P n ≡ 0 → 32 < most → table_number P n most ≡ 20
unfolding table_number
table_20 P n most h k = rw (h, lt-leb most 32 k) refl

pub table_fine : (P : Plan) (n most : ℕ) → search_number P n ≡ 0 → most ≤ 32 → table_number P n most ≡ 0
unfolding table_number
table_fine P n most h k = rw (h, le-leb most 32 k) refl

-- what holds of each of them
all_in : (q : ℕ → Bool) (n : ℕ) (ks : List ℕ) → every q ks ≡ true → is_in n ks ≡ true → q n ≡ true
all_in q n [] h l = clash l
all_in q n (k ∷ ks) h l = go (q k) refl (eqb n k) refl h l (all_in q n ks)
  where
    go : (x : Bool) → q k ≡ x → (y : Bool) → eqb n k ≡ y → pick x (every q ks) false ≡ true → pick y true (is_in n ks) ≡ true → (every q ks ≡ true → is_in n ks ≡ true → q n ≡ true) → q n ≡ true
    go false e y f u v rest = clash u
    go true e true f u v rest = ap q (eqb-true n k f) ∙ e
    go true e false f u v rest = rest u v

pub early_has : (q : ℕ → Bool) (n : ℕ) → holds_early q ≡ true → is_early n ≡ true → q n ≡ true
early_has q n = all_in q n early_numbers

early_not_16 : (n : ℕ) → is_early n ≡ true → n ≡ 16 → ⊥
early_not_16 n h e = clash (rw e at h)

pick_early : (b : Bool) (x y : ℕ) → is_early x ≡ true → is_early y ≡ true → is_early (pick b x y) ≡ true
pick_early true x y h l = h
pick_early false x y h l = l

first_early : (f : ℕ → ℕ) (n : ℕ) → ((i : ℕ) → is_early (f i) ≡ true) → is_early (first_below f n) ≡ true
unfolding first_below
first_early f zero h = refl
first_early f (suc n) h = pick_early (eqb (first_below f n) 0) (f n) (first_below f n) (h n) (first_early f n h)

step_is_early : (b : Bool) (es : List Edge) (n f t k : ℕ) (r : Option Edge) → is_early (edge_step_number (pick b (RefuseEdge 10) (read_edge es n f t k r))) ≡ true
step_is_early true es n f t k r = refl
step_is_early false es n f t k None = refl
step_is_early false es n f t k (Some e) = go (has_edge es n f t k)
  where
    go : (b : Bool) → is_early (edge_step_number (fresh_edge b e)) ≡ true
    go true = refl
    go false = refl

entry_is_early : (s : ℕ) (es : List Edge) (n : ℕ) (e : Edge) → is_early (entry_number s es n e) ≡ true
unfolding entry_number edge_step
entry_is_early s es n e = step_is_early (leb 32 n) es n e.from e.to (kind_number e.kind) (edge_of s e.from e.to (kind_number e.kind) (gap_of e.kind) e.class)

pub label_is_early : (ls : List Label) (n : ℕ) (l : Label) → is_early (label_number ls n l) ≡ true
unfolding label_number
label_is_early ls n l =
    pick_early (leb 64 n) 10 _ refl (pick_early (eqb l.p 0) 8 _ refl (pick_early (leb l.q l.p) 8 _ refl (pick_early (ltb 4096 l.q) 8 _ refl (pick_early (ltb 9 l.c) 8 _ refl
    (pick_early (eqb n 0) 0 _ refl (pick_early (ltb l.p (get_or ls (n - 1) no_label).q) 12 0 refl refl))))))

pub plan_is_early : (P : Plan) → is_early (plan_number P) ≡ true
unfolding plan_number open_number edges_number labels_number
plan_is_early P =
    pick_early (eqb (open_number P.lo P.hi P.states P.start P.end) 0) _ _
    (pick_early (eqb (edges_number P.states P.edges P.edgecount) 0) _ _
    (first_early (λ i. label_number P.labels i (get_or P.labels i no_label)) P.labelcount (λ i. label_is_early P.labels i (get_or P.labels i no_label)))
    (first_early (λ i. entry_number P.states P.edges i (get_or P.edges i no_edge)) P.edgecount (λ i. entry_is_early P.states P.edges i (get_or P.edges i no_edge))))
    (pick_early (grid_ok P.lo P.hi) _ 4 (pick_early (states_ok P.states P.start P.end) 0 5 refl refl) refl)

pub search_is_early : (P : Plan) (n : ℕ) → is_early (search_number P n) ≡ true
unfolding search_number
search_is_early P n =
    pick_early (eqb (plan_number P) 0) _ (plan_number P) (pick_early P.sealed _ 11 (pick_early (count_ok n) _ 9 (pick_early (late P n) 13 0 refl refl) refl) refl) (plan_is_early P)

point_is_early : (P : Plan) (n s : ℕ) (m : ℤ) → is_early (point_number P n s m) ≡ true
unfolding point_number
point_is_early P n s m =
    pick_early (eqb (plan_number P) 0) _ (plan_number P)
    (pick_early P.sealed _ 11 (pick_early (count_ok n) _ 9 (pick_early (ltb s P.states) _ 5 (pick_early (on_grid P m) 0 4 refl refl) refl) refl) refl)
    (plan_is_early P)

pub search_not_16 : (P : Plan) (n : ℕ) → search_number P n ≡ 16 → ⊥
search_not_16 P n = early_not_16 (search_number P n) (search_is_early P n)

pub point_not_16 : (P : Plan) (n s : ℕ) (m : ℤ) → point_number P n s m ≡ 16 → ⊥
point_not_16 P n s m = early_not_16 (point_number P n s m) (point_is_early P n s m)

table_is_early : (P : Plan) (n most : ℕ) → is_early (table_number P n most) ≡ true
unfolding table_number
table_is_early P n most = pick_early (eqb (search_number P n) 0) _ (search_number P n) (pick_early (leb most 32) 0 20 refl refl) (search_is_early P n)

pub table_not_16 : (P : Plan) (n most : ℕ) → table_number P n most ≡ 16 → ⊥
table_not_16 P n most = early_not_16 (table_number P n most) (table_is_early P n most)

window_is_early : (P : Plan) (n w : ℕ) → is_early (window_number P n w) ≡ true
unfolding window_number
window_is_early P n w =
    pick_early (eqb (plan_number P) 0) _ (plan_number P)
    (pick_early P.sealed _ 11 (pick_early (long_ok n) _ 9 (pick_early (eqb P.labelcount 0) _ 18 (pick_early (window_ok n w) 0 19 refl refl) refl) refl) refl)
    (plan_is_early P)

pub window_not_16 : (P : Plan) (n w : ℕ) → window_number P n w ≡ 16 → ⊥
window_not_16 P n w = early_not_16 (window_number P n w) (window_is_early P n w)

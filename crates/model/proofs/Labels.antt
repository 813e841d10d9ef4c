-- Labels one boundary at a time: the marks in the open label are all that has to be kept of them. Assumes nothing.
use Rattle.std.proofs.Math.Path.{◌≡◌, refl, sym, ap}
use Rattle.std.proofs.Common.{◌∙◌, inl, inr, ltb-true, ltb-false, leb-true, eqb-true, lt-ltb, le-ltb, le-leb, eq-eqb, ne_eqb}
use Rattle.std.specs.Prelude.{◌⊎◌, Bool, ◌&&◌, cond, leb, ltb, eqb, ℤ}
use Rattle.std.proofs.Math.Option.{Option, none, some}
use Rattle.std.proofs.Math.Bool.{true, false}
use Prim.Native.Nat.{ℕ, zero, suc, ◌+◌, ◌-◌, ◌≤◌, ◌<◌}
use native.Mathlib.Omega.{arith}
use Rattle.std.proofs.Math.Decide.{dec_le, dec_lt, ℕ_discrete}
use Rattle.std.proofs.lemmas.Bool.{eqb-false, lt-leb}
use Rattle.plan.specs.declared.Plan.{Plan}
use Rattle.plan.specs.declared.Label.{Label}
use Rattle.plan.specs.declared.Kind.{Kind}
use Rattle.model.specs.Segmentation.{Seg, first, next, readings}
use Rattle.model.specs.Model.{label_at, edge_at, need, within, count_if, tally, KeepsLabels, Allowed, AllowedWhole, in_set, last_state}
use Rattle.model.specs.Marks.{mark_of, marks, MarksHoldAt, MarksHold}
use Rattle.model.proofs.Bools.{and_yes}
use Rattle.model.specs.Checked.{LabelsInOrder}
use Rattle.model.specs.Labels.{Covered, On, count_after, count_before, count_in, counts, covering, label_on, label_test, used, used_at}

need_low : (l : Label) → need l < counts
unfolding need
need_low l = go (leb l.c 7) refl
  where
    go : (b : Bool) → leb l.c 7 ≡ b → cond b l.c 1 < counts
    go true e = omega (arith, leb-true l.c 7 e)
    go false e = omega arith

-- ---- tests

pub within_yes : (p q t : ℕ) → within p q t ≡ true → (p ≤ t) × (t < q)
unfolding within
within_yes p q t h = go (leb p t) refl h
  where
    go : (b : Bool) → leb p t ≡ b → (b && ltb t q) ≡ true → (p ≤ t) × (t < q)
    go true e k = (leb-true p t e, ltb-true t q k)
    go false e k = let z : ◌≡◌ {A = ℕ} 0 1 = cc in absurd (omega arith)

pub yes_within : (p q t : ℕ) → p ≤ t → t < q → within p q t ≡ true
unfolding within
yes_within p q t h k = simp (le-leb p t h, lt-ltb t q k)

pub not_within : (p q t : ℕ) → p ≤ t → within p q t ≡ false → q ≤ t
unfolding within
not_within p q t h e = ltb-false t q (sym (simp (le-leb p t h)) ∙ e)

pub within_out : (p q t : ℕ) → (t < p) ⊎ (q ≤ t) → within p q t ≡ false
unfolding within
within_out p q t (inl h) = simp (lt-leb p t h)
within_out p q t (inr h) = go (leb p t)
  where
    go : (b : Bool) → (b && ltb t q) ≡ false
    go true = le-ltb t q h
    go false = refl

pub covering_spec : (P : Plan) (n t : ℕ) → Covered P n t
unfolding covering
covering_spec P zero t = inl (refl, λ i h. absurd (omega arith))
covering_spec P (suc n) t = go (On P n t) refl (covering_spec P n t)
  where
    go : (b : Bool) → On P n t ≡ b → Covered P n t → Covered P (suc n) t
    go true e r = inr (n, omega arith, rw e refl, e)
    go false e (inl (o, f)) = inl (rw e o, λ i h. last i h (ℕ_discrete i n))
      where
        last : (i : ℕ) → i < suc n → Dec (i ≡ n) → On P i t ≡ false
        last i h (yes k) = rw k e
        last i h (no k) = f i (omega arith)
    go false e (inr (i, h, o, w)) = inr (i, omega arith, rw e o, w)

module _ (P : Plan) (ord : LabelsInOrder P) where
  one_label : (i j t : ℕ) → i < P.labelcount → j < P.labelcount → On P i t ≡ true → On P j t ≡ true → i ≡ j
  one_label i j t hi hj wi wj = go (dec_lt i j) (dec_lt j i)
    where
      a : ((label_at P i).p ≤ t) × (t < (label_at P i).q)
      a = within_yes _ _ _ wi

      b : ((label_at P j).p ≤ t) × (t < (label_at P j).q)
      b = within_yes _ _ _ wj

      go : Dec (i < j) → Dec (j < i) → i ≡ j
      go (yes h) d = absurd (omega (arith, ord.apart i j h hj, a, b))
      go (no h) (yes k) = absurd (omega (arith, ord.apart j i k hi, a, b))
      go (no h) (no k) = omega arith

  pub label_on_at : (i t : ℕ) → i < P.labelcount → On P i t ≡ true → label_on P t ≡ some (label_at P i)
  unfolding label_on
  label_on_at i t h w = go (covering_spec P P.labelcount t)
    where
      go : Covered P P.labelcount t → covering P P.labelcount t ≡ some (label_at P i)
      go (inl (o, f)) = cc (f i h)
      go (inr (j, hj, o, wj)) = o ∙ ap (λ k. some (label_at P k)) (sym (one_label i j t h hj w wj))

marks_skip : (P : Plan) (l : Label) (g : Seg) (e : ℕ) (m : ℤ) → within l.p l.q (readings g) ≡ false → marks P l (next g e m) ≡ marks P l g
unfolding tally count_if
marks_skip P l g e m w = rw w (omega arith)

marks_on : (P : Plan) (l : Label) (g : Seg) (e : ℕ) (m : ℤ) → within l.p l.q (readings g) ≡ true
    → marks P l (next g e m) ≡ marks P l g + mark_of l (edge_at P e).kind
unfolding tally count_if
marks_on P l g e m w = rw w refl

marks_later : (P : Plan) (l : Label) (g : Seg) → readings g ≤ l.p → marks P l g ≡ 0
unfolding tally readings
marks_later P l (first s m) h = refl
marks_later P l (next g e m) h = marks_skip P l g e m (within_out l.p l.q (readings g) (inl h)) ∙ marks_later P l g (omega arith)

-- ---- one label over one boundary

module _ (l : Label) (proper : l.p < l.q) (t x : ℕ) where
  skip_up : within l.p l.q t ≡ false → MarksHoldAt l t x → MarksHoldAt l (suc t) x
  skip_up w h = record { closed = λ a. h.closed (go a (dec_le l.p t)); open' = λ a b. absurd (omega (arith, not_within l.p l.q t (omega arith) w)) }
    where
      go : l.q ≤ suc t → Dec (l.p ≤ t) → l.q ≤ t
      go a (yes k) = not_within l.p l.q t k w
      go a (no k) = omega arith

  skip_down : within l.p l.q t ≡ false → MarksHoldAt l (suc t) x → MarksHoldAt l t x
  skip_down w h = record { closed = λ a. h.closed (omega arith); open' = λ a b. absurd (omega (arith, not_within l.p l.q t (omega arith) w)) }

  on_up : (y : Kind) → within l.p l.q t ≡ true → label_test (some l) t y x ≡ true → MarksHoldAt l (suc t) (x + mark_of l y)
  unfolding label_test
  on_up y w h = go (eqb (suc t) l.q) refl h
    where
      k : (l.p ≤ t) × (t < l.q)
      k = within_yes l.p l.q t w

      go : (b : Bool) → eqb (suc t) l.q ≡ b → cond b (eqb (x + mark_of l y) (need l)) (leb (x + mark_of l y) (need l)) ≡ true → MarksHoldAt l (suc t) (x + mark_of l y)
      go true e r = let i = eqb-true (suc t) l.q e in let j = eqb-true (x + mark_of l y) (need l) r in record { closed = λ a. j; open' = λ a b. omega arith }
      go false e r =
          let i : ¬ (suc t ≡ l.q) = eqb-false (suc t) l.q e in
          let j = leb-true (x + mark_of l y) (need l) r in
          record { closed = λ a. absurd (omega (arith, k, i)); open' = λ a b. j }

  on_down : (y : Kind) → within l.p l.q t ≡ true → MarksHoldAt l (suc t) (x + mark_of l y) → MarksHoldAt l t x × (label_test (some l) t y x ≡ true)
  unfolding label_test
  on_down y w h = go (ℕ_discrete (suc t) l.q)
    where
      k : (l.p ≤ t) × (t < l.q)
      k = within_yes l.p l.q t w

      go : Dec (suc t ≡ l.q) → MarksHoldAt l t x × (cond (eqb (suc t) l.q) (eqb (x + mark_of l y) (need l)) (leb (x + mark_of l y) (need l)) ≡ true)
      go (yes i) =
          let j = h.closed (omega arith) in
          (record { closed = λ a. absurd (omega (arith, k)); open' = λ a b. omega arith }, simp (eq-eqb (suc t) l.q i) (eq-eqb _ _ j))
      go (no i) =
          let j = h.open' (omega (arith, k)) (omega (arith, k, i)) in
          (record { closed = λ a. absurd (omega (arith, k)); open' = λ a b. omega arith }, simp (ne_eqb (suc t) l.q i) (le-leb _ _ j))

-- ---- all labels over one boundary

module _ (P : Plan) (ord : LabelsInOrder P) (g : Seg) (e : ℕ) (m : ℤ) where
  -- no label has both boundaries: the next one's count starts at nothing
  fresh : ((j : ℕ) → j < P.labelcount → On P j (suc (readings g)) ≡ true → On P j (readings g) ≡ true → ⊥)
      → count_in P (label_on P (suc (readings g))) (next g e m) ≡ 0
  unfolding label_on count_in readings
  fresh no_both = go (covering_spec P P.labelcount (suc (readings g)))
    where
      go : Covered P P.labelcount (suc (readings g)) → count_in P (covering P P.labelcount (suc (readings g))) (next g e m) ≡ 0
      go (inl (o, f)) = rw o refl
      go (inr (j, hj, o, w)) = rw o (marks_later P (label_at P j) (next g e m) (later (dec_le (label_at P j).p (readings g))))
        where
          later : Dec ((label_at P j).p ≤ readings g) → suc (readings g) ≤ (label_at P j).p
          later (yes k) = absurd (no_both j hj w (yes_within _ _ _ k (omega (arith, within_yes _ _ _ w))))
          later (no k) = omega arith

  -- the count goes from boundary to boundary
  pub count_next : count_in P (label_on P (suc (readings g))) (next g e m)
      ≡ count_after (label_on P (readings g)) (readings g) (edge_at P e).kind (count_in P (label_on P (readings g)) g)
  unfolding label_on count_after count_in
  count_next = go (covering_spec P P.labelcount (readings g))
    where
      go : Covered P P.labelcount (readings g) → count_in P (label_on P (suc (readings g))) (next g e m)
          ≡ count_after (covering P P.labelcount (readings g)) (readings g) (edge_at P e).kind (count_in P (covering P P.labelcount (readings g)) g)
      go (inl (o, f)) = rw o (fresh (λ j hj w w'. let z : ◌≡◌ {A = Bool} true false = sym w' ∙ f j hj in let y : ◌≡◌ {A = ℕ} 0 1 = cc in omega arith))
      go (inr (i, hi, o, w)) = rw o (last (ℕ_discrete (suc (readings g)) (label_at P i).q))
        where
          l : Label
          l = label_at P i

          last : Dec (suc (readings g) ≡ l.q)
              → count_in P (label_on P (suc (readings g))) (next g e m)
              ≡ cond (eqb (suc (readings g)) l.q) 0 (marks P l g + mark_of l (edge_at P e).kind)
          last (yes k) = rw (eq-eqb (suc (readings g)) l.q k) (fresh (λ j hj v v'. over j hj v (one_label P ord i j (readings g) hi hj w v')))
            where
              over : (j : ℕ) → j < P.labelcount → On P j (suc (readings g)) ≡ true → i ≡ j → ⊥
              over j hj v x = let a : On P i (suc (readings g)) ≡ true = rw x v in omega (arith, within_yes l.p l.q (suc (readings g)) a, k)
          last (no k) =
              let a = within_yes l.p l.q (readings g) w in
              rw (ne_eqb (suc (readings g)) l.q k)
              (rw (label_on_at P ord i (suc (readings g)) hi (yes_within l.p l.q (suc (readings g)) (omega (arith, a)) (omega (arith, a, k))))
              (marks_on P l g e m w))

  pub marks_up : MarksHold P g
      → label_test (label_on P (readings g)) (readings g) (edge_at P e).kind (count_in P (label_on P (readings g)) g) ≡ true
      → MarksHold P (next g e m)
  unfolding MarksHold readings count_in
  marks_up h r i hi = go (On P i (readings g)) refl
    where
      l : Label
      l = label_at P i

      go : (b : Bool) → On P i (readings g) ≡ b → MarksHoldAt l (suc (readings g)) (marks P l (next g e m))
      go true w =
          rw (marks_on P l g e m w)
          (on_up l (ord.proper i hi) (readings g) (marks P l g) (edge_at P e).kind w (rw (label_on_at P ord i (readings g) hi w) at r))
      go false w =
          rw (marks_skip P l g e m w) (skip_up l (ord.proper i hi) (readings g) (marks P l g) w (h i hi))

  pub marks_before : MarksHold P (next g e m) → MarksHold P g
  unfolding MarksHold readings
  marks_before h i hi = go (On P i (readings g)) refl
    where
      l : Label
      l = label_at P i

      go : (b : Bool) → On P i (readings g) ≡ b → MarksHoldAt l (readings g) (marks P l g)
      go true w = (on_down l (ord.proper i hi) (readings g) (marks P l g) (edge_at P e).kind w (rw (marks_on P l g e m w) at (h i hi))).0
      go false w = skip_down l (ord.proper i hi) (readings g) (marks P l g) w (rw (marks_skip P l g e m w) at (h i hi))

  pub marks_test : MarksHold P (next g e m)
      → label_test (label_on P (readings g)) (readings g) (edge_at P e).kind (count_in P (label_on P (readings g)) g) ≡ true
  unfolding MarksHold readings label_on count_in label_test
  marks_test h = go (covering_spec P P.labelcount (readings g))
    where
      go : Covered P P.labelcount (readings g) → label_test (covering P P.labelcount (readings g)) (readings g) (edge_at P e).kind (count_in P (covering P P.labelcount (readings g)) g) ≡ true
      go (inl (o, f)) = rw o refl
      go (inr (i, hi, o, w)) = rw o (on_down (label_at P i) (ord.proper i hi) (readings g) (marks P (label_at P i) g) (edge_at P e).kind w
          (rw (marks_on P (label_at P i) g e m w) at (h i hi))).1

-- ---- the count before is known from the count after

pub count_back : (o : Option Label) (t : ℕ) (x : Kind) (k : ℕ) → label_test o t x k ≡ true → k ≡ count_before o t x (count_after o t x k)
unfolding label_test count_before count_after
count_back none t x k h = eqb-true k 0 h
count_back (some l) t x k h = go (eqb (suc t) l.q) h
  where
    go : (b : Bool) → cond b (eqb (k + mark_of l x) (need l)) (leb (k + mark_of l x) (need l)) ≡ true → k ≡ cond b (need l) (cond b 0 (k + mark_of l x)) - mark_of l x
    go true r = let e = eqb-true (k + mark_of l x) (need l) r in omega arith
    go false r = omega arith

-- ---- the first reading

module _ (P : Plan) (ord : LabelsInOrder P) (s : ℕ) (m : ℤ) where
  pub count_first : count_in P (label_on P 1) (first s m) ≡ 0
  unfolding count_in tally
  count_first = go (label_on P 1)
    where
      go : (o : Option Label) → count_in P o (first s m) ≡ 0
      go none = refl
      go (some l) = refl

  pub marks_first : MarksHold P (first s m)
  unfolding MarksHold readings
  marks_first i hi =
      let a = ord.positive i hi in
      let b = ord.proper i hi in
      record { closed = λ h. absurd (omega arith); open' = λ h k. absurd (omega arith) }

-- ---- the counts that are used

pub used_some : (o : Option Label) → 0 < used o
unfolding used
used_some none = omega arith
used_some (some l) = omega arith

pub used_most : (o : Option Label) → used o ≤ counts
unfolding used
used_most none = omega arith
used_most (some l) = need_low l

-- the count before a boundary at which the label's rule is kept
pub kept_used : (o : Option Label) (t : ℕ) (x : Kind) (k : ℕ) → label_test o t x k ≡ true → k < used o
unfolding label_test used
kept_used none t x k h = omega (arith, eqb-true k 0 h)
kept_used (some l) t x k h = go (eqb (suc t) l.q) h
  where
    go : (b : Bool) → cond b (eqb (k + mark_of l x) (need l)) (leb (k + mark_of l x) (need l)) ≡ true → k < suc (need l)
    go true r = omega (arith, eqb-true (k + mark_of l x) (need l) r)
    go false r = omega (arith, leb-true (k + mark_of l x) (need l) r)

-- so of an edge that leads on, whatever else is asked of it
pub led_used : (o : Option Label) (t : ℕ) (x : Kind) (k : ℕ) (a b : Bool) → (a && (label_test o t x (count_before o t x k) && b)) ≡ true → count_before o t x k < used o
led_used o t x k a b h =
    let r = and_yes a (label_test o t x (count_before o t x k) && b) h in
    kept_used o t x (count_before o t x k) (and_yes (label_test o t x (count_before o t x k)) b r.1).0

-- the count of a segmentation that keeps the labels
pub count_used : (P : Plan) (g : Seg) → MarksHold P g → count_in P (label_on P (readings g)) g < used_at P (readings g)
unfolding label_on count_in MarksHold used
count_used P g h = go (covering_spec P P.labelcount (readings g))
  where
    go : Covered P P.labelcount (readings g) → count_in P (covering P P.labelcount (readings g)) g < used (covering P P.labelcount (readings g))
    go (inl (o, f)) = rw o (omega arith)
    go (inr (i, hi, o, w)) = rw o (at_start (dec_lt (label_at P i).p (readings g)))
      where
        at_start : Dec ((label_at P i).p < readings g) → marks P (label_at P i) g < suc (need (label_at P i))
        at_start (yes k) = omega (arith, (h i hi).open' k (within_yes _ _ _ w).1)
        at_start (no k) = omega (arith, marks_later P (label_at P i) g (omega arith))

-- where no label has the boundary no count is kept
pub label_on_none : (P : Plan) (t : ℕ) → ((i : ℕ) → i < P.labelcount → On P i t ≡ false) → label_on P t ≡ none
unfolding label_on
label_on_none P t off = go (covering_spec P P.labelcount t)
  where
    go : Covered P P.labelcount t → covering P P.labelcount t ≡ none
    go (inl (o, f)) = o
    go (inr (i, hi, o, w)) = cc (off i hi)

-- so where every label is closed
pub closed_none : (P : Plan) (t : ℕ) → ((i : ℕ) → i < P.labelcount → (label_at P i).q ≤ t) → label_on P t ≡ none
closed_none P t closed = label_on_none P t (λ i hi. within_out (label_at P i).p (label_at P i).q t (inr (closed i hi)))

-- ---- the rule of a whole record is that of the point at its end, where every label is closed there

pub whole_point : (P : Plan) (n : ℕ) (g : Seg) → AllowedWhole P n g → Allowed P n g
unfolding KeepsLabels
whole_point P n g a = record {
  count = a.count;
  follows = a.follows;
  labels = λ i hi. record { closed = λ h. a.labels i hi; open' = λ h k. let (x, y) = a.labels i hi in (omega arith, omega arith) };
}

pub point_whole : (P : Plan) (n : ℕ) (g : Seg) → ((i : ℕ) → i < P.labelcount → (label_at P i).q ≤ n) → Allowed P n g
    → in_set P.end (last_state P g) ≡ true → AllowedWhole P n g
unfolding KeepsLabels
point_whole P n g closed a e = record {
  count = a.count;
  follows = a.follows;
  labels = λ i hi. (a.labels i hi).closed (omega (arith, closed i hi, a.count));
  ends = e;
}

-- What one edge makes of a function of the level, by the level's index above lo. Stay is the function itself, up and down the running minimum
-- moved by the gap, abs the lesser of both, and any is abs with the gap 1. What code has to show: its list has at each index the value `edge_min`, or it
-- looked at the permitted indices and has `edge_min_is` or `edge_min_none`. `permits_index` and `edge_min_lem` make of it the least over the levels
-- that the model permits. Assumes nothing.
use Rattle.std.specs.Prelude.{◌≡◌, refl, ◌⊎◌, Bool, true, false, ◌&&◌, not, cond, ℕ, zero, suc, ◌+◌, ◌-◌, ◌/◌, ◌%◌, ◌≤◌, ◌<◌, min, leb, ltb, eqb, ℤ, pos, nat_abs, ◌+ℤ◌, ◌-ℤ◌}
use Rattle.std.proofs.Common.{sym, ◌∙◌, ap, inl, inr, arith, ltb-true, leb-true, leb-false, eqb-true, lt-ltb, le-ltb, le-leb, eq-eqb, ne_eqb}
use Rattle.std.proofs.Math.Option.{none, some, map, some-injective}
use Rattle.std.proofs.Math.Decide.{dec_le, dec_lt}
use Rattle.std.proofs.lemmas.Bool.{lt-leb}
use Rattle.std.specs.Int.Signed.{le_z, le_z_yes}
use Rattle.integers.specs.Rep as R
use Rattle.integers.specs.Rep.{Rep, iz, nz, ◌⊕◌, ◌⊖◌, eq_z, le_n, le_z_of, holds}
use Rattle.integers.specs.Pairs.{unit, lex}
use Rattle.plan.specs.declared.Kind.{Kind}
use Rattle.plan.specs.declared.Kind.TheVariants.{Stay, Any, Up, Down, Abs}
use Rattle.model.specs.Cost.{Cost, Below, ◌≼◌, value}
use Rattle.model.proofs.Bools.{and_yes, same_test}
use Rattle.model.proofs.Grid.{le_z_true, abs_is, le_index}
use Rattle.model.specs.Model.{permits}
use Rattle.model.specs.Index.{MinAt, Permitted, down_min, edge_min, held, no_cost, pair_of, permits_at, prefix_min, reported, suffix_min, up_min}

-- ---- levels and indices

abs_index : (lo : ℤ) (g i j : ℕ) → leb g (nat_abs ((lo +ℤ pos j) -ℤ (lo +ℤ pos i))) ≡ cond (leb (i + g) j) true (leb (j + g) i)
abs_index lo g i j = go (leb (i + g) j) refl (abs_is z) x.is
  where
    x : Rep
    x = (iz lo ⊕ nz j) ⊖ (iz lo ⊕ nz i)

    z : ℤ
    z = (lo +ℤ pos j) -ℤ (lo +ℤ pos i)

    go : (b : Bool) → leb (i + g) j ≡ b → ((nat_abs z ≡ R.above z) × (R.below z ≡ 0)) ⊎ ((nat_abs z ≡ R.below z) × (R.above z ≡ 0))
        → R.above lo + j + (R.below lo + 0) + R.below z ≡ R.above z + (R.below lo + 0 + (R.above lo + i)) → leb g (nat_abs z) ≡ cond b true (leb (j + g) i)
    go true e (inl (p, q)) h = let k = leb-true (i + g) j e in le-leb g (nat_abs z) (omega arith)
    go true e (inr (p, q)) h = let k = leb-true (i + g) j e in le-leb g (nat_abs z) (omega arith)
    go false e (inl (p, q)) h =
        let k = leb-false (i + g) j e in
        same_test (leb g (nat_abs z)) (leb (j + g) i) (λ l. absurd (omega (arith, leb-true g (nat_abs z) l))) (λ l. le-leb g (nat_abs z) (omega (arith, leb-true (j + g) i l)))
    go false e (inr (p, q)) h =
        let k = leb-false (i + g) j e in
        same_test (leb g (nat_abs z)) (leb (j + g) i) (λ l. le-leb (j + g) i (omega (arith, leb-true g (nat_abs z) l))) (λ l. le-leb g (nat_abs z) (omega (arith, leb-true (j + g) i l)))

stay_index : (lo : ℤ) (i j : ℕ) → (le_z (lo +ℤ pos i) (lo +ℤ pos j) && le_z (lo +ℤ pos j) (lo +ℤ pos i)) ≡ eqb i j
stay_index lo i j = rw (le_index lo i j, le_index lo j i) (same_test (leb i j && leb j i) (eqb i j)
    (λ h. let (a, b) = and_yes (leb i j) (leb j i) h in eq-eqb i j (omega (arith, leb-true i j a, leb-true j i b)))
    (λ h. let e = eqb-true i j h in simp (le-leb i j (omega arith), le-leb j i (omega arith))))

pub permits_index : (k : Kind) (lo : ℤ) (i j : ℕ) → permits k (lo +ℤ pos i) (lo +ℤ pos j) ≡ permits_at k i j
unfolding permits permits_at
permits_index Stay lo i j = stay_index lo i j
permits_index Any lo i j = ap not (stay_index lo i j)
permits_index (Up g) lo i j = rw (eq_z (iz lo ⊕ nz i ⊕ nz g) (iz lo ⊕ nz (i + g)) (omega arith)) (le_index lo (i + g) j)
permits_index (Down g) lo i j = same_test (le_z (lo +ℤ pos j) ((lo +ℤ pos i) -ℤ pos g)) (leb (j + g) i)
    (λ h. le-leb (j + g) i (omega (arith, le_n (iz lo ⊕ nz j) (iz lo ⊕ nz i ⊖ nz g) (le_z_yes (holds h)))))
    (λ h. le_z_true _ _ (le_z_of (iz lo ⊕ nz j) (iz lo ⊕ nz i ⊖ nz g) (omega (arith, leb-true (j + g) i h))))
permits_index (Abs g) lo i j = abs_index lo g i j

-- ---- numbers and pairs

-- numbers are in the order of their pairs
pub pair_mono : (a b : ℕ) → a ≤ b → pair_of a ≼ pair_of b
pair_mono a b h = record { le = go (dec_lt (a / unit) (b / unit)) }
  where
    go : Dec (a / unit < b / unit) → Below (pair_of a) (pair_of b)
    go (yes k) = inl k
    go (no k) = inr (omega arith, omega arith)

pub pair_back : (a b : ℕ) → pair_of a ≼ pair_of b → a ≤ b
pair_back a b h = go h.le
  where
    go : Below (pair_of a) (pair_of b) → a ≤ b
    go (inl k) = omega arith
    go (inr (e, k)) = omega arith

pub pair_one : (a b : ℕ) → pair_of a ≡ pair_of b → a ≡ b
pair_one a b p =
    let e : a / unit ≡ b / unit = ap (λ (c : Cost). c.0) p in
    let f : a % unit ≡ b % unit = ap (λ (c : Cost). c.1) p in
    omega arith

pub pair_is : (v x k : ℕ) → k < unit → v ≡ lex x k → pair_of v ≡ (x, k)
pair_is v x k h e =
    let p : v / unit ≡ x = omega arith in
    let q : v % unit ≡ k = omega arith in
    λ i. (p i, q i)

pub held_some : (v : ℕ) (c : Cost) → held v ≡ some c → (v < no_cost) × (pair_of v ≡ c)
unfolding held
held_some v c p = go (ltb v no_cost) refl p
  where
    go : (b : Bool) → ltb v no_cost ≡ b → cond b (some (pair_of v)) none ≡ some c → (v < no_cost) × (pair_of v ≡ c)
    go true e q = (ltb-true v no_cost e, some-injective (pair_of v) c q)
    go false e q = let z : ◌≡◌ {A = ℕ} 0 1 = cc in absurd (omega arith)

pub some_held : (v : ℕ) → v < no_cost → held v ≡ some (pair_of v)
unfolding held
some_held v h = rw (lt-ltb v no_cost h)

pub none_held : (v : ℕ) → no_cost ≤ v → held v ≡ none
unfolding held
none_held v h = rw (le-ltb v no_cost h)

pub reported_some : (v : ℕ) → v < no_cost → reported v ≡ some (v / unit)
unfolding reported
reported_some v h = rw (lt-ltb v no_cost h)

pub reported_none : (v : ℕ) → no_cost ≤ v → reported v ≡ none
unfolding reported
reported_none v h = rw (le-ltb v no_cost h)

-- it is the value of the cost that is held
pub held_value : (v : ℕ) → map value (held v) ≡ reported v
unfolding held reported value
held_value v = go (ltb v no_cost)
  where
    go : (b : Bool) → map value (cond b (some (pair_of v)) none) ≡ cond b (some (v / unit)) none
    go true = refl
    go false = refl

-- ---- prefix and suffix minima

prefix_met : (f : ℕ → ℕ) (j : ℕ) → (i : ℕ) × (i ≤ j) × (f i ≡ prefix_min f j)
unfolding prefix_min
prefix_met f zero = (0, omega arith, refl)
prefix_met f (suc j) = let (i, h, e) = prefix_met f j in go i h e (dec_le (prefix_min f j) (f (suc j)))
  where
    go : (i : ℕ) → i ≤ j → f i ≡ prefix_min f j → Dec (prefix_min f j ≤ f (suc j)) → (i : ℕ) × (i ≤ suc j) × (f i ≡ min (prefix_min f j) (f (suc j)))
    go i h e (yes k) = (i, omega arith, omega arith)
    go i h e (no k) = (suc j, omega arith, omega arith)

pub prefix_least : (f : ℕ → ℕ) (i j : ℕ) → i ≤ j → prefix_min f j ≤ f i
unfolding prefix_min
prefix_least f i zero h = let e : i ≡ 0 = omega arith in rw e (omega arith)
prefix_least f i (suc j) h = go (dec_le i j) (prefix_least f i j)
  where
    go : Dec (i ≤ j) → (i ≤ j → prefix_min f j ≤ f i) → min (prefix_min f j) (f (suc j)) ≤ f i
    go (yes k) ih = omega (arith, ih k)
    go (no k) ih = let e : i ≡ suc j = omega arith in rw e (omega arith)

pub suffix_met : (L : ℕ) (f : ℕ → ℕ) (j : ℕ) → j < L → (i : ℕ) × (j ≤ i) × (i < L) × (f i ≡ suffix_min L f j)
unfolding suffix_min
suffix_met L f j h = let (i, k, e) = prefix_met (λ i. f (L - 1 - i)) (L - 1 - j) in (L - 1 - i, omega arith, omega arith, e)

pub suffix_least : (L : ℕ) (f : ℕ → ℕ) (i j : ℕ) → j ≤ i → i < L → suffix_min L f j ≤ f i
unfolding suffix_min
suffix_least L f i j h k =
    let e : L - 1 - (L - 1 - i) ≡ i = omega arith in
    let l : prefix_min (λ i. f (L - 1 - i)) (L - 1 - j) ≤ f (L - 1 - (L - 1 - i)) = prefix_least (λ i. f (L - 1 - i)) (L - 1 - i) (L - 1 - j) (omega arith) in
    rw e at l

-- what a loop that goes down shows
pub suffix_last : (L : ℕ) (f : ℕ → ℕ) (j : ℕ) → suc j ≡ L → suffix_min L f j ≡ f j
suffix_last L f j h =
    let (i, k, l, e) = suffix_met L f j (omega arith) in
    let w : i ≡ j = omega arith in
    sym e ∙ ap f w

pub suffix_step : (L : ℕ) (f : ℕ → ℕ) (j : ℕ) → suc j < L → suffix_min L f j ≡ min (f j) (suffix_min L f (suc j))
suffix_step L f j h =
    let (i, k, l, e) = suffix_met L f j (omega arith) in
    let (i', k', l', e') = suffix_met L f (suc j) h in
    go i k l e (dec_le i j) (suffix_least L f i' j (omega arith) l') (suffix_least L f j j (omega arith) (omega arith)) e'
  where
    go : (i : ℕ) {i' : ℕ} → j ≤ i → i < L → f i ≡ suffix_min L f j → Dec (i ≤ j) → suffix_min L f j ≤ f i' → suffix_min L f j ≤ f j → f i' ≡ suffix_min L f (suc j) → suffix_min L f j ≡ min (f j) (suffix_min L f (suc j))
    go i k l e (yes q) a b c = let w : i ≡ j = omega arith in let v : f j ≡ suffix_min L f j = ap f (sym w) ∙ e in omega arith
    go i k l e (no q) a b c = omega (arith, suffix_least L f i (suc j) (omega arith) l)

-- ---- each kind

stay_min : (L : ℕ) (f : ℕ → ℕ) → MinAt L Stay f f
unfolding permits_at
stay_min L f = record {
  met = λ j h k. (j, h, eq-eqb j j refl, refl);
  least = λ i j h k a l. let e = eqb-true i j a in rw e (omega arith);
}

up_min_lem : (L g : ℕ) (f : ℕ → ℕ) → MinAt L (Up g) f (up_min g f)
unfolding permits_at up_min
up_min_lem L g f = record { met = λ j h k. met j h (leb g j) refl k; least = λ i j h k a l. low i j (leb-true (i + g) j a) }
  where
    met : (j : ℕ) → j < L → (b : Bool) → leb g j ≡ b → cond b (prefix_min f (j - g)) no_cost < no_cost → (i : ℕ) × (i < L) × (leb (i + g) j ≡ true) × (f i ≡ cond b (prefix_min f (j - g)) no_cost)
    met j h true e k = let (i, l, w) = prefix_met f (j - g) in let q = leb-true g j e in (i, omega arith, le-leb (i + g) j (omega arith), w)
    met j h false e k = absurd (omega arith)

    low : (i j : ℕ) → i + g ≤ j → cond (leb g j) (prefix_min f (j - g)) no_cost ≤ f i
    low i j h = rw (le-leb g j (omega arith)) (prefix_least f i (j - g) (omega arith))

down_min_lem : (L g : ℕ) (f : ℕ → ℕ) → MinAt L (Down g) f (down_min L g f)
unfolding permits_at down_min
down_min_lem L g f = record { met = λ j h k. met j h (ltb (j + g) L) refl k; least = λ i j h k a l. low i j h (leb-true (j + g) i a) }
  where
    met : (j : ℕ) → j < L → (b : Bool) → ltb (j + g) L ≡ b → cond b (suffix_min L f (j + g)) no_cost < no_cost → (i : ℕ) × (i < L) × (leb (j + g) i ≡ true) × (f i ≡ cond b (suffix_min L f (j + g)) no_cost)
    met j h true e k = let (i, l, l', w) = suffix_met L f (j + g) (ltb-true (j + g) L e) in (i, l', le-leb (j + g) i l, w)
    met j h false e k = absurd (omega arith)

    low : (i j : ℕ) → i < L → j + g ≤ i → cond (ltb (j + g) L) (suffix_min L f (j + g)) no_cost ≤ f i
    low i j h k = rw (lt-ltb (j + g) L (omega arith)) (suffix_least L f i (j + g) k h)

-- the lesser of two serves what either serves
abs_min : (L g : ℕ) (f : ℕ → ℕ) → MinAt L (Abs g) f (λ j. min (up_min g f j) (down_min L g f j))
unfolding permits_at
abs_min L g f = record { met = λ j h k. met j h k (dec_le (up_min g f j) (down_min L g f j)); least = λ i j h k p l. low i j h k l (leb (i + g) j) refl p }
  where
    met : (j : ℕ) → j < L → min (up_min g f j) (down_min L g f j) < no_cost → Dec (up_min g f j ≤ down_min L g f j) → (i : ℕ) × (i < L) × (cond (leb (i + g) j) true (leb (j + g) i) ≡ true) × (f i ≡ min (up_min g f j) (down_min L g f j))
    met j h k (yes q) = let (i, l, p, e) = (up_min_lem L g f).met j h (omega arith) in (i, l, rw p refl, omega arith)
    met j h k (no q) = let (i, l, p, e) = (down_min_lem L g f).met j h (omega arith) in (i, l, either (leb (i + g) j) (leb (j + g) i) p, omega arith)
      where
        either : (c d : Bool) → d ≡ true → cond c true d ≡ true
        either true d h = refl
        either false d h = h

    low : (i j : ℕ) → i < L → j < L → f i < no_cost → (c : Bool) → leb (i + g) j ≡ c → cond c true (leb (j + g) i) ≡ true → min (up_min g f j) (down_min L g f j) ≤ f i
    low i j h k l true e p = omega (arith, (up_min_lem L g f).least i j h k e l)
    low i j h k l false e p = omega (arith, (down_min_lem L g f).least i j h k p l)

-- levels differ where their distance is at least 1
any_abs : (i j : ℕ) → permits_at Any i j ≡ permits_at (Abs 1) i j
unfolding permits_at
any_abs i j = go (dec_lt i j) (dec_lt j i)
  where
    go : Dec (i < j) → Dec (j < i) → not (eqb i j) ≡ cond (leb (i + 1) j) true (leb (j + 1) i)
    go (yes h) d = rw (ne_eqb i j (λ e. omega arith), le-leb (i + 1) j (omega arith))
    go (no h) (yes g) = rw (ne_eqb i j (λ e. omega arith), lt-leb (i + 1) j (omega arith), le-leb (j + 1) i (omega arith))
    go (no h) (no g) = rw (eq-eqb i j (omega arith), lt-leb (i + 1) j (omega arith), lt-leb (j + 1) i (omega arith))

any_min : (L : ℕ) (f : ℕ → ℕ) → MinAt L Any f (λ j. min (up_min 1 f j) (down_min L 1 f j))
any_min L f = let x = abs_min L 1 f in record {
  met = λ j h k. let (i, l, p, e) = x.met j h k in (i, l, any_abs i j ∙ p, e);
  least = λ i j h k p. x.least i j h k (sym (any_abs i j) ∙ p);
}

pub edge_min_lem : (L : ℕ) (k : Kind) (f : ℕ → ℕ) → MinAt L k f (edge_min L k f)
unfolding edge_min
edge_min_lem L Stay f = stay_min L f
edge_min_lem L Any f = any_min L f
edge_min_lem L (Up g) f = up_min_lem L g f
edge_min_lem L (Down g) f = down_min_lem L g f
edge_min_lem L (Abs g) f = abs_min L g f

abs_yes : (g i j : ℕ) → permits_at (Abs g) i j ≡ true → (i + g ≤ j) ⊎ (j + g ≤ i)
unfolding permits_at
abs_yes g i j h = go (leb (i + g) j) refl h
  where
    go : (b : Bool) → leb (i + g) j ≡ b → cond b true (leb (j + g) i) ≡ true → (i + g ≤ j) ⊎ (j + g ≤ i)
    go true e q = inl (leb-true (i + g) j e)
    go false e q = inr (leb-true (j + g) i q)

yes_abs : (g i j : ℕ) → (i + g ≤ j) ⊎ (j + g ≤ i) → permits_at (Abs g) i j ≡ true
unfolding permits_at
yes_abs g i j (inl h) = rw (le-leb (i + g) j h)
yes_abs g i j (inr h) = go (leb (i + g) j)
  where
    go : (b : Bool) → cond b true (leb (j + g) i) ≡ true
    go true = refl
    go false = le-leb (j + g) i h

pub permitted_yes : (k : Kind) (i j : ℕ) → permits_at k i j ≡ true → Permitted k i j
unfolding permits_at
permitted_yes Stay i j h = eqb-true i j h
permitted_yes Any i j h = abs_yes 1 i j (sym (any_abs i j) ∙ h)
permitted_yes (Up g) i j h = leb-true (i + g) j h
permitted_yes (Down g) i j h = leb-true (j + g) i h
permitted_yes (Abs g) i j h = abs_yes g i j h

pub yes_permitted : (k : Kind) (i j : ℕ) → Permitted k i j → permits_at k i j ≡ true
unfolding permits_at
yes_permitted Stay i j h = eq-eqb i j h
yes_permitted Any i j h = any_abs i j ∙ yes_abs 1 i j h
yes_permitted (Up g) i j h = le-leb (i + g) j h
yes_permitted (Down g) i j h = le-leb (j + g) i h
yes_permitted (Abs g) i j h = yes_abs g i j h

module _ (L : ℕ) (k : Kind) (f : ℕ → ℕ) (j : ℕ) (hj : j < L) where
  -- a value at a permitted index that none of them is below
  pub edge_min_is : (i : ℕ) → i < L → Permitted k i j → f i < no_cost → ((i' : ℕ) → i' < L → Permitted k i' j → f i ≤ f i') → edge_min L k f j ≡ f i
  edge_min_is i hi a h low =
      let x = edge_min_lem L k f in
      let p = x.least i j hi hj (yes_permitted k i j a) h in
      let (i', hi', a', e) = x.met j hj (omega arith) in
      omega (arith, low i' hi' (permitted_yes k i' j a'))

  pub edge_min_none : ((i : ℕ) → i < L → Permitted k i j → no_cost ≤ f i) → no_cost ≤ edge_min L k f j
  edge_min_none off = go (dec_lt (edge_min L k f j) no_cost)
    where
      go : Dec (edge_min L k f j < no_cost) → no_cost ≤ edge_min L k f j
      go (yes h) = let (i, hi, a, e) = (edge_min_lem L k f).met j hj h in absurd (omega (arith, off i hi (permitted_yes k i j a)))
      go (no h) = omega arith

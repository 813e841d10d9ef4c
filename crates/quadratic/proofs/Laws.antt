-- Laws of quadratics in ℕ. `omega` multiplies products out, so each law hands it the one product that it cannot find. Assumes nothing.
use mathlib.Core.Path.{◌≡◌, sym, ap, subst}
use mathlib.Core.Logic.{⊎_elim}
use Prim.Native.Nat.{ℕ, zero, suc, ◌+◌, ◌*◌, ◌-◌, ◌≤◌, ◌<◌}
use native.Mathlib.Nat.{mul-le-mul_left, mul-lt-mul_of_pos_left, lt_of_mul-lt-mul_left}
use native.Mathlib.Omega.{arith}
use lib.IntN.{ℤ, pos, ◌+ℤ◌, ◌-ℤ◌, ◌*ℤ◌}
use lib.Signed.{◌≤ℤ◌, ◌<ℤ◌}
use Rattle.integers.specs.Rep.{le_or_lt, iz, nz, ◌⊕◌, ◌⊖◌, ◌⊗◌, le_n, lt_n}
use Rattle.quadratic.specs.Level.{Placed}
use Rattle.quadratic.specs.Quad.{Quad, Lowest, Cut, Turns, Stays, AtMost, Less, Under, Over}

-- ---- a quotient below x + 1 or at least y: the end of [x, y]
-- ---- a quotient rounded down on signed levels, at its place
pub cut_of : (p q d x y r : ℕ) (m : ℤ) → (m *ℤ pos d) ≤ℤ (pos p -ℤ pos (q + d * 163840)) → (pos p -ℤ pos (q + d * 163840)) <ℤ ((m +ℤ pos 1) *ℤ pos d) → Placed m x y r → Cut p q d x y r
cut_of p q d x y r m f g t = record {
  low = t.low;
  high = t.high;
  under = λ n h k. omega (arith, le_n (iz m ⊗ nz d) (nz p ⊖ nz (q + d * 163840)) f, mul-le-mul_left d (le_n (nz r) (iz m ⊕ nz 163840) (t.under (omega arith))), mul-le-mul_left d k);
  over = λ n h k. omega (arith, lt_n (nz p ⊖ nz (q + d * 163840)) ((iz m ⊕ nz 1) ⊗ nz d) g, mul-le-mul_left d (le_n (iz m ⊕ nz 163840) (nz r) (t.over (omega arith))), mul-le-mul_left d h);
}

-- ---- one quadratic: up from where it rises, down to where it falls
sq≥ : (i : ℕ) → i ≤ i * i
sq≥ zero = omega arith
sq≥ (suc i) = omega arith

-- m is r + i
pub rises_on : (a z c r i : ℕ) → 2 * z ≤ a * (2 * r + 1) → a * (r * r) + c + 2 * (z * (r + i)) ≤ a * ((r + i) * (r + i)) + c + 2 * (z * r)
rises_on a z c r i h = omega (arith, mul-le-mul_left i h, mul-le-mul_left a (sq≥ i))

-- r is m + i + 1
pub falls_to : (a z c m i : ℕ) → a * (2 * (m + i) + 1) < 2 * z → a * ((m + i + 1) * (m + i + 1)) + c + 2 * (z * m) < a * (m * m) + c + 2 * (z * (m + i + 1))
falls_to a z c m i h =
    let p : 0 < i + 1 = omega arith in
    omega (arith, mul-lt-mul_of_pos_left h p)

-- where it does not fall from v on, it never falls after v; where it falls from v on, it has fallen to v
pub rises_after : (q : Quad) (v m : ℕ) → AtMost q v (v + 1) → v + 1 ≤ m → AtMost q (v + 1) m
rises_after q v m h g =
    let e : v + 1 + (m - (v + 1)) ≡ m = omega arith in
    subst (λ (n : ℕ). AtMost q (v + 1) n) e (rises_on q.a q.z q.c (v + 1) (m - (v + 1)) (omega arith))

pub falls_before : (q : Quad) (v m : ℕ) → Less q (v + 1) v → m ≤ v → AtMost q v m
falls_before q v m h g = ⊎_elim same earlier (le_or_lt v m)
  where
    same : v ≤ m → AtMost q v m
    same k = let e : v ≡ m = omega arith in subst (λ (n : ℕ). AtMost q v n) e (omega arith)

    from : (i : ℕ) → Less q (m + i + 1 + 1) (m + i + 1) → AtMost q (m + i + 1) m
    from i l = omega (arith, falls_to q.a q.z q.c m i (omega arith))

    earlier : m < v → AtMost q v m
    earlier k =
        let e : m + (v - suc m) + 1 ≡ v = omega arith in
        subst (λ (n : ℕ). AtMost q n m) e (from (v - suc m) (subst (λ (n : ℕ). Less q (n + 1) n) (sym e) h))

-- ---- two quadratics, w of a z c and l of A Z C: w is at most l at v
abbrev pub U : ℕ → ℕ → ℕ → ℕ → ℕ → ℕ → ℕ → Type 0
U a z c A Z C v = a * (v * v) + c + 2 * (Z * v) ≤ A * (v * v) + C + 2 * (z * v)

-- l − w falls up to m + i + 1, and is at least 0 there: so it is at m
back : (a z c Z C e m i : ℕ) → e * (2 * (m + i) + 1) + 2 * z < 2 * Z → U a z c (a + e) Z C (m + i + 1) → U a z c (a + e) Z C m
back a z c Z C e m i h u =
    let p : 0 < i + 1 = omega arith in
    omega (arith, mul-lt-mul_of_pos_left h p)

-- l − w rises from r on, and is at least 0 there: so it is at r + i
on : (a z c Z C e r i : ℕ) → 2 * Z ≤ e * (2 * r + 1) + 2 * z → U a z c (a + e) Z C r → U a z c (a + e) Z C (r + i)
on a z c Z C e r i h u = omega (arith, mul-le-mul_left i h, mul-le-mul_left e (sq≥ i))

-- a chord of A·v² + 2·z·v + C, from x to x + i
chord : (A z C x i : ℕ) → A * ((x + i) * (x + i)) + C + 2 * (z * (x + i)) ≡ A * (x * x) + C + 2 * (z * x) + i * (A * (2 * x + i) + 2 * z)
chord A z C x i = omega arith

-- l − w is concave: at least 0 at x and at x + i + j, so between
between : (a z c A Z C x i j : ℕ) → A ≤ a → U a z c A Z C x → U a z c A Z C (x + i + j) → U a z c A Z C (x + i)
between a z c A Z C x i j h u v = ⊎_elim (λ p. p) (λ p. absurd (fails p)) (le_or_lt (a * ((x + i) * (x + i)) + c + 2 * (Z * (x + i))) (A * ((x + i) * (x + i)) + C + 2 * (z * (x + i))))
  where
    fails : A * ((x + i) * (x + i)) + C + 2 * (z * (x + i)) < a * ((x + i) * (x + i)) + c + 2 * (Z * (x + i)) → ⊥
    fails p =
        let s1 : i * (A * (2 * x + i) + 2 * z) < i * (a * (2 * x + i) + 2 * Z) = omega (arith, chord A z C x i, chord a Z c x i) in
        let s2 : A * (2 * x + i) + 2 * z < a * (2 * x + i) + 2 * Z = lt_of_mul-lt-mul_left i s1 in
        let s3 : A * (2 * (x + i) + j) + 2 * z ≤ a * (2 * (x + i) + j) + 2 * Z = omega (arith, mul-le-mul_left (i + j) h) in
        omega (arith, chord A z C (x + i) j, chord a Z c (x + i) j, mul-le-mul_left j s3)

-- ---- the contracts' records from these
-- the turn of a quadratic's slope is its lowest least level
pub lowest_at_turn : (q : Quad) (x y r : ℕ) → Turns q.a q.z 0 x y r → Lowest q x y r
lowest_at_turn q x y r t = record {
  low = t.low;
  high = t.high;
  least = λ m h k. ⊎_elim (λ g. up_to m h g k) (λ g. less_le (firstly m h g)) (le_or_lt r m);
  first = firstly;
  falls = λ m h g. omega (arith, t.falls m h g);
}
  where
    zero_rise : {u v : ℕ} → u ≤ v + 2 * 0 → u ≤ v
    zero_rise h = omega arith

    zero_fall : {u v : ℕ} → u + 2 * 0 < v → u < v
    zero_fall h = omega arith

    less_le : {u v : ℕ} → u < v → u ≤ v
    less_le p = omega arith

    up_to : (m : ℕ) → x ≤ m → r ≤ m → m ≤ y → AtMost q r m
    up_to m h g k = ⊎_elim
        (λ d. let e : r ≡ m = omega arith in subst (λ (n : ℕ). AtMost q r n) e (omega arith))
        (λ d. let e : r + (m - r) ≡ m = omega arith in subst (λ (n : ℕ). AtMost q r n) e (rises_on q.a q.z q.c r (m - r) (zero_rise (t.rises r (omega arith) (omega arith)))))
        (le_or_lt m r)

    firstly : (m : ℕ) → x ≤ m → m < r → Less q r m
    firstly m h g =
        let e : m + (r - suc m) + 1 ≡ r = omega arith in
        subst (λ (n : ℕ). Less q n m) e (falls_to q.a q.z q.c m (r - suc m) (zero_fall (t.falls (m + (r - suc m)) (omega arith) (omega arith))))

-- how far w stays at most l, where l − w is convex and turns at k
module _ (w l : Quad) (x y k : ℕ) (h : w.a < l.a) (t : Turns (l.a - w.a) l.z w.z x y k) where
  convex : w.a + (l.a - w.a) ≡ l.a
  convex = omega arith

  -- from the turn back
  pub under_back : (s : ℕ) → s ≤ k → Under w l s → (m : ℕ) → x ≤ m → m ≤ s → Under w l m
  under_back s g u m p q = ⊎_elim
      (λ d. let e : s ≡ m = omega arith in subst (λ (n : ℕ). Under w l n) e u)
      (λ d.
      let i : ℕ = s - suc m in
      let es : s ≡ m + i + 1 = omega arith in
      let sl : (l.a - w.a) * (2 * (m + i) + 1) + 2 * w.z < 2 * l.z = t.falls (m + i) (omega arith) (omega arith) in
      subst (λ (A : ℕ). U w.a w.z w.c A l.z l.c m) convex
      (back w.a w.z w.c l.z l.c (l.a - w.a) m i sl (rw (convex, ← es) u)))
      (le_or_lt s m)

  pub under_on : Under w l k → (m : ℕ) → k ≤ m → m ≤ y → Under w l m
  under_on u m p q = ⊎_elim
      (λ d. let e : k ≡ m = omega arith in subst (λ (n : ℕ). Under w l n) e u)
      (λ d.
      let i : ℕ = m - k in
      let em : k + i ≡ m = omega arith in
      let sl : 2 * l.z ≤ (l.a - w.a) * (2 * k + 1) + 2 * w.z = t.rises k (omega arith) (omega arith) in
      subst (λ (A : ℕ). U w.a w.z w.c A l.z l.c m) convex
      (subst (λ (n : ℕ). U w.a w.z w.c (w.a + (l.a - w.a)) l.z l.c n) em
      (on w.a w.z w.c l.z l.c (l.a - w.a) k i sl (rw convex u))))
      (le_or_lt m k)

-- the squares are the same: l − w is a line, level or rising, or falling to its exact crossing
pub under_line : (w l : Quad) (x : ℕ) → w.a ≡ l.a → l.z ≤ w.z → Under w l x → (m : ℕ) → x ≤ m → Under w l m
under_line w l x e h u m p = rw e (omega (arith, rw e at u, mul-le-mul_left (m - x) h, split l.z, split w.z))
  where
    split : (k : ℕ) → k * m ≡ (m - x) * k + k * x
    split k = let em : m ≡ (m - x) + x = omega arith in rw (ap (λ (n : ℕ). k * n) em) (omega arith)

pub line_stays : (w l : Quad) (x y r : ℕ) → w.a ≡ l.a → w.z ≤ l.z → Under w l x → Cut l.c w.c (2 * (l.z - w.z)) x y r → Stays w l x y r
line_stays w l x y r e h u t = record {
  low = t.low;
  high = t.high;
  under = λ m p q. ⊎_elim
      (λ d. let g : x ≡ m = omega arith in subst (λ (n : ℕ). Under w l n) g u)
      (λ d. let g : (m - 1) + 1 ≡ m = omega arith in subst (λ (n : ℕ). Under w l n) g (before (m - 1) (t.under (m - 1) (omega arith) (omega arith))))
      (le_or_lt m x);
  last = λ p. after r (t.over r (omega arith) p);
}
  where
    ez : w.z + (l.z - w.z) ≡ l.z
    ez = omega arith

    line : (a z c C k m : ℕ) → 2 * k * (m + 1) + c ≤ C → U a z c a (z + k) C (m + 1)
    line a z c C k m g = omega arith

    cross : (a z c C k m : ℕ) → C < 2 * k * (m + 1) + c → a * ((m + 1) * (m + 1)) + C + 2 * (z * (m + 1)) < a * ((m + 1) * (m + 1)) + c + 2 * ((z + k) * (m + 1))
    cross a z c C k m g = omega arith

    before : (m : ℕ) → 2 * (l.z - w.z) * (m + 1) + w.c ≤ l.c → Under w l (m + 1)
    before m g = subst (λ (A : ℕ). U w.a w.z w.c A l.z l.c (m + 1)) e
        (subst (λ (Z : ℕ). U w.a w.z w.c w.a Z l.c (m + 1)) ez (line w.a w.z w.c l.c (l.z - w.z) m g))

    after : (m : ℕ) → l.c < 2 * (l.z - w.z) * (m + 1) + w.c → Over w l (m + 1)
    after m g = subst (λ (A : ℕ). A * ((m + 1) * (m + 1)) + l.c + 2 * (w.z * (m + 1)) < w.a * ((m + 1) * (m + 1)) + w.c + 2 * (l.z * (m + 1))) e
        (subst (λ (Z : ℕ). w.a * ((m + 1) * (m + 1)) + l.c + 2 * (w.z * (m + 1)) < w.a * ((m + 1) * (m + 1)) + w.c + 2 * (Z * (m + 1))) ez (cross w.a w.z w.c l.c (l.z - w.z) m g))

-- and where it is concave
pub under_between : (w l : Quad) (x s : ℕ) → l.a ≤ w.a → Under w l x → Under w l s → (m : ℕ) → x ≤ m → m ≤ s → Under w l m
under_between w l x s h u v m p q =
    let em : x + (m - x) ≡ m = omega arith in
    let es : s ≡ x + (m - x) + (s - m) = omega arith in
    subst (λ (n : ℕ). Under w l n) em
    (between w.a w.z w.c l.a l.z l.c x (m - x) (s - m) h u (subst (λ (n : ℕ). Under w l n) es v))

-- no square: level where z is 0, and else falling all the way
pub level : (q : Quad) (x y : ℕ) → q.a ≡ 0 → q.z ≡ 0 → x ≤ y → Lowest q x y x
level q x y ea ez h = record {
  low = omega arith;
  high = h;
  least = λ m g k. at m;
  first = λ m g k. omega arith;
  falls = λ m g k. omega arith;
}
  where
    at : (m : ℕ) → AtMost q x m
    at m = rw (ea, ez) (omega arith)

pub slope : (q : Quad) (x y : ℕ) → q.a ≡ 0 → (q.z ≡ 0 → ⊥) → x ≤ y → Lowest q x y y
slope q x y ea nz h = record {
  low = h;
  high = omega arith;
  least = λ m g k. at m k;
  first = λ m g k. lt m k;
  falls = λ m g k. one m;
}
  where
    at : (m : ℕ) → m ≤ y → AtMost q y m
    at m k = rw ea (omega (arith, mul-le-mul_left q.z k))

    one : (m : ℕ) → Less q (m + 1) m
    one m = let p : 0 < q.z = omega arith in rw ea (omega arith)

    lt : (m : ℕ) → m < y → Less q y m
    lt m k = let p : 0 < q.z = omega arith in rw ea (omega (arith, mul-lt-mul_of_pos_left k p))

-- under at x and over at k: they are not one level
pub apart : (w l : Quad) (x k : ℕ) → x ≤ k → Under w l x → Over w l k → x < k
apart w l x k h u o = ⊎_elim (λ p. absurd (same p)) (λ p. p) (le_or_lt k x)
  where
    same : k ≤ x → ⊥
    same p = let e : k ≡ x = omega arith in let o' : Over w l x = subst (Over w l) e o in omega arith

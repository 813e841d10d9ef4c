-- The places that `lowest_min` and `crossing` find, by trying one place after the other. Assumes nothing.
use Rattle.std.specs.Prelude.{◌≡◌, ℕ, zero, suc, ◌+◌, ◌-◌, ◌≤◌, ◌<◌, leb, ltb}
use Rattle.std.proofs.Common.{sym, ap, ◌∙◌, ⊎_elim, arith, le-leb, lt-ltb, le-ltb}
use Rattle.std.proofs.lemmas.Bool.{lt-leb}
use Rattle.integers.specs.Rep.{le_or_lt}
use Rattle.quadratic.specs.Quad.{Quad, up, down, AtMost, Less, Under, Over, Lowest, Stays}
use Rattle.quadratic.specs.Fine.{pick_n}

-- m where q is less there than at p, else p
unfoldable pub lower_place : Quad → ℕ → ℕ → ℕ
lower_place q p m = pick_n (ltb (up q m + down q p) (up q p + down q m)) m p

-- the lowest place of [x, x + k] at which q is least
unfoldable pub lowest_place : Quad → ℕ → ℕ → ℕ
lowest_place q x zero = x
lowest_place q x (suc k) = lower_place q (lowest_place q x k) (x + suc k)

-- the last place of [x, x + k] up to which w is at most l, where it is so at x
unfoldable pub last_under : Quad → Quad → ℕ → ℕ → ℕ
last_under w l x zero = x
last_under w l x (suc k) = pick_n (leb (up w (x + 1) + down l (x + 1)) (up l (x + 1) + down w (x + 1))) (last_under w l (x + 1) k) x

lower_new : (q : Quad) (p m : ℕ) → Less q m p → lower_place q p m ≡ m
unfolding lower_place
lower_new q p m h = rw (lt-ltb (up q m + down q p) (up q p + down q m) h)

lower_old : (q : Quad) (p m : ℕ) → AtMost q p m → lower_place q p m ≡ p
unfolding lower_place
lower_old q p m h = rw (le-ltb (up q m + down q p) (up q p + down q m) h)

lower_in : (q : Quad) (p m x y : ℕ) → (x ≤ p) × (p ≤ y) → (x ≤ m) × (m ≤ y) → (x ≤ lower_place q p m) × (lower_place q p m ≤ y)
lower_in q p m x y hp hm = ⊎_elim
    (λ h. rw (lower_old q p m h) hp)
    (λ h. rw (lower_new q p m h) hm)
    (le_or_lt (up q p + down q m) (up q m + down q p))

place_in : (q : Quad) (x k : ℕ) → (x ≤ lowest_place q x k) × (lowest_place q x k ≤ x + k)
unfolding lowest_place
place_in q x zero = omega arith
place_in q x (suc k) = let (a, b) = place_in q x k in lower_in q (lowest_place q x k) (x + suc k) x (x + suc k) (a, omega arith) (omega arith)

place_is : (q : Quad) (x k r : ℕ) → x ≤ r → r ≤ x + k → ((m : ℕ) → x ≤ m → m ≤ x + k → AtMost q r m) → ((m : ℕ) → x ≤ m → m < r → Less q r m) → r ≡ lowest_place q x k
unfolding lowest_place
place_is q x zero r a b f g = omega arith
place_is q x (suc k) r a b f g = ⊎_elim (λ h. old (place_is q x k r a h (λ m u v. f m u (omega arith)) g)) new (le_or_lt r (x + k))
  where
    old : r ≡ lowest_place q x k → r ≡ lower_place q (lowest_place q x k) (x + suc k)
    old e =
        sym (lower_old q r (x + suc k) (f (x + suc k) (omega arith) (omega arith))) ∙ ap (λ (p : ℕ). lower_place q p (x + suc k)) e

    new : x + k < r → r ≡ lower_place q (lowest_place q x k) (x + suc k)
    new h =
        let e : r ≡ x + suc k = omega arith in
        let (u, v) = place_in q x k in
        sym (lower_new q (lowest_place q x k) r (g (lowest_place q x k) u (omega arith))) ∙ ap (lower_place q (lowest_place q x k)) e

pub lowest_is : (q : Quad) (x y r : ℕ) → Lowest q x y r → r ≡ lowest_place q x (y - x)
lowest_is q x y r l = place_is q x (y - x) r l.low (omega (arith, l.low, l.high)) (λ m u v. l.least m u (omega (arith, l.low, l.high))) l.first

under_more : (w l : Quad) (x k : ℕ) → Under w l (x + 1) → last_under w l x (suc k) ≡ last_under w l (x + 1) k
unfolding last_under
under_more w l x k h = rw (le-leb (up w (x + 1) + down l (x + 1)) (up l (x + 1) + down w (x + 1)) h)

under_done : (w l : Quad) (x k : ℕ) → Over w l (x + 1) → last_under w l x (suc k) ≡ x
unfolding last_under
under_done w l x k h = rw (lt-leb (up w (x + 1) + down l (x + 1)) (up l (x + 1) + down w (x + 1)) h)

last_is : (w l : Quad) (x k r : ℕ) → Stays w l x (x + k) r → r ≡ last_under w l x k
unfolding last_under
last_is w l x zero r s = omega (arith, s.low, s.high)
last_is w l x (suc k) r s = ⊎_elim done (λ h. more h (last_is w l (x + 1) k r (further h))) (le_or_lt r x)
  where
    further : x < r → Stays w l (x + 1) (x + 1 + k) r
    further h = record { low = omega arith; high = omega (arith, s.high); under = λ m u v. s.under m (omega arith) v; last = λ g. s.last (omega arith) }

    done : r ≤ x → r ≡ last_under w l x (suc k)
    done h =
        let e : r ≡ x = omega (arith, s.low) in
        e ∙ sym (under_done w l x k (ap_over e (s.last (omega arith))))
      where
        ap_over : r ≡ x → Over w l (r + 1) → Over w l (x + 1)
        ap_over e o = rw (← e) o

    more : x < r → r ≡ last_under w l (x + 1) k → r ≡ last_under w l x (suc k)
    more h e = e ∙ sym (under_more w l x k (s.under (x + 1) (omega arith) (omega arith)))

pub stays_is : (w l : Quad) (x y r : ℕ) → Stays w l x y r → r ≡ last_under w l x (y - x)
stays_is w l x y r s = last_is w l x (y - x) r (record { low = s.low; high = omega (arith, s.low, s.high); under = s.under; last = λ g. s.last (omega (arith, s.low, s.high)) })

-- Division rounded down. Assumes nothing.
use mathlib.Core.Path.{◌≡◌, refl}
use mathlib.Core.Logic.{⊎_elim}
use Prim.Native.Nat.{ℕ, zero, suc, ◌/◌, ◌<◌}
use native.Mathlib.Nat.{div-add-mod', mod-lt, mul-le-mul_left}
use native.Mathlib.Omega.{arith}
use lib.IntN.{ℤ, pos, negsuc, ◌+ℤ◌, ◌*ℤ◌}
use lib.Signed.{◌≤ℤ◌, ◌<ℤ◌, quot_z}
use mir.Syntax.{Width}
use mir.Val.{SFits}
use Rattle.integers.specs.Rep.{iz, nz, mz, neg, sfits_of, ◌⊕◌, ◌⊗◌, eq_z, le_z_of, lt_z_of, le_n, lt_n, by_gap⁺, le_or_lt_z}
use Rattle.integers.specs.Floor.{floor_div}

-- what a quotient q of n by d must be, rounded down
abbrev pub Down : ℤ → ℤ → ℤ → Type 0
Down n d q = ((q *ℤ d) ≤ℤ n) × (n <ℤ ((q +ℤ pos 1) *ℤ d))

-- the quotient rounded down is the one multiple that the definition names
pub floor_down : (n d : ℤ) → pos 0 <ℤ d → Down n d (floor_div n d)
unfolding floor_div
floor_down n (negsuc b) h = absurd h.lt
floor_down n (pos zero) h = absurd h.lt
floor_down (pos a) (pos (suc b)) h =
    (le_z_of (nz (a / suc b) ⊗ nz (suc b)) (nz a) (omega (arith, div-add-mod' a (suc b))), lt_z_of (nz a) ((nz (a / suc b) ⊕ nz 1) ⊗ nz (suc b)) (omega (arith, div-add-mod' a (suc b), mod-lt a (rest b))))
  where
    rest : (b : ℕ) → 0 < suc b
    rest b = omega arith
floor_down (negsuc a) (pos (suc b)) h =
    (le_z_of (mz (a / suc b) ⊗ nz (suc b)) (mz a) (omega (arith, div-add-mod' a (suc b), mod-lt a (rest b))), lt_z_of (mz a) ((mz (a / suc b) ⊕ nz 1) ⊗ nz (suc b)) (omega (arith, div-add-mod' a (suc b))))
  where
    rest : (b : ℕ) → 0 < suc b
    rest b = omega arith

-- a divisor above zero is `pos b`
on_pos : (Q : ℤ → Type 0) (d : ℤ) → pos 0 <ℤ d → ((b : ℕ) → 0 < b → Q (pos b)) → Q d
on_pos Q (pos b) h k = k b (omega (arith, lt_n (nz 0) (nz b) h))
on_pos Q (negsuc b) h k = absurd h.lt

-- what lies in [q d, (q + 1) d) is no other multiple
one_way : (b : ℕ) (n q r : ℤ) → Down n (pos b) q → Down n (pos b) r → r <ℤ q → ⊥
one_way b n q r x y l =
    by_gap⁺ (λ z. Down n (pos b) z → ⊥) r q l
    (λ i w. omega (arith, lt_n (iz n) ((iz r ⊕ nz 1) ⊗ nz b) y.1, le_n ((iz r ⊕ nz i ⊕ nz 1) ⊗ nz b) (iz n) w.0))
    x

-- a quotient rounded down is the only one
pub down_one : (n d q r : ℤ) → pos 0 <ℤ d → Down n d q → Down n d r → q ≡ r
down_one n d q r h = on_pos (λ e. Down n e q → Down n e r → q ≡ r) d h one
  where
    one : (b : ℕ) → 0 < b → Down n (pos b) q → Down n (pos b) r → q ≡ r
    one b l x y = ⊎_elim (λ p. ⊎_elim (λ o. eq_z (iz q) (iz r) (omega (arith, le_n (iz q) (iz r) p, le_n (iz r) (iz q) o))) (λ o. absurd (one_way b n r q y x o)) (le_or_lt_z r q)) (λ p. absurd (one_way b n q r x y p)) (le_or_lt_z q r)

pub floor_other : (n d : ℤ) → d ≤ℤ pos 0 → floor_div n d ≡ pos 0
unfolding floor_div
floor_other n (negsuc b) h = refl
floor_other n (pos zero) h = refl
floor_other n (pos (suc b)) h = absurd (omega (arith, le_n (nz (suc b)) (nz 0) h))

-- a quotient toward zero fits where what is divided fits; no proof here asks for it
pub quot_fits : (b : ℕ) → 0 < b → (w : Width) (z : ℤ) → SFits w z → SFits w (quot_z z (pos b))
quot_fits b h w (pos a) f = let g = f.sfits in sfits_of w (nz (a / b)) (omega (arith, div-add-mod' a b, mul-le-mul_left (a / b) h)) (omega arith)
quot_fits b h w (negsuc a) f = let g = f.sfits in sfits_of w (neg (nz (suc a / b))) (omega arith) (omega (arith, div-add-mod' (suc a) b, mul-le-mul_left (suc a / b) h))

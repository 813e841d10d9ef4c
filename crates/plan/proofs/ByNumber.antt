-- A kind read off its number and its gap. Assumes nothing.
use Prim.Native.Nat.{ℕ, ◌<◌}
use native.Mathlib.Omega.{arith}
use mathlib.Core.Path.{◌≡◌, refl, sym, ap}
use Rattle.plan.specs.declared.Kind.{Kind}
use Rattle.plan.specs.declared.Kind.TheVariants.{Stay, Any, Up, Down, Abs}
use Rattle.plan.specs.Build.{kind_number, gap_of}

pub kind_stay : (k : Kind) → kind_number k ≡ 0 → k ≡ Stay
kind_stay Stay e = refl
kind_stay Any e = absurd (omega (arith, e))
kind_stay (Up h) e = absurd (omega (arith, e))
kind_stay (Down h) e = absurd (omega (arith, e))
kind_stay (Abs h) e = absurd (omega (arith, e))

pub kind_any : (k : Kind) → kind_number k ≡ 1 → k ≡ Any
kind_any Stay e = absurd (omega (arith, e))
kind_any Any e = refl
kind_any (Up h) e = absurd (omega (arith, e))
kind_any (Down h) e = absurd (omega (arith, e))
kind_any (Abs h) e = absurd (omega (arith, e))

pub kind_up : (k : Kind) (g : ℕ) → kind_number k ≡ 2 → g ≡ gap_of k → k ≡ Up g
kind_up Stay g e q = absurd (omega (arith, e))
kind_up Any g e q = absurd (omega (arith, e))
kind_up (Up h) g e q = ap Up (sym q)
kind_up (Down h) g e q = absurd (omega (arith, e))
kind_up (Abs h) g e q = absurd (omega (arith, e))

pub kind_down : (k : Kind) (g : ℕ) → kind_number k ≡ 3 → g ≡ gap_of k → k ≡ Down g
kind_down Stay g e q = absurd (omega (arith, e))
kind_down Any g e q = absurd (omega (arith, e))
kind_down (Up h) g e q = absurd (omega (arith, e))
kind_down (Down h) g e q = ap Down (sym q)
kind_down (Abs h) g e q = absurd (omega (arith, e))

pub kind_abs : (k : Kind) (g : ℕ) → kind_number k ≡ 4 → g ≡ gap_of k → k ≡ Abs g
kind_abs Stay g e q = absurd (omega (arith, e))
kind_abs Any g e q = absurd (omega (arith, e))
kind_abs (Up h) g e q = absurd (omega (arith, e))
kind_abs (Down h) g e q = absurd (omega (arith, e))
kind_abs (Abs h) g e q = ap Abs (sym q)

-- there is no other number
pub no_kind : {A : Type 0} (k : Kind) → 4 < kind_number k → A
no_kind Stay h = absurd (omega arith)
no_kind Any h = absurd (omega arith)
no_kind (Up g) h = absurd (omega arith)
no_kind (Down g) h = absurd (omega arith)
no_kind (Abs g) h = absurd (omega arith)

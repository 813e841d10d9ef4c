-- A choice by a test, and the outcome of a call that may be refused. Assumes nothing.
use Rattle.std.specs.Prelude.{ℕ, ◌≡◌, Bool, true, false, eqb}
use Rattle.std.proofs.Common.{sym, ne_eqb}

-- the first where the test holds, else the second
abbrev pub pick : {A : Type 0} → Bool → A → A → A
pick true a b = a
pick false a b = b

-- a call's number m, and what it leaves: x where it is not refused, else y as it was
module _ {A : Type 0} (m : ℕ) (x y : A) where
  pub when_refused : (n : ℕ) → m ≡ n → (n ≡ 0 → ⊥) → (n ≡ m) × (y ≡ pick (eqb m 0) x y)
  when_refused n e h = (sym e, rw (e, ne_eqb n 0 h))

  pub when_done : (z : A) → m ≡ 0 → z ≡ x → (0 ≡ m) × (z ≡ pick (eqb m 0) x y)
  when_done z e h = (sym e, rw e h)

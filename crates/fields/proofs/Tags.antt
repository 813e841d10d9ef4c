-- Which tags may stand at each stage, read off the table.
-- Assumes nothing.
use Rattle.std.specs.Prelude.{ℕ, ◌%◌, ◌≤◌, ◌≡◌, refl, Bool, true, false, List, ◌⊎◌, eqb, leb}
use Rattle.std.proofs.Common.{arith, sym, ◌∙◌, ap, subst, lit≤, eqb-true}
use Rattle.std.proofs.Math.Logic.{inl, inr}
use Rattle.integers.specs.Pick.{pick}
use Rattle.fields.specs.declared.Row.{Row}
use Rattle.fields.specs.Fields.{Body, row_of, may_stand, length_fits, field_at}
use Rattle.fields.proofs.Laws.{field_is}

abbrev nowhere : Row
nowhere = record { first = 1; last = 0; next = 4; len = 0 }

-- a tag is one of the table's, or stands nowhere
row_cases :
    {Q : Type 0} (t : ℕ) → (t ≡ 0x01 → Q) → (t ≡ 0x02 → Q) → (t ≡ 0x03 → Q) → (t ≡ 0x04 → Q) → (t ≡ 0x05 → Q) → (t ≡ 0x81 → Q) → (t ≡ 0x82 → Q) → (t ≡ 0x83 → Q) →
    (row_of t ≡ nowhere → Q) → Q
unfolding row_of
row_cases {Q} t f₁ f₂ f₃ f₄ f₅ f₆ f₇ f₈ f₉ = go₁ (eqb t 0x01) refl
  where
    go₈ : eqb t 0x01 ≡ false → eqb t 0x02 ≡ false → eqb t 0x03 ≡ false → eqb t 0x04 ≡ false → eqb t 0x05 ≡ false → eqb t 0x81 ≡ false → eqb t 0x82 ≡ false → (b : Bool) → eqb t 0x83 ≡ b → Q
    go₈ q₁ q₂ q₃ q₄ q₅ q₆ q₇ true e = f₈ (eqb-true t 0x83 e)
    go₈ q₁ q₂ q₃ q₄ q₅ q₆ q₇ false e = f₉ (rw (q₁, q₂, q₃, q₄, q₅, q₆, q₇, e))

    go₇ : eqb t 0x01 ≡ false → eqb t 0x02 ≡ false → eqb t 0x03 ≡ false → eqb t 0x04 ≡ false → eqb t 0x05 ≡ false → eqb t 0x81 ≡ false → (b : Bool) → eqb t 0x82 ≡ b → Q
    go₇ q₁ q₂ q₃ q₄ q₅ q₆ true e = f₇ (eqb-true t 0x82 e)
    go₇ q₁ q₂ q₃ q₄ q₅ q₆ false e = go₈ q₁ q₂ q₃ q₄ q₅ q₆ e (eqb t 0x83) refl

    go₆ : eqb t 0x01 ≡ false → eqb t 0x02 ≡ false → eqb t 0x03 ≡ false → eqb t 0x04 ≡ false → eqb t 0x05 ≡ false → (b : Bool) → eqb t 0x81 ≡ b → Q
    go₆ q₁ q₂ q₃ q₄ q₅ true e = f₆ (eqb-true t 0x81 e)
    go₆ q₁ q₂ q₃ q₄ q₅ false e = go₇ q₁ q₂ q₃ q₄ q₅ e (eqb t 0x82) refl

    go₅ : eqb t 0x01 ≡ false → eqb t 0x02 ≡ false → eqb t 0x03 ≡ false → eqb t 0x04 ≡ false → (b : Bool) → eqb t 0x05 ≡ b → Q
    go₅ q₁ q₂ q₃ q₄ true e = f₅ (eqb-true t 0x05 e)
    go₅ q₁ q₂ q₃ q₄ false e = go₆ q₁ q₂ q₃ q₄ e (eqb t 0x81) refl

    go₄ : eqb t 0x01 ≡ false → eqb t 0x02 ≡ false → eqb t 0x03 ≡ false → (b : Bool) → eqb t 0x04 ≡ b → Q
    go₄ q₁ q₂ q₃ true e = f₄ (eqb-true t 0x04 e)
    go₄ q₁ q₂ q₃ false e = go₅ q₁ q₂ q₃ e (eqb t 0x05) refl

    go₃ : eqb t 0x01 ≡ false → eqb t 0x02 ≡ false → (b : Bool) → eqb t 0x03 ≡ b → Q
    go₃ q₁ q₂ true e = f₃ (eqb-true t 0x03 e)
    go₃ q₁ q₂ false e = go₄ q₁ q₂ e (eqb t 0x04) refl

    go₂ : eqb t 0x01 ≡ false → (b : Bool) → eqb t 0x02 ≡ b → Q
    go₂ q₁ true e = f₂ (eqb-true t 0x02 e)
    go₂ q₁ false e = go₃ q₁ e (eqb t 0x03) refl

    go₁ : (b : Bool) → eqb t 0x01 ≡ b → Q
    go₁ true e = f₁ (eqb-true t 0x01 e)
    go₁ false e = go₂ e (eqb t 0x02) refl

clash : {Q : Type 0} {b : Bool} → b ≡ false → b ≡ true → Q
clash p q = let z : ◌≡◌ {A = ℕ} 0 1 = cc in absurd (omega arith)

no : {Q : Type 0} (stage t k : ℕ) → may_stand stage t ≡ true → may_stand stage k ≡ false → t ≡ k → Q
no stage t k h f e = clash (ap (may_stand stage) e ∙ f) h

-- the test of a row
abbrev at : ℕ → Row → Bool
at stage r = pick (leb r.first stage) (leb stage r.last) false

module _ (t : ℕ) where
  pub at_0 : may_stand 0 t ≡ true → t ≡ 0x01
  unfolding may_stand row_of
  at_0 h = row_cases t (λ e. e) (no 0 t 0x02 h refl) (no 0 t 0x03 h refl) (no 0 t 0x04 h refl) (no 0 t 0x05 h refl) (no 0 t 0x81 h refl) (no 0 t 0x82 h refl) (no 0 t 0x83 h refl) (λ e. clash (ap (at 0) e) h)

  pub at_1 : may_stand 1 t ≡ true → t ≡ 0x02
  unfolding may_stand row_of
  at_1 h = row_cases t (no 1 t 0x01 h refl) (λ e. e) (no 1 t 0x03 h refl) (no 1 t 0x04 h refl) (no 1 t 0x05 h refl) (no 1 t 0x81 h refl) (no 1 t 0x82 h refl) (no 1 t 0x83 h refl) (λ e. clash (ap (at 1) e) h)

  pub at_2 : may_stand 2 t ≡ true → (t ≡ 0x03) ⊎ ((t ≡ 0x04) ⊎ (t ≡ 0x05))
  unfolding may_stand row_of
  at_2 h = row_cases t (no 2 t 0x01 h refl) (no 2 t 0x02 h refl) (λ e. inl e) (λ e. inr (inl e)) (λ e. inr (inr e)) (no 2 t 0x81 h refl) (no 2 t 0x82 h refl) (no 2 t 0x83 h refl) (λ e. clash (ap (at 2) e) h)

  pub at_3 : may_stand 3 t ≡ true → (t ≡ 0x04) ⊎ (t ≡ 0x05)
  unfolding may_stand row_of
  at_3 h = row_cases t (no 3 t 0x01 h refl) (no 3 t 0x02 h refl) (no 3 t 0x03 h refl) (λ e. inl e) (λ e. inr e) (no 3 t 0x81 h refl) (no 3 t 0x82 h refl) (no 3 t 0x83 h refl) (λ e. clash (ap (at 3) e) h)

  pub at_5 : may_stand 5 t ≡ true → (t ≡ 0x81) ⊎ (t ≡ 0x83)
  unfolding may_stand row_of
  at_5 h = row_cases t (no 5 t 0x01 h refl) (no 5 t 0x02 h refl) (no 5 t 0x03 h refl) (no 5 t 0x04 h refl) (no 5 t 0x05 h refl) (λ e. inl e) (no 5 t 0x82 h refl) (λ e. inr e) (λ e. clash (ap (at 5) e) h)

  pub at_6 : may_stand 6 t ≡ true → t ≡ 0x82
  unfolding may_stand row_of
  at_6 h = row_cases t (no 6 t 0x01 h refl) (no 6 t 0x02 h refl) (no 6 t 0x03 h refl) (no 6 t 0x04 h refl) (no 6 t 0x05 h refl) (no 6 t 0x81 h refl) (λ e. e) (no 6 t 0x83 h refl) (λ e. clash (ap (at 6) e) h)

-- the length that a field of fixed length has
pub has_length : (t k l : ℕ) → t ≡ k → eqb k 0x05 ≡ false → length_fits t l ≡ true → l ≡ (row_of k).len
unfolding length_fits
has_length t k l e f h = go (eqb k 0x05) f (sym (ap (λ (x : ℕ). length_fits x l) e) ∙ h)
  where
    go : (b : Bool) → b ≡ false → pick b (eqb (l % 2) 0) (eqb l (row_of k).len) ≡ true → l ≡ (row_of k).len
    go false q r = eqb-true l (row_of k).len r
    go true q r = clash q refl

-- no body of fixed length is longer than 8 bytes
short_at : (t k : ℕ) → (row_of k).len ≤ 8 → t ≡ k → (row_of t).len ≤ 8
short_at t k h e = subst (λ (x : ℕ). (row_of x).len ≤ 8) (sym e) h

pub row_short : (t : ℕ) → (row_of t).len ≤ 8
unfolding row_of
row_short t =
    row_cases t (short_at t 0x01 (lit≤ tt)) (short_at t 0x02 (lit≤ tt)) (short_at t 0x03 (lit≤ tt)) (short_at t 0x04 (lit≤ tt)) (short_at t 0x05 (lit≤ tt)) (short_at t 0x81 (lit≤ tt)) (short_at t 0x82 (lit≤ tt)) (short_at t 0x83 (lit≤ tt))
    (λ e. subst (λ (r : Row). r.len ≤ 8) (sym e) (lit≤ tt))

-- at the end of a file no tag may stand
pub at_4 : (t : ℕ) → may_stand 4 t ≡ false
unfolding may_stand row_of
at_4 t = row_cases t (ap (may_stand 4)) (ap (may_stand 4)) (ap (may_stand 4)) (ap (may_stand 4)) (ap (may_stand 4)) (ap (may_stand 4)) (ap (may_stand 4)) (ap (may_stand 4)) (ap (at 4))

-- so no field is read there
pub nothing_after : (s : List ℕ) (i : ℕ) {t st l : ℕ} → field_at s i 4 ≡ Body t st l → ⊥
nothing_after s i {t} e = clash (at_4 t) (field_is s i 4 e).stands

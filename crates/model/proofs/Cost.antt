-- What is minimised: the cost and, among equal costs, the number of changes. Most other modules know it by these laws alone. Assumes nothing.
use Rattle.std.specs.Prelude.{◌≡◌, refl, ◌⊎◌, Bool, true, false, ◌&&◌, ◌||◌, cond, ℕ, ◌+◌, ◌≤◌, ltb, leb, eqb}
use Rattle.std.proofs.Common.{sym, ◌∙◌, ap, inl, inr, arith, ltb-true, ltb-false, leb-true, leb-false, eqb-true, eq-eqb}
use Rattle.std.proofs.lemmas.Bool.{eqb-false}
use Rattle.model.specs.Cost.{Below, Cost, meet, same, value, ◌≼◌, ◌⊕◌}

pub ≼_refl : (a : Cost) → a ≼ a
≼_refl a = record { le = inr (refl, omega arith) }

pub ≼_trans : {a b c : Cost} → a ≼ b → b ≼ c → a ≼ c
≼_trans {a} {b} {c} h k = record { le = go h.le k.le }
  where
    go : Below a b → Below b c → Below a c
    go (inl x) (inl y) = inl (omega arith)
    go (inl x) (inr (e, y)) = inl (omega arith)
    go (inr (e, x)) (inl y) = inl (omega arith)
    go (inr (e, x)) (inr (f, y)) = inr (omega arith, omega arith)

pub ≼-antisym : {a b : Cost} → a ≼ b → b ≼ a → a ≡ b
≼-antisym {a} {b} h k = go h.le k.le
  where
    go : Below a b → Below b a → a ≡ b
    go (inl x) (inl y) = absurd (omega arith)
    go (inl x) (inr (e, y)) = absurd (omega arith)
    go (inr (e, x)) (inl y) = absurd (omega arith)
    go (inr (e, x)) (inr (f, y)) = let g : a.1 ≡ b.1 = omega arith in λ i. (e i, g i)

pub ≼-mono : {a b : Cost} (x : Cost) → a ≼ b → a ⊕ x ≼ b ⊕ x
unfolding ◌⊕◌
≼-mono {a} {b} x h = record { le = go h.le }
  where
    go : Below a b → Below (a.0 + x.0, a.1 + x.1) (b.0 + x.0, b.1 + x.1)
    go (inl y) = inl (omega arith)
    go (inr (e, y)) = inr (omega arith, omega arith)

pub cancel : {a b : Cost} (x : Cost) → a ⊕ x ≡ b ⊕ x → a ≡ b
unfolding ◌⊕◌
cancel {a} {b} x p =
    let h : a.0 + x.0 ≡ b.0 + x.0 = ap (λ (y : Cost). y.0) p in
    let k : a.1 + x.1 ≡ b.1 + x.1 = ap (λ (y : Cost). y.1) p in
    let e : a.0 ≡ b.0 = omega arith in
    let f : a.1 ≡ b.1 = omega arith in
    λ i. (e i, f i)

pub assoc : (a x y : Cost) → a ⊕ x ⊕ y ≡ a ⊕ (x ⊕ y)
unfolding ◌⊕◌
assoc a x y =
    let e : a.0 + x.0 + y.0 ≡ a.0 + (x.0 + y.0) = omega arith in
    let f : a.1 + x.1 + y.1 ≡ a.1 + (x.1 + y.1) = omega arith in
    λ i. (e i, f i)

-- the lower of two is one of them, and below both
pub meet_is : (a b : Cost) → ((meet a b ≡ a) × (a ≼ b)) ⊎ ((meet a b ≡ b) × (b ≼ a))
unfolding meet
meet_is a b = go (ltb a.0 b.0) (eqb a.0 b.0) (leb a.1 b.1) refl refl refl
  where
    go : (x y z : Bool) → ltb a.0 b.0 ≡ x → eqb a.0 b.0 ≡ y → leb a.1 b.1 ≡ z
        → ((cond (x || (y && z)) a b ≡ a) × (a ≼ b)) ⊎ ((cond (x || (y && z)) a b ≡ b) × (b ≼ a))
    go true y z p q r = inl (refl, record { le = inl (ltb-true a.0 b.0 p) })
    go false true true p q r = inl (refl, record { le = inr (eqb-true a.0 b.0 q, leb-true a.1 b.1 r) })
    go false true false p q r = let h = leb-false a.1 b.1 r in inr (refl, record { le = inr (sym (eqb-true a.0 b.0 q), omega arith) })
    go false false z p q r = let h = ltb-false a.0 b.0 p in let k : ¬ (a.0 ≡ b.0) = eqb-false a.0 b.0 q in inr (refl, record { le = inl (omega arith) })

-- so it is the one that is below the other
pub meet_left : (a b : Cost) → a ≼ b → meet a b ≡ a
meet_left a b h = go (meet_is a b)
  where
    go : ((meet a b ≡ a) × (a ≼ b)) ⊎ ((meet a b ≡ b) × (b ≼ a)) → meet a b ≡ a
    go (inl (e, k)) = e
    go (inr (e, k)) = e ∙ ≼-antisym k h

pub meet_right : (a b : Cost) → b ≼ a → meet a b ≡ b
meet_right a b h = go (meet_is a b)
  where
    go : ((meet a b ≡ a) × (a ≼ b)) ⊎ ((meet a b ≡ b) × (b ≼ a)) → meet a b ≡ b
    go (inl (e, k)) = e ∙ ≼-antisym k h
    go (inr (e, k)) = e

pub meet_add : (a b x : Cost) → meet a b ⊕ x ≡ meet (a ⊕ x) (b ⊕ x)
meet_add a b x = go (meet_is a b)
  where
    go : ((meet a b ≡ a) × (a ≼ b)) ⊎ ((meet a b ≡ b) × (b ≼ a)) → meet a b ⊕ x ≡ meet (a ⊕ x) (b ⊕ x)
    go (inl (e, h)) = ap (λ (y : Cost). y ⊕ x) e ∙ sym (meet_left (a ⊕ x) (b ⊕ x) (≼-mono x h))
    go (inr (e, h)) = ap (λ (y : Cost). y ⊕ x) e ∙ sym (meet_right (a ⊕ x) (b ⊕ x) (≼-mono x h))

pub same_yes : (a b : Cost) → same a b ≡ true → a ≡ b
unfolding same
same_yes a b h = go (eqb a.0 b.0) refl h
  where
    go : (x : Bool) → eqb a.0 b.0 ≡ x → (x && eqb a.1 b.1) ≡ true → a ≡ b
    go true p q = λ i. (eqb-true a.0 b.0 p i, eqb-true a.1 b.1 q i)
    go false p q = let z : ◌≡◌ {A = ℕ} 0 1 = cc in absurd (omega arith)

pub same_refl : (a : Cost) → same a a ≡ true
unfolding same
same_refl a = simp (eq-eqb a.0 a.0 refl, eq-eqb a.1 a.1 refl)

pub value_mono : {a b : Cost} → a ≼ b → value a ≤ value b
unfolding value
value_mono {a} {b} h = go h.le
  where
    go : Below a b → a.0 ≤ b.0
    go (inl k) = omega arith
    go (inr (e, k)) = omega arith

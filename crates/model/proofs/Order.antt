-- The order of lists of numbers, and that it leaves no tie: its numbers determine a segmentation. Assumes nothing.
use Rattle.std.specs.Prelude.{◌≡◌, refl, ◌⊎◌, List, [], ◌∷◌, Bool, true, false, cond, ℕ, suc, ℤ, ◌<ℤ◌, length}
use Rattle.std.proofs.Common.{sym, ◌∙◌, ap, subst, inl, inr, arith}
use Rattle.std.specs.Int.Signed.{lt_z, lt_z_yes, lt_z_no, <ℤ_irrefl}
use Rattle.integers.specs.Rep.{iz, eq_z, le_n, lt_n, lt_z_of, holds, fails}
use Rattle.plan.specs.declared.Plan.{Plan}
use Rattle.model.specs.Segmentation.{Seg, first, next, readings, last_level, back, Lower, readings_pos}
use Rattle.model.specs.Model.{edge_at, last_state, Follows, order, First}
use Rattle.model.specs.Listed.{lower_test}
use Rattle.model.proofs.Bools.{clash}

-- neither is lower
lt_z_neither : (x y : ℤ) → lt_z x y ≡ false → lt_z y x ≡ false → x ≡ y
lt_z_neither x y p q = eq_z (iz x) (iz y) (omega (arith, le_n (iz y) (iz x) (lt_z_no (fails p)), le_n (iz x) (iz y) (lt_z_no (fails q))))

pub lower_yes : (xs ys : List ℤ) → lower_test xs ys ≡ true → Lower xs ys
unfolding lower_test
lower_yes [] ys h = clash h
lower_yes (x ∷ xs) [] h = clash h
lower_yes (x ∷ xs) (y ∷ ys) h = go (lt_z x y) (lt_z y x) refl refl h (lower_yes xs ys)
  where
    go : (b c : Bool) → lt_z x y ≡ b → lt_z y x ≡ c → cond b true (cond c false (lower_test xs ys)) ≡ true → (lower_test xs ys ≡ true → Lower xs ys) → (x <ℤ y) ⊎ ((x ≡ y) × Lower xs ys)
    go true c p q r ih = inl (lt_z_yes (holds p))
    go false true p q r ih = clash r
    go false false p q r ih = inr (lt_z_neither x y p q, ih r)

pub lower_no : (xs ys : List ℤ) → length xs ≡ length ys → lower_test xs ys ≡ false → (xs ≡ ys) ⊎ Lower ys xs
unfolding lower_test
lower_no [] [] n h = inl refl
lower_no [] (y ∷ ys) n h = absurd (omega arith)
lower_no (x ∷ xs) [] n h = absurd (omega arith)
lower_no (x ∷ xs) (y ∷ ys) n h = go (lt_z x y) (lt_z y x) refl refl h (lower_no xs ys (omega arith))
  where
    rest : x ≡ y → (xs ≡ ys) ⊎ Lower ys xs → (◌≡◌ {A = List ℤ} (x ∷ xs) (y ∷ ys)) ⊎ ((y <ℤ x) ⊎ ((y ≡ x) × Lower ys xs))
    rest e (inl f) = inl (cc)
    rest e (inr f) = inr (inr (sym e, f))

    go : (b c : Bool) → lt_z x y ≡ b → lt_z y x ≡ c → cond b true (cond c false (lower_test xs ys)) ≡ false → (lower_test xs ys ≡ false → (xs ≡ ys) ⊎ Lower ys xs)
        → (◌≡◌ {A = List ℤ} (x ∷ xs) (y ∷ ys)) ⊎ ((y <ℤ x) ⊎ ((y ≡ x) × Lower ys xs))
    go true c p q r ih = clash (sym r)
    go false true p q r ih = inr (inl (lt_z_yes (holds q)))
    go false false p q r ih = rest (lt_z_neither x y p q) (ih r)

pub lower_trans : (xs ys zs : List ℤ) → Lower xs ys → Lower ys zs → Lower xs zs
lower_trans [] ys zs h k = absurd h
lower_trans (x ∷ xs) [] zs h k = absurd h
lower_trans (x ∷ xs) (y ∷ ys) [] h k = absurd k
lower_trans (x ∷ xs) (y ∷ ys) (z ∷ zs) (inl h) (inl k) = inl (lt_z_of (iz x) (iz z) (omega (arith, lt_n (iz x) (iz y) h, lt_n (iz y) (iz z) k)))
lower_trans (x ∷ xs) (y ∷ ys) (z ∷ zs) (inl h) (inr (e, k)) = inl (subst (λ (w : ℤ). x <ℤ w) e h)
lower_trans (x ∷ xs) (y ∷ ys) (z ∷ zs) (inr (e, h)) (inl k) = inl (subst (λ (w : ℤ). w <ℤ z) (sym e) k)
lower_trans (x ∷ xs) (y ∷ ys) (z ∷ zs) (inr (e, h)) (inr (f, k)) = inr (e ∙ f, lower_trans xs ys zs h k)

lower_irrefl : (xs : List ℤ) → Lower xs xs → ⊥
lower_irrefl [] h = h
lower_irrefl (x ∷ xs) (inl h) = <ℤ_irrefl h
lower_irrefl (x ∷ xs) (inr (e, h)) = lower_irrefl xs h

pub back_length : (g g' : Seg) → readings g ≡ readings g' → length (back g) ≡ length (back g')
unfolding readings back
back_length (first s m) (first s' m') n = refl
back_length (first s m) (next g' e' m') n = absurd (omega (arith, readings_pos g'))
back_length (next g e m) (first s' m') n = absurd (omega (arith, readings_pos g))
back_length (next g e m) (next g' e' m') n = ap (λ (k : ℕ). suc (suc k)) (back_length g g' (omega arith))

back_one : (P : Plan) (g g' : Seg) → Follows P g → Follows P g' → last_state P g ≡ last_state P g' → last_level g ≡ last_level g' → back g ≡ back g' → g ≡ g'
unfolding Follows last_state last_level back
back_one P (first s m) (first s' m') f f' p q r = cc
back_one P (first s m) (next g' e' m') f f' p q r = cc
back_one P (next g e m) (first s' m') f f' p q r = cc
back_one P (next g e m) (next g' e' m') f f' p q r =
    let i : e ≡ e' = cc in
    let j : last_level g ≡ last_level g' = cc in
    let k : back g ≡ back g' = cc in
    let s : last_state P g ≡ last_state P g' = sym f.2 ∙ ap (λ (x : ℕ). (edge_at P x).from) i ∙ f'.2 in
    let h : g ≡ g' = back_one P g g' f.0 f'.0 s j k in
    cc

-- the order's numbers determine a segmentation that keeps the edge rules
pub order_one : (P : Plan) (g g' : Seg) → Follows P g → Follows P g' → order P g ≡ order P g' → g ≡ g'
unfolding order
order_one P g g' f f' e =
    let a : last_state P g ≡ last_state P g' = cc in
    let b : last_level g ≡ last_level g' = cc in
    let c : back g ≡ back g' = cc in
    back_one P g g' f f' a b c

-- there is one first segmentation
pub first_one : (P : Plan) (zs : List ℤ) (g g' : Seg) → First P zs g → First P zs g' → g ≡ g'
first_one P zs g g' a b =
    let e = a.cheapest g' b.allowed in
    let e' = b.cheapest g a.allowed in
    go (a.before g' b.allowed (omega arith)) (b.before g a.allowed (omega arith))
  where
    go : (g ≡ g') ⊎ Lower (order P g) (order P g') → (g' ≡ g) ⊎ Lower (order P g') (order P g) → g ≡ g'
    go (inl e) x = e
    go (inr h) (inl e) = sym e
    go (inr h) (inr k) = absurd (lower_irrefl (order P g) (lower_trans (order P g) (order P g') (order P g) h k))

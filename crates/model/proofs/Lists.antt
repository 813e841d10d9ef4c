-- What a list has. Assumes nothing.
use Rattle.std.specs.Prelude.{◌≡◌, ◌⊎◌, ℕ, suc, ◌-◌, ◌<◌, length, get_or}
use Rattle.std.proofs.Common.{◌∙◌, inl, inr, arith}
use mathlib.Core.List.{List, [], ◌∷◌, ◌++◌, reverse, reverse_aux, reverse-cons}
use Rattle.std.proofs.Math.Decide.{dec_lt}
use Rattle.std.proofs.lemmas.List.{length-reverse}
use Rattle.std.proofs.Math.ListN.{get_or-append}
use Rattle.std.proofs.Math.Seq.{get_or-append_seam}
use Rattle.model.specs.Lists.{In}

pub in_left : {A : Type 0} (x : A) (xs ys : List A) → In x xs → In x (xs ++ ys)
in_left x [] ys h = absurd h
in_left x (z ∷ xs) ys (inl e) = inl e
in_left x (z ∷ xs) ys (inr h) = inr (in_left x xs ys h)

pub in_right : {A : Type 0} (x : A) (xs ys : List A) → In x ys → In x (xs ++ ys)
in_right x [] ys h = h
in_right x (z ∷ xs) ys h = inr (in_right x xs ys h)

in_aux : {A : Type 0} (x : A) (xs ys : List A) → In x (reverse_aux xs ys) → In x xs ⊎ In x ys
in_aux x [] ys h = inr h
in_aux x (z ∷ xs) ys h = go (in_aux x xs (z ∷ ys) h)
  where
    go : In x xs ⊎ ((x ≡ z) ⊎ In x ys) → ((x ≡ z) ⊎ In x xs) ⊎ In x ys
    go (inl k) = inl (inr k)
    go (inr (inl e)) = inl (inl e)
    go (inr (inr k)) = inr k

pub in_reverse : {A : Type 0} (x : A) (xs : List A) → In x (reverse xs) → In x xs
in_reverse x xs h = go (in_aux x xs [] h)
  where
    go : In x xs ⊎ In x [] → In x xs
    go (inl k) = k
    go (inr k) = absurd k

pub reverse_get : {A : Type 0} (xs : List A) (i : ℕ) (d : A) → i < length xs → get_or (reverse xs) i d ≡ get_or xs (length xs - 1 - i) d
reverse_get [] i d h = absurd (omega arith)
reverse_get {A} (x ∷ xs) i d h = rw (reverse-cons x xs) (go (dec_lt i (length xs)) (reverse_get xs i d))
  where
    go : Dec (i < length xs) → (i < length xs → get_or (reverse xs) i d ≡ get_or xs (length xs - 1 - i) d) → get_or (reverse xs ++ (x ∷ [])) i d ≡ get_or (x ∷ xs) (suc (length xs) - 1 - i) d
    go (yes k) ih =
        let e : suc (length xs) - 1 - i ≡ suc (length xs - 1 - i) = omega arith in
        rw e (get_or-append (reverse xs) (x ∷ []) d i (omega (arith, length-reverse xs)) ∙ ih k)
    go (no k) ih =
        let e : suc (length xs) - 1 - i ≡ 0 = omega arith in
        let e' : i ≡ length (reverse xs) = omega (arith, length-reverse xs) in
        rw (e, e') (get_or-append_seam (reverse xs) x [] d)

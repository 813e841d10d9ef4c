-- Numbers stored over a part of a list.
-- Assumes nothing.
use Prim.Native.Nat.{ℕ, ◌+◌, ◌-◌, ◌≤◌}
use native.Mathlib.Omega.{arith}
use mathlib.Core.Path.{◌≡◌, sym, ◌∙◌, ap, ap₂}
use mathlib.Core.List.{List, ◌++◌, append_assoc}
use lib.ListN.{length, take, drop}
use lib.Seq.{sets, drop-drop}
use lib.IntN.{ℤ}
use borrow.Rule.Slice.PartMut.{put_mid}
use Rattle.std.proofs.lemmas.List.Edits.{sets-eq}

pub stored : (l : List ℤ) (at n : ℕ) (xs ys : List ℤ) → ys ≡ xs → length xs ≡ n → at + n ≤ length l → put_mid at (at + n - at) l ys ≡ sets l at xs
stored l at n xs ys e k h =
    let m : at + n - at ≡ length xs = omega arith in
    ap₂ (λ (a : List ℤ) (i : ℕ). take at l ++ (a ++ drop i (drop at l))) e m ∙ ap (λ (a : List ℤ). take at l ++ (xs ++ a)) (drop-drop (length xs) at l) ∙
    sym (append_assoc (take at l) xs (drop (at + length xs) l)) ∙ sym (sets-eq xs l at (omega arith))

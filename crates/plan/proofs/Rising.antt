-- The penalties never fall: one test computed over the table, and what it says of any two entries. Assumes nothing.
use Prim.Native.Nat.{ℕ, zero, suc, ◌≤◌, ◌<◌}
use native.Mathlib.Omega.{arith}
use native.Mathlib.Nat.{le_trans}
use mathlib.Core.Path.{◌≡◌, refl}
use mathlib.Core.Bool.{Bool, true, false, ◌&&◌}
use mathlib.Core.List.{List, [], ◌∷◌}
use lib.Dec.{leb}
use lib.ListN.{get_or, length}
use borrow.Author.Tests.{leb-true}
use Rattle.plan.specs.Penalty.{penalties, penalty, never_falls}

and_true : (a b : Bool) → a && b ≡ true → (a ≡ true) × (b ≡ true)
and_true true b h = (refl, h)
and_true false b h = let z : ◌≡◌ {A = ℕ} 0 1 = cc in absurd (omega arith)

-- the head is at most each entry
head_least : (a : ℕ) (l : List ℕ) → never_falls (a ∷ l) ≡ true → (j : ℕ) → j < suc (length l) → a ≤ get_or (a ∷ l) j 0
unfolding never_falls
head_least a l h zero k = omega arith
head_least a [] h (suc j) k = absurd (omega arith)
head_least a (b ∷ l) h (suc j) k =
    let (p, q) = and_true (leb a b) (never_falls (b ∷ l)) h in
    le_trans (leb-true a b p) (head_least b l q j (omega arith))

tail_rises : (a : ℕ) (l : List ℕ) → never_falls (a ∷ l) ≡ true → never_falls l ≡ true
unfolding never_falls
tail_rises a [] h = refl
tail_rises a (b ∷ l) h = (and_true (leb a b) (never_falls (b ∷ l)) h).1

pub rising : (l : List ℕ) → never_falls l ≡ true → (i j : ℕ) → i ≤ j → j < length l → get_or l i 0 ≤ get_or l j 0
rising [] h i j p q = absurd (omega arith)
rising (a ∷ l) h zero j p q = head_least a l h j q
rising (a ∷ l) h (suc i) zero p q = absurd (omega arith)
rising (a ∷ l) h (suc i) (suc j) p q = rising l (tail_rises a l h) i j (omega arith) (omega arith)

pub penalties_rise : never_falls penalties ≡ true
unfolding never_falls
penalties_rise = refl

pub penalty_rises : (i j : ℕ) → i ≤ j → j ≤ 15 → penalty i ≤ penalty j
unfolding penalty
penalty_rises i j p q = rising penalties penalties_rise i j p (omega arith)

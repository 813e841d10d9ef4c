-- The answer with no dynamic programme: every segmentation of n readings, those of them that are allowed, and the first of these in the order
-- of cost and then of the model. Definitions only; `Complete` shows what they mean. Assumes nothing.
use Rattle.std.proofs.Math.Option.{Option, none, some}
use Rattle.std.specs.Prelude.{List, [], ◌∷◌, ◌++◌, Bool, true, false, ◌&&◌, cond, ℕ, zero, suc, min, leb, ltb, eqb, ℤ, pos, ◌+ℤ◌, length}
use Rattle.std.specs.Int.Signed.{le_z, lt_z}
use Rattle.plan.specs.declared.Plan.{Plan}
use Rattle.plan.specs.declared.Label.{Label}
use Rattle.model.specs.Segmentation.{Seg, first, next, readings, last_level}
use Rattle.model.specs.Model.{edge_at, label_at, width, permits, in_set, on_grid, last_state, cost, need, changes, asked, change_count, order}

-- ---- every segmentation of n readings

-- f 0, f 1, .. f (n - 1), one after the other
unfoldable pub each : {A : Type 0} → ℕ → (ℕ → List A) → List A
each zero f = []
each (suc n) f = each n f ++ f n

unfoldable pub each_of : {A B : Type 0} → List A → (A → List B) → List B
each_of [] f = []
each_of (x ∷ xs) f = f x ++ each_of xs f

-- all states below S, then all edge numbers below the count, each with all levels of the grid
unfoldable pub every_seg : Plan → ℕ → List Seg
every_seg P zero = []
every_seg P (suc zero) = each P.states (λ s. each (width P) (λ j. first s (P.lo +ℤ pos j) ∷ []))
every_seg P (suc (suc t)) =
    each_of (every_seg P (suc t)) (λ g. each P.edgecount (λ e. each (width P) (λ j. next g e (P.lo +ℤ pos j) ∷ [])))

-- ---- the rules of the model as tests

unfoldable pub follows_test : Plan → Seg → Bool
follows_test P (first s m) = in_set P.start s && on_grid P m
follows_test P (next g e m) =
    follows_test P g && (ltb e P.edgecount && (eqb (edge_at P e).from (last_state P g) && (permits (edge_at P e).kind (last_level g) m && on_grid P m)))

unfoldable pub exactly_test : Label → ℕ → ℕ → Bool
exactly_test l x y = eqb x (need l) && eqb y (need l)

unfoldable pub at_most_test : Label → ℕ → ℕ → Bool
at_most_test l x y = leb x (need l) && eqb y x

unfoldable pub holds_test : Label → ℕ → ℕ → ℕ → Bool
holds_test l n x y = cond (leb l.q n) (exactly_test l x y) (cond (ltb l.p n) (at_most_test l x y) true)

unfoldable pub all_below : (ℕ → Bool) → ℕ → Bool
all_below f zero = true
all_below f (suc n) = all_below f n && f n

-- allowed at a point, and at the named state and level
unfoldable pub allowed_test : Plan → ℕ → Seg → Bool
allowed_test P n g =
    eqb (readings g) n && (follows_test P g && all_below (λ i. holds_test (label_at P i) (readings g) (changes P (label_at P i) g) (asked P (label_at P i) g)) P.labelcount)

unfoldable pub point_test : Plan → ℕ → ℕ → ℤ → Seg → Bool
point_test P n s m g = allowed_test P n g && (eqb (last_state P g) s && (le_z (last_level g) m && le_z m (last_level g)))

-- allowed of a whole record
unfoldable pub whole_test : Plan → ℕ → Seg → Bool
whole_test P n g =
    eqb (readings g) n && (follows_test P g
    && (all_below (λ i. exactly_test (label_at P i) (changes P (label_at P i) g) (asked P (label_at P i) g)) P.labelcount && in_set P.end (last_state P g)))

unfoldable pub keep : {A : Type 0} → (A → Bool) → List A → List A
keep t [] = []
keep t (x ∷ xs) = cond (t x) (x ∷ keep t xs) (keep t xs)

-- ---- the first of the allowed ones, and the least cost at a point

unfoldable pub lower_test : List ℤ → List ℤ → Bool
lower_test [] ys = false
lower_test (x ∷ xs) [] = false
lower_test (x ∷ xs) (y ∷ ys) = cond (lt_z x y) true (cond (lt_z y x) false (lower_test xs ys))

-- the cost, then the order's numbers
unfoldable pub key : Plan → List ℤ → Seg → List ℤ
key P zs g = pos (cost P zs g) ∷ order P g

abbrev pub earlier : Plan → List ℤ → Seg → Option Seg → Seg
earlier P zs g none = g
earlier P zs g (some g') = cond (lower_test (key P zs g') (key P zs g)) g' g

unfoldable pub first_in : Plan → List ℤ → List Seg → Option Seg
first_in P zs [] = none
first_in P zs (g ∷ gs) = some (earlier P zs g (first_in P zs gs))

unfoldable pub listed : Plan → List ℤ → Option Seg
listed P zs = first_in P zs (keep (whole_test P (length zs)) (every_seg P (length zs)))

abbrev pub priced : Plan → List ℤ → Option Seg → Option (ℕ × Seg)
priced P zs none = none
priced P zs (some g) = some (cost P zs g, g)

-- the answer of a search: the cost of the first segmentation, and itself
unfoldable pub listed_answer : Plan → List ℤ → Option (ℕ × Seg)
listed_answer P zs = priced P zs (listed P zs)

abbrev pub lowest : ℕ → Option ℕ → ℕ
lowest c none = c
lowest c (some d) = min c d

unfoldable pub least_in : Plan → List ℤ → List Seg → Option ℕ
least_in P zs [] = none
least_in P zs (g ∷ gs) = some (lowest (cost P zs g) (least_in P zs gs))

-- the cost at a point
unfoldable pub listed_cost : Plan → List ℤ → ℕ → ℤ → Option ℕ
listed_cost P zs s m = least_in P zs (keep (point_test P (length zs) s m) (every_seg P (length zs)))

-- ---- costs for each number of changes

-- allowed of a whole record, with k changes
unfoldable pub with_test : Plan → ℕ → ℕ → Seg → Bool
with_test P n k g = whole_test P n g && eqb (change_count P g) k

-- "the least cost among allowed whole-record segmentations with exactly k changes, penalties included" (02, ticket 5)
unfoldable pub listed_with : Plan → List ℤ → ℕ → Option ℕ
listed_with P zs k = least_in P zs (keep (with_test P (length zs) k) (every_seg P (length zs)))

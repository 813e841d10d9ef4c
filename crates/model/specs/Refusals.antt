-- The refusals of a search, of a cost at a point, of a moving window and of the costs for each number of changes that come before they look at what they
-- are lent: 0 where none applies. The quoted words are those of the scope paper (01), "Refused because of the state", and of tickets 1 and 5 of the change
-- requests (02). Assumes nothing.
use Rattle.std.specs.Prelude.{Bool, false, ℕ, eqb, leb, ltb, ℤ}
use Rattle.plan.specs.declared.Plan.{Plan}
use Rattle.plan.specs.Build.{pick, any_below, or_else, plan_number}
use Rattle.plan.specs.Counts.{count_ok, long_ok}
use Rattle.model.specs.Model.{label_at, on_grid}

-- "13 a label's q above n"
unfoldable pub late : Plan → ℕ → Bool
late P n = any_below (λ i. ltb n (label_at P i).q) P.labelcount

-- "A plan handed to any call that these calls couldn't have built is first refused with the number that building it would give". "Search: 11,
-- 9, 13, 14, 15, 16."
unfoldable pub search_number : Plan → ℕ → ℕ
search_number P n = or_else (plan_number P) (pick P.sealed (pick (count_ok n) (pick (late P n) 13 0) 9) 11)

-- "Cost at a point: 11, 9, state 5, level 4, 14, 16."
unfoldable pub point_number : Plan → ℕ → ℕ → ℤ → ℕ
point_number P n s m = or_else (plan_number P) (pick P.sealed (pick (count_ok n) (pick (ltb s P.states) (pick (on_grid P m) 0 4) 5) 9) 11)

-- "Refusal 20 is K above 32, checked after 13 and before 14 (that workspace) and 15 (list too short)" (02, ticket 5)
unfoldable pub table_number : Plan → ℕ → ℕ → ℕ
table_number P n most = or_else (search_number P n) (pick (leb most 32) 0 20)

-- "19 a w of 0, above 1,024 or above the record"
unfoldable pub window_ok : ℕ → ℕ → Bool
window_ok n w = pick (eqb w 0) false (pick (leb w 1024) (leb w n) false)

-- "Here 9 is no readings or more than 65,535. Refusal 18 is a plan with labels and 19 a w of 0, above 1,024 or above the record, checked in this order after 11 and 9 and before 14, 15 .. and 16."
unfoldable pub window_number : Plan → ℕ → ℕ → ℕ
window_number P n w = or_else (plan_number P) (pick P.sealed (pick (long_ok n) (pick (eqb P.labelcount 0) (pick (window_ok n w) 0 19) 18) 9) 11)

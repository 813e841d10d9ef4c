-- The number of a refusal, and that of an answer; an answer without a value is known by its number. Assumes nothing.
use Rattle.std.specs.Prelude.{◌≡◌, refl, ◌⊎◌, ◌<◌, ℕ, eqb, Result, Ok, Err, MatchResult}
use Rattle.std.proofs.Common.{sym, ◌∙◌, ap}
use Rattle.integers.specs.Pick.{pick}
use Rattle.plan.specs.declared.reasons.Refusal.{Refusal}
use Rattle.plan.specs.declared.reasons.Refusal.TheVariants.{CutShort, TagOutOfPlace, WrongLength, BadLevel, BadState, BadEdge, RepeatedEdge, BadLabel, BadCount, PlanFull, OutOfTurn, LabelsOverlap, LabelTooLate, WorkspaceTooShort, ListTooShort, NoSegmentation, BadAnswer, LabelsInWindow, BadWindow, TooManyChanges}
use Rattle.plan.specs.declared.reasons.UnknownRefusal.{UnknownRefusal}

abbrev pub refusal_number : Refusal → ℕ
refusal_number CutShort = 1
refusal_number TagOutOfPlace = 2
refusal_number WrongLength = 3
refusal_number BadLevel = 4
refusal_number BadState = 5
refusal_number BadEdge = 6
refusal_number RepeatedEdge = 7
refusal_number BadLabel = 8
refusal_number BadCount = 9
refusal_number PlanFull = 10
refusal_number OutOfTurn = 11
refusal_number LabelsOverlap = 12
refusal_number LabelTooLate = 13
refusal_number WorkspaceTooShort = 14
refusal_number ListTooShort = 15
refusal_number NoSegmentation = 16
refusal_number BadAnswer = 17
refusal_number LabelsInWindow = 18
refusal_number BadWindow = 19
refusal_number TooManyChanges = 20

-- the number that an answer gives, 0 where it is no refusal
abbrev pub number_of : {A : Type 0} → Result A Refusal → ℕ
number_of (Ok x) = 0
number_of (Err r) = refusal_number r

-- the result is the refusal with this number, or an error with a number that none has
abbrev pub Decodes : ℕ → Result Refusal UnknownRefusal → Type 0
Decodes n r = MatchResult r (λ x. refusal_number x ≡ n) (λ e. (e.0 ≡ n) × ((n ≡ 0) ⊎ (20 < n)))

-- the refusal with a number, the last one where none has it
abbrev pub refusal_of : ℕ → Refusal
refusal_of n =
    pick (eqb n 1) CutShort (pick (eqb n 2) TagOutOfPlace (pick (eqb n 3) WrongLength (pick (eqb n 4) BadLevel (
    pick (eqb n 5) BadState (pick (eqb n 6) BadEdge (pick (eqb n 7) RepeatedEdge (pick (eqb n 8) BadLabel (
    pick (eqb n 9) BadCount (pick (eqb n 10) PlanFull (pick (eqb n 11) OutOfTurn (pick (eqb n 12) LabelsOverlap (
    pick (eqb n 13) LabelTooLate (pick (eqb n 14) WorkspaceTooShort (pick (eqb n 15) ListTooShort (pick (eqb n 16) NoSegmentation (
    pick (eqb n 17) BadAnswer (pick (eqb n 18) LabelsInWindow (pick (eqb n 19) BadWindow (TooManyChanges)))))))))))))))))))

pub refusal_told : (r : Refusal) → refusal_of (refusal_number r) ≡ r
refusal_told CutShort = refl
refusal_told TagOutOfPlace = refl
refusal_told WrongLength = refl
refusal_told BadLevel = refl
refusal_told BadState = refl
refusal_told BadEdge = refl
refusal_told RepeatedEdge = refl
refusal_told BadLabel = refl
refusal_told BadCount = refl
refusal_told PlanFull = refl
refusal_told OutOfTurn = refl
refusal_told LabelsOverlap = refl
refusal_told LabelTooLate = refl
refusal_told WorkspaceTooShort = refl
refusal_told ListTooShort = refl
refusal_told NoSegmentation = refl
refusal_told BadAnswer = refl
refusal_told LabelsInWindow = refl
refusal_told BadWindow = refl
refusal_told TooManyChanges = refl

-- so a contract that says the number of a refusal says which it is
pub one_refusal : (r s : Refusal) → refusal_number r ≡ refusal_number s → r ≡ s
one_refusal r s e = sym (refusal_told r) ∙ ap refusal_of e ∙ refusal_told s

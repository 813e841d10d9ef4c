-- The refusals that an answer file may hold are those that a number names.
-- Assumes nothing.
use Rattle.std.specs.Prelude.{ℕ, ◌<◌, ◌≡◌, refl, ◌⊎◌, true, false}
use Rattle.std.proofs.Common.{arith, ⊎_elim, ne_eqb, eq-eqb}
use borrow.Author.Tests.{lt-leb}
use Rattle.plan.specs.declared.reasons.Refusal.{Refusal}
use Rattle.plan.specs.declared.reasons.Refusal.TheVariants.{CutShort, TagOutOfPlace, WrongLength, BadLevel, BadState, BadEdge, RepeatedEdge, BadLabel, BadCount, PlanFull, OutOfTurn, LabelsOverlap, LabelTooLate, WorkspaceTooShort, ListTooShort, NoSegmentation, BadAnswer, LabelsInWindow, BadWindow, TooManyChanges}
use Rattle.plan.specs.Refusals.{refusal_number}
use Rattle.answers.specs.Runs.{is_refusal}

pub held : (r : Refusal) → is_refusal (refusal_number r) ≡ true
unfolding is_refusal
held CutShort = refl
held TagOutOfPlace = refl
held WrongLength = refl
held BadLevel = refl
held BadState = refl
held BadEdge = refl
held RepeatedEdge = refl
held BadLabel = refl
held BadCount = refl
held PlanFull = refl
held OutOfTurn = refl
held LabelsOverlap = refl
held LabelTooLate = refl
held WorkspaceTooShort = refl
held ListTooShort = refl
held NoSegmentation = refl
held BadAnswer = refl
held LabelsInWindow = refl
held BadWindow = refl
held TooManyChanges = refl

pub not_held : (n : ℕ) → (n ≡ 0) ⊎ (20 < n) → is_refusal n ≡ false
unfolding is_refusal
not_held n h = ⊎_elim (λ (e : n ≡ 0). rw (eq-eqb n 0 e)) (λ (l : 20 < n). rw (ne_eqb n 0 (λ z. omega arith), lt-leb n 20 l)) h

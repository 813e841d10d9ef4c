-- `answers::read_refusal` meets its contract. Assumes nothing.
use native.Mathlib.Omega.{arith}
use mathlib.Core.Path.{◌≡◌, refl, sym, ◌∙◌, ap}
use mathlib.Core.Bool.{true}
use lib.ListN.{get_or}
use Rattle.fields.proofs.Tags.{nothing_after}
use Rattle.fields.specs.Fields.{field_number}
use Rattle.fields.specs.Told.{field_of, told_number}
use Rattle.answers.specs.Reader.{Refusal, Unread}
use Rattle.answers.specs.Runs.{is_refusal}
use Rattle.answers.proofs.Held.{held, not_held}
use Rattle.answers.proofs.Walk.{wrong_length, no_refusal, refusal_ends, refusal_not_last}
use Rattle.answers.proofs.read_refusal.Goals as goal

pub returns-in_default : goal.returns-in_default
returns-in_default c = wrong_length _ _ _ (λ e. omega arith)

pub returns-in_default-2 : goal.returns-in_default-2
returns-in_default-2 c = wrong_length _ _ _ (λ e. omega arith)

pub returns-in_default-try_from : goal.returns-in_default-try_from
returns-in_default-try_from c = no_refusal _ _ _ (omega arith) _ refl (not_held _ c.in_default-try_from.ensures.1)

pub returns-then-at-s : goal.returns-then-at-s
returns-then-at-s c =
    let k : is_refusal (get_or c.args.b.now 0 0) ≡ true = ap is_refusal (sym c.in-Ok.ensures) ∙ held c.in-Ok.held in
    ap Refusal c.in-Ok.ensures ∙ refusal_ends _ _ _ (omega arith) _ refl k c.if-at-s.true

pub returns-in_default-f : goal.returns-in_default-f
returns-in_default-f c =
    let k : is_refusal (get_or c.args.b.now 0 0) ≡ true = ap is_refusal (sym c.in-Ok.ensures) ∙ held c.in-Ok.held in
    ap Unread (sym (ap told_number c.unwrap.ensures) ∙ c.refusal.ensures.number ∙ ap field_number c.read_field-f.ensures) ∙ refusal_not_last _ _ _ (omega arith) _ refl k c.if-at-s.false

pub returns : goal.returns
returns c = absurd (nothing_after _ _ (sym c.read_field-f.ensures ∙ ap field_of c.in-Body.is))

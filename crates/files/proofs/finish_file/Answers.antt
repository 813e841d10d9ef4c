-- `files::finish_file` meets its contract. Assumes nothing.
use mathlib.Core.Path.{refl, sym, ◌∙◌, ap}
use Rattle.fields.proofs.Tags.{nothing_after}
use Rattle.fields.specs.Fields.{field_number}
use Rattle.fields.specs.Told.{field_of, told_number}
use Rattle.files.specs.Reader.{refused_file}
use Rattle.files.proofs.Walk.{file_passed, seal_refused, at_end_lem, after_end}
use Rattle.files.proofs.finish_file.Goals as goal

pub returns-in_err-plan : goal.returns-in_err-plan
returns-in_err-plan c = file_passed _ _ c.from_residual.ensures.1 ∙ seal_refused _ _ _ _ _ c.in_err-plan.ensures _ refl

pub returns-then-at-s : goal.returns-then-at-s
returns-then-at-s c = at_end_lem _ _ _ _ _ c.in_ok-plan.ensures refl c.if-at-s.true

pub returns-in_default : goal.returns-in_default
returns-in_default c =
    ap refused_file (sym (ap told_number c.unwrap.ensures) ∙ c.refusal.ensures.number ∙ ap field_number c.read_field-f.ensures) ∙ after_end _ _ _ _ _ c.in_ok-plan.ensures refl c.if-at-s.false

pub returns : goal.returns
returns c = absurd (nothing_after _ _ (sym c.read_field-f.ensures ∙ ap field_of c.in-Body.is))

use mir.Syntax.{w16}
use mir.ValLaws.{to_z-of_z}
use Rattle.files.specs.Told.{file_of, step_of, refusal_alone}
use Rattle.finder.proofs.Calls.{point_none, point_some, refused_answer}
use mathlib.Core.Path.{refl, sym, ◌∙◌, ap}
use Rattle.finder.proofs.yeldaski_point.Goals as goal

pub returns-in-Err : goal.returns-in-Err
returns-in-Err c =
    let h = point_none _ _ (sym (ap step_of (ap refusal_alone c.in-Err.is)) ∙ c.read_plan.ensures.refusal) _ (refused_answer _) c.args.readings.now c.args.state c.args.level c.args.workspace.now in
    record { answer = c.refused.ensures ∙ h.0; words = h.1 }

pub returns-in-Ok : goal.returns-in-Ok
returns-in-Ok c =
    let h = point_some _ _ (sym (ap file_of c.in-Ok.is) ∙ c.read_plan.ensures.file) refl c.args.readings.now c.args.state c.args.level _ (to_z-of_z w16 c.args.level c.ranges.level) c.args.workspace.now _ _ _ c.least.ensures (c.point.ensures.answer, c.point.ensures.words) in
    record { answer = h.0; words = h.1 }

use Rattle.files.specs.Told.{file_of, step_of, refusal_alone}
use Rattle.plan.specs.Refusals.{number_of}
use Rattle.plan.proofs.Passing.{refused_some}
use Rattle.finder.specs.Finder.{refused_with}
use Rattle.finder.proofs.Calls.{read_none, read_wrong, read_some, refused_answer}
use mathlib.Core.Path.{refl, sym, ◌∙◌, ap}
use Rattle.finder.proofs.yeldaski_read_plan.Goals as goal

pub returns-in-Err : goal.returns-in-Err
returns-in-Err c =
    let h = read_none _ _ (sym (ap step_of (ap refusal_alone c.in-Err.is)) ∙ c.read_plan.ensures.refusal) _ (refused_answer _) c.args.readings.now in
    record { answer = c.refused.ensures ∙ h.0; list = h.1 }

pub returns-in-Ok-decode : goal.returns-in-Ok-decode
returns-in-Ok-decode c =
    let h = read_some _ _ (sym (ap file_of c.in-Ok.is) ∙ c.read_plan.ensures.file) refl _ c.readings_part-body.ensures _ _ _ (c.decode.ensures.number, c.decode.ensures.list) (ap number_of c.in-Ok-decode.is) in
    record { answer = c.counted.ensures ∙ h.0; list = h.1 }

pub returns-in-Err-decode : goal.returns-in-Err-decode
returns-in-Err-decode c =
    let h = read_wrong _ _ (sym (ap file_of c.in-Ok.is) ∙ c.read_plan.ensures.file) refl _ c.readings_part-body.ensures _ _ _ (c.decode.ensures.number, c.decode.ensures.list) (refused_some c.decode.result _ c.in-Err-decode.is) in
    record { answer = c.refused-in-Err-decode.ensures ∙ ap refused_with (sym (ap number_of c.in-Err-decode.is)) ∙ h.0; list = h.1 }

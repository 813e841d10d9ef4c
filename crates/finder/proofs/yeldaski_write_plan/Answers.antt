use Rattle.files.specs.Told.{file_of, step_of, refusal_alone}
use Rattle.finder.proofs.Calls.{write_none, write_some, refused_answer, counted_written}
use mathlib.Core.Path.{refl, sym, ◌∙◌, ap}
use Rattle.finder.proofs.yeldaski_write_plan.Goals as goal

pub returns-in-Err : goal.returns-in-Err
returns-in-Err c =
    let h = write_none _ _ (sym (ap step_of (ap refusal_alone c.in-Err.is)) ∙ c.read_plan.ensures.refusal) _ (refused_answer _) c.args.readings.now c.args.out.now in
    record { answer = c.refused.ensures ∙ h.0; list = h.1 }

pub returns-in-Ok : goal.returns-in-Ok
returns-in-Ok c =
    let h = write_some _ _ (sym (ap file_of c.in-Ok.is) ∙ c.read_plan.ensures.file) refl c.args.readings.now c.args.out.now _ _ _ (c.counted.ensures ∙ counted_written _) (c.write_plan.ensures.answer, c.write_plan.ensures.list) in
    record { answer = h.0; list = h.1 }

use Rattle.files.specs.Told.{file_of, step_of, refusal_alone}
use Rattle.finder.proofs.Calls.{table_none, table_some, refused_answer, counted_filled}
use mathlib.Core.Path.{refl, sym, ◌∙◌, ap}
use Rattle.finder.proofs.yeldaski_table.Goals as goal

pub returns-in-Err : goal.returns-in-Err
returns-in-Err c =
    let h = table_none _ _ (sym (ap step_of (ap refusal_alone c.in-Err.is)) ∙ c.read_plan.ensures.refusal) _ (refused_answer _) c.args.readings.now c.args.most c.args.workspace.now c.args.costs.now in
    record { answer = c.refused.ensures ∙ h.0; list = h.1.0; words = h.1.1 }

pub returns-in-Ok : goal.returns-in-Ok
returns-in-Ok c =
    let h = table_some _ _ (sym (ap file_of c.in-Ok.is) ∙ c.read_plan.ensures.file) refl c.args.readings.now c.args.most c.args.workspace.now _ c.args.costs.now _ _ _ (c.counted.ensures ∙ counted_filled _) (c.by_changes.ensures.answer, (c.by_changes.ensures.list, c.by_changes.ensures.words)) in
    record { answer = h.0; list = h.1.0; words = h.1.1 }

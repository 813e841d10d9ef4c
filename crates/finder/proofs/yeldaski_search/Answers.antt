use Rattle.files.specs.Told.{file_of, step_of, refusal_alone}
use Rattle.finder.proofs.Calls.{search_none, search_some, refused_answer}
use mathlib.Core.Path.{refl, sym, ◌∙◌, ap}
use Rattle.finder.proofs.yeldaski_search.Goals as goal

pub returns-in-Err : goal.returns-in-Err
returns-in-Err c =
    let h = search_none _ _ (sym (ap step_of (ap refusal_alone c.in-Err.is)) ∙ c.read_plan.ensures.refusal) _ (refused_answer _) c.args.readings.now c.args.workspace.now c.args.runs.now in
    record { answer = c.refused.ensures ∙ h.0; list = h.1.0; words = h.1.1 }

pub returns-in-Ok : goal.returns-in-Ok
returns-in-Ok c =
    let h = search_some _ _ (sym (ap file_of c.in-Ok.is) ∙ c.read_plan.ensures.file) refl c.args.readings.now c.args.workspace.now _ c.args.runs.now _ _ _ c.found.ensures (c.search.ensures.answer, (c.search.ensures.list, c.search.ensures.words)) in
    record { answer = h.0; list = h.1.0; words = h.1.1 }

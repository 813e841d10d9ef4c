use Rattle.files.specs.Told.{file_of, step_of, refusal_alone}
use Rattle.plan.specs.Refusals.{number_of}
use Rattle.plan.proofs.Passing.{refused_some}
use Rattle.answers.specs.Writer.{refusal_written, after_refusal}
use Rattle.finder.specs.Finder.{written_outcome}
use Rattle.finder.proofs.Calls.{refused_answer, counted_written}
use Rattle.finder.proofs.Segment.{prefix_fits, segment_none, segment_wrong, segment_runs, segment_some}
use lib.Seq.{length-take-le}
use lib.ListN.{length}
use Prim.Native.Nat.{ℕ}
use native.Mathlib.Omega.{arith}
use mathlib.Core.Path.{refl, sym, ◌∙◌, ap}
use Rattle.finder.proofs.yeldaski_segment.Goals as goal

pub returns-in-Err : goal.returns-in-Err
returns-in-Err c =
    let p = segment_none _ _ (sym (ap step_of (ap refusal_alone c.in-Err.is)) ∙ c.read_plan.ensures.refusal) c.args.readings.now c.args.workspace.now c.args.runs.now c.args.out.now _ (refused_answer _) _ _ (c.yeldaski_write_refusal.ensures.answer ∙ ap (λ (x : ℕ). written_outcome (refusal_written x (length c.args.out.now))) c.number.ensures, c.yeldaski_write_refusal.ensures.list ∙ ap (λ (x : ℕ). after_refusal x c.args.out.now) c.number.ensures) in
    record { answer = p.0; bytes = p.1.0; readings = p.1.1.0; list = p.1.1.1.0; words = p.1.1.1.1 }

pub returns-in-Err-decode : goal.returns-in-Err-decode
returns-in-Err-decode c =
    let k = c.number-in-Err-decode.ensures ∙ sym (ap number_of c.in-Err-decode.is) in
    let p = segment_wrong _ _ (sym (ap file_of c.in-Ok.is) ∙ c.read_plan.ensures.file) c.args.readings.now c.args.workspace.now c.args.runs.now c.args.out.now refl _ c.readings_part-body.ensures _ _ (c.decode.ensures.number, c.decode.ensures.list) (refused_some c.decode.result _ c.in-Err-decode.is) _ _
    (c.yeldaski_write_refusal-in-Err-decode.ensures.answer ∙ ap (λ (x : ℕ). written_outcome (refusal_written x (length c.args.out.now))) k, c.yeldaski_write_refusal-in-Err-decode.ensures.list ∙ ap (λ (x : ℕ). after_refusal x c.args.out.now) k) in
    record { answer = p.0; bytes = p.1.0; readings = p.1.1.0; list = p.1.1.1.0; words = p.1.1.1.1 }

pub slice_bounds-search-end : goal.slice_bounds-search-end
slice_bounds-search-end c = omega (arith, prefix_fits _ c.args.readings.now _ _ (c.decode.ensures.number, c.decode.ensures.list) (ap number_of c.in_default.is))

pub slice_bounds-search-end-2 : goal.slice_bounds-search-end-2
slice_bounds-search-end-2 c = sym (length-take-le _ _ (omega (arith, prefix_fits _ c.args.readings.now _ _ (c.decode.ensures.number, c.decode.ensures.list) (ap number_of c.in_default.is))))

pub write_found-requires : goal.write_found-requires
write_found-requires c = segment_runs _ _ (sym (ap file_of c.in-Ok.is) ∙ c.read_plan.ensures.file) c.args.readings.now c.args.workspace.now c.args.runs.now c.args.out.now refl _ c.readings_part-body.ensures _ _ (c.decode.ensures.number, c.decode.ensures.list) (ap number_of c.in_default.is) c.read_grid.ensures _ _ c.search-answer.ensures.answer c.search-answer.ensures.list

pub returns : goal.returns
returns c =
    let p = segment_some _ _ (sym (ap file_of c.in-Ok.is) ∙ c.read_plan.ensures.file) c.args.readings.now c.args.workspace.now c.args.runs.now c.args.out.now refl _ c.readings_part-body.ensures _ _ (c.decode.ensures.number, c.decode.ensures.list) (ap number_of c.in_default.is) c.read_grid.ensures _ _ _ _ _ _
    (c.search-answer.ensures.answer, (c.search-answer.ensures.list, c.search-answer.ensures.words)) (c.write_found.ensures.answer, c.write_found.ensures.list) (c.counted.ensures ∙ counted_written _) in
    record { answer = p.0; bytes = p.1.0; readings = p.1.1.0; list = p.1.1.1.0; words = p.1.1.1.1 }

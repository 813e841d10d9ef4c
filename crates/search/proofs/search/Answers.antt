use Rattle.plan.specs.Refusals.{number_of}
use Rattle.plan.proofs.Passing.{refused_some}
use Rattle.search.proofs.Passed.{found_passed}
use mathlib.Core.Path.{◌∙◌, ap}
use Rattle.search.proofs.Answers.{answered_early, answered_short, answered_narrow, answered}
use Rattle.search.proofs.Solves.{checked_of, few_of, small_of, need_is, solvable}
use native.Mathlib.Omega.{arith}
use Rattle.search.proofs.search.Goals as goal

pub returns-in_err-check_search : goal.returns-in_err-check_search
returns-in_err-check_search c = let p = answered_early c.args.plan c.args.readings.now c.args.workspace.now c.args.runs.now _ c.check_search.ensures (refused_some c.check_search.result _ c.in_err-check_search.was) in record { answer = found_passed c.from_residual.result c.check_search.result _ c.in_err-check_search.was c.from_residual.ensures.1 ∙ p.0; list = p.1.0; words = p.1.1 }

pub shape_of-g-requires : goal.shape_of-g-requires
shape_of-g-requires c = checked_of c.args.plan c.args.readings.now _ c.check_search.ensures (ap number_of c.in_ok-check_search.was)

pub work_words-need-requires : goal.work_words-need-requires
work_words-need-requires c = let k = small_of (checked_of c.args.plan c.args.readings.now _ c.check_search.ensures (ap number_of c.in_ok-check_search.was)) c.shape_of-g.ensures.0 in (k.states, k.levels)

pub returns-then-workspace-need : goal.returns-then-workspace-need
returns-then-workspace-need c = let p = answered_short c.args.plan c.args.readings.now c.args.workspace.now c.args.runs.now _ c.check_search.ensures (ap number_of c.in_ok-check_search.was) _ (need_is (checked_of c.args.plan c.args.readings.now _ c.check_search.ensures (ap number_of c.in_ok-check_search.was)) c.shape_of-g.ensures.0 _ c.work_words-need.ensures.0) c.if-workspace-need.true in record { answer = p.0; list = p.1.0; words = p.1.1 }

pub overflow_mul-n : goal.overflow_mul-n
overflow_mul-n c = omega (arith, few_of c.args.plan c.args.readings.now _ c.check_search.ensures (ap number_of c.in_ok-check_search.was))

pub returns-then-runs-n : goal.returns-then-runs-n
returns-then-runs-n c = let p = answered_narrow c.args.plan c.args.readings.now c.args.workspace.now c.args.runs.now _ c.check_search.ensures (ap number_of c.in_ok-check_search.was) _ (need_is (checked_of c.args.plan c.args.readings.now _ c.check_search.ensures (ap number_of c.in_ok-check_search.was)) c.shape_of-g.ensures.0 _ c.work_words-need.ensures.0) c.if-workspace-need.false c.if-runs-n.true in record { answer = p.0; list = p.1.0; words = p.1.1 }

pub solve-found-requires : goal.solve-found-requires
solve-found-requires c = solvable c.args.plan c.args.readings.now _ c.check_search.ensures (ap number_of c.in_ok-check_search.was) c.shape_of-g.ensures c.read_all.ensures _ (need_is (checked_of c.args.plan c.args.readings.now _ c.check_search.ensures (ap number_of c.in_ok-check_search.was)) c.shape_of-g.ensures.0 _ c.work_words-need.ensures.0) c.if-workspace-need.false c.if-runs-n.false

pub clear-requires : goal.clear-requires
clear-requires c = omega (arith, c.if-workspace-need.false, c.solve-found.ensures.inside.size)

pub returns : goal.returns
returns c = let p = answered c.args.plan c.args.readings.now c.args.workspace.now c.args.runs.now _ c.check_search.ensures (ap number_of c.in_ok-check_search.was) _ (need_is (checked_of c.args.plan c.args.readings.now _ c.check_search.ensures (ap number_of c.in_ok-check_search.was)) c.shape_of-g.ensures.0 _ c.work_words-need.ensures.0) c.if-workspace-need.false c.if-runs-n.false c.solve-found.ensures c.clear.ensures in record { answer = p.0; list = p.1.0; words = p.1.1 }

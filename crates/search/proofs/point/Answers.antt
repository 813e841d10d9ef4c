use Rattle.plan.specs.Refusals.{number_of}
use Rattle.plan.proofs.Passing.{refused_some}
use Rattle.search.proofs.Passed.{cost_passed}
use mathlib.Core.Path.{◌∙◌, ap}
use Rattle.search.proofs.Points.{number_back, askable_on, told_back, checked_point, askable, point_early, point_short, point_answered}
use Rattle.search.proofs.Points.{checked_point, askable, point_early, point_short, point_answered}
use Rattle.search.proofs.Solves.{small_of, need_is}
use native.Mathlib.Omega.{arith}
use Rattle.search.proofs.point.Goals as goal

pub returns-in_err-check_point : goal.returns-in_err-check_point
returns-in_err-check_point c = let p = point_early c.args.plan c.args.readings.now c.args.state c.args.level c.args.workspace.now _ (number_back c.args.plan c.args.readings.now c.args.state c.ranges.level _ c.check_point.ensures) (refused_some c.check_point.result _ c.in_err-check_point.was) in record { answer = cost_passed c.from_residual.result c.check_point.result _ c.in_err-check_point.was c.from_residual.ensures.1 ∙ p.0; words = p.1 }

pub shape_of-g-requires : goal.shape_of-g-requires
shape_of-g-requires c = checked_point c.args.plan c.args.readings.now c.args.state c.args.level _ (number_back c.args.plan c.args.readings.now c.args.state c.ranges.level _ c.check_point.ensures) (ap number_of c.in_ok-check_point.was)

pub work_words-need-requires : goal.work_words-need-requires
work_words-need-requires c = let k = small_of (checked_point c.args.plan c.args.readings.now c.args.state c.args.level _ (number_back c.args.plan c.args.readings.now c.args.state c.ranges.level _ c.check_point.ensures) (ap number_of c.in_ok-check_point.was)) c.shape_of-g.ensures.0 in (k.states, k.levels)

pub returns-then-workspace-need : goal.returns-then-workspace-need
returns-then-workspace-need c = let p = point_short c.args.plan c.args.readings.now c.args.state c.args.level c.args.workspace.now _ (number_back c.args.plan c.args.readings.now c.args.state c.ranges.level _ c.check_point.ensures) (ap number_of c.in_ok-check_point.was) _ (need_is (checked_point c.args.plan c.args.readings.now c.args.state c.args.level _ (number_back c.args.plan c.args.readings.now c.args.state c.ranges.level _ c.check_point.ensures) (ap number_of c.in_ok-check_point.was)) c.shape_of-g.ensures.0 _ c.work_words-need.ensures.0) c.if-workspace-need.true in record { answer = p.0; words = p.1 }

pub solve_point-cost-requires : goal.solve_point-cost-requires
solve_point-cost-requires c = askable_on c.args.plan c.args.readings.now c.args.state c.ranges.level (askable c.args.plan c.args.readings.now c.args.state c.args.level _ (number_back c.args.plan c.args.readings.now c.args.state c.ranges.level _ c.check_point.ensures) (ap number_of c.in_ok-check_point.was) c.shape_of-g.ensures c.read_all.ensures _ (need_is (checked_point c.args.plan c.args.readings.now c.args.state c.args.level _ (number_back c.args.plan c.args.readings.now c.args.state c.ranges.level _ c.check_point.ensures) (ap number_of c.in_ok-check_point.was)) c.shape_of-g.ensures.0 _ c.work_words-need.ensures.0) c.if-workspace-need.false)

pub clear-requires : goal.clear-requires
clear-requires c = omega (arith, c.if-workspace-need.false, c.solve_point-cost.ensures.inside.size)

pub returns : goal.returns
returns c = let p = point_answered c.args.plan c.args.readings.now c.args.state c.args.level c.args.workspace.now _ (number_back c.args.plan c.args.readings.now c.args.state c.ranges.level _ c.check_point.ensures) (ap number_of c.in_ok-check_point.was) _ (need_is (checked_point c.args.plan c.args.readings.now c.args.state c.args.level _ (number_back c.args.plan c.args.readings.now c.args.state c.ranges.level _ c.check_point.ensures) (ap number_of c.in_ok-check_point.was)) c.shape_of-g.ensures.0 _ c.work_words-need.ensures.0) c.if-workspace-need.false (told_back c.args.plan c.args.readings.now c.args.state c.ranges.level c.solve_point-cost.ensures) c.clear.ensures in record { answer = p.0; words = p.1 }

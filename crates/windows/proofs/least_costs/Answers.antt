use Rattle.plan.specs.Refusals.{number_of}
use Rattle.plan.proofs.Passing.{refused_some}
use Rattle.search.proofs.Passed.{filled_passed}
use mathlib.Core.Path.{◌∙◌, ap}
use Rattle.windows.proofs.Answers.{accepts, answered_early, answered_short, answered_narrow, fillable, answered}
use Rattle.search.proofs.Solves.{small_of}
use Rattle.windows.proofs.least_costs.Goals as goal

pub returns-in_err-check_window : goal.returns-in_err-check_window
returns-in_err-check_window c = let p = answered_early c.args.plan c.args.record.now c.args.w c.args.workspace.now c.args.costs.now c.check_window.ensures (refused_some c.check_window.result _ c.in_err-check_window.was) in record { answer = filled_passed c.from_residual.result c.check_window.result _ c.in_err-check_window.was c.from_residual.ensures.1 ∙ p.0; list = p.1.0; words = p.1.1 }

pub shape_of-g-requires : goal.shape_of-g-requires
shape_of-g-requires c = (accepts _ _ _ c.check_window.ensures (ap number_of c.in_ok-check_window.was)).plan

pub work_words-need-requires : goal.work_words-need-requires
work_words-need-requires c = let k = small_of (accepts _ _ _ c.check_window.ensures (ap number_of c.in_ok-check_window.was)).plan c.shape_of-g.ensures.0 in (k.states, k.levels)

pub returns-then-workspace-need : goal.returns-then-workspace-need
returns-then-workspace-need c = let p = answered_short c.args.plan c.args.record.now c.args.w c.args.workspace.now c.args.costs.now c.check_window.ensures (ap number_of c.in_ok-check_window.was) c.shape_of-g.ensures c.work_words-need.ensures.0 c.if-workspace-need.true in record { answer = p.0; list = p.1.0; words = p.1.1 }

pub overflow_sub-n : goal.overflow_sub-n
overflow_sub-n c = (accepts _ _ _ c.check_window.ensures (ap number_of c.in_ok-check_window.was)).inside

pub returns-then-costs-n : goal.returns-then-costs-n
returns-then-costs-n c = let p = answered_narrow c.args.plan c.args.record.now c.args.w c.args.workspace.now c.args.costs.now c.check_window.ensures (ap number_of c.in_ok-check_window.was) c.shape_of-g.ensures c.work_words-need.ensures.0 c.if-workspace-need.false c.if-costs-n.true in record { answer = p.0; list = p.1.0; words = p.1.1 }

pub fill-filled-requires : goal.fill-filled-requires
fill-filled-requires c = fillable _ _ _ _ _ c.check_window.ensures (ap number_of c.in_ok-check_window.was) c.shape_of-g.ensures c.work_words-need.ensures.0 c.if-workspace-need.false c.if-costs-n.false c.read_all.ensures

pub returns : goal.returns
returns c = let p = answered c.args.plan c.args.record.now c.args.w c.args.workspace.now c.args.costs.now c.check_window.ensures (ap number_of c.in_ok-check_window.was) c.shape_of-g.ensures c.work_words-need.ensures.0 c.if-workspace-need.false c.if-costs-n.false c.fill-filled.ensures c.clear.ensures in record { answer = p.0; list = p.1.0; words = p.1.1 }

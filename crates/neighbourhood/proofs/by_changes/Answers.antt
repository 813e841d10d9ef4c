-- `neighbourhood::by_changes`: the contract at each of its ends. Assumes nothing.
use Rattle.plan.specs.Refusals.{number_of}
use Rattle.plan.proofs.Passing.{refused_some}
use Rattle.search.proofs.Passed.{filled_passed}
use mathlib.Core.Path.{◌∙◌, ap}
use Rattle.neighbourhood.proofs.Answers.{accepts, checked_of, answered_early, answered_short, answered_narrow, fillable, answered}
use Rattle.search.proofs.Solves.{small_of}
use native.Mathlib.Omega.{arith}
use native.Mathlib.Nat.{mul-le-mul}
use mathlib.Core.Path.{refl}
use Prim.Native.Nat.{◌+◌, ◌≤◌}
use Rattle.neighbourhood.proofs.by_changes.Goals as goal

pub returns-in_err-check_table : goal.returns-in_err-check_table
returns-in_err-check_table c = let p = answered_early c.args.plan c.args.readings.now c.args.most c.args.workspace.now c.args.costs.now c.check_table.ensures (refused_some c.check_table.result _ c.in_err-check_table.was) in record { answer = filled_passed c.from_residual.result c.check_table.result _ c.in_err-check_table.was c.from_residual.ensures.1 ∙ p.0; list = p.1.0; words = p.1.1 }

pub shape_of-g-requires : goal.shape_of-g-requires
shape_of-g-requires c = checked_of _ _ _ c.check_table.ensures (ap number_of c.in_ok-check_table.was)

pub work_words-requires : goal.work_words-requires
work_words-requires c = let k = small_of (checked_of _ _ _ c.check_table.ensures (ap number_of c.in_ok-check_table.was)) c.shape_of-g.ensures.0 in (k.states, k.levels)

pub overflow_add-need : goal.overflow_add-need
overflow_add-need c = omega (arith, (accepts _ _ _ c.check_table.ensures (ap number_of c.in_ok-check_table.was)).1)

pub overflow_mul-need : goal.overflow_mul-need
overflow_mul-need c = let h = (accepts _ _ _ c.check_table.ensures (ap number_of c.in_ok-check_table.was)).1 in let k : c.args.most + 1 ≤ 33 = omega (arith, h) in omega (arith, mul-le-mul c.work_words.ensures.1 k)

pub returns-then-workspace-need : goal.returns-then-workspace-need
returns-then-workspace-need c = let p = answered_short c.args.plan c.args.readings.now c.args.most c.args.workspace.now c.args.costs.now c.check_table.ensures (ap number_of c.in_ok-check_table.was) c.shape_of-g.ensures c.work_words.ensures.0 refl c.if-workspace-need.true in record { answer = p.0; list = p.1.0; words = p.1.1 }

pub overflow_add-most : goal.overflow_add-most
overflow_add-most c = omega (arith, (accepts _ _ _ c.check_table.ensures (ap number_of c.in_ok-check_table.was)).1)

pub returns-then-costs-most : goal.returns-then-costs-most
returns-then-costs-most c = let p = answered_narrow c.args.plan c.args.readings.now c.args.most c.args.workspace.now c.args.costs.now c.check_table.ensures (ap number_of c.in_ok-check_table.was) c.shape_of-g.ensures c.work_words.ensures.0 refl c.if-workspace-need.false c.if-costs-most.true in record { answer = p.0; list = p.1.0; words = p.1.1 }

pub fill-filled-requires : goal.fill-filled-requires
fill-filled-requires c = fillable _ _ _ _ _ c.check_table.ensures (ap number_of c.in_ok-check_table.was) c.shape_of-g.ensures c.work_words.ensures.0 refl c.if-workspace-need.false c.if-costs-most.false c.read_all.ensures

pub returns : goal.returns
returns c = let p = answered c.args.plan c.args.readings.now c.args.most c.args.workspace.now c.args.costs.now c.check_table.ensures (ap number_of c.in_ok-check_table.was) c.shape_of-g.ensures c.work_words.ensures.0 refl c.if-workspace-need.false c.if-costs-most.false c.fill-filled.ensures c.clear.ensures in record { answer = p.0; list = p.1.0; words = p.1.1 }

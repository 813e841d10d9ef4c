use Rattle.plan.proofs.Steps.{use_wrong, use_open, use_none}
use Rattle.plan.proofs.Passing.{passed, refused_some}
use Rattle.plan.specs.Refusals.{number_of}
use borrow.Author.Tests.{not-true, not-false}
use mathlib.Core.Path.{◌∙◌, ap}
use Rattle.plan.proofs.check_sealed.Goals as goal

pub returns-in_err-check_plan : goal.returns-in_err-check_plan
returns-in_err-check_plan c =
    passed c.from_residual.result c.check_plan.result _ c.in_err-check_plan.was c.from_residual.ensures.1
    ∙ use_wrong _ _ c.check_plan.ensures (refused_some c.check_plan.result _ c.in_err-check_plan.was)

pub returns-then-not-plan : goal.returns-then-not-plan
returns-then-not-plan c = use_open _ _ c.check_plan.ensures (ap number_of c.in_ok-check_plan.was) (not-true _ c.if-not-plan.true)

pub returns : goal.returns
returns c = use_none _ _ c.check_plan.ensures (ap number_of c.in_ok-check_plan.was) (not-false _ c.if-not-plan.false)

use Rattle.plan.proofs.Steps.{change_wrong, change_sealed, change_none}
use Rattle.plan.proofs.Passing.{passed, refused_some}
use Rattle.plan.specs.Refusals.{number_of}
use mathlib.Core.Path.{◌∙◌, ap}
use Rattle.plan.proofs.check_change.Goals as goal

pub returns-in_err-check_plan : goal.returns-in_err-check_plan
returns-in_err-check_plan c =
    passed c.from_residual.result c.check_plan.result _ c.in_err-check_plan.was c.from_residual.ensures.1
    ∙ change_wrong _ _ c.check_plan.ensures (refused_some c.check_plan.result _ c.in_err-check_plan.was)

pub returns-then-plan : goal.returns-then-plan
returns-then-plan c = change_sealed _ _ c.check_plan.ensures (ap number_of c.in_ok-check_plan.was) c.if-plan.true

pub returns : goal.returns
returns c = change_none _ _ c.check_plan.ensures (ap number_of c.in_ok-check_plan.was) c.if-plan.false

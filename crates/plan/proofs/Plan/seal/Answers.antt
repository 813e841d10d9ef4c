use mathlib.Core.Path.{◌∙◌, ap}
use Rattle.plan.specs.Refusals.{number_of}
use Rattle.plan.proofs.Passing.{gives_back, lets_through}
use Rattle.plan.proofs.Steps.{seal_refused, seal_done}
use Rattle.plan.proofs.Plan.seal.Goals as goal

pub returns-in_err-giving_back : goal.returns-in_err-giving_back
returns-in_err-giving_back c =
    let k = gives_back _ _ _ c.giving_back.ensures _ _ c.in_err-giving_back.was c.from_residual.ensures.1 in
    k.is ∙ seal_refused _ _ c.check_change.ensures k.some

pub returns : goal.returns
returns c = seal_done _ _ c.check_change.ensures (ap number_of (lets_through _ _ _ c.giving_back.ensures _ c.in_ok-giving_back.was))

use Rattle.plan.specs.Build.{refused_at, done}
use Rattle.plan.specs.Refusals.{number_of}
use Rattle.plan.proofs.Passing.{gives_back, lets_through}
use mathlib.Core.Path.{◌∙◌, ap}
use Rattle.plan.proofs.Signed16.{back16}
use Rattle.plan.proofs.Steps.{open_refused, open_done}
use Rattle.plan.proofs.Plan.open.Goals as goal

pub returns-in_err-giving_back : goal.returns-in_err-giving_back
returns-in_err-giving_back c =
    let k = gives_back _ _ _ c.giving_back.ensures _ _ c.in_err-giving_back.was c.from_residual.ensures.1 in
    k.is ∙ ap (λ x. refused_at x (number_of c.check_opening.result)) c.blank-none.ensures
    ∙ open_refused _ _ _ _ _ _ (simp (back16 _ c.ranges.lo, back16 _ c.ranges.hi) at c.check_opening.ensures) k.some

pub returns : goal.returns
returns c =
    ap done (simp (back16 _ c.ranges.lo, back16 _ c.ranges.hi) at c.blank.ensures)
    ∙ open_done _ _ _ _ _ _ (simp (back16 _ c.ranges.lo, back16 _ c.ranges.hi) at c.check_opening.ensures) (ap number_of (lets_through _ _ _ c.giving_back.ensures _ c.in_ok-giving_back.was))

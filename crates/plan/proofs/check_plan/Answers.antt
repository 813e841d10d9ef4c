use Rattle.plan.proofs.Steps.{opening_wrong, edges_wrong, labels_decide}
use Rattle.plan.proofs.Passing.{passed, refused_some}
use Rattle.plan.proofs.Signed16.{back16}
use Rattle.plan.specs.Build.{open_number}
use Rattle.plan.specs.Refusals.{number_of}
use mathlib.Core.Path.{◌≡◌, ◌∙◌, ap}
use Rattle.plan.proofs.check_plan.Goals as goal
use Rattle.plan.proofs.check_plan.Goals.{After-check_opening}

-- the plan's grid goes to `check_opening` as bits, and is read back
opened : (c : After-check_opening) → let p = c.args.plan in number_of c.check_opening.result ≡ open_number p.lo p.hi p.states p.start p.end
opened c =
    let p = c.args.plan in
    let told = c.struct_told-1.given in
    simp (back16 p.lo (record { sfits = told.0.1 }), back16 p.hi (record { sfits = told.1.0.1 })) at c.check_opening.ensures

pub returns-in_err-check_opening : goal.returns-in_err-check_opening
returns-in_err-check_opening c =
    passed c.from_residual.result c.check_opening.result _ c.in_err-check_opening.was c.from_residual.ensures.1
    ∙ opening_wrong _ _ (opened (goal.at.returns-in_err-check_opening c).After-check_opening) (refused_some c.check_opening.result _ c.in_err-check_opening.was)

pub returns-in_err-check_edges : goal.returns-in_err-check_edges
returns-in_err-check_edges c =
    passed c.from_residual-in_err-check_edges.result c.check_edges.result _ c.in_err-check_edges.was c.from_residual-in_err-check_edges.ensures.1
    ∙ edges_wrong _ _ (opened (goal.at.returns-in_err-check_edges c).After-check_opening) _ (ap number_of c.in_ok-check_opening.was) c.check_edges.ensures (refused_some c.check_edges.result _ c.in_err-check_edges.was)

pub returns : goal.returns
returns c =
    labels_decide _ _ (opened (goal.at.returns c).After-check_opening) _ (ap number_of c.in_ok-check_opening.was) c.check_edges.ensures (ap number_of c.in_ok-check_edges.was) _ c.check_labels.ensures

use Rattle.plan.specs.Build.{entry_number, edge_step_number}
use Rattle.plan.proofs.Passing.{passed}
use mathlib.Core.Path.{◌∙◌, ap}
use Rattle.plan.proofs.check_edge.Goals as goal

pub returns-in_err-next_edge : goal.returns-in_err-next_edge
unfolding entry_number
returns-in_err-next_edge c =
    passed c.from_residual.result c.next_edge.result _ c.in_err-next_edge.was c.from_residual.ensures.1
    ∙ rw (c.in_err-next_edge.was) (rw (← c.kind_number-kind.ensures, ← c.gap_of.ensures) (ap edge_step_number c.in_err-next_edge.ensures))

pub returns : goal.returns
unfolding entry_number
returns c = rw (← c.kind_number-kind.ensures, ← c.gap_of.ensures) (ap edge_step_number c.in_ok-next_edge.ensures)

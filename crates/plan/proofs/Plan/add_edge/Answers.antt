use native.Mathlib.Omega.{arith}
use mathlib.Core.Path.{◌∙◌, sym, ap}
use Rattle.plan.specs.Build.{add_step, step_of}
use Rattle.plan.specs.Refusals.{number_of}
use Rattle.plan.proofs.Passing.{gives_back, lets_through, step_refused}
use Rattle.plan.proofs.Steps.{step_room, edge_refused, edge_late, edge_decided}
use Rattle.plan.proofs.Plan.add_edge.Goals as goal

pub returns-in_err-giving_back : goal.returns-in_err-giving_back
returns-in_err-giving_back c =
    let k = gives_back _ _ _ c.giving_back.ensures _ _ c.in_err-giving_back.was c.from_residual.ensures.1 in
    k.is ∙ edge_refused _ _ _ _ _ _ _ c.check_change.ensures k.some

pub returns-then-self-gt0 : goal.returns-then-self-gt0
returns-then-self-gt0 c = edge_late _ _ _ _ _ _ _ c.check_change.ensures (ap number_of (lets_through _ _ _ c.giving_back.ensures _ c.in_ok-giving_back.was)) c.if-self-gt0.true

pub returns-in_err-edge : goal.returns-in_err-edge
returns-in_err-edge c =
    let k = gives_back _ _ _ c.giving_back-2.ensures _ _ c.in_err-edge.was c.from_residual-in_err-edge.ensures.1 in
    k.is ∙ step_refused _ c.next_edge-found.result k.some
    ∙ edge_decided _ _ _ _ _ _ _ c.check_change.ensures (ap number_of (lets_through _ _ _ c.giving_back.ensures _ c.in_ok-giving_back.was)) c.if-self-gt0.false _ c.next_edge-found.ensures

pub offset_bounds-next-n : goal.offset_bounds-next-n
offset_bounds-next-n c = omega (arith, step_room _ _ _ _ _ _ _ _ _ (sym c.next_edge-found.ensures ∙ ap step_of (lets_through _ _ _ c.giving_back-2.ensures _ c.in_ok-edge.was)))

pub bounds-next-n : goal.bounds-next-n
bounds-next-n c = omega (arith, step_room _ _ _ _ _ _ _ _ _ (sym c.next_edge-found.ensures ∙ ap step_of (lets_through _ _ _ c.giving_back-2.ensures _ c.in_ok-edge.was)))

pub overflow_add-next : goal.overflow_add-next
overflow_add-next c = omega (arith, step_room _ _ _ _ _ _ _ _ _ (sym c.next_edge-found.ensures ∙ ap step_of (lets_through _ _ _ c.giving_back-2.ensures _ c.in_ok-edge.was)))

pub returns : goal.returns
returns c =
    ap (add_step _) (sym (ap step_of (lets_through _ _ _ c.giving_back-2.ensures _ c.in_ok-edge.was)))
    ∙ edge_decided _ _ _ _ _ _ _ c.check_change.ensures (ap number_of (lets_through _ _ _ c.giving_back.ensures _ c.in_ok-giving_back.was)) c.if-self-gt0.false _ c.next_edge-found.ensures

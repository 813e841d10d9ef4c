use native.Mathlib.Omega.{arith}
use mathlib.Core.Path.{◌∙◌, sym, ap}
use Rattle.plan.specs.Refusals.{number_of}
use Rattle.plan.proofs.Passing.{gives_back, lets_through}
use Rattle.plan.proofs.Steps.{label_room, label_refused, label_stopped, label_added}
use Rattle.plan.proofs.Plan.add_label.Goals as goal

pub returns-in_err-giving_back : goal.returns-in_err-giving_back
returns-in_err-giving_back c =
    let k = gives_back _ _ _ c.giving_back.ensures _ _ c.in_err-giving_back.was c.from_residual.ensures.1 in
    k.is ∙ label_refused _ _ c.check_change.ensures _ _ _ k.some

pub returns-in_err-giving_back-2 : goal.returns-in_err-giving_back-2
returns-in_err-giving_back-2 c =
    let k = gives_back _ _ _ c.giving_back-2.ensures _ _ c.in_err-giving_back-2.was c.from_residual-in_err-giving_back-2.ensures.1 in
    k.is
    ∙ label_stopped _ _ c.check_change.ensures _ _ _ _ (ap number_of (lets_through _ _ _ c.giving_back.ensures _ c.in_ok-giving_back.was)) c.check_label.ensures k.some

pub offset_bounds-next-n : goal.offset_bounds-next-n
offset_bounds-next-n c = omega (arith, label_room _ _ _ (sym c.check_label.ensures ∙ ap number_of (lets_through _ _ _ c.giving_back-2.ensures _ c.in_ok-giving_back-2.was)))

pub bounds-next-n : goal.bounds-next-n
bounds-next-n c = omega (arith, label_room _ _ _ (sym c.check_label.ensures ∙ ap number_of (lets_through _ _ _ c.giving_back-2.ensures _ c.in_ok-giving_back-2.was)))

pub overflow_add-next : goal.overflow_add-next
overflow_add-next c = omega (arith, label_room _ _ _ (sym c.check_label.ensures ∙ ap number_of (lets_through _ _ _ c.giving_back-2.ensures _ c.in_ok-giving_back-2.was)))

pub returns : goal.returns
returns c =
    label_added _ _ c.check_change.ensures _ _ _ _ (ap number_of (lets_through _ _ _ c.giving_back.ensures _ c.in_ok-giving_back.was)) c.check_label.ensures
    (ap number_of (lets_through _ _ _ c.giving_back-2.ensures _ c.in_ok-giving_back-2.was))

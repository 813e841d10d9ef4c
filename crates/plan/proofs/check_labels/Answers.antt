use Rattle.std.specs.Prelude.{◌≤◌}
use Rattle.std.proofs.lemmas.Result.{err_from_is_err_and}
use Rattle.plan.specs.Build.{labels_number, label_number, no_label}
use Rattle.plan.proofs.Passing.{passed, missing, refused_some, got_none, got_some}
use Rattle.plan.proofs.Steps.{label_full}
use Rattle.plan.proofs.Below.{first_none, first_more, first_found}
use borrow.Author.Tests.{eqb-false}
use native.Mathlib.Nat.{le_antisymm}
use mathlib.Core.Path.{refl, ◌∙◌, sym, ap}
use native.Mathlib.Omega.{arith}
use Rattle.plan.proofs.check_labels.Goals as goal

pub loop-i-init : goal.loop-i-init
unfolding labels_number
loop-i-init c = first_none _

pub returns-in_err-l : goal.returns-in_err-l
unfolding labels_number
returns-in_err-l c =
    let p = err_from_is_err_and c.from_residual.result c.from_residual.ensures.1 in
    let v = c.in_err-l.ensures in
    let room : 64 ≤ c.loop-i.i = omega (arith, got_none _ _ _ c.get.ensures.lookup v.ok_part) in
    rw (p.1, p.2, missing _ _ _ v.value v.ok_part) (sym (first_found _ c.loop-i-test.true c.loop-i.invariant (λ e. eqb-false 10 0 refl (sym (label_full _ _ _ room) ∙ e)) ∙ label_full _ _ _ room))

pub returns-in_err-check_label : goal.returns-in_err-check_label
unfolding labels_number
returns-in_err-check_label c =
    let here = c.check_label.ensures ∙ ap (label_number c.args.labels.now c.loop-i.i) (got_some _ _ _ c.get.ensures.lookup _ no_label c.in_ok-l.ensures.ok_part) in
    passed _ c.check_label.result _ c.in_err-check_label.was c.from_residual-in_err-check_label.ensures.1
    ∙ here ∙ sym (first_found _ c.loop-i-test.true c.loop-i.invariant (λ e. refused_some c.check_label.result _ c.in_err-check_label.was (here ∙ e)))

pub loop-i-preserved : goal.loop-i-preserved
unfolding labels_number
loop-i-preserved c =
    let here = c.in_ok-check_label.ensures ∙ ap (label_number c.args.labels.now c.loop-i.i) (got_some _ _ _ c.get.ensures.lookup _ no_label c.in_ok-l.ensures.ok_part) in
    first_more _ _ c.loop-i.invariant (sym here)

pub returns : goal.returns
unfolding labels_number
returns c = let e = le_antisymm c.loop-i.auto.i-end c.loop-i-test.false in sym (rw e at c.loop-i.invariant)

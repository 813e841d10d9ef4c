use Rattle.std.specs.Prelude.{◌≤◌}
use Rattle.std.proofs.lemmas.Result.{err_from_is_err_and}
use Rattle.plan.specs.Build.{edges_number, entry_number, no_edge}
use Rattle.plan.proofs.Passing.{passed, missing, refused_some, got_none, got_some}
use Rattle.plan.proofs.Steps.{entry_full}
use Rattle.plan.proofs.Below.{first_none, first_more, first_found}
use borrow.Author.Tests.{eqb-false}
use native.Mathlib.Nat.{le_antisymm}
use mathlib.Core.Path.{refl, ◌∙◌, sym, ap}
use native.Mathlib.Omega.{arith}
use Rattle.plan.proofs.check_edges.Goals as goal

pub loop-i-init : goal.loop-i-init
unfolding edges_number
loop-i-init c = first_none _

pub returns-in_err-e : goal.returns-in_err-e
unfolding edges_number
returns-in_err-e c =
    let p = err_from_is_err_and c.from_residual.result c.from_residual.ensures.1 in
    let v = c.in_err-e.ensures in
    let room : 32 ≤ c.loop-i.i = omega (arith, got_none _ _ _ c.get.ensures.lookup v.ok_part) in
    rw (p.1, p.2, missing _ _ _ v.value v.ok_part) (sym (first_found _ c.loop-i-test.true c.loop-i.invariant (λ e. eqb-false 10 0 refl (sym (entry_full _ _ _ _ room) ∙ e)) ∙ entry_full _ _ _ _ room))

pub returns-in_err-check_edge : goal.returns-in_err-check_edge
unfolding edges_number
returns-in_err-check_edge c =
    let here = c.check_edge.ensures ∙ ap (entry_number c.args.states c.args.edges.now c.loop-i.i) (got_some _ _ _ c.get.ensures.lookup _ no_edge c.in_ok-e.ensures.ok_part) in
    passed _ c.check_edge.result _ c.in_err-check_edge.was c.from_residual-in_err-check_edge.ensures.1
    ∙ here ∙ sym (first_found _ c.loop-i-test.true c.loop-i.invariant (λ e. refused_some c.check_edge.result _ c.in_err-check_edge.was (here ∙ e)))

pub loop-i-preserved : goal.loop-i-preserved
unfolding edges_number
loop-i-preserved c =
    let here = c.in_ok-check_edge.ensures ∙ ap (entry_number c.args.states c.args.edges.now c.loop-i.i) (got_some _ _ _ c.get.ensures.lookup _ no_edge c.in_ok-e.ensures.ok_part) in
    first_more _ _ c.loop-i.invariant (sym here)

pub returns : goal.returns
unfolding edges_number
returns c = let e = le_antisymm c.loop-i.auto.i-end c.loop-i-test.false in sym (rw e at c.loop-i.invariant)

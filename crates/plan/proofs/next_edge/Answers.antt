use native.Mathlib.Omega.{arith}
use Rattle.plan.specs.Build.{edge_step}
use Rattle.std.proofs.lemmas.Result.{err_from_is_err_and}
use Rattle.plan.proofs.Passing.{missing}
use mathlib.Core.Path.{◌∙◌, sym}
use borrow.Author.Tests.{le-leb, lt-leb}
use Rattle.plan.proofs.next_edge.Goals as goal

pub returns-then-n-ge-MAX_EDGES : goal.returns-then-n-ge-MAX_EDGES
unfolding edge_step
returns-then-n-ge-MAX_EDGES c = simp (le-leb 32 c.args.n (omega (arith, c.if-n-ge-MAX_EDGES.true)))

pub returns-in_err-e : goal.returns-in_err-e
unfolding edge_step
returns-in_err-e c =
    let p = err_from_is_err_and c.from_residual.result c.from_residual.ensures.1 in
    let v = c.in_err-e.ensures in
    rw (p.1, p.2, lt-leb _ _ c.if-n-ge-MAX_EDGES.false, sym c.edge_of.ensures ∙ v.ok_part, missing _ _ _ v.value v.ok_part)

pub returns-then-has_edge : goal.returns-then-has_edge
unfolding edge_step
returns-then-has_edge c =
    let v = c.in_ok-e.ensures in
    rw (lt-leb _ _ c.if-n-ge-MAX_EDGES.false, sym c.edge_of.ensures ∙ v.ok_part) (rw (sym c.has_edge.ensures ∙ c.if-has_edge.true))

pub returns : goal.returns
unfolding edge_step
returns c =
    let v = c.in_ok-e.ensures in
    rw (lt-leb _ _ c.if-n-ge-MAX_EDGES.false, sym c.edge_of.ensures ∙ v.ok_part) (rw (sym c.has_edge.ensures ∙ c.if-has_edge.false))

use borrow.Author.Tests.{eq-eqb, ne_eqb}
use Rattle.plan.proofs.same_edge.Goals as goal

pub returns-then-e-from : goal.returns-then-e-from
returns-then-e-from c = simp (ne_eqb _ _ c.if-e-from.true)

pub returns-then-e-to : goal.returns-then-e-to
returns-then-e-to c = simp (eq-eqb _ _ c.if-e-from.false, ne_eqb _ _ c.if-e-to.true)

pub returns : goal.returns
returns c = simp (eq-eqb _ _ c.if-e-from.false, eq-eqb _ _ c.if-e-to.false, c.kind_number.ensures)

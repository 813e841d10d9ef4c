-- `plan::count_within` meets its contract. Assumes nothing.
use borrow.Author.Tests.{eq-eqb, ne_eqb}
use Rattle.plan.specs.Counts.{count_within}
use Rattle.plan.proofs.count_within.Goals as goal

pub returns-then-n-eq0 : goal.returns-then-n-eq0
unfolding count_within
returns-then-n-eq0 c = simp (eq-eqb _ _ c.if-n-eq0.true)

pub returns : goal.returns
unfolding count_within
returns c = simp (ne_eqb _ _ c.if-n-eq0.false)

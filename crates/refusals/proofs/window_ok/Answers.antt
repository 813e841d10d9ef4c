use Rattle.model.specs.Refusals.{window_ok}
use borrow.Author.Tests.{eq-eqb, ne_eqb, le-leb, lt-leb}
use Rattle.refusals.proofs.window_ok.Goals as goal

pub returns-then-w-eq0 : goal.returns-then-w-eq0
unfolding window_ok
returns-then-w-eq0 c = simp (eq-eqb _ _ c.if-w-eq0.true)

pub returns-then-w : goal.returns-then-w
unfolding window_ok
returns-then-w c = simp (ne_eqb _ _ c.if-w-eq0.false, lt-leb _ _ c.if-w.true)

pub returns : goal.returns
unfolding window_ok
returns c = simp (ne_eqb _ _ c.if-w-eq0.false, le-leb _ _ c.if-w.false)

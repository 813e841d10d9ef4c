use borrow.Author.Tests.{le-ltb, lt-ltb, eq-eqb, ne_eqb}
use mathlib.Core.Path.{◌∙◌, sym}
use Rattle.plan.proofs.states_ok.Goals as goal

pub returns-then-states-eq0 : goal.returns-then-states-eq0
returns-then-states-eq0 c = simp (eq-eqb _ _ c.if-states-eq0.true)

pub returns-then-states-gt-MAX_STATES : goal.returns-then-states-gt-MAX_STATES
returns-then-states-gt-MAX_STATES c = simp (ne_eqb _ _ c.if-states-eq0.false, lt-ltb _ _ c.if-states-gt-MAX_STATES.true)

pub returns-then-mask_ok : goal.returns-then-mask_ok
returns-then-mask_ok c = simp (ne_eqb _ _ c.if-states-eq0.false, le-ltb _ _ c.if-states-gt-MAX_STATES.false, sym c.mask_ok.ensures ∙ c.if-mask_ok.true) c.mask_ok-then-mask_ok.ensures

pub returns-else-mask_ok : goal.returns-else-mask_ok
returns-else-mask_ok c = simp (ne_eqb _ _ c.if-states-eq0.false, le-ltb _ _ c.if-states-gt-MAX_STATES.false, sym c.mask_ok.ensures ∙ c.if-mask_ok.false)

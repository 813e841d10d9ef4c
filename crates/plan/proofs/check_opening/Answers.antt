use Rattle.plan.proofs.Signed16.{back16}
use Rattle.plan.specs.Build.{open_number}
use mathlib.Core.Path.{sym, ◌∙◌}
use Rattle.plan.proofs.check_opening.Goals as goal

pub returns-then-not-grid_ok : goal.returns-then-not-grid_ok
unfolding open_number
returns-then-not-grid_ok c = simp (sym (simp (back16 _ c.ranges.lo, back16 _ c.ranges.hi) at c.grid_ok.ensures) ∙ c.if-not-grid_ok.true)

pub returns-then-not-states_ok : goal.returns-then-not-states_ok
unfolding open_number
returns-then-not-states_ok c = simp (sym (simp (back16 _ c.ranges.lo, back16 _ c.ranges.hi) at c.grid_ok.ensures) ∙ c.if-not-grid_ok.false, sym c.states_ok.ensures ∙ c.if-not-states_ok.true)

pub returns : goal.returns
unfolding open_number
returns c = simp (sym (simp (back16 _ c.ranges.lo, back16 _ c.ranges.hi) at c.grid_ok.ensures) ∙ c.if-not-grid_ok.false, sym c.states_ok.ensures ∙ c.if-not-states_ok.false)

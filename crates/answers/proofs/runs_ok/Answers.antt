-- `answers::runs_ok` meets its contract. Assumes nothing.
use mathlib.Core.Path.{sym, ◌∙◌}
use Rattle.answers.specs.Rules.{runs_none, runs_more, runs_broken, last_next, last_first}
use Rattle.answers.proofs.runs_ok.Goals as goal

pub loop-i-init : goal.loop-i-init
loop-i-init c = (sym (last_first _), runs_none _)

pub returns-then-not-run_ok : goal.returns-then-not-run_ok
returns-then-not-run_ok c = sym (runs_broken _ _ c.loop-i.i c.loop-i-test.true (sym c.run_ok.ensures ∙ c.if-not-run_ok.true))

pub loop-i-preserved : goal.loop-i-preserved
loop-i-preserved c = (c.whole_at-prev.ensures ∙ sym (last_next c.args.runs.now c.loop-i.i), runs_more c.args.runs.now c.loop-i.i c.loop-i.invariant.1 (sym c.run_ok.ensures ∙ c.if-not-run_ok.false))

-- `answers::runs_ok` meets its contract. Assumes nothing.
use Rattle.answers.specs.Runs.{last_before, runs_ok}
use mathlib.Core.Path.{◌≡◌}
use mathlib.Core.Bool.{true}
use Rattle.answers.proofs.runs_ok.Given as goal

abbrev pub invariant-loop-i : goal.invariant-loop-i
invariant-loop-i l = (l.prev ≡ last_before l.runs l.i) × (runs_ok l.runs l.i ≡ true)

-- `answers::put_runs` meets its contract. Assumes nothing.
use Rattle.answers.specs.Writer.{runs_bytes}
use Rattle.fields.specs.Fields.{put_at}
use mathlib.Core.Path.{◌≡◌}
use Rattle.answers.proofs.put_runs.Given as goal

abbrev pub invariant-loop-i : goal.invariant-loop-i
invariant-loop-i l = l.out ≡ put_at l.initial.out 11 (runs_bytes l.runs l.i)

use Rattle.runs.specs.Runs.{Turned}
use Rattle.runs.proofs.reverse_runs.Given as goal

abbrev pub invariant-loop-i : goal.invariant-loop-i
invariant-loop-i l = Turned l.i l.m l.initial.out l.out

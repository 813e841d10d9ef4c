use Rattle.runs.specs.Runs.{SwappedTo}
use Rattle.runs.proofs.swap_runs.Given as goal

abbrev pub invariant-loop-f : goal.invariant-loop-f
invariant-loop-f l = SwappedTo l.f l.a l.b l.initial.out l.out

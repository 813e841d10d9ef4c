use Rattle.std.proofs.Common.{◌≡◌}
use Rattle.plan.specs.Build.{edges_number}
use Rattle.plan.proofs.check_edges.Given as goal

abbrev pub invariant-loop-i : goal.invariant-loop-i
invariant-loop-i l = edges_number l.states l.edges l.i ≡ 0

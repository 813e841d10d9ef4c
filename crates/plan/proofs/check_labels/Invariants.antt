use Rattle.std.proofs.Common.{◌≡◌}
use Rattle.plan.specs.Build.{labels_number}
use Rattle.plan.proofs.check_labels.Given as goal

abbrev pub invariant-loop-i : goal.invariant-loop-i
invariant-loop-i l = labels_number l.labels l.i ≡ 0

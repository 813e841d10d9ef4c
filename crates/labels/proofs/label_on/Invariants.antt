use Rattle.std.proofs.Common.{◌≡◌}
use Rattle.model.specs.Labels.{covering, label_on}
use Rattle.labels.proofs.label_on.Given as goal

-- the labels from i on do not have the boundary
abbrev pub invariant-loop-i : goal.invariant-loop-i
invariant-loop-i l = label_on l.fn.plan l.t ≡ covering l.fn.plan l.i l.t

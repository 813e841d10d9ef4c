use Rattle.coded.specs.Coded.{LabelsFrom, Numbered}
use Rattle.coded.proofs.put_labels.Given as goal

abbrev pub invariant-loop-i : goal.invariant-loop-i
invariant-loop-i l = LabelsFrom l.plan l.i l.code × Numbered l.plan 32 l.i l.code

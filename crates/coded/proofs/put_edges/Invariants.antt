use Rattle.coded.specs.Coded.{EdgesFrom, Numbered}
use Rattle.coded.proofs.put_edges.Given as goal

abbrev pub invariant-loop-i : goal.invariant-loop-i
invariant-loop-i l = EdgesFrom l.plan l.i l.code × Numbered l.plan l.i 0 l.code

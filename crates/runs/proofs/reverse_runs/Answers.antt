use Rattle.std.proofs.Common.{arith}
use Rattle.runs.proofs.Turn.{turned_all}
use Rattle.runs.proofs.reverse_runs.Goals as goal

pub returns : goal.returns
returns c = turned_all _ _ _ _ c.requires.1 (omega arith) c.loop-i.invariant

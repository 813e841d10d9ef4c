use Rattle.std.proofs.Common.{arith}
use Rattle.search.proofs.Ways.{way_more}
use Rattle.search.proofs.way_back.Goals as goal

pub loop-t-preserved : goal.loop-t-preserved
loop-t-preserved c =
    ((c.rewind-w.ensures.at, (c.rewind-w.ensures.stack, c.rewind-w.ensures.time)), way_more c.requires c.loop-t.invariant.1 (omega arith) c.rewind-w.ensures c.step-p.ensures _ (omega arith))

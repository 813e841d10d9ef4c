use Rattle.std.proofs.Common.{arith}
use Rattle.back.proofs.Ends.{held, point_none, point_more, point_all}
use Rattle.back.proofs.point_cost.Goals as goal

pub loop-k-init : goal.loop-k-init
loop-k-init c = point_none _ c.args.g _ _ _

pub value_at-here-requires-clause-held : goal.value_at-here-requires-clause-held
value_at-here-requires-clause-held c = held c.requires.0 _ _ c.loop-k-test.true c.requires.1.0 _ c.list_at-f.ensures

pub loop-k-preserved : goal.loop-k-preserved
loop-k-preserved c = point_more _ c.args.g _ _ _ _ _ _ _ _ c.loop-k.invariant c.list_at-f.ensures c.value_at-here.ensures.0 c.value_at-here.ensures.1 c.min-best.ensures

pub returns : goal.returns
returns c = λ H r. point_all _ _ _ _ r c.requires.1.0 c.requires.1.1 (omega arith) c.loop-k.invariant

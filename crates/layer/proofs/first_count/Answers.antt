use Rattle.std.proofs.Common.{arith}
use Rattle.layer.proofs.Lists.{still_start, first_list_ready, count_more, made_at}
use Rattle.layer.proofs.Next.{list_is}
use Rattle.layer.proofs.first_count.Goals as goal

pub first_list-requires : goal.first_list-requires
first_list-requires c = first_list_ready (still_start c.requires.0 c.loop-s.invariant) c.requires.1 (omega (arith, c.requires.0.task.shape.states)) _ (list_is c.requires.0.task c.args.o c.args.k c.loop-s.s c.list_at-dst.ensures)

pub loop-s-preserved : goal.loop-s-preserved
loop-s-preserved c = count_more _ _ _ c.requires.0.under c.requires.1 (omega (arith, c.requires.0.task.shape.states)) c.loop-s.invariant (made_at (list_is c.requires.0.task c.args.o c.args.k c.loop-s.s c.list_at-dst.ensures) c.first_list.ensures)

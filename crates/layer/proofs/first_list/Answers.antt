use native.Mathlib.Omega.{arith}
use lib.IntN.{pos}
use lib.ListN.{get_or}
use Rattle.layer.proofs.Next.{first_ready, first_made, reading_is}
use Rattle.layer.proofs.first_list.Goals as goal

pub add_reading-requires : goal.add_reading-requires
add_reading-requires c = let p = first_ready c.requires _ c.first_cost-c.ensures c.constant.ensures c.bias-u.ensures.1 in record { apart = p.0; le_u = p.1.0; limits = p.1.1 }

pub returns : goal.returns
returns c = first_made c.requires _ c.first_cost-c.ensures c.constant.ensures _ (reading_is (get_or c.args.problem.now.readings.now 0 (pos 0)) _ (omega arith) c.bias-u.ensures.0) c.add_reading.ensures

use native.Mathlib.Omega.{arith}
use Rattle.layer.proofs.Next.{reading_is, edges_ready, reading_ready, next_list}
use lib.ListN.{get_or}
use lib.IntN.{pos}
use Rattle.layer.proofs.next_list.Goals as goal

pub take_edges-acc-requires : goal.take_edges-acc-requires
take_edges-acc-requires c = edges_ready c.requires c.constant.ensures

pub add_reading-requires : goal.add_reading-requires
add_reading-requires c = let p = reading_ready c.requires c.constant.ensures c.take_edges-acc.ensures c.bias-u.ensures.1 in record { apart = p.0; le_u = p.1.0; limits = p.1.1 }

pub returns : goal.returns
returns c = next_list c.requires c.constant.ensures c.take_edges-acc.ensures _ (reading_is (get_or c.args.problem.now.readings.now c.args.boundary.t (pos 0)) _ (omega arith) c.bias-u.ensures.0) c.add_reading.ensures

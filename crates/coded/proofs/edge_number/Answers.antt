use native.Mathlib.Omega.{arith}
use Rattle.coded.proofs.Numbers.{edge_back, edge_number_is}
use Rattle.coded.proofs.edge_number.Goals as goal

pub returns : goal.returns
returns c = (edge_number_is c.args.e _ _ c.kind_number-number.ensures c.gap_of-gap.ensures, edge_back _ _ _ c.kind_number-number.ensures c.gap_of-gap.ensures (omega arith) (omega arith) (omega arith) (omega arith))

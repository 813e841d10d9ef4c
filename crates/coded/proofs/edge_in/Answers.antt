use Rattle.coded.proofs.Numbers.{edge_read}
use Rattle.coded.proofs.edge_in.Goals as goal

pub returns : goal.returns
returns c = edge_read _ _ c.kind_with-kind.ensures

use Rattle.saved.proofs.Walks.{start_ready, started}
use Rattle.saved.proofs.start.Goals as goal

pub first_layer-requires : goal.first_layer-requires
first_layer-requires c = start_ready c.requires.0 c.requires.1 c.area-free.ensures.0

pub returns : goal.returns
returns c = started c.requires.0 c.requires.1 c.area-free.ensures.0 c.first_layer.ensures

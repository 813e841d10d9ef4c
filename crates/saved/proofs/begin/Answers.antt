use Rattle.saved.proofs.Walks.{first_places, begun}
use Rattle.saved.proofs.begin.Goals as goal

pub start-requires : goal.start-requires
start-requires c = (c.requires, first_places c.requires c.area.ensures.0)

pub returns : goal.returns
returns c = begun c.requires c.start.ensures

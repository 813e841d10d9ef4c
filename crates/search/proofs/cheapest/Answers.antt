use Rattle.search.proofs.Solves.{may_read, reaches}
use Rattle.search.proofs.cheapest.Goals as goal

pub best_end-end-requires : goal.best_end-end-requires
best_end-end-requires c = may_read c.requires.workspace.0 c.forward-walk.ensures

pub returns : goal.returns
returns c = reaches c.requires.workspace.0 c.forward-walk.ensures c.best_end-end.ensures

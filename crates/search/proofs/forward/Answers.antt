use Rattle.search.proofs.Ways.{goes}
use Rattle.saved.proofs.Walks.{walked_then}
use Rattle.search.proofs.forward.Goals as goal

pub advance-requires : goal.advance-requires
advance-requires c = record { goes = goes c.requires.workspace.0 (c.begin-first.ensures _ c.requires.workspace.1); slots_le_most_slots = c.requires.slots_le_most_slots }

pub returns : goal.returns
returns c = walked_then (c.begin-first.ensures _ c.requires.workspace.1) c.advance.ensures

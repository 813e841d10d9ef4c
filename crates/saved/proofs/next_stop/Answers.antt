use Rattle.saved.proofs.Walks.{stop_row}
use Rattle.saved.proofs.next_stop.Goals as goal

pub words_of-words-requires : goal.words_of-words-requires
words_of-words-requires c = stop_row c.requires.stops c.lists_at-lists.ensures.0

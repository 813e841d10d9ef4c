-- `neighbourhood::entry`: the cheapest end, where there is one. Assumes nothing.
use Rattle.neighbourhood.proofs.Entries.{entry_cost, entry_none}
use Rattle.neighbourhood.proofs.entry.Goals as goal

pub returns-then-least-ge-NONE : goal.returns-then-least-ge-NONE
returns-then-least-ge-NONE c = λ H r. entry_none c.best_end-least.ensures.0 (c.best_end-least.ensures.1 H r) c.if-least-ge-NONE.true

pub returns : goal.returns
returns c = λ H r. entry_cost c.best_end-least.ensures.0 (c.best_end-least.ensures.1 H r) c.if-least-ge-NONE.false

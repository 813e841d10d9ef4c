-- `plan::long_ok` meets its contract. Assumes nothing.
use Rattle.plan.specs.Counts.{long_ok}
use Rattle.plan.proofs.long_ok.Goals as goal

pub returns : goal.returns
unfolding long_ok
returns c = c.count_within.ensures

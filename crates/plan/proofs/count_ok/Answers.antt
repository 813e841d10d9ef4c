-- `plan::count_ok` meets its contract. Assumes nothing.
use Rattle.plan.specs.Counts.{count_ok}
use Rattle.plan.proofs.count_ok.Goals as goal

pub returns : goal.returns
unfolding count_ok
returns c = c.count_within.ensures

use Rattle.coded.proofs.Numbers.{counts_put}
use mathlib.Core.Path.{refl}
use Rattle.coded.proofs.put_counts.Goals as goal

pub returns : goal.returns
returns c = counts_put _ _ _ _ c.requires.0 c.requires.1 refl refl

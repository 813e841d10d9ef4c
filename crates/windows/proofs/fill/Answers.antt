use mathlib.Core.Path.{refl}
use Rattle.windows.proofs.fill.Goals as goal

pub each_part-requires : goal.each_part-requires
each_part-requires c = record { fillable = c.requires; table_size = refl }

pub returns : goal.returns
returns c = c.each_part.ensures

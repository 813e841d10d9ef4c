use native.Mathlib.Omega.{arith}
use mathlib.Core.Path.{refl}
use Rattle.coded.proofs.Numbers.{label_back}
use Rattle.coded.proofs.label_number.Goals as goal

pub returns : goal.returns
returns c = (refl, label_back _ (omega arith) (omega arith) (omega arith))

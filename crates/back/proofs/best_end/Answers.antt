use Rattle.std.proofs.Common.{arith}
use Rattle.back.specs.Read.{end_none}
use Rattle.back.proofs.best_end.Goals as goal

pub loop-s-init : goal.loop-s-init
loop-s-init c = (omega arith, λ H r. end_none _ H)

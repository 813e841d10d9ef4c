use Rattle.curve.specs.Lists.{emits_as}
use Rattle.curve.proofs.Laws.{emits_one, flat_packed}
use Rattle.curve.proofs.constant_to.Goals as goal

pub returns-then-x-y : goal.returns-then-x-y
returns-then-x-y c = emits_as (λ j u v. flat_packed _ _) (emits_one _ _ c.requires.0.0 c.if-x-y.true c.append.ensures)

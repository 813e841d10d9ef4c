use Rattle.search.proofs.Shapes.{place_is, top_is, shape_is}
use mathlib.Core.Path.{refl}
use native.Mathlib.Omega.{arith}
use Rattle.search.proofs.shape_of.Goals as goal

pub overflow_sub-result : goal.overflow_sub-result
overflow_sub-result c = omega (arith, top_is c.requires _ _ (place_is c.args.plan.lo _ (omega arith) c.bias-base.ensures.0) (place_is c.args.plan.hi _ (omega arith) c.bias-top.ensures.0))

pub returns : goal.returns
returns c = (shape_is c.requires _ _ (place_is c.args.plan.lo _ (omega arith) c.bias-base.ensures.0) (place_is c.args.plan.hi _ (omega arith) c.bias-top.ensures.0) _ refl refl, (omega arith, omega arith))

use lib.ListN.{get_or-eq_default}
use mathlib.Core.Path.{refl, sym}
use Rattle.plan.specs.Penalty.{penalties, penalty}
use Rattle.plan.proofs.penalty_of.Goals as goal

pub returns-then-class-gt-MAX_CLASS : goal.returns-then-class-gt-MAX_CLASS
unfolding penalty
returns-then-class-gt-MAX_CLASS c = sym (get_or-eq_default penalties 0 c.if-class-gt-MAX_CLASS.true)

pub returns : goal.returns
unfolding penalty
returns c = refl

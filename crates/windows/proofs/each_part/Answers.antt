use Rattle.windows.proofs.Fills.{cut_space, cut_none, cut_some, costed_none, costed_more, filled_none, filled_all}
use Rattle.saved.proofs.Chains.{inside_refl, inside_then}
use native.Mathlib.Nat.{le_antisymm}
use mathlib.Core.Path.{refl}
use native.Mathlib.Omega.{arith}
use Rattle.windows.proofs.each_part.Goals as goal

pub loop-a-init : goal.loop-a-init
loop-a-init c = (inside_refl _ _ _, (c.requires.table_size, (costed_none, (refl, refl))))

pub cheapest-reached-requires : goal.cheapest-reached-requires
cheapest-reached-requires c =
    let w = cut_space c.requires.fillable (omega (arith, c.loop-a-test.true)) c.loop-a.invariant.0 in
    record { workspace = (rw (c.loop-a.invariant.1.1.1.0, c.loop-a.invariant.1.1.1.1) w, c.loop-a.invariant.1.0); slots_le_most_slots = omega arith }

pub returns-then-least-ge-NONE : goal.returns-then-least-ge-NONE
returns-then-least-ge-NONE c =
    let r = rw (c.loop-a.invariant.1.1.1.0) at c.cheapest-reached.ensures in
    filled_none c.requires.fillable c.loop-a.invariant.1.1.0 (omega (arith, c.loop-a-test.true)) (cut_none c.requires.fillable (omega (arith, c.loop-a-test.true)) c.loop-a.invariant.0 r c.if-least-ge-NONE.true) (inside_then c.loop-a.invariant.0 r.walked.inside)

pub loop-a-preserved : goal.loop-a-preserved
loop-a-preserved c =
    let r = rw (c.loop-a.invariant.1.1.1.0) at c.cheapest-reached.ensures in
    (inside_then c.loop-a.invariant.0 r.walked.inside, (r.walked.stack.size, ((costed_more c.loop-a.invariant.1.1.0 (omega (arith, c.loop-a-test.true, c.requires.fillable.room, c.loop-a.invariant.1.1.0.size)) (cut_some c.requires.fillable (omega (arith, c.loop-a-test.true)) c.loop-a.invariant.0 r c.if-least-ge-NONE.false).1), c.loop-a.invariant.1.1.1)))

pub returns : goal.returns
returns c = let e = le_antisymm c.loop-a.auto.a-end c.loop-a-test.false in rw (← e) (filled_all c.requires.fillable c.loop-a.invariant.1.1.0 (omega arith) c.loop-a.invariant.0)

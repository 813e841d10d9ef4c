-- `neighbourhood::step_slots`: one step of the search's layers for each slot. Assumes nothing.
use Rattle.neighbourhood.proofs.Slots.{bank_low, slot_low, slot_place, place_is}
use Rattle.neighbourhood.proofs.Steps.{ready_as, more_as}
use Rattle.layer.proofs.Next.{shape_small}
use native.Mathlib.Omega.{arith}
use native.Mathlib.Numerals.{add-one}
use Prim.Native.Nat.{◌+◌}
use Rattle.neighbourhood.proofs.step_slots.Goals as goal

pub place_of-changes-requires : goal.place_of-changes-requires
place_of-changes-requires c = (shape_small c.requires.0.task, omega (arith, c.slot_of.ensures, slot_low c.args.from c.loop-i.i c.args.t, bank_low c.requires.0.few c.requires.1.0, c.loop-i-test.true, c.slots_at-last.ensures, c.requires.0.few))

pub place_of-stays-requires : goal.place_of-stays-requires
place_of-stays-requires c = (shape_small c.requires.0.task, omega (arith, c.slot_of-in-loop-i.ensures, slot_low c.args.from (c.loop-i.i + 1) c.args.t, bank_low c.requires.0.few c.requires.1.0, c.loop-i-test.true, c.slots_at-last.ensures, c.requires.0.few))

pub next_layer-requires : goal.next_layer-requires
next_layer-requires c = ready_as c.requires.0 c.requires.1.1.0 c.requires.1.1.1.0 c.requires.1.0 c.loop-i.invariant (omega (arith, c.loop-i-test.true, c.slots_at-last.ensures)) (add-one c.loop-i.i) (slot_place c.requires.0 c.args.from (c.loop-i.i + 1) c.args.t c.slot_of-in-loop-i.ensures c.place_of-stays.ensures) (slot_place c.requires.0 c.args.from c.loop-i.i c.args.t c.slot_of.ensures c.place_of-changes.ensures) (place_is c.requires.0 _ c.place_of-next.ensures) (place_is c.requires.0 _ c.place_of-free.ensures)

pub loop-i-preserved : goal.loop-i-preserved
loop-i-preserved c = more_as c.requires.0 c.requires.1.1.0 c.requires.1.1.1.0 c.requires.1.0 c.loop-i.invariant (omega (arith, c.loop-i-test.true, c.slots_at-last.ensures)) (add-one c.loop-i.i) (slot_place c.requires.0 c.args.from (c.loop-i.i + 1) c.args.t c.slot_of-in-loop-i.ensures c.place_of-stays.ensures) (slot_place c.requires.0 c.args.from c.loop-i.i c.args.t c.slot_of.ensures c.place_of-changes.ensures) (place_is c.requires.0 _ c.place_of-next.ensures) (place_is c.requires.0 _ c.place_of-free.ensures) c.next_layer.ensures

-- `neighbourhood::forward`: reading by reading, the two banks in turn. Assumes nothing.
use Rattle.neighbourhood.proofs.Slots.{place_is}
use Rattle.neighbourhood.proofs.Empty.{first_slots}
use Rattle.neighbourhood.proofs.Steps.{forward_more, forward_all, other_banks}
use Rattle.saved.proofs.Chains.{inside_refl}
use native.Mathlib.Omega.{arith}
use native.Mathlib.Numerals.{add-one}
use mathlib.Core.Path.{refl}
use mathlib.Core.Logic.{inl}
use Rattle.neighbourhood.proofs.forward.Goals as goal

pub loop-t-init : goal.loop-t-init
loop-t-init c = let s = first_slots c.requires c.put_nothing.ensures (place_is c.requires 1 c.place_of-first.ensures) (place_is c.requires _ c.place_of-free.ensures) c.first_layer.ensures in
    (inl (refl, omega arith), record { slots = s.slots; inside = inside_refl _ _ _ })

pub loop-t-preserved : goal.loop-t-preserved
loop-t-preserved c = (other_banks c.loop-t.invariant.0, forward_more (add-one c.loop-t.t) c.loop-t.invariant.1 c.step_slots.ensures)

pub returns : goal.returns
returns c = let s = first_slots c.requires c.put_nothing.ensures (place_is c.requires 1 c.place_of-first.ensures) (place_is c.requires _ c.place_of-free.ensures) c.first_layer.ensures in
    forward_all (omega arith) c.loop-t.invariant.0 s.inside c.loop-t.invariant.1

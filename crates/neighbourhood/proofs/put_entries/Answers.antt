-- `neighbourhood::put_entries`: the entries, and whether one is a cost. Assumes nothing.
use Rattle.neighbourhood.proofs.Slots.{slot_low, slot_place}
use Rattle.neighbourhood.proofs.Entries.{may_read, entry_is, entered_none, entered_more}
use Rattle.layer.proofs.Next.{shape_small}
use native.Mathlib.Omega.{arith}
use native.Mathlib.Numerals.{add-one}
use mathlib.Core.Path.{◌∙◌, ap, sym}
use mathlib.Core.Logic.{inl, inr}
use Prim.Native.Nat.{ℕ, ◌+◌}
use lib.ListN.{length}
use Rattle.neighbourhood.specs.Slots.{slot_of}
use Rattle.neighbourhood.proofs.put_entries.Goals.{then-is_some, else-is_some}
use Rattle.neighbourhood.proofs.put_entries.Goals as goal

pub loop-k-init : goal.loop-k-init
loop-k-init c = entered_none _ _ _ _

pub place_of-o-requires : goal.place_of-o-requires
place_of-o-requires c = (shape_small c.requires.0.task, omega (arith, c.slot_of.ensures, slot_low c.args.bank (c.loop-k.k + 1) (length c.args.problem.now.readings.now), c.requires.1.1.0, c.loop-k-test.true, c.requires.0.few))

pub entry-cost-requires : goal.entry-cost-requires
entry-cost-requires c = may_read c.requires.0 c.requires.1.0 c.loop-k.k (omega (arith, c.loop-k-test.true)) (slot_place c.requires.0 c.args.bank _ (length c.args.problem.now.readings.now) (c.slot_of.ensures ∙ ap (λ (x : ℕ). slot_of c.args.bank x (length c.args.problem.now.readings.now)) (add-one c.loop-k.k)) c.place_of-o.ensures) c.place_of-o.ensures.1

pub loop-k-preserved : goal.loop-k-preserved
loop-k-preserved c = entered_more c.loop-k.invariant (omega (arith, c.loop-k-test.true, c.requires.1.1.1, c.loop-k.invariant.size)) (entry_is c.requires.0 c.requires.1.0 c.loop-k.k (omega (arith, c.loop-k-test.true)) (slot_place c.requires.0 c.args.bank _ (length c.args.problem.now.readings.now) (c.slot_of.ensures ∙ ap (λ (x : ℕ). slot_of c.args.bank x (length c.args.problem.now.readings.now)) (add-one c.loop-k.k)) c.place_of-o.ensures) c.entry-cost.ensures) c.unwrap_or.ensures c.requires.0.accepts (elim c.if-is_some.branch [ then-is_some w ↦ inl (sym c.is_some.ensures ∙ w.if-is_some.true, w.some-is) | else-is_some w ↦ inr w.some-is ])

use Rattle.windows.proofs.Fills.{Costed}
use Rattle.saved.specs.Walk.{limit, most_slots}
use Rattle.saved.specs.Packed.{Inside}
use lib.ListN.{length}
use mathlib.Core.Path.{◌≡◌}
use Rattle.windows.proofs.each_part.Given as goal

abbrev pub invariant-loop-a : goal.invariant-loop-a
invariant-loop-a l = Inside 0 (limit l.whole.plan.now) l.initial.ws l.ws × ((length l.table ≡ most_slots) × (Costed l.whole.plan.now l.readings l.w l.a l.initial.costs l.costs × ((l.part.plan.now ≡ l.whole.plan.now) × (l.part.shape ≡ l.whole.shape))))

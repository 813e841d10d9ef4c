-- `readings::fill` meets its contract. Assumes nothing.
use Rattle.readings.specs.Codec.{readings_of}
use mathlib.Core.Path.{◌≡◌}
use mathlib.Core.List.{◌++◌}
use lib.ListN.{drop, take}
use Prim.Native.Nat.{◌*◌}
use Rattle.readings.proofs.fill.Given as goal

abbrev pub invariant-loop-i : goal.invariant-loop-i
invariant-loop-i l = l.out ≡ readings_of (take (2 * l.i) l.body) ++ drop l.i l.initial.out

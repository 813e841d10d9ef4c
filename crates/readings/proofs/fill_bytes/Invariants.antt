-- `readings::fill_bytes` meets its contract. Assumes nothing.
use Rattle.readings.specs.Codec.{bytes_of}
use mathlib.Core.Path.{◌≡◌}
use mathlib.Core.List.{◌++◌}
use lib.ListN.{drop, take}
use Prim.Native.Nat.{◌*◌}
use Rattle.readings.proofs.fill_bytes.Given as goal

abbrev pub invariant-loop-i : goal.invariant-loop-i
invariant-loop-i l = l.out ≡ bytes_of (take l.i l.zs) ++ drop (2 * l.i) l.initial.out

use lib.ListN.{get_or}
use lib.Signed.{mag}
use lib.IntN.{pos}
use Prim.Native.Nat.{ℕ, ◌<◌}
use Rattle.search.proofs.read_all.Given as goal

abbrev pub invariant-loop-reading : goal.invariant-loop-reading
invariant-loop-reading l = (t : ℕ) → t < l.reading-index → mag (get_or l.readings t (pos 0)) < 32768

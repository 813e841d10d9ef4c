-- `files::read_entries` meets its contract. Assumes nothing.
use Rattle.files.specs.Reader.{entries_from}
use mathlib.Core.Path.{◌≡◌}
use lib.ListN.{length}
use Prim.Native.Nat.{ℕ, ◌≤◌, ◌<◌, ◌-◌, ◌+◌}
use Rattle.files.proofs.read_entries.Given as goal

abbrev pub invariant-loop-tag : goal.invariant-loop-tag
invariant-loop-tag l = (l.i ≤ length l.s) × ((k : ℕ) × (length l.s - l.i < k) × (entries_from k l.s l.p l.i l.stage ≡ entries_from (length l.s + 1) l.s l.initial.p l.initial.i l.initial.stage))

abbrev pub decreases-loop-tag : goal.decreases-loop-tag
decreases-loop-tag l = length l.s - l.i

-- `files::put_edges` meets its contract. Assumes nothing.
use Rattle.files.specs.Writer.{edges_bytes}
use Rattle.fields.specs.Fields.{put_at}
use mathlib.Core.Path.{◌≡◌}
use Rattle.files.proofs.put_edges.Given as goal

abbrev pub invariant-loop-i : goal.invariant-loop-i
invariant-loop-i l = l.out ≡ put_at l.initial.out l.at (edges_bytes l.edges l.i)

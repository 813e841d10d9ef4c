-- `files::put_labels` meets its contract. Assumes nothing.
use Rattle.files.specs.Writer.{labels_bytes}
use Rattle.fields.specs.Fields.{put_at}
use mathlib.Core.Path.{◌≡◌}
use Rattle.files.proofs.put_labels.Given as goal

abbrev pub invariant-loop-i : goal.invariant-loop-i
invariant-loop-i l = l.out ≡ put_at l.initial.out l.at (labels_bytes l.labels l.i)

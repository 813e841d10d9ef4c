-- `files::put_labels` meets its contract. Assumes nothing.
use native.Mathlib.Omega.{arith}
use Prim.Native.Nat.{◌+◌, ◌*◌}
use mathlib.Core.Path.{◌∙◌, ap}
use lib.ListN.{get_or}
use Rattle.plan.specs.Build.{no_label}
use Rattle.fields.specs.Fields.{put_at}
use Rattle.files.specs.Writer.{label_field}
use Rattle.files.proofs.Store.{no_labels, label_turn}
use Rattle.files.proofs.put_labels.Goals as goal

pub loop-i-init : goal.loop-i-init
loop-i-init c = no_labels c.args.out.now c.args.at c.args.labels.now (omega arith)

pub loop-i-preserved : goal.loop-i-preserved
loop-i-preserved c =
    c.put_label.ensures ∙ ap (λ x. put_at x (c.args.at + 8 * c.loop-i.i) (label_field (get_or c.args.labels.now c.loop-i.i no_label))) c.loop-i.invariant ∙
    label_turn c.args.out.now c.args.at c.args.labels.now c.loop-i.i (omega arith)

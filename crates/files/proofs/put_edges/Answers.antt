-- `files::put_edges` meets its contract. Assumes nothing.
use native.Mathlib.Omega.{arith}
use Prim.Native.Nat.{◌+◌, ◌*◌}
use mathlib.Core.Path.{◌∙◌, ap}
use lib.ListN.{get_or}
use Rattle.plan.specs.Build.{no_edge}
use Rattle.fields.specs.Fields.{put_at}
use Rattle.files.specs.Writer.{edge_field}
use Rattle.files.proofs.Store.{no_edges, edge_turn}
use Rattle.files.proofs.put_edges.Goals as goal

pub loop-i-init : goal.loop-i-init
loop-i-init c = no_edges c.args.out.now c.args.at c.args.edges.now (omega arith)

pub loop-i-preserved : goal.loop-i-preserved
loop-i-preserved c =
    c.put_edge.ensures ∙ ap (λ x. put_at x (c.args.at + 9 * c.loop-i.i) (edge_field (get_or c.args.edges.now c.loop-i.i no_edge))) c.loop-i.invariant ∙
    edge_turn c.args.out.now c.args.at c.args.edges.now c.loop-i.i (omega arith)

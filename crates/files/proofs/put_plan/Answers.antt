-- `files::put_plan` meets its contract. Assumes nothing.
use Rattle.files.proofs.Store.{plan_put, counted_edges, counted_labels}
use Rattle.files.specs.Writer.{grid_field}
use Rattle.fields.specs.Fields.{put_at}
use borrow.Author.Rules.{rules}
use mir.Syntax.{w16}
use mir.ValLaws.{to_z-of_z}
use native.Mathlib.Omega.{arith}
use lib.ListN.{length}
use mathlib.Core.Path.{◌≡◌, ◌∙◌, ap, ap₂}
use Rattle.files.proofs.put_plan.Goals as goal

pub returns : goal.returns
returns c =
    let e : length c.args.plan.edges ≡ 32 = search rules in
    let l : length c.args.plan.labels ≡ 64 = search rules in
    plan_put c.args.plan c.args.zs.now c.args.out.now _ _ _ _ _ c.requires
    (c.put_grid.ensures ∙ ap₂ (λ a b. put_at c.args.out.now 0 (grid_field a b)) (to_z-of_z w16 c.args.plan.lo (record { sfits = search rules })) (to_z-of_z w16 c.args.plan.hi (record { sfits = search rules })))
    c.put_states.ensures (c.put_edges.ensures ∙ ap (put_at _ _) (counted_edges c.args.plan.edges c.args.plan.edgecount (omega (arith, c.requires.edges))))
    (c.put_labels.ensures ∙ ap (put_at _ _) (counted_labels c.args.plan.labels c.args.plan.labelcount (omega (arith, c.requires.labels)))) c.put_readings.ensures

use Rattle.std.specs.Prelude.{◌≡◌, take, ltb}
use Rattle.std.specs.List.{list_any}
use Rattle.std.proofs.Common.{rules}
use Rattle.std.proofs.lemmas.Grind.{common_steps}
use Rattle.std.proofs.lemmas.Iterator.{YieldsList-from_slice}
use Rattle.std.proofs.lemmas.Iterator.Search.{any_from_yields_List}
use Rattle.plan.specs.declared.Label.{Label}
use Rattle.plan.specs.Build.{no_label}
use Rattle.plan.proofs.Below.{any_listed}
use Rattle.model.specs.Refusals.{late}
use mathlib.Core.Path.{◌∙◌}
use native.Mathlib.Omega.{arith}
use Rattle.refusals.proofs.late_label.Goals as goal

pub returns : goal.returns
unfolding late
returns c =
    let test = λ (l : Label). ltb c.args.n l.q in
    let k : c.any.result ≡ list_any test (take c.args.plan.labelcount c.args.plan.labels) =
    any_from_yields_List test _ _ c.any.result c.any.ensures.ran (YieldsList-from_slice (take c.args.plan.labelcount c.args.plan.labels) (grind (arith, common_steps))) (λ x b q k. search rules) in
    k ∙ any_listed test c.args.plan.labels no_label c.args.plan.labelcount (omega arith)

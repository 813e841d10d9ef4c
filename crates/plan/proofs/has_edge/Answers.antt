use Rattle.std.specs.Prelude.{◌≡◌, take}
use Rattle.std.specs.List.{list_any}
use Rattle.std.proofs.Common.{rules}
use Rattle.std.proofs.lemmas.Grind.{common_steps}
use Rattle.std.proofs.lemmas.Iterator.{YieldsList-from_slice}
use Rattle.std.proofs.lemmas.Iterator.Search.{any_from_yields_List}
use Rattle.plan.specs.declared.Edge.{Edge}
use Rattle.plan.specs.Build.{has_edge, same_edge, no_edge}
use Rattle.plan.proofs.Below.{any_listed}
use mathlib.Core.Path.{◌∙◌}
use native.Mathlib.Omega.{arith}
use Rattle.plan.proofs.has_edge.Goals as goal

pub returns : goal.returns
unfolding has_edge
returns c =
    let test = λ (e : Edge). same_edge e c.args.from c.args.to c.args.kind in
    let k : c.any.result ≡ list_any test (take c.args.n c.args.edges.now) =
    any_from_yields_List test _ _ c.any.result c.any.ensures.ran (YieldsList-from_slice (take c.args.n c.args.edges.now) (grind (arith, common_steps))) (λ x b q k. search rules) in
    k ∙ any_listed test c.args.edges.now no_edge c.args.n (omega arith)

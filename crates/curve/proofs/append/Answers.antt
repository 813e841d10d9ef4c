-- `curve::append`: a piece more, or the last one longer. Assumes nothing.
use mathlib.Core.Path.{◌≡◌, sym, ◌∙◌}
use mathlib.Core.Bool.{true, ◌&&◌}
use lib.Dec.{eqb}
use borrow.Author.Tests.{eqb-true}
use Rattle.std.proofs.lemmas.Bool.{and_parts}
use Rattle.quadratic.specs.declared.Packed.{Packed}
use Rattle.quadratic.specs.Quad.{quad}
use Rattle.curve.proofs.Laws.{appended_back, appended_new}
use Rattle.curve.proofs.append.Goals as goal

-- equal as code compares them
same : (p q : Packed) → (eqb p.w q.w && (eqb p.z q.z && eqb p.c q.c)) ≡ true → quad p ≡ quad q
same p q h =
    let w = and_parts (eqb p.w q.w) (eqb p.z q.z && eqb p.c q.c) h in
    let z = and_parts (eqb p.z q.z) (eqb p.c q.c) w.1 in
    let ew = eqb-true p.w q.w w.0 in
    let ez = eqb-true p.z q.z z.0 in
    let ec = eqb-true p.c q.c z.1 in
    cc

pub returns-then-eq : goal.returns-then-eq
returns-then-eq c = appended_back _ _ _ _ _ c.if-n-gt0.true c.requires (sym c.load-last.ensures ∙ same _ _ (sym c.eq.ensures ∙ c.if-eq.true))

pub returns : goal.returns
returns c = appended_new _ _ _ _ _ _ c.store.ensures

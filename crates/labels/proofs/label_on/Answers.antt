use Rattle.std.proofs.Common.{arith, ◌∙◌, sym}
use Rattle.coded.specs.Coded.{label_got}
use Rattle.labels.proofs.Boundary.{cover_none, cover_here, cover_not, cover_past}
use Rattle.labels.proofs.label_on.Goals as goal

pub returns-then-is_within : goal.returns-then-is_within
returns-then-is_within c = cover_here _ _ _ c.loop-i-test.true _ (label_got _ _ _ c.requires.1 (omega arith) c.label_in-l.ensures) _ c.is_within.ensures c.if-is_within.true ∙ sym c.loop-i.invariant

pub returns-then-l-t : goal.returns-then-l-t
returns-then-l-t c =
    let got = label_got _ _ _ c.requires.1 (omega arith) c.label_in-l.ensures in
    cover_past _ _ _ _ c.requires.0 c.loop-i-test.true (omega arith) got c.if-l-t.true ∙ sym (c.loop-i.invariant ∙ cover_not _ _ _ c.loop-i-test.true _ got _ c.is_within.ensures c.if-is_within.false)

pub loop-i-preserved : goal.loop-i-preserved
loop-i-preserved c = c.loop-i.invariant ∙ cover_not _ _ _ c.loop-i-test.true _ (label_got _ _ _ c.requires.1 (omega arith) c.label_in-l.ensures) _ c.is_within.ensures c.if-is_within.false

pub returns : goal.returns
returns c = cover_none _ _ _ c.loop-i-test.false ∙ sym c.loop-i.invariant

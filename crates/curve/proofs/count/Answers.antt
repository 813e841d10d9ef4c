-- `curve::count`: from piece to piece. Assumes nothing.
use mathlib.Core.Path.{◌≡◌, refl, ◌∙◌}
use native.Mathlib.Omega.{arith}
use Rattle.curve.specs.Lists.{start_zero, start_next}
use Rattle.curve.proofs.Laws.{counted}
use Rattle.curve.proofs.Walks.{Given, given, walking_none, walk_room, seen_held}
use Rattle.curve.proofs.count.Goals.{In-Some}
use Rattle.curve.proofs.count.Goals as goal

pub loop-n-init : goal.loop-n-init
loop-n-init c = rw c.over-pieces.ensures (walking_none c.requires.0.formed, (start_zero _ _, refl))

pub next-requires : goal.next-requires
next-requires c = walk_room c.loop-n.invariant.0 (seen_held c.requires.0 c.loop-n.invariant.0.at) c.args.levels (omega arith) c.requires.1

got : (c : In-Some) → Given c.args.ws.now c.args.f c.args.levels c.args.levels c.loop-n.pieces c.next.new.self c.in-Some.field-0
got c = given c.loop-n.invariant.0 (seen_held c.requires.0 c.loop-n.invariant.0.at) (omega arith) c.in-Some.ensures

pub overflow_add-n : goal.overflow_add-n
overflow_add-n c = let g = got (goal.at.overflow_add-n c).In-Some in omega (arith, g.most, g.index, c.loop-n.invariant.1.1, c.requires.1)

pub loop-n-preserved : goal.loop-n-preserved
loop-n-preserved c =
    let g = got (goal.at.loop-n-preserved c).In-Some in
    let i = c.loop-n.invariant in
    let p = c.in-Some.ensures in
    let l = i.0.list in
    let to = p.to in
    let next = p.next in
    let after = g.after in
    let n = i.1.1 in
    (g.walking, (start_next _ _ _ ∙ (cc), cc))

pub returns : goal.returns
returns c =
    let e : c.loop-n.pieces.from ≡ c.args.levels = omega (arith, c.in_default.ensures, c.loop-n.invariant.0.most) in
    rw c.loop-n.invariant.1.1 (counted c.loop-n.invariant.0.at (rw c.loop-n.invariant.1.1 at c.loop-n.invariant.1.0 ∙ e))

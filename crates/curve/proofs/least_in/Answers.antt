-- `curve::least_in`: the least so far, piece by piece. Assumes nothing.
use mathlib.Core.Path.{ap}
use Prim.Native.Nat.{◌+◌}
use native.Mathlib.Omega.{arith}
use Rattle.quadratic.specs.Quad.{Quad, quad, value}
use Rattle.curve.specs.Pieces.{piece}
use Rattle.curve.proofs.Laws.{min_is, max_is}
use Rattle.curve.proofs.Walks.{Given, given, walking_none, walk_room, seen_held}
use Rattle.curve.proofs.Prefix.{fine_on, fine_most, till_none, till_step, till_in}
use Rattle.curve.proofs.least_in.Goals.{In-Some}
use Rattle.curve.proofs.least_in.Goals as goal

pub loop-piece-init : goal.loop-piece-init
loop-piece-init c = rw c.over-pieces.ensures (walking_none c.requires.held.formed, till_none _ _ _)

pub next-requires : goal.next-requires
next-requires c = walk_room c.loop-piece.invariant.0 (seen_held c.requires.held c.loop-piece.invariant.0.at) (c.args.to + 1) (omega (arith, c.requires.to_lt_levels)) (omega (arith, c.args.grid.within))

-- the piece
got : (c : In-Some) → Given c.args.ws.now c.args.f c.args.grid.levels (c.args.to + 1) c.loop-piece.pieces c.next.new.self c.in-Some.piece
got c = given c.loop-piece.invariant.0 (seen_held c.requires.held c.loop-piece.invariant.0.at) (omega (arith, c.requires.to_lt_levels)) c.in-Some.ensures

pub lower-best-requires : goal.lower-best-requires
lower-best-requires c =
    let g = got (goal.at.lower-best-requires c).In-Some in
    let a = (max_is _ _ _ c.max-a.ensures).0 in
    let b = (min_is _ _ _ c.min-b.ensures).0 in
    let w = fine_on (piece c.args.ws.now c.args.f c.args.grid.levels) _ _ _ _ (quad c.in-Some.piece.q) c.args.grid.within c.requires.by_index g.order g.to g.is in
    record { small = (w.0, λ v p q. w.1 v (omega (arith, a)) (omega (arith, b))); b_bound = omega (arith, b, c.requires.to_lt_levels, c.args.grid.within, c.loop-piece.invariant.1.changes) }

pub loop-piece-preserved : goal.loop-piece-preserved
loop-piece-preserved c =
    let g = got (goal.at.loop-piece-preserved c).In-Some in
    let a = max_is _ _ _ c.max-a.ensures in
    let b = min_is _ _ _ c.min-b.ensures in
    (g.walking, rw g.after (till_step _ _ _ _ _ _ _ c.args.grid.base (quad c.in-Some.piece.q) _ _ (rw g.begins c.loop-piece.invariant.1) g.order (λ j p q. ap (λ (k : Quad). value k (c.args.grid.base + j)) (g.is j p q)) a.0 a.1 b.0 b.1 c.lower-best.ensures))

pub returns : goal.returns
returns c = till_in _ _ _ _ _ c.loop-piece.invariant.1 (omega (arith, c.in_default.ensures)) (λ h. omega (arith, fine_most (piece c.args.ws.now c.args.f c.args.grid.levels) _ _ c.args.grid.within c.requires.by_index c.args.from (omega (arith, c.requires.to_lt_levels))))

-- `curve::two_least`: the two least so far, piece by piece. Assumes nothing.
use mathlib.Core.Path.{ap}
use Prim.Native.Nat.{◌+◌}
use native.Mathlib.Omega.{arith}
use Rattle.quadratic.specs.Quad.{Quad, quad, value}
use Rattle.curve.specs.Pieces.{piece}
use Rattle.curve.proofs.Walks.{Given, given, walking_none, walk_room, seen_held}
use Rattle.curve.proofs.Prefix.{fine_on, fine_most}
use Rattle.curve.proofs.Second.{two_none}
use Rattle.curve.proofs.two_least.Goals.{In-Some}
use Rattle.curve.proofs.two_least.Goals as goal

pub loop-piece-init : goal.loop-piece-init
loop-piece-init c = rw c.over-pieces.ensures (walking_none c.requires.held.0.formed, two_none _)

pub next-requires : goal.next-requires
next-requires c = walk_room c.loop-piece.invariant.0 (seen_held c.requires.held.0 c.loop-piece.invariant.0.at) c.args.grid.levels (omega arith) (omega (arith, c.args.grid.within))

-- the piece
got : (c : In-Some) → Given c.args.ws.now c.args.f c.args.grid.levels c.args.grid.levels c.loop-piece.pieces c.next.new.self c.in-Some.piece
got c = given c.loop-piece.invariant.0 (seen_held c.requires.held.0 c.loop-piece.invariant.0.at) (omega arith) c.in-Some.ensures

pub lower_two-best-requires : goal.lower_two-best-requires
lower_two-best-requires c = let g = got (goal.at.lower_two-best-requires c).In-Some in record {
  small = fine_on (piece c.args.ws.now c.args.f c.args.grid.levels) _ _ _ _ (quad c.in-Some.piece.q) c.args.grid.within c.requires.by_index g.order g.to g.is;
  a_le_e = omega (arith, g.order, g.to, c.requires.held.1, c.args.grid.within, c.loop-piece.invariant.1.changes, c.loop-piece.invariant.1.second_changes);
}

pub loop-piece-preserved : goal.loop-piece-preserved
loop-piece-preserved c = let g = got (goal.at.loop-piece-preserved c).In-Some in
    (g.walking, rw g.after (c.lower_two-best.ensures.on _ (λ j p q. (ap (λ (k : Quad). value k (c.args.grid.base + j)) (g.is j p q), fine_most (piece c.args.ws.now c.args.f c.args.grid.levels) _ _ c.args.grid.within c.requires.by_index j (omega (arith, g.to)))) (rw g.begins c.loop-piece.invariant.1)))

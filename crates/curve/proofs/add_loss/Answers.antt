-- `curve::add_loss`: piece by piece. Assumes nothing.
use mathlib.Core.Path.{◌≡◌, sym, ◌∙◌, ap, subst}
use Prim.Native.Nat.{ℕ, ◌+◌, ◌*◌, ◌<◌, ◌≤◌}
use native.Mathlib.Omega.{arith}
use lib.ListN.{length}
use Rattle.quadratic.specs.Quad.{Sized, pushed}
use Rattle.curve.specs.Pieces.{Emits, piece}
use Rattle.curve.specs.Lists.{emits_none, emits_append, made}
use Rattle.curve.proofs.Laws.{small, Seen, appended_new}
use Rattle.curve.proofs.Walks.{Given, given, walking_none, walk_room, sees}
use Rattle.curve.proofs.add_loss.Goals.{At-loop-piece, In-Some}
use Rattle.curve.proofs.add_loss.Goals as goal

pub loop-piece-init : goal.loop-piece-init
loop-piece-init c = rw c.over-pieces.ensures (walking_none c.requires.lent.0.formed, emits_none _ _ _ _ _)

-- the list that is read, by its state at entry
sf : (c : At-loop-piece) → c.loop-piece.pieces.from < c.args.grid.levels → Seen c.args.ws.now c.loop-piece.ws c.args.f c.args.grid.levels c.loop-piece.pieces.index c.loop-piece.pieces.from
sf c = let i = c.loop-piece.invariant in sees i.0 i.1.kept (omega (arith, i.1.count (omega arith), i.0.most)) c.requires.lent.0

pub next-requires : goal.next-requires
next-requires c = walk_room c.loop-piece.invariant.0 (sf (goal.at.next-requires c).At-loop-piece) c.args.grid.levels (omega arith) (omega (arith, c.args.grid.within))

-- the piece
got : (c : In-Some) → Given c.args.ws.now c.args.f c.args.grid.levels c.args.grid.levels c.loop-piece.pieces c.next.new.self c.in-Some.piece
got c = given c.loop-piece.invariant.0 (sf (goal.at-In-Some c).At-loop-piece) (omega arith) c.in-Some.ensures

pub add_square-q-requires : goal.add_square-q-requires
add_square-q-requires c = let g = got (goal.at.add_square-q-requires c).In-Some in
    (small (subst Sized (g.is c.in-Some.piece.from (omega arith) g.order) (c.requires.by_index c.in-Some.piece.from g.inside)), c.requires.u_bound)

-- the piece has room
room : (c : In-Some) → (c.in-Some.piece.index < 262144) × (c.args.dst + 4 * c.in-Some.piece.index + 4 ≤ length c.loop-piece.ws)
room c = let g = got c in let i = c.loop-piece.invariant.1 in let n = i.count (omega arith) in
    (omega (arith, g.most, c.args.grid.within), omega (arith, n, g.index, g.begins, g.inside, i.kept.size, c.requires.lent.1))

pub loop-piece-smaller : goal.loop-piece-smaller
loop-piece-smaller c = let g = got (goal.at.loop-piece-smaller c).In-Some in omega (arith, g.after, g.begins, g.order, g.inside)

pub loop-piece-preserved : goal.loop-piece-preserved
loop-piece-preserved c =
    let g = got (goal.at.loop-piece-preserved c).In-Some in
    let before : Emits (λ (j : ℕ). pushed c.args.w c.args.u (piece c.args.ws.now c.args.f c.args.grid.levels j)) c.args.ws.now c.loop-piece.ws c.args.dst 0 0 c.in-Some.piece.from c.in-Some.piece.index = rw (g.index, g.begins) c.loop-piece.invariant.1 in
    (g.walking, rw (g.after, g.counts) (emits_append (omega arith) (omega arith) g.order before (appended_new _ _ _ _ _ _ c.store.ensures) (λ j p q. c.add_square-q.ensures ∙ ap (pushed c.args.w c.args.u) (sym (g.is j p q)))))

pub returns : goal.returns
returns c = let e : c.loop-piece.pieces.from ≡ c.args.grid.levels = omega (arith, c.in_default.ensures, c.loop-piece.invariant.0.most) in made (rw e at c.loop-piece.invariant.1)

-- `curve::shift`: none up to the gap, then piece by piece, the last one cut. Assumes nothing.
use mathlib.Core.Path.{◌≡◌, sym, ◌∙◌, subst}
use Prim.Native.Nat.{◌+◌, ◌-◌, ◌*◌, ◌<◌, min}
use native.Mathlib.Omega.{arith}
use Rattle.quadratic.specs.Quad.{Sized}
use Rattle.curve.specs.Lists.{emits_none, emits_append, emits_then, emits_as, made, lent_kept, lent_piece}
use Rattle.curve.specs.Pieces.{Emits, piece, shift_of, Lent}
use Rattle.curve.proofs.Laws.{min_is, small, Seen, shift_none, shift_moved, shift_same}
use Rattle.curve.proofs.Walks.{Given, given, walking_none, walk_room, sees}
use Rattle.curve.proofs.shift.Goals.{After-constant_to-n, At-loop-piece, In-Some}
use Rattle.curve.proofs.shift.Goals as goal

pub returns-then-grid-gap : goal.returns-then-grid-gap
returns-then-grid-gap c = made (emits_as (λ j u v. shift_none c.args.gap j (piece c.args.ws.now c.args.f c.args.grid.levels) (omega arith)) c.constant_to.ensures)

-- the list that is read, after none was written
lent : (c : After-constant_to-n) → Lent c.constant_to-n.new.ws c.args.f c.args.dst (4 * c.args.grid.levels) c.args.grid.levels
lent c = lent_kept c.constant_to-n.ensures.kept (omega (arith, c.constant_to-n.ensures.count (omega arith))) c.requires.lent.0

sf : (c : At-loop-piece) → c.loop-piece.pieces.from < c.args.grid.levels → Seen c.constant_to-n.new.ws c.loop-piece.ws c.args.f c.args.grid.levels c.loop-piece.pieces.index c.loop-piece.pieces.from
sf c = let i = c.loop-piece.invariant in sees i.0 i.1.kept (omega (arith, i.1.count (c.constant_to-n.ensures.count (omega arith)))) (lent (goal.at-At-loop-piece c).After-constant_to-n)

pub loop-piece-init : goal.loop-piece-init
loop-piece-init c = let e : min 0 (c.args.grid.levels - c.args.gap) + c.args.gap ≡ c.args.gap = omega arith in rw c.over-pieces.ensures (walking_none (lent (goal.at.loop-piece-init c).After-constant_to-n).formed, rw e (emits_none _ _ _ _ _))

pub next-requires : goal.next-requires
next-requires c = walk_room c.loop-piece.invariant.0 (sf (goal.at.next-requires c).At-loop-piece) (c.args.grid.levels - c.args.gap) (omega arith) (omega (arith, c.args.grid.within))

-- the piece
got : (c : In-Some) → Given c.constant_to-n.new.ws c.args.f c.args.grid.levels (c.args.grid.levels - c.args.gap) c.loop-piece.pieces c.next.new.self c.in-Some.piece
got c = given c.loop-piece.invariant.0 (sf (goal.at-In-Some c).At-loop-piece) (omega arith) c.in-Some.ensures

pub shift-q-requires : goal.shift-q-requires
shift-q-requires c =
    let g = got (goal.at.shift-q-requires c).In-Some in
    let e = lent_piece c.constant_to-n.ensures.kept (omega (arith, c.constant_to-n.ensures.count (omega arith))) c.requires.lent.0 c.in-Some.piece.from (omega (arith, g.inside)) in
    (small (subst Sized (sym e ∙ g.is c.in-Some.piece.from (omega arith) g.order) (c.requires.by_index c.in-Some.piece.from (omega (arith, g.inside)))), c.requires.gap_bound)

pub loop-piece-smaller : goal.loop-piece-smaller
loop-piece-smaller c = let g = got (goal.at.loop-piece-smaller c).In-Some in omega (arith, g.after, g.begins, g.order, g.inside)

pub loop-piece-preserved : goal.loop-piece-preserved
loop-piece-preserved c =
    let g = got (goal.at.loop-piece-preserved c).In-Some in
    let m = min_is _ _ _ c.min-y.ensures in
    let before : Emits (shift_of c.args.gap (piece c.constant_to-n.new.ws c.args.f c.args.grid.levels)) c.constant_to-n.new.ws c.loop-piece.ws c.args.dst c.constant_to-n.result c.args.gap (c.in-Some.piece.from + c.args.gap) c.loop-piece.n =
    let e : min c.loop-piece.pieces.from (c.args.grid.levels - c.args.gap) + c.args.gap ≡ c.in-Some.piece.from + c.args.gap = omega (arith, g.inside, g.begins) in rw e at c.loop-piece.invariant.1 in
    let e : c.min-y.result + c.args.gap + 1 ≡ min c.next.new.self.from (c.args.grid.levels - c.args.gap) + c.args.gap = omega (arith, g.after, g.inside, c.min-y.ensures) in (
      g.walking,
      rw e at (emits_append (c.constant_to-n.ensures.count (omega arith)) (omega arith) (omega (arith, g.order, g.inside, c.min-y.ensures)) before c.append-n.ensures
          (λ j p q. c.shift-q.ensures ∙ shift_moved c.args.gap j (piece c.constant_to-n.new.ws c.args.f c.args.grid.levels) _ (omega arith) (g.is (j - c.args.gap) (omega arith) (omega (arith, m.0.0))))),
    )

pub returns : goal.returns
returns c = let e : min c.loop-piece.pieces.from (c.args.grid.levels - c.args.gap) + c.args.gap ≡ c.args.grid.levels = omega (arith, c.in_default.ensures) in
    let l = lent_piece c.constant_to-n.ensures.kept (omega (arith, c.constant_to-n.ensures.count (omega arith))) c.requires.lent.0 in
    made (emits_then (omega arith) (omega arith)
    (emits_as (λ j u v. shift_none c.args.gap j (piece c.args.ws.now c.args.f c.args.grid.levels) v) c.constant_to-n.ensures)
    (emits_as (λ j u v. shift_same c.args.gap j c.args.grid.levels _ _ l v) (rw e at c.loop-piece.invariant.1)))

-- `curve::running_min`: the least so far, piece by piece. Assumes nothing.
use mathlib.Core.Path.{◌≡◌, subst}
use Prim.Native.Nat.{ℕ, ◌+◌, ◌-◌, ◌≤◌, ◌<◌}
use native.Mathlib.Omega.{arith}
use Rattle.quadratic.specs.Quad.{Quad, quad, Small, down, up}
use Rattle.curve.specs.Lists.{emits_none, emits_then, made}
use Rattle.curve.specs.Lows.{best_of, costs, lowest, prefix_of, lowest_zero, lowest_most}
use Rattle.curve.specs.Pieces.{Emits, piece}
use Rattle.curve.proofs.Laws.{Seen}
use Rattle.curve.proofs.Walks.{Given, given, walking_none, walk_room, sees}
use Rattle.curve.proofs.running_min.Goals.{At-loop-piece, In-Some}
use Rattle.curve.proofs.running_min.Goals as goal

pub loop-piece-init : goal.loop-piece-init
loop-piece-init c = rw c.over-pieces.ensures ((walking_none c.requires.lent.0.formed, (omega (arith, lowest_zero (costs c.args.grid.base (piece c.args.ws.now c.args.f c.args.grid.levels))), omega arith)), emits_none _ _ _ _ _)

-- the list that is read, by its state at entry
sf : (c : At-loop-piece) → c.loop-piece.pieces.from < c.args.grid.levels → Seen c.args.ws.now c.loop-piece.ws c.args.f c.args.grid.levels c.loop-piece.pieces.index c.loop-piece.pieces.from
sf c = let i = c.loop-piece.invariant in sees i.0.0 i.1.kept (omega (arith, i.1.count (omega arith), i.0.0.most)) c.requires.lent.0

pub next-requires : goal.next-requires
next-requires c = walk_room c.loop-piece.invariant.0.0 (sf (goal.at.next-requires c).At-loop-piece) c.args.grid.levels (omega arith) (omega (arith, c.args.grid.within))

-- the piece
got : (c : In-Some) → Given c.args.ws.now c.args.f c.args.grid.levels c.args.grid.levels c.loop-piece.pieces c.next.new.self c.in-Some.piece
got c = given c.loop-piece.invariant.0.0 (sf (goal.at-In-Some c).At-loop-piece) (omega arith) c.in-Some.ensures

pub running_min_on-run-requires : goal.running_min_on-run-requires
running_min_on-run-requires c =
    let i = c.loop-piece.invariant in
    let g = got (goal.at.running_min_on-run-requires c).In-Some in
    record {
      small = (
        subst Small (g.is c.in-Some.piece.from (omega arith) g.order) (c.requires.by_index c.in-Some.piece.from g.inside).0,
        λ v p q. let w : c.args.grid.base + (v - c.args.grid.base) ≡ v = omega arith in
            subst (λ (n : ℕ). down (quad c.in-Some.piece.q) n ≤ up (quad c.in-Some.piece.q) n) w
            (subst (λ (k : Quad). down k (c.args.grid.base + (v - c.args.grid.base)) ≤ up k (c.args.grid.base + (v - c.args.grid.base))) (g.is (v - c.args.grid.base) (omega arith) (omega arith)) (c.requires.by_index (v - c.args.grid.base) (omega (arith, g.to))).1),
      );
      n_le_a = ((omega (arith, i.1.count (omega arith), g.begins), g.order), (omega (arith, g.to, c.args.grid.within), (omega (arith, i.0.1.0, lowest_most (costs c.args.grid.base (piece c.args.ws.now c.args.f c.args.grid.levels)) c.loop-piece.pieces.from), i.0.1.1)));
      e_in_bounds = omega (arith, g.to, i.1.kept.size, c.requires.lent.1);
    }

pub loop-piece-smaller : goal.loop-piece-smaller
loop-piece-smaller c = let g = got (goal.at.loop-piece-smaller c).In-Some in omega (arith, g.after, g.begins, g.order, g.inside)

pub loop-piece-preserved : goal.loop-piece-preserved
loop-piece-preserved c =
    let i = c.loop-piece.invariant in
    let g = got (goal.at.loop-piece-preserved c).In-Some in
    let before : Emits (prefix_of c.args.grid.base (piece c.args.ws.now c.args.f c.args.grid.levels)) c.args.ws.now c.loop-piece.ws c.args.dst 0 0 c.in-Some.piece.from c.loop-piece.run.n = rw g.begins i.1 in
    let least : lowest (costs c.args.grid.base (piece c.args.ws.now c.args.f c.args.grid.levels)) c.in-Some.piece.from ≡ best_of c.loop-piece.run = rw g.begins i.0.1.0 in
    let o = c.running_min_on-run.ensures.on (piece c.args.ws.now c.args.f c.args.grid.levels) g.is least in
    ((g.walking, (rw g.after o.1, c.running_min_on-run.ensures.changes)), rw g.after (emits_then (omega arith) (omega (arith, g.order)) before o.0))

pub returns : goal.returns
returns c = let e : c.loop-piece.pieces.from ≡ c.args.grid.levels = omega (arith, c.in_default.ensures, c.loop-piece.invariant.0.0.most) in made (rw e at c.loop-piece.invariant.1)

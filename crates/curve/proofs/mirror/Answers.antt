-- `curve::mirror`: from the first piece to the last, written from the last place to the first. Assumes nothing.
use mathlib.Core.Path.{◌≡◌, sym, ◌∙◌, ap, subst}
use Prim.Native.Nat.{ℕ, ◌+◌, ◌-◌, ◌*◌, ◌<◌, ◌≤◌}
use native.Mathlib.Omega.{arith}
use lib.ListN.{length}
use Rattle.quadratic.specs.Quad.{mirrored}
use Rattle.curve.specs.Pieces.{Turnable}
use Rattle.curve.specs.Lists.{count_is, count_most_lem}
use Rattle.curve.proofs.Laws.{small, Seen}
use Rattle.curve.proofs.Turn.{Turning, turning_none, turning_more, turned_all}
use Rattle.curve.proofs.Walks.{Given, given, walking_none, walk_room, sees}
use Rattle.curve.proofs.mirror.Goals.{At-loop-piece, In-Some}
use Rattle.curve.proofs.mirror.Goals as goal

pub loop-piece-init : goal.loop-piece-init
loop-piece-init c = rw c.over-pieces.ensures (walking_none c.requires.lent.0.formed, turning_none _ _ c.count-n.ensures)

-- how many there are
most : (c : At-loop-piece) → (c.count-n.result ≡ c.requires.lent.0.formed.count) × (c.count-n.result ≤ c.args.grid.levels)
most c = let n = count_is c.count-n.ensures c.requires.lent.0.formed in (n, omega (arith, n, count_most_lem c.requires.lent.0.formed))

-- the list that is read, by its state at entry
sf : (c : At-loop-piece) → c.loop-piece.pieces.from < c.args.grid.levels → Seen c.args.ws.now c.loop-piece.ws c.args.f c.args.grid.levels c.loop-piece.pieces.index c.loop-piece.pieces.from
sf c = sees c.loop-piece.invariant.0 c.loop-piece.invariant.1.turned.kept (omega (arith, most c)) c.requires.lent.0

pub next-requires : goal.next-requires
next-requires c = walk_room c.loop-piece.invariant.0 (sf (goal.at.next-requires c).At-loop-piece) c.args.grid.levels (omega arith) (omega (arith, c.args.grid.within))

-- the piece
got : (c : In-Some) → Given c.args.ws.now c.args.f c.args.grid.levels c.args.grid.levels c.loop-piece.pieces c.next.new.self c.in-Some.piece
got c = given c.loop-piece.invariant.0 (sf (goal.at-In-Some c).At-loop-piece) (omega arith) c.in-Some.ensures

-- where it goes
room : (c : In-Some) → ((c.in-Some.piece.index < c.count-n.result) × (c.count-n.result ≤ 262144)) × (c.args.dst + 4 * (c.count-n.result - 1 - c.in-Some.piece.index) + 4 ≤ length c.loop-piece.ws)
room c =
    let m = most (goal.at-In-Some c).At-loop-piece in
    let h : c.in-Some.piece.index < c.count-n.result = omega (arith, m.0, (got c).within c.requires.lent.0.formed) in
    ((h, omega (arith, m.1, c.args.grid.within)), omega (arith, m.1, c.requires.lent.1, c.loop-piece.invariant.1.turned.kept.size))

pub mirror-q-requires : goal.mirror-q-requires
mirror-q-requires c =
    let g = got (goal.at.mirror-q-requires c).In-Some in
    let q = subst (Turnable (2 * c.args.grid.base + (c.args.grid.levels - 1))) (g.is c.in-Some.piece.from (omega arith) g.order) (c.requires.by_index c.in-Some.piece.from g.inside) in
    record { small = (small q.sized, omega (arith, c.args.grid.within)); z_bound = (q.sum, q.rest) }

pub overflow_mul-n : goal.overflow_mul-n
overflow_mul-n c = omega (arith, room (goal.at.overflow_mul-n c).In-Some)

pub overflow_add-dst : goal.overflow_add-dst
overflow_add-dst c = omega (arith, room (goal.at.overflow_add-dst c).In-Some)

pub store-requires : goal.store-requires
store-requires c = (room (goal.at.store-requires c).In-Some).1

pub loop-piece-smaller : goal.loop-piece-smaller
loop-piece-smaller c = let g = got (goal.at.loop-piece-smaller c).In-Some in omega (arith, g.after, g.begins, g.order, g.inside)

pub loop-piece-preserved : goal.loop-piece-preserved
loop-piece-preserved c =
    let g = got (goal.at.loop-piece-preserved c).In-Some in
    let h = room (goal.at.loop-piece-preserved c).In-Some in
    let before : Turning (2 * c.args.grid.base + (c.args.grid.levels - 1)) c.args.grid.levels c.args.ws.now c.loop-piece.ws c.args.f c.args.dst c.count-n.result c.in-Some.piece.index c.in-Some.piece.from = rw (g.index, g.begins) c.loop-piece.invariant.1 in
    (g.walking, rw (g.after, g.counts) (turning_more before h.0.0 c.store.ensures (c.mirror-q.ensures ∙ ap (mirrored (2 * c.args.grid.base + (c.args.grid.levels - 1))) g.there) (ap (λ (x : ℕ). x + 1) (sym g.ends))))

pub returns : goal.returns
returns c = turned_all c.loop-piece.invariant.1 c.in_default.ensures.0

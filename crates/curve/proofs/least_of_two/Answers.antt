-- `curve::least_of_two`: each turn is a stretch of the overlap of two pieces. Assumes nothing.
use mathlib.Core.Logic.{◌⊎◌, ⊎_elim}
use mathlib.Core.Path.{subst, ◌≡◌, sym, ◌∙◌}
use Prim.Native.Nat.{ℕ, ◌+◌, ◌≤◌, ◌<◌}
use native.Mathlib.Omega.{arith}
use Rattle.quadratic.specs.Quad.{Quad, quad, Sized, raised}
use Rattle.curve.specs.Lists.{emits_none, emits_append, made}
use Rattle.curve.specs.Pieces.{end_of}
use Rattle.curve.proofs.Laws.{min_is, yields_same, Seen, seen, raised_same, better_same, small_raised, at_start}
use Rattle.curve.proofs.least_of_two.Goals.{After-min-y, After-load-p, After-raise-q, In-loop-x}
use Rattle.curve.proofs.least_of_two.Goals as goal

-- the two pieces that are read, by the list's state at entry
sf : (c : In-loop-x) → Seen c.args.ws.now c.loop-x.ws c.args.f c.args.grid.levels c.loop-x.i c.loop-x.x
sf c = seen c.loop-x.invariant.1.kept (omega (arith, c.loop-x.invariant.1.count (omega arith))) c.requires.lent.0 c.loop-x.invariant.0.1.0 c.loop-x-test.true

sg : (c : In-loop-x) → Seen c.args.ws.now c.loop-x.ws c.args.g c.args.grid.levels c.loop-x.k c.loop-x.x
sg c = seen c.loop-x.invariant.1.kept (omega (arith, c.loop-x.invariant.1.count (omega arith))) c.requires.lent.1.0 c.loop-x.invariant.0.1.1 c.loop-x-test.true

least : (c : In-loop-x) (y : ℕ) → (y ≡ end_of c.loop-x.ws c.args.f c.loop-x.i) ⊎ (y ≡ end_of c.loop-x.ws c.args.g c.loop-x.k) → c.loop-x.x ≤ y
least c y = ⊎_elim (λ p. omega (arith, (sf c).from)) (λ p. omega (arith, (sg c).from))

ys : (c : After-min-y) → (c.loop-x.x ≤ c.min-y.result) × ((c.min-y.result < c.args.grid.levels) × (c.args.grid.base + c.min-y.result < 262144))
ys c =
    let y : c.min-y.result < c.args.grid.levels = omega (arith, (min_is _ _ _ c.min-y.ensures).0, (sf c.before.before.before.before.before.before).to) in
    (least c.before.before.before.before.before.before _ (min_is _ _ _ c.min-y.ensures).1, (y, omega (arith, c.args.grid.within)))

-- their sizes
qp : (c : After-load-p) → Sized (quad c.load-p.result)
qp c = rw (c.load-p.ensures, ← ((sf c.before.before.before).is c.loop-x.x (omega arith) (sf c.before.before.before).from)) (c.requires.by_index c.loop-x.x c.loop-x-test.true)

ql : (c : goal.After-load-l) → Sized (raised c.args.pen c.args.ch (quad c.load-l.result))
ql c =
    subst (λ (q : Quad). Sized (raised c.args.pen c.args.ch q)) ((sg c.before.before.before.before).is c.loop-x.x (omega arith) (sg c.before.before.before.before).from ∙ sym c.load-l.ensures)
    (c.requires.by_index_2 c.loop-x.x c.loop-x-test.true)

qr : (c : After-raise-q) → Sized (quad c.raise-q.result)
qr c = rw c.raise-q.ensures (ql c.before)

pub loop-x-init : goal.loop-x-init
loop-x-init c = ((omega arith, (at_start c.requires.lent.0.formed, at_start c.requires.lent.1.0.formed)), emits_none _ _ _ _ _)

pub overflow_mul-at : goal.overflow_mul-at
overflow_mul-at c = omega (arith, (sf c).index, (sf c).room, (sg c).room)

pub overflow_add-at : goal.overflow_add-at
overflow_add-at c = omega (arith, (sf c).index, (sf c).room, (sg c).room)

pub overflow_mul-to : goal.overflow_mul-to
overflow_mul-to c = omega (arith, (sg c).index, (sf c).room, (sg c).room)

pub overflow_add-to : goal.overflow_add-to
overflow_add-to c = omega (arith, (sg c).index, (sf c).room, (sg c).room)

pub offset_bounds-ws-at : goal.offset_bounds-ws-at
offset_bounds-ws-at c = omega (arith, (sf c).room)

pub bounds-ws-at : goal.bounds-ws-at
bounds-ws-at c = omega (arith, (sf (goal.at.bounds-ws-at c).In-loop-x).room)

pub offset_bounds-ws-to : goal.offset_bounds-ws-to
offset_bounds-ws-to c = omega (arith, (sg (goal.at.offset_bounds-ws-to c).In-loop-x).room)

pub bounds-ws-to : goal.bounds-ws-to
bounds-ws-to c = omega (arith, (sg (goal.at.bounds-ws-to c).In-loop-x).room)

pub load-p-requires : goal.load-p-requires
load-p-requires c = (sf (goal.at.load-p-requires c).In-loop-x).room

pub load-l-requires : goal.load-l-requires
load-l-requires c = (sg (goal.at.load-l-requires c).In-loop-x).room

pub raise-q-requires : goal.raise-q-requires
raise-q-requires c = (small_raised c.args.pen c.args.ch _ (ql c), c.requires.pen_bound)

pub next_stretch-r-requires : goal.next_stretch-r-requires
next_stretch-r-requires c = let y = ys c in let l = (min_is _ _ _ c.min-y.ensures).0 in record { sized = ((qp (goal.at.next_stretch-r-requires c).After-load-p, qr (goal.at.next_stretch-r-requires c).After-raise-q), (y.0, y.1.1)); by_index = λ j u v. yields_same _ ((sf (goal.at.next_stretch-r-requires c).In-loop-x).is j u (omega (arith, l)) ∙ sym c.load-p.ensures) (raised_same _ _ ((sg (goal.at.next_stretch-r-requires c).In-loop-x).is j u (omega (arith, l)) ∙ sym c.load-l.ensures) ∙ sym c.raise-q.ensures) (c.requires.by_index_3 j (omega (arith, y.1.0))) }

pub append-n-requires : goal.append-n-requires
append-n-requires c = let i = c.loop-x.invariant.1 in omega (arith, i.count (omega arith), i.kept.size, c.requires.lent, c.loop-x-test)

pub next-i-requires : goal.next-i-requires
next-i-requires c = omega (arith, (sf (goal.at.next-i-requires c).In-loop-x).index, c.args.grid.within)

pub next-k-requires : goal.next-k-requires
next-k-requires c = omega (arith, (sg (goal.at.next-k-requires c).In-loop-x).index, c.args.grid.within)

pub overflow_add-x : goal.overflow_add-x
overflow_add-x c = omega (arith, (ys (goal.at.overflow_add-x c).After-min-y).1.1, c.next_stretch-r.ensures.0)

pub loop-x-smaller : goal.loop-x-smaller
loop-x-smaller c = omega (arith, c.next_stretch-r.ensures.0, c.loop-x-test)

pub loop-x-preserved : goal.loop-x-preserved
loop-x-preserved c = let l = (min_is _ _ _ c.min-y.ensures).0 in let r = c.next_stretch-r.ensures in (
  (omega (arith, (ys (goal.at.loop-x-preserved c).After-min-y).1.0, r.0), ((sf (goal.at.loop-x-preserved c).In-loop-x).step _ c.next-i.result r.0.0 (omega (arith, r.0.1, l)) c.next-i.ensures, (sg (goal.at.loop-x-preserved c).In-loop-x).step _ c.next-k.result r.0.0 (omega (arith, r.0.1, l)) c.next-k.ensures)),
  emits_append (omega arith) (omega arith) r.0.0 c.loop-x.invariant.1 c.append-n.ensures
      (λ j u v. r.1 j u v ∙ sym (better_same _ ((sf (goal.at.loop-x-preserved c).In-loop-x).is j u (omega (arith, r.0.1, l)) ∙ sym c.load-p.ensures) (raised_same _ _ ((sg (goal.at.loop-x-preserved c).In-loop-x).is j u (omega (arith, r.0.1, l)) ∙ sym c.load-l.ensures) ∙ sym c.raise-q.ensures))),
)

pub shape_of-ws : goal.shape_of-ws
shape_of-ws c = c.loop-x.invariant.1.kept.size

pub returns : goal.returns
returns c = let e : c.loop-x.x ≡ c.args.grid.levels = omega arith in made (rw e at c.loop-x.invariant.1)

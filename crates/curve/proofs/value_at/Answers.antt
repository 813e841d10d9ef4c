-- `curve::value_at`: the piece at the level is the first that does not end before it. Assumes nothing.
use mathlib.Core.List.{List}
use mathlib.Core.Logic.{inl}
use mathlib.Core.Path.{◌≡◌, refl, sym, ◌∙◌, ap, ap₂, subst}
use Prim.Native.Nat.{ℕ, ◌+◌, ◌*◌, ◌≤◌, ◌<◌}
use native.Mathlib.Omega.{arith}
use lib.ListN.{length}
use Rattle.integers.specs.Pairs.{lex}
use Rattle.quadratic.specs.Quad.{Quad, quad, value, Small, up, down}
use Rattle.curve.specs.Lists.{start_zero, start_next}
use Rattle.curve.specs.Pieces.{piece, Held, start_of, end_of, quad_at}
use Rattle.curve.proofs.Laws.{At, Here, here, at_start, at_step}
use Rattle.curve.proofs.Prefix.{fine_on}
use Rattle.curve.proofs.value_at.Goals.{After-load-p}
use Rattle.curve.proofs.value_at.Invariants.{From}
use Rattle.curve.proofs.value_at.Goals as goal

there : {ws : List ℕ} {o L j i : ℕ} → From ws o L j i → j < L → Here ws o L i (start_of ws o i)
there f h = here f.0 (omega (arith, f.1))

room : {ws : List ℕ} {o L j i : ℕ} → Held ws o L → From ws o L j i → j < L → o + 4 * i + 4 ≤ length ws
room l f h = omega (arith, (there f h).within l.formed, l.room)

from_start : {ws : List ℕ} {o L j : ℕ} → Held ws o L → From ws o L j 0
from_start {ws} {o} {L} l = let z = start_zero ws o in (subst (At ws o L 0) (sym z) (at_start l.formed), omega arith)

from_next : {ws : List ℕ} {o L j i : ℕ} → From ws o L j i → j < L → end_of ws o i < j → From ws o L j (i + 1)
from_next {ws} {o} {L} {i = i} f h k =
    let z = start_next ws o i in
    (subst (At ws o L (i + 1)) (sym z) (at_step (end_of ws o i) (i + 1) f.0 (omega (arith, f.1)) (there f h).from (omega arith) (inl (refl, refl))), omega arith)

piece_there : {ws : List ℕ} {o L j i : ℕ} → From ws o L j i → j < L → j ≤ end_of ws o i → piece ws o L j ≡ quad_at ws (o + 4 * i)
piece_there f h k = (there f h).is _ f.1 k

pub loop-i-init : goal.loop-i-init
loop-i-init c = from_start c.requires.held

pub overflow_mul-i : goal.overflow_mul-i
overflow_mul-i c = omega (arith, room c.requires.held c.loop-i.invariant c.requires.j_lt_levels)

pub overflow_add-f : goal.overflow_add-f
overflow_add-f c = omega (arith, room c.requires.held c.loop-i.invariant c.requires.j_lt_levels)

pub offset_bounds-ws-f : goal.offset_bounds-ws-f
offset_bounds-ws-f c = omega (arith, room c.requires.held c.loop-i.invariant c.requires.j_lt_levels)

pub bounds-ws-f : goal.bounds-ws-f
bounds-ws-f c = omega (arith, room c.requires.held c.loop-i.invariant c.requires.j_lt_levels)

pub overflow_add-i : goal.overflow_add-i
overflow_add-i c = omega (arith, (there c.loop-i.invariant c.requires.j_lt_levels).index, c.args.grid.within)

pub loop-i-smaller : goal.loop-i-smaller
loop-i-smaller c = omega (arith, (there c.loop-i.invariant c.requires.j_lt_levels).index)

pub loop-i-preserved : goal.loop-i-preserved
loop-i-preserved c = from_next c.loop-i.invariant c.requires.j_lt_levels c.loop-i-test.true

pub overflow_mul-i-2 : goal.overflow_mul-i-2
overflow_mul-i-2 c = omega (arith, room c.requires.held c.loop-i.invariant c.requires.j_lt_levels)

pub overflow_add-f-2 : goal.overflow_add-f-2
overflow_add-f-2 c = omega (arith, room c.requires.held c.loop-i.invariant c.requires.j_lt_levels)

pub load-p-requires : goal.load-p-requires
load-p-requires c = room c.requires.held c.loop-i.invariant c.requires.j_lt_levels

-- the piece is in range
whole : (c : After-load-p) → Small (quad c.load-p.result) × ((v : ℕ) → c.args.grid.base + c.args.j ≤ v → v ≤ c.args.grid.base + c.args.j → down (quad c.load-p.result) v ≤ up (quad c.load-p.result) v)
whole c =
    let is : (i : ℕ) → c.args.j ≤ i → i ≤ c.args.j → piece c.args.ws.now c.args.f c.args.grid.levels i ≡ quad c.load-p.result = λ i p q. let e : i ≡ c.args.j = omega arith in ap (piece c.args.ws.now c.args.f c.args.grid.levels) e ∙ piece_there c.loop-i.invariant c.requires.j_lt_levels c.loop-i-test.false ∙ sym c.load-p.ensures in
    fine_on (piece c.args.ws.now c.args.f c.args.grid.levels) _ c.args.grid.base c.args.j c.args.j (quad c.load-p.result) c.args.grid.within c.requires.by_index (omega arith) c.requires.j_lt_levels is

pub eval-requires : goal.eval-requires
eval-requires c =
    let w = whole (goal.at.eval-requires c).After-load-p in
    (w.0, (omega (arith, c.args.grid.within, c.requires.j_lt_levels), w.1 (c.args.grid.base + c.args.j) (omega arith) (omega arith)))

pub returns : goal.returns
returns c = (
  ap₂ lex c.eval.ensures.0.0 c.eval.ensures.0.1 ∙ ap (λ (q : Quad). value q (c.args.grid.base + c.args.j)) (c.load-p.ensures ∙ sym (piece_there c.loop-i.invariant c.requires.j_lt_levels c.loop-i-test.false)),
  omega (arith, (whole (goal.at.returns c).After-load-p).0.few, c.eval.ensures.0.1),
)

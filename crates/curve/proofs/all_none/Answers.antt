-- `curve::all_none`: by its tests. Assumes nothing.
use native.Mathlib.Omega.{arith}
use borrow.Author.Tests.{eq-eqb, ne_eqb}
use Rattle.curve.specs.Pieces.{none_only}
use Rattle.curve.specs.Lists.{First, first}
use Rattle.curve.proofs.all_none.Goals.{Start}
use Rattle.curve.proofs.all_none.Goals as goal

one : (s : Start) → First s.args.ws.now s.args.f s.args.levels
one s = first s.requires.0 s.requires.1.0

pub bounds-ws-f : goal.bounds-ws-f
bounds-ws-f c = omega (arith, (one (goal.at.bounds-ws-f c).Start).room)

pub overflow_add-ws : goal.overflow_add-ws
overflow_add-ws c = omega (arith, (one (goal.at.overflow_add-ws c).Start).to)

pub bounds-ws-f-then-ws-f : goal.bounds-ws-f-then-ws-f
bounds-ws-f-then-ws-f c = omega (arith, (one (goal.at.bounds-ws-f-then-ws-f c).Start).room)

pub returns-then-ws-f : goal.returns-then-ws-f
unfolding none_only
returns-then-ws-f c = rw (eq-eqb _ _ c.if-ws-f.true)

pub returns-else-ws-f : goal.returns-else-ws-f
unfolding none_only
returns-else-ws-f c = rw (ne_eqb _ _ c.if-ws-f.false)

use mathlib.Core.Logic.{⊎_elim}
use mathlib.Core.Path.{◌≡◌, sym, ◌∙◌}
use Prim.Native.Nat.{ℕ, ◌-◌}
use Rattle.quadratic.specs.Places.{last_under, stays_is}
use native.Mathlib.Omega.{arith}
use borrow.Author.Tests.{leb-true}
use Rattle.quadratic.specs.Quad.{quad, Quad, Under, Stays}
use Rattle.integers.specs.Rep.{le_or_lt}
use Rattle.quadratic.proofs.Laws.{under_back, under_on, under_between, under_line, line_stays}
use Rattle.quadratic.proofs.crossing.Goals as goal

-- the place, and that w stays under up to it
both : {w l : Quad} {x y r : ℕ} → Stays w l x y r → (r ≡ last_under w l x (y - x)) × Stays w l x y r
both s = (stays_is _ _ _ _ _ s, s)

pub returns-then-l-w : goal.returns-then-l-w
returns-then-l-w c = both (record { low = c.requires.small.1.0; high = omega arith; last = λ h. omega arith; under = λ m p q. under_line (quad c.args.w) (quad c.args.l) _ c.if-a-b.true c.if-l-w.true c.requires.under m p })

pub returns-then-a-b : goal.returns-then-a-b
returns-then-a-b c = both (line_stays (quad c.args.w) (quad c.args.l) _ _ _ c.if-a-b.true (omega arith) c.requires.under c.cut.ensures)

pub returns-then-under : goal.returns-then-under
returns-then-under c = both (let u : Under (quad c.args.w) (quad c.args.l) c.turning_point-k.result = leb-true _ _ (sym c.under.ensures ∙ c.if-under.true) in record {
  low = c.requires.small.1.0;
  high = omega arith;
  last = λ h. omega arith;
  under = λ m p q. ⊎_elim
      (λ g. under_back (quad c.args.w) (quad c.args.l) _ _ _ c.if-a-b-2.true c.turning_point-k.ensures c.turning_point-k.result (omega arith) u m p g)
      (λ g. under_on (quad c.args.w) (quad c.args.l) _ _ _ c.if-a-b-2.true c.turning_point-k.ensures u m (omega arith) q)
      (le_or_lt m c.turning_point-k.result);
})

pub returns-then-a-b-2 : goal.returns-then-a-b-2
returns-then-a-b-2 c = both (let e = c.bisect.ensures in record { low = e.low; high = omega arith; last = λ h. e.last; under = λ m p q. under_back (quad c.args.w) (quad c.args.l) _ _ _ c.if-a-b-2.true c.turning_point-k.ensures c.bisect.result (omega arith) e.under m p q })

pub returns-then-under-2 : goal.returns-then-under-2
returns-then-under-2 c = both (let u : Under (quad c.args.w) (quad c.args.l) c.args.y = leb-true _ _ (sym c.under-2.ensures ∙ c.if-under-2.true) in record { low = c.requires.small.1.0; high = omega arith; last = λ h. omega arith; under = λ m p q. under_between (quad c.args.w) (quad c.args.l) _ _ c.if-a-b-2.false c.requires.under u m p q })

pub returns : goal.returns
returns c = both (let e = c.bisect-2.ensures in record { low = e.low; high = omega arith; last = λ h. e.last; under = λ m p q. under_between (quad c.args.w) (quad c.args.l) _ _ c.if-a-b-2.false c.requires.under e.under m p q })

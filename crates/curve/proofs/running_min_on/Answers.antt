use mathlib.Core.Path.{◌≡◌, refl, ap₂, subst}
use Prim.Native.Nat.{ℕ, ◌+◌, ◌-◌}
use native.Mathlib.Omega.{arith}
use Rattle.integers.specs.Pairs.{lex}
use Rattle.quadratic.specs.Quad.{quad, Lowest}
use Rattle.quadratic.specs.Fine.{late_is}
use Rattle.curve.specs.Lows.{Drops}
use Rattle.curve.proofs.Prefix.{prefix_flat, prefix_falls}
use Rattle.curve.proofs.running_min_on.Goals.{After-lowest_min}
use Rattle.curve.proofs.running_min_on.Goals as goal

lw : (c : After-lowest_min) → Lowest (quad c.args.p) (c.args.base + c.args.a) (c.args.base + c.args.e) (c.args.base + (c.lowest_min.result - c.args.base))
lw c = let e : c.lowest_min.result ≡ c.args.base + (c.lowest_min.result - c.args.base) = omega (arith, c.lowest_min.ensures.1.low) in
    subst (Lowest (quad c.args.p) (c.args.base + c.args.a) (c.args.base + c.args.e)) e c.lowest_min.ensures.1

pub returns-then-limit-least : goal.returns-then-limit-least
returns-then-limit-least c = record { on = λ F f z. prefix_flat _ _ _ _ _ _ c.requires.small.1 (lw (goal.at.returns-then-limit-least c).After-lowest_min) (ap₂ lex c.eval-least.ensures.0.0 c.eval-least.ensures.0.1) F f _ _ c.requires.n_le_a.1.1.1 c.requires.n_le_a.0.1 ((late_is c.args.run.best.value c.args.run.best.changes c.eval-least.result.value c.eval-least.result.changes (omega (arith, c.requires.n_le_a.1.1.1)) (omega (arith, c.requires.small.0.few, c.eval-least.ensures.0.1))).0 (omega (arith, c.more_changes.ensures, c.if-limit-least.true))) z c.constant_to-all.ensures; changes = c.requires.n_le_a.1.1.1 }

pub returns : goal.returns
returns c = record { on = λ F f z. prefix_falls _ _ _ _ _ _ c.requires.small.1 (lw (goal.at.returns c).After-lowest_min) (ap₂ lex c.eval-least.ensures.0.0 c.eval-least.ensures.0.1) F f c.args.run.best.value c.args.run.best.changes c.eval-least.result.value c.eval-least.result.changes _ c.eval-least.ensures.0.1 c.requires.n_le_a.1.1.1 (omega (arith, c.requires.small.0.few, c.eval-least.ensures.0.1)) refl c.requires.n_le_a.0.0 (omega (arith, (lw (goal.at.returns c).After-lowest_min).high)) (subst (λ (n : ℕ). Drops (quad c.args.p) (c.args.run.best.value + n) c.args.a (c.lowest_min.result - c.args.base) c.args.base c.first_below-s.result) c.more_changes.ensures c.first_below-s.ensures) z c.constant_to-before.ensures c.append-fallen.ensures c.constant_to-after.ensures; changes = omega (arith, c.requires.small.0.few, c.eval-least.ensures.0.1) }

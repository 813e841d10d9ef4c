use mathlib.Core.Path.{refl, sym, ◌∙◌, ap, ap₂}
use mathlib.Core.Logic.{inl, inr, ⊎_elim}
use native.Mathlib.Omega.{arith}
use borrow.Author.Tests.{ltb-true, ltb-false}
use Rattle.integers.specs.Pairs.{lex}
use Rattle.quadratic.specs.declared.Rank.{Rank}
use Rattle.curve.specs.Lows.{rank_of}
use Rattle.curve.proofs.Second.{two_kept, two_new}
use Rattle.curve.proofs.lower_two.Goals as goal

pub returns-then-comes_first : goal.returns-then-comes_first
returns-then-comes_first c = record { on = λ G g t. two_new _ _ _ _ _ _ _ c.requires.small.1 c.lowest_min-v.ensures.1 (ap₂ lex c.eval-here.ensures.0.0 c.eval-here.ensures.0.1) G g t c.eval-here.result _ _ _ refl (omega (arith, c.eval-here.ensures.0.1, c.requires.small.0.few)) refl c.requires.a_le_e.1.0 (ltb-true _ _ (sym c.comes_first.ensures ∙ c.if-comes_first.true)) c.lesser_at-before.ensures c.lesser_at-second.ensures }

pub returns : goal.returns
returns c = let w = c.lesser_rank-second.ensures in record { on = λ G g t. two_kept _ _ _ _ _ _ _ c.requires.small.1 c.lowest_min-v.ensures.1 (ap₂ lex c.eval-here.ensures.0.0 c.eval-here.ensures.0.1) G g t c.lesser_rank-second.result (⊎_elim (λ q. omega (arith, ap (λ (r : Rank). r.changes) q, c.requires.a_le_e)) (λ q. omega (arith, ap (λ (r : Rank). r.changes) q, c.eval-here.ensures.0.1, c.requires.small.0.few)) w.1) (ltb-false _ _ (sym c.comes_first.ensures ∙ c.if-comes_first.false)) w.0 (⊎_elim (λ q. inl (ap rank_of q)) (λ q. inr (ap rank_of q)) w.1) }

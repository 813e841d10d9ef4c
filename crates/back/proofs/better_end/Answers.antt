use Rattle.std.proofs.Common.{◌<◌, sym, ◌∙◌, arith}
use borrow.Author.Tests.{ltb-true, ltb-false}
use Rattle.back.specs.Read.{end_skipped, end_better, end_kept}
use Rattle.back.proofs.Ends.{held, least_all, least_most}
use Rattle.back.proofs.better_end.Goals as goal

pub returns-then-not-in_set : goal.returns-then-not-in_set
returns-then-not-in_set c = (c.requires.1.1.1, λ H r a. end_skipped a (sym c.in_set.ensures ∙ c.if-not-in_set.true))

pub least_in-low-requires-clause-held : goal.least_in-low-requires-clause-held
least_in-low-requires-clause-held c = held c.requires.0 0 _ (omega arith) (omega arith) _ c.list_at-f.ensures

pub returns-then-comes_first : goal.returns-then-comes_first
returns-then-comes_first c = (
  c.least_in-low.ensures.changes,
  λ H r a.
      let p = c.requires in
      let h : c.args.s < c.args.g.states = omega arith in
      let l = least_all p.0 0 _ (omega arith) h _ c.list_at-f.ensures r c.args.plan.now p.1.0 c.least_in-low.ensures in
      end_better a (sym c.in_set.ensures ∙ c.if-not-in_set.false) _ l (least_most p.0 0 _ (omega arith) h _ c.list_at-f.ensures r c.args.plan.now p.1.0 l) (ltb-true _ _ (sym c.comes_first.ensures ∙ c.if-comes_first.true)),
)

pub returns-else-comes_first : goal.returns-else-comes_first
returns-else-comes_first c = (
  c.requires.1.1.1,
  λ H r a.
      let p = c.requires in
      let h : c.args.s < c.args.g.states = omega arith in
      let l = least_all p.0 0 _ (omega arith) h _ c.list_at-f.ensures r c.args.plan.now p.1.0 c.least_in-low.ensures in
      end_kept a (sym c.in_set.ensures ∙ c.if-not-in_set.false) _ l (least_most p.0 0 _ (omega arith) h _ c.list_at-f.ensures r c.args.plan.now p.1.0 l) (ltb-false _ _ (sym c.comes_first.ensures ∙ c.if-comes_first.false)),
)

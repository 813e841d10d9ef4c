-- `curve::copy`: word for word, from where nothing is written. Assumes nothing.
use mathlib.Core.Logic.{◌⊎◌}
use mathlib.Core.Path.{◌≡◌, subst, sym}
use Prim.Native.Nat.{ℕ, ◌+◌, ◌*◌, ◌≤◌}
use native.Mathlib.Omega.{arith}
use Rattle.curve.specs.Lists.{count_is}
use Rattle.curve.proofs.Laws.{copying_none, copying_more, copied_is}
use Rattle.curve.proofs.copy.Goals.{After-count-n}
use Rattle.curve.proofs.copy.Goals as goal

-- how many there are
counted : (c : After-count-n) → c.count-n.result ≡ c.requires.0.formed.count
counted c = count_is c.count-n.ensures c.requires.0.formed

pub overflow_mul-i-end : goal.overflow_mul-i-end
overflow_mul-i-end c = omega (arith, counted (goal.at.overflow_mul-i-end c).After-count-n, c.requires.0.room)

pub loop-i-init : goal.loop-i-init
loop-i-init c = let e = counted (goal.at.loop-i-init c).After-count-n in ((omega (arith, e, c.requires.0.room), omega (arith, e, c.requires.0.into)), copying_none _ _ _ _)

apart : (c : After-count-n) → (c.args.f + 4 * c.count-n.result ≤ c.args.dst) ⊎ (c.args.dst + 4 * c.count-n.result ≤ c.args.f)
apart c = subst (λ (n : ℕ). (c.args.f + 4 * n ≤ c.args.dst) ⊎ (c.args.dst + 4 * n ≤ c.args.f)) (sym (counted c)) c.requires.0.apart

pub loop-i-preserved : goal.loop-i-preserved
loop-i-preserved c =
    let n = copying_more (omega arith) (omega arith) (apart (goal.at.loop-i-preserved c).After-count-n) c.loop-i.invariant.1 in
    (omega (arith, n.kept.size, c.loop-i.invariant.1.kept.size), n)

pub returns : goal.returns
returns c =
    let i = c.loop-i.invariant.1 in
    let e = counted (goal.at.returns c).After-count-n in
    record {
      count = count_is c.count-n.ensures;
      kept = i.kept;
      word = λ k h. i.word k (omega arith);
      is = copied_is _ _ _ (omega (arith, e, c.requires.0.room)) (omega (arith, e, c.requires.0.into)) i.kept (λ k h. i.word k (omega arith));
    }

use borrow.Author.Tests.{eq-eqb, ne_eqb}
use native.Mathlib.Nat.{one-mul, mod-eq_of_lt, lt_of_le_of_lt}
use lib.Pow.{pow_mono}
use lib.Dec.{lit<}
use Prim.Native.Nat.{◌<◌, ◌^◌}
use Rattle.plan.proofs.mask_ok.Goals as goal

pub returns-then-mask-eq0 : goal.returns-then-mask-eq0
returns-then-mask-eq0 c = simp (eq-eqb _ _ c.if-mask-eq0.true)

pub returns : goal.returns
returns c =
    let h : 2 ^ c.args.states < 65536 = lt_of_le_of_lt (pow_mono c.requires) (lit< tt) in
    simp (one-mul, mod-eq_of_lt h, ne_eqb _ _ c.if-mask-eq0.false)

-- `quadratic::cut`: an end of [x, y] where the quotient's bounds say so, else the quotient on signed levels, at its place. Assumes nothing.
use mathlib.Core.Path.{◌≡◌, ◌∙◌}
use Prim.Native.Nat.{ℕ, ◌+◌, ◌*◌, ◌≤◌}
use native.Mathlib.Nat.{mul-le-mul}
use native.Mathlib.Omega.{arith}
use lib.IntN.{pos, ◌-ℤ◌}
use borrow.Author.Rules.{rules}
use mir.Facts.{to_z-of_z}
use mir.Syntax.{w64}
use mir.Val.{SFits}
use Rattle.integers.specs.Rep.{eq_z, nz, ◌⊖◌, lt_z_of}
use Rattle.integers.proofs.Floor.{floor_down}
use Rattle.quadratic.proofs.Laws.{cut_of}
use Rattle.quadratic.proofs.cut.Goals as goal

-- the products fit
times : (d v : ℕ) → d ≤ 2199023255552 → v ≤ 262144 → d * v ≤ 2199023255552 * 262144
times d v = mul-le-mul

pub returns : goal.returns
returns c =
    let fn : SFits w64 c.less-n.result = search rules in
    let en : c.less-n.result ≡ pos c.args.p -ℤ pos (c.args.q + c.args.d * 163840) = c.less-n.ensures in
    let fd : SFits w64 c.less.result = search rules in
    let ed : c.less.result ≡ pos c.args.d = c.less.ensures ∙ eq_z (nz c.args.d ⊖ nz 0) (nz c.args.d) (omega arith) in
    let fm : SFits w64 c.floor_div-m.result = search rules in
    let e = rw (to_z-of_z fd, ed, to_z-of_z fn, en) at c.floor_div-m.ensures in
    let d = floor_down _ _ (lt_z_of (nz 0) (nz c.args.d) (omega arith)) in
    cut_of _ _ _ _ _ _ c.floor_div-m.result (rw e d.0) (rw e d.1) (rw (to_z-of_z fm) at c.place.ensures)

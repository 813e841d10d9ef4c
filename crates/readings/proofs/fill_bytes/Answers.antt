-- `readings::fill_bytes` meets its contract. Assumes nothing.
use borrow.Author.Rules.{rules}
use native.Mathlib.Omega.{arith}
use Prim.Native.Nat.{◌/◌, ◌%◌}
use mathlib.Core.Path.{◌≡◌, ◌∙◌, ap}
use lib.IntN.{pos}
use lib.ListN.{get_or}
use mir.Syntax.{w16}
use mir.ValLaws.{to_z-of_z}
use Rattle.integers.specs.Bytes.{bits16}
use Rattle.readings.proofs.Turn.{no_bytes, bytes_turn}
use Rattle.readings.proofs.fill_bytes.Goals as goal

pub loop-i-init : goal.loop-i-init
loop-i-init c = no_bytes c.args.out.now

pub loop-i-preserved : goal.loop-i-preserved
loop-i-preserved c =
    let z = get_or c.args.zs.now c.loop-i.i (pos 0) in
    let x = to_z-of_z w16 z (record { sfits = search rules }) in
    let h : c.high16.result ≡ bits16 z / 256 = c.high16.ensures ∙ ap (λ z. bits16 z / 256) x in
    let k : c.low16.result ≡ bits16 z % 256 = c.low16.ensures ∙ ap (λ z. bits16 z % 256) x in
    rw (h, k, c.loop-i.invariant) (bytes_turn c.args.zs.now c.loop-i.i (omega arith) c.args.out.now (omega arith))

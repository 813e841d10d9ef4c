-- `readings::fill` meets its contract. Assumes nothing.
use native.Mathlib.Omega.{arith}
use Prim.Native.Nat.{ℕ, ◌+◌, ◌*◌, ◌/◌, ◌<◌}
use mathlib.Core.Path.{◌≡◌, refl, ◌∙◌, ap, ap₂}
use mathlib.Core.List.{[]}
use lib.ListN.{length, get_or}
use mir.Syntax.{w16}
use mir.Val.{to_z, of_z}
use mir.ValLaws.{to_z-of_z}
use Rattle.integers.specs.Bytes.{signed16, word}
use Rattle.readings.proofs.Turn.{no_readings, pair_byte, reading_turn}
use Rattle.readings.proofs.fill.Goals as goal

pub loop-i-init : goal.loop-i-init
loop-i-init c = no_readings c.args.out.now

pub loop-i-preserved : goal.loop-i-preserved
loop-i-preserved c =
    let h : c.loop-i.i < length c.args.body.now / 2 = omega (arith, c.loop-i-test.true, c.as_chunks.ensures.front_len) in
    let byte = λ (j p : ℕ) (q : j < 2) (e : p ≡ 2 * c.loop-i.i + j). ap (λ x. get_or (get_or x c.loop-i.i []) j 0) c.as_chunks.ensures.front ∙ pair_byte (length c.args.body.now / 2) c.args.body.now c.loop-i.i j p h q e in
    let x : to_z w16 (of_z w16 c.signed16.result) ≡ signed16 (word (get_or c.args.body.now (2 * c.loop-i.i) 0) (get_or c.args.body.now (2 * c.loop-i.i + 1) 0)) =
    to_z-of_z w16 c.signed16.result (record { sfits = c.signed16.type_inv }) ∙ c.signed16.ensures ∙ ap signed16 (ap₂ word (byte 0 (2 * c.loop-i.i) (omega arith) (omega arith)) (byte 1 (2 * c.loop-i.i + 1) (omega arith) refl)) in
    rw (x, c.loop-i.invariant) (reading_turn c.args.body.now c.loop-i.i (omega arith) c.args.out.now (omega arith))

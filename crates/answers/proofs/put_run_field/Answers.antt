-- `answers::put_run_field` meets its contract. Assumes nothing.
use borrow.Author.Rules.{rules}
use native.Mathlib.Omega.{arith}
use Prim.Native.Nat.{◌/◌, ◌%◌}
use mathlib.Core.Path.{◌≡◌, ◌∙◌, ap}
use lib.ListN.{get_or}
use mir.Val.{to_z, of_z}
use mir.Syntax.{w16, w32}
use mir.ValLaws.{to_z-of_z}
use Rattle.integers.specs.Bytes.{bits16}
use Rattle.answers.specs.Rules.{run_small, run_level}
use Rattle.answers.specs.Runs.{number_at, whole_at}
use Rattle.answers.proofs.put_run_field.Goals as goal

pub overflow_cast-whole_at : goal.overflow_cast-whole_at
overflow_cast-whole_at c = let k = run_small c.args.runs.now c.args.i c.requires.1 in record { fits = omega (arith, c.whole_at.ensures, k.0) }

pub overflow_cast-whole_at-2 : goal.overflow_cast-whole_at-2
overflow_cast-whole_at-2 c = let k = run_small c.args.runs.now c.args.i c.requires.1 in record { fits = omega (arith, c.whole_at-2.ensures, k.1) }

pub overflow_cast-state : goal.overflow_cast-state
overflow_cast-state c = let k = run_small c.args.runs.now c.args.i c.requires.1 in omega (arith, c.whole_at-state.ensures, k.2)

pub overflow_cast-level : goal.overflow_cast-level
overflow_cast-level c = rw (to_z-of_z w32 (number_at c.args.runs.now c.args.i 3) (record { sfits = search rules })) (run_level c.args.runs.now c.args.i c.requires.1)

pub overflow_cast-edge : goal.overflow_cast-edge
overflow_cast-edge c = let k = run_small c.args.runs.now c.args.i c.requires.1 in omega (arith, c.whole_at-edge.ensures, k.3)

pub returns : goal.returns
returns c =
    let k = run_small c.args.runs.now c.args.i c.requires.1 in
    let h0 : get_or c.to_be_bytes.result 0 0 ≡ whole_at c.args.runs.now c.args.i 0 / 256 = ap (λ b. get_or b 0 0) c.to_be_bytes.ensures ∙ omega (arith, c.whole_at.ensures, k.0) in
    let l0 : get_or c.to_be_bytes.result 1 0 ≡ whole_at c.args.runs.now c.args.i 0 % 256 = ap (λ b. get_or b 1 0) c.to_be_bytes.ensures ∙ ap (λ n. n % 256) c.whole_at.ensures in
    let h1 : get_or c.to_be_bytes-2.result 0 0 ≡ whole_at c.args.runs.now c.args.i 1 / 256 = ap (λ b. get_or b 0 0) c.to_be_bytes-2.ensures ∙ omega (arith, c.whole_at-2.ensures, k.1) in
    let l1 : get_or c.to_be_bytes-2.result 1 0 ≡ whole_at c.args.runs.now c.args.i 1 % 256 = ap (λ b. get_or b 1 0) c.to_be_bytes-2.ensures ∙ ap (λ n. n % 256) c.whole_at-2.ensures in
    let v = number_at c.args.runs.now c.args.i 3 in
    let x = ap (λ z. to_z w16 (of_z w16 z)) (to_z-of_z w32 v (record { sfits = search rules })) ∙ to_z-of_z w16 v (run_level c.args.runs.now c.args.i c.requires.1) in
    let h : c.high16.result ≡ bits16 v / 256 = c.high16.ensures ∙ ap (λ z. bits16 z / 256) x in
    let l : c.low16.result ≡ bits16 v % 256 = c.low16.ensures ∙ ap (λ z. bits16 z % 256) x in
    rw (← h0, ← l0, ← h1, ← l1, ← c.whole_at-state.ensures, ← c.whole_at-edge.ensures, ← h, ← l) c.put.ensures

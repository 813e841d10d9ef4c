-- The 65,536 bytes that the program `segment` lends are enough for every answer. Assumes nothing.
use mathlib.Core.Path.{◌≡◌, refl, sym, ◌∙◌, ap}
use mathlib.Core.List.{List}
use Prim.Native.Nat.{ℕ, ◌≤◌}
use native.Mathlib.Omega.{arith}
use lib.IntN.{ℤ}
use lib.ListN.{length, drop, length-append}
use borrow.Author.Tests.{le-leb}
use Rattle.model.specs.Result.{Result, found, refused}
use Rattle.search.specs.Search.{runs_after}
use Rattle.fields.specs.Put.{outcome, written}
use Rattle.answers.specs.Lengths.{answer_length_lem}
use Rattle.finder.specs.declared.Outcome.{Outcome}
use Rattle.finder.specs.Finder.{file_result, result_bytes, room_number, segment_outcome, after_segment, program_bytes, at_front}

-- a run has five numbers and 11 bytes, and a result whose runs are at the front of a list has no more numbers than the list
bytes_low : (r : Result) (runs : List ℤ) → length (runs_after r runs) ≡ length runs → length runs ≤ 16000 → length (result_bytes r) ≤ 65536
bytes_low (found c ns) runs k l = omega (arith, k, l, length-append ns (drop (length ns) runs), answer_length_lem c ns)
bytes_low (refused n) runs k l = omega arith

-- bytes that have room are written
fitting : (r : Result) (out : List ℕ) → length (result_bytes r) ≤ length out
    → ((segment_outcome r (length out)).count ≡ length (result_bytes r)) × (after_segment r out ≡ at_front (result_bytes r) out)
unfolding segment_outcome after_segment room_number outcome written at_front
fitting r out h = rw (le-leb (length (result_bytes r)) (length out) h) (refl, refl)

pub program_answer : (s : List ℕ) (room words numbers : ℕ) (runs runs' : List ℤ) (out out' : List ℕ) (o : Outcome)
    → o ≡ segment_outcome (file_result s room words numbers) (length out) → out' ≡ after_segment (file_result s room words numbers) out
    → runs' ≡ runs_after (file_result s room words numbers) runs → length runs' ≡ length runs
    → room ≡ 4096 → words ≡ 7680 → numbers ≡ 16000 → length runs ≡ numbers → length out ≡ 65536
    → (o.count ≡ length (program_bytes s)) × (out' ≡ at_front (program_bytes s) out)
unfolding program_bytes
program_answer s room words numbers runs runs' out out' o u v w l a b c d e =
    let r = file_result s room words numbers in
    let k : length (runs_after r runs) ≡ length runs = ap length (sym w) ∙ l in
    let f = fitting r out (omega (arith, bytes_low r runs k (omega (arith, c, d)), e)) in
    rw (← a, ← b, ← c) (ap (λ (x : Outcome). x.count) u ∙ f.0, v ∙ f.1)

-- the bytes of an answer stand within those that were lent
pub answer_low : (s out out' : List ℕ) (m : ℕ) → (m ≡ length (program_bytes s)) × (out' ≡ at_front (program_bytes s) out) → m ≤ length out'
unfolding at_front
answer_low s out out' m (a, b) = rw (a, b) (omega (arith, length-append (program_bytes s) (drop (length (program_bytes s)) out)))

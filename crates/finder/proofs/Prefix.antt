-- A plan file and its first 9,011 bytes have one answer, so a program may read no more than these. Assumes nothing.
use mathlib.Core.Path.{◌≡◌, refl, sym, ◌∙◌, ap}
use mathlib.Core.List.{List}
use Prim.Native.Nat.{ℕ, ◌≤◌}
use native.Mathlib.Omega.{arith}
use lib.ListN.{length, take}
use lib.Seq.{take_all, take-take}
use Rattle.plan.specs.Build.{Answer}
use Rattle.plan.specs.Build.{Done, Refused}
use Rattle.model.specs.Result.{refused}
use Rattle.readings.specs.Trips.{AllBytes}
use Rattle.plan.specs.Counts.{count_is}
use Rattle.readings.specs.Codec.{readings_of}
use Rattle.fields.proofs.Laws.{take_bytes}
use Rattle.files.specs.Reader.{plan_file, readings_part}
use Rattle.files.proofs.Sizes.{counts_small, plan_length_lem}
use Rattle.files.specs.Writer.{plan_length}
use Rattle.files.proofs.Back.{file_back}
use Rattle.files.proofs.Prefix.{file_bound, prefix_decides}
use Rattle.finder.specs.Finder.{file_result, result_bytes, program_bytes}
use Rattle.finder.proofs.Calls.{none}

module _ (s : List ℕ) (f : AllBytes s) (n : ℕ) (h : file_bound ≤ n) where
  read_alike : plan_file (take n s) ≡ plan_file s
  read_alike = sym (prefix_decides (take n s) (take_bytes n s f)) ∙ ap plan_file (take-take file_bound n s h) ∙ prefix_decides s f

  pub answer_alike : (room words numbers : ℕ) → file_result (take n s) room words numbers ≡ file_result s room words numbers
  unfolding file_result plan_length
  answer_alike room words numbers = go (plan_file s).answer refl
    where
      go : (a : Answer) → (plan_file s).answer ≡ a → file_result (take n s) room words numbers ≡ file_result s room words numbers
      go (Refused k) e = sym (none (take n s) (plan_file s) (sym read_alike) k e _ refused) ∙ none s (plan_file s) refl k e _ refused
      go Done e =
          let m = file_back s f e in
          let c = counts_small (plan_file s).plan m.passes in
          let l : length s ≤ file_bound = omega (arith, sym (ap length m.bytes) ∙ plan_length_lem (plan_file s).plan (readings_of (readings_part s)), c.0, c.1, (count_is (length (readings_of (readings_part s))) m.counts).1) in
          ap (λ (x : List ℕ). file_result x room words numbers) (take_all n s (omega (arith, l, h)))

-- so the program writes the answer of a file of which it reads as many bytes as its buffer has
pub program_alike : (s : List ℕ) → AllBytes s → program_bytes (take 65536 s) ≡ program_bytes s
unfolding program_bytes
program_alike s f = ap result_bytes (answer_alike s f 65536 (omega arith) 4096 7680 16000)

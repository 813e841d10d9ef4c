-- Reading an answer field by field: what one more field does.
-- Assumes nothing.
use Prim.Native.Nat.{ℕ, zero, suc, ◌+◌, ◌*◌, ◌<◌, ◌≤◌}
use native.Mathlib.Omega.{arith}
use mathlib.Core.Path.{◌≡◌, refl, sym, ◌∙◌, ap}
use mathlib.Core.Bool.{Bool, true, false}
use mathlib.Core.List.{List, ◌++◌}
use lib.ListN.{length, get_or, drop}
use lib.IntN.{ℤ}
use borrow.Author.Tests.{eq-eqb, ne_eqb, le-leb, lt-leb}
use Rattle.fields.specs.Fields.{Body, Wrong, field_at, field_number, part_of, number8}
use Rattle.std.specs.Prelude.{Result, IsErrAnd}
use Rattle.std.proofs.lemmas.Result.{err_from_is_err_and}
use Rattle.plan.specs.declared.reasons.Refusal.{Refusal as Reason}
use Rattle.plan.specs.Refusals.{refusal_number}
use Rattle.answers.specs.declared.AnswerFile.{AnswerFile}
use Rattle.answers.specs.Told.{answer_of}
use Rattle.answers.specs.Runs.{is_refusal}
use Rattle.answers.specs.Reader.{AnswerRead, Runs, Refusal, Unread, body_fits, body_last, runs_from, refusal_read, answer_file, in_room, on_read, read_answer, runs_of, filled}

-- a refusal that the reader passes on by `?`
pub answer_passed : (r : Result AnswerFile Reason) (x : Reason) → IsErrAnd r (λ (y : Reason). y ≡ x) → answer_of r ≡ Unread (refusal_number x)
answer_passed r x h = let p = err_from_is_err_and r h in rw (p.1, p.2)

module _ (s : List ℕ) (cost at prev count : ℕ) where
  pub run_wrong : (k n : ℕ) → 0 < k → field_at s at 6 ≡ Wrong n → runs_from k s cost at prev count ≡ Unread n
  unfolding runs_from
  run_wrong zero n h e = absurd (omega arith)
  run_wrong (suc k) n h e = rw e

  module _ (t st l : ℕ) (e : field_at s at 6 ≡ Body t st l) (b : Bool) (eb : b ≡ body_fits prev (part_of s st l)) where
    pub run_breaks : (k : ℕ) → 0 < k → b ≡ false → runs_from k s cost at prev count ≡ Unread 17
    unfolding runs_from
    run_breaks zero h q = absurd (omega arith)
    run_breaks (suc k) h q = rw (e, ← eb, q)

    pub run_last : (k : ℕ) → 0 < k → b ≡ true → st + l ≡ length s → runs_from k s cost at prev count ≡ Runs cost (count + 1)
    unfolding runs_from
    run_last zero h q z = absurd (omega arith)
    run_last (suc k) h q z = rw (e, ← eb, q, eq-eqb (st + l) (length s) z)

    pub run_on : (k : ℕ) → 0 < k → b ≡ true → (st + l ≡ length s → ⊥) → (j : ℕ) × (k ≡ suc j) × (runs_from k s cost at prev count ≡ runs_from j s cost (st + l) (body_last (part_of s st l)) (count + 1))
    unfolding runs_from
    run_on zero h q z = absurd (omega arith)
    run_on (suc k) h q z = (k, refl, rw (e, ← eb, q, ne_eqb (st + l) (length s) z))

module _ (s : List ℕ) (at : ℕ) (x : List ℕ) where
  pub wrong_length : (length x ≡ 1 → ⊥) → Unread 3 ≡ refusal_read s at x
  unfolding refusal_read
  wrong_length h = rw (ne_eqb (length x) 1 h)

  module _ (h : length x ≡ 1) (b : Bool) (eb : b ≡ is_refusal (get_or x 0 0)) where
    pub no_refusal : b ≡ false → Unread 17 ≡ refusal_read s at x
    unfolding refusal_read
    no_refusal q = rw (eq-eqb (length x) 1 h, ← eb, q)

    pub refusal_ends : b ≡ true → at ≡ length s → Refusal (get_or x 0 0) ≡ refusal_read s at x
    unfolding refusal_read
    refusal_ends q z = rw (eq-eqb (length x) 1 h, ← eb, q, eq-eqb at (length s) z)

    pub refusal_not_last : b ≡ true → (at ≡ length s → ⊥) → Unread (field_number (field_at s at 4)) ≡ refusal_read s at x
    unfolding refusal_read
    refusal_not_last q z = rw (eq-eqb (length x) 1 h, ← eb, q, ne_eqb at (length s) z)

module _ (s : List ℕ) where
  pub head_wrong : (n : ℕ) → field_at s 0 5 ≡ Wrong n → Unread n ≡ answer_file s
  unfolding answer_file
  head_wrong n e = rw e

  module _ (t st l : ℕ) (e : field_at s 0 5 ≡ Body t st l) where
    pub head_cost : t ≡ 129 → runs_from (length s + 1) s (number8 (part_of s st l)) (st + l) 0 0 ≡ answer_file s
    unfolding answer_file
    head_cost q = rw (e, eq-eqb t 129 q)

    pub head_refusal : (t ≡ 129 → ⊥) → refusal_read s (st + l) (part_of s st l) ≡ answer_file s
    unfolding answer_file
    head_refusal q = rw (e, ne_eqb t 129 q)

-- the answer and the list, from what the file holds
module _ (s : List ℕ) (runs : List ℤ) (x : AnswerRead) (e : answer_file s ≡ x) where
  pub read_is : in_room (length runs) x ≡ read_answer s (length runs)
  unfolding read_answer
  read_is = ap (in_room (length runs)) (sym e)

  pub filled_is : on_read s runs (in_room (length runs) x) ≡ filled s runs
  unfolding filled
  filled_is = ap (on_read s runs) read_is

-- a cost with runs, where the list has no room for them and where it has
module _ (s : List ℕ) (runs : List ℤ) (cost count : ℕ) (e : answer_file s ≡ Runs cost count) where
  pub no_room : length runs < 5 * count → (Unread 15 ≡ read_answer s (length runs)) × (runs ≡ filled s runs)
  no_room h =
      let k : in_room (length runs) (Runs cost count) ≡ Unread 15 = rw (lt-leb (5 * count) (length runs) h) in
      (sym k ∙ read_is s runs (Runs cost count) e, sym (ap (on_read s runs) k) ∙ filled_is s runs (Runs cost count) e)

  pub runs_read : 5 * count ≤ length runs → (Runs cost count ≡ read_answer s (length runs)) × (runs_of s count ++ drop (5 * count) runs ≡ filled s runs)
  runs_read h =
      let k : in_room (length runs) (Runs cost count) ≡ Runs cost count = rw (le-leb (5 * count) (length runs) h) in
      (sym k ∙ read_is s runs (Runs cost count) e, sym (ap (on_read s runs) k) ∙ filled_is s runs (Runs cost count) e)

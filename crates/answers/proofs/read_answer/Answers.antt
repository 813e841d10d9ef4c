-- `answers::read_answer` meets its contract. Assumes nothing.
use native.Mathlib.Omega.{arith}
use Prim.Native.Nat.{◌*◌, ◌/◌}
use lib.ListN.{length, take, drop}
use mathlib.Core.List.{◌++◌}
use lib.Seq.{length-take-le}
use mathlib.Core.Path.{◌≡◌, sym, ◌∙◌, ap}
use Rattle.std.specs.Prelude.{ℕ, ℤ, List, ◌≤◌, Ok}
use Rattle.std.proofs.Common.{drop_of_length-le, append-nil}
use Rattle.answers.specs.Reader.{Runs, answer_file, runs_of}
use Rattle.answers.specs.Sizes.{file_long}
use Rattle.answers.specs.Told.{answer_of}
use Rattle.answers.proofs.Walk.{answer_passed, read_is, filled_is, no_room, runs_read}
use Rattle.answers.proofs.read_answer.Goals as goal

pub returns-in_err-file : goal.returns-in_err-file
returns-in_err-file c =
    let e = sym c.in_err-file.ensures in record { answer = answer_passed _ _ c.from_residual.ensures.1 ∙ read_is _ c.args.runs.now _ e; list = filled_is _ c.args.runs.now _ e }

pub returns-then-runs-count : goal.returns-then-runs-count
returns-then-runs-count c =
    let e : answer_file c.args.s.now ≡ Runs c.in-Runs.cost c.in-Runs.count = sym c.in_ok-file.ensures ∙ ap (λ f. answer_of (Ok f)) c.in-Runs.is in
    let n = no_room _ c.args.runs.now _ _ e (omega arith) in record { answer = n.0; list = n.1 }

pub fill_runs-requires : goal.fill_runs-requires
fill_runs-requires c =
    let e : answer_file c.args.s.now ≡ Runs c.in-Runs.cost c.in-Runs.count = sym c.in_ok-file.ensures ∙ ap (λ f. answer_of (Ok f)) c.in-Runs.is in
    let l = file_long _ _ _ e in
    let t = length-take-le (5 * c.in-Runs.count) c.args.runs.now (omega arith) in omega (arith, t, l)

-- the numbers of n runs fill the front that is lent for them
front_filled : (s : List ℕ) (runs new : List ℤ) (n : ℕ) → 5 * n ≤ length runs → new ≡ runs_of s (length (take (5 * n) runs) / 5) ++ drop (5 * (length (take (5 * n) runs) / 5)) (take (5 * n) runs) → new ≡ runs_of s n
front_filled s runs new n h e =
    let t = length-take-le (5 * n) runs h in
    let q : length (take (5 * n) runs) / 5 ≡ n = omega (arith, t) in
    e ∙ ap (λ k. runs_of s k ++ drop (5 * k) (take (5 * n) runs)) q ∙ ap (λ x. runs_of s n ++ x) (drop_of_length-le (take (5 * n) runs) {i = 5 * n} (omega (arith, t))) ∙ append-nil _

pub returns-else-runs-count : goal.returns-else-runs-count
returns-else-runs-count c =
    let e : answer_file c.args.s.now ≡ Runs c.in-Runs.cost c.in-Runs.count = sym c.in_ok-file.ensures ∙ ap (λ f. answer_of (Ok f)) c.in-Runs.is in
    let r = runs_read _ c.args.runs.now _ _ e (omega arith) in
    record { answer = r.0; list = ap (λ x. x ++ drop (5 * c.in-Runs.count) c.args.runs.now) (front_filled _ c.args.runs.now _ _ (omega arith) c.fill_runs.ensures) ∙ r.1 }

pub returns-in_default : goal.returns-in_default
returns-in_default c =
    let k = ap (λ f. answer_of (Ok f)) c.in_default.is in
    let e = sym c.in_ok-file.ensures ∙ k in record { answer = k ∙ read_is _ c.args.runs.now _ e; list = filled_is _ c.args.runs.now _ e }

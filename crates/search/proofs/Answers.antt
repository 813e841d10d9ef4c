-- The answers, case by case. Assumes nothing.
use mathlib.Core.Path.{◌≡◌, refl, sym, ◌∙◌, ap}
use mathlib.Core.List.{List, ◌++◌}
use mathlib.Core.Bool.{Bool, true, false}
use Prim.Native.Nat.{ℕ, ◌*◌, ◌≤◌, ◌<◌}
use native.Mathlib.Omega.{arith}
use lib.IntN.{ℤ}
use lib.ListN.{length, drop, replicate}
use borrow.Author.Tests.{ne_eqb}
use mathlib.Core.Logic.{inr}
use Rattle.plan.specs.declared.Plan.{Plan}
use Rattle.model.specs.Refusals.{search_number}
use Rattle.model.proofs.Checked.{search_not_16}
use Rattle.model.specs.Result.{Result, refused, whole, result_of}
use Rattle.saved.specs.Packed.{Inside}
use Rattle.saved.specs.Walk.{limit}
use Rattle.search.specs.Told.{Found}
use Rattle.search.specs.Told.{Refused}
use Rattle.search.specs.Search.{work_words, search_result, found_of, runs_after, words_left, words_after, looked}
use Rattle.search.specs.Right.{search_early, search_short, search_narrow, search_looks}
use Rattle.search.specs.Solve.{Solved}
use Rattle.search.proofs.Zeros.{same_drop}

-- a refusal before a call looks leaves the words as they were
pub left_untouched : (n : ℕ) (l : Bool) (ws : List ℕ) → l ≡ false → ws ≡ words_left n l ws
unfolding words_left
left_untouched n l ws h = rw h refl

-- what is cleared once it has looked
pub left_cleared : (n : ℕ) (l : Bool) (ws ws' : List ℕ) → l ≡ true → Inside 0 n ws ws' → replicate n 0 ++ drop n ws' ≡ words_left n l ws
unfolding words_left
left_cleared n l ws ws' h i = rw h (ap (λ (x : List ℕ). replicate n 0 ++ x) (same_drop n ws ws' i.size (λ k q. i.word k (inr q))))

pub untouched : (P : Plan) (r : Result) (n : ℕ) (ws : List ℕ) → r ≡ refused n → (n ≡ 16 → ⊥) → ws ≡ words_after P r ws
unfolding words_after
untouched P r n ws e h = left_untouched (work_words P) (looked r) ws (ap looked e ∙ ne_eqb n 16 h)

pub cleared_is : (P : Plan) (r : Result) (ws ws' : List ℕ) → looked r ≡ true → Inside 0 (limit P) ws ws' → replicate (work_words P) 0 ++ drop (work_words P) ws' ≡ words_after P r ws
unfolding words_after work_words
cleared_is P r ws ws' h i = left_cleared (limit P) (looked r) ws ws' h i

-- ---- the contract of a search, at each of its ends

abbrev pub Answered : Plan → List ℤ → Found → List ℕ → List ℕ → List ℤ → List ℤ → Type 0
Answered P zs r ws ws' out out' =
    (r ≡ found_of (search_result P zs (length ws) (length out))) × ((out' ≡ runs_after (search_result P zs (length ws) (length out)) out) × (ws' ≡ words_after P (search_result P zs (length ws) (length out)) ws))

module _ (P : Plan) (zs : List ℤ) (ws : List ℕ) (out : List ℤ) where
  refusal : (n : ℕ) → search_result P zs (length ws) (length out) ≡ refused n → (n ≡ 16 → ⊥) → Answered P zs (Refused n) ws ws out out
  refusal n e h = (ap found_of (sym e), (ap (λ (r : Result). runs_after r out) (sym e), untouched P _ n ws e h))

  pub answered_early : (n : ℕ) → n ≡ search_number P (length zs) → (n ≡ 0 → ⊥) → Answered P zs (Refused n) ws ws out out
  answered_early n e h = refusal n (search_early P zs (length ws) (length out) n e h) (λ q. search_not_16 P (length zs) (sym e ∙ q))

  module _ (n : ℕ) (e : n ≡ search_number P (length zs)) (z : n ≡ 0) (need : ℕ) (en : need ≡ work_words P) where
    accepts : search_number P (length zs) ≡ 0
    accepts = sym e ∙ z

    pub answered_short : length ws < need → Answered P zs (Refused 14) ws ws out out
    answered_short h = refusal 14 (search_short P zs (length ws) (length out) accepts (omega arith)) (λ q. omega (arith, q))

    pub answered_narrow : need ≤ length ws → length out < 5 * length zs → Answered P zs (Refused 15) ws ws out out
    answered_narrow h k = refusal 15 (search_narrow P zs (length ws) (length out) accepts (omega arith) k) (λ q. omega (arith, q))

    pub answered : need ≤ length ws → 5 * length zs ≤ length out → {r : Found} {ws' ws'' : List ℕ} {out' : List ℤ} → Solved P zs r ws ws' out out' → ws'' ≡ replicate need 0 ++ drop need ws' → Answered P zs r ws ws'' out out'
    answered h k {r} {ws'} {ws''} {out'} s c =
        let q = search_looks P zs (length ws) (length out) accepts (omega arith) k in (
          s.answer ∙ ap found_of (sym q),
          (
            s.runs ∙ ap (λ (x : Result). runs_after x out) (sym q),
            c ∙ ap (λ (x : ℕ). replicate x 0 ++ drop x ws') en ∙ cleared_is P (result_of P zs whole) ws ws' s.looks s.inside ∙ ap (λ (x : Result). words_after P x ws) (sym q),
          ),
        )

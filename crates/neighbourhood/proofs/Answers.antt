-- The answers of the costs for each number of changes, case by case. Assumes nothing.
use mathlib.Core.Path.{◌≡◌, sym, ◌∙◌, ap}
use mathlib.Core.List.{List, ◌++◌}
use Prim.Native.Nat.{ℕ, suc, ◌+◌, ◌*◌, ◌≤◌, ◌<◌}
use native.Mathlib.Omega.{arith}
use lib.IntN.{ℤ, pos}
use lib.ListN.{length, get_or, drop, replicate}
use lib.Signed.{mag}
use Rattle.plan.specs.declared.Plan.{Plan}
use Rattle.model.specs.Refusals.{search_number, table_number}
use Rattle.model.specs.Checked.{Checked}
use Rattle.model.proofs.Checked.{accepted, accepted_table, table_not_16}
use Rattle.model.proofs.Tables.{ready_search}
use Rattle.model.specs.Neighbourhood.{table_of}
use Rattle.layer.specs.declared.Shape.{Shape}
use Rattle.layer.specs.Layer.{ShapeOf}
use Rattle.saved.specs.Walk.{limit_cell}
use Rattle.search.specs.ToldCosts.{Filled}
use Rattle.search.specs.ToldCosts.{Refused}
use Rattle.search.specs.Search.{work_words}
use Rattle.search.specs.Costs.{filled_of, costs_after}
use Rattle.search.proofs.Solves.{need_is, task_of}
use Rattle.search.proofs.Fillings.{filling_early, filling_short, filling_narrow, filling_done}
use Rattle.neighbourhood.specs.Neighbourhood.{table_words, table_result, table_words_after}
use Rattle.neighbourhood.specs.Slots.{table_limit}
use Rattle.neighbourhood.specs.Fill.{Fillable, FilledTo}

-- where no number refuses
module _ (P : Plan) (l most : ℕ) {n : ℕ} (e : n ≡ table_number P l most) (z : n ≡ 0) where
  pub accepts : (search_number P l ≡ 0) × (most ≤ 32)
  accepts = accepted_table P l most (sym e ∙ z)

  pub checked_of : Checked P
  checked_of = (accepted P l accepts.0).plan

-- ---- the contract, at each of its ends

abbrev pub Answered : Plan → List ℤ → ℕ → Filled → List ℕ → List ℕ → List ℕ → List ℕ → Type 0
Answered P zs most r ws ws' out out' =
    (r ≡ filled_of (table_result P zs most (length ws) (length out))) × ((out' ≡ costs_after (table_result P zs most (length ws) (length out)) out) × (ws' ≡ table_words_after P most (table_result P zs most (length ws) (length out)) ws))

module _ (P : Plan) (zs : List ℤ) (most : ℕ) (ws out : List ℕ) {n : ℕ} (e : n ≡ table_number P (length zs) most) where
  pub answered_early : (n ≡ 0 → ⊥) → Answered P zs most (Refused n) ws ws out out
  unfolding table_result table_words_after
  answered_early h = filling_early (table_number P (length zs) most) (table_words P most) (suc most) (table_of P zs most) (table_not_16 P (length zs) most) ws out n e h

  module _ (z : n ≡ 0) {g : Shape} (s : ShapeOf P g × ((mag P.lo < 32768) × (mag P.hi < 32768))) {words need : ℕ} (q : words ≡ limit_cell * (g.states * g.grid.levels)) (k : need ≡ words * (most + 1)) where
    words_are : need ≡ table_words P most
    unfolding table_words
    words_are = k ∙ ap (λ (x : ℕ). x * (most + 1)) (need_is (checked_of P (length zs) most e z) s.0 words q)

    pub answered_short : length ws < need → Answered P zs most (Refused 14) ws ws out out
    unfolding table_result table_words_after
    answered_short h = filling_short (table_number P (length zs) most) (table_words P most) (suc most) (table_of P zs most) (table_not_16 P (length zs) most) ws out (sym e ∙ z) (omega (arith, words_are))

    module _ (h : need ≤ length ws) where
      pub answered_narrow : length out < most + 1 → Answered P zs most (Refused 15) ws ws out out
      unfolding table_result table_words_after
      answered_narrow l =
          filling_narrow (table_number P (length zs) most) (table_words P most) (suc most) (table_of P zs most) (table_not_16 P (length zs) most) ws out (sym e ∙ z) (omega (arith, words_are)) (omega arith)

      module _ (l : most + 1 ≤ length out) where
        pub fillable : ((t : ℕ) → mag (get_or zs t (pos 0)) < 32768) → Fillable P zs most g ws out
        unfolding work_words table_words
        fillable r =
            let (a, f) = accepts P (length zs) most e z in
            record {
              ground = record { accepts = a; task = task_of (ready_search P zs s.1.0 s.1.1 r a) s.0; few = f; room = omega (arith, words_are) };
              room = omega arith;
            }

        pub answered : {r : Filled} {ws' ws'' out' : List ℕ} → FilledTo P zs most r ws ws' out out' → ws'' ≡ replicate need 0 ++ drop need ws' → Answered P zs most r ws ws'' out out'
        unfolding table_result table_words_after table_words work_words
        answered {r} {ws'} f c =
            filling_done (table_number P (length zs) most) (table_limit P most) (suc most) (table_of P zs most) (table_not_16 P (length zs) most) ws out (sym e ∙ z) (omega (arith, words_are)) (omega arith) f
            (c ∙ ap (λ (x : ℕ). replicate x 0 ++ drop x ws') words_are)

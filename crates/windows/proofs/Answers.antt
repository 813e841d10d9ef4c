-- The answers of a moving window, case by case. Assumes nothing.
use mathlib.Core.Path.{◌≡◌, sym, ◌∙◌, ap}
use mathlib.Core.List.{List, ◌++◌}
use Prim.Native.Nat.{ℕ, ◌*◌, ◌≤◌, ◌<◌}
use native.Mathlib.Omega.{arith}
use lib.IntN.{ℤ, pos}
use lib.ListN.{length, get_or, drop, replicate}
use lib.Signed.{mag}
use Rattle.plan.specs.declared.Plan.{Plan}
use Rattle.model.specs.Refusals.{window_number}
use Rattle.model.specs.Checked.{AcceptedWindow}
use Rattle.model.proofs.Checked.{accepted_window, window_not_16}
use Rattle.model.specs.Window.{starts, windows_of}
use Rattle.layer.specs.declared.Shape.{Shape}
use Rattle.layer.specs.Layer.{ShapeOf}
use Rattle.saved.specs.Walk.{limit_cell, limit}
use Rattle.search.specs.ToldCosts.{Filled}
use Rattle.search.specs.ToldCosts.{Refused}
use Rattle.search.specs.Search.{work_words}
use Rattle.search.specs.Costs.{filled_of, costs_after}
use Rattle.search.proofs.Solves.{need_is}
use Rattle.search.proofs.Fillings.{filling_early, filling_short, filling_narrow, filling_done}
use Rattle.windows.specs.Windows.{window_result, window_words}
use Rattle.windows.specs.Fill.{Fillable, FilledTo}

-- where no number refuses
pub accepts : (P : Plan) (l w : ℕ) {n : ℕ} → n ≡ window_number P l w → n ≡ 0 → AcceptedWindow P l w
accepts P l w e z = accepted_window P l w (sym e ∙ z)

-- ---- the contract of a moving window, at each of its ends

abbrev pub Answered : Plan → List ℤ → ℕ → Filled → List ℕ → List ℕ → List ℕ → List ℕ → Type 0
Answered P zs w r ws ws' out out' =
    (r ≡ filled_of (window_result P zs w (length ws) (length out))) × ((out' ≡ costs_after (window_result P zs w (length ws) (length out)) out) × (ws' ≡ window_words P (window_result P zs w (length ws) (length out)) ws))

module _ (P : Plan) (zs : List ℤ) (w : ℕ) (ws out : List ℕ) {n : ℕ} (e : n ≡ window_number P (length zs) w) where
  pub answered_early : (n ≡ 0 → ⊥) → Answered P zs w (Refused n) ws ws out out
  unfolding window_result window_words
  answered_early h = filling_early (window_number P (length zs) w) (work_words P) (starts (length zs) w) (windows_of P zs w) (window_not_16 P (length zs) w) ws out n e h

  module _ (z : n ≡ 0) {g : Shape} (s : ShapeOf P g × ((mag P.lo < 32768) × (mag P.hi < 32768))) {need : ℕ} (q : need ≡ limit_cell * (g.states * g.grid.levels)) where
    words_are : need ≡ work_words P
    words_are = need_is (accepts P (length zs) w e z).plan s.0 need q

    pub answered_short : length ws < need → Answered P zs w (Refused 14) ws ws out out
    unfolding window_result window_words
    answered_short h = filling_short (window_number P (length zs) w) (work_words P) (starts (length zs) w) (windows_of P zs w) (window_not_16 P (length zs) w) ws out (sym e ∙ z) (omega (arith, words_are))

    module _ (h : need ≤ length ws) where
      pub answered_narrow : length out < starts (length zs) w → Answered P zs w (Refused 15) ws ws out out
      unfolding window_result window_words
      answered_narrow k = filling_narrow (window_number P (length zs) w) (work_words P) (starts (length zs) w) (windows_of P zs w) (window_not_16 P (length zs) w) ws out (sym e ∙ z) (omega (arith, words_are)) k

      module _ (k : starts (length zs) w ≤ length out) where
        pub fillable : ((t : ℕ) → mag (get_or zs t (pos 0)) < 32768) → Fillable P zs w g ws out
        unfolding work_words
        fillable r = record { accepts = accepts P (length zs) w e z; shape = s.0; low = s.1.0; high = s.1.1; fits = r; words = omega (arith, words_are); room = k }

        pub answered : {r : Filled} {ws' ws'' out' : List ℕ} → FilledTo P zs w r ws ws' out out' → ws'' ≡ replicate need 0 ++ drop need ws' → Answered P zs w r ws ws'' out out'
        unfolding window_result window_words work_words
        answered {r} {ws'} f c =
            filling_done (window_number P (length zs) w) (limit P) (starts (length zs) w) (windows_of P zs w) (window_not_16 P (length zs) w) ws out (sym e ∙ z) (omega (arith, words_are)) k f
            (c ∙ ap (λ (x : ℕ). replicate x 0 ++ drop x ws') words_are)

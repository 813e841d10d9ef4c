-- The answers of a call that fills a list with costs, case by case: the earlier number, the words that it needs, how many costs it gives and the model's
-- result are the call's own. Assumes nothing.
use mathlib.Core.Path.{◌≡◌, sym, ◌∙◌, ap}
use mathlib.Core.List.{List, ◌++◌}
use Prim.Native.Nat.{ℕ, ◌≤◌, ◌<◌}
use native.Mathlib.Omega.{arith}
use lib.ListN.{length, drop, replicate}
use borrow.Author.Tests.{ne_eqb}
use Rattle.model.specs.Result.{Costs, no_costs}
use Rattle.search.specs.ToldCosts.{Filled}
use Rattle.search.specs.ToldCosts.{Refused}
use Rattle.search.specs.Lent.{lent, lent_early, lent_short, lent_narrow, lent_looks}
use Rattle.search.specs.Search.{words_left}
use Rattle.search.specs.Costs.{filled_of, costs_after, costs_looked, FilledBy}
use Rattle.search.proofs.Answers.{left_untouched, left_cleared}

-- the result is r, the list out' and the words ws' are left
abbrev pub Filling : Costs → ℕ → Filled → List ℕ → List ℕ → List ℕ → List ℕ → Type 0
Filling c need r ws ws' out out' = (r ≡ filled_of c) × ((out' ≡ costs_after c out) × (ws' ≡ words_left need (costs_looked c) ws))

module _ (number need least : ℕ) (model : Costs) (not_16 : number ≡ 16 → ⊥) (ws out : List ℕ) where
  abbrev pub lent_costs : Costs
  lent_costs = lent no_costs number (length ws) need (length out) least model

  refusal : (n : ℕ) → lent_costs ≡ no_costs n → (n ≡ 16 → ⊥) → Filling lent_costs need (Refused n) ws ws out out
  refusal n e h = (ap filled_of (sym e), (ap (λ (c : Costs). costs_after c out) (sym e), left_untouched need (costs_looked lent_costs) ws (ap costs_looked e ∙ ne_eqb n 16 h)))

  pub filling_early : (n : ℕ) → n ≡ number → (n ≡ 0 → ⊥) → Filling lent_costs need (Refused n) ws ws out out
  filling_early n e h = refusal n (lent_early no_costs number (length ws) need (length out) least model n e h) (λ q. not_16 (sym e ∙ q))

  module _ (z : number ≡ 0) where
    pub filling_short : length ws < need → Filling lent_costs need (Refused 14) ws ws out out
    filling_short h = refusal 14 (lent_short no_costs number (length ws) need (length out) least model z h) (λ q. omega (arith, q))

    module _ (h : need ≤ length ws) where
      pub filling_narrow : length out < least → Filling lent_costs need (Refused 15) ws ws out out
      filling_narrow k = refusal 15 (lent_narrow no_costs number (length ws) need (length out) least model z h k) (λ q. omega (arith, q))

      pub filling_done : {r : Filled} {ws' ws'' out' : List ℕ} → least ≤ length out → FilledBy model need r ws ws' out out' → ws'' ≡ replicate need 0 ++ drop need ws' → Filling lent_costs need r ws ws'' out out'
      filling_done {r} {ws'} k f c =
          let q = lent_looks no_costs number (length ws) need (length out) least model z h k in (
            f.answer ∙ ap filled_of (sym q),
            (
              f.list ∙ ap (λ (x : Costs). costs_after x out) (sym q),
              c ∙ left_cleared need (costs_looked model) ws ws' f.looks f.inside ∙ ap (λ (x : Costs). words_left need (costs_looked x) ws) (sym q),
            ),
          )

-- What a moving window answers: ticket 1 of the change requests (02), whose sentences are quoted, as one claim with one proof (`Right`, `right`). The
-- result is that of the call's promise, so that what is lent counts by its length alone, whatever it held before. Assumes nothing.
use Rattle.std.specs.Prelude.{◌≡◌, ◌⊎◌, ◌↔◌, List, true, ℕ, suc, ◌+◌, ◌-◌, ◌*◌, ◌≤◌, ◌<◌, ℤ, length, get_or, take, drop}
use Rattle.std.proofs.Math.Path.{refl, ap}
use Rattle.std.proofs.Common.{sym, ◌∙◌, inl, inr, ⊎_elim, arith}
use Rattle.plan.specs.declared.Plan.{Plan}
use Rattle.model.specs.Segmentation.{Seg}
use Rattle.model.specs.Model.{cost, First}
use Rattle.model.specs.Refusals.{window_number}
use Rattle.model.specs.Checked.{AcceptedWindow}
use Rattle.model.proofs.Checked.{accepted_window, window_not_16}
use Rattle.model.specs.Result.{found, refused, whole, result_of, Costs, cost_list, no_costs}
use Rattle.model.specs.Demand3.{NoneAllowed}
use Rattle.model.proofs.Demand3.{demand3}
use Rattle.model.specs.Window.{part_at, starts, windows_of, costs_to}
use Rattle.model.specs.WindowLaws.{Each}
use Rattle.model.proofs.WindowLaws.{part_length, costs_each, costs_refused, at_none, costs_else}
use Rattle.search.specs.Lent.{lent_early, lent_short, lent_narrow, lent_looks, lent_found}
use Rattle.search.specs.Search.{work_words, search_result}
use Rattle.search.specs.Right.{search_looks}
use Rattle.search.specs.Costs.{costs_looked}
use Rattle.windows.specs.Windows.{window_result}

-- ---- the claim

-- no earlier refusal applies, to a record of n readings
abbrev pub WindowAccepts : Plan → ℕ → ℕ → ℕ → ℕ → Type 0
WindowAccepts P n w words room = (window_number P n w ≡ 0) × (work_words P ≤ words) × (starts n w ≤ room)

pub record Right (P : Plan) (zs : List ℤ) (w words room : ℕ) : Type 0 where
  -- a part has w readings, and there is a cost for each part
  pub part : window_number P (length zs) w ≡ 0 → (a : ℕ) → a < starts (length zs) w → length (take w (drop a zs)) ≡ w
  pub size : (cs : List ℕ) → window_result P zs w words room ≡ cost_list cs → length cs ≡ starts (length zs) w
  -- "Each cost is that of a search over the part alone": with the same words, and room for the runs
  pub each : (cs : List ℕ) → window_result P zs w words room ≡ cost_list cs → (a : ℕ) → a < starts (length zs) w → (numbers : ℕ) → 5 * w ≤ numbers
      → (ns : List ℤ) × (search_result P (take w (drop a zs)) words numbers ≡ found (get_or cs a 0) ns)
  -- "the least cost of every stretch of w readings": of the segmentation of the part that comes first among the cheapest allowed ones
  pub first : (cs : List ℕ) → window_result P zs w words room ≡ cost_list cs → (a : ℕ) → a < starts (length zs) w
      → (g : Seg) × First P (take w (drop a zs)) g × (cost P (take w (drop a zs)) g ≡ get_or cs a 0)
  -- "16 speaks of the parts: without labels, all of them have an allowed segmentation or none has."
  pub alike : window_number P (length zs) w ≡ 0 → (a b : ℕ) → a < starts (length zs) w → b < starts (length zs) w → NoneAllowed P (length (take w (drop a zs))) → NoneAllowed P (length (take w (drop b zs)))
  pub none : (window_result P zs w words room ≡ no_costs 16) ↔ (WindowAccepts P (length zs) w words room × NoneAllowed P w)
  -- and then a search over any part gives it too
  pub each_none : window_result P zs w words room ≡ no_costs 16 → (a : ℕ) → a < starts (length zs) w → (numbers : ℕ) → 5 * w ≤ numbers → search_result P (take w (drop a zs)) words numbers ≡ refused 16
  -- Where no earlier refusal applies, no other number is given: there is a cost for each part, or 16.
  pub else : WindowAccepts P (length zs) w words room → ((cs : List ℕ) × (window_result P zs w words room ≡ cost_list cs)) ⊎ (window_result P zs w words room ≡ no_costs 16)

-- ---- which case applies

module _ (P : Plan) (zs : List ℤ) (w words room : ℕ) where
  pub window_early : (n : ℕ) → n ≡ window_number P (length zs) w → (n ≡ 0 → ⊥) → window_result P zs w words room ≡ no_costs n
  unfolding window_result
  window_early = lent_early no_costs (window_number P (length zs) w) words (work_words P) room (starts (length zs) w) (windows_of P zs w)

  module _ (accepts : window_number P (length zs) w ≡ 0) where
    pub window_short : words < work_words P → window_result P zs w words room ≡ no_costs 14
    unfolding window_result
    window_short = lent_short no_costs (window_number P (length zs) w) words (work_words P) room (starts (length zs) w) (windows_of P zs w) accepts

    pub window_narrow : work_words P ≤ words → room < starts (length zs) w → window_result P zs w words room ≡ no_costs 15
    unfolding window_result
    window_narrow = lent_narrow no_costs (window_number P (length zs) w) words (work_words P) room (starts (length zs) w) (windows_of P zs w) accepts

    pub window_looks : work_words P ≤ words → starts (length zs) w ≤ room → window_result P zs w words room ≡ windows_of P zs w
    unfolding window_result
    window_looks = lent_looks no_costs (window_number P (length zs) w) words (work_words P) room (starts (length zs) w) (windows_of P zs w) accepts

  -- costs, and 16, are the model's, and no earlier refusal applies
  window_model : (r : Costs) → costs_looked r ≡ true → window_result P zs w words room ≡ r → WindowAccepts P (length zs) w words room × (windows_of P zs w ≡ r)
  unfolding window_result
  window_model = lent_found no_costs (window_number P (length zs) w) words (work_words P) room (starts (length zs) w) (windows_of P zs w) costs_looked (λ k. refl) (window_not_16 P (length zs) w)

  -- ---- the proof

  module _ (h : window_number P (length zs) w ≡ 0) where
    A : AcceptedWindow P (length zs) w
    A = accepted_window P (length zs) w h

    within : (a : ℕ) → a < starts (length zs) w → a + w ≤ length zs
    within a k = omega (arith, A.inside)

    some_start : starts (length zs) w ≡ suc (length zs - w)
    some_start = omega (arith, A.inside)

    by_parts : ((cs : List ℕ) × (windows_of P zs w ≡ cost_list cs)) ⊎ ((windows_of P zs w ≡ no_costs 16) × NoneAllowed P w)
    unfolding windows_of
    by_parts = costs_else P zs w A.part (starts (length zs) w) (omega (arith, A.inside))

    none_of : windows_of P zs w ≡ no_costs 16 → NoneAllowed P w
    none_of e = ⊎_elim (λ q. clash q.0 (sym e ∙ q.1)) (λ q. q.1) by_parts
      where
        clash : (cs : List ℕ) → no_costs 16 ≡ cost_list cs → NoneAllowed P w
        clash cs q = let z : ◌≡◌ {A = ℕ} 0 1 = cc in absurd (omega arith)

    of_none : NoneAllowed P w → windows_of P zs w ≡ no_costs 16
    unfolding windows_of
    of_none never = ap (costs_to P zs w) some_start ∙ costs_refused P zs w 16 (at_none P zs w A.part 0 (omega (arith, A.inside)) never) (length zs - w)

  all_of : (cs : List ℕ) → window_result P zs w words room ≡ cost_list cs → WindowAccepts P (length zs) w words room × Each P zs w (starts (length zs) w) cs
  unfolding windows_of
  all_of cs e = let q = window_model (cost_list cs) refl e in (q.0, costs_each P zs w (starts (length zs) w) cs q.1)

  search_of : window_number P (length zs) w ≡ 0 → work_words P ≤ words → (a : ℕ) → a < starts (length zs) w → (numbers : ℕ) → 5 * w ≤ numbers → search_result P (part_at zs w a) words numbers ≡ result_of P (part_at zs w a) whole
  search_of h k a l numbers r =
      let e = part_length zs w a (within h a l) in
      search_looks P (part_at zs w a) words numbers (rw e (A h).part) k (omega (arith, e))

  pub right : Right P zs w words room
  right = record {
    part = λ h a k. part_length zs w a (within h a k);
    size = λ cs e. (all_of cs e).1.size;
    each = λ cs e a k numbers r.
        let (q, m) = all_of cs e in
        let (ns, f) = m.cost a k in
        (ns, search_of q.0 q.1 a k numbers r ∙ f);
    first = λ cs e a k.
        let (q, m) = all_of cs e in
        let (ns, f) = m.cost a k in
        let (g, x, y, _) = (demand3 P (part_at zs w a)).whole_found (get_or cs a 0) ns f in
        (g, x, y);
    alike = λ h a b k l never. rw (part_length zs w b (within h b l)) (rw (part_length zs w a (within h a k)) at never);
    none = (
      λ e. let q = window_model (no_costs 16) refl e in (q.0, none_of q.0.0 q.1),
      λ q. window_looks q.0.0 q.0.1 q.0.2 ∙ of_none q.0.0 q.1,
    );
    each_none = λ e a k numbers r.
        let (q, m) = window_model (no_costs 16) refl e in
        search_of q.0 q.1 a k numbers r ∙ at_none P zs w (A q.0).part a (within q.0 a k) (none_of q.0 m);
    else = λ q. ⊎_elim (λ r. inl (r.0, looks q ∙ r.1)) (λ r. inr (looks q ∙ r.0)) (by_parts q.0);
  }
    where
      looks : WindowAccepts P (length zs) w words room → window_result P zs w words room ≡ windows_of P zs w
      looks q = window_looks q.0 q.1 q.2

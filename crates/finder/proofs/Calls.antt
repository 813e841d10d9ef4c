-- The exported calls, case by case: the file has no plan, or the call goes on with its plan. Assumes nothing.
use mathlib.Core.Path.{◌≡◌, refl, sym, ◌∙◌, ap}
use mathlib.Core.List.{List}
use Prim.Native.Nat.{ℕ, ◌/◌}
use lib.Dec.{eqb}
use lib.IntN.{ℤ}
use lib.ListN.{length}
use borrow.Author.Tests.{eq-eqb, ne_eqb}
use Rattle.plan.specs.declared.Plan.{Plan}
use Rattle.integers.specs.Pick.{pick}
use Rattle.plan.specs.Build.{Answer}
use Rattle.plan.specs.Build.{Done, Refused}
use Rattle.model.specs.Result.{Result, found, refused, Costs, cost_list, no_costs}
use Rattle.search.specs.Told.{Found}
use Rattle.search.specs.Told.{Cost}
use Rattle.search.specs.Search.{search_result, point_result, found_of, cost_of, runs_after, words_after}
use Rattle.search.specs.ToldCosts.{Filled}
use Rattle.search.specs.Costs.{filled_of, costs_after}
use Rattle.windows.specs.Windows.{window_result, window_words}
use Rattle.neighbourhood.specs.Neighbourhood.{table_result, table_words_after}
use Rattle.readings.specs.Codec.{decode_number, decoded}
use Rattle.fields.specs.Fields.{part_of}
use Rattle.fields.specs.Put.{Written}
use Rattle.files.specs.Reader.{FileRead}
use Rattle.files.specs.Reader.{plan_file, refused_file, readings_part}
use Rattle.std.specs.Prelude as Std
use Rattle.std.specs.Prelude.{Ok, Err}
use Rattle.plan.specs.declared.reasons.Refusal.{Refusal}
use Rattle.search.specs.ToldCosts.{filled_told}
use Rattle.fields.specs.Put.{written_of}
use Rattle.files.specs.Writer.{plan_written, after_writing}
use Rattle.finder.specs.declared.Outcome.{Outcome}
use Rattle.finder.specs.Finder.{given, refused_with, search_outcome, point_outcome, written_outcome, costs_outcome, on_plan, search_file, point_file, file_words, file_costs, file_left, window_file, window_file_words, table_file, table_file_words, readings_number, read_outcome, file_readings, rewritten, after_rewriting}
use Rattle.finder.specs.Parts.{counted_outcome, found_outcome, cost_outcome, filled_outcome}

found_outcome_lem : (r : Result) → found_outcome (found_of r) ≡ search_outcome r
found_outcome_lem (found c ns) = refl
found_outcome_lem (refused n) = refl

cost_outcome_lem : (r : Result) → cost_outcome (cost_of r) ≡ point_outcome r
cost_outcome_lem (found c ns) = refl
cost_outcome_lem (refused n) = refl

filled_outcome_lem : (r : Costs) → filled_outcome (filled_of r) ≡ costs_outcome r
filled_outcome_lem (cost_list cs) = refl
filled_outcome_lem (no_costs n) = refl

-- what the code counts is what the contracts say of bytes and of costs
pub counted_written : (r : Std.Result ℕ Refusal) → counted_outcome r ≡ written_outcome (written_of r)
counted_written (Ok n) = refl
counted_written (Err x) = refl

pub counted_filled : (r : Std.Result ℕ Refusal) → counted_outcome r ≡ filled_outcome (filled_told r)
counted_filled (Ok n) = refl
counted_filled (Err x) = refl

-- a refused file answers its refusal
pub refused_answer : (n : ℕ) → (refused_file n).answer ≡ Refused n
unfolding refused_file
refused_answer n = refl

module _ (s : List ℕ) (r : FileRead) (e : r ≡ plan_file s) where
  -- the file has no plan
  module _ (n : ℕ) (h : r.answer ≡ Refused n) where
    pub none : {A : Type 0} (x : A) (f : ℕ → A) → f n ≡ on_plan (plan_file s).answer x f
    none x f = ap (λ (a : Answer). on_plan a x f) (sym h ∙ ap (λ (q : FileRead). q.answer) e)

    pub search_none : (zs : List ℤ) (ws : List ℕ) (runs : List ℤ)
        → (refused_with n ≡ search_outcome (search_file s zs (length ws) (length runs))) × ((runs ≡ runs_after (search_file s zs (length ws) (length runs)) runs) × (ws ≡ file_words s (search_file s zs (length ws) (length runs)) ws))
    unfolding search_file file_words
    search_none zs ws runs = let q : refused n ≡ search_file s zs (length ws) (length runs) = none _ refused in (ap search_outcome q, (ap (λ (x : Result). runs_after x runs) q, none _ (λ k. ws)))

    pub point_none : (zs : List ℤ) (st : ℕ) (m : ℤ) (ws : List ℕ) → (refused_with n ≡ point_outcome (point_file s zs st m (length ws))) × (ws ≡ file_words s (point_file s zs st m (length ws)) ws)
    unfolding point_file file_words
    point_none zs st m ws = let q : refused n ≡ point_file s zs st m (length ws) = none _ refused in (ap point_outcome q, none _ (λ k. ws))

    -- costs by a call's result, with what it leaves of the words
    costs_none : (result : Plan → Costs) (left : Plan → Costs → List ℕ → List ℕ) (ws out : List ℕ)
        → (refused_with n ≡ costs_outcome (file_costs s result)) × ((out ≡ costs_after (file_costs s result) out) × (ws ≡ file_left s (λ P. left P (file_costs s result) ws) ws))
    costs_none result left ws out = let q : no_costs n ≡ file_costs s result = none _ no_costs in (ap costs_outcome q, (ap (λ (x : Costs). costs_after x out) q, none _ (λ k. ws)))

    pub window_none : (zs : List ℤ) (w : ℕ) (ws out : List ℕ)
        → (refused_with n ≡ costs_outcome (window_file s zs w (length ws) (length out))) × ((out ≡ costs_after (window_file s zs w (length ws) (length out)) out) × (ws ≡ window_file_words s (window_file s zs w (length ws) (length out)) ws))
    unfolding window_file window_file_words
    window_none zs w ws out = costs_none (λ P. window_result P zs w (length ws) (length out)) window_words ws out

    pub table_none : (zs : List ℤ) (most : ℕ) (ws out : List ℕ)
        → (refused_with n ≡ costs_outcome (table_file s zs most (length ws) (length out))) × ((out ≡ costs_after (table_file s zs most (length ws) (length out)) out) × (ws ≡ table_file_words s most (table_file s zs most (length ws) (length out)) ws))
    unfolding table_file table_file_words
    table_none zs most ws out = costs_none (λ P. table_result P zs most (length ws) (length out)) (λ P. table_words_after P most) ws out

    pub read_none : (out : List ℤ) → (refused_with n ≡ read_outcome s (length out)) × (out ≡ file_readings s out)
    unfolding read_outcome file_readings
    read_none out = (none _ refused_with, none _ (λ k. out))

    pub write_none : (zs : List ℤ) (out : List ℕ) → (refused_with n ≡ rewritten s (length zs) (length out)) × (out ≡ after_rewriting s zs out)
    unfolding rewritten after_rewriting
    write_none zs out = (none _ refused_with, none _ (λ k. out))

  -- it has one
  module _ (h : r.answer ≡ Done) where
    pub some : {A : Type 0} (x : A) (f : ℕ → A) → x ≡ on_plan (plan_file s).answer x f
    some x f = ap (λ (a : Answer). on_plan a x f) (sym h ∙ ap (λ (q : FileRead). q.answer) e)

    pub search_some : (zs : List ℤ) (ws ws' : List ℕ) (runs runs' : List ℤ) (f : Found) (o : Outcome) → o ≡ found_outcome f
        → (f ≡ found_of (search_result r.plan zs (length ws) (length runs))) × ((runs' ≡ runs_after (search_result r.plan zs (length ws) (length runs)) runs) × (ws' ≡ words_after r.plan (search_result r.plan zs (length ws) (length runs)) ws))
        → (o ≡ search_outcome (search_file s zs (length ws) (length runs))) × ((runs' ≡ runs_after (search_file s zs (length ws) (length runs)) runs) × (ws' ≡ file_words s (search_file s zs (length ws) (length runs)) ws))
    unfolding search_file file_words
    search_some zs ws ws' runs runs' f o k (a, (b, c)) =
        let q : search_result r.plan zs (length ws) (length runs) ≡ search_file s zs (length ws) (length runs) = ap (λ (x : FileRead). search_result x.plan zs (length ws) (length runs)) e ∙ some _ refused in (
          k ∙ ap found_outcome a ∙ found_outcome_lem (search_result r.plan zs (length ws) (length runs)) ∙ ap search_outcome q,
          (
            b ∙ ap (λ (x : Result). runs_after x runs) q,
            c ∙ ap (λ (x : Result). words_after r.plan x ws) q ∙ ap (λ (x : FileRead). words_after x.plan (search_file s zs (length ws) (length runs)) ws) e ∙ some _ (λ k. ws),
          ),
        )

    pub point_some : (zs : List ℤ) (st : ℕ) (m m' : ℤ) → m' ≡ m → (ws ws' : List ℕ) (f : Cost) (o : Outcome) → o ≡ cost_outcome f
        → (f ≡ cost_of (point_result r.plan zs st m' (length ws))) × (ws' ≡ words_after r.plan (point_result r.plan zs st m' (length ws)) ws)
        → (o ≡ point_outcome (point_file s zs st m (length ws))) × (ws' ≡ file_words s (point_file s zs st m (length ws)) ws)
    unfolding point_file file_words
    point_some zs st m m' w ws ws' f o k (a, c) =
        let q : point_result r.plan zs st m' (length ws) ≡ point_file s zs st m (length ws) = ap (λ (x : ℤ). point_result r.plan zs st x (length ws)) w ∙ ap (λ (x : FileRead). point_result x.plan zs st m (length ws)) e ∙ some _ refused in (
          k ∙ ap cost_outcome a ∙ cost_outcome_lem (point_result r.plan zs st m' (length ws)) ∙ ap point_outcome q,
          c ∙ ap (λ (x : Result). words_after r.plan x ws) q ∙ ap (λ (x : FileRead). words_after x.plan (point_file s zs st m (length ws)) ws) e ∙ some _ (λ k. ws),
        )

    costs_some : (result : Plan → Costs) (left : Plan → Costs → List ℕ → List ℕ) (ws ws' out out' : List ℕ) (f : Filled) (o : Outcome) → o ≡ filled_outcome f
        → (f ≡ filled_of (result r.plan)) × ((out' ≡ costs_after (result r.plan) out) × (ws' ≡ left r.plan (result r.plan) ws))
        → (o ≡ costs_outcome (file_costs s result)) × ((out' ≡ costs_after (file_costs s result) out) × (ws' ≡ file_left s (λ P. left P (file_costs s result) ws) ws))
    costs_some result left ws ws' out out' f o k (a, (b, c)) =
        let q : result r.plan ≡ file_costs s result = ap (λ (x : FileRead). result x.plan) e ∙ some _ no_costs in (
          k ∙ ap filled_outcome a ∙ filled_outcome_lem (result r.plan) ∙ ap costs_outcome q,
          (
            b ∙ ap (λ (x : Costs). costs_after x out) q,
            c ∙ ap (λ (x : Costs). left r.plan x ws) q ∙ ap (λ (x : FileRead). left x.plan (file_costs s result) ws) e ∙ some _ (λ k. ws),
          ),
        )

    pub window_some : (zs : List ℤ) (w : ℕ) (ws ws' out out' : List ℕ) (f : Filled) (o : Outcome) → o ≡ filled_outcome f
        → (f ≡ filled_of (window_result r.plan zs w (length ws) (length out))) × ((out' ≡ costs_after (window_result r.plan zs w (length ws) (length out)) out) × (ws' ≡ window_words r.plan (window_result r.plan zs w (length ws) (length out)) ws))
        → (o ≡ costs_outcome (window_file s zs w (length ws) (length out))) × ((out' ≡ costs_after (window_file s zs w (length ws) (length out)) out) × (ws' ≡ window_file_words s (window_file s zs w (length ws) (length out)) ws))
    unfolding window_file window_file_words
    window_some zs w ws ws' out out' f o k h = costs_some (λ P. window_result P zs w (length ws) (length out)) window_words ws ws' out out' f o k h

    pub table_some : (zs : List ℤ) (most : ℕ) (ws ws' out out' : List ℕ) (f : Filled) (o : Outcome) → o ≡ filled_outcome f
        → (f ≡ filled_of (table_result r.plan zs most (length ws) (length out))) × ((out' ≡ costs_after (table_result r.plan zs most (length ws) (length out)) out) × (ws' ≡ table_words_after r.plan most (table_result r.plan zs most (length ws) (length out)) ws))
        → (o ≡ costs_outcome (table_file s zs most (length ws) (length out))) × ((out' ≡ costs_after (table_file s zs most (length ws) (length out)) out) × (ws' ≡ table_file_words s most (table_file s zs most (length ws) (length out)) ws))
    unfolding table_file table_file_words
    table_some zs most ws ws' out out' f o k h = costs_some (λ P. table_result P zs most (length ws) (length out)) (λ P. table_words_after P most) ws ws' out out' f o k h

    pub write_some : (zs : List ℤ) (out out' : List ℕ) (w : Written) (o : Outcome) → o ≡ written_outcome w
        → (w ≡ plan_written r.plan (length zs) (length out)) × (out' ≡ after_writing r.plan zs out)
        → (o ≡ rewritten s (length zs) (length out)) × (out' ≡ after_rewriting s zs out)
    unfolding rewritten after_rewriting
    write_some zs out out' w o k (a, b) = (
      k ∙ ap written_outcome (a ∙ ap (λ (x : FileRead). plan_written x.plan (length zs) (length out)) e) ∙ some _ refused_with,
      b ∙ ap (λ (x : FileRead). after_writing x.plan zs out) e ∙ some _ (λ k. out),
    )

    -- the readings of the file, decoded
    module _ (b : List ℕ) (p : b ≡ part_of s r.start r.len) (out out' : List ℤ) (n : ℕ) (d : (n ≡ decode_number (length b) (length out)) × (out' ≡ decoded b out)) where
      pub part_is : b ≡ readings_part s
      part_is = p ∙ ap (λ (x : FileRead). part_of s x.start x.len) e

      pub number_is : n ≡ readings_number s (length out)
      number_is = d.0 ∙ ap (λ (x : List ℕ). decode_number (length x) (length out)) part_is

      pub list_is : out' ≡ file_readings s out
      unfolding file_readings
      list_is = d.1 ∙ ap (λ (x : List ℕ). decoded x out) part_is ∙ some _ (λ k. out)

      pub read_wrong : (n ≡ 0 → ⊥) → (refused_with n ≡ read_outcome s (length out)) × (out' ≡ file_readings s out)
      unfolding read_outcome
      read_wrong k =
          let q : refused_with n ≡ pick (eqb (readings_number s (length out)) 0) (given 0 0 (length (readings_part s) / 2)) (refused_with (readings_number s (length out))) = rw (← number_is, ne_eqb n 0 k) refl in
          (q ∙ some _ refused_with, list_is)

      pub read_some : n ≡ 0 → (given 0 0 (length b / 2) ≡ read_outcome s (length out)) × (out' ≡ file_readings s out)
      unfolding read_outcome
      read_some k =
          let q : given 0 0 (length b / 2) ≡ pick (eqb (readings_number s (length out)) 0) (given 0 0 (length (readings_part s) / 2)) (refused_with (readings_number s (length out))) =
          rw (← number_is, eq-eqb n 0 k) (ap (λ (x : List ℕ). given 0 0 (length x / 2)) part_is) in
          (q ∙ some _ refused_with, list_is)

-- What a search and a cost at a point answer: the third condition of acceptance of the scope paper (01), whose sentences are quoted, as one claim
-- with one proof (`Right`, `right`). The results are those of the calls' promises, so that what is lent counts by its length alone, whatever it held before.
-- Allowed, cost and order are those of `Model`. Assumes nothing.
use Rattle.std.specs.Prelude.{◌≡◌, refl, ◌⊎◌, ◌↔◌, List, [], true, ℕ, ◌*◌, ◌/◌, ◌≤◌, ◌<◌, ℤ, take, drop}
use Rattle.std.proofs.Common.{sym, ◌∙◌, ap, arith, length-take-le, take_at}
use Rattle.std.proofs.Math.ListN.{length}
use Rattle.plan.specs.declared.Plan.{Plan}
use Rattle.model.specs.Segmentation.{Seg, readings, last_level}
use Rattle.model.specs.Model.{cost, last_state, Allowed, LeastCost, First}
use Rattle.model.specs.Run.{runs, run_numbers}
use Rattle.model.proofs.RunLaws.{numbers_length}
use Rattle.model.specs.Refusals.{search_number, point_number}
use Rattle.model.proofs.Checked.{search_not_16, point_not_16}
use Rattle.model.specs.Result.{Result, found, refused, whole, point, result_of}
use Rattle.model.specs.Demand3.{NoneAllowed}
use Rattle.model.proofs.Demand3.{demand3, cost_take}
use Rattle.search.specs.Lent.{lent_early, lent_short, lent_narrow, lent_looks, lent_found}
use Rattle.search.specs.Search.{work_words, search_result, point_result, found_of, cost_of, found_result, cost_result, runs_after, looked}

-- ---- demand 3

-- no earlier refusal applies, to a list of n readings
abbrev pub SearchAccepts : Plan → ℕ → ℕ → ℕ → Type 0
SearchAccepts P n words room = (search_number P n ≡ 0) × (work_words P ≤ words) × (5 * n ≤ room)

abbrev pub PointAccepts : Plan → ℕ → ℕ → ℤ → ℕ → Type 0
PointAccepts P n s m words = (point_number P n s m ≡ 0) × (work_words P ≤ words)

-- no such segmentation exists
abbrev pub NoneEnds : Plan → ℕ → ℕ → ℤ → Type 0
NoneEnds P n s m = (g : Seg) → Allowed P n g → last_state P g ≡ s → last_level g ≡ m → ⊥

-- the record zs stopped after n readings: all that is said here of a list is said of this one; its segmentations are those of n readings, at the
-- costs that they have in zs
pub record Stopped (P : Plan) (zs : List ℤ) (n s : ℕ) (m : ℤ) (words : ℕ) : Type 0 where
  pub size : length (take n zs) ≡ n
  pub costs : (g : Seg) → readings g ≡ n → cost P (take n zs) g ≡ cost P zs g
  pub least : (c : ℕ) (ns : List ℤ) → point_result P (take n zs) s m words ≡ found c ns → LeastCost P zs n s m c
  pub none : (point_result P (take n zs) s m words ≡ refused 16) ↔ (PointAccepts P n s m words × NoneEnds P n s m)

pub record Right (P : Plan) (zs : List ℤ) (s : ℕ) (m : ℤ) (words room : ℕ) : Type 0 where
  -- "A cost at a point that is not refused equals the least of the costs of all segmentations allowed at that point that end in the named state
  -- at the named level."
  pub point_least : (c : ℕ) (ns : List ℤ) → point_result P zs s m words ≡ found c ns → LeastCost P zs (length zs) s m c
  -- "The cost and the whole list of runs that a search gives, where it is not refused, equal those of the segmentation that comes first in the
  -- order among the cheapest allowed ones." There is one such segmentation.
  pub search_first : (c : ℕ) (ns : List ℤ) → search_result P zs words room ≡ found c ns → (g : Seg) × First P zs g × (cost P zs g ≡ c) × (run_numbers P g ≡ ns)
  pub one_first : (g g' : Seg) → First P zs g → First P zs g' → g ≡ g'
  -- "Each of the two calls gives 16 exactly when no earlier refusal applies and no such segmentation exists."
  pub search_none : (search_result P zs words room ≡ refused 16) ↔ (SearchAccepts P (length zs) words room × NoneAllowed P (length zs))
  pub point_none : (point_result P zs s m words ≡ refused 16) ↔ (PointAccepts P (length zs) s m words × NoneEnds P (length zs) s m)
  -- Where no earlier refusal applies, no other number is given: there is an answer, or 16.
  pub search_else : SearchAccepts P (length zs) words room → ((c : ℕ) × (ns : List ℤ) × (search_result P zs words room ≡ found c ns)) ⊎ (search_result P zs words room ≡ refused 16)
  pub point_else : PointAccepts P (length zs) s m words → ((c : ℕ) × (point_result P zs s m words ≡ found c [])) ⊎ (point_result P zs s m words ≡ refused 16)
  -- "A record stopped at a point is the list of its first n readings, for any n from 1 to its length."
  pub stopped : (n : ℕ) → n ≤ length zs → Stopped P zs n s m words

-- ---- which case applies

module _ (P : Plan) (zs : List ℤ) (words room : ℕ) where
  pub search_early : (n : ℕ) → n ≡ search_number P (length zs) → (n ≡ 0 → ⊥) → search_result P zs words room ≡ refused n
  unfolding search_result
  search_early = lent_early refused (search_number P (length zs)) words (work_words P) room (5 * length zs) (result_of P zs whole)

  module _ (accepts : search_number P (length zs) ≡ 0) where
    pub search_short : words < work_words P → search_result P zs words room ≡ refused 14
    unfolding search_result
    search_short = lent_short refused (search_number P (length zs)) words (work_words P) room (5 * length zs) (result_of P zs whole) accepts

    pub search_narrow : work_words P ≤ words → room < 5 * length zs → search_result P zs words room ≡ refused 15
    unfolding search_result
    search_narrow = lent_narrow refused (search_number P (length zs)) words (work_words P) room (5 * length zs) (result_of P zs whole) accepts

    pub search_looks : work_words P ≤ words → 5 * length zs ≤ room → search_result P zs words room ≡ result_of P zs whole
    unfolding search_result
    search_looks = lent_looks refused (search_number P (length zs)) words (work_words P) room (5 * length zs) (result_of P zs whole) accepts

  -- an answer, and 16, are the model's, and no earlier refusal applies
  search_model : (r : Result) → looked r ≡ true → search_result P zs words room ≡ r → SearchAccepts P (length zs) words room × (result_of P zs whole ≡ r)
  unfolding search_result
  search_model = lent_found refused (search_number P (length zs)) words (work_words P) room (5 * length zs) (result_of P zs whole) looked (λ k. refl) (search_not_16 P (length zs))

module _ (P : Plan) (zs : List ℤ) (s : ℕ) (m : ℤ) (words : ℕ) where
  pub point_early_is : (n : ℕ) → n ≡ point_number P (length zs) s m → (n ≡ 0 → ⊥) → point_result P zs s m words ≡ refused n
  unfolding point_result
  point_early_is = lent_early refused (point_number P (length zs) s m) words (work_words P) 0 0 (result_of P zs (point s m))

  module _ (accepts : point_number P (length zs) s m ≡ 0) where
    pub point_short_is : words < work_words P → point_result P zs s m words ≡ refused 14
    unfolding point_result
    point_short_is = lent_short refused (point_number P (length zs) s m) words (work_words P) 0 0 (result_of P zs (point s m)) accepts

    pub point_looks : work_words P ≤ words → point_result P zs s m words ≡ result_of P zs (point s m)
    unfolding point_result
    point_looks h = lent_looks refused (point_number P (length zs) s m) words (work_words P) 0 0 (result_of P zs (point s m)) accepts h (omega arith)

  point_model : (r : Result) → looked r ≡ true → point_result P zs s m words ≡ r → PointAccepts P (length zs) s m words × (result_of P zs (point s m) ≡ r)
  unfolding point_result
  point_model r k e =
      let q = lent_found refused (point_number P (length zs) s m) words (work_words P) 0 0 (result_of P zs (point s m)) looked (λ k. refl) (point_not_16 P (length zs) s m) r k e in
      ((q.0.0, q.0.1), q.1)

  -- ---- the proof

  least_of_lem : (c : ℕ) (ns : List ℤ) → point_result P zs s m words ≡ found c ns → LeastCost P zs (length zs) s m c
  least_of_lem c ns e = ((demand3 P zs).point_found s m c ns (point_model (found c ns) refl e).1).0

  none_of : (point_result P zs s m words ≡ refused 16) ↔ (PointAccepts P (length zs) s m words × NoneEnds P (length zs) s m)
  none_of = (
    λ e. let q = point_model (refused 16) refl e in (q.0, ((demand3 P zs).point_16 s m q.1).1),
    λ q. point_looks q.0.0 q.0.1 ∙ (demand3 P zs).16-point s m q.0.0 q.1,
  )

pub right : (P : Plan) (zs : List ℤ) (s : ℕ) (m : ℤ) (words room : ℕ) → Right P zs s m words room
right P zs s m words room = record {
  point_least = least_of_lem P zs s m words;
  search_first = λ c ns e. (demand3 P zs).whole_found c ns (search_model P zs words room (found c ns) refl e).1;
  one_first = (demand3 P zs).one_first;
  search_none = (
    λ e. let q = search_model P zs words room (refused 16) refl e in (q.0, ((demand3 P zs).whole_16 q.1).1),
    λ q. search_looks P zs words room q.0.0 q.0.1 q.0.2 ∙ (demand3 P zs).16-whole q.0.0 q.1,
  );
  point_none = none_of P zs s m words;
  search_else = λ a. rw (search_looks P zs words room a.0 a.1 a.2) ((demand3 P zs).whole_else a.0);
  point_else = λ a. rw (point_looks P zs s m words a.0 a.1) ((demand3 P zs).point_else s m a.0);
  stopped = λ n h. let q = length-take-le n zs h in record {
    size = q;
    costs = λ g e. cost_take P zs n g (omega arith);
    least = λ c ns e. ((demand3 P zs).stopped n h s m c).0 (least_of_lem P (take n zs) s m words c ns e);
    none = rw q at (none_of P (take n zs) s m words);
  };
}

-- ---- the answers tell the results

five_each : (P : Plan) (g : Seg) → length (run_numbers P g) ≡ 5 * length (runs P g)
unfolding run_numbers
five_each P g = numbers_length (runs P g)

pub search_tells : (P : Plan) (zs : List ℤ) (words : ℕ) (out : List ℤ)
    → found_result (found_of (search_result P zs words (length out))) (runs_after (search_result P zs words (length out)) out) ≡ search_result P zs words (length out)
search_tells P zs words out = go (search_result P zs words (length out)) refl
  where
    go : (r : Result) → search_result P zs words (length out) ≡ r → found_result (found_of r) (runs_after r out) ≡ r
    go (refused n) e = refl
    go (found c ns) e =
        let (_, q) = search_model P zs words (length out) (found c ns) refl e in
        let (g, _, _, w) = (demand3 P zs).whole_found c ns q in
        ap (found c) (take_at ns (drop (length ns) out) (5 * (length ns / 5)) (omega (arith, five_each P g, ap length w)))

pub point_tells : (P : Plan) (zs : List ℤ) (s : ℕ) (m : ℤ) (words : ℕ) → cost_result (cost_of (point_result P zs s m words)) ≡ point_result P zs s m words
point_tells P zs s m words = go (point_result P zs s m words) refl
  where
    go : (r : Result) → point_result P zs s m words ≡ r → cost_result (cost_of r) ≡ r
    go (refused n) e = refl
    go (found c ns) e = ap (found c) (sym ((demand3 P zs).point_found s m c ns (point_model P zs s m words (found c ns) refl e).1).1)

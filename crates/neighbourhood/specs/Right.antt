-- What the costs for each number of changes answer: ticket 5 of the change requests (02), whose sentences are quoted, as one claim with one proof
-- (`Right`, `right`). The result is that of the call's promise, so that what is lent counts by its length alone, whatever it held before. Assumes nothing.
use Rattle.std.specs.Prelude.{◌≡◌, refl, ◌⊎◌, ◌↔◌, List, true, ℕ, suc, ◌*◌, ◌≤◌, ◌<◌, ℤ, pos, length, get_or}
use Rattle.std.proofs.Common.{sym, ◌∙◌, ap, subst, inl, inr, ⊎_elim, arith}
use Rattle.std.specs.Int.Signed.{mag}
use Rattle.plan.specs.declared.Plan.{Plan}
use Rattle.model.specs.Segmentation.{Seg}
use Rattle.model.specs.Model.{cost, change_count, AllowedWhole, First}
use Rattle.model.specs.Run.{run_numbers}
use Rattle.model.specs.Refusals.{search_number, table_number}
use Rattle.model.proofs.Checked.{accepted_table, table_search, table_20, table_fine, table_not_16}
use Rattle.model.specs.Result.{found, refused, Costs, cost_list, no_costs}
use Rattle.model.specs.Demand3.{NoneAllowed}
use Rattle.model.specs.Neighbourhood.{most_word, entries, table_of}
use Rattle.model.specs.NeighbourhoodLaws.{NoneWith, Entries, least_of}
use Rattle.model.proofs.NeighbourhoodLaws.{built_table, entries_size, met_by, low_at, largest_at, table_else, table_list, table_entries, table_16, 16-table, table_found}
use Rattle.model.proofs.Tables.{ready_search}
use Rattle.search.specs.Lent.{lent_early, lent_short, lent_narrow, lent_looks, lent_found}
use Rattle.search.specs.Search.{work_words, search_result}
use Rattle.search.specs.Right as S
use Rattle.search.specs.Costs.{costs_looked}
use Rattle.neighbourhood.specs.Neighbourhood.{table_words, table_result}

-- ---- the claim

-- no earlier refusal applies, to a record of n readings: none of a search before 14, "K is at most 32", "The workspace is 192 × S × L × (K + 1) words",
-- "A list of K + 1 numbers"
abbrev pub TableAccepts : Plan → ℕ → ℕ → ℕ → ℕ → Type 0
TableAccepts P n most words room = (search_number P n ≡ 0) × (most ≤ 32) × (table_words P most ≤ words) × (suc most ≤ room)

-- The grid and the readings are 16-bit numbers. Every call has this: it is the range of their types. It is asked for only where a cost has to be told from
-- the largest 64-bit number, which no sum of such squares reaches.
pub record Sixteen (P : Plan) (zs : List ℤ) : Type 0 where
  pub lo : mag P.lo < 32768
  pub hi : mag P.hi < 32768
  pub readings : (t : ℕ) → mag (get_or zs t (pos 0)) < 32768

pub record Right (P : Plan) (zs : List ℤ) (most words room : ℕ) : Type 0 where
  -- "A list of K + 1 numbers is filled"
  pub size : (cs : List ℕ) → table_result P zs most words room ≡ cost_list cs → length cs ≡ suc most
  -- "for k from 0 to K the least cost among allowed whole-record segmentations with exactly k changes, penalties included": an entry is the cost of
  -- one, and none of them costs less
  pub met : (cs : List ℕ) → table_result P zs most words room ≡ cost_list cs → (k : ℕ) → k ≤ most → (get_or cs k 0 ≡ most_word → ⊥)
      → (g : Seg) × AllowedWhole P (length zs) g × (change_count P g ≡ k) × (cost P zs g ≡ get_or cs k 0)
  pub least : (cs : List ℕ) → table_result P zs most words room ≡ cost_list cs → (g : Seg) → AllowedWhole P (length zs) g → change_count P g ≤ most
      → get_or cs (change_count P g) 0 ≤ cost P zs g
  -- "and the largest unsigned 64-bit number where there is none": there, and only there
  pub none_largest : (cs : List ℕ) → table_result P zs most words room ≡ cost_list cs → (k : ℕ) → k ≤ most → NoneWith P (length zs) k → get_or cs k 0 ≡ most_word
  pub largest_none : Sixteen P zs → (cs : List ℕ) → table_result P zs most words room ≡ cost_list cs → (k : ℕ) → k ≤ most → get_or cs k 0 ≡ most_word → NoneWith P (length zs) k
  -- "A user can take the smallest entry as the answer's cost whenever that answer has at most K changes.": the answer of a search over the record, with
  -- whatever it is lent, is a segmentation g with the cost c and the runs ns
  pub smallest : Sixteen P zs → (cs : List ℕ) → table_result P zs most words room ≡ cost_list cs
      → (words' numbers c : ℕ) (ns : List ℤ) → search_result P zs words' numbers ≡ found c ns
      → (g : Seg) × First P zs g × (cost P zs g ≡ c) × (run_numbers P g ≡ ns) × (change_count P g ≤ most → least_of cs ≡ c)
  -- "16 comes exactly where no allowed segmentation exists with any number of changes."
  pub none : (table_result P zs most words room ≡ no_costs 16) ↔ (TableAccepts P (length zs) most words room × NoneAllowed P (length zs))
  -- and that is where a search over the record gives it, once it is lent enough
  pub as_search : TableAccepts P (length zs) most words room → (words' numbers : ℕ) → work_words P ≤ words' → 5 * length zs ≤ numbers
      → (table_result P zs most words room ≡ no_costs 16) ↔ (search_result P zs words' numbers ≡ refused 16)
  -- so where only more than K changes are possible nothing is refused, and every entry is the largest number
  pub more : TableAccepts P (length zs) most words room → (g : Seg) → AllowedWhole P (length zs) g
      → ((g' : Seg) → AllowedWhole P (length zs) g' → change_count P g' ≤ most → ⊥)
      → (cs : List ℕ) × (table_result P zs most words room ≡ cost_list cs) × ((k : ℕ) → k ≤ most → get_or cs k 0 ≡ most_word)
  -- "Refusal 20 is K above 32, checked after 13 and before 14 (that workspace) and 15 (list too short)": after every number that a search gives before 14,
  -- and whatever is lent
  pub early : (n : ℕ) → n ≡ search_number P (length zs) → (n ≡ 0 → ⊥) → table_result P zs most words room ≡ no_costs n
  pub twenty : search_number P (length zs) ≡ 0 → 32 < most → table_result P zs most words room ≡ no_costs 20
  pub short : search_number P (length zs) ≡ 0 → most ≤ 32 → words < table_words P most → table_result P zs most words room ≡ no_costs 14
  pub narrow : search_number P (length zs) ≡ 0 → most ≤ 32 → table_words P most ≤ words → room < suc most → table_result P zs most words room ≡ no_costs 15
  -- Where no earlier refusal applies, no other number is given: there are costs, or 16.
  pub else : TableAccepts P (length zs) most words room → ((cs : List ℕ) × (table_result P zs most words room ≡ cost_list cs)) ⊎ (table_result P zs most words room ≡ no_costs 16)

-- ---- which case applies

module _ (P : Plan) (zs : List ℤ) (most words room : ℕ) where
  pub table_early : (n : ℕ) → n ≡ table_number P (length zs) most → (n ≡ 0 → ⊥) → table_result P zs most words room ≡ no_costs n
  unfolding table_result
  table_early = lent_early no_costs (table_number P (length zs) most) words (table_words P most) room (suc most) (table_of P zs most)

  module _ (accepts : table_number P (length zs) most ≡ 0) where
    pub table_short : words < table_words P most → table_result P zs most words room ≡ no_costs 14
    unfolding table_result
    table_short = lent_short no_costs (table_number P (length zs) most) words (table_words P most) room (suc most) (table_of P zs most) accepts

    pub table_narrow : table_words P most ≤ words → room < suc most → table_result P zs most words room ≡ no_costs 15
    unfolding table_result
    table_narrow = lent_narrow no_costs (table_number P (length zs) most) words (table_words P most) room (suc most) (table_of P zs most) accepts

    pub table_looks : table_words P most ≤ words → suc most ≤ room → table_result P zs most words room ≡ table_of P zs most
    unfolding table_result
    table_looks = lent_looks no_costs (table_number P (length zs) most) words (table_words P most) room (suc most) (table_of P zs most) accepts

  -- costs, and 16, are the model's, and no earlier refusal applies
  table_model : (r : Costs) → costs_looked r ≡ true → table_result P zs most words room ≡ r
      → ((table_number P (length zs) most ≡ 0) × (table_words P most ≤ words) × (suc most ≤ room)) × (table_of P zs most ≡ r)
  unfolding table_result
  table_model = lent_found no_costs (table_number P (length zs) most) words (table_words P most) room (suc most) (table_of P zs most) costs_looked (λ k. refl) (table_not_16 P (length zs) most)

  -- ---- the proof

  abbrev Accepts : Type 0
  Accepts = TableAccepts P (length zs) most words room

  fine : Accepts → table_number P (length zs) most ≡ 0
  fine q = table_fine P (length zs) most q.0 q.1

  looks : Accepts → table_result P zs most words room ≡ table_of P zs most
  looks q = table_looks (fine q) q.2 q.3

  search_accepts : table_number P (length zs) most ≡ 0 → search_number P (length zs) ≡ 0
  search_accepts h = (accepted_table P (length zs) most h).0

  module _ (cs : List ℕ) (e : table_result P zs most words room ≡ cost_list cs) where
    number : table_number P (length zs) most ≡ 0
    number = (table_model (cost_list cs) refl e).0.0

    model : table_of P zs most ≡ cost_list cs
    model = (table_model (cost_list cs) refl e).1

    list : entries P zs (suc most) ≡ cs
    list = table_list P zs most cs model

    whole : Sixteen P zs → Entries P zs most cs
    whole r = table_entries P zs most number (ready_search P zs r.lo r.hi r.readings (search_accepts number)) cs model

    size_of : length cs ≡ suc most
    size_of = ap length (sym list) ∙ entries_size P zs (suc most)

    met_of : (k : ℕ) → k ≤ most → (get_or cs k 0 ≡ most_word → ⊥) → (g : Seg) × AllowedWhole P (length zs) g × (change_count P g ≡ k) × (cost P zs g ≡ get_or cs k 0)
    met_of = subst (λ (x : List ℕ). (k : ℕ) → k ≤ most → (get_or x k 0 ≡ most_word → ⊥) → (g : Seg) × AllowedWhole P (length zs) g × (change_count P g ≡ k) × (cost P zs g ≡ get_or x k 0))
        list (met_by P zs most number)

    least_of_lem : (g : Seg) → AllowedWhole P (length zs) g → change_count P g ≤ most → get_or cs (change_count P g) 0 ≤ cost P zs g
    least_of_lem g a h = subst (λ (x : List ℕ). get_or x (change_count P g) 0 ≤ cost P zs g) list (low_at P zs most number g (change_count P g) a refl h)

    largest_of : (k : ℕ) → k ≤ most → NoneWith P (length zs) k → get_or cs k 0 ≡ most_word
    largest_of k h never = subst (λ (x : List ℕ). get_or x k 0 ≡ most_word) list (largest_at P zs most number k h never)

    smallest_of : Sixteen P zs → (words' numbers c : ℕ) (ns : List ℤ) → search_result P zs words' numbers ≡ found c ns
        → (g : Seg) × First P zs g × (cost P zs g ≡ c) × (run_numbers P g ≡ ns) × (change_count P g ≤ most → least_of cs ≡ c)
    smallest_of r words' numbers c ns q =
        let (g, f, w, n) = (S.right P zs 0 (pos 0) words' numbers).search_first c ns q in
        (g, f, w, n, λ h. (whole r).smallest g f h ∙ w)

  none_of : table_result P zs most words room ≡ no_costs 16 → Accepts × NoneAllowed P (length zs)
  none_of e =
      let ((h, k, l), m) = table_model (no_costs 16) refl e in
      let (s, few) = accepted_table P (length zs) most h in
      ((s, few, k, l), table_16 P zs most (built_table P zs most h) m)

  of_none : Accepts → NoneAllowed P (length zs) → table_result P zs most words room ≡ no_costs 16
  of_none q never = looks q ∙ 16-table P zs most (built_table P zs most (fine q)) never

  early_of : (n : ℕ) → n ≡ search_number P (length zs) → (n ≡ 0 → ⊥) → table_result P zs most words room ≡ no_costs n
  early_of n e h = table_early n (e ∙ sym (table_search P (length zs) most (λ z. h (e ∙ z)))) h

  pub right : Right P zs most words room
  right = record {
    size = size_of;
    met = met_of;
    least = least_of_lem;
    none_largest = largest_of;
    largest_none = λ r cs e. (whole cs e r).largest_none;
    smallest = λ r cs e. smallest_of cs e r;
    none = (none_of, λ q. of_none q.0 q.1);
    as_search = λ q words' numbers h k. (
      λ e. (S.right P zs 0 (pos 0) words' numbers).search_none.1 ((q.0, h, k), (none_of e).1),
      λ e. of_none q ((S.right P zs 0 (pos 0) words' numbers).search_none.0 e).1,
    );
    more = λ q g a never.
        let e = looks q ∙ table_found P zs most (built_table P zs most (fine q)) g a in
        (entries P zs (suc most), e, λ k h. largest_of (entries P zs (suc most)) e k h (λ g' a' w. never g' a' (omega (arith, w, h))));
    early = early_of;
    twenty = λ s h. table_early 20 (sym (table_20 P (length zs) most s h)) (λ z. omega arith);
    short = λ s few. table_short (table_fine P (length zs) most s few);
    narrow = λ s few. table_narrow (table_fine P (length zs) most s few);
    else = λ q. ⊎_elim (λ r. inl (entries P zs (suc most), looks q ∙ r)) (λ r. inr (looks q ∙ r)) (table_else P zs most);
  }

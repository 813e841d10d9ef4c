-- What the costs for each number of changes are: the sentences of ticket 5 of the change requests (02), quoted, as the record `Entries`, and where 16
-- comes. For code: an entry by the numbers of `Totals` (`entry_by`), and 16 by those of a search (`table_none_by`, `table_found_by`). Assumes nothing.
use Rattle.std.specs.Prelude.{◌≡◌, ◌⊎◌, List, [], ◌∷◌, ◌++◌, true, ℕ, zero, suc, ◌≤◌, ◌<◌, min, eqb, ℤ, pos, ◌+ℤ◌, length, get_or}
use Rattle.std.proofs.Math.Path.{refl}
use Rattle.std.proofs.Common.{sym, ◌∙◌, ap, subst, arith, length-append}
use Rattle.std.proofs.Math.Logic.{inl, inr}
use Rattle.std.proofs.Math.Option.{Option, none, some, map, some-injective}
use Rattle.std.proofs.Math.Decide.{dec_le, ℕ_discrete}
use borrow.Author.Tests.{eqb-true, eq-eqb}
use Rattle.std.proofs.Math.ListN.{get_or-append}
use Rattle.std.proofs.lemmas.List.{get_or_at}
use Rattle.plan.specs.declared.Plan.{Plan}
use Rattle.plan.specs.Build.{plan_number}
use Rattle.model.specs.Cost.{Cost, ◌≼◌, value}
use Rattle.model.proofs.Cost.{≼_trans, value_mono}
use Rattle.model.specs.Segmentation.{Seg, readings, last_level}
use Rattle.model.specs.Rank.{rank}
use Rattle.model.proofs.Rank.{rank_value}
use Rattle.model.specs.Model.{width, above, in_set, last_state, cost, change_count, Allowed, AllowedWhole, First}
use Rattle.model.specs.Listed.{every_seg, whole_test, keep, listed, with_test, listed_with}
use Rattle.model.specs.Refusals.{search_number, table_number}
use Rattle.model.specs.Result.{cost_list, no_costs}
use Rattle.model.specs.Neighbourhood.{most_word, entry_of, entries, table_of}
use Rattle.model.specs.Demand3.{NoneAllowed}
use Rattle.model.proofs.Demand3.{demand3}
use Rattle.model.specs.Checked.{Accepted}
use Rattle.model.proofs.Checked.{accepted, accepted_table, built_search}
use Rattle.model.specs.Lists.{In}
use Rattle.model.proofs.Bools.{and_yes, yes_and}
use Rattle.model.proofs.Grid.{grid_index}
use Rattle.model.proofs.Complete.{in_keep, keep_in, every_listed, test_whole, whole_test_lem, least_in_lem, least_some, listed_first, listed_none}
use Rattle.model.specs.Least.{least_below}
use Rattle.model.proofs.Least.{below_met, below_least, given_met}
use Rattle.model.specs.Labels.{label_on, count_in}
use Rattle.model.proofs.Labels.{closed_none, whole_point, point_whole}
use Rattle.model.specs.Nodes.{Node, node, node_of}
use Rattle.model.proofs.Nodes.{sound}
use Rattle.model.specs.Opt.{opt}
use Rattle.model.proofs.Opt.{opt_layers}
use Rattle.model.specs.Index.{pair_of, no_cost, reported}
use Rattle.model.proofs.Index.{some_held, held_value}
use Rattle.model.specs.Held.{Table, Holding}
use Rattle.model.proofs.Held.{cost_low}
use Rattle.model.specs.Ends.{loss_most, least_end_at, least_end_of, end_of}
use Rattle.model.proofs.Ends.{least_end_of_lem, none_by}
use Rattle.model.specs.Tables.{Ready}
use Rattle.model.proofs.Tables.{losses}
use Rattle.model.specs.Totals.{opt_with, total_at}
use Rattle.model.proofs.Totals.{with_grid, with_met, with_least, total_held}
use Rattle.model.specs.NeighbourhoodLaws.{Entries, LeastWith, NoneWith, least_of}

least_with_one : (P : Plan) (zs : List ℤ) (k c d : ℕ) → LeastWith P zs k c → LeastWith P zs k d → c ≡ d
least_with_one P zs k c d x y =
    let (g, a, p, e) = x.met in
    let (g', a', p', e') = y.met in
    omega (arith, x.least g' a' p', y.least g a p)

module _ (P : Plan) (zs : List ℤ) (built : plan_number P ≡ 0) (k : ℕ) where
  abbrev n : ℕ
  n = length zs

  -- what is kept of the listing is what is allowed and has k changes
  kept_with : (g : Seg) → AllowedWhole P n g → change_count P g ≡ k → In g (keep (with_test P n k) (every_seg P n))
  unfolding with_test
  kept_with g a e =
      in_keep (with_test P n k) g (every_seg P n) (every_listed P built n g a.count a.follows) (yes_and _ _ (whole_test_lem P n g a) (eq-eqb (change_count P g) k e))

  kept_with_allowed : (g : Seg) → In g (keep (with_test P n k) (every_seg P n)) → AllowedWhole P n g × (change_count P g ≡ k)
  unfolding with_test
  kept_with_allowed g h =
      let (a, b) = and_yes (whole_test P n g) (eqb (change_count P g) k) (keep_in (with_test P n k) g (every_seg P n) h) in
      (test_whole P n g a, eqb-true (change_count P g) k b)

  listed_with_lem : (c : ℕ) → listed_with P zs k ≡ some c → LeastWith P zs k c
  unfolding listed_with
  listed_with_lem c p =
      let ((g, i, e), b) = least_in_lem P zs (keep (with_test P n k) (every_seg P n)) c p in
      let (a, q) = kept_with_allowed g i in
      record { met = (g, a, q, e); least = λ g' a' q'. b g' (kept_with g' a' q') }

  listed_with_none : listed_with P zs k ≡ none → NoneWith P n k
  unfolding listed_with
  listed_with_none p g a q = least_some P zs (keep (with_test P n k) (every_seg P n)) g p (kept_with g a q)

  -- what is the least, or none where there is none, is what is listed
  with_is : (o : Option ℕ) → ((c : ℕ) → o ≡ some c → LeastWith P zs k c) → (o ≡ none → NoneWith P n k) → listed_with P zs k ≡ o
  with_is o yes-one no_one = go (listed_with P zs k) o refl refl
    where
      go : (x y : Option ℕ) → listed_with P zs k ≡ x → o ≡ y → x ≡ y
      go none none p q = refl
      go none (some d) p q = let (g, a, e, w) = (yes-one d q).met in absurd (listed_with_none p g a e)
      go (some c) none p q = let (g, a, e, w) = (listed_with_lem c p).met in absurd (no_one q g a e)
      go (some c) (some d) p q = ap some (least_with_one P zs k c d (listed_with_lem c p) (yes-one d q))

  -- an entry that is not the largest word is the least cost
  entry_found : (entry_of (listed_with P zs k) ≡ most_word → ⊥) → LeastWith P zs k (entry_of (listed_with P zs k))
  entry_found off = go (listed_with P zs k) refl off
    where
      go : (o : Option ℕ) → listed_with P zs k ≡ o → (entry_of o ≡ most_word → ⊥) → LeastWith P zs k (entry_of o)
      go none p h = absurd (h refl)
      go (some c) p h = listed_with_lem c p

  entry_low : (g : Seg) → AllowedWhole P n g → change_count P g ≡ k → entry_of (listed_with P zs k) ≤ cost P zs g
  entry_low g a e = go (listed_with P zs k) refl
    where
      go : (o : Option ℕ) → listed_with P zs k ≡ o → entry_of o ≤ cost P zs g
      go none p = absurd (listed_with_none p g a e)
      go (some c) p = (listed_with_lem c p).least g a e

  entry_none : NoneWith P n k → entry_of (listed_with P zs k) ≡ most_word
  entry_none never = ap entry_of (with_is none (λ c p. let z : ◌≡◌ {A = ℕ} 0 1 = cc in absurd (omega arith)) (λ p. never))

-- ---- the list of entries

pub entries_size : (P : Plan) (zs : List ℤ) (n : ℕ) → length (entries P zs n) ≡ n
unfolding entries
entries_size P zs zero = refl
entries_size P zs (suc n) = length-append (entries P zs n) (entry_of (listed_with P zs n) ∷ []) ∙ omega (arith, entries_size P zs n)

entries_at : (P : Plan) (zs : List ℤ) (n k : ℕ) → k < n → get_or (entries P zs n) k 0 ≡ entry_of (listed_with P zs k)
unfolding entries
entries_at P zs zero k h = absurd (omega arith)
entries_at P zs (suc n) k h = go (ℕ_discrete k n) (entries_at P zs n k)
  where
    go : Dec (k ≡ n) → (k < n → get_or (entries P zs n) k 0 ≡ entry_of (listed_with P zs k)) → get_or (entries P zs n ++ (entry_of (listed_with P zs n) ∷ [])) k 0 ≡ entry_of (listed_with P zs k)
    go (yes e) ih = get_or_at (entries P zs n) (entry_of (listed_with P zs n)) [] 0 k (entries_size P zs n ∙ sym e) ∙ ap (λ (x : ℕ). entry_of (listed_with P zs x)) (sym e)
    go (no e) ih = get_or-append (entries P zs n) (entry_of (listed_with P zs n) ∷ []) 0 k (omega (arith, entries_size P zs n)) ∙ ih (omega arith)

-- ---- by the numbers that code holds

-- a cost at an end of a layer is at least the least of them, and the least is one of them
end_low : (P : Plan) (F : Node → Option Cost) (s j : ℕ) (c : Cost) → s < P.states → j < width P → end_of P F s j ≡ some c → (d : Cost) × (least_end_of P F ≡ some d) × (d ≼ c)
unfolding least_end_of
end_low P F s j c hs hj p =
    let (d, q, h) = below_least (width P) (end_of P F s) j c hj p in
    let (d', q', h') = below_least P.states (λ s. least_below (width P) (λ j. end_of P F s j)) s d hs q in
    (d', q', ≼_trans h' h)

end_met : (P : Plan) (F : Node → Option Cost) (c : Cost) → least_end_of P F ≡ some c → (s : ℕ) × (j : ℕ) × (in_set P.end s ≡ true) × (F (node 0 s (P.lo +ℤ pos j)) ≡ some c)
unfolding least_end_of
end_met P F c p =
    let (s, hs, q) = below_met P.states (λ s. least_below (width P) (λ j. end_of P F s j)) c p in
    let (j, hj, r) = below_met (width P) (end_of P F s) c q in
    let (en, w) = given_met (in_set P.end s) (F (node 0 s (P.lo +ℤ pos j))) c r in
    (s, j, en, w)

module _ (P : Plan) (zs : List ℤ) (accepts : search_number P (length zs) ≡ 0) where
  acc : Accepted P (length zs)
  acc = accepted P (length zs) accepts

  -- a segmentation that ends in the end set is allowed of the whole record: no label is open there
  whole_at_lem : (g : Seg) (s : ℕ) (m : ℤ) → Allowed P (length zs) g → node_of P g ≡ node 0 s m → in_set P.end s ≡ true → AllowedWhole P (length zs) g
  unfolding node_of
  whole_at_lem g s m a e en = point_whole P (length zs) g acc.closed a (subst (λ (x : ℕ). in_set P.end x ≡ true) (sym (ap (λ (v : Node). v.state) e)) en)

  -- where it ends
  end_node : (g : Seg) → AllowedWhole P (length zs) g → node_of P g ≡ node 0 (last_state P g) (last_level g)
  unfolding node_of count_in
  end_node g a =
      let o : label_on P (readings g) ≡ none = rw a.count (closed_none P (length zs) acc.closed) in
      rw o refl

  module _ (k : ℕ) where
    -- the layer of the segmentations with k changes
    abbrev last : Node → Option Cost
    last = opt_with P zs (length zs) (suc k)

    met_at : (t : ℕ) (v : Node) (c : Cost) → 1 ≤ t → opt_with P zs t (suc k) v ≡ some c → (g : Seg) × Allowed P t g × (node_of P g ≡ v) × (suc k ≡ suc (change_count P g)) × (rank P zs g ≡ c)
    met_at zero v c h p = absurd (omega arith)
    met_at (suc t) v c h p = with_met P zs acc.plan t (suc k) v c p

    last_met : (c : Cost) → least_end_of P last ≡ some c → (g : Seg) × AllowedWhole P (length zs) g × (change_count P g ≡ k) × (cost P zs g ≡ value c)
    last_met c p =
        let (s, j, en, q) = end_met P last c p in
        let (g, a, e, i, w) = met_at (length zs) (node 0 s (P.lo +ℤ pos j)) c acc.some_readings q in
        (g, whole_at_lem g s (P.lo +ℤ pos j) a e en, omega arith, sym (rank_value P zs g) ∙ ap value w)

    last_low : (g : Seg) → AllowedWhole P (length zs) g → change_count P g ≡ k → (c : Cost) × (least_end_of P last ≡ some c) × (value c ≤ cost P zs g)
    last_low g a e =
        let (c, p, h) = with_least P zs acc.plan (length zs) g (whole_point P (length zs) g a) in
        let s = last_state P g in
        let m = last_level g in
        let q : last (node 0 s m) ≡ some c = subst (λ (v : Node). last v ≡ some c) (end_node g a) (subst (λ (x : ℕ). opt_with P zs (length zs) (suc x) (node_of P g) ≡ some c) e p) in
        let j = above P.lo m in
        let (hj, i) = grid_index P m (with_grid P zs (length zs) (suc k) (node 0 s m) c q) in
        let r : end_of P last s j ≡ some c = rw (a.ends, i) q in
        let (d, r', l) = end_low P last s j c (acc.plan.ends s a.ends) hj r in
        (d, r', omega (arith, value_mono {a = d} (≼_trans {a = d} {b = c} l h), rank_value P zs g))

    -- the cost at the least end of that layer is what is listed
    pub last_listed : listed_with P zs k ≡ map value (least_end_of P last)
    last_listed = with_is P zs (built_search P (length zs) accepts) k (map value (least_end_of P last)) (λ c p. found_at c (least_end_of P last) refl p) (λ p g a e. none_at (least_end_of P last) refl p g a e)
      where
        found_at : (c : ℕ) (o : Option Cost) → least_end_of P last ≡ o → map value o ≡ some c → LeastWith P zs k c
        found_at c none e p = let z : ◌≡◌ {A = ℕ} 0 1 = cc in absurd (omega arith)
        found_at c (some b) e p =
            let w : value b ≡ c = some-injective (value b) c p in
            let (g, a, q, v) = last_met b e in
            record {
              met = (g, a, q, v ∙ w);
              least = λ g a q. let (d, r, l) = last_low g a q in let z : b ≡ d = some-injective b d (sym e ∙ r) in omega (arith, ap value z);
            }

        none_at : (o : Option Cost) → least_end_of P last ≡ o → map value o ≡ none → NoneWith P (length zs) k
        none_at none e p g a q = let (d, r, l) = last_low g a q in let z : ◌≡◌ {A = ℕ} 0 1 = cc in omega arith
        none_at (some b) e p g a q = let z : ◌≡◌ {A = ℕ} 0 1 = cc in omega arith

  module _ (R : Ready P zs) where
    pub entry_by : (k : ℕ) → listed_with P zs k ≡ reported (least_end_at P (total_at P zs (length zs) (suc k)))
    entry_by k =
        let H = total_at P zs (length zs) (suc k) in
        let h = least_end_of_lem P (last k) H (total_held P zs R (length zs) (suc k) R.some_readings R.few_readings) in
        last_listed k ∙ ap (map value) (sym h) ∙ held_value (least_end_at P H)

least_of_low : (cs : List ℕ) (k : ℕ) → k < length cs → least_of cs ≤ get_or cs k 0
unfolding least_of
least_of_low [] k h = absurd (omega arith)
least_of_low (c ∷ cs) zero h = omega arith
least_of_low (c ∷ cs) (suc k) h = omega (arith, least_of_low cs k (omega arith))

least_of_met : (cs : List ℕ) → least_of cs < most_word → (k : ℕ) × (k < length cs) × (get_or cs k 0 ≡ least_of cs)
unfolding least_of
least_of_met [] h = absurd (omega arith)
least_of_met (c ∷ cs) h = go (dec_le c (least_of cs)) (least_of_met cs)
  where
    go : Dec (c ≤ least_of cs) → (least_of cs < most_word → (k : ℕ) × (k < length cs) × (get_or cs k 0 ≡ least_of cs)) → (k : ℕ) × (k < length (c ∷ cs)) × (get_or (c ∷ cs) k 0 ≡ min c (least_of cs))
    go (yes l) ih = (0, omega arith, omega arith)
    go (no l) ih = let (k, i, e) = ih (omega arith) in (suc k, omega arith, omega arith)

module _ (P : Plan) (zs : List ℤ) (most : ℕ) (accepts : table_number P (length zs) most ≡ 0) where
  pub built_table : plan_number P ≡ 0
  built_table = built_search P (length zs) (accepted_table P (length zs) most accepts).0

  abbrev list : List ℕ
  list = entries P zs (suc most)

  at : (k : ℕ) → k ≤ most → get_or list k 0 ≡ entry_of (listed_with P zs k)
  at k h = entries_at P zs (suc most) k (omega arith)

  -- what holds whatever the costs are
  pub met_by : (k : ℕ) → k ≤ most → (get_or list k 0 ≡ most_word → ⊥) → (g : Seg) × AllowedWhole P (length zs) g × (change_count P g ≡ k) × (cost P zs g ≡ get_or list k 0)
  met_by k h off =
      let (g, a, e, w) = (entry_found P zs built_table k (λ p. off (at k h ∙ p))).met in
      (g, a, e, w ∙ sym (at k h))

  pub low_at : (g : Seg) (k : ℕ) → AllowedWhole P (length zs) g → change_count P g ≡ k → k ≤ most → get_or list k 0 ≤ cost P zs g
  low_at g k a e h = omega (arith, at k h, entry_low P zs built_table k g a e)

  pub largest_at : (k : ℕ) → k ≤ most → NoneWith P (length zs) k → get_or list k 0 ≡ most_word
  largest_at k h never = at k h ∙ entry_none P zs built_table k never

  module _ (R : Ready P zs) where
    -- a cost is below the largest word
    cost_below : (g : Seg) → AllowedWhole P (length zs) g → cost P zs g < most_word
    cost_below g a = omega (arith, cost_low P zs R.plan loss_most (losses P zs R) g a.follows, a.count, R.few_readings)

    -- such an entry is a cost, so it is not the largest word
    below_word : (g : Seg) (k : ℕ) → AllowedWhole P (length zs) g → change_count P g ≡ k → k ≤ most → get_or list k 0 < most_word
    below_word g k a e h = omega (arith, low_at g k a e h, cost_below g a)

    smallest_at : (g : Seg) → First P zs g → change_count P g ≤ most → least_of list ≡ cost P zs g
    smallest_at g f h =
        let k = change_count P g in
        let a : least_of list ≤ get_or list k 0 = least_of_low list k (omega (arith, entries_size P zs (suc most))) in
        let b : get_or list k 0 ≤ cost P zs g = low_at g k f.allowed refl h in
        let (k', i, e) = least_of_met list (omega (arith, below_word g k f.allowed refl h)) in
        let (g', a', e', w) = met_by k' (omega (arith, entries_size P zs (suc most))) (λ p. omega (arith, below_word g k f.allowed refl h)) in
        omega (arith, f.cheapest g' a')

    entries_right : Entries P zs most (entries P zs (suc most))
    entries_right = record {
      size = entries_size P zs (suc most);
      met = met_by;
      least = λ g k a e h. (low_at g k a e h, λ p. omega (arith, below_word g k a e h));
      none_largest = largest_at;
      largest_none = λ k h p g a e. omega (arith, below_word g k a e h);
      smallest = smallest_at;
    }

-- ---- "16 comes exactly where no allowed segmentation exists with any number of changes"

module _ (P : Plan) (zs : List ℤ) (most : ℕ) where
  -- one is listed, and there are costs; or none is
  abbrev Cases : Type 0
  Cases = ((g : Seg) × (listed P zs ≡ some g) × (table_of P zs most ≡ cost_list (entries P zs (suc most)))) ⊎ ((listed P zs ≡ none) × (table_of P zs most ≡ no_costs 16))

  table_cases : Cases
  unfolding table_of
  table_cases = go (listed P zs) refl
    where
      go : (o : Option Seg) → listed P zs ≡ o → Cases
      go none e = inr (e, rw e refl)
      go (some g) e = inl (g, e, rw e refl)

  pub table_else : (table_of P zs most ≡ cost_list (entries P zs (suc most))) ⊎ (table_of P zs most ≡ no_costs 16)
  table_else = go table_cases
    where
      go : Cases → (table_of P zs most ≡ cost_list (entries P zs (suc most))) ⊎ (table_of P zs most ≡ no_costs 16)
      go (inl (g, e, p)) = inl p
      go (inr (e, p)) = inr p

  -- costs are the entries
  pub table_list : (cs : List ℕ) → table_of P zs most ≡ cost_list cs → entries P zs (suc most) ≡ cs
  table_list cs q = go table_else
    where
      go : (table_of P zs most ≡ cost_list (entries P zs (suc most))) ⊎ (table_of P zs most ≡ no_costs 16) → entries P zs (suc most) ≡ cs
      go (inl p) = cc
      go (inr p) = let z : ◌≡◌ {A = ℕ} 0 1 = cc in absurd (omega arith)

  -- those of the ticket
  pub table_entries : table_number P (length zs) most ≡ 0 → Ready P zs → (cs : List ℕ) → table_of P zs most ≡ cost_list cs → Entries P zs most cs
  table_entries accepts R cs q = subst (λ (x : List ℕ). Entries P zs most x) (table_list cs q) (entries_right P zs most accepts R)

  module _ (built : plan_number P ≡ 0) where
    pub table_16 : table_of P zs most ≡ no_costs 16 → NoneAllowed P (length zs)
    table_16 q = go table_cases
      where
        go : Cases → NoneAllowed P (length zs)
        go (inl (g, e, p)) = let z : ◌≡◌ {A = ℕ} 0 1 = cc in absurd (omega arith)
        go (inr (e, p)) = listed_none P zs built e

    pub 16-table : NoneAllowed P (length zs) → table_of P zs most ≡ no_costs 16
    16-table never = go table_cases
      where
        go : Cases → table_of P zs most ≡ no_costs 16
        go (inl (g, e, p)) = absurd (never g (listed_first P zs built g e).allowed)
        go (inr (e, p)) = p

    -- the entries, where one is allowed
    pub table_found : (g : Seg) → AllowedWhole P (length zs) g → table_of P zs most ≡ cost_list (entries P zs (suc most))
    table_found g a = go table_cases
      where
        go : Cases → table_of P zs most ≡ cost_list (entries P zs (suc most))
        go (inl (g', e, p)) = p
        go (inr (e, p)) = absurd (listed_none P zs built e g a)

    -- so where one entry is a cost
    pub table_entry : (k : ℕ) → (entry_of (listed_with P zs k) ≡ most_word → ⊥) → table_of P zs most ≡ cost_list (entries P zs (suc most))
    table_entry k off = let (g, a, e, w) = (entry_found P zs built k off).met in table_found g a

  -- by the least end of a search
  module _ (accepts : search_number P (length zs) ≡ 0) (H : Table) (hold : Holding P zs (length zs) H) where
    pub table_none_by : no_cost ≤ least_end_at P H → table_of P zs most ≡ no_costs 16
    table_none_by h = 16-table (built_search P (length zs) accepts) ((demand3 P zs).whole_16 (none_by P zs accepts H hold h)).1

    sound_at : (t : ℕ) (v : Node) (c : Cost) → 1 ≤ t → opt P zs t v ≡ some c → (g : Seg) × Allowed P t g × (node_of P g ≡ v) × (rank P zs g ≡ c)
    sound_at zero v c h p = absurd (omega arith)
    sound_at (suc t) v c h p = sound P zs (acc P zs accepts).plan (opt P zs) (opt_layers P zs) t p

    pub table_found_by : least_end_at P H < no_cost → table_of P zs most ≡ cost_list (entries P zs (suc most))
    table_found_by h =
        let c : Cost = pair_of (least_end_at P H) in
        let (s, j, en, q) = end_met P (opt P zs (length zs)) c (sym (least_end_of_lem P (opt P zs (length zs)) H hold) ∙ some_held (least_end_at P H) h) in
        let (g, a, e, w) = sound_at (length zs) (node 0 s (P.lo +ℤ pos j)) c (acc P zs accepts).some_readings q in
        table_found (built_search P (length zs) accepts) g (whole_at_lem P zs accepts g s (P.lo +ℤ pos j) a e en)

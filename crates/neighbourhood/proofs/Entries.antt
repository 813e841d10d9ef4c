-- The entries, one by one, and why they or 16 are the model's answer. Assumes nothing.
use mathlib.Core.Path.{◌≡◌, refl, sym, ◌∙◌, ap, subst}
use mathlib.Core.List.{List, ◌∷◌, [], ◌++◌}
use mathlib.Core.Bool.{Bool, true, false}
use mathlib.Core.Logic.{◌⊎◌, ⊎_elim}
use Prim.Native.Nat.{ℕ, suc, ◌+◌, ◌/◌, ◌≤◌, ◌<◌}
use native.Mathlib.Omega.{arith}
use native.Mathlib.Numerals.{add-one}
use lib.Dec.{leb}
use borrow.Author.Tests.{leb-true, leb-false}
use lib.IntN.{ℤ}
use Rattle.std.specs.Prelude.{Option, Some, None}
use Rattle.std.proofs.Math.Option as M
use Rattle.std.specs.Option.{is_some, unwrap_or}
use lib.ListN.{length, get_or, take, drop, set, length-set, take-append-drop}
use lib.Seq.{take-suc, take-suc-set, drop-set-lt, drop-drop}
use Rattle.plan.specs.declared.Plan.{Plan}
use Rattle.model.specs.Labels.{label_on}
use Rattle.model.proofs.Labels.{used_some}
use Rattle.model.specs.Refusals.{search_number}
use Rattle.model.proofs.Checked.{built_search}
use Rattle.integers.specs.Pairs.{unit}
use Rattle.integers.specs.Rep.{le_or_lt}
use Rattle.quadratic.specs.Quad.{none, count_limit}
use Rattle.model.specs.Index.{reported, no_cost}
use Rattle.model.proofs.Index.{reported_some, reported_none}
use Rattle.model.specs.Held.{Table, Holding}
use Rattle.model.specs.Ends.{table_at, least_end_at}
use Rattle.model.proofs.Tables.{table_held}
use Rattle.model.specs.Totals.{total_at}
use Rattle.model.specs.Result.{Costs, cost_list, no_costs}
use Rattle.model.specs.Listed.{listed_with}
use Rattle.model.specs.Neighbourhood.{most_word, entry_of, entries, table_of}
use Rattle.model.proofs.NeighbourhoodLaws.{entry_by, entries_size, table_entry, table_none_by, table_found_by}
use Rattle.layer.specs.declared.Shape.{Shape}
use Rattle.layer.specs.Layer.{ShapeOf, place_most, LayerOf}
use Rattle.saved.specs.declared.Saved.{Saved}
use Rattle.saved.specs.Packed.{Inside}
use Rattle.saved.specs.Walk.{Workspace}
use Rattle.saved.proofs.Chains.{inside_refl, inside_wider}
use Rattle.back.specs.Read.{Readable, Reads, end_of, EndTo, layer_reads, layer_readable, readable_fewer, reads_fewer}
use Rattle.back.specs.declared.End.{End}
use Rattle.search.specs.declared.Ended.{Ended}
use Rattle.search.specs.ToldCosts as F
use Rattle.search.specs.Cheapest.{Reaches}
use Rattle.search.specs.Costs.{filled_of, costs_after, costs_looked}
use Rattle.neighbourhood.specs.Slots.{place_of, slot_of, table_limit, Ground, Slots}
use Rattle.neighbourhood.specs.Fill.{entry_told, Put, Decided, FilledTo}
use Rattle.neighbourhood.proofs.Slots.{slot_layer}

-- ---- one entry

-- the cheapest end of a layer as an entry
module _ {P : Plan} {H : Table} {r : End} (few-changes : r.low.rank.changes ≤ count_limit) (m : EndTo P H P.states r) where
  pub least_is : end_of r ≡ least_end_at P H
  unfolding least_end_at
  least_is = m.is

  cost_is : r.low.rank.value ≡ least_end_at P H / unit
  cost_is = omega (arith, least_is)

  pub entry_cost : r.low.rank.value < none → M.some r.low.rank.value ≡ reported (least_end_at P H)
  entry_cost h = ap M.some cost_is ∙ sym (reported_some (least_end_at P H) (omega (arith, least_is)))

  pub entry_none : none ≤ r.low.rank.value → M.none ≡ reported (least_end_at P H)
  entry_none h = sym (reported_none (least_end_at P H) (omega (arith, least_is)))

-- a cost that is reported is not the largest number
some_entry : (v c : ℕ) → M.some c ≡ reported v → entry_of (reported v) ≡ most_word → ⊥
some_entry v c e q = ⊎_elim
    (λ h. absurd (M.some-ne-none c (e ∙ reported_none v h)))
    (λ h. let z = ap entry_of (sym (reported_some v h)) ∙ q in let x : ◌≡◌ {A = ℕ} 0 1 = omega (arith, z) in absurd (omega (arith, x)))
    (le_or_lt no_cost v)

-- the number in the list
entry_word : (r : Option ℕ) → unwrap_or r most_word ≡ entry_of (entry_told r)
entry_word None = refl
entry_word (Some c) = refl

some_of : (r : Option ℕ) → is_some r ≡ true → (c : ℕ) × (r ≡ Some c)
some_of None e = absurd (let z : ◌≡◌ {A = ℕ} 0 1 = cc in omega arith)
some_of (Some c) e = (c, refl)

-- what is found for k changes: the number for the list, and whether it is a cost
pub record Entry (P : Plan) (zs : List ℤ) (k : ℕ) (c : Option ℕ) : Type 0 where
  pub word : unwrap_or c most_word ≡ entry_of (listed_with P zs k)
  pub cost : (x : ℕ) → c ≡ Some x → entry_of (listed_with P zs k) ≡ most_word → ⊥

module _ {P : Plan} {zs : List ℤ} {most : ℕ} {g : Shape} {ws : List ℕ} (a : Ground P zs most g ws) {b : ℕ} (m : Slots P zs most (length zs) b ws) (k : ℕ) (hk : k ≤ most) {o : ℕ} (e : o ≡ place_of P (slot_of b (suc k) (length zs))) where
  layer_here : LayerOf P (length zs) (total_at P zs (length zs) (suc k)) ws o
  layer_here = rw e (slot_layer a a.task.ready.some_readings (omega arith) m (suc k) (omega arith))

  pub may_read : o ≤ place_most → Readable 1 o g ws × ShapeOf P g
  may_read h = (readable_fewer (used_some (label_on P (length zs))) (layer_readable a.task layer_here h a.task.ready.few_readings), a.task.shape)

  pub entry_is : {c : Option ℕ} → ((H : Table) → Reads 1 o g ws H → entry_told c ≡ reported (least_end_at P H)) → Entry P zs k c
  entry_is {c} f =
      let e = f (total_at P zs (length zs) (suc k)) (reads_fewer (used_some (label_on P (length zs))) (layer_reads a.task layer_here)) in
      let l = entry_by P zs a.accepts a.task.ready k in
      record { word = entry_word c ∙ ap entry_of (e ∙ sym l); cost = λ x p q. some_entry _ x (ap entry_told (sym p) ∙ e) (ap entry_of (sym l) ∙ q) }

-- ---- all of them

-- the first k entries stand at the front, and where one is a cost the answer is not 16
pub record Entered (P : Plan) (zs : List ℤ) (most k : ℕ) (r : Bool) (list list' : List ℕ) : Type 0 where
  pub size : length list' ≡ length list
  pub done : take k list' ≡ entries P zs k
  pub some : r ≡ true → table_of P zs most ≡ cost_list (entries P zs (suc most))

pub entered_none : (P : Plan) (zs : List ℤ) (most : ℕ) (list : List ℕ) → Entered P zs most 0 false list list
unfolding entries
entered_none P zs most list = record { size = refl; done = refl; some = λ h. let z : ◌≡◌ {A = ℕ} 0 1 = cc in absurd (omega arith) }

module _ {P : Plan} {zs : List ℤ} {most k c : ℕ} {o : Option ℕ} {r : Bool} {list list' : List ℕ} (m : Entered P zs most k r list list') (h : k < length list') (e : Entry P zs k o) (w : c ≡ unwrap_or o most_word) where
  entered_done : take (k + 1) (set list' k c) ≡ entries P zs (k + 1)
  unfolding entries
  entered_done = subst (λ (x : ℕ). take x (set list' k c) ≡ entries P zs x) (sym (add-one k)) (take-suc-set list' k c h ∙ ap (λ (x : List ℕ). x ++ (c ∷ [])) m.done ∙ ap (λ (x : ℕ). entries P zs k ++ (x ∷ [])) (w ∙ e.word))

  some_cost : is_some o ≡ true → entry_of (listed_with P zs k) ≡ most_word → ⊥
  some_cost p = let (x, q) = some_of o p in e.cost x q

  -- whether one is a cost is known after each of them
  pub entered_more : search_number P (length zs) ≡ 0 → {x : Bool} → ((is_some o ≡ true) × (x ≡ true)) ⊎ (x ≡ r) → Entered P zs most (k + 1) x list (set list' k c)
  entered_more accepts q = record {
    size = length-set list' k c ∙ m.size;
    done = entered_done;
    some = λ t. ⊎_elim (λ p. table_entry P zs most (built_search P (length zs) accepts) k (some_cost p.0)) (λ p. m.some (sym p ∙ t)) q;
  }

-- ---- 16, or the entries

module _ {P : Plan} {zs : List ℤ} {most : ℕ} {g : Shape} {ws : List ℕ} (a : Ground P zs most g ws) where
  pub workspace_of : Workspace P zs g ws
  workspace_of = record { task = a.task; some = a.task.ready.some_readings; room = omega (arith, a.room) }

  -- an entry is a cost
  pub decided_some : {x : Bool} → (x ≡ true → table_of P zs most ≡ cost_list (entries P zs (suc most))) → x ≡ true → Decided P zs most false ws ws
  decided_some f e = record { none = λ q. let z : ◌≡◌ {A = ℕ} 0 1 = cc in absurd (omega arith); found = λ q. f e; inside = inside_refl _ _ ws }

  module _ {T : List Saved} {ws' : List ℕ} {r : Ended} (m : Reaches P zs T ws ws' r) where
    last_held : Holding P zs (length zs) (table_at P zs (length zs))
    last_held = table_held P zs a.task.ready (length zs) a.task.ready.some_readings a.task.ready.few_readings

    end_is : end_of r.end ≡ least_end_at P (table_at P zs (length zs))
    end_is = least_is m.changes m.ends

    pub decided : (x : Bool) → x ≡ leb none r.end.low.rank.value → Decided P zs most x ws ws'
    decided x e = record {
      none = λ q. table_none_by P zs most a.accepts (table_at P zs (length zs)) last_held (omega (arith, end_is, leb-true none r.end.low.rank.value (sym e ∙ q)));
      found = λ q. table_found_by P zs most a.accepts (table_at P zs (length zs)) last_held (omega (arith, end_is, m.changes, leb-false none r.end.low.rank.value (sym e ∙ q)));
      inside = inside_wider 0 (table_limit P most) (omega arith) (omega arith) m.walked.inside;
    }

-- ---- the answer

module _ (P : Plan) (zs : List ℤ) (most : ℕ) {ws ws' out : List ℕ} (i : Inside 0 (table_limit P most) ws ws') where
  pub filled_16 : table_of P zs most ≡ no_costs 16 → FilledTo P zs most (F.Refused 16) ws ws' out out
  filled_16 e = record { answer = ap filled_of (sym e); list = ap (λ (x : Costs). costs_after x out) (sym e); looks = ap costs_looked e; inside = i }

  pub filled_table : {n : ℕ} {list list₀ out' : List ℕ} {r : Bool} → table_of P zs most ≡ cost_list (entries P zs (suc most)) → Put P zs most r list₀ list → n ≡ suc most → out' ≡ take n list ++ drop n out → FilledTo P zs most (F.Costs n) ws ws' out out'
  filled_table {n} {list} {list₀} {out'} e p h c = record {
    answer = ap F.Costs (h ∙ sym (entries_size P zs (suc most))) ∙ ap filled_of (sym e);
    list =
        c ∙ ap (λ (x : ℕ). take x list ++ drop x out) h ∙ ap (λ (x : List ℕ). x ++ drop (suc most) out) p.done ∙ ap (λ (x : ℕ). entries P zs (suc most) ++ drop x out) (sym (entries_size P zs (suc most)))
        ∙ ap (λ (x : Costs). costs_after x out) (sym e);
    looks = ap costs_looked e;
    inside = i;
  }

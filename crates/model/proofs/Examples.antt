-- The starred examples of the scope paper (01), those of labels that ask for several changes or for one of a kind, those of kind any and those where fewer
-- changes decide as one table, a table of moving windows and one of costs for each number of changes; and one proof over all of it: the model's result of
-- each row is the expected one, which the second program gives too. Assumes nothing.
use Rattle.std.specs.Prelude.{◌≡◌, ◌⊎◌, List, [], ◌∷◌, ◌++◌, map, Bool, true, false, cond, eqb, ℤ, length}
use Rattle.std.proofs.Math.Path.{refl}
use Rattle.std.proofs.Common.{sym, ◌∙◌, ap, inl, inr, eqb-true}
use Rattle.std.proofs.Math.Option
use Prim.Native.Nat.{ℕ, zero, suc}
use Rattle.plan.specs.declared.Plan.{Plan}
use Rattle.plan.specs.Build.{plan_number, open_number, edges_number, labels_number, label_number, entry_number, edge_step, edge_of, has_edge, any_below, first_below}
use Rattle.model.specs.Cost.{◌⊕◌, meet, same, value, nothing, cost_of}
use Rattle.model.specs.Segmentation.{readings, last_level}
use Rattle.model.specs.Least.{least_below, first_of, first_hit}
use Rattle.model.specs.Model.{above, width, permits, change_of, up_of, down_of, asked_of, need, penalty, in_set, on_grid, square, loss_at, within}
use Rattle.model.specs.Rank.{first_cost, step_cost}
use Rattle.model.specs.Marks.{mark_of}
use Rattle.model.specs.Labels.{covering, label_on, used, count_after, label_test, count_before}
use Rattle.model.specs.Opt.{point_best, start_test, before, step_test, offer, step_from, opt, point_cost}
use Rattle.model.specs.Answer.{way_back, trace, end_cost, least_end, answer}
use Rattle.model.specs.Run.{run_numbers, numbers, runs, back_from, joins, is_stay}
use Rattle.model.specs.Refusals.{search_number, point_number, table_number, late}
use Rattle.plan.specs.Counts.{count_ok, count_within}
use Rattle.model.specs.Lists.{In}
use Rattle.model.specs.Result.{whole, Result, found, refused, result_of, unless, Costs, cost_list, no_costs}
use Rattle.model.specs.Window.{and_cost, part_at, starts, costs_to, windows_of}
use Rattle.model.specs.Agree.{searched}
use Rattle.model.proofs.Agree.{searched_right}
use Rattle.model.proofs.Demand3.{demand3}
use Rattle.model.proofs.Checked.{accepted_table}
use Rattle.model.specs.Ends.{least_end_of}
use Rattle.model.specs.Totals.{opt_with}
use Rattle.model.specs.Neighbourhood.{entry_of, entries, table_of}
use Rattle.model.proofs.NeighbourhoodLaws.{last_listed, built_table, table_found, 16-table}
use Rattle.model.specs.Examples.{A, A-turned, B, ChangesRow, Row, WindowRow, alone, answer_is, changes, changes_table, edge, hill, label, largest, leaving, moving, plan_of, rising, row, spike, table, toy, unless_number, window, window_table}

-- ---- one proof over all rows

-- two functions that agree on a list agree at each of its elements
map_at : {R X : Type 0} (f g : R → X) (rs : List R) → map f rs ≡ map g rs → (r : R) → In r rs → f r ≡ g r
map_at f g [] e r h = absurd h
map_at f g (x ∷ xs) e r (inl q) = let a : f x ≡ g x = cc in rw q a
map_at f g (x ∷ xs) e r (inr h) = let a : map f xs ≡ map g xs = cc in map_at f g xs a r h

-- by layers, which is quick to compute
given : Row → Result
given r = searched r.plan r.zs r.question

wanted : Row → Result
wanted r = r.expected

costs_by : Plan → List ℤ → ℕ → ℕ → Costs
costs_by P zs w zero = cost_list []
costs_by P zs w (suc k) = and_cost (costs_by P zs w k) (searched P (part_at zs w k) whole)

costs_by_lem : (P : Plan) (zs : List ℤ) (w k : ℕ) → costs_by P zs w k ≡ costs_to P zs w k
unfolding costs_to costs_by
costs_by_lem P zs w zero = refl
costs_by_lem P zs w (suc k) = rw (costs_by_lem P zs w k, searched_right P (part_at zs w k) whole) refl

window_given : WindowRow → Costs
window_given r = costs_by r.plan r.zs r.w (starts (length r.zs) r.w)

window_wanted : WindowRow → Costs
window_wanted r = r.expected

-- the entries by the layers of each number of changes, and 16 by a search
entries_by : Plan → List ℤ → ℕ → List ℕ
entries_by P zs zero = []
entries_by P zs (suc n) = entries_by P zs n ++ (entry_of (Option.map value (least_end_of P (opt_with P zs (length zs) (suc n)))) ∷ [])

unless_refused : Result → List ℕ → Costs
unless_refused (found c ns) cs = cost_list cs
unless_refused (refused n) cs = no_costs n

module _ (P : Plan) (zs : List ℤ) where
  entries_by_lem : search_number P (length zs) ≡ 0 → (n : ℕ) → entries_by P zs n ≡ entries P zs n
  unfolding entries_by entries
  entries_by_lem h zero = refl
  entries_by_lem h (suc n) = rw (entries_by_lem h n, last_listed P zs h n) refl

  table_by : (most : ℕ) → table_number P (length zs) most ≡ 0 → unless_refused (searched P zs whole) (entries_by P zs (suc most)) ≡ table_of P zs most
  unfolding unless_refused
  table_by most h = go (searched P zs whole) (searched_right P zs whole) ((demand3 P zs).whole_else number)
    where
      number : search_number P (length zs) ≡ 0
      number = (accepted_table P (length zs) most h).0

      go : (r : Result) → r ≡ result_of P zs whole → ((c : ℕ) × (ns : List ℤ) × (result_of P zs whole ≡ found c ns)) ⊎ (result_of P zs whole ≡ refused 16) → unless_refused r (entries_by P zs (suc most)) ≡ table_of P zs most
      go r e (inl (c, ns, q)) =
          let (g, f, _, _) = (demand3 P zs).whole_found c ns q in
          ap (λ (x : Result). unless_refused x (entries_by P zs (suc most))) (e ∙ q) ∙ ap cost_list (entries_by_lem number (suc most)) ∙ sym (table_found P zs most (built_table P zs most h) g f.allowed)
      go r e (inr q) =
          ap (λ (x : Result). unless_refused x (entries_by P zs (suc most))) (e ∙ q) ∙ sym (16-table P zs most (built_table P zs most h) ((demand3 P zs).whole_16 q).1)

unless_number_lem : (n : ℕ) (r r' : Costs) → (n ≡ 0 → r ≡ r') → unless_number n r ≡ unless_number n r'
unfolding unless_number
unless_number_lem n r r' h = go (eqb n 0) refl
  where
    go : (b : Bool) → eqb n 0 ≡ b → cond b r (no_costs n) ≡ cond b r' (no_costs n)
    go true e = h (eqb-true n 0 e)
    go false e = refl

changes_given : ChangesRow → Costs
changes_given r = unless_number (table_number r.plan (length r.zs) r.most) (unless_refused (searched r.plan r.zs whole) (entries_by r.plan r.zs (suc r.most)))

changes_wanted : ChangesRow → Costs
changes_wanted r = r.expected

computed : (map given table ≡ map wanted table) × (map window_given window_table ≡ map window_wanted window_table) × (map changes_given changes_table ≡ map changes_wanted changes_table)
unfolding changes_table changes_given changes_wanted changes largest spike entries_by unless_refused unless_number table_number opt_with least_end_of table given wanted window_table window_given window_wanted window costs_by row answer_is toy hill label A A-turned moving B alone rising leaving plan_of edge searched unless search_number point_number count_ok count_within late plan_number open_number edges_number labels_number label_number entry_number edge_step edge_of has_edge any_below first_below run_numbers numbers runs back_from joins is_stay readings last_level ◌⊕◌ meet same value nothing cost_of first_cost step_cost answer first_hit first_of way_back trace least_end end_cost least_below width above opt step_from offer step_test before start_test permits change_of up_of down_of asked_of mark_of need penalty in_set on_grid square loss_at within covering label_on count_after label_test count_before used point_cost point_best
computed = (refl, refl, refl)

pub examples : (r : Row) → In r table → result_of r.plan r.zs r.question ≡ r.expected
unfolding given wanted
examples r h = sym (searched_right r.plan r.zs r.question) ∙ map_at given wanted table computed.0 r h

pub window_examples : (r : WindowRow) → In r window_table → windows_of r.plan r.zs r.w ≡ r.expected
unfolding window_given window_wanted windows_of
window_examples r h = sym (costs_by_lem r.plan r.zs r.w (starts (length r.zs) r.w)) ∙ map_at window_given window_wanted window_table computed.1 r h

pub changes_examples : (r : ChangesRow) → In r changes_table → unless_number (table_number r.plan (length r.zs) r.most) (table_of r.plan r.zs r.most) ≡ r.expected
unfolding changes_given changes_wanted
changes_examples r h =
    sym (unless_number_lem (table_number r.plan (length r.zs) r.most) _ _ (table_by r.plan r.zs r.most)) ∙ map_at changes_given changes_wanted changes_table computed.2 r h

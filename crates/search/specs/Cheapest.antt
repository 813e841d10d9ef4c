-- The forward half of the search: the layer after the last reading and its cheapest end, which alone tell the cost or 16. Assumes nothing.
use Rattle.std.specs.Prelude.{◌≡◌, List, reverse, ℕ, ◌/◌, ◌≤◌, ◌<◌, ℤ, pos, ◌+ℤ◌, length}
use Rattle.std.proofs.Common.{sym, ◌∙◌, ap, arith}
use Rattle.integers.specs.Pairs.{unit}
use Rattle.quadratic.specs.Quad.{none, count_limit}
use Rattle.plan.specs.declared.Plan.{Plan}
use Rattle.model.specs.Run.{numbers}
use Rattle.model.specs.Runs.{walk_back}
use Rattle.model.specs.Refusals.{search_number}
use Rattle.model.specs.Result.{found, refused, whole, result_of}
use Rattle.model.specs.Nodes.{node}
use Rattle.model.specs.Index.{no_cost}
use Rattle.model.specs.Held.{Table, Holding}
use Rattle.model.specs.Ends.{table_at, least_end_at}
use Rattle.model.proofs.Ends.{none_by, found_by}
use Rattle.model.proofs.Tables.{table_held, end_is}
use Rattle.layer.specs.declared.Shape.{Shape}
use Rattle.saved.specs.declared.Saved.{Saved}
use Rattle.saved.specs.Walk.{Workspace, Walked}
use Rattle.back.specs.Read.{end_of, EndTo}
use Rattle.search.specs.declared.Ended.{Ended}

pub record Reaches (P : Plan) (zs : List ℤ) (T : List Saved) (ws ws' : List ℕ) (r : Ended) : Type 0 where
  pub walked : Walked P zs (length zs) T ws ws' r.walk
  pub ends : EndTo P (table_at P zs (length zs)) P.states r.end
  pub changes : r.end.low.rank.changes ≤ count_limit

module _ {P : Plan} {zs : List ℤ} {g : Shape} {T : List Saved} {ws ws' : List ℕ} {r : Ended} (accepts : search_number P (length zs) ≡ 0) (space : Workspace P zs g ws) (a : Reaches P zs T ws ws' r) where
  abbrev last_table : Table
  last_table = table_at P zs (length zs)

  hold : Holding P zs (length zs) last_table
  hold = table_held P zs space.task.ready (length zs) space.some space.task.ready.few_readings

  least_is : end_of r.end ≡ least_end_at P last_table
  unfolding least_end_at
  least_is = a.ends.is

  pub cheapest_none : none ≤ r.end.low.rank.value → result_of P zs whole ≡ refused 16
  cheapest_none h = none_by P zs accepts last_table hold (omega (arith, least_is))

  module _ (low : r.end.low.rank.value < none) where
    pub end_low : end_of r.end < no_cost
    end_low = omega (arith, a.changes)

    low_now : least_end_at P last_table < no_cost
    low_now = omega (arith, least_is, end_low)

    -- the runs of the way back from the end, which nothing has computed yet
    abbrev pub runs_back : List ℤ
    runs_back = numbers (reverse (walk_back P zs (length zs) (length zs) (node 0 r.end.state (P.lo +ℤ pos r.end.low.level))))

    pub cheapest_some : result_of P zs whole ≡ found r.end.low.rank.value runs_back
    cheapest_some =
        found_by P zs accepts last_table hold r.end.state r.end.low.level (a.ends.state end_low) (a.ends.level end_low) low_now (a.ends.met end_low ∙ least_is)
        (λ s j hs hj q. a.ends.lowest end_low s j hs hj (q ∙ sym least_is))
        ∙ ap (λ (x : ℕ). found x runs_back) cost_is
      where
        cost_is : least_end_at P last_table / unit ≡ r.end.low.rank.value
        cost_is = omega (arith, least_is, a.changes)

    -- where the way back begins
    pub end_cost_lem : end_of r.end ≡ last_table 0 r.end.state r.end.low.level
    end_cost_lem = least_is ∙ sym (end_is P last_table r.end.state r.end.low.level low_now (a.ends.met end_low ∙ least_is)).1

-- The search in numbers alone. A code that holds, for each reading, the values of `table_at` has here all that a search or a point asks, with no
-- layer of the model left in it:
--   before it looks     `ready_search` or `ready_point`, once no number of `Refusals` refuses
--   a layer             `table_at`: `first_table`, then `next_table` of the one before, for each kind of edge `edge_min` (`Index`); every number is
--                       low or none (`table_cases`)
--   the labels          `label_on_at`, `label_on_none` (`Labels`), then by cases which edges lead to a count, and from which count: `leads_free`,
--                       `leads_closing`, `leads_inside`, `from_free`, `from_closing`, `from_inside`
--   the result          with `table_held` of the last layer: `none_by`, `found_by`, `point_by` (`Ends`)
--   the walk back       an edge meets the number (`some_edge`), and a level (`some_level`); at the lowest of them `step_walk`; at the first
--                       reading `walk_first` (`Ends`); it starts at `end_is`, and there are few runs (`few_runs_at`)
-- Assumes nothing.
use Rattle.std.specs.Prelude.{List, ℤ, length, get_or}
use Prim.Native.Nat.{ℕ, ◌≤◌, ◌<◌}
use Rattle.std.proofs.Math.IntN.{pos}
use Rattle.std.specs.Int.Signed.{mag}
use Rattle.plan.specs.declared.Plan.{Plan}
use Rattle.model.specs.Checked.{Checked}

-- what a call knows once no number refuses; the ranges are those of the types
pub record Ready (P : Plan) (zs : List ℤ) : Type 0 where
  pub plan : Checked P
  pub some_readings : 1 ≤ length zs
  pub few_readings : length zs ≤ 4096
  pub lo_16 : mag P.lo < 32768
  pub hi_16 : mag P.hi < 32768
  pub readings_16 : (t : ℕ) → mag (get_or zs t (pos 0)) < 32768

-- Why the search gives the model's answer. Assumes nothing.
use mathlib.Core.Path.{◌≡◌, refl, sym, ◌∙◌, ap, subst}
use mathlib.Core.List.{List, [], ◌∷◌, ◌++◌, reverse}
use Prim.Native.Nat.{ℕ, ◌+◌, ◌*◌, ◌/◌, ◌≤◌, ◌<◌}
use native.Mathlib.Omega.{arith}
use lib.IntN.{ℤ, pos, ◌+ℤ◌}
use lib.ListN.{length, get_or, length-append, length-reverse}
use lib.Signed.{mag}
use Rattle.plan.specs.declared.Plan.{Plan}
use Rattle.model.specs.Run as M
use Rattle.model.specs.Run.{numbers}
use Rattle.model.proofs.RunLaws.{numbers_length}
use Rattle.model.specs.Labels.{label_on}
use Rattle.model.proofs.Labels.{used_some}
use Rattle.model.specs.Refusals.{search_number}
use Rattle.model.specs.Result.{Result, found, whole, result_of}
use Rattle.quadratic.specs.Quad.{none, count_limit}
use Rattle.model.specs.Held.{Table}
use Rattle.model.specs.Ends.{table_at}
use Rattle.model.proofs.Ends.{walk_first}
use Rattle.model.specs.Tables.{Ready}
use Rattle.model.proofs.Tables.{ready_search}
use Rattle.model.specs.Checked.{Checked}
use Rattle.model.proofs.Checked.{accepted}
use Rattle.layer.specs.declared.Shape.{Shape}
use Rattle.layer.specs.Layer.{Layer, ShapeOf, Shape-small}
use Rattle.layer.specs.Next.{Task}
use Rattle.saved.specs.declared.Walk.{Walk}
use Rattle.saved.specs.declared.Saved.{Saved}
use Rattle.saved.specs.Walk.{Workspace, Walked, limit_cell}
use Rattle.saved.proofs.Chains.{inside_then}
use Rattle.back.specs.declared.End.{End}
use Rattle.back.specs.Read.{Readable, Reads, EndTo, layer_reads, layer_readable, readable_fewer, reads_fewer}
use Rattle.runs.specs.Runs.{holds_is}
use Rattle.trace.specs.declared.Point.{Point}
use Rattle.trace.specs.Trace.{node_at}
use Rattle.search.specs.declared.Ended.{Ended}
use Rattle.search.specs.Told.{Segmentation, Refused}
use Rattle.search.specs.Search.{work_words, found_of, runs_after, looked}
use Rattle.search.specs.Cheapest.{Reaches, cheapest_none, cheapest_some, end_low, end_cost_lem}
use Rattle.search.specs.Way.{WayReady, WayTo, Finished}
use Rattle.search.specs.Solve.{Solvable, Solved}
use Rattle.search.proofs.Ways.{still_space, place_low}

-- ---- the task

pub task_of : {P : Plan} {zs : List ℤ} {g : Shape} → Ready P zs → ShapeOf P g → Task P zs g
task_of R e = record { ready = R; shape = e }

-- ---- the search

five_over : (n : ℕ) → 5 * n / 5 ≡ n
five_over n = omega arith

-- the last layer is read
module _ {P : Plan} {zs : List ℤ} {g : Shape} {ws : List ℕ} {T : List Saved} {ws' : List ℕ} {w : Walk} (a : Workspace P zs g ws) (m : Walked P zs (length zs) T ws ws' w) where
  layer_now : Layer P zs (length zs) ws' w.cur
  layer_now = subst (λ (x : ℕ). Layer P zs x ws' w.cur) m.time m.at.layer

  pub may_read : Readable 1 w.cur g ws' × ShapeOf P g
  may_read = (readable_fewer (used_some (label_on P (length zs))) (layer_readable a.task layer_now (place_low a.task m.at) a.task.ready.few_readings), a.task.shape)

  pub reaches : {e : End} → (e.low.rank.changes ≤ count_limit) × ((H : Table) → Reads 1 w.cur g ws' H → EndTo P H P.states e) → Reaches P zs T ws ws' (record { walk = w; end = e })
  reaches (h, f) = record { walked = m; changes = h; ends = f (table_at P zs (length zs)) (reads_fewer (used_some (label_on P (length zs))) (layer_reads a.task layer_now)) }

module _ {P : Plan} {zs : List ℤ} {g : Shape} {ws : List ℕ} {out : List ℤ} (a : Solvable P zs g ws out) {T : List Saved} {ws' : List ℕ} {r : Ended} (m : Reaches P zs T ws ws' r) where
  abbrev task : Task P zs g
  task = a.space.task

  abbrev e : End
  e = r.end

  pub none_found : none ≤ e.low.rank.value → Solved P zs (Refused 16) ws ws' out out
  none_found h =
      let q = cheapest_none a.accepts a.space m h in
      record { answer = ap found_of (sym q); runs = ap (λ (r : Result). runs_after r out) (sym q); looks = ap looked q; inside = m.walked.inside }

  module _ (low : e.low.rank.value < none) where
    abbrev from : Point
    from = record { key = record { count = 0; state = e.state }; low = e.low; last = length zs; runs = 0 }

    pub way_ready : WayReady P zs g r.walk from T ws' out
    way_ready = record {
      space = still_space a.space m.walked.inside;
      at = m.walked.at;
      stack = m.walked.stack;
      time = m.walked.time;
      here = let h = end_low a.accepts a.space m low in record { count = omega arith; state = m.ends.state h; level = m.ends.level h; is = end_cost_lem a.accepts a.space m low; some = h; changes = m.changes };
      last = refl;
      none = refl;
      room = a.room;
    }

    module _ {p : Point} {ws'' : List ℕ} {out' : List ℤ} (v : WayTo P zs 0 from p ws' ws'' out out') where
      pub runs_ready : (p.key.state < 8) × ((p.low.level < 1024) × ((p.last ≤ 4096) × ((p.runs < 4096) × (5 * p.runs + 5 ≤ length out'))))
      runs_ready =
          (omega (arith, v.here.state, task.ready.plan.few_states), (omega (arith, v.here.level, task.ready.plan.narrow), (omega (arith, v.last, task.ready.few_readings), (omega (arith, v.few, task.ready.few_readings), omega (arith, v.few, a.room, v.size)))))

      -- all runs, first to last
      abbrev all : List M.Run
      all = reverse (v.done ++ (M.run 1 p.last p.key.state (P.lo +ℤ pos p.low.level) 255 ∷ []))

      answer_is : result_of P zs whole ≡ found e.low.rank.value (numbers all)
      answer_is =
          cheapest_some a.accepts a.space m low
          ∙ ap (λ (x : List M.Run). found e.low.rank.value (numbers (reverse x))) (v.way ∙ ap (λ (x : List M.Run). v.done ++ x) (walk_first P zs p.last (node_at P p)))

      all_length : length all ≡ p.runs + 1
      all_length = length-reverse (v.done ++ (M.run 1 p.last p.key.state (P.lo +ℤ pos p.low.level) 255 ∷ [])) ∙ omega (arith, length-append v.done (M.run 1 p.last p.key.state (P.lo +ℤ pos p.low.level) 255 ∷ []), v.count)

      pub solved : {n : ℕ} {out'' : List ℤ} → Finished P p n out' out'' → Solved P zs (Segmentation e.low.rank.value n) ws ws'' out out''
      solved {n} {out''} d = record {
        answer = count_is ∙ ap found_of (sym answer_is);
        runs = holds_is all out out'' (omega (arith, all_length, v.few, a.room)) (d.holds v.done out v.count v.holds) ∙ ap (λ (r : Result). runs_after r out) (sym answer_is);
        looks = ap looked answer_is;
        inside = inside_then m.walked.inside v.inside;
      }
        where
          count_is : Segmentation e.low.rank.value n ≡ Segmentation e.low.rank.value (length (numbers all) / 5)
          count_is =
              let q : n ≡ length (numbers all) / 5 = d.count ∙ sym all_length ∙ sym (five_over (length all)) ∙ ap (λ (x : ℕ). x / 5) (sym (numbers_length all)) in
              rw (← q) refl

-- ---- what the call knows once no number refuses

module _ {P : Plan} {g : Shape} (c : Checked P) (e : ShapeOf P g) where
  pub small_of : Shape-small g
  small_of = record { states = omega (arith, e.states, c.few_states); levels = omega (arith, e.levels, c.narrow) }

  pub need_is : (n : ℕ) → n ≡ limit_cell * (g.states * g.grid.levels) → n ≡ work_words P
  unfolding work_words
  need_is n q = q ∙ ap (λ (x : ℕ). limit_cell * (x * g.grid.levels)) e.states ∙ ap (λ (x : ℕ). limit_cell * (P.states * x)) e.levels

module _ (P : Plan) (zs : List ℤ) (n : ℕ) (en : n ≡ search_number P (length zs)) (z : n ≡ 0) where
  pub accepts : search_number P (length zs) ≡ 0
  accepts = sym en ∙ z

  pub checked_of : Checked P
  checked_of = (accepted P (length zs) accepts).plan

  pub few_of : length zs ≤ 4096
  few_of = (accepted P (length zs) accepts).few_readings

  pub solvable : {g : Shape} {ws : List ℕ} {out : List ℤ} → ShapeOf P g × ((mag P.lo < 32768) × (mag P.hi < 32768)) → ((t : ℕ) → mag (get_or zs t (pos 0)) < 32768)
      → (need : ℕ) → need ≡ work_words P → need ≤ length ws → 5 * length zs ≤ length out → Solvable P zs g ws out
  unfolding work_words
  solvable e r need q h k =
      let R = ready_search P zs e.1.0 e.1.1 r accepts in
      record { accepts = accepts; space = record { task = task_of R e.0; some = R.some_readings; room = omega arith }; room = k }

-- The search in numbers alone. A code that holds, for each reading, the values of `table_at` has here all that a search or a point asks, with no
-- layer of the model left in it:
--   before it looks     `ready_search` or `ready_point`, once no number of `Refusals` refuses
--   a layer             `table_at`: `first_table`, then `next_table` of the one before, for each kind of edge `edge_min` (`Index`); every number is
--                       low or none (`table_cases`)
--   the labels          `label_on_at`, `label_on_none` (`Labels`), then by cases which edges lead to a count, and from which count: `leads_free`,
--                       `leads_closing`, `leads_inside`, `from_free`, `from_closing`, `from_inside`
--   the result          with `table_held` of the last layer: `none_by`, `found_by`, `point_by` (`Ends`)
--   the walk back       an edge meets the number (`some_edge`), and a level (`some_level`); at the lowest of them `step_walk`; at the first
--                       reading `walk_first` (`Ends`); it starts at `end_is`, and there are few runs (`few_runs_at`)
-- Assumes nothing.
use Rattle.std.specs.Prelude.{◌≡◌, ◌⊎◌, List, ◌∷◌, Bool, ◌&&◌, leb, ltb, ℤ, ◌+ℤ◌, length, get_or}
use Rattle.std.proofs.Math.Path.{refl}
use Rattle.std.proofs.Common.{sym, ◌∙◌, inl, inr}
use Rattle.std.proofs.Math.Option.{none, some}
use Rattle.std.proofs.Math.Bool.{true, false, cond}
use Prim.Native.Nat.{ℕ, zero, suc, ◌+◌, ◌-◌, ◌*◌, ◌≤◌, ◌<◌}
use native.Mathlib.Omega.{arith}
use Rattle.std.proofs.Math.Decide.{dec_lt}
use Rattle.std.proofs.Math.Dec.{eqb}
use borrow.Author.Tests.{ltb-true, ltb-false, leb-true, eqb-true, le-leb, eq-eqb, ne_eqb}
use Rattle.std.proofs.Math.IntN.{pos}
use Rattle.std.specs.Int.Signed.{mag}
use Rattle.integers.specs.Pairs.{unit}
use Rattle.plan.specs.declared.Plan.{Plan}
use Rattle.plan.specs.declared.Label.{Label}
use Rattle.model.specs.Model.{edge_at, need, width, in_set, on_grid, loss_at}
use Rattle.model.specs.Refusals.{search_number, point_number}
use Rattle.model.specs.Run.{run, joins}
use Rattle.model.proofs.Checked.{accepted, accepted_point}
use Rattle.model.proofs.Bools.{and_yes, yes_and, same_test}
use Rattle.model.proofs.Grid.{index_grid}
use Rattle.model.specs.Marks.{mark_of}
use Rattle.model.specs.Labels.{label_on, label_test, count_after, count_before, counts}
use Rattle.model.specs.Nodes.{node}
use Rattle.model.specs.Opt.{opt}
use Rattle.model.specs.Index.{pair_of, no_cost, Permitted}
use Rattle.model.proofs.Index.{some_held, edge_min_lem, permitted_yes}
use Rattle.model.specs.Held.{Table, Holding, raise, min_below, from_count, leads_at, edge_least, edge_weight, by_edge, first_table, next_from}
use Rattle.model.proofs.Held.{min_met, number_low, opt_low, next_most}
use Rattle.model.specs.Runs.{walk_back}
use Rattle.model.proofs.Runs.{walk_few}
use Rattle.model.specs.Ends.{end_at, least_end_at, loss_most, step_most, table_at}
use Rattle.model.proofs.Ends.{losses_low, room, table_holding, walk_on, earlier_count}
use Rattle.model.specs.Tables.{Ready}

module _ (P : Plan) (zs : List ℤ) (lo_16 : mag P.lo < 32768) (hi_16 : mag P.hi < 32768) (readings_16 : (t : ℕ) → mag (get_or zs t (pos 0)) < 32768) where
  pub ready_search : search_number P (length zs) ≡ 0 → Ready P zs
  ready_search h =
      let a = accepted P (length zs) h in
      record { plan = a.plan; some_readings = a.some_readings; few_readings = a.few_readings; lo_16 = lo_16; hi_16 = hi_16; readings_16 = readings_16 }

  pub ready_point : (s : ℕ) (m : ℤ) → point_number P (length zs) s m ≡ 0 → Ready P zs
  ready_point s m h =
      let a = accepted_point P (length zs) s m h in
      record { plan = a.plan; some_readings = a.some_readings; few_readings = a.few_readings; lo_16 = lo_16; hi_16 = hi_16; readings_16 = readings_16 }

-- ---- what the labels ask of an edge at boundary t, case by case: no label has the boundary, it is a label's last one, or another of it

after_minus : (m n : ℕ) → eqb (n - m + m) n ≡ leb m n
after_minus m n =
    same_test (eqb (n - m + m) n) (leb m n) (λ h. le-leb m n (omega (arith, eqb-true (n - m + m) n h))) (λ h. eq-eqb (n - m + m) n (omega (arith, leb-true m n h)))

minus_inside : (m k n : ℕ) → (leb (k - m + m) n && eqb k (k - m + m)) ≡ (leb m k && leb k n)
minus_inside m k n = same_test (leb (k - m + m) n && eqb k (k - m + m)) (leb m k && leb k n)
    (λ h. let (a, b) = and_yes (leb (k - m + m) n) (eqb k (k - m + m)) h in
    let c = leb-true (k - m + m) n a in
    let d = eqb-true k (k - m + m) b in
    yes_and _ _ (le-leb m k (omega arith)) (le-leb k n (omega arith)))
    (λ h. let (a, b) = and_yes (leb m k) (leb k n) h in
    let c = leb-true m k a in
    let d = leb-true k n b in
    yes_and _ _ (le-leb (k - m + m) n (omega arith)) (eq-eqb k (k - m + m) (omega arith)))

module _ (P : Plan) (t e k s : ℕ) where
  module _ (free : label_on P t ≡ none) where
    pub from_free : from_count P t e k ≡ 0
    unfolding from_count count_before
    from_free = rw free refl

    pub leads_free : leads_at P t e k s ≡ (eqb s (edge_at P e).to && eqb k 0)
    unfolding leads_at label_test count_after
    leads_free = rw (from_free, free) refl

  module _ (l : Label) (on : label_on P t ≡ some l) where
    abbrev mark : ℕ
    mark = mark_of l (edge_at P e).kind

    module _ (last : suc t ≡ l.q) where
      pub from_closing : from_count P t e k ≡ need l - mark
      unfolding from_count count_before
      from_closing = rw (on, eq-eqb (suc t) l.q last) refl

      pub leads_closing : leads_at P t e k s ≡ (eqb s (edge_at P e).to && (leb mark (need l) && eqb k 0))
      unfolding leads_at label_test count_after
      leads_closing = rw (from_closing, on, eq-eqb (suc t) l.q last, after_minus mark (need l)) refl

    module _ (inside : suc t ≡ l.q → ⊥) where
      pub from_inside : from_count P t e k ≡ k - mark
      unfolding from_count count_before
      from_inside = rw (on, ne_eqb (suc t) l.q inside) refl

      pub leads_inside : leads_at P t e k s ≡ (eqb s (edge_at P e).to && (leb mark k && leb k (need l)))
      unfolding leads_at label_test count_after
      leads_inside = rw (from_inside, on, ne_eqb (suc t) l.q inside, minus_inside mark k (need l)) refl

-- ---- the end from which the walk back starts

pub end_is : (P : Plan) (H : Table) (s j : ℕ) → least_end_at P H < no_cost → end_at P H s j ≡ least_end_at P H → (in_set P.end s ≡ true) × (H 0 s j ≡ least_end_at P H)
unfolding end_at
end_is P H s j low e = go (in_set P.end s) refl e
  where
    go : (b : Bool) → in_set P.end s ≡ b → cond b (H 0 s j) no_cost ≡ least_end_at P H → (in_set P.end s ≡ true) × (H 0 s j ≡ least_end_at P H)
    go true p q = (p, q)
    go false p q = absurd (omega arith)

-- ---- the layers

module _ (P : Plan) (zs : List ℤ) (R : Ready P zs) where
  pub losses : (t : ℕ) (m : ℤ) → on_grid P m ≡ true → loss_at zs t m ≤ loss_most
  losses = losses_low P zs R.lo_16 R.hi_16 R.readings_16

  pub table_held : (t : ℕ) → 1 ≤ t → t ≤ 4096 → Holding P zs t (table_at P zs t)
  table_held zero h k = absurd (omega arith)
  table_held (suc t) h k = table_holding P zs R.plan losses t (omega arith)

  value_held : (t k s j : ℕ) → 1 ≤ t → t ≤ 4096 → k < counts → s < P.states → j < width P → table_at P zs t k s j < no_cost
      → opt P zs t (node k s (P.lo +ℤ pos j)) ≡ some (pair_of (table_at P zs t k s j))
  value_held t k s j h l hk hs hj d = sym ((table_held t h l).at k s j hk hs hj) ∙ some_held (table_at P zs t k s j) d

  pub first_most : (k s j : ℕ) → j < width P → first_table P zs k s j ≤ no_cost
  unfolding first_table
  first_most k s j hj = go (in_set P.start s && eqb k 0)
    where
      go : (b : Bool) → cond b (unit * loss_at zs 0 (P.lo +ℤ pos j)) no_cost ≤ no_cost
      go true = omega (arith, losses 0 (P.lo +ℤ pos j) (index_grid P R.plan.grid j hj))
      go false = omega arith

  table_most : (t k s j : ℕ) → 1 ≤ t → t ≤ 4096 → j < width P → table_at P zs t k s j ≤ no_cost
  unfolding table_at
  table_most zero k s j h l hj = absurd (omega arith)
  table_most (suc zero) k s j h l hj = first_most k s j hj
  table_most (suc (suc t)) k s j h l hj =
      next_most P zs R.plan loss_most losses (suc t) (omega arith) (table_at P zs (suc t)) (table_held (suc t) (omega arith) (omega arith)) (room (suc t) (omega arith)) k s j hj

  -- a number is none, or at most what so many readings cost
  pub table_cases : (t k s j : ℕ) → 1 ≤ t → t ≤ 4096 → k < counts → s < P.states → j < width P
      → (table_at P zs t k s j ≡ no_cost) ⊎ (table_at P zs t k s j ≤ t * step_most)
  table_cases t k s j h l hk hs hj = go (dec_lt (table_at P zs t k s j) no_cost) (table_most t k s j h l hj)
    where
      go : Dec (table_at P zs t k s j < no_cost) → table_at P zs t k s j ≤ no_cost → (table_at P zs t k s j ≡ no_cost) ⊎ (table_at P zs t k s j ≤ t * step_most)
      go (yes d) m =
          inr (number_low loss_most t (table_at P zs t k s j) (opt_low P zs R.plan loss_most losses t (node k s (P.lo +ℤ pos j)) (pair_of (table_at P zs t k s j)) (value_held t k s j h l hk hs hj d)))
      go (no d) m = inl (omega arith)

  -- there are no more runs than readings
  pub few_runs_at : (n t k s j : ℕ) → t < 4096 → k < counts → s < P.states → j < width P → table_at P zs (suc t) k s j < no_cost
      → length (walk_back P zs n (suc t) (node k s (P.lo +ℤ pos j))) ≤ suc t
  few_runs_at n t k s j l hk hs hj d = walk_few P zs n t (node k s (P.lo +ℤ pos j)) (pair_of (table_at P zs (suc t) k s j)) (value_held (suc t) k s j (omega arith) l hk hs hj d)

  -- ---- one step back, from the number at count k, state s and index j after t + 2 readings

  module _ (t k s j : ℕ) (ht : suc (suc t) ≤ length zs) (hk : k < counts) (hs : s < P.states) (hj : j < width P) (low : table_at P zs (suc (suc t)) k s j < no_cost) where
    -- the numbers one reading earlier
    abbrev T : Table
    T = table_at P zs (suc t)

    -- the edge leads here, and its least over the permitted levels meets the number
    abbrev pub MeetsAt : ℕ → Type 0
    MeetsAt e =
        (leads_at P (suc t) e k s ≡ true) × (edge_least P (suc t) T k j e < no_cost)
        × (edge_least P (suc t) T k j e + (edge_weight P e + unit * loss_at zs (suc t) (P.lo +ℤ pos j)) ≡ table_at P zs (suc (suc t)) k s j)

    pub some_edge : (e : ℕ) × (e < P.edgecount) × MeetsAt e
    unfolding table_at next_from by_edge raise
    some_edge = outer (ltb m no_cost) refl low
      where
        f : ℕ → ℕ
        f = by_edge P (suc t) T k s j

        m : ℕ
        m = min_below P.edgecount f

        loss : ℕ
        loss = unit * loss_at zs (suc t) (P.lo +ℤ pos j)

        inner : (e : ℕ) → (b : Bool) → leads_at P (suc t) e k s ≡ b → (c : Bool) → ltb (edge_least P (suc t) T k j e) no_cost ≡ c
            → cond b (cond c (edge_least P (suc t) T k j e + edge_weight P e) (edge_least P (suc t) T k j e)) no_cost ≡ m → m < no_cost
            → (leads_at P (suc t) e k s ≡ true) × (edge_least P (suc t) T k j e < no_cost) × (edge_least P (suc t) T k j e + (edge_weight P e + loss) ≡ m + loss)
        inner e true p true q w h = (p, ltb-true (edge_least P (suc t) T k j e) no_cost q, omega arith)
        inner e true p false q w h = absurd (omega (arith, ltb-false (edge_least P (suc t) T k j e) no_cost q))
        inner e false p c q w h = absurd (omega arith)

        outer : (b : Bool) → ltb m no_cost ≡ b → cond b (m + loss) m < no_cost → (e : ℕ) × (e < P.edgecount)
            × ((leads_at P (suc t) e k s ≡ true) × (edge_least P (suc t) T k j e < no_cost) × (edge_least P (suc t) T k j e + (edge_weight P e + loss) ≡ cond b (m + loss) m))
        outer true q v =
            let h = ltb-true m no_cost q in
            let (e, he, w) = min_met P.edgecount f h in
            (e, he, inner e (leads_at P (suc t) e k s) refl (ltb (edge_least P (suc t) T k j e) no_cost) refl w h)
        outer false q v = absurd (omega (arith, ltb-false m no_cost q))

    module _ (e : ℕ) (he : e < P.edgecount) (meets : MeetsAt e) where
      pub some_level : (i : ℕ) × (i < width P) × Permitted (edge_at P e).kind i j × (T (from_count P (suc t) e k) (edge_at P e).from i ≡ edge_least P (suc t) T k j e)
      unfolding width
      some_level =
          let (i, hi, a, w) = (edge_min_lem (width P) (edge_at P e).kind (T (from_count P (suc t) e k) (edge_at P e).from)).met j hj meets.1 in
          (i, hi, permitted_yes (edge_at P e).kind i j a, w)

      -- the edge is the lowest that meets the number, and the level the lowest that has its least: the walk goes on from there
      module _ (lowest-edge : (e' : ℕ) → e' < e → MeetsAt e' → ⊥) (i : ℕ) (hi : i < width P) (permitted : Permitted (edge_at P e).kind i j)
          (least : T (from_count P (suc t) e k) (edge_at P e).from i ≡ edge_least P (suc t) T k j e)
          (lowest-level : (i' : ℕ) → i' < i → Permitted (edge_at P e).kind i' j → T (from_count P (suc t) e k) (edge_at P e).from i' ≡ edge_least P (suc t) T k j e → ⊥) where
        space : suc (suc t) * step_most < no_cost
        space = room (suc t) (omega (arith, R.few_readings))

        value_is : opt P zs (suc (suc t)) (node k s (P.lo +ℤ pos j)) ≡ some (pair_of (table_at P zs (suc (suc t)) k s j))
        value_is = value_held (suc (suc t)) k s j (omega arith) (omega (arith, R.few_readings)) hk hs hj low

        earlier_held : Holding P zs (suc t) T
        earlier_held = table_held (suc t) (omega arith) (omega (arith, R.few_readings))

        pub step_walk : (n : ℕ) → walk_back P zs n (suc (suc t)) (node k s (P.lo +ℤ pos j))
            ≡ cond (joins (edge_at P e)) (walk_back P zs n (suc t) (node (from_count P (suc t) e k) (edge_at P e).from (P.lo +ℤ pos i)))
            (run (suc (suc t)) n s (P.lo +ℤ pos j) e ∷ walk_back P zs (suc t) (suc t) (node (from_count P (suc t) e k) (edge_at P e).from (P.lo +ℤ pos i)))
        step_walk =
            walk_on P zs R.plan loss_most losses t T earlier_held space k s j hk hs hj (table_at P zs (suc (suc t)) k s j) value_is e i he hi meets lowest-edge permitted least lowest-level

        pub step_count : from_count P (suc t) e k < counts
        step_count =
            earlier_count P zs R.plan loss_most losses t T earlier_held space k s j hk hs hj (table_at P zs (suc (suc t)) k s j) value_is e i he hi meets lowest-edge permitted least lowest-level

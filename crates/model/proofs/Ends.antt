-- The results from the last layer as code holds it. What code has to show, once no number of `Refusals` refuses:
-- `Holding` of the layer after all readings. A point: the least over the counts (`point_by`). A search: the least end, none
-- of them (`none_by`) or the lowest state and level that has it (`found_by`); then for each step back the lowest edge and level (`walk_on`, and
-- `earlier_value` for the next step), down to `walk_first`. Each law ends in `result_of`; what is reported is the cost of a number. Assumes nothing.
use Rattle.std.specs.Prelude.{◌≡◌, ◌⊎◌, List, [], ◌∷◌, reverse, Bool, ℤ, negsuc, nat_abs, ◌+ℤ◌, ◌-ℤ◌, length, get_or}
use Rattle.std.proofs.Math.Path.{refl, sym, ap}
use Rattle.std.proofs.Common.{◌∙◌, inl, inr, arith, mul-le-mul}
use Rattle.std.proofs.Math.Option.{Option, none, some, map}
use Rattle.std.proofs.Math.Bool.{true, false, cond}
use Prim.Native.Nat.{ℕ, zero, suc, ◌+◌, ◌*◌, ◌/◌, ◌≤◌, ◌<◌}
use Rattle.std.proofs.Math.IntN.{pos}
use Rattle.std.specs.Int.Signed.{le_z, mag}
use Rattle.integers.specs.Rep as R
use Rattle.integers.specs.Rep.{iz, ◌⊖◌}
use Rattle.integers.specs.Pairs.{unit}
use Rattle.plan.specs.declared.Plan.{Plan}
use Rattle.model.specs.Cost.{Cost, value}
use Rattle.model.proofs.Bools.{and_yes}
use Rattle.model.proofs.Grid.{le_z_nat, abs_is}
use Rattle.model.specs.Least.{given, first_hit, Upto}
use Rattle.model.proofs.Least.{first_hit_is}
use Rattle.model.specs.Model.{edge_at, width, in_set, on_grid, loss_at, square}
use Rattle.model.specs.Refusals.{search_number}
use Rattle.model.specs.Refusals.{point_number}
use Rattle.model.specs.Checked.{Checked}
use Rattle.model.proofs.Checked.{accepted, accepted_point}
use Rattle.model.specs.Result.{whole, point, found, refused, found_seg, found_cost, result_of}
use Rattle.model.proofs.Demand3.{unless_none_lem}
use Rattle.model.specs.Agree.{searched}
use Rattle.model.proofs.Agree.{searched_right}
use Rattle.model.specs.Nodes.{Node, node}
use Rattle.model.specs.Labels.{label_on, counts, used_at}
use Rattle.model.proofs.Labels.{used_most}
use Rattle.model.specs.Opt.{opt, before, point_best, point_cost}
use Rattle.model.specs.Answer.{end_cost, least_end, answer, trace}
use Rattle.model.proofs.Answer.{trace_right, way_is}
use Rattle.model.specs.Run.{run, joins, runs, run_numbers, numbers}
use Rattle.model.specs.Answer.{way_back}
use Rattle.model.specs.Run.{back_from}
use Rattle.model.specs.Runs.{walk_back}
use Rattle.model.proofs.Runs.{walk_step_lem, walk_runs, runs_from_lem}
use Rattle.model.specs.Index.{pair_of, no_cost, held, reported, Permitted}
use Rattle.model.proofs.Index.{pair_one, held_some, some_held, none_held, held_value, permitted_yes, yes_permitted}
use Rattle.model.specs.Held.{edge_weight, edge_most, Table, edge_least, HoldingOf, Holding, min_below, from_count, leads_at}
use Rattle.model.proofs.Held.{held_least, held_given, least_ext, leads_count, step_back, first_holding, next_holding}
use Rattle.model.specs.Ends.{end_at, end_of, least_end_at, least_end_of, loss_most, point_at, step_most, table_at}

-- ---- the losses of 16-bit numbers

signed_16 : (z : ℤ) → mag z < 32768 → (R.above z < 32768) × (R.below z ≤ 32768)
signed_16 (pos a) h = (h, omega arith)
signed_16 (negsuc a) h = (omega arith, h)

far : (z m lo hi : ℤ) → mag z < 32768 → mag lo < 32768 → mag hi < 32768 → le_z lo m ≡ true → le_z m hi ≡ true → nat_abs (z -ℤ m) ≤ 65535
far z m lo hi hz hl hh p q = go (abs_is (z -ℤ m)) (signed_16 z hz) (signed_16 lo hl) (signed_16 hi hh) (le_z_nat lo m p) (le_z_nat m hi q) (iz z ⊖ iz m).is
  where
    d : ℤ
    d = z -ℤ m

    go : ((nat_abs d ≡ R.above d) × (R.below d ≡ 0)) ⊎ ((nat_abs d ≡ R.below d) × (R.above d ≡ 0))
        → (R.above z < 32768) × (R.below z ≤ 32768) → (R.above lo < 32768) × (R.below lo ≤ 32768) → (R.above hi < 32768) × (R.below hi ≤ 32768)
        → R.above lo + R.below m ≤ R.above m + R.below lo → R.above m + R.below hi ≤ R.above hi + R.below m → R.above z + R.below m + R.below d ≡ R.above d + (R.below z + R.above m)
        → nat_abs d ≤ 65535
    go (inl x) a b c e f g = omega arith
    go (inr x) a b c e f g = omega arith

pub losses_low : (P : Plan) (zs : List ℤ) → mag P.lo < 32768 → mag P.hi < 32768 → ((t : ℕ) → mag (get_or zs t (pos 0)) < 32768)
    → (t : ℕ) (m : ℤ) → on_grid P m ≡ true → loss_at zs t m ≤ loss_most
unfolding loss_at square on_grid
losses_low P zs hl hh hz t m on =
    let (a, b) = and_yes (le_z P.lo m) (le_z m P.hi) on in
    let d = far (get_or zs t (pos 0)) m P.lo P.hi (hz t) hl hh a b in
    omega (arith, mul-le-mul d d)

-- every record of at most 4,096 readings leaves room below the number that means none
pub room : (t : ℕ) → t ≤ 4096 → suc t * step_most < no_cost
room t h = omega arith

module _ (P : Plan) (F : Node → Option Cost) (H : Table) (hold : HoldingOf P F H) where
  end_held_of : (s j : ℕ) → s < P.states → j < width P → held (end_at P H s j) ≡ end_of P F s j
  unfolding end_at
  end_held_of s j hs hj = held_given (in_set P.end s) (H 0 s j) ∙ ap (given (in_set P.end s)) (hold.at 0 s j (omega arith) hs hj)

  pub least_end_of_lem : held (least_end_at P H) ≡ least_end_of P F
  unfolding least_end_at least_end_of
  least_end_of_lem =
      held_least P.states (λ s. min_below (width P) (λ j. end_at P H s j))
      ∙ least_ext P.states _ _ (λ s hs. held_least (width P) (λ j. end_at P H s j) ∙ least_ext (width P) _ _ (λ j hj. end_held_of s j hs hj))

module _ (P : Plan) (zs : List ℤ) (H : Table) (hold : Holding P zs (length zs) H) where
  pub point_held : Checked P → (s j : ℕ) → s < P.states → j < width P → point_cost P zs s (P.lo +ℤ pos j) ≡ reported (point_at (used_at P (length zs)) H s j)
  unfolding point_cost point_best point_at
  point_held ch s j hs hj =
      ap (map value) (sym (held_least n (λ k. H k s j) ∙ least_ext n _ _ (λ k hk. hold.at k s j (omega (arith, used_most (label_on P (length zs)))) hs hj)))
      ∙ held_value (min_below n (λ k. H k s j))
    where
      n : ℕ
      n = used_at P (length zs)

  end_held : (s j : ℕ) → s < P.states → j < width P → held (end_at P H s j) ≡ end_cost P zs s j
  unfolding end_cost
  end_held = end_held_of P (opt P zs (length zs)) H hold

  least_end_lem : held (least_end_at P H) ≡ least_end P zs
  unfolding least_end least_end_of end_cost
  least_end_lem = least_end_of_lem P (opt P zs (length zs)) H hold

  pub end_none : no_cost ≤ least_end_at P H → answer P zs ≡ none
  unfolding answer
  end_none h = let p : least_end P zs ≡ none = sym least_end_lem ∙ none_held (least_end_at P H) h in rw p refl

  -- the lowest state, then the lowest level, that has the least
  pub end_found : (s j : ℕ) → s < P.states → j < width P → least_end_at P H < no_cost → end_at P H s j ≡ least_end_at P H
      → ((s' j' : ℕ) → s' < P.states → j' < width P → end_at P H s' j' ≡ least_end_at P H → Upto s j s' j')
      → answer P zs ≡ some (least_end_at P H / unit, trace P zs (length zs) (node 0 s (P.lo +ℤ pos j)))
  unfolding answer value
  end_found s j hs hj low e first =
      let c : Cost = pair_of (least_end_at P H) in
      let p : least_end P zs ≡ some c = sym least_end_lem ∙ some_held (least_end_at P H) low in
      let q : end_cost P zs s j ≡ some c = sym (end_held s j hs hj) ∙ ap held e ∙ some_held (least_end_at P H) low in
      let h : first_hit P.states (width P) (end_cost P zs) c ≡ some (s, j) = first_hit_is P.states (width P) (end_cost P zs) c s j hs hj q
      (λ s' j' hs' hj' r. first s' j' hs' hj' (pair_one (end_at P H s' j') (least_end_at P H) (held_some (end_at P H s' j') c (end_held s' j' hs' hj' ∙ r)).1)) in
      rw p (rw h refl)

-- ---- the runs, last one first, by the walk back

runs_at : (P : Plan) (zs : List ℤ) (n : ℕ) (v : Node) (c : Cost) → 1 ≤ n → opt P zs n v ≡ some c → runs P (trace P zs n v) ≡ reverse (walk_back P zs n n v)
runs_at P zs zero v c h p = absurd (omega arith)
runs_at P zs (suc t) v c h p =
    let (r, w) = trace_right P zs t v c p in
    runs_from_lem P (trace P zs (suc t) v) ∙ ap reverse (ap (λ (k : ℕ). back_from P k (trace P zs (suc t) v)) r ∙ sym (walk_runs P zs (suc t) t v c p))

pub numbers_at : (P : Plan) (zs : List ℤ) (n : ℕ) (v : Node) (c : Cost) → 1 ≤ n → opt P zs n v ≡ some c
    → run_numbers P (trace P zs n v) ≡ numbers (reverse (walk_back P zs n n v))
unfolding run_numbers
numbers_at P zs n v c h p = ap numbers (runs_at P zs n v c h p)

-- ---- one step of the walk back, in held numbers

module _ (P : Plan) (zs : List ℤ) (ch : Checked P) (W : ℕ) (losses : (t : ℕ) (m : ℤ) → on_grid P m ≡ true → loss_at zs t m ≤ W)
    (t : ℕ) (H : Table) (hold : Holding P zs (suc t) H) (space : suc (suc t) * (unit * W + edge_most) < no_cost)
    (k s j : ℕ) (hk : k < counts) (hs : s < P.states) (hj : j < width P) (c : ℕ) (value_is : opt P zs (suc (suc t)) (node k s (P.lo +ℤ pos j)) ≡ some (pair_of c)) where
  abbrev before_count : ℕ → ℕ
  before_count e = from_count P (suc t) e k

  abbrev rest : ℕ → ℕ
  rest e = edge_weight P e + unit * loss_at zs (suc t) (P.lo +ℤ pos j)

  -- what is found one reading earlier
  abbrev held_at : ℕ → ℕ → ℕ
  held_at e i = H (before_count e) (edge_at P e).from i

  abbrev offers : ℕ → ℕ
  offers e = edge_least P (suc t) H k j e

  -- the edge leads here, and its least over the permitted levels meets the value
  abbrev Meets : ℕ → Type 0
  Meets e = (leads_at P (suc t) e k s ≡ true) × (offers e < no_cost) × (offers e + rest e ≡ c)

  module _ (e i : ℕ) (he : e < P.edgecount) (hi : i < width P) (meets : Meets e) (lowest-edge : (e' : ℕ) → e' < e → Meets e' → ⊥)
      (permitted : Permitted (edge_at P e).kind i j) (least : held_at e i ≡ offers e)
      (lowest-level : (i' : ℕ) → i' < i → Permitted (edge_at P e).kind i' j → held_at e i' ≡ offers e → ⊥) where
    abbrev earlier : Node
    earlier = node (before_count e) (edge_at P e).from (P.lo +ℤ pos i)

    step_is : way_back P zs t (node k s (P.lo +ℤ pos j)) ≡ some (e, i)
    step_is =
        way_is P zs t (node k s (P.lo +ℤ pos j)) (pair_of c) value_is
        ∙ step_back P zs ch W losses (suc t) (omega arith) H hold space k s j hk hs hj c value_is e i he hi meets lowest-edge
        (yes_permitted (edge_at P e).kind i j permitted) least (λ i' h a. lowest-level i' h (permitted_yes (edge_at P e).kind i' j a))

    -- the walk goes on from there: the run is put out unless the edge joins
    pub walk_on : (n : ℕ) → walk_back P zs n (suc (suc t)) (node k s (P.lo +ℤ pos j))
        ≡ cond (joins (edge_at P e)) (walk_back P zs n (suc t) earlier) (run (suc (suc t)) n s (P.lo +ℤ pos j) e ∷ walk_back P zs (suc t) (suc t) earlier)
    unfolding before from_count
    walk_on n = walk_step_lem P zs n t (node k s (P.lo +ℤ pos j)) e i step_is

    pub earlier_count : before_count e < counts
    earlier_count = leads_count P (suc t) e k s meets.0

    pub earlier_value : opt P zs (suc t) earlier ≡ some (pair_of (offers e))
    earlier_value = sym (hold.at (before_count e) (edge_at P e).from i earlier_count (ch.edge e he).from_below hi) ∙ ap held least ∙ some_held (offers e) meets.1

-- the first reading's run
pub walk_first : (P : Plan) (zs : List ℤ) (n : ℕ) (v : Node) → walk_back P zs n 1 v ≡ run 1 n v.state v.level 255 ∷ []
unfolding walk_back
walk_first P zs n v = refl

module _ (P : Plan) (zs : List ℤ) (ch : Checked P) (losses : (t : ℕ) (m : ℤ) → on_grid P m ≡ true → loss_at zs t m ≤ loss_most) where
  pub table_holding : (t : ℕ) → t ≤ 4095 → Holding P zs (suc t) (table_at P zs (suc t))
  unfolding table_at
  table_holding zero h = first_holding P zs (λ m on. omega (arith, losses 0 m on)) ch.grid
  table_holding (suc t) h = next_holding P zs ch loss_most losses (suc t) (omega arith) (table_at P zs (suc t)) (table_holding t (omega arith)) (room (suc t) (omega arith))

module _ (P : Plan) (zs : List ℤ) (accepts : search_number P (length zs) ≡ 0) (H : Table) (hold : Holding P zs (length zs) H) where
  pub none_by : no_cost ≤ least_end_at P H → result_of P zs whole ≡ refused 16
  unfolding searched
  none_by h = sym (searched_right P zs whole) ∙ unless_none_lem (search_number P (length zs)) (found_seg P (answer P zs)) accepts ∙ rw (end_none P zs H hold h) refl

  module _ (s j : ℕ) (hs : s < P.states) (hj : j < width P) (low : least_end_at P H < no_cost) (best : end_at P H s j ≡ least_end_at P H)
      (lowest : (s' j' : ℕ) → s' < P.states → j' < width P → end_at P H s' j' ≡ least_end_at P H → Upto s j s' j') where
    abbrev last_node : Node
    last_node = node 0 s (P.lo +ℤ pos j)

    pub last_value : opt P zs (length zs) last_node ≡ some (pair_of (least_end_at P H))
    unfolding end_at
    last_value = go (in_set P.end s) best
      where
        go : (b : Bool) → cond b (H 0 s j) no_cost ≡ least_end_at P H → opt P zs (length zs) last_node ≡ some (pair_of (least_end_at P H))
        go true e = sym (hold.at 0 s j (omega arith) hs hj) ∙ ap held e ∙ some_held (least_end_at P H) low
        go false e = absurd (omega arith)

    pub found_by : result_of P zs whole ≡ found (least_end_at P H / unit) (numbers (reverse (walk_back P zs (length zs) (length zs) last_node)))
    unfolding searched
    found_by =
        sym (searched_right P zs whole) ∙ unless_none_lem (search_number P (length zs)) (found_seg P (answer P zs)) accepts
        ∙ ap (found_seg P) (end_found P zs H hold s j hs hj low best lowest)
        ∙ ap (found (least_end_at P H / unit)) (numbers_at P zs (length zs) last_node (pair_of (least_end_at P H)) (accepted P (length zs) accepts).some_readings last_value)

pub point_by : (P : Plan) (zs : List ℤ) (s j : ℕ) → point_number P (length zs) s (P.lo +ℤ pos j) ≡ 0 → j < width P → (H : Table) → Holding P zs (length zs) H
    → result_of P zs (point s (P.lo +ℤ pos j)) ≡ found_cost (reported (point_at (used_at P (length zs)) H s j))
unfolding searched
point_by P zs s j n hj H hold =
    let a = accepted_point P (length zs) s (P.lo +ℤ pos j) n in
    sym (searched_right P zs (point s (P.lo +ℤ pos j))) ∙ unless_none_lem (point_number P (length zs) s (P.lo +ℤ pos j)) (found_cost (point_cost P zs s (P.lo +ℤ pos j))) n
    ∙ ap found_cost (point_held P zs H hold a.plan s j a.state hj)

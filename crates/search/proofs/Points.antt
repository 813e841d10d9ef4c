-- Why the cost at a point is the model's. Assumes nothing.
use mathlib.Core.Path.{◌≡◌, refl, sym, ◌∙◌, ap, subst}
use mathlib.Core.List.{List, ◌++◌}
use mathlib.Core.Bool.{true}
use Prim.Native.Nat.{ℕ, ◌+◌, ◌-◌, ◌/◌, ◌≤◌, ◌<◌}
use native.Mathlib.Omega.{arith}
use lib.IntN.{ℤ, pos, ◌+ℤ◌}
use lib.ListN.{length, get_or, drop, replicate}
use lib.Signed.{mag}
use mir.Facts.{to_z-of_z}
use mir.Syntax.{w16}
use mir.Val.{SFits, to_z, of_z}
use Rattle.integers.specs.Rep.{iz, nz, ◌⊕◌, eq_n}
use Rattle.plan.specs.declared.Plan.{Plan}
use Rattle.model.specs.Model.{width, above}
use Rattle.model.proofs.Grid.{grid_index}
use Rattle.model.specs.Refusals.{point_number}
use Rattle.model.specs.Checked.{Checked}
use Rattle.model.proofs.Checked.{accepted_point, point_not_16}
use Rattle.integers.specs.Pairs.{unit}
use Rattle.quadratic.specs.Quad.{none}
use Rattle.model.specs.Index.{reported}
use Rattle.model.proofs.Index.{reported_some, reported_none}
use Rattle.model.specs.Held.{Table}
use Rattle.model.specs.Labels.{used_at}
use Rattle.model.specs.Ends.{table_at, point_at}
use Rattle.model.proofs.Ends.{point_by}
use Rattle.model.proofs.Tables.{ready_point, table_held}
use Rattle.model.specs.Result.{Result, refused, point, found_cost, result_of}
use Rattle.layer.specs.declared.Shape.{Shape}
use Rattle.layer.specs.Layer.{Layer, ShapeOf, base_of}
use Rattle.layer.specs.Next.{Task}
use Rattle.saved.specs.declared.Walk.{Walk}
use Rattle.saved.specs.declared.Saved.{Saved}
use Rattle.saved.specs.Walk.{Walked}
use Rattle.back.specs.Read.{Readable, Reads, layer_reads, layer_readable}
use Rattle.search.specs.Told.{Cost}
use Rattle.search.specs.Told.{Least, NoCost}
use Rattle.search.specs.Search.{work_words, point_result, cost_of, words_after, looked}
use Rattle.search.specs.Right.{point_early_is, point_short_is, point_looks}
use Rattle.search.specs.Solve.{Askable, Told}
use Rattle.search.proofs.Ways.{place_low}
use Rattle.layer.proofs.Next.{lowest_place_lem}
use Rattle.search.proofs.Solves.{task_of}
use Rattle.search.proofs.Answers.{untouched, cleared_is}

-- a level of 16 bits is handed on as itself
module _ (P : Plan) (zs : List ℤ) (s : ℕ) {m : ℤ} (f : SFits w16 m) where
  pub number_back : (n : ℕ) → n ≡ point_number P (length zs) s (to_z w16 (of_z w16 m)) → n ≡ point_number P (length zs) s m
  number_back n e = rw (to_z-of_z f) at e

  pub askable_on : {g : Shape} {ws : List ℕ} → Askable P zs g s m ws → Askable P zs g s (to_z w16 (of_z w16 m)) ws
  askable_on a = rw (to_z-of_z f) a

  pub told_back : {r : Cost} {ws ws' : List ℕ} → Told P zs s (to_z w16 (of_z w16 m)) r ws ws' → Told P zs s m r ws ws'
  told_back t = rw (to_z-of_z f) at t

module _ (P : Plan) (zs : List ℤ) (s : ℕ) (m : ℤ) {g : Shape} {ws : List ℕ} (a : Askable P zs g s m ws) where
  abbrev task : Task P zs g
  task = a.space.task

  -- the index of the level
  on_grid_lem : (above P.lo m < width P) × (P.lo +ℤ pos (above P.lo m) ≡ m)
  on_grid_lem = grid_index P m (accepted_point P (length zs) s m a.accepts).level

  module _ (v : ℕ) (ev : pos v ≡ m +ℤ pos 163840) where
    place_is : v ≡ g.grid.base + above P.lo m
    place_is =
        omega (arith, eq_n (nz v) (iz m ⊕ nz 163840) ev, eq_n (nz (base_of P)) (iz P.lo ⊕ nz 163840) (lowest_place_lem task), eq_n (iz P.lo ⊕ nz (above P.lo m)) (iz m) on_grid_lem.1, task.shape.base)

    pub place_high : g.grid.base ≤ v
    place_high = omega (arith, place_is)

    pub index_is : v - g.grid.base ≡ above P.lo m
    index_is = omega (arith, place_is)

    module _ {T : List Saved} {ws' : List ℕ} {w : Walk} (walked : Walked P zs (length zs) T ws ws' w) where
      layer_now : Layer P zs (length zs) ws' w.cur
      layer_now = subst (λ (x : ℕ). Layer P zs x ws' w.cur) walked.time walked.at.layer

      pub may_ask : {n : ℕ} → n ≡ used_at P (length zs) → Readable n w.cur g ws' × ((s < g.states) × (v - g.grid.base < g.grid.levels))
      may_ask e = (
        subst (λ (x : ℕ). Readable x w.cur g ws') (sym e) (layer_readable task layer_now (place_low task walked.at) task.ready.few_readings),
        (omega (arith, (accepted_point P (length zs) s m a.accepts).state, task.shape.states), omega (arith, index_is, on_grid_lem.0, task.shape.levels)),
      )

      module _ {n c : ℕ} (en : n ≡ used_at P (length zs)) (f : (H : Table) → Reads n w.cur g ws' H → c ≡ point_at n H s (v - g.grid.base) / unit) where
        abbrev last_table : Table
        last_table = table_at P zs (length zs)

        -- the least over the counts, with its changes
        abbrev least : ℕ
        least = point_at (used_at P (length zs)) last_table s (above P.lo m)

        least_is : c ≡ least / unit
        least_is =
            f last_table (subst (λ (x : ℕ). Reads x w.cur g ws' last_table) (sym en) (layer_reads task layer_now))
            ∙ ap (λ (x : ℕ). point_at n last_table s x / unit) index_is ∙ ap (λ (x : ℕ). point_at x last_table s (above P.lo m) / unit) en

        result_is : result_of P zs (point s m) ≡ found_cost (reported least)
        result_is =
            let e = on_grid_lem.1 in
            ap (λ (x : ℤ). result_of P zs (point s x)) (sym e)
            ∙ point_by P zs s (above P.lo m) (ap (λ (x : ℤ). point_number P (length zs) s x) e ∙ a.accepts) on_grid_lem.0 last_table (table_held P zs task.ready (length zs) a.space.some task.ready.few_readings)

        told : {r : Cost} (q : Result) → result_of P zs (point s m) ≡ q → r ≡ cost_of q → looked q ≡ true → Told P zs s m r ws ws'
        told q e h l = record { answer = h ∙ ap cost_of (sym e); looks = ap looked e ∙ l; inside = walked.inside }

        pub told_none : none ≤ c → Told P zs s m (NoCost 16) ws ws'
        told_none h = told (refused 16) (result_is ∙ ap found_cost (reported_none least (omega (arith, least_is)))) refl refl

        pub told_least : c < none → Told P zs s m (Least c) ws ws'
        told_least h = told _ (result_is ∙ ap found_cost (reported_some least (omega (arith, least_is)))) (ap Least least_is) refl

-- ---- what the call knows once no number refuses

module _ (P : Plan) (zs : List ℤ) (s : ℕ) (m : ℤ) (n : ℕ) (en : n ≡ point_number P (length zs) s m) (z : n ≡ 0) where
  accepts : point_number P (length zs) s m ≡ 0
  accepts = sym en ∙ z

  pub checked_point : Checked P
  checked_point = (accepted_point P (length zs) s m accepts).plan

  pub askable : {g : Shape} {ws : List ℕ} → ShapeOf P g × ((mag P.lo < 32768) × (mag P.hi < 32768)) → ((t : ℕ) → mag (get_or zs t (pos 0)) < 32768)
      → (need : ℕ) → need ≡ work_words P → need ≤ length ws → Askable P zs g s m ws
  unfolding work_words
  askable e r need q h =
      let R = ready_point P zs e.1.0 e.1.1 r s m accepts in
      record { accepts = accepts; space = record { task = task_of R e.0; some = R.some_readings; room = omega arith } }

-- ---- the contract of a cost at a point, at each of its ends

abbrev pub Answered : Plan → List ℤ → ℕ → ℤ → Cost → List ℕ → List ℕ → Type 0
Answered P zs s m r ws ws' = (r ≡ cost_of (point_result P zs s m (length ws))) × (ws' ≡ words_after P (point_result P zs s m (length ws)) ws)

module _ (P : Plan) (zs : List ℤ) (s : ℕ) (m : ℤ) (ws : List ℕ) where
  refusal : (n : ℕ) → point_result P zs s m (length ws) ≡ refused n → (n ≡ 16 → ⊥) → Answered P zs s m (NoCost n) ws ws
  refusal n e h = (ap cost_of (sym e), untouched P _ n ws e h)

  pub point_early : (n : ℕ) → n ≡ point_number P (length zs) s m → (n ≡ 0 → ⊥) → Answered P zs s m (NoCost n) ws ws
  point_early n e h = refusal n (point_early_is P zs s m (length ws) n e h) (λ q. point_not_16 P (length zs) s m (sym e ∙ q))

  module _ (n : ℕ) (e : n ≡ point_number P (length zs) s m) (z : n ≡ 0) (need : ℕ) (en : need ≡ work_words P) where
    ok : point_number P (length zs) s m ≡ 0
    ok = sym e ∙ z

    pub point_short : length ws < need → Answered P zs s m (NoCost 14) ws ws
    point_short h = refusal 14 (point_short_is P zs s m (length ws) ok (omega arith)) (λ q. omega (arith, q))

    pub point_answered : need ≤ length ws → {r : Cost} {ws' ws'' : List ℕ} → Told P zs s m r ws ws' → ws'' ≡ replicate need 0 ++ drop need ws' → Answered P zs s m r ws ws''
    point_answered h {r} {ws'} {ws''} t c =
        let q = point_looks P zs s m (length ws) ok (omega arith) in (
          t.answer ∙ ap cost_of (sym q),
          c ∙ ap (λ (x : ℕ). replicate x 0 ++ drop x ws') en ∙ cleared_is P (result_of P zs (point s m)) ws ws' t.looks t.inside ∙ ap (λ (x : Result). words_after P x ws) (sym q),
        )

-- Why the walk over the windows gives the model's costs. Assumes nothing.
use mathlib.Core.Path.{◌≡◌, refl, sym, ◌∙◌, ap, subst}
use mathlib.Core.List.{List, ◌++◌}
use Prim.Native.Nat.{ℕ, zero, suc, ◌+◌, ◌-◌, ◌≤◌, ◌<◌}
use native.Mathlib.Omega.{arith}
use native.Mathlib.Numerals.{add-one}
use lib.IntN.{ℤ}
use lib.ListN.{length, set, take, drop, length-set, take-append-drop}
use lib.Seq.{length-take-le, take-suc-set, drop-set-lt, drop-drop}
use Rattle.plan.specs.declared.Plan.{Plan}
use Rattle.model.specs.Refusals.{search_number}
use Rattle.quadratic.specs.Quad.{none}
use Rattle.model.proofs.Tables.{ready_search}
use Rattle.model.specs.Result.{found, refused, whole, result_of, Costs, cost_list, no_costs}
use Rattle.model.specs.Window.{part_at, starts, costs_to, windows_of}
use Rattle.model.proofs.WindowLaws.{part_length, part_reading, costs_none, costs_more, costs_refused, parts_alike}
use Rattle.layer.specs.declared.Shape.{Shape}
use Rattle.saved.specs.Packed.{Inside}
use Rattle.saved.specs.declared.Saved.{Saved}
use Rattle.saved.specs.Walk.{Workspace, limit}
use Rattle.search.specs.declared.Ended.{Ended}
use Rattle.search.specs.Cheapest.{Reaches, cheapest_none, cheapest_some}
use Rattle.search.proofs.Solves.{task_of}
use Rattle.search.specs.ToldCosts as F
use Rattle.search.specs.Costs.{filled_of, costs_after, costs_looked}
use Rattle.windows.specs.Fill.{Fillable, FilledTo}

-- ---- one part

module _ {P : Plan} {zs : List ℤ} {w : ℕ} {g : Shape} {ws out : List ℕ} (f : Fillable P zs w g ws out) {a : ℕ} (h : a ≤ length zs - w) where
  inside : a + w ≤ length zs
  inside = omega (arith, f.accepts.inside)

  part_accepts : search_number P (length (part_at zs w a)) ≡ 0
  part_accepts = rw (part_length zs w a inside) f.accepts.part

  -- the part as the code cuts it
  abbrev cut : List ℤ
  cut = take (a + w - a) (drop a zs)

  cut_is : cut ≡ part_at zs w a
  cut_is = let e : a + w - a ≡ w = omega arith in ap (λ (x : ℕ). take x (drop a zs)) e

  -- it is searched as if it were the record, whatever the words hold
  part_space : {ws' : List ℕ} → Inside 0 (limit P) ws ws' → Workspace P (part_at zs w a) g ws'
  part_space i =
      let R = ready_search P (part_at zs w a) f.low f.high (part_reading zs w a inside f.fits) part_accepts in
      record { task = task_of R f.shape; some = R.some_readings; room = omega (arith, f.words, i.size) }

  pub cut_space : {ws' : List ℕ} → Inside 0 (limit P) ws ws' → Workspace P cut g ws'
  cut_space {ws'} i = subst (λ (x : List ℤ). Workspace P x g ws') (sym cut_is) (part_space i)

  module _ {ws' : List ℕ} {T : List Saved} {ws'' : List ℕ} {r : Ended} (i : Inside 0 (limit P) ws ws') (m : Reaches P cut T ws' ws'' r) where
    part_reached : Reaches P (part_at zs w a) T ws' ws'' r
    part_reached = subst (λ (x : List ℤ). Reaches P x T ws' ws'' r) cut_is m

    pub cut_none : none ≤ r.end.low.rank.value → result_of P (part_at zs w a) whole ≡ refused 16
    cut_none q = cheapest_none part_accepts (part_space i) part_reached q

    pub cut_some : r.end.low.rank.value < none → (ns : List ℤ) × (result_of P (part_at zs w a) whole ≡ found r.end.low.rank.value ns)
    cut_some q = (_, cheapest_some part_accepts (part_space i) part_reached q)

-- ---- the list of costs

-- the costs of the first a parts stand at its front
pub record Costed (P : Plan) (zs : List ℤ) (w a : ℕ) (out out' : List ℕ) : Type 0 where
  pub size : length out' ≡ length out
  pub done : costs_to P zs w a ≡ cost_list (take a out')
  pub rest : drop a out' ≡ drop a out

pub costed_none : {P : Plan} {zs : List ℤ} {w : ℕ} {out : List ℕ} → Costed P zs w 0 out out
costed_none {P} {zs} {w} = record { size = refl; done = costs_none P zs w; rest = refl }

pub costed_more : {P : Plan} {zs : List ℤ} {w a c : ℕ} {ns : List ℤ} {out out' : List ℕ} → Costed P zs w a out out' → a < length out' → result_of P (part_at zs w a) whole ≡ found c ns → Costed P zs w (a + 1) out (set out' a c)
costed_more {P} {zs} {w} {a} {c} {ns} {out} {out'} m h e = record {
  size = length-set out' a c ∙ m.size;
  done = subst (λ (x : ℕ). costs_to P zs w x ≡ cost_list (take x (set out' a c))) (sym (add-one a)) (costs_more P zs w a (take a out') c ns m.done e ∙ ap cost_list (sym (take-suc-set out' a c h)));
  rest = drop-set-lt (a + 1) out' a c (omega arith) ∙ sym (drop-drop 1 a out') ∙ ap (λ (x : List ℕ). drop 1 x) m.rest ∙ drop-drop 1 a out;
}

module _ {P : Plan} {zs : List ℤ} {w : ℕ} {g : Shape} {ws out : List ℕ} (f : Fillable P zs w g ws out) {a : ℕ} {out' : List ℕ} (m : Costed P zs w a out out') where
  some_start : starts (length zs) w ≡ suc (length zs - w)
  some_start = omega (arith, f.accepts.inside)

  -- 16 is met at the first part or nowhere, so that no cost has been written
  pub filled_none : {ws' : List ℕ} → a ≤ length zs - w → result_of P (part_at zs w a) whole ≡ refused 16 → Inside 0 (limit P) ws ws' → FilledTo P zs w (F.Refused 16) ws ws' out out'
  unfolding windows_of
  filled_none h e i = record {
    answer = ap filled_of (sym none_is);
    list = untouched a m.done m.rest ∙ ap (λ (x : Costs). costs_after x out) (sym none_is);
    looks = ap costs_looked none_is;
    inside = i;
  }
    where
      first : result_of P (part_at zs w 0) whole ≡ refused 16
      first = parts_alike P zs w f.accepts.part a 0 (omega (arith, f.accepts.inside)) (omega (arith, f.accepts.inside)) e

      none_is : costs_to P zs w (starts (length zs) w) ≡ no_costs 16
      none_is = ap (costs_to P zs w) some_start ∙ costs_refused P zs w 16 first (length zs - w)

      untouched : (x : ℕ) → costs_to P zs w x ≡ cost_list (take x out') → drop x out' ≡ drop x out → out' ≡ out
      untouched zero d r = r
      untouched (suc x) d r = let z : ◌≡◌ {A = Costs} (no_costs 16) (cost_list (take (suc x) out')) = sym (costs_refused P zs w 16 first x) ∙ d in let y : ◌≡◌ {A = ℕ} 0 1 = cc in absurd (omega arith)

  pub filled_all : {ws' : List ℕ} → a ≡ starts (length zs) w → Inside 0 (limit P) ws ws' → FilledTo P zs w (F.Costs a) ws ws' out out'
  unfolding windows_of
  filled_all e i = record {
    answer = ap F.Costs (e ∙ sym length_is) ∙ ap filled_of (sym all_is);
    list = (sym (take-append-drop n out') ∙ ap (λ (x : List ℕ). take n out' ++ x) (rest ∙ ap (λ (x : ℕ). drop x out) (sym length_is))) ∙ ap (λ (x : Costs). costs_after x out) (sym all_is);
    looks = ap costs_looked all_is;
    inside = i;
  }
    where
      n : ℕ
      n = starts (length zs) w

      all_is : costs_to P zs w n ≡ cost_list (take n out')
      all_is = subst (λ (x : ℕ). costs_to P zs w x ≡ cost_list (take x out')) e m.done

      rest : drop n out' ≡ drop n out
      rest = subst (λ (x : ℕ). drop x out' ≡ drop x out) e m.rest

      length_is : length (take n out') ≡ n
      length_is = length-take-le n out' (omega (arith, m.size, f.room))

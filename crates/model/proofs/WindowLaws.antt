-- What the costs of a moving window are: each is that of its part, and where no number refuses a part, all parts have an allowed segmentation or
-- none has. Assumes nothing.
use Rattle.std.specs.Prelude.{◌≡◌, ◌⊎◌, ℤ, pos, length, drop}
use Rattle.std.proofs.Math.Path.{refl, sym, ap}
use Rattle.std.proofs.Common.{◌∙◌, inl, inr, ⊎_elim, arith, length-drop, length-take-le, get_or-take, get_or-drop}
use mathlib.Core.List.{List, [], ◌∷◌, ◌++◌}
use Prim.Native.Nat.{ℕ, zero, suc, ◌+◌, ◌≤◌, ◌<◌}
use Rattle.std.proofs.Math.Decide.{dec_lt, ℕ_discrete}
use Rattle.std.specs.Int.Signed.{mag}
use Rattle.std.proofs.Math.ListN.{get_or, length-append, get_or-append, get_or-eq_default}
use Rattle.std.proofs.Math.Seq.{get_or-append_seam}
use Rattle.plan.specs.declared.Plan.{Plan}
use Rattle.model.specs.Refusals.{search_number}
use Rattle.model.specs.Result.{Result, found, refused, whole, result_of, Costs, cost_list, no_costs}
use Rattle.model.specs.Demand3.{NoneAllowed}
use Rattle.model.proofs.Demand3.{demand3}
use Rattle.model.specs.Window.{and_cost, part_at, costs_to}
use Rattle.model.specs.WindowLaws.{Each, result_at}

-- ---- a part of the record

pub part_length : (zs : List ℤ) (w a : ℕ) → a + w ≤ length zs → length (part_at zs w a) ≡ w
part_length zs w a h = length-take-le w (drop a zs) (simp length-drop (omega arith))

-- what holds of every reading holds of every reading of a part
pub part_reading : (zs : List ℤ) (w a : ℕ) → a + w ≤ length zs → ((t : ℕ) → mag (get_or zs t (pos 0)) < 32768) → (t : ℕ) → mag (get_or (part_at zs w a) t (pos 0)) < 32768
part_reading zs w a i f t = go (dec_lt t w)
  where
    go : Dec (t < w) → mag (get_or (part_at zs w a) t (pos 0)) < 32768
    go (yes h) = rw (get_or-take w (drop a zs) t (pos 0) h, get_or-drop a zs t (pos 0)) (f (a + t))
    go (no h) = rw (get_or-eq_default (part_at zs w a) (pos 0) {n = t} (omega (arith, part_length zs w a i))) (omega arith)

-- ---- the costs, part by part

module _ (P : Plan) (zs : List ℤ) (w : ℕ) where
  pub costs_none : costs_to P zs w 0 ≡ cost_list []
  unfolding costs_to
  costs_none = refl

  pub costs_more : (k : ℕ) (cs : List ℕ) (c : ℕ) (ns : List ℤ) → costs_to P zs w k ≡ cost_list cs → (result_at P zs w) k ≡ found c ns → costs_to P zs w (suc k) ≡ cost_list (cs ++ (c ∷ []))
  unfolding costs_to
  costs_more k cs c ns e f = rw (e, f) refl

  -- the number of the first part that is refused stands
  pub costs_refused : (n : ℕ) → (result_at P zs w) 0 ≡ refused n → (k : ℕ) → costs_to P zs w (suc k) ≡ no_costs n
  unfolding costs_to
  costs_refused n e zero = rw e refl
  costs_refused n e (suc k) = rw (costs_refused n e k) refl

  last_found : (o : Costs) (r : Result) (cs : List ℕ) → and_cost o r ≡ cost_list cs → (ds : List ℕ) × (c : ℕ) × (ns : List ℤ) × (o ≡ cost_list ds) × (r ≡ found c ns) × (cs ≡ ds ++ (c ∷ []))
  last_found (cost_list ds) (found c ns) cs e = (ds, c, ns, refl, refl, cc)
  last_found (cost_list ds) (refused n) cs e = let z : ◌≡◌ {A = ℕ} 0 1 = cc in absurd (omega arith)
  last_found (no_costs n) r cs e = let z : ◌≡◌ {A = ℕ} 0 1 = cc in absurd (omega arith)

  pub costs_each : (k : ℕ) (cs : List ℕ) → costs_to P zs w k ≡ cost_list cs → Each P zs w k cs
  unfolding costs_to
  costs_each zero cs e = let z : cs ≡ [] = cc in rw z (record { size = refl; cost = λ a h. absurd (omega arith) })
  costs_each (suc k) cs e =
      let (ds, c, ns, o, r, s) = last_found (costs_to P zs w k) ((result_at P zs w) k) cs e in
      one_more ds c ns r s (costs_each k ds o)
    where
      one_more : (ds : List ℕ) (c : ℕ) (ns : List ℤ) → (result_at P zs w) k ≡ found c ns → cs ≡ ds ++ (c ∷ []) → Each P zs w k ds → Each P zs w (suc k) cs
      one_more ds c ns r s m = rw s (record { size = simp length-append (omega (arith, m.size)); cost = λ a h. at a h (ℕ_discrete a k) })
        where
          at : (a : ℕ) → a < suc k → Dec (a ≡ k) → (ns' : List ℤ) × ((result_at P zs w) a ≡ found (get_or (ds ++ (c ∷ [])) a 0) ns')
          at a h (yes q) = (ns, ap (result_at P zs w) q ∙ r ∙ ap (λ (x : ℕ). found x ns) (sym (ap (λ (x : ℕ). get_or (ds ++ (c ∷ [])) x 0) (q ∙ sym m.size) ∙ get_or-append_seam ds c [] 0)))
          at a h (no q) =
              let (ns', f) = m.cost a (omega arith) in
              (ns', f ∙ ap (λ (x : ℕ). found x ns') (sym (get_or-append ds (c ∷ []) 0 a (omega (arith, m.size)))))

-- ---- "without labels, all of them have an allowed segmentation or none has"

-- which segmentations are allowed does not depend on the readings but on how many there are
module _ (P : Plan) (zs : List ℤ) (w : ℕ) (accepts : search_number P w ≡ 0) where
  number_at : (a : ℕ) → a + w ≤ length zs → search_number P (length (part_at zs w a)) ≡ 0
  number_at a h = rw (part_length zs w a h) accepts

  none_at : (a : ℕ) → a + w ≤ length zs → result_of P (part_at zs w a) whole ≡ refused 16 → NoneAllowed P w
  none_at a h e = rw (part_length zs w a h) at ((demand3 P (part_at zs w a)).whole_16 e).1

  pub at_none : (a : ℕ) → a + w ≤ length zs → NoneAllowed P w → result_of P (part_at zs w a) whole ≡ refused 16
  at_none a h never = (demand3 P (part_at zs w a)).16-whole (number_at a h) (rw (part_length zs w a h) never)

  pub parts_alike : (a b : ℕ) → a + w ≤ length zs → b + w ≤ length zs → result_of P (part_at zs w a) whole ≡ refused 16 → result_of P (part_at zs w b) whole ≡ refused 16
  parts_alike a b h k e = at_none b k (none_at a h e)

  part_else : (a : ℕ) → a + w ≤ length zs → ((c : ℕ) × (ns : List ℤ) × (result_of P (part_at zs w a) whole ≡ found c ns)) ⊎ (result_of P (part_at zs w a) whole ≡ refused 16)
  part_else a h = (demand3 P (part_at zs w a)).whole_else (number_at a h)

  -- a cost for each of the first parts, or 16 where no segmentation of w readings is allowed at all
  abbrev Else : ℕ → Type 0
  Else k = ((cs : List ℕ) × (costs_to P zs w k ≡ cost_list cs)) ⊎ ((costs_to P zs w k ≡ no_costs 16) × NoneAllowed P w)

  pub costs_else : (k : ℕ) → k + w ≤ suc (length zs) → Else k
  costs_else zero h = inl ([], costs_none P zs w)
  costs_else (suc k) h = ⊎_elim (found_at (costs_else k (omega arith))) (λ r. all_none (none_at k (omega arith) r)) (part_else k (omega arith))
    where
      all_none : NoneAllowed P w → Else (suc k)
      all_none never = inr (costs_refused P zs w 16 (at_none 0 (omega arith) never) k, never)

      found_at : Else k → (c : ℕ) × (ns : List ℤ) × (result_of P (part_at zs w k) whole ≡ found c ns) → Else (suc k)
      found_at (inl (cs, e)) (c, ns, r) = inl (cs ++ (c ∷ []), costs_more P zs w k cs c ns e r)
      found_at (inr (e, never)) r = all_none never

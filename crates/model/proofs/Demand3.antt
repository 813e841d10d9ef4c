-- What `result_of` means: the third condition of acceptance of the scope paper (01), whose sentences are quoted, of the model's result; of the two
-- calls it is said in `search/specs/Right`. Allowed, cost and order are those of `Model`. Assumes nothing.
use Rattle.std.specs.Prelude.{◌≡◌, refl, ◌⊎◌, List, [], Bool, true, false, cond, ℕ, ◌≤◌, ◌<◌, eqb, ℤ, pos, length, take}
use Rattle.std.proofs.Math.Path.{sym}
use Rattle.std.proofs.Common.{◌∙◌, ap, inl, inr, arith, eqb-true, eq-eqb, ne_eqb, get_or-take, length-take-le}
use Rattle.std.proofs.Math.Option.{Option, none, some}
use Rattle.plan.specs.declared.Plan.{Plan}
use Rattle.model.specs.Segmentation.{Seg, first, next, readings, last_level}
use Rattle.model.specs.Model.{square, loss_at, cost, last_state, Allowed, LeastCost}
use Rattle.model.specs.Run.{run_numbers}
use Rattle.model.specs.Listed.{listed, priced, listed_answer, listed_cost}
use Rattle.model.specs.Refusals.{search_number, point_number}
use Rattle.model.specs.Result.{Result, found, refused, found_seg, found_cost, unless, result_of}
use Rattle.model.proofs.Checked.{built_search, built_point, search_not_16, point_not_16}
use Rattle.model.proofs.Order.{first_one}
use Rattle.model.proofs.Complete.{listed_first, listed_none, listed_least, listed_point_none}
use Rattle.model.specs.Demand3.{Demand3, NoneAllowed}

-- ---- the proof

pub unless_none_lem : (n : ℕ) (r : Result) → n ≡ 0 → unless n r ≡ r
unfolding unless
unless_none_lem n r h = rw (eq-eqb n 0 h) refl

unless_some : (k : ℕ) (r : Result) (n : ℕ) → k ≡ n → (n ≡ 0 → ⊥) → unless k r ≡ refused n
unfolding unless
unless_some k r n e h = rw (e, ne_eqb n 0 h) refl

unless_found : (n : ℕ) (r : Result) (c : ℕ) (ns : List ℤ) → unless n r ≡ found c ns → (n ≡ 0) × (r ≡ found c ns)
unfolding unless
unless_found n r c ns h = go (eqb n 0) refl h
  where
    go : (b : Bool) → eqb n 0 ≡ b → cond b r (refused n) ≡ found c ns → (n ≡ 0) × (r ≡ found c ns)
    go true e q = (eqb-true n 0 e, q)
    go false e q = let z : ◌≡◌ {A = ℕ} 0 1 = cc in absurd (omega arith)

unless_refused_lem : (n k : ℕ) (r : Result) → (n ≡ k → ⊥) → unless n r ≡ refused k → (n ≡ 0) × (r ≡ refused k)
unfolding unless
unless_refused_lem n k r l h = go (eqb n 0) refl h
  where
    go : (b : Bool) → eqb n 0 ≡ b → cond b r (refused n) ≡ refused k → (n ≡ 0) × (r ≡ refused k)
    go true e q = (eqb-true n 0 e, q)
    go false e q = let z : n ≡ k = cc in absurd (l z)

loss_take : (zs : List ℤ) (n t : ℕ) (m : ℤ) → t < n → loss_at (take n zs) t m ≡ loss_at zs t m
unfolding loss_at
loss_take zs n t m h = ap (λ (z : ℤ). square z m) (get_or-take n zs t (pos 0) h)

-- a segmentation of at most n readings costs the same on the first n of zs
pub cost_take : (P : Plan) (zs : List ℤ) (n : ℕ) (g : Seg) → readings g ≤ n → cost P (take n zs) g ≡ cost P zs g
unfolding cost readings
cost_take P zs n (first s m) h = loss_take zs n 0 m h
cost_take P zs n (next g e m) h = rw (cost_take P zs n g (omega arith), loss_take zs n (readings g) m h) refl

module _ (P : Plan) (zs : List ℤ) where
  seg_found : (o : Option Seg) (c : ℕ) (ns : List ℤ) → found_seg P (priced P zs o) ≡ found c ns → (g : Seg) × (o ≡ some g) × (cost P zs g ≡ c) × (run_numbers P g ≡ ns)
  seg_found none c ns h = let z : ◌≡◌ {A = ℕ} 0 1 = cc in absurd (omega arith)
  seg_found (some g) c ns h = (g, refl, cc, cc)

  seg_none : (o : Option Seg) → found_seg P (priced P zs o) ≡ refused 16 → o ≡ none
  seg_none none h = refl
  seg_none (some g) h = let z : ◌≡◌ {A = ℕ} 0 1 = cc in absurd (omega arith)

  cost_found : (o : Option ℕ) (c : ℕ) (ns : List ℤ) → found_cost o ≡ found c ns → (o ≡ some c) × (ns ≡ [])
  cost_found none c ns h = let z : ◌≡◌ {A = ℕ} 0 1 = cc in absurd (omega arith)
  cost_found (some d) c ns h = let z : d ≡ c = cc in (ap some z, cc)

  cost_none : (o : Option ℕ) → found_cost o ≡ refused 16 → o ≡ none
  cost_none none h = refl
  cost_none (some d) h = let z : ◌≡◌ {A = ℕ} 0 1 = cc in absurd (omega arith)

  seg_or_16 : (o : Option Seg) → ((c : ℕ) × (ns : List ℤ) × (found_seg P (priced P zs o) ≡ found c ns)) ⊎ (found_seg P (priced P zs o) ≡ refused 16)
  seg_or_16 none = inr refl
  seg_or_16 (some g) = inl (cost P zs g, run_numbers P g, refl)

  cost_or_16 : (o : Option ℕ) → ((c : ℕ) × (found_cost o ≡ found c [])) ⊎ (found_cost o ≡ refused 16)
  cost_or_16 none = inr refl
  cost_or_16 (some c) = inl (c, refl)

  abbrev n₀ : ℕ
  n₀ = length zs

  -- the whole record, once no number refuses
  module _ (h : search_number P n₀ ≡ 0) where
    is_none : NoneAllowed P n₀ → (o : Option Seg) → listed P zs ≡ o → found_seg P (priced P zs o) ≡ refused 16
    is_none never none e = refl
    is_none never (some g) e = absurd (never g (listed_first P zs (built_search P n₀ h) g e).allowed)

  -- a point
  module _ (s : ℕ) (m : ℤ) (h : point_number P n₀ s m ≡ 0) where
    is_nowhere : ((g : Seg) → Allowed P n₀ g → last_state P g ≡ s → last_level g ≡ m → ⊥) → (o : Option ℕ) → listed_cost P zs s m ≡ o → found_cost o ≡ refused 16
    is_nowhere never none e = refl
    is_nowhere never (some c) e = let (g, a, p, q, w) = (listed_least P zs (built_point P n₀ s m h) s m c e).met in absurd (never g a p q)

  -- the least cost over zs after n readings, and over any list that costs the same
  least_same : (n s : ℕ) (m : ℤ) (c : ℕ) (xs ys : List ℤ) → ((g : Seg) → readings g ≡ n → cost P xs g ≡ cost P ys g) → LeastCost P xs n s m c → LeastCost P ys n s m c
  least_same n s m c xs ys same l =
      let (g, a, p, q, w) = l.met in
      record { met = (g, a, p, q, sym (same g a.count) ∙ w); least = λ g' a' p' q'. rw (← same g' a'.count) (l.least g' a' p' q') }

  pub demand3 : Demand3 P zs
  unfolding result_of listed_answer
  demand3 = record {
    whole_found = λ c ns e.
        let (h, q) = unless_found (search_number P n₀) (found_seg P (listed_answer P zs)) c ns e in
        let (g, o, w, r) = seg_found (listed P zs) c ns q in
        (g, listed_first P zs (built_search P n₀ h) g o, w, r);
    one_first = first_one P zs;
    point_found = λ s m c ns e.
        let (h, q) = unless_found (point_number P n₀ s m) (found_cost (listed_cost P zs s m)) c ns e in
        let (o, w) = cost_found (listed_cost P zs s m) c ns q in
        (listed_least P zs (built_point P n₀ s m h) s m c o, w);
    whole_16 = λ e.
        let (h, q) = unless_refused_lem (search_number P n₀) 16 (found_seg P (listed_answer P zs)) (search_not_16 P n₀) e in
        (h, listed_none P zs (built_search P n₀ h) (seg_none (listed P zs) q));
    16-whole = λ h never. unless_none_lem (search_number P n₀) (found_seg P (listed_answer P zs)) h ∙ is_none h never (listed P zs) refl;
    point_16 = λ s m e.
        let (h, q) = unless_refused_lem (point_number P n₀ s m) 16 (found_cost (listed_cost P zs s m)) (point_not_16 P n₀ s m) e in
        (h, listed_point_none P zs (built_point P n₀ s m h) s m (cost_none (listed_cost P zs s m) q));
    16-point = λ s m h never. unless_none_lem (point_number P n₀ s m) (found_cost (listed_cost P zs s m)) h ∙ is_nowhere s m h never (listed_cost P zs s m) refl;
    whole_early = unless_some (search_number P n₀) (found_seg P (listed_answer P zs));
    whole_else = λ h. rw (unless_none_lem (search_number P n₀) (found_seg P (listed_answer P zs)) h) (seg_or_16 (listed P zs));
    point_early = λ s m. unless_some (point_number P n₀ s m) (found_cost (listed_cost P zs s m));
    point_else = λ s m h. rw (unless_none_lem (point_number P n₀ s m) (found_cost (listed_cost P zs s m)) h) (cost_or_16 (listed_cost P zs s m));
    stopped = λ n h s m c. rw (length-take-le n zs h) (
      least_same n s m c (take n zs) zs (λ g e. cost_take P zs n g (omega arith)),
      least_same n s m c zs (take n zs) (λ g e. sym (cost_take P zs n g (omega arith))),
    );
  }

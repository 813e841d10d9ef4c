-- What an edge of kind any makes of a list: at each level the least at the other levels, which is the least of all but at a level that has it, and the
-- second least there. Assumes nothing.
use mathlib.Core.Path.{◌≡◌, refl, sym, ap, ◌∙◌, subst}
use mathlib.Core.Logic.{◌⊎◌, inl, inr, ⊎_elim}
use mathlib.Core.Bool.{Bool, true, false, cond}
use mathlib.Core.List.{List}
use Prim.Native.Nat.{ℕ, ◌+◌, ◌*◌, ◌-◌, ◌≤◌, ◌<◌, min}
use native.Mathlib.Omega.{arith}
use lib.Dec.{leb, eqb}
use lib.ListN.{length}
use borrow.Author.Tests.{eqb-true, eqb-false}
use Rattle.integers.specs.Rep.{le_or_lt}
use Rattle.quadratic.specs.Quad.{no_value, flat, pick}
use Rattle.quadratic.specs.Fine.{pick_n}
use Rattle.curve.specs.declared.Two.{Two}
use Rattle.curve.specs.Pieces.{piece, Made, constant_but}
use Rattle.curve.specs.Lows.{least_of, second_of, costs, levelled, levelled_is, Beside, TwoLeast}
use Rattle.curve.specs.Curve.{Curve, Limits, Bounded, curve_as, curve_flat, curve_flats, curve_most, curve_value, curve_two}
use Rattle.plan.specs.declared.Kind.TheVariants.{Any}
use Rattle.model.specs.Index.{no_cost, prefix_min, up_min, edge_min, Permitted}
use Rattle.model.proofs.Index.{edge_min_is, edge_min_none, prefix_least}
use Rattle.model.specs.Held.{raise}
use Rattle.edges.specs.Edge.{raise_none, raise_some}

module _ {L : ℕ} {G : ℕ → ℕ} (some_level : 0 < L) (most : (i : ℕ) → i < L → G i ≤ no_value) where
  any_most : (j : ℕ) → j < L → edge_min L Any G j ≤ no_value
  unfolding edge_min up_min
  any_most j h = let u = up (leb 1 j) in omega arith
    where
      up : (b : Bool) → cond b (prefix_min G (j - 1)) no_cost ≤ no_value
      up true = omega (arith, prefix_least G 0 (j - 1) (omega arith), most 0 some_level)
      up false = omega arith

  -- the least at the other levels is the model's
  any_of : (j x : ℕ) → j < L → ((i : ℕ) → i < L → (i ≡ j → ⊥) → x ≤ G i) → (x ≡ no_value) ⊎ Beside G L j x → edge_min L Any G j ≡ x
  any_of j x h low = ⊎_elim (λ e. off (omega arith) (omega arith)) (λ b. ⊎_elim (λ k. off k (omega (arith, b.is, most b.at b.inside))) (λ k. on b k) (le_or_lt no_value x))
    where
      other : (i : ℕ) → i < L → Permitted Any i j → x ≤ G i
      other i k p = low i k (λ e. ⊎_elim (λ q. omega arith) (λ q. omega arith) p)

      off : no_value ≤ x → x ≤ no_value → edge_min L Any G j ≡ x
      off a b = omega (arith, any_most j h, edge_min_none L Any G j h (λ i k p. omega (arith, other i k p)))

      on : Beside G L j x → x < no_value → edge_min L Any G j ≡ x
      on b k =
          let p : Permitted Any b.at j = ⊎_elim (λ q. inr (omega arith)) (λ q. inl (omega arith)) (apart b.at b.other) in
          edge_min_is L Any G j h b.at b.inside p (omega (arith, b.is)) (λ i c q. omega (arith, b.is, other i c q)) ∙ sym b.is
        where
          apart : (i : ℕ) → (i ≡ j → ⊥) → (j < i) ⊎ (i < j)
          apart i n = ⊎_elim (λ q. ⊎_elim (λ u. absurd (n (omega arith))) (λ u. inl u) (le_or_lt i j)) (λ q. inr q) (le_or_lt j i)

  any_is : {r : Two} → TwoLeast G L r → (j : ℕ) → j < L → pick_n (eqb j r.least.level) (second_of r) (least_of r) ≡ edge_min L Any G j
  any_is {r} t j h = go (eqb j r.least.level) refl
    where
      go : (b : Bool) → eqb j r.least.level ≡ b → pick_n b (second_of r) (least_of r) ≡ edge_min L Any G j
      go true e =
          let w : r.least.level ≡ j = sym (eqb-true j r.least.level e) in
          sym (any_of j (second_of r) h (λ i k n. t.others i k (λ q. n (q ∙ w))) (subst (λ (i : ℕ). (second_of r ≡ no_value) ⊎ Beside G L i (second_of r)) w t.second))
      go false e =
          sym (any_of j (least_of r) h (λ i k n. t.least i k) (⊎_elim (λ c. inl c.0) (λ c. inr (record { at = r.least.level; inside = c.0; other = λ q. eqb-false j r.least.level e (sym q); is = c.1 })) t.is))

pub any_inside : {L : ℕ} {G : ℕ → ℕ} {r : Two} → 0 < L → TwoLeast G L r → r.least.level < L
any_inside h t = ⊎_elim (λ c. omega (arith, c.1)) (λ c. c.0) t.is

-- the list made of the two least
module _ {ws : List ℕ} {base L f : ℕ} {r : Two} (p : 0 < L) (t : TwoLeast (costs base (piece ws f L)) L r) {A B : ℕ} {G : ℕ → ℕ} (l : Limits A B base L) (c : Curve A B base L ws f G) where
  pub least_sized : Bounded A B (least_of r)
  least_sized = ⊎_elim (λ e. inl e.0) (λ e. subst (Bounded A B) (sym e.1) (curve_value l c r.least.level e.0)) (curve_two c t).is

  pub least_most : least_of r ≤ no_value
  least_most = ⊎_elim (λ q. omega arith) (λ q. omega (arith, l.cost)) least_sized

  second_sized : Bounded A B (second_of r)
  second_sized = ⊎_elim (λ e. inl e) (λ b. subst (Bounded A B) (sym b.is) (curve_value l c b.at b.inside)) (curve_two c t).second

  both_sized : (b : Bool) → Bounded A B (pick_n b (second_of r) (least_of r))
  both_sized true = second_sized
  both_sized false = least_sized

  -- the least alone
  pub least_curve : {w1 : List ℕ} {work : ℕ} → work + 4 * L ≤ length ws → Made (λ (j : ℕ). flat r.least.rank.value r.least.rank.changes) ws w1 work L → Curve A B base L w1 work (λ (j : ℕ). least_of r)
  least_curve h m = curve_flat least_sized h (record { kept = m.kept; formed = m.formed; is = λ j k. m.is j k ∙ sym (levelled_is r.least.rank.value r.least.rank.changes t.changes) })

  -- with the second least, it is the model's
  pub others_curve : {w1 : List ℕ} {work : ℕ} → work + 4 * L ≤ length ws → Made (constant_but r) ws w1 work L → Curve A B base L w1 work (edge_min L Any G)
  others_curve h m = curve_as (edge_min L Any G) (any_is p (curve_most l c) (curve_two c t))
      (curve_flats (λ (j : ℕ). pick_n (eqb j r.least.level) (second_of r) (least_of r)) (λ j k. both_sized (eqb j r.least.level)) h (record { kept = m.kept; formed = m.formed; is = λ j k. m.is j k ∙ level_of (eqb j r.least.level) }))
    where
      level_of : (b : Bool) → pick b (flat r.second.value r.second.changes) (flat r.least.rank.value r.least.rank.changes) ≡ levelled (pick_n b (second_of r) (least_of r))
      level_of true = sym (levelled_is r.second.value r.second.changes t.second_changes)
      level_of false = sym (levelled_is r.least.rank.value r.least.rank.changes t.changes)

  -- the second least is no less
  second_most : least_of r ≤ second_of r
  second_most = ⊎_elim (λ e. omega (arith, least_most)) (λ b. omega (arith, b.is, (curve_two c t).least b.at b.inside)) (curve_two c t).second

  -- without it nothing more is seen, where F, the least so far, comes at that level no later than the least with pen and one change
  pub least_seen : (pen : ℕ) (F : ℕ → ℕ) → F r.least.level ≤ no_value → F r.least.level ≤ least_of r + pen → (j : ℕ) → j < L → min (F j) (raise (least_of r) pen) ≡ min (F j) (raise (edge_min L Any G j) pen)
  least_seen pen F m h j k = subst (λ (x : ℕ). min (F j) (raise (least_of r) pen) ≡ min (F j) (raise x pen)) (any_is p (curve_most l c) (curve_two c t) j k) (go (eqb j r.least.level) refl)
    where
      over : (x : ℕ) → least_of r ≤ x → F r.least.level ≤ raise x pen
      over x g = ⊎_elim (λ q. omega (arith, raise_none x pen q)) (λ q. omega (arith, raise_some x pen q)) (le_or_lt no_value x)

      go : (b : Bool) → eqb j r.least.level ≡ b → min (F j) (raise (least_of r) pen) ≡ min (F j) (raise (pick_n b (second_of r) (least_of r)) pen)
      go true e = let w : F j ≡ F r.least.level = ap F (eqb-true j r.least.level e) in omega (arith, over (least_of r) (omega arith), over (second_of r) second_most)
      go false e = refl

-- The least over the levels that an edge permits, and the lowest of them that has it: the step back. Assumes nothing.
use Rattle.std.specs.Prelude.{◌≡◌, ◌⊎◌, Bool, true, false, List, ℕ, ◌≤◌, ◌<◌, ltb}
use Rattle.std.proofs.Common.{sym, ap, ◌∙◌, subst, inl, inr, ⊎_elim, arith, lt-ltb, le-ltb}
use Rattle.integers.specs.Rep.{le_or_lt}
use Rattle.quadratic.specs.Quad.{count_limit}
use Rattle.curve.specs.declared.Low.{Low}
use Rattle.curve.specs.Pieces.{piece}
use Rattle.curve.specs.Lows.{top_cost, low_of, costs, no_low, Least, LeastIn}
use Rattle.curve.specs.Curve.{Curve}
use Rattle.plan.specs.declared.Kind.{Kind}
use Rattle.model.specs.Index.{no_cost, edge_min, Permitted}
use Rattle.model.proofs.Index.{edge_min_is, edge_min_none}

abbrev pub pick_low : Bool → Low → Low → Low
pick_low true a b = a
pick_low false a b = b

-- r is a value of F at a level with P, and no lower level with P has a value as low
pub record Met (P : ℕ → Type 0) (L : ℕ) (F : ℕ → ℕ) (r : Low) : Type 0 where
  pub inside : r.level < L
  pub holds : P r.level
  pub is : low_of r ≡ F r.level
  pub first : (i : ℕ) → i < r.level → P i → low_of r < F i

-- r is the least of F over the levels with P, at the lowest of them that has it; `no_low` where there is none
pub record LeastOf (P : ℕ → Type 0) (L : ℕ) (F : ℕ → ℕ) (r : Low) : Type 0 where
  pub least : (i : ℕ) → i < L → P i → low_of r ≤ F i
  pub met : (r ≡ no_low) ⊎ Met P L F r
  pub changes : r.rank.changes ≤ count_limit
  pub high : r.rank.value ≤ top_cost

-- what the step back needs: the edge's cost, and the level that it is taken from
pub record Offered (L : ℕ) (k : Kind) (F : ℕ → ℕ) (j : ℕ) (r : Low) : Type 0 where
  pub is : edge_min L k F j ≡ low_of r
  pub inside : r.level < L
  pub permitted : Permitted k r.level j
  pub at : F r.level ≡ edge_min L k F j
  pub first : (i : ℕ) → i < r.level → Permitted k i j → F i ≡ edge_min L k F j → ⊥

-- ---- laws
pub least_same : {P : ℕ → Type 0} {L : ℕ} {F G : ℕ → ℕ} {r : Low} → ((i : ℕ) → i < L → F i ≡ G i) → LeastOf P L F r → LeastOf P L G r
least_same e l = record {
  least = λ i h p. omega (arith, e i h, l.least i h p);
  met = ⊎_elim (λ t. inl t) (λ m. inr (record { inside = m.inside; holds = m.holds; is = m.is ∙ e _ m.inside; first = λ i h p. omega (arith, e i (omega (arith, m.inside)), m.first i h p) })) l.met;
  changes = l.changes;
  high = l.high;
}

-- a range
pub range_least : {P : ℕ → Type 0} {L : ℕ} {F : ℕ → ℕ} {from to : ℕ} {r : Low} → LeastIn F from to r → to < L → ((i : ℕ) → i < L → P i → (from ≤ i) × (i ≤ to)) → ((i : ℕ) → from ≤ i → i ≤ to → P i) → LeastOf P L F r
range_least {P} {L} {F} {from} {to} {r} t h f g = ⊎_elim (λ k. some (t.some k)) (λ k. none_there k) (le_or_lt from to)
  where
    some : Least F from to r → LeastOf P L F r
    some l = record {
      least = λ i k p. l.least i (f i k p).0 (f i k p).1;
      met = inr (record { inside = omega (arith, l.high); holds = g r.level l.low l.high; is = l.is; first = λ i k p. l.first i (f i (omega (arith, l.high)) p).0 k });
      changes = t.changes;
      high = t.high;
    }

    none_there : to < from → LeastOf P L F r
    none_there k = record { least = λ i n p. absurd (omega (arith, f i n p)); met = inl (t.empty k); changes = t.changes; high = t.high }

-- two sets of levels, the first below the second
pub both_least : {P Q : ℕ → Type 0} {L : ℕ} {F : ℕ → ℕ} {a b : Low} → ((i k : ℕ) → P i → Q k → i ≤ k) → LeastOf P L F a → LeastOf Q L F b → LeastOf (λ (i : ℕ). P i ⊎ Q i) L F (pick_low (ltb (low_of b) (low_of a)) b a)
both_least {P} {Q} {L} {F} {a} {b} o x y = ⊎_elim
    (λ h. rw (le-ltb (low_of b) (low_of a) h) (record {
      least = λ i g. ⊎_elim (λ p. x.least i g p) (λ q. omega (arith, y.least i g q));
      met = ⊎_elim (λ t. inl t) (λ m. inr (record { inside = m.inside; holds = inl m.holds; is = m.is; first = λ i g. ⊎_elim (λ p. m.first i g p) (λ q. absurd (omega (arith, o a.level i m.holds q))) })) x.met;
      changes = x.changes;
      high = x.high;
    }))
    (λ h. rw (lt-ltb (low_of b) (low_of a) h) (record {
      least = λ i g. ⊎_elim (λ p. omega (arith, x.least i g p)) (λ q. y.least i g q);
      met = ⊎_elim (λ t. inl t) (λ m. inr (record { inside = m.inside; holds = inr m.holds; is = m.is; first = λ i g. ⊎_elim (λ p. omega (arith, x.least i (omega (arith, m.inside)) p)) (λ q. m.first i g q) })) y.met;
      changes = y.changes;
      high = y.high;
    }))
    (le_or_lt (low_of a) (low_of b))

pub both_as : {P Q : ℕ → Type 0} {L : ℕ} {F : ℕ → ℕ} {a b r : Low} → r ≡ pick_low (ltb (low_of b) (low_of a)) b a → ((i k : ℕ) → P i → Q k → i ≤ k) → LeastOf P L F a → LeastOf Q L F b → LeastOf (λ (i : ℕ). P i ⊎ Q i) L F r
both_as {P} {Q} {L} {F} e o x y = subst (λ (r : Low). LeastOf (λ (i : ℕ). P i ⊎ Q i) L F r) (sym e) (both_least o x y)

pub kind_least : (k h : Kind) (j : ℕ) {L : ℕ} {F : ℕ → ℕ} {r : Low} → k ≡ h → LeastOf (λ (i : ℕ). Permitted h i j) L F r → LeastOf (λ (i : ℕ). Permitted k i j) L F r
kind_least k h j {L} {F} {r} e l = subst (λ (x : Kind). LeastOf (λ (i : ℕ). Permitted x i j) L F r) (sym e) l

-- ---- in the model's terms
module _ {L : ℕ} (k : Kind) {F : ℕ → ℕ} (j : ℕ) {r : Low} (hj : j < L) (l : LeastOf (λ (i : ℕ). Permitted k i j) L F r) where
  -- there is no cost
  pub offered_none : no_cost ≤ low_of r → no_cost ≤ edge_min L k F j
  offered_none h = edge_min_none L k F j hj (λ i g p. omega (arith, l.least i g p))

  pub offered : low_of r < no_cost → Offered L k F j r
  offered h = ⊎_elim (λ t. let z = ap low_of t in absurd (omega arith)) there l.met
    where
      there : Met (λ (i : ℕ). Permitted k i j) L F r → Offered L k F j r
      there m =
          let e = edge_min_is L k F j hj r.level m.inside m.holds (omega (arith, m.is)) (λ i g p. omega (arith, m.is, l.least i g p)) in
          record { is = e ∙ sym m.is; inside = m.inside; permitted = m.holds; at = sym e; first = λ i g p q. omega (arith, m.first i g p, m.is) }

-- of a list that costs F
pub curve_before : {A B base L : ℕ} {ws : List ℕ} {o : ℕ} {F : ℕ → ℕ} {P : ℕ → Type 0} {r : Low} → Curve A B base L ws o F → LeastOf P L (costs base (piece ws o L)) r → LeastOf P L F r
curve_before c l = least_same (λ i h. (c.at i h).is) l

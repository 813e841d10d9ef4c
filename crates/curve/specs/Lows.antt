-- The least of a function's values, and the lowest level that has it. A value is a cost with its changes as one number. Assumes nothing.
use Rattle.std.specs.Prelude.{◌≡◌, refl, ◌⊎◌, List, ℕ, zero, suc, ◌+◌, ◌*◌, ◌/◌, ◌%◌, ◌≤◌, ◌<◌, ltb}
use Rattle.std.proofs.Common.{◌∙◌, inl, inr, ⊎_elim, add-one, arith, lt-ltb, le-ltb}
use Rattle.integers.specs.Rep.{le_or_lt}
use Rattle.integers.specs.Pairs.{unit, lex, first_is, second_is}
use Rattle.quadratic.specs.Fine.{pick_n}
use Rattle.quadratic.specs.Quad.{Quad, value, no_value, flat, pick, Under, Over, count_limit}
use Rattle.quadratic.specs.declared.Rank.{Rank}
use Rattle.curve.specs.declared.Low.{Low}
use Rattle.curve.specs.declared.Run.{Run}
use Rattle.curve.specs.declared.Two.{Two}
use Rattle.curve.specs.Pieces.{Emits}

-- more than any cost, and more than any value
abbrev pub top_cost : ℕ
top_cost = 1152921504606846977

abbrev pub top : ℕ
top = unit * top_cost

-- the values that are handed on
abbrev pub rank_of : Rank → ℕ
rank_of r = lex r.value r.changes

abbrev pub low_of : Low → ℕ
low_of r = rank_of r.rank

abbrev pub best_of : Run → ℕ
best_of r = rank_of r.best

abbrev pub least_of : Two → ℕ
least_of r = low_of r.least

abbrev pub second_of : Two → ℕ
second_of r = rank_of r.second

-- the quadratic that has a value everywhere
abbrev pub levelled : ℕ → Quad
levelled x = flat (x / unit) (x % unit)

-- the value of F at each level, cost and changes in one number
abbrev pub costs : ℕ → (ℕ → Quad) → ℕ → ℕ
costs base F j = value (F j) (base + j)

-- r is the least of G on [from, to], at its lowest level
pub record Least (G : ℕ → ℕ) (from to : ℕ) (r : Low) : Type 0 where
  pub low : from ≤ r.level
  pub high : r.level ≤ to
  pub is : low_of r ≡ G r.level
  pub least : (m : ℕ) → from ≤ m → m ≤ to → low_of r ≤ G m
  pub first : (m : ℕ) → from ≤ m → m < r.level → low_of r < G m

-- what stands for the least where there is no level: more than any, at level 0
abbrev pub no_low : Low
no_low = record { rank = record { value = top_cost; changes = 0 }; level = 0 }

-- the same on a range that may be empty
pub record LeastIn (G : ℕ → ℕ) (from to : ℕ) (r : Low) : Type 0 where
  pub some : from ≤ to → Least G from to r
  pub empty : to < from → r ≡ no_low
  pub changes : r.rank.changes ≤ count_limit
  pub high : r.rank.value ≤ top_cost

-- the least of G at the levels below j, and top where there are none
unfoldable pub lowest : (ℕ → ℕ) → ℕ → ℕ
lowest G zero = top
lowest G (suc j) = pick_n (ltb (G j) (lowest G j)) (G j) (lowest G j)

-- F where it is less than at every level before; else the least before
abbrev pub prefix_of : ℕ → (ℕ → Quad) → ℕ → Quad
prefix_of base F j = pick (ltb (costs base F j) (lowest (costs base F) j)) (F j) (levelled (lowest (costs base F) j))

-- r is the first level of [a, v] at which p costs less than best
pub record Drops (p : Quad) (best a v base r : ℕ) : Type 0 where
  pub low : a ≤ r
  pub high : r ≤ v
  pub before : (m : ℕ) → a ≤ m → m < r → Under (flat best 0) p (base + m)
  pub at : Over (flat best 0) p (base + r)

-- the pieces of the least so far at the levels from a to e, where p is in force
pub record Prefixed (ws ws' : List ℕ) (dst base a e : ℕ) (p : Quad) (run r : Run) : Type 0 where
  pub on : (F : ℕ → Quad) → ((j : ℕ) → a ≤ j → j ≤ e → F j ≡ p) → lowest (costs base F) a ≡ best_of run → Emits (prefix_of base F) ws ws' dst run.n a (e + 1) r.n × (lowest (costs base F) (e + 1) ≡ best_of r)
  pub changes : r.best.changes ≤ count_limit

-- r is best, or p's least on [a, b], at its lowest level, where that is less
pub record Lowered (best : Low) (p : Quad) (a b base : ℕ) (r : Low) : Type 0 where
  pub least : (m : ℕ) → a ≤ m → m ≤ b → low_of r ≤ value p (base + m)
  pub is : (r ≡ best) ⊎ (((a ≤ r.level) × (r.level ≤ b)) × ((low_of r ≡ value p (base + r.level)) × ((low_of r < low_of best) × ((m : ℕ) → a ≤ m → m < r.level → low_of r < value p (base + m)))))
  pub changes : r.rank.changes ≤ count_limit

-- x is G's at a level below L that is not i
pub record Beside (G : ℕ → ℕ) (L i x : ℕ) : Type 0 where
  pub at : ℕ
  pub inside : at < L
  pub other : at ≡ i → ⊥
  pub is : x ≡ G at

-- r is the least of G at the levels below L, the lowest level that has it, and the least at the other levels; none where there is no level, or no
-- other
pub record TwoLeast (G : ℕ → ℕ) (L : ℕ) (r : Two) : Type 0 where
  pub least : (m : ℕ) → m < L → least_of r ≤ G m
  pub first : (m : ℕ) → m < r.least.level → least_of r < G m
  pub is : ((least_of r ≡ no_value) × (r.least.level ≡ 0)) ⊎ ((r.least.level < L) × (least_of r ≡ G r.least.level))
  pub others : (m : ℕ) → m < L → (m ≡ r.least.level → ⊥) → second_of r ≤ G m
  pub second : (second_of r ≡ no_value) ⊎ Beside G L r.least.level (second_of r)
  pub changes : r.least.rank.changes ≤ count_limit
  pub second_changes : r.second.changes ≤ count_limit

-- best is of the levels below a, r of those up to e, and from a on p is in force
pub record TwoLowered (best : Two) (p : Quad) (a e base : ℕ) (r : Two) : Type 0 where
  pub on : (G : ℕ → ℕ) → ((j : ℕ) → a ≤ j → j ≤ e → (G j ≡ value p (base + j)) × (G j ≤ no_value)) → TwoLeast G a best → TwoLeast G (e + 1) r

-- r is the less of best and of p at v, where v lies in [x, y]; else best
pub record LessAt (best : Rank) (p : Quad) (v x y : ℕ) (r : Rank) : Type 0 where
  pub low : rank_of r ≤ rank_of best
  pub there : x ≤ v → v ≤ y → rank_of r ≤ value p v
  pub is : (rank_of r ≡ rank_of best) ⊎ (((x ≤ v) × (v ≤ y)) × (rank_of r ≡ value p v))
  pub changes : r.changes ≤ count_limit

-- ---- laws
pub lowest_zero : (G : ℕ → ℕ) → lowest G 0 ≡ top
unfolding lowest
lowest_zero G = refl

pub lowest_new : (G : ℕ → ℕ) (j : ℕ) → G j < lowest G j → lowest G (j + 1) ≡ G j
unfolding lowest
lowest_new G j h = rw (add-one, lt-ltb (G j) (lowest G j) h)

pub lowest_old : (G : ℕ → ℕ) (j : ℕ) → lowest G j ≤ G j → lowest G (j + 1) ≡ lowest G j
unfolding lowest
lowest_old G j h = rw (add-one, le-ltb (G j) (lowest G j) h)

-- nothing less from x on: it stays
pub lowest_stays : (G : ℕ → ℕ) (x b : ℕ) → lowest G x ≡ b → (i : ℕ) → ((j : ℕ) → x ≤ j → j < x + i → b ≤ G j) → lowest G (x + i) ≡ b
lowest_stays G x b e zero f = let z : x + 0 ≡ x = omega arith in rw z e
lowest_stays G x b e (suc i) f =
    let z : x + suc i ≡ x + i + 1 = omega arith in
    let h : lowest G (x + i) ≡ b = lowest_stays G x b e i (λ j u v. f j u (omega arith)) in
    rw z (lowest_old G (x + i) (rw h (f (x + i) (omega arith) (omega arith))) ∙ h)

-- G falls from s on, from below what was least: each is the least so far
pub lowest_falls : (G : ℕ → ℕ) (s : ℕ) → G s < lowest G s → (i : ℕ) → ((j : ℕ) → s ≤ j → j < s + i → G (j + 1) < G j) → G (s + i) < lowest G (s + i)
lowest_falls G s h zero f = let z : s + 0 ≡ s = omega arith in rw z h
lowest_falls G s h (suc i) f =
    let z : s + suc i ≡ s + i + 1 = omega arith in
    let l : lowest G (s + i + 1) ≡ G (s + i) = lowest_new G (s + i) (lowest_falls G s h i (λ j u v. f j u (omega arith))) in
    rw (z, l) (f (s + i) (omega arith) (omega arith))

-- it is top, or one of them
pub record Among (G : ℕ → ℕ) (j : ℕ) : Type 0 where
  pub at : ℕ
  pub inside : at < j
  pub is : lowest G j ≡ G at

pub lowest_among : (G : ℕ → ℕ) (j : ℕ) → (lowest G j ≡ top) ⊎ Among G j
lowest_among G zero = inl (lowest_zero G)
lowest_among G (suc j) =
    let z : suc j ≡ j + 1 = omega arith in
    ⊎_elim
    (λ p. ⊎_elim (λ t. inl (rw z (lowest_old G j p ∙ t))) (λ a. inr (record { at = a.at; inside = omega (arith, a.inside); is = rw z (lowest_old G j p ∙ a.is) })) (lowest_among G j))
    (λ p. inr (record { at = j; inside = omega arith; is = rw z (lowest_new G j p) }))
    (le_or_lt (lowest G j) (G j))

-- what is in force is F, or it is the least before
pub prefix_new : (base : ℕ) (F : ℕ → Quad) (j : ℕ) → costs base F j < lowest (costs base F) j → prefix_of base F j ≡ F j
prefix_new base F j h = rw (lt-ltb (costs base F j) (lowest (costs base F) j) h)

pub prefix_old : (base : ℕ) (F : ℕ → Quad) (j b : ℕ) → lowest (costs base F) j ≡ b → b ≤ costs base F j → prefix_of base F j ≡ levelled b
prefix_old base F j b e h = rw (e, le-ltb (costs base F j) b h)

pub levelled_is : (x k : ℕ) → k ≤ count_limit → levelled (lex x k) ≡ flat x k
levelled_is x k h = rw (first_is x k (omega arith), second_is x k (omega arith))

pub lowest_most : (G : ℕ → ℕ) (j : ℕ) → lowest G j ≤ top
lowest_most G zero = omega (arith, lowest_zero G)
lowest_most G (suc j) =
    let z : suc j ≡ j + 1 = omega arith in
    rw z (⊎_elim (λ p. omega (arith, lowest_old G j p, lowest_most G j)) (λ p. omega (arith, lowest_new G j p, lowest_most G j)) (le_or_lt (lowest G j) (G j)))

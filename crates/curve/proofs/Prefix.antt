-- The least so far, and the least on a range. Assumes nothing.
use mathlib.Core.Path.{◌≡◌, refl, sym, ap, ◌∙◌, subst}
use mathlib.Core.Logic.{◌⊎◌, inl, inr, ⊎_elim}
use mathlib.Core.List.{List}
use Prim.Native.Nat.{ℕ, ◌+◌, ◌-◌, ◌≤◌, ◌<◌}
use native.Mathlib.Omega.{arith}
use Rattle.integers.specs.Rep.{le_or_lt}
use Rattle.integers.specs.Pairs.{lex}
use Rattle.quadratic.specs.Fine.{value_most, fine_sized, late_is}
use Rattle.quadratic.specs.Quad.{Quad, up, down, cost, value, flat, no_value, late, Small, Sized, Lowest, Fine, count_limit, cost_limit}
use Rattle.curve.specs.declared.Low.{Low}
use Rattle.curve.specs.Pieces.{Emits, Appended}
use Rattle.curve.specs.Lists.{emits_append, emits_then, emits_as}
use Rattle.curve.proofs.Laws.{small}
use Rattle.curve.specs.Lows.{top, top_cost, low_of, no_low, costs, levelled_is, Least, LeastIn, Drops, Lowered, lowest, prefix_of, lowest_new, lowest_stays, lowest_falls, prefix_new, prefix_old}

-- ---- a piece where it is in force
pub fine_on : (P : ℕ → Quad) (L base x e : ℕ) (q : Quad) → base + L ≤ 262144 → ((j : ℕ) → j < L → Fine count_limit cost_limit (P j) (base + j)) → x ≤ e → e < L → ((j : ℕ) → x ≤ j → j ≤ e → P j ≡ q)
    → Small q × ((v : ℕ) → base + x ≤ v → v ≤ base + e → down q v ≤ up q v)
fine_on P L base x e q r f h k i = (small (subst Sized (i x (omega arith) h) (fine_sized (record { readings = omega arith; cost = omega arith; place = omega arith }) (f x (omega arith)))), whole)
  where
    whole : (v : ℕ) → base + x ≤ v → v ≤ base + e → down q v ≤ up q v
    whole v u t =
        let w : base + (v - base) ≡ v = omega arith in
        subst (λ (n : ℕ). down q n ≤ up q n) w (subst (λ (p : Quad). down p (base + (v - base)) ≤ up p (base + (v - base))) (i (v - base) (omega arith) (omega arith)) (f (v - base) (omega arith)).whole)

-- its values are none or less
pub fine_most : (P : ℕ → Quad) (L base : ℕ) → base + L ≤ 262144 → ((j : ℕ) → j < L → Fine count_limit cost_limit (P j) (base + j)) → (j : ℕ) → j < L → costs base P j ≤ no_value
fine_most P L base r f j h = value_most (record { readings = omega arith; cost = omega arith; place = omega arith }) (f j h)

-- where it is least: v is the place, and w its value
module _ (p : Quad) (a e base v w : ℕ) (whole : (u : ℕ) → base + a ≤ u → u ≤ base + e → down p u ≤ up p u) (l : Lowest p (base + a) (base + e) v) (ew : w ≡ value p v) where
  pub at_most : (m : ℕ) → a ≤ m → m ≤ e → w ≤ value p (base + m)
  at_most m u t = omega (arith, ew, l.least (base + m) (omega arith) (omega arith), whole (base + m) (omega arith) (omega arith), whole v l.low l.high)

  -- at its level
  pub at_level : w ≡ value p (base + (v - base))
  at_level = let e : base + (v - base) ≡ v = omega (arith, l.low) in rw e ew

-- ---- a piece's part of the least so far
module _ (p : Quad) (base a e v w : ℕ) (whole : (u : ℕ) → base + a ≤ u → u ≤ base + e → down p u ≤ up p u) (l : Lowest p (base + a) (base + e) (base + v)) (ew : w ≡ value p (base + v)) where
  at_least : (j : ℕ) → a ≤ j → j ≤ e → w ≤ value p (base + j)
  at_least = at_most p a e base (base + v) w whole l ew

  goes_down : (j : ℕ) → a ≤ j → j < v → value p (base + (j + 1)) < value p (base + j)
  goes_down j u t =
      let n : base + (j + 1) ≡ base + j + 1 = omega arith in
      rw n (omega (arith, l.falls (base + j) (omega arith) (omega arith), l.high, whole (base + j) (omega arith) (omega (arith, l.high)), whole (base + j + 1) (omega arith) (omega (arith, l.high))))

  module _ (F : ℕ → Quad) (f : (j : ℕ) → a ≤ j → j ≤ e → F j ≡ p) where
    here : (j : ℕ) → a ≤ j → j ≤ e → costs base F j ≡ value p (base + j)
    here j u t = ap (λ (q : Quad). value q (base + j)) (f j u t)

    flat_at : (x b j : ℕ) → a ≤ x → lowest (costs base F) x ≡ b → ((i : ℕ) → x ≤ i → i < j → b ≤ costs base F i) → x ≤ j → lowest (costs base F) j ≡ b
    flat_at x b j g z h u = let k : x + (j - x) ≡ j = omega arith in subst (λ (t : ℕ). lowest (costs base F) t ≡ b) k (lowest_stays (costs base F) x b z (j - x) (λ i m n. h i m (omega arith)))

    -- the least before, a cost x with k changes, put out where it stays the least
    flat_old : (x k j : ℕ) → k ≤ count_limit → lowest (costs base F) j ≡ lex x k → lex x k ≤ costs base F j → flat x k ≡ prefix_of base F j
    flat_old x k j h z g = sym (levelled_is x k h) ∙ sym (prefix_old base F j (lex x k) z g)

    -- nothing less than before
    pub prefix_flat : {ws ws' : List ℕ} {dst n r : ℕ} (x k : ℕ) → k ≤ count_limit → a ≤ e → lex x k ≤ w → lowest (costs base F) a ≡ lex x k → Emits (λ (j : ℕ). flat x k) ws ws' dst n a (e + 1) r
        → Emits (prefix_of base F) ws ws' dst n a (e + 1) r × (lowest (costs base F) (e + 1) ≡ lex x k)
    prefix_flat x k hk h g z m = (emits_as (λ j u t. flat_old x k j hk (flat_at a (lex x k) j (omega arith) z (λ i c d. more i c (omega arith)) u) (more j u (omega arith))) m, flat_at a (lex x k) (e + 1) (omega arith) z (λ i c d. more i c (omega arith)) (omega arith))
      where
        more : (i : ℕ) → a ≤ i → i ≤ e → lex x k ≤ costs base F i
        more i c d = omega (arith, here i c d, at_least i c d)

    -- less from s on, down to v; then v's, a cost y with p's changes m
    pub prefix_falls : {ws w1 w2 ws' : List ℕ} {dst n n1 n2 r : ℕ} (x k y m s : ℕ) → m ≡ p.k → k ≤ count_limit → m ≤ count_limit → w ≡ lex y m → n ≤ a → v ≤ e → Drops p (x + late k m) a v base s → lowest (costs base F) a ≡ lex x k
        → Emits (λ (j : ℕ). flat x k) ws w1 dst n a s n1 → Appended w1 w2 dst n1 v p n2 → Emits (λ (j : ℕ). flat y m) w2 ws' dst n2 (v + 1) (e + 1) r
        → Emits (prefix_of base F) ws ws' dst n a (e + 1) r × (lowest (costs base F) (e + 1) ≡ lex y m)
    prefix_falls x k y m s em hk hm wy hn hv d z m1 m2 m3 = (
      emits_then (omega (arith, d.low, d.high)) (omega arith)
          (emits_append hn d.low d.high
          (emits_as (λ j u t. flat_old x k j hk (flat_at a (lex x k) j (omega arith) z (λ i c g. over i c (omega arith)) u) (over j u t)) m1)
          m2 (λ j u t. sym (prefix_new base F j (new j u t) ∙ f j (omega (arith, d.low)) (omega arith))))
          (emits_as (λ j u t. flat_old y m j hm (flat_at (v + 1) (lex y m) j (omega (arith, d.low, d.high)) after (λ i c g. rest i c (omega arith)) u) (rest j u (omega arith))) m3),
      flat_at (v + 1) (lex y m) (e + 1) (omega (arith, d.low, d.high)) after (λ i c g. rest i c (omega arith)) (omega arith),
    )
      where
        order : (i : ℕ) → (x + late k m ≤ cost p (base + i) → lex x k ≤ value p (base + i)) × (cost p (base + i) < x + late k m → value p (base + i) < lex x k)
        order i = let o = late_is x k (cost p (base + i)) m (omega arith) (omega arith) in (λ h. omega (arith, o.0 h), λ h. omega (arith, o.1 h))

        over : (i : ℕ) → a ≤ i → i < s → lex x k ≤ costs base F i
        over i c g =
            let o = (order i).0 (omega (arith, d.before i c g, whole (base + i) (omega arith) (omega (arith, d.high)))) in
            omega (arith, here i c (omega (arith, d.high)))

        first : costs base F s < lowest (costs base F) s
        first =
            let q = flat_at a (lex x k) s (omega arith) z over d.low in
            let o = (order s).1 (omega (arith, d.at, whole (base + s) (omega (arith, d.low)) (omega (arith, d.high)))) in
            omega (arith, q, here s d.low (omega (arith, d.high)))

        new : (j : ℕ) → s ≤ j → j ≤ v → costs base F j < lowest (costs base F) j
        new j u t =
            let q : s + (j - s) ≡ j = omega arith in
            subst (λ (i : ℕ). costs base F i < lowest (costs base F) i) q
            (lowest_falls (costs base F) s first (j - s)
            (λ i c g. omega (arith, here i (omega (arith, d.low)) (omega arith), here (i + 1) (omega (arith, d.low)) (omega arith), goes_down i (omega (arith, d.low)) (omega arith))))

        after : lowest (costs base F) (v + 1) ≡ lex y m
        after = lowest_new (costs base F) v (new v d.high (omega arith)) ∙ here v (omega (arith, d.low, d.high)) hv ∙ sym ew ∙ wy

        rest : (i : ℕ) → v + 1 ≤ i → i ≤ e → lex y m ≤ costs base F i
        rest i c g = omega (arith, wy, here i (omega (arith, d.low, d.high)) g, at_least i (omega (arith, d.low, d.high)) g)

-- ---- the least on a range
-- best is the least of G at those levels of [from, to] that are below x
pub record Till (G : ℕ → ℕ) (from to x : ℕ) (best : Low) : Type 0 where
  pub least : (m : ℕ) → from ≤ m → m ≤ to → m < x → low_of best ≤ G m
  pub first : (m : ℕ) → from ≤ m → m ≤ to → m < x → m < best.level → low_of best < G m
  pub is : (best ≡ no_low) ⊎ (((from ≤ best.level) × (best.level ≤ to)) × ((best.level < x) × (low_of best ≡ G best.level)))
  pub changes : best.rank.changes ≤ count_limit
  pub high : best.rank.value ≤ top_cost

pub till_none : (G : ℕ → ℕ) (from to : ℕ) → Till G from to 0 no_low
till_none G from to = record { least = λ m u t h. absurd (omega arith); first = λ m u t h. absurd (omega arith); is = inl refl; changes = omega arith; high = omega arith }

pub till_step : (G : ℕ → ℕ) (from to x e a b base : ℕ) (p : Quad) (best r : Low) → Till G from to x best → x ≤ e → ((j : ℕ) → x ≤ j → j ≤ e → G j ≡ value p (base + j))
    → (x ≤ a) × (from ≤ a) → (a ≡ x) ⊎ (a ≡ from) → (b ≤ e) × (b ≤ to) → (b ≡ e) ⊎ (b ≡ to) → Lowered best p a b base r → Till G from to (e + 1) r
till_step G from to x e a b base p best r t h g ha ka hb kb w = ⊎_elim old new w.is
  where
    low : (m : ℕ) → from ≤ m → x ≤ m → a ≤ m
    low m u v = ⊎_elim (λ q. omega arith) (λ q. omega arith) ka

    high : (m : ℕ) → m ≤ to → m ≤ e → m ≤ b
    high m u v = ⊎_elim (λ q. omega arith) (λ q. omega arith) kb

    here : (m : ℕ) → from ≤ m → m ≤ to → m < e + 1 → x ≤ m → low_of r ≤ G m
    here m u v y z = omega (arith, g m z (omega arith), w.least m (low m u z) (high m v (omega arith)))

    old : r ≡ best → Till G from to (e + 1) r
    old q = rw q (record {
      least = λ m u v y. ⊎_elim (λ z. rw q at (here m u v y z)) (λ z. t.least m u v z) (le_or_lt x m);
      first = λ m u v y k. ⊎_elim (λ z. absurd (⊎_elim (λ c. let d = ap (λ (l : Low). l.level) c in omega arith) (λ c. let d = c.1.0 in omega arith) t.is)) (λ z. t.first m u v z k) (le_or_lt x m);
      is = ⊎_elim (λ c. inl c) (λ c. inr (c.0, (omega (arith, c.1.0), c.1.1))) t.is;
      changes = t.changes;
      high = t.high;
    })

    new : ((a ≤ r.level) × (r.level ≤ b)) × ((low_of r ≡ value p (base + r.level)) × ((low_of r < low_of best) × ((m : ℕ) → a ≤ m → m < r.level → low_of r < value p (base + m)))) → Till G from to (e + 1) r
    new q = record {
      least = λ m u v y. ⊎_elim (λ z. here m u v y z) (λ z. omega (arith, t.least m u v z, q.1.1.0)) (le_or_lt x m);
      first = λ m u v y k. ⊎_elim (λ z. omega (arith, g m z (omega arith), q.1.1.1 m (low m u z) k)) (λ z. omega (arith, t.least m u v z, q.1.1.0)) (le_or_lt x m);
      is = inr ((omega (arith, q.0), omega (arith, q.0)), (omega (arith, q.0), q.1.0 ∙ sym (g r.level (omega (arith, q.0)) (omega (arith, q.0)))));
      changes = w.changes;
      high = omega (arith, q.1.1.0, t.high, t.changes);
    }

pub till_done : (G : ℕ → ℕ) (from to x : ℕ) (r : Low) → Till G from to x r → from ≤ to → to < x → G from < top → Least G from to r
till_done G from to x r t h g k = ⊎_elim
    (λ c. let z = ap (λ (l : Low). low_of l) c in absurd (omega (arith, t.least from (omega arith) h (omega arith))))
    (λ c. record { low = c.0.0; high = c.0.1; is = c.1.1; least = λ m u v. t.least m u v (omega arith); first = λ m u v. t.first m u (omega (arith, c.0)) (omega (arith, c.0)) v })
    t.is

pub till_in : (G : ℕ → ℕ) (from to x : ℕ) (r : Low) → Till G from to x r → to < x → (from ≤ to → G from < top) → LeastIn G from to r
till_in G from to x r t g k = record {
  some = λ h. till_done G from to x r t h g (k h);
  empty = λ h. ⊎_elim (λ c. c) (λ c. absurd (omega (arith, c.0))) t.is;
  changes = t.changes;
  high = t.high;
}

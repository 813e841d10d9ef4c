-- The least and the least beside it, and the list that is made of them. Assumes nothing.
use mathlib.Core.Path.{◌≡◌, refl, sym, ◌∙◌, subst}
use mathlib.Core.Logic.{◌⊎◌, inl, inr, ⊎_elim}
use mathlib.Core.List.{List}
use Prim.Native.Nat.{ℕ, ◌+◌, ◌-◌, ◌≤◌, ◌<◌}
use native.Mathlib.Omega.{arith}
use borrow.Author.Tests.{eq-eqb, ne_eqb}
use Rattle.integers.specs.Rep.{le_or_lt}
use Rattle.quadratic.specs.Quad.{Quad, up, down, value, flat, none, no_value, Lowest, AtMost, Less, count_limit}
use Rattle.quadratic.proofs.Laws.{rises_after, falls_before}
use Rattle.quadratic.specs.declared.Rank.{Rank}
use Rattle.curve.specs.declared.Two.{Two}
use Rattle.curve.specs.Pieces.{Emits, Made, constant_but}
use Rattle.curve.specs.Lists.{emits_then, emits_as, made}
use Rattle.curve.specs.Lows.{rank_of, least_of, second_of, Beside, TwoLeast, LessAt}
use Rattle.curve.proofs.Prefix.{at_most, at_level}

pub two_none : (G : ℕ → ℕ) → TwoLeast G 0 (record { least = record { rank = record { value = none; changes = 0 }; level = 0 }; second = record { value = none; changes = 0 } })
two_none G = record { least = λ m h. absurd (omega arith); first = λ m h. absurd (omega arith); is = inl (omega arith, refl); others = λ m h. absurd (omega arith); second = inl (omega arith); changes = omega arith; second_changes = omega arith }

-- ---- one piece more: p on [a, e], whose least value is w at the place v
module _ (best : Two) (p : Quad) (a e base v w : ℕ) (whole : (u : ℕ) → base + a ≤ u → u ≤ base + e → down p u ≤ up p u) (l : Lowest p (base + a) (base + e) v) (ew : w ≡ value p v) (G : ℕ → ℕ) (g : (j : ℕ) → a ≤ j → j ≤ e → (G j ≡ value p (base + j)) × (G j ≤ no_value)) (t : TwoLeast G a best) where
  low : (m : ℕ) → a ≤ m → m < e + 1 → w ≤ G m
  low m x y = omega (arith, (g m x (omega arith)).0, at_most p a e base v w whole l ew m x (omega arith))

  here : w ≡ G (v - base)
  here = at_level p a e base v w whole l ew ∙ sym (g (v - base) (omega (arith, l.low)) (omega (arith, l.high))).0

  -- w is not less than the least so far
  pub two_kept : (s : Rank) → s.changes ≤ count_limit → least_of best ≤ w → (rank_of s ≤ second_of best) × (rank_of s ≤ w) → (rank_of s ≡ second_of best) ⊎ (rank_of s ≡ w)
      → TwoLeast G (e + 1) (record { least = best.least; second = s })
  two_kept s ks h k f = record {
    least = λ m y. ⊎_elim (λ x. omega (arith, low m x y)) (λ x. t.least m x) (le_or_lt a m);
    first = t.first;
    is = ⊎_elim (λ c. inl c) (λ c. inr (omega (arith, c.0, l.low, l.high), c.1)) t.is;
    others = λ m y n. ⊎_elim (λ x. omega (arith, low m x y)) (λ x. omega (arith, t.others m x n)) (le_or_lt a m);
    second = ⊎_elim old new f;
    changes = t.changes;
    second_changes = ks;
  }
    where
      old : rank_of s ≡ second_of best → (rank_of s ≡ no_value) ⊎ Beside G (e + 1) best.least.level (rank_of s)
      old q = ⊎_elim (λ c. inl (q ∙ c)) (λ b. inr (record { at = b.at; inside = omega (arith, b.inside, l.low, l.high); other = b.other; is = q ∙ b.is })) t.second

      new : rank_of s ≡ w → (rank_of s ≡ no_value) ⊎ Beside G (e + 1) best.least.level (rank_of s)
      new q = ⊎_elim
          (λ c. inl (omega (arith, c.0, here, (g (v - base) (omega (arith, l.low)) (omega (arith, l.high))).1)))
          (λ c. inr (record { at = v - base; inside = omega (arith, l.high); other = λ x. omega (arith, c.0, l.low); is = q ∙ here }))
          t.is

  -- w is less: the levels beside it and the least so far are left
  pub two_new : (r b s s' : Rank) → rank_of r ≡ w → r.changes ≤ count_limit → rank_of b ≡ least_of best → 0 < base → w < least_of best → LessAt b p (v - 1) (base + a) (base + e) s → LessAt s p (v + 1) (base + a) (base + e) s'
      → TwoLeast G (e + 1) (record { least = record { rank = r; level = v - base }; second = s' })
  two_new r b s s' er kr eb pb h f k = record {
    least = λ m z. ⊎_elim (λ x. omega (arith, er, low m x z)) (λ x. omega (arith, er, t.least m x)) (le_or_lt a m);
    first = λ m z. ⊎_elim (λ x. omega (arith, er, above m x z)) (λ x. omega (arith, er, t.least m x)) (le_or_lt a m);
    is = inr (omega (arith, l.low, l.high), omega (arith, er, here));
    others = λ m z n. ⊎_elim (λ x. beside m x (omega arith) n) (λ x. omega (arith, eb, t.least m x, f.low, k.low)) (le_or_lt a m);
    second = ⊎_elim (λ q. ⊎_elim (λ r. old (q ∙ r ∙ eb)) (λ r. inr (one (v - 1) (omega (arith, l.low)) r.0 (q ∙ r.1))) f.is) (λ q. inr (one (v + 1) (omega arith) q.0 q.1)) k.is;
    changes = kr;
    second_changes = k.changes;
  }
    where
      above : (m : ℕ) → a ≤ m → m < v - base → w < G m
      above m x y = omega (arith, ew, (g m x (omega (arith, l.high))).0, l.first (base + m) (omega arith) (omega (arith, l.low)), l.high, whole (base + m) (omega arith) (omega (arith, l.high)), whole v l.low l.high)

      step : v - 1 + 1 ≡ v
      step = omega (arith, l.low)

      beside : (m : ℕ) → a ≤ m → m ≤ e → (m ≡ v - base → ⊥) → rank_of s' ≤ G m
      beside m x y n = ⊎_elim above below (le_or_lt v (base + m))
        where
          above : v ≤ base + m → rank_of s' ≤ G m
          above c =
              let d : v + 1 ≤ base + m = ⊎_elim (λ i. absurd (n (omega (arith, l.low)))) (λ i. omega arith) (le_or_lt (base + m) v) in
              let u : AtMost p (v + 1) (base + m) = rises_after p v (base + m) (l.least (v + 1) (omega (arith, l.low)) (omega arith)) d in
              omega (arith, (g m x y).0, k.there (omega (arith, l.low)) (omega arith), whole (v + 1) (omega (arith, l.low)) (omega arith), whole (base + m) (omega arith) (omega arith))

          below : base + m < v → rank_of s' ≤ G m
          below c =
              let i : Less p v (v - 1) = l.first (v - 1) (omega arith) (omega arith) in
              let u : AtMost p (v - 1) (base + m) = falls_before p (v - 1) (base + m) (subst (λ (z : ℕ). Less p z (v - 1)) (sym step) i) (omega arith) in
              omega (arith, (g m x y).0, k.low, f.there (omega arith) (omega (arith, l.high)), whole (v - 1) (omega arith) (omega (arith, l.high)), whole (base + m) (omega arith) (omega arith))

      -- a place beside v, at its level
      one : (u : ℕ) → (u ≡ v → ⊥) → (base + a ≤ u) × (u ≤ base + e) → rank_of s' ≡ value p u → Beside G (e + 1) (v - base) (rank_of s')
      one u n r q =
          let z : base + (u - base) ≡ u = omega arith in
          let y : rank_of s' ≡ value p (base + (u - base)) = rw z q in
          record { at = u - base; inside = omega arith; other = λ x. n (omega (arith, l.low)); is = y ∙ sym (g (u - base) (omega arith) (omega arith)).0 }

      old : rank_of s' ≡ least_of best → (rank_of s' ≡ no_value) ⊎ Beside G (e + 1) (v - base) (rank_of s')
      old q = ⊎_elim (λ c. inl (q ∙ c.0)) (λ c. inr (record { at = best.least.level; inside = omega (arith, c.0, l.low, l.high); other = λ x. omega (arith, c.0, l.low); is = q ∙ c.1 })) t.is

-- ---- a constant with one level aside
but_off : (two : Two) (j : ℕ) → (j ≡ two.least.level → ⊥) → flat two.least.rank.value two.least.rank.changes ≡ constant_but two j
but_off two j n = rw (ne_eqb j two.least.level n)

but_at : (two : Two) (j : ℕ) → j ≡ two.least.level → flat two.second.value two.second.changes ≡ constant_but two j
but_at two j e = rw (eq-eqb j two.least.level e)

pub constant_but_lem : {ws w1 w2 w3 : List ℕ} {dst L n1 n2 n3 : ℕ} (two : Two) → two.least.level < L → Emits (λ (j : ℕ). flat two.least.rank.value two.least.rank.changes) ws w1 dst 0 0 two.least.level n1
    → Emits (λ (j : ℕ). flat two.second.value two.second.changes) w1 w2 dst n1 two.least.level (two.least.level + 1) n2 → Emits (λ (j : ℕ). flat two.least.rank.value two.least.rank.changes) w2 w3 dst n2 (two.least.level + 1) L n3 → Made (constant_but two) ws w3 dst L
constant_but_lem two h m1 m2 m3 = made
    (emits_then (omega arith) (omega arith)
    (emits_then (omega arith) (omega arith)
    (emits_as (λ j u v. but_off two j (λ e. omega arith)) m1)
    (emits_as (λ j u v. but_at two j (omega arith)) m2))
    (emits_as (λ j u v. but_off two j (λ e. omega arith)) m3))

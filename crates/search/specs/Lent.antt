-- A call that is lent a workspace and a list: which of its refusals comes first. Assumes nothing.
use Rattle.std.specs.Prelude.{◌≡◌, Bool, true, false, cond, ℕ, ◌≤◌, ◌<◌, eqb, ltb}
use Rattle.std.proofs.Math.Path.{refl, ap}
use Rattle.std.proofs.Common.{sym, ◌∙◌, arith}
use borrow.Author.Tests.{eq-eqb, ne_eqb, eqb-true, lt-ltb, le-ltb, ltb-false}

-- the number of an earlier refusal, 0 where there is none; 14 where the words are fewer than needed; 15 where the list is shorter than needed; then
-- what the call finds
unfoldable pub lent : {R : Type 0} → (ℕ → R) → ℕ → ℕ → ℕ → ℕ → ℕ → R → R
lent refuse n words need room least r = cond (eqb n 0) (cond (ltb words need) (refuse 14) (cond (ltb room least) (refuse 15) r)) (refuse n)

module _ {R : Type 0} (refuse : ℕ → R) (n words need room least : ℕ) (r : R) where
  pub lent_early : (k : ℕ) → k ≡ n → (k ≡ 0 → ⊥) → lent refuse n words need room least r ≡ refuse k
  unfolding lent
  lent_early k e h = rw (← e, ne_eqb k 0 h) refl

  module _ (h : n ≡ 0) where
    pub lent_short : words < need → lent refuse n words need room least r ≡ refuse 14
    unfolding lent
    lent_short k = rw (eq-eqb n 0 h, lt-ltb words need k) refl

    pub lent_narrow : need ≤ words → room < least → lent refuse n words need room least r ≡ refuse 15
    unfolding lent
    lent_narrow k l = rw (eq-eqb n 0 h, le-ltb words need k, lt-ltb room least l) refl

    pub lent_looks : need ≤ words → least ≤ room → lent refuse n words need room least r ≡ r
    unfolding lent
    lent_looks k l = rw (eq-eqb n 0 h, le-ltb words need k, le-ltb room least l) refl

  -- an answer, and 16, are what the call found, and no earlier refusal applies
  pub lent_found : (looked : R → Bool) → ((k : ℕ) → looked (refuse k) ≡ eqb k 16) → (n ≡ 16 → ⊥) → (x : R) → looked x ≡ true → lent refuse n words need room least r ≡ x
      → ((n ≡ 0) × (need ≤ words) × (least ≤ room)) × (r ≡ x)
  unfolding lent
  lent_found looked says not_16 x k e = go (eqb n 0) refl (ltb words need) refl (ltb room least) refl e
    where
      sixteen : (m : ℕ) → refuse m ≡ x → m ≡ 16
      sixteen m q = eqb-true m 16 (sym (says m) ∙ ap looked q ∙ k)

      go : (a : Bool) → eqb n 0 ≡ a → (b : Bool) → ltb words need ≡ b → (c : Bool) → ltb room least ≡ c → cond a (cond b (refuse 14) (cond c (refuse 15) r)) (refuse n) ≡ x → ((n ≡ 0) × (need ≤ words) × (least ≤ room)) × (r ≡ x)
      go true ea false eb false ec q = ((eqb-true n 0 ea, ltb-false words need eb, ltb-false room least ec), q)
      go true ea false eb true ec q = absurd (omega (arith, sixteen 15 q))
      go true ea true eb c ec q = absurd (omega (arith, sixteen 14 q))
      go false ea b eb c ec q = absurd (not_16 (sixteen n q))

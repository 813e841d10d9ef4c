-- The least of finitely many costs, some of which are missing. Assumes nothing.
use Rattle.std.proofs.Math.Path.{◌≡◌, refl, subst}
use Rattle.std.proofs.Common.{◌∙◌, ap}
use Rattle.std.proofs.Math.Option.{Option, none, some}
use Rattle.std.specs.Prelude.{◌⊎◌, Bool, true, false, cond}
use Rattle.std.proofs.Math.Logic.{inl, inr}
use Prim.Native.Nat.{ℕ, zero, suc, ◌≤◌, ◌<◌}
use native.Mathlib.Omega.{arith}
use Rattle.std.proofs.Math.Decide.{dec_le, dec_lt, ℕ_discrete}
use Rattle.model.specs.Cost.{Cost, ◌⊕◌, ◌≼◌, meet, same}
use Rattle.model.proofs.Cost.{meet_is, ≼_refl, ≼_trans, ≼-antisym, same_yes, same_refl}
use Rattle.model.specs.Least.{Upto, first_hit, first_of, given, hit, least_below, lower, or_else, plus}

pub lower_met : (a b : Option Cost) (c : Cost) → lower a b ≡ some c → (a ≡ some c) ⊎ (b ≡ some c)
lower_met none b c p = inr p
lower_met (some a) none c p = inl p
lower_met (some a) (some b) c p = go (meet_is a b)
  where
    go : ((meet a b ≡ a) × (a ≼ b)) ⊎ ((meet a b ≡ b) × (b ≼ a)) → (some a ≡ some c) ⊎ (some b ≡ some c)
    go (inl (e, h)) = inl (cc)
    go (inr (e, h)) = inr (cc)

meet_both : (a b : Cost) → (meet a b ≼ a) × (meet a b ≼ b)
meet_both a b = go (meet_is a b)
  where
    go : ((meet a b ≡ a) × (a ≼ b)) ⊎ ((meet a b ≡ b) × (b ≼ a)) → (meet a b ≼ a) × (meet a b ≼ b)
    go (inl (e, h)) = rw e (≼_refl a, h)
    go (inr (e, h)) = rw e (h, ≼_refl b)

pub lower_least_left : (a b : Option Cost) (d : Cost) → a ≡ some d → (c : Cost) × (lower a b ≡ some c) × (c ≼ d)
lower_least_left none b d p = let z : ◌≡◌ {A = ℕ} 0 1 = cc in absurd (omega arith)
lower_least_left (some a) none d p = (d, p, ≼_refl d)
lower_least_left (some a) (some b) d p = let z : a ≡ d = cc in (meet a b, refl, subst (λ (x : Cost). meet a b ≼ x) z (meet_both a b).0)

pub lower_least_right : (a b : Option Cost) (d : Cost) → b ≡ some d → (c : Cost) × (lower a b ≡ some c) × (c ≼ d)
lower_least_right none b d p = (d, p, ≼_refl d)
lower_least_right (some a) none d p = let z : ◌≡◌ {A = ℕ} 0 1 = cc in absurd (omega arith)
lower_least_right (some a) (some b) d p = let z : b ≡ d = cc in (meet a b, refl, subst (λ (x : Cost). meet a b ≼ x) z (meet_both a b).1)

pub below_met : (n : ℕ) (f : ℕ → Option Cost) (c : Cost) → least_below n f ≡ some c → (i : ℕ) × (i < n) × (f i ≡ some c)
unfolding least_below
below_met zero f c p = let z : ◌≡◌ {A = ℕ} 0 1 = cc in absurd (omega arith)
below_met (suc n) f c p = go (below_met n f c) (lower_met (least_below n f) (f n) c p)
  where
    go : (least_below n f ≡ some c → (i : ℕ) × (i < n) × (f i ≡ some c))
        → (least_below n f ≡ some c) ⊎ (f n ≡ some c) → (i : ℕ) × (i < suc n) × (f i ≡ some c)
    go ih (inl q) = let (i, h, e) = ih q in (i, omega arith, e)
    go ih (inr q) = (n, omega arith, q)

pub below_least : (n : ℕ) (f : ℕ → Option Cost) (i : ℕ) (d : Cost) → i < n → f i ≡ some d → (c : Cost) × (least_below n f ≡ some c) × (c ≼ d)
unfolding least_below
below_least zero f i d h p = absurd (omega arith)
below_least (suc n) f i d h p = go (λ k. below_least n f i d k p) (ℕ_discrete i n)
  where
    go : (i < n → (c : Cost) × (least_below n f ≡ some c) × (c ≼ d)) → Dec (i ≡ n) → (c : Cost) × (lower (least_below n f) (f n) ≡ some c) × (c ≼ d)
    go ih (yes e) = lower_least_right (least_below n f) (f n) d (subst (λ j. f j ≡ some d) e p)
    go ih (no e) =
        let (c, q, k) = ih (omega arith) in
        let (c', q', k') = lower_least_left (least_below n f) (f n) c q in
        (c', q', ≼_trans k' k)

-- what is met by one of them and is not above any is their least
pub least_is : (n : ℕ) (f : ℕ → Option Cost) (o : Option Cost) → ((c : Cost) → o ≡ some c → (i : ℕ) × (i < n) × (f i ≡ some c))
    → ((i : ℕ) (d : Cost) → i < n → f i ≡ some d → (c : Cost) × (o ≡ some c) × (c ≼ d)) → least_below n f ≡ o
least_is n f o met low = go (least_below n f) o refl refl
  where
    go : (a b : Option Cost) → least_below n f ≡ a → o ≡ b → a ≡ b
    go none none p q = refl
    go none (some b) p q = let (i, h, e) = met b q in let (c, r, k) = below_least n f i b h e in cc
    go (some a) none p q = let (i, h, e) = below_met n f a p in let (c, r, k) = low i a h e in cc
    go (some a) (some b) p q =
        let (i, h, e) = below_met n f a p in
        let (c, r, k) = low i a h e in
        let (i', h', e') = met b q in
        let (c', r', k') = below_least n f i' b h' e' in
        let u : c ≡ b = cc in
        let u' : c' ≡ a = cc in
        ap some (≼-antisym (rw u' at k') (rw u at k))

pub least_none : (n : ℕ) (f : ℕ → Option Cost) → ((i : ℕ) → i < n → f i ≡ none) → least_below n f ≡ none
unfolding least_below
least_none zero f off = refl
least_none (suc n) f off = rw (least_none n f (λ i h. off i (omega arith)), off n (omega arith)) refl

pub given_met : (b : Bool) (a : Option Cost) (c : Cost) → given b a ≡ some c → (b ≡ true) × (a ≡ some c)
given_met true a c p = (refl, p)
given_met false a c p = let z : ◌≡◌ {A = ℕ} 0 1 = cc in absurd (omega arith)

pub plus_met : (a : Option Cost) (x c : Cost) → plus a x ≡ some c → (d : Cost) × (a ≡ some d) × (d ⊕ x ≡ c)
plus_met none x c p = let z : ◌≡◌ {A = ℕ} 0 1 = cc in absurd (omega arith)
plus_met (some a) x c p = (a, refl, cc)

module _ {A : Type 0} (f : ℕ → Option A) where
  pub first_none : (n : ℕ) → first_of n f ≡ none → (i : ℕ) → i < n → f i ≡ none
  unfolding first_of
  first_none zero p i h = absurd (omega arith)
  first_none (suc n) p i h = go (first_of n f) refl p (ℕ_discrete i n) (first_none n)
    where
      go : (o : Option A) → first_of n f ≡ o → or_else o (f n) ≡ none → Dec (i ≡ n) → (first_of n f ≡ none → (i : ℕ) → i < n → f i ≡ none) → f i ≡ none
      go none e q (yes k) ih = rw k q
      go none e q (no k) ih = ih e i (omega arith)
      go (some a) e q d ih = cc

  pub first_met : (n : ℕ) (a : A) → first_of n f ≡ some a → (i : ℕ) × (i < n) × (f i ≡ some a) × ((i' : ℕ) → i' < i → f i' ≡ none)
  unfolding first_of
  first_met zero a p = let z : ◌≡◌ {A = ℕ} 0 1 = cc in absurd (omega arith)
  first_met (suc n) a p = go (first_of n f) refl p (first_met n a)
    where
      go : (o : Option A) → first_of n f ≡ o → or_else o (f n) ≡ some a
          → (first_of n f ≡ some a → (i : ℕ) × (i < n) × (f i ≡ some a) × ((i' : ℕ) → i' < i → f i' ≡ none))
          → (i : ℕ) × (i < suc n) × (f i ≡ some a) × ((i' : ℕ) → i' < i → f i' ≡ none)
      go none e q ih = (n, omega arith, q, first_none n e)
      go (some b) e q ih = let (i, h, k, l) = ih (e ∙ q) in (i, omega arith, k, l)

hit_met : (o : Option Cost) (c : Cost) (i j : ℕ) (x : ℕ × ℕ) → hit o c i j ≡ some x → (o ≡ some c) × ((i, j) ≡ x)
hit_met none c i j x p = let z : ◌≡◌ {A = ℕ} 0 1 = cc in absurd (omega arith)
hit_met (some d) c i j x p = go (same d c) refl p
  where
    go : (b : Bool) → same d c ≡ b → cond b (some (i, j)) none ≡ some x → (some d ≡ some c) × ((i, j) ≡ x)
    go true e q = (ap some (same_yes d c e), cc)
    go false e q = let z : ◌≡◌ {A = ℕ} 0 1 = cc in absurd (omega arith)

hit_of : (o : Option Cost) (c : Cost) (i j : ℕ) → o ≡ some c → hit o c i j ≡ none → ⊥
hit_of o c i j p q = let r : hit o c i j ≡ some (i, j) = rw p (simp (same_refl c)) in let z : ◌≡◌ {A = ℕ} 0 1 = cc in omega arith

module _ (n w : ℕ) (f : ℕ → ℕ → Option Cost) (c : Cost) where
  pub hit_none : first_hit n w f c ≡ none → (i j : ℕ) → i < n → j < w → f i j ≡ some c → ⊥
  unfolding first_hit
  hit_none p i j hi hj q = hit_of (f i j) c i j q (first_none (λ j. hit (f i j) c i j) w (first_none (λ i. first_of w (λ j. hit (f i j) c i j)) n p i hi) j hj)

  abbrev pub IsFirstHit : ℕ × ℕ → Type 0
  IsFirstHit x =
      (x.0 < n) × (x.1 < w) × (f x.0 x.1 ≡ some c) × ((i' j' : ℕ) → i' < n → j' < w → f i' j' ≡ some c → Upto x.0 x.1 i' j')

  pub hit_first : (x : ℕ × ℕ) → first_hit n w f c ≡ some x → IsFirstHit x
  unfolding first_hit
  hit_first x p =
      let (a, ha, q, la) = first_met (λ i. first_of w (λ j. hit (f i j) c i j)) n x p in
      let (b, hb, r, lb) = first_met (λ j. hit (f a j) c a j) w x q in
      let (s, e) = hit_met (f a b) c a b x r in
      subst (λ (y : ℕ × ℕ). IsFirstHit y) e (ha, hb, s, λ i' j' hi hj t. upto a b la lb i' j' hj t (dec_lt a i') (dec_lt i' a) (dec_le b j'))
    where
      upto : (a b : ℕ) → ((i : ℕ) → i < a → first_of w (λ j. hit (f i j) c i j) ≡ none) → ((j : ℕ) → j < b → hit (f a j) c a j ≡ none)
          → (i' j' : ℕ) → j' < w → f i' j' ≡ some c → Dec (a < i') → Dec (i' < a) → Dec (b ≤ j') → Upto a b i' j'
      upto a b la lb i' j' hj t (yes k) d d' = inl k
      upto a b la lb i' j' hj t (no k) (yes l) d' = absurd (hit_of (f i' j') c i' j' t (first_none (λ j. hit (f i' j) c i' j) w (la i' l) j' hj))
      upto a b la lb i' j' hj t (no k) (no l) (yes m) = inr (omega arith, m)
      upto a b la lb i' j' hj t (no k) (no l) (no m) =
          let e : i' ≡ a = omega arith in
          absurd (hit_of (f a j') c a j' (subst (λ (y : ℕ). f y j' ≡ some c) e t) (lb j' (omega arith)))

  -- the one that every other does not come before is the first hit
  pub first_hit_is : (i j : ℕ) → i < n → j < w → f i j ≡ some c → ((i' j' : ℕ) → i' < n → j' < w → f i' j' ≡ some c → Upto i j i' j') → first_hit n w f c ≡ some (i, j)
  first_hit_is i j hi hj p low = go (first_hit n w f c) refl
    where
      both : (a b : ℕ) → Upto i j a b → Upto a b i j → ◌≡◌ {A = Option (ℕ × ℕ)} (some (a, b)) (some (i, j))
      both a b (inl h) (inl k) = absurd (omega arith)
      both a b (inl h) (inr (e, k)) = absurd (omega arith)
      both a b (inr (e, h)) (inl k) = absurd (omega arith)
      both a b (inr (e, h)) (inr (e', k)) = let q : j ≡ b = omega arith in cc

      go : (o : Option (ℕ × ℕ)) → first_hit n w f c ≡ o → o ≡ some (i, j)
      go none e = absurd (hit_none e i j hi hj p)
      go (some x) e = let (a, b, q, l) = hit_first x e in both x.0 x.1 (low x.0 x.1 a b q) (l i j hi hj p)

-- What runs that keep the rules are.
-- Assumes nothing.
use Prim.Native.Nat.{ℕ, zero, suc, ◌+◌, ◌≤◌, ◌<◌}
use Rattle.std.proofs.Common.{arith, add-one, ◌∙◌, SFits}
use Rattle.std.specs.Prelude.{◌≡◌, Bool, List, leb, ltb, ℤ, pos, negsuc}
use Rattle.std.proofs.Math.Path.{refl, ap}
use Rattle.std.proofs.Math.Bool.{true, false}
use Rattle.std.proofs.Math.Dec.{eqb}
use Rattle.std.specs.Int.{w16}
use borrow.Author.Tests.{eqb-true, eqb-false, leb-true, ltb-false, le-leb, le-ltb}
use Rattle.integers.specs.Pick.{pick}
use Rattle.answers.specs.Runs.{run_fits, level_fits, number_at, whole_at, last_before, run_ok, runs_ok}

clash : {Q : Type 0} {b : Bool} → b ≡ false → b ≡ true → Q
clash p q = let z : ◌≡◌ {A = ℕ} 0 1 = cc in absurd (omega arith)

-- both tests hold
pub both : (a b : Bool) → pick a b false ≡ true → (a ≡ true) × (b ≡ true)
both true b h = (refl, h)
both false b h = clash refl h

-- the rule of a run, as facts
pub record Kept (prev first last state edge : ℕ) : Type 0 where
  pub next : first ≡ prev + 1
  pub order : first ≤ last
  pub end : last ≤ 4096
  pub few : state ≤ 7
  pub entry : pick (eqb prev 0) (eqb edge 255) (leb edge 31) ≡ true

pub run_kept : (p f l s e : ℕ) → run_fits p f l s e ≡ true → Kept p f l s e
unfolding run_fits
run_kept p f l s e h =
    let h₁ = both (eqb f (p + 1)) _ h in
    let h₂ = both (leb f l) _ h₁.1 in
    let h₃ = both (leb l 4096) _ h₂.1 in
    let h₄ = both (leb s 7) _ h₃.1 in
    record { next = eqb-true f (p + 1) h₁.0; order = leb-true f l h₂.0; end = leb-true l 4096 h₃.0; few = leb-true s 7 h₄.0; entry = h₄.1 }

pub edge_small : (p e : ℕ) → pick (eqb p 0) (eqb e 255) (leb e 31) ≡ true → e ≤ 255
edge_small p e h = go (eqb p 0) h
  where
    go : (b : Bool) → pick b (eqb e 255) (leb e 31) ≡ true → e ≤ 255
    go true q = omega (arith, eqb-true e 255 q)
    go false q = omega (arith, leb-true e 31 q)

-- a level that fits has 16 bits
pub level_kept : (z : ℤ) → level_fits z ≡ true → SFits w16 z
unfolding level_fits
level_kept (pos n) h = record { sfits = omega (arith, leb-true n 32767 h) }
level_kept (negsuc n) h = go (ltb 32767 n) refl h
  where
    go : (b : Bool) → ltb 32767 n ≡ b → pick b false true ≡ true → SFits w16 (negsuc n)
    go true q r = clash refl r
    go false q r = record { sfits = omega (arith, ltb-false 32767 n q) }

pub level_fits_lem : (z : ℤ) → SFits w16 z → level_fits z ≡ true
unfolding level_fits
level_fits_lem (pos n) f = le-leb n 32767 (omega (arith, f.sfits))
level_fits_lem (negsuc n) f = rw (le-ltb 32767 n (omega (arith, f.sfits)))

-- a run that keeps the rules
module _ (runs : List ℤ) (i : ℕ) (h : run_ok runs i ≡ true) where
  pub run_parts : (run_fits (last_before runs i) (whole_at runs i 0) (whole_at runs i 1) (whole_at runs i 2) (whole_at runs i 4) ≡ true) × (level_fits (number_at runs i 3) ≡ true)
  unfolding run_ok
  run_parts = both (run_fits (last_before runs i) (whole_at runs i 0) (whole_at runs i 1) (whole_at runs i 2) (whole_at runs i 4)) _ h

  pub run_rule : Kept (last_before runs i) (whole_at runs i 0) (whole_at runs i 1) (whole_at runs i 2) (whole_at runs i 4)
  run_rule = run_kept (last_before runs i) (whole_at runs i 0) (whole_at runs i 1) (whole_at runs i 2) (whole_at runs i 4) run_parts.0

  pub run_level : SFits w16 (number_at runs i 3)
  run_level = level_kept (number_at runs i 3) run_parts.1

  pub run_small : (whole_at runs i 0 ≤ 4096) × (whole_at runs i 1 ≤ 4096) × (whole_at runs i 2 ≤ 7) × (whole_at runs i 4 ≤ 255)
  run_small = let k = run_rule in (omega (arith, k.order, k.end), k.end, k.few, edge_small (last_before runs i) (whole_at runs i 4) k.entry)

-- the first n runs keep the rules: each does
module _ (runs : List ℤ) where
  pub runs_none : runs_ok runs 0 ≡ true
  unfolding runs_ok
  runs_none = refl

  pub runs_more : (i : ℕ) → runs_ok runs i ≡ true → run_ok runs i ≡ true → runs_ok runs (i + 1) ≡ true
  unfolding runs_ok
  runs_more i p q = rw (add-one, p, q)

  pub runs_each : (n i : ℕ) → i < n → runs_ok runs n ≡ true → run_ok runs i ≡ true
  unfolding runs_ok
  runs_each zero i l h = absurd (omega arith)
  runs_each (suc n) i l h = let b = both (runs_ok runs n) (run_ok runs n) h in go (eqb i n) refl b.1 (λ k. runs_each n i k b.0)
    where
      go : (b : Bool) → eqb i n ≡ b → run_ok runs n ≡ true → (i < n → run_ok runs i ≡ true) → run_ok runs i ≡ true
      go true q r f = ap (run_ok runs) (eqb-true i n q) ∙ r
      go false q r f = let ne = eqb-false i n q in f (omega (arith, ne))

  pub runs_broken : (n i : ℕ) → i < n → run_ok runs i ≡ false → runs_ok runs n ≡ false
  runs_broken n i l h = go (runs_ok runs n) refl
    where
      go : (b : Bool) → runs_ok runs n ≡ b → b ≡ false
      go true q = clash h (runs_each n i l q)
      go false q = refl

  pub last_next : (i : ℕ) → last_before runs (i + 1) ≡ whole_at runs i 1
  unfolding last_before
  last_next i = ap (last_before runs) (add-one i)

  pub last_first : last_before runs 0 ≡ 0
  unfolding last_before
  last_first = refl

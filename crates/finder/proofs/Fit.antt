-- Every result can be written: the runs that a search gives keep the rules of an answer file, and its refusals are numbers of the lists.
-- Assumes nothing.
use mathlib.Core.Path.{◌≡◌, refl, sym, ◌∙◌, ap, subst}
use mathlib.Core.Logic.{◌⊎◌, inl, inr}
use mathlib.Core.List.{List, [], ◌∷◌}
use mathlib.Core.Bool.{Bool, true, false, cond}
use Prim.Native.Nat.{ℕ, zero, suc, ◌+◌, ◌*◌, ◌/◌, ◌%◌, ◌≤◌, ◌<◌}
use native.Mathlib.Omega.{arith}
use lib.Dec.{eqb, leb, ltb}
use lib.IntN.{ℤ, pos, negsuc}
use lib.Signed.{le_z, mag}
use lib.ListN.{length, get_or}
use mir.Syntax.{w16}
use mir.Val.{SFits}
use borrow.Author.Tests.{eq-eqb, ne_eqb, eqb-true, eqb-false, le-leb, leb-true}
use Rattle.integers.specs.Pick.{pick}
use Rattle.plan.specs.declared.Plan.{Plan}
use Rattle.model.specs.Segmentation.{Seg}
use Rattle.model.specs.Model.{on_grid, First}
use Rattle.model.specs.Run.{Run, run, runs, numbers, run_numbers}
use Rattle.model.specs.RunLaws.{RunOk, Tiles}
use Rattle.model.proofs.RunLaws.{runs_tile, numbers_length, numbers_get}
use Rattle.model.proofs.Bools.{clash, and_yes}
use Rattle.model.specs.Checked.{Checked, is_early}
use Rattle.model.proofs.Checked.{accepted, early_has, search_is_early}
use Rattle.model.specs.Refusals.{search_number}
use Rattle.model.specs.Result.{Result, found, refused, whole, result_of}
use Rattle.model.proofs.Demand3.{demand3}
use Rattle.search.specs.Search.{work_words, search_result}
use Rattle.search.specs.Lent.{lent}
use Rattle.search.specs.Right.{search_early}
use Rattle.answers.specs.Runs.{last_refusal, is_refusal, run_fits, whole as whole_of, last_before, run_ok, runs_ok}
use Rattle.answers.specs.Rules.{level_fits_lem}
use Rattle.answers.specs.Writer.{answer_length, answer_number}

-- ---- one run

fits_run : (p f l s e : ℕ) → f ≡ p + 1 → f ≤ l → l ≤ 4096 → s ≤ 7 → pick (eqb p 0) (eqb e 255) (leb e 31) ≡ true → run_fits p f l s e ≡ true
unfolding run_fits
fits_run p f l s e a b c d h = rw (eq-eqb f (p + 1) a, le-leb f l b, le-leb l 4096 c, le-leb s 7 d) h

-- a level between two of 16 bits has 16 bits
level_small : (lo m hi : ℤ) → mag lo < 32768 → mag hi < 32768 → le_z lo m ≡ true → le_z m hi ≡ true → SFits w16 m
level_small lo (pos n) (pos k) a b h i = record { sfits = omega (arith, leb-true n k i) }
level_small lo (pos n) (negsuc k) a b h i = clash i
level_small (pos k) (negsuc n) hi a b h i = clash h
level_small (negsuc k) (negsuc n) hi a b h i = record { sfits = omega (arith, leb-true n k h) }

module _ (P : Plan) (ch : Checked P) (low : mag P.lo < 32768) (high : mag P.hi < 32768) where
  no_run : Run
  no_run = run 0 0 0 (pos 0) 0

  -- where run i starts: at a, or right after the run before it
  abbrev start_of : ℕ → List Run → ℕ → ℕ
  start_of a rs zero = a
  start_of a rs (suc i) = suc (get_or rs i no_run).last

  tiles_low : (rs : List Run) (a n : ℕ) → Tiles P a rs n → a ≤ suc n
  tiles_low [] a n e = omega (arith, e)
  tiles_low (r ∷ rs) a n (k, t) = omega (arith, k.not_empty, tiles_low rs (suc r.last) n t)

  run_at : (rs : List Run) (a n i : ℕ) → Tiles P a rs n → i < length rs → RunOk P (start_of a rs i) (get_or rs i no_run) × ((get_or rs i no_run).last ≤ n)
  run_at [] a n i t h = absurd (omega arith)
  run_at (r ∷ rs) a n zero (k, t) h = (k, omega (arith, tiles_low rs (suc r.last) n t))
  run_at (r ∷ rs) a n (suc zero) (k, t) h = run_at rs (suc r.last) n zero t (omega arith)
  run_at (r ∷ rs) a n (suc (suc i)) (k, t) h = run_at rs (suc r.last) n (suc i) t (omega arith)

  module _ (rs : List Run) (n : ℕ) (t : Tiles P 1 rs n) (few : n ≤ 4096) where
    abbrev at : ℕ → Run
    at i = get_or rs i no_run

    last_is : (i : ℕ) → i ≤ length rs → last_before (numbers rs) i + 1 ≡ start_of 1 rs i
    unfolding last_before whole_of
    last_is zero h = refl
    last_is (suc i) h = rw (numbers_get rs i 1 no_run (omega arith) (omega arith)) (omega arith)

    entry_is : (i p : ℕ) → i < length rs → p + 1 ≡ start_of 1 rs i → pick (eqb p 0) (eqb (at i).edge 255) (leb (at i).edge 31) ≡ true
    entry_is i p h e = go (run_at rs 1 n i t h).0.enters
      where
        go : ((start_of 1 rs i ≡ 1) × ((at i).edge ≡ 255)) ⊎ ((1 < start_of 1 rs i) × ((at i).edge < P.edgecount)) → pick (eqb p 0) (eqb (at i).edge 255) (leb (at i).edge 31) ≡ true
        go (inl (a, b)) = rw (eq-eqb p 0 (omega (arith, e, a))) (eq-eqb (at i).edge 255 b)
        go (inr (a, b)) = rw (ne_eqb p 0 (λ z. omega (arith, e, a, z))) (le-leb (at i).edge 31 (omega (arith, b, ch.few_edges)))

    run_fits_lem : (i : ℕ) → i < length rs → run_ok (numbers rs) i ≡ true
    unfolding run_ok whole_of on_grid
    run_fits_lem i h =
        let k = run_at rs 1 n i t h in
        let e = last_is i (omega arith) in
        let (a, b) = and_yes (le_z P.lo (at i).level) (le_z (at i).level P.hi) k.0.on_grid_lem in
        rw (numbers_get rs i 0 no_run h (omega arith), numbers_get rs i 1 no_run h (omega arith), numbers_get rs i 2 no_run h (omega arith), numbers_get rs i 3 no_run h (omega arith), numbers_get rs i 4 no_run h (omega arith))
        (rw (fits_run (last_before (numbers rs) i) (at i).start (at i).last (at i).state (at i).edge
        (k.0.starts_at ∙ sym e) (omega (arith, k.0.starts_at, k.0.not_empty)) (omega (arith, k.1)) (omega (arith, k.0.state_below, ch.few_states)) (entry_is i (last_before (numbers rs) i) h e))
        (level_fits_lem (at i).level (level_small P.lo (at i).level P.hi low high a b)))

    runs_fit : (i : ℕ) → i ≤ length rs → runs_ok (numbers rs) i ≡ true
    unfolding runs_ok
    runs_fit zero h = refl
    runs_fit (suc i) h = rw (runs_fit i (omega arith), run_fits_lem i (omega arith))

-- ---- a result

-- what the answer file of a result asks
abbrev pub Writable : Result → Type 0
Writable (found c ns) = ((room : ℕ) → answer_number ns room ≡ pick (leb (answer_length (length ns)) room) 0 15) × (5 * (length ns / 5) ≡ length ns)
Writable (refused n) = is_refusal n ≡ true

refusal_is : (n : ℕ) → (n ≡ 0 → ⊥) → leb n last_refusal ≡ true → is_refusal n ≡ true
unfolding is_refusal
refusal_is n h k = rw (ne_eqb n 0 h) k

number_is : (ns : List ℤ) (room : ℕ) → (length ns ≡ 0 → ⊥) → length ns % 5 ≡ 0 → runs_ok ns (length ns / 5) ≡ true → answer_number ns room ≡ pick (leb (answer_length (length ns)) room) 0 15
unfolding answer_number
number_is ns room a b c = rw (ne_eqb (length ns) 0 a, eq-eqb (length ns % 5) 0 b, c)

module _ (P : Plan) (zs : List ℤ) (words room : ℕ) where
  numbers_fit : mag P.lo < 32768 → mag P.hi < 32768 → search_number P (length zs) ≡ 0 → (g : Seg) → First P zs g → Writable (found 0 (run_numbers P g))
  unfolding run_numbers
  numbers_fit low high e g f =
      let a = accepted P (length zs) e in
      let t = subst (λ (n : ℕ). Tiles P 1 (runs P g) n) f.allowed.count (runs_tile P a.plan g f.allowed.follows) in
      let l = numbers_length (runs P g) in
      let i : length (numbers (runs P g)) / 5 ≡ length (runs P g) = omega (arith, l) in
      (λ k. number k (runs P g) l i (some_run (runs P g) t a.some_readings) (runs_fit P a.plan low high (runs P g) (length zs) t a.few_readings (length (runs P g)) (omega arith)), omega (arith, l, i))
    where
      some_run : (rs : List Run) → Tiles P 1 rs (length zs) → 1 ≤ length zs → 1 ≤ length rs
      some_run [] t h = omega (arith, t)
      some_run (r ∷ rs) t h = omega arith

      number : (k : ℕ) (rs : List Run) → length (numbers rs) ≡ 5 * length rs → length (numbers rs) / 5 ≡ length rs → 1 ≤ length rs → runs_ok (numbers rs) (length rs) ≡ true
          → answer_number (numbers rs) k ≡ pick (leb (answer_length (length (numbers rs))) k) 0 15
      number k rs l i s h = number_is (numbers rs) k (λ z. omega (arith, z, l, s)) (omega (arith, l)) (ap (runs_ok (numbers rs)) i ∙ h)

  -- a number before 14 is the only refusal there
  early : (n : ℕ) → search_number P (length zs) ≡ n → (n ≡ 0 → ⊥) → Writable (search_result P zs words room)
  early n e h = subst Writable (sym (search_early P zs words room n (sym e) h)) (refusal_is n h (early_has (λ (k : ℕ). leb k last_refusal) n refl (subst (λ (k : ℕ). is_early k ≡ true) e (search_is_early P (length zs)))))

  late : search_number P (length zs) ≡ 0 → mag P.lo < 32768 → mag P.hi < 32768 → Writable (search_result P zs words room)
  unfolding search_result lent is_refusal
  late e low high = rw (eq-eqb (search_number P (length zs)) 0 e) (go (ltb words (work_words P)) (ltb room (5 * length zs)))
    where
      looked : ((c : ℕ) × (ns : List ℤ) × (result_of P zs whole ≡ found c ns)) ⊎ (result_of P zs whole ≡ refused 16) → Writable (result_of P zs whole)
      looked (inr q) = subst Writable (sym q) refl
      looked (inl (c, ns, q)) =
          let (g, f, _, k) = (demand3 P zs).whole_found c ns q in
          subst Writable (sym q) (subst (λ (l : List ℤ). Writable (found c l)) k (numbers_fit low high e g f))

      go : (a b : Bool) → Writable (cond a (refused 14) (cond b (refused 15) (result_of P zs whole)))
      go true b = refl
      go false true = refl
      go false false = looked ((demand3 P zs).whole_else e)

  pub search_writable : mag P.lo < 32768 → mag P.hi < 32768 → Writable (search_result P zs words room)
  search_writable low high = go (eqb (search_number P (length zs)) 0) refl
    where
      go : (b : Bool) → eqb (search_number P (length zs)) 0 ≡ b → Writable (search_result P zs words room)
      go true q = late (eqb-true (search_number P (length zs)) 0 q) low high
      go false q = early (search_number P (length zs)) refl (eqb-false (search_number P (length zs)) 0 q)

-- Reading an answer file looks at its first 53,262 bytes only: at most 4,096 runs are read, and the field behind them is decided by its own bytes.
-- Assumes nothing.
use Prim.Native.Nat.{ℕ, zero, suc, ◌+◌, ◌-◌, ◌*◌, ◌≤◌, ◌<◌}
use native.Mathlib.Omega.{arith}
use mathlib.Core.Path.{◌≡◌, refl, ◌∙◌, ap, ap₂}
use mathlib.Core.Bool.{Bool, true, false}
use mathlib.Core.List.{List}
use lib.Dec.{eqb}
use lib.ListN.{length, get_or, take, length-take}
use borrow.Author.Tests.{eqb-true}
use Rattle.integers.specs.Pick.{pick}
use Rattle.fields.specs.Fields.{Field, Body, Wrong, field_at, part_of, word_at, number8}
use Rattle.fields.proofs.Laws.{field_is}
use Rattle.fields.proofs.Prefix.{body_short, same_field, same_closed, same_end, same_part}
use Rattle.answers.specs.Runs.{run_fits}
use Rattle.answers.specs.Reader.{AnswerRead, Runs, Unread, body_fits, body_last, on_run, runs_from, refusal_read, on_head, answer_file}
use Rattle.answers.specs.Sizes.{run_size, cost_size}
use Rattle.answers.specs.Rules.{run_kept}

-- how many bytes of a file a reader needs at most
abbrev pub answer_bound : ℕ
answer_bound = 53262

clash : {Q : Type 0} {b : Bool} → b ≡ false → b ≡ true → Q
clash p q = let z : ◌≡◌ {A = ℕ} 0 1 = cc in absurd (omega arith)

-- a run that keeps the rules ends after the one before, at 4,096 at most
ends_later : (prev : ℕ) (b : List ℕ) → body_fits prev b ≡ true → (prev < body_last b) × (body_last b ≤ 4096)
unfolding body_fits body_last
ends_later prev b h = go (eqb (length b) 8) h
  where
    go : (x : Bool) → pick x (run_fits prev (word_at b 0) (word_at b 2) (get_or b 4 0) (get_or b 7 0)) false ≡ true → (prev < pick x (word_at b 2) 0) × (pick x (word_at b 2) 0 ≤ 4096)
    go true q = let k = run_kept prev (word_at b 0) (word_at b 2) (get_or b 4 0) (get_or b 7 0) q in (omega (arith, k.next, k.order), k.end)
    go false q = clash refl q

-- ---- more fuel than bytes changes nothing
runs_fuel : (k j : ℕ) (s : List ℕ) (cost at prev count : ℕ) → length s - at < k → length s - at < j → runs_from k s cost at prev count ≡ runs_from j s cost at prev count
unfolding runs_from
runs_fuel zero j s cost at prev count h i = absurd (omega arith)
runs_fuel (suc k) zero s cost at prev count h i = absurd (omega arith)
runs_fuel (suc k) (suc j) s cost at prev count h i = go (λ a b c. runs_fuel k j s cost a b c) (field_at s at 6) refl
  where
    go : ((a b c : ℕ) → length s - a < k → length s - a < j → runs_from k s cost a b c ≡ runs_from j s cost a b c) → (x : Field) → field_at s at 6 ≡ x → on_run (runs_from k s cost) s cost prev count x ≡ on_run (runs_from j s cost) s cost prev count x
    go ih (Wrong n) e = refl
    go ih (Body t st l) e =
        let r = field_is s at 6 e in
        ap (λ (x : AnswerRead). pick (body_fits prev (part_of s st l)) (pick (eqb (st + l) (length s)) (Runs cost (count + 1)) x) (Unread 17))
        (ih (st + l) (body_last (part_of s st l)) (count + 1) (omega (arith, r.start, r.whole)) (omega (arith, r.start, r.whole)))

module _ (s : List ℕ) where
  abbrev cut : List ℕ
  cut = take answer_bound s

  runs_cut : (k cost at prev count : ℕ) → at ≡ 11 + 11 * count → count ≤ prev → prev ≤ 4096 → runs_from k cut cost at prev count ≡ runs_from k s cost at prev count
  unfolding runs_from
  runs_cut zero cost at prev count e h m = refl
  runs_cut (suc k) cost at prev count e h m =
      ap (on_run (runs_from k cut cost) cut cost prev count) (same_field s answer_bound at 6 (omega arith)) ∙ go (λ a b c. runs_cut k cost a b c) (field_at s at 6) refl
    where
      by_run :
          ((a b c : ℕ) → a ≡ 11 + 11 * c → c ≤ b → b ≤ 4096 → runs_from k cut cost a b c ≡ runs_from k s cost a b c) → {st l : ℕ} → st ≡ at + 3 → l ≡ 8 → (x : Bool) → body_fits prev (part_of s st l) ≡ x →
          pick x (pick (eqb (st + l) (length cut)) (Runs cost (count + 1)) (runs_from k cut cost (st + l) (body_last (part_of s st l)) (count + 1))) (Unread 17) ≡
          pick x (pick (eqb (st + l) (length s)) (Runs cost (count + 1)) (runs_from k s cost (st + l) (body_last (part_of s st l)) (count + 1))) (Unread 17)
      by_run ih a b false q = refl
      by_run ih {st} {l} a b true q =
          let w = ends_later prev (part_of s st l) q in
          ap₂ (λ (x : Bool) (y : AnswerRead). pick x (Runs cost (count + 1)) y) (same_end s answer_bound (st + l) (omega arith))
          (ih (st + l) (body_last (part_of s st l)) (count + 1) (omega arith) (omega (arith, w.0)) w.1)

      go : ((a b c : ℕ) → a ≡ 11 + 11 * c → c ≤ b → b ≤ 4096 → runs_from k cut cost a b c ≡ runs_from k s cost a b c) → (x : Field) → field_at s at 6 ≡ x →
          on_run (runs_from k cut cost) cut cost prev count x ≡ on_run (runs_from k s cost) s cost prev count x
      go ih (Wrong n) q = refl
      go ih (Body t st l) q =
          let z = run_size s at q in
          ap (λ (b : List ℕ). pick (body_fits prev b) (pick (eqb (st + l) (length cut)) (Runs cost (count + 1)) (runs_from k cut cost (st + l) (body_last b) (count + 1))) (Unread 17))
          (same_part s answer_bound st l (omega (arith, z.1, z.2)) z.3) ∙ by_run ih z.1 z.2 (body_fits prev (part_of s st l)) refl

  refusal_cut : (at : ℕ) (b : List ℕ) → at + 3 ≤ answer_bound → refusal_read cut at b ≡ refusal_read s at b
  unfolding refusal_read
  refusal_cut at b h = rw (same_end s answer_bound at h, same_closed s answer_bound at h)

  -- a file and its first 53,262 bytes are read alike
  pub prefix_decides : answer_file (take answer_bound s) ≡ answer_file s
  unfolding answer_file
  prefix_decides = ap (on_head cut) (same_field s answer_bound 0 5 (omega arith)) ∙ go (field_at s 0 5) refl
    where
      by_tag : {t st l : ℕ} → field_at s 0 5 ≡ Body t st l → (x : Bool) → eqb t 0x81 ≡ x →
          pick x (runs_from (length cut + 1) cut (number8 (part_of s st l)) (st + l) 0 0) (refusal_read cut (st + l) (part_of s st l)) ≡ pick x (runs_from (length s + 1) s (number8 (part_of s st l)) (st + l) 0 0) (refusal_read s (st + l) (part_of s st l))
      by_tag {t} {st} {l} e true q =
          let z = cost_size s e (eqb-true t 0x81 q) in
          let c = length-take answer_bound s in
          runs_fuel (length cut + 1) (length s + 1) cut (number8 (part_of s st l)) (st + l) 0 0 (omega arith) (omega arith) ∙ runs_cut (length s + 1) (number8 (part_of s st l)) (st + l) 0 0 (omega (arith, z.0, z.1)) (omega arith) (omega arith)
      by_tag {t} {st} {l} e false q =
          let r = field_is s 0 5 e in
          refusal_cut (st + l) (part_of s st l) (omega (arith, r.start, body_short t l r.fits r.counts))

      go : (x : Field) → field_at s 0 5 ≡ x → on_head cut x ≡ on_head s x
      go (Wrong n) e = refl
      go (Body t st l) e =
          let r = field_is s 0 5 e in
          ap (λ (b : List ℕ). pick (eqb t 0x81) (runs_from (length cut + 1) cut (number8 b) (st + l) 0 0) (refusal_read cut (st + l) b)) (same_part s answer_bound st l (omega (arith, r.start, body_short t l r.fits r.counts)) r.whole) ∙
          by_tag e (eqb t 0x81) refl

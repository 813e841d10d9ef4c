-- How long an answer file is that was read, and its parts.
-- Assumes nothing.
use Rattle.std.specs.Prelude.{ℕ, zero, suc, ◌+◌, ◌*◌, ◌≤◌, ◌≡◌, refl, Bool, true, false, List, ◌++◌, eqb, length, get_or, drop, ℤ}
use Rattle.std.proofs.Common.{arith, add-one, sym, ◌∙◌, ap, length-append, eqb-true}
use Rattle.std.proofs.lemmas.List.Edits.{sets}
use Rattle.integers.specs.Pick.{pick}
use Rattle.readings.proofs.Front.{front_more}
use Rattle.fields.specs.Fields.{Field, Body, Wrong, row_of, field_at, field_number, part_of, number8}
use Rattle.fields.proofs.Laws.{field_is}
use Rattle.fields.proofs.Tags.{at_6, has_length}
use Rattle.answers.specs.Runs.{is_refusal}
use Rattle.answers.specs.Reader.{Runs, Refusal, Unread, body_fits, body_last, on_run, runs_from, refusal_read, on_head, answer_file, run_numbers, run_body, runs_of}

never : {Q : Type 0} {m c n : ℕ} → Unread m ≡ Runs c n → Q
never h = let z : ◌≡◌ {A = ℕ} 0 1 = cc in absurd (omega arith)

-- a run's field has 11 bytes, a cost's too
pub run_size : (s : List ℕ) (at : ℕ) {t st l : ℕ} → field_at s at 6 ≡ Body t st l → (t ≡ 0x82) × (st ≡ at + 3) × (l ≡ 8) × (st + l ≤ length s)
unfolding row_of
run_size s at {t} {st} {l} e =
    let r = field_is s at 6 e in
    let h = at_6 t r.stands in
    (h, r.start, has_length t 0x82 l h refl r.fits, r.whole)

pub cost_size : (s : List ℕ) {t st l : ℕ} → field_at s 0 5 ≡ Body t st l → t ≡ 0x81 → (st ≡ 3) × (l ≡ 8)
unfolding row_of
cost_size s {t} {st} {l} e h = let r = field_is s 0 5 e in (r.start, has_length t 0x81 l h refl r.fits)

abbrev Long : List ℕ → ℕ → Type 0
Long s n = length s ≡ 11 + 11 * n

runs_long : (k : ℕ) (s : List ℕ) (cost at prev count c n : ℕ) → runs_from k s cost at prev count ≡ Runs c n → at ≡ 11 + 11 * count → Long s n
unfolding runs_from
runs_long zero s cost at prev count c n h q = never h
runs_long (suc k) s cost at prev count c n h q = go (λ a p m. runs_long k s cost a p m c n) (field_at s at 6) refl h
  where
    by_end : {st l : ℕ} → st ≡ at + 3 → l ≡ 8 → ((a p m : ℕ) → runs_from k s cost a p m ≡ Runs c n → a ≡ 11 + 11 * m → Long s n) → (p : ℕ) (x y : Bool) → eqb (st + l) (length s) ≡ y →
        pick x (pick y (Runs cost (count + 1)) (runs_from k s cost (st + l) p (count + 1))) (Unread 17) ≡ Runs c n → Long s n
    by_end a b ih p false y e w = never w
    by_end {st} {l} a b ih p true true e w = let m : count + 1 ≡ n = cc in omega (arith, eqb-true (st + l) (length s) e)
    by_end {st} {l} a b ih p true false e w = ih (st + l) p (count + 1) w (omega arith)

    go : ((a p m : ℕ) → runs_from k s cost a p m ≡ Runs c n → a ≡ 11 + 11 * m → Long s n) → (f : Field) → field_at s at 6 ≡ f → on_run (runs_from k s cost) s cost prev count f ≡ Runs c n → Long s n
    go ih (Wrong m) e w = never w
    go ih (Body t st l) e w = let z = run_size s at e in by_end z.1 z.2 ih (body_last (part_of s st l)) (body_fits prev (part_of s st l)) (eqb (st + l) (length s)) refl w

pub file_long : (s : List ℕ) (c n : ℕ) → answer_file s ≡ Runs c n → Long s n
unfolding answer_file refusal_read
file_long s c n h = go (field_at s 0 5) refl h
  where
    refused : (a b : ℕ) (x y z : Bool) → pick x (pick y (pick z (Refusal a) (Unread b)) (Unread 17)) (Unread 3) ≡ Runs c n → Long s n
    refused a b false y z w = never w
    refused a b true false z w = never w
    refused a b true true false w = never w
    refused a b true true true w = let z : ◌≡◌ {A = ℕ} 0 1 = cc in absurd (omega arith)

    by_tag : {t st l : ℕ} → field_at s 0 5 ≡ Body t st l → (x : Bool) → eqb t 0x81 ≡ x → pick x (runs_from (length s + 1) s (number8 (part_of s st l)) (st + l) 0 0) (refusal_read s (st + l) (part_of s st l)) ≡ Runs c n → Long s n
    by_tag {t} {st} {l} e true q w = let z = cost_size s e (eqb-true t 0x81 q) in runs_long (length s + 1) s (number8 (part_of s st l)) (st + l) 0 0 c n w (omega (arith, z.0, z.1))
    by_tag {t} {st} {l} e false q w =
        refused (get_or (part_of s st l) 0 0) (field_number (field_at s (st + l) 4)) (eqb (length (part_of s st l)) 1) (is_refusal (get_or (part_of s st l) 0 0)) (eqb (st + l) (length s)) w

    go : (f : Field) → field_at s 0 5 ≡ f → on_head s f ≡ Runs c n → Long s n
    go (Wrong m) e w = never w
    go (Body t st l) e w = by_tag e (eqb t 0x81) refl w

-- ---- the numbers of the runs
pub runs_length : (s : List ℕ) (n : ℕ) → length (runs_of s n) ≡ 5 * n
unfolding runs_of
runs_length s zero = refl
runs_length s (suc n) = length-append (runs_of s n) (run_numbers (run_body s n)) ∙ omega (arith, runs_length s n)

pub no_runs : (s : List ℕ) (out : List ℤ) → out ≡ runs_of s 0 ++ out
unfolding runs_of
no_runs s out = refl

pub runs_turn : (s : List ℕ) (i : ℕ) (out : List ℤ) → 5 * i + 5 ≤ length out → sets (runs_of s i ++ drop (5 * i) out) (5 * i) (run_numbers (run_body s i)) ≡ runs_of s (i + 1) ++ drop (5 * (i + 1)) out
unfolding runs_of
runs_turn s i out h =
    let e : 5 * i + 5 ≡ 5 * (i + 1) = omega arith in
    front_more (runs_of s i) (run_numbers (run_body s i)) out (5 * i) (runs_length s i) h ∙
    ap (λ (n : ℕ). runs_of s i ++ run_numbers (run_body s i) ++ drop n out) e ∙ ap (λ (n : ℕ). runs_of s n ++ drop (5 * (i + 1)) out) (sym (add-one i))

-- An answer file that is read means one cost with runs, or one refusal, and writing these gives the same bytes.
-- Assumes nothing.
use Prim.Native.Nat.{ℕ, zero, suc, ◌+◌, ◌*◌, ◌/◌, ◌%◌, ◌≤◌, ◌<◌}
use native.Mathlib.Omega.{arith}
use native.Mathlib.Numerals.{add-one}
use mathlib.Core.Path.{◌≡◌, refl, sym, ◌∙◌, ap, ap₂}
use mathlib.Core.Bool.{Bool, true, false}
use mathlib.Core.List.{List, ◌++◌, append-nil, append_assoc}
use mathlib.Core.Logic.{◌⊎◌, inl, inr}
use lib.Dec.{eqb, leb}
use lib.ListN.{length, get_or, take, drop, get_or-append}
use lib.Seq.{take-length, take_at, get_or-append-add}
use lib.IntN.{ℤ, pos}
use borrow.Author.Tests.{eqb-true, eqb-false, eq-eqb, ne_eqb, le-leb}
use Rattle.integers.specs.Pick.{pick}
use Rattle.integers.specs.Bytes.{word_high, word_low, signed16, bits_signed, signed_fits}
use Rattle.readings.specs.Trips.{AllBytes}
use Rattle.fields.specs.Fields.{Field, Body, Wrong, row_of, field_at, field_number, part_of, word_at, field, number8, bytes8}
use Rattle.fields.specs.Laws.{FieldRead}
use Rattle.fields.proofs.Laws.{field_is, field_bytes, part_length, part_bytes, spell}
use Rattle.fields.proofs.Tags.{at_5}
use Rattle.fields.proofs.Eight.{eight_back}
use Rattle.fields.specs.Put.{Bytes, outcome, written}
use Rattle.answers.specs.Runs.{is_refusal, run_fits, whole, number_at, whole_at, last_before, run_ok, runs_ok}
use Rattle.answers.specs.Reader.{AnswerRead, Runs, Refusal, Unread, body_fits, body_last, on_run, runs_from, refusal_read, on_head, answer_file, in_room, on_read, read_answer, filled, run_numbers, run_body, runs_of}
use Rattle.answers.specs.Writer.{run_field, runs_bytes, answer_bytes, refusal_bytes, answer_number, answer_written, after_answer, refusal_number, refusal_written, after_refusal}
use Rattle.answers.specs.Sizes.{run_size, cost_size, file_long, runs_length}
use Rattle.answers.specs.Rules.{level_fits_lem}
use Rattle.answers.specs.Lengths.{answer_length_lem}

-- ---- the numbers of a run in the list that was filled

runs_number : (s : List ℕ) (n i k : ℕ) → i < n → k < 5 → number_at (runs_of s n) i k ≡ get_or (run_numbers (run_body s i)) k (pos 0)
unfolding runs_of
runs_number s zero i k l m = absurd (omega arith)
runs_number s (suc n) i k l m = go (eqb i n) refl (λ h. runs_number s n i k h m)
  where
    go : (b : Bool) → eqb i n ≡ b → (i < n → number_at (runs_of s n) i k ≡ get_or (run_numbers (run_body s i)) k (pos 0)) →
        get_or (runs_of s n ++ run_numbers (run_body s n)) (5 * i + k) (pos 0) ≡ get_or (run_numbers (run_body s i)) k (pos 0)
    go true q ih =
        let e = eqb-true i n q in
        let c : 5 * i + k ≡ length (runs_of s n) + k = omega (arith, e, runs_length s n) in
        ap (λ (x : ℕ). get_or (runs_of s n ++ run_numbers (run_body s n)) x (pos 0)) c ∙ get_or-append-add (runs_of s n) (run_numbers (run_body s n)) k (pos 0) ∙ ap (λ (x : ℕ). get_or (run_numbers (run_body s x)) k (pos 0)) (sym e)
    go false q ih =
        let ne = eqb-false i n q in
        let h : i < n = omega (arith, ne) in
        get_or-append (runs_of s n) (run_numbers (run_body s n)) (pos 0) (5 * i + k) (omega (arith, runs_length s n)) ∙ ih h

module _ (s : List ℕ) (f : AllBytes s) (n i : ℕ) (l : i < n) (h : length (run_body s i) ≡ 8) where
  abbrev body : List ℕ
  body = run_body s i

  body_is : AllBytes (run_body s i)
  body_is = part_bytes s (14 + 11 * i) 8 f

  -- the numbers of the run are those of its body
  run_wholes : (whole_at (runs_of s n) i 0 ≡ word_at body 0) × (whole_at (runs_of s n) i 1 ≡ word_at body 2) × (whole_at (runs_of s n) i 2 ≡ get_or body 4 0) × (number_at (runs_of s n) i 3 ≡ signed16 (word_at body 5)) × (whole_at (runs_of s n) i 4 ≡ get_or body 7 0)
  unfolding whole
  run_wholes =
      (ap whole (runs_number s n i 0 l (omega arith)), ap whole (runs_number s n i 1 l (omega arith)), ap whole (runs_number s n i 2 l (omega arith)), runs_number s n i 3 l (omega arith), ap whole (runs_number s n i 4 l (omega arith)))

  level_word : word_at body 5 < 65536
  level_word = omega (arith, body_is 5, body_is 6)

  -- and so are its bytes
  run_field_lem : run_field (runs_of s n) i ≡ field 0x82 body
  run_field_lem =
      let w = run_wholes in
      let b = bits_signed (word_at body 5) level_word in
      let fh = word_high (get_or body 0 0) (get_or body 1 0) (body_is 1) in
      let fl = word_low (get_or body 0 0) (get_or body 1 0) (body_is 1) in
      let lh = word_high (get_or body 2 0) (get_or body 3 0) (body_is 3) in
      let ll = word_low (get_or body 2 0) (get_or body 3 0) (body_is 3) in
      let vh = word_high (get_or body 5 0) (get_or body 6 0) (body_is 6) in
      let vl = word_low (get_or body 5 0) (get_or body 6 0) (body_is 6) in
      rw (w.0, w.1, w.2, w.3, w.4, b, fh, fl, lh, ll, vh, vl) (ap (field 0x82) (spell 8 body h))

-- ---- what is known of each run of a file that was read

unfoldable last_of : List ℕ → ℕ → ℕ
last_of s zero = 0
last_of s (suc i) = body_last (run_body s i)

record RunAt (s : List ℕ) (i : ℕ) : Type 0 where
  read : FieldRead s (11 + 11 * i) 6 0x82 (14 + 11 * i) 8
  fits : body_fits (last_of s i) (run_body s i) ≡ true

record AllRuns (s : List ℕ) (cost c from n : ℕ) : Type 0 where
  same : c ≡ cost
  more : from < n
  each : (i : ℕ) → from ≤ i → i < n → RunAt s i

never : {Q : Type 0} {m c n : ℕ} → Unread m ≡ Runs c n → Q
never h = let z : ◌≡◌ {A = ℕ} 0 1 = cc in absurd (omega arith)

run_at : (s : List ℕ) (at count : ℕ) {t st l : ℕ} → field_at s at 6 ≡ Body t st l → at ≡ 11 + 11 * count → (FieldRead s (11 + 11 * count) 6 0x82 (14 + 11 * count) 8) × (st ≡ 14 + 11 * count) × (l ≡ 8)
run_at s at count {t} {st} {l} e q =
    let z = run_size s at e in
    let w : st ≡ 14 + 11 * count = omega (arith, z.1) in
    let x : field_at s (11 + 11 * count) 6 ≡ Body 0x82 (14 + 11 * count) 8 = ap (λ (k : ℕ). field_at s k 6) (sym q) ∙ e ∙ cong₃ z.0 w z.2 in
    (field_is s (11 + 11 * count) 6 x, w, z.2)
  where
    cong₃ : {a b c a' b' c' : ℕ} → a ≡ a' → b ≡ b' → c ≡ c' → Body a b c ≡ Body a' b' c'
    cong₃ p q r = cc

all_runs : (k : ℕ) (s : List ℕ) (cost at prev count c n : ℕ) → runs_from k s cost at prev count ≡ Runs c n → at ≡ 11 + 11 * count → prev ≡ last_of s count → AllRuns s cost c count n
unfolding runs_from last_of
all_runs zero s cost at prev count c n h q p = never h
all_runs (suc k) s cost at prev count c n h q p = go (λ a b m. all_runs k s cost a b m c n) (field_at s at 6) refl h
  where
    only : (m : ℕ) → count + 1 ≡ m → RunAt s count → AllRuns s cost cost count m
    only m e r = record { same = refl; more = omega arith; each = λ i a b. pick_run i (omega arith) }
      where
        pick_run : (i : ℕ) → i ≡ count → RunAt s i
        pick_run i z = rw z r

    more_runs : RunAt s count → AllRuns s cost c (count + 1) n → AllRuns s cost c count n
    more_runs r w = record { same = w.same; more = omega (arith, w.more); each = λ i a b. choose i b a (eqb i count) refl }
      where
        choose : (i : ℕ) → i < n → count ≤ i → (t : Bool) → eqb i count ≡ t → RunAt s i
        choose i b a true z = rw (eqb-true i count z) r
        choose i b a false z = let ne = eqb-false i count z in w.each i (omega (arith, ne)) b

    by_end :
        ((a b m : ℕ) → runs_from k s cost a b m ≡ Runs c n → a ≡ 11 + 11 * m → b ≡ last_of s m → AllRuns s cost c m n) → {st l : ℕ} → st ≡ 14 + 11 * count → l ≡ 8 → FieldRead s (11 + 11 * count) 6 0x82 (14 + 11 * count) 8 →
        (x : Bool) → body_fits prev (part_of s st l) ≡ x → (y : Bool) →
        pick x (pick y (Runs cost (count + 1)) (runs_from k s cost (st + l) (body_last (part_of s st l)) (count + 1))) (Unread 17) ≡ Runs c n → AllRuns s cost c count n
    by_end ih a b r false qx y w = never w
    by_end ih {st} {l} a b r true qx y w =
        let bd : part_of s st l ≡ run_body s count = ap₂ (part_of s) a b in
        let here : RunAt s count = record { read = r; fits = ap₂ body_fits (sym p) (sym bd) ∙ qx } in
        last y here bd w
      where
        last : (y : Bool) → RunAt s count → part_of s st l ≡ run_body s count → pick y (Runs cost (count + 1)) (runs_from k s cost (st + l) (body_last (part_of s st l)) (count + 1)) ≡ Runs c n → AllRuns s cost c count n
        last true here bd w =
            let m : count + 1 ≡ n = cc in
            let cs : cost ≡ c = cc in
            let o = only n m here in
            record { same = sym cs; more = o.more; each = o.each }
        last false here bd w =
            let nx : st + l ≡ 11 + 11 * (count + 1) = omega arith in
            more_runs here (ih (st + l) (body_last (part_of s st l)) (count + 1) w nx (ap body_last bd ∙ sym (ap (last_of s) (add-one count))))

    go :
        ((a b m : ℕ) → runs_from k s cost a b m ≡ Runs c n → a ≡ 11 + 11 * m → b ≡ last_of s m → AllRuns s cost c m n) → (x : Field) → field_at s at 6 ≡ x → on_run (runs_from k s cost) s cost prev count x ≡ Runs c n → AllRuns s cost c count n
    go ih (Wrong m) e w = never w
    go ih (Body t st l) e w =
        let z = run_at s at count e q in
        by_end ih z.1 z.2 z.0 (body_fits prev (part_of s st l)) refl (eqb (st + l) (length s)) w

-- ---- the whole list keeps the rules, and its bytes are the file

module _ (s : List ℕ) (f : AllBytes s) (n : ℕ) (all : (i : ℕ) → i < n → RunAt s i) where
  body_long : (i : ℕ) → i < n → length (run_body s i) ≡ 8
  body_long i l = part_length s (14 + 11 * i) 8 (all i l).read.whole

  last_same : (i : ℕ) → i ≤ n → last_before (runs_of s n) i ≡ last_of s i
  unfolding last_before last_of body_last
  last_same zero l = refl
  last_same (suc i) l = (run_wholes s f n i (omega arith) (body_long i (omega arith))).1 ∙ sym (rw (eq-eqb (length (run_body s i)) 8 (body_long i (omega arith))))

  run_keeps : (i : ℕ) → i < n → run_ok (runs_of s n) i ≡ true
  unfolding run_ok body_fits
  run_keeps i l =
      let w = run_wholes s f n i l (body_long i l) in
      let v = level_fits_lem (signed16 (word_at (run_body s i) 5)) (signed_fits (word_at (run_body s i) 5) (level_word s f n i l (body_long i l))) in
      let b : run_fits (last_of s i) (word_at (run_body s i) 0) (word_at (run_body s i) 2) (get_or (run_body s i) 4 0) (get_or (run_body s i) 7 0) ≡ true = rw (eq-eqb (length (run_body s i)) 8 (body_long i l)) at (all i l).fits in
      rw (last_same i (omega arith), w.0, w.1, w.2, w.3, w.4, b, v)

  runs_keep : (i : ℕ) → i ≤ n → runs_ok (runs_of s n) i ≡ true
  unfolding runs_ok
  runs_keep zero l = refl
  runs_keep (suc i) l = rw (runs_keep i (omega arith), run_keeps i (omega arith))

  runs_head : (cost : ℕ) → take 11 s ≡ field 0x81 (bytes8 cost) → (i : ℕ) → i ≤ n → take (11 + 11 * i) s ≡ field 0x81 (bytes8 cost) ++ runs_bytes (runs_of s n) i
  unfolding runs_bytes
  runs_head cost e zero l = e ∙ sym (append-nil (field 0x81 (bytes8 cost)))
  runs_head cost e (suc i) l =
      let h : i < n = omega arith in
      let c : 11 + 11 * suc i ≡ 14 + 11 * i + 8 = omega arith in
      ap (λ (k : ℕ). take k s) c ∙ field_bytes s (11 + 11 * i) 6 f (all i h).read ∙ ap₂ (λ (x y : List ℕ). x ++ y) (runs_head cost e i (omega arith)) (sym (run_field_lem s f n i h (body_long i h))) ∙
      append_assoc (field 0x81 (bytes8 cost)) (runs_bytes (runs_of s n) i) (run_field (runs_of s n) i)

-- what a file that was read as runs means
pub record Means (s : List ℕ) (cost n : ℕ) : Type 0 where
  pub bytes : answer_bytes cost (runs_of s n) ≡ s
  pub rules : runs_ok (runs_of s n) n ≡ true
  pub some_runs : 0 < n

read_head : (s : List ℕ) (c n : ℕ) → AllBytes s → answer_file s ≡ Runs c n → (take 11 s ≡ field 0x81 (bytes8 c)) × AllRuns s c c 0 n
unfolding answer_file refusal_read last_of
read_head s c n f h = go (field_at s 0 5) refl h
  where
    refused : (a b : ℕ) (x y z : Bool) → pick x (pick y (pick z (Refusal a) (Unread b)) (Unread 17)) (Unread 3) ≡ Runs c n → (take 11 s ≡ field 0x81 (bytes8 c)) × AllRuns s c c 0 n
    refused a b false y z w = never w
    refused a b true false z w = never w
    refused a b true true false w = never w
    refused a b true true true w = let z : ◌≡◌ {A = ℕ} 0 1 = cc in absurd (omega arith)

    by_tag : {t st l : ℕ} → FieldRead s 0 5 t st l → ((st ≡ 3) × (l ≡ 8)) ⊎ (t ≡ 0x81 → ⊥) → (x : Bool) → eqb t 0x81 ≡ x →
        pick x (runs_from (length s + 1) s (number8 (part_of s st l)) (st + l) 0 0) (refusal_read s (st + l) (part_of s st l)) ≡ Runs c n → (take 11 s ≡ field 0x81 (bytes8 c)) × AllRuns s c c 0 n
    by_tag {t} {st} {l} r (inr other) true q w = absurd (other (eqb-true t 0x81 q))
    by_tag {t} {st} {l} r (inl z) true q w =
        let e : st + l ≡ 11 = omega (arith, z.0, z.1) in
        let a = all_runs (length s + 1) s (number8 (part_of s st l)) (st + l) 0 0 c n w (omega arith) refl in
        let b = eight_back (part_of s st l) (part_length s st l r.whole ∙ z.1) (part_bytes s st l f) in (
          ap (λ (k : ℕ). take k s) (sym e) ∙ field_bytes s 0 5 f r ∙ ap₂ field (eqb-true t 0x81 q) (sym b ∙ ap bytes8 (sym a.same)),
          record { same = refl; more = a.more; each = a.each },
        )
    by_tag {t} {st} {l} r z false q w =
        refused (get_or (part_of s st l) 0 0) (field_number (field_at s (st + l) 4)) (eqb (length (part_of s st l)) 1) (is_refusal (get_or (part_of s st l) 0 0)) (eqb (st + l) (length s)) w

    sized : {t st l : ℕ} → field_at s 0 5 ≡ Body t st l → (b : Bool) → eqb t 0x81 ≡ b → ((st ≡ 3) × (l ≡ 8)) ⊎ (t ≡ 0x81 → ⊥)
    sized {t} e true q = inl (cost_size s e (eqb-true t 0x81 q))
    sized {t} e false q = inr (eqb-false t 0x81 q)

    go : (x : Field) → field_at s 0 5 ≡ x → on_head s x ≡ Runs c n → (take 11 s ≡ field 0x81 (bytes8 c)) × AllRuns s c c 0 n
    go (Wrong m) e w = never w
    go (Body t st l) e w = by_tag (field_is s 0 5 e) (sized e (eqb t 0x81) refl) (eqb t 0x81) refl w

-- reading, then writing: the bytes of a cost and runs that were read are the file
pub file_back : (s : List ℕ) (c n : ℕ) → AllBytes s → answer_file s ≡ Runs c n → Means s c n
unfolding answer_bytes
file_back s c n f h = means (read_head s c n f h)
  where
    means : (take 11 s ≡ field 0x81 (bytes8 c)) × AllRuns s c c 0 n → Means s c n
    means a =
        let e : length (runs_of s n) / 5 ≡ n = omega (arith, runs_length s n) in
        record {
          bytes =
              ap (λ (k : ℕ). field 0x81 (bytes8 c) ++ runs_bytes (runs_of s n) k) e ∙ sym (runs_head s f n (λ i l. a.1.each i (omega arith) l) c a.0 n (omega arith)) ∙ ap (λ (k : ℕ). take k s) (sym (file_long s c n h)) ∙ take-length s;
          rules = runs_keep s f n (λ i l. a.1.each i (omega arith) l) n (omega arith);
          some_runs = a.1.more;
        }

-- from buffer to buffer: the runs that a reader left in front of a list, written again, are the file that was read
module _ (s out : List ℕ) (list : List ℤ) (c n : ℕ) (f : AllBytes s) (h : read_answer s (length list) ≡ Runs c n) (l : length s ≤ length out) where
  abbrev front : List ℤ
  front = take (5 * n) (filled s list)

  read_is : answer_file s ≡ Runs c n
  unfolding read_answer
  read_is = go (answer_file s) h
    where
      room : (d m : ℕ) (b : Bool) → pick b (Runs d m) (Unread 15) ≡ Runs c n → Runs d m ≡ Runs c n
      room d m true e = e
      room d m false e = never e

      go : (r : AnswerRead) → in_room (length list) r ≡ Runs c n → r ≡ Runs c n
      go (Runs d m) e = room d m (leb (5 * m) (length list)) e
      go (Refusal m) e = e
      go (Unread m) e = e

  front_is : front ≡ runs_of s n
  unfolding filled
  front_is = ap (λ (r : AnswerRead). take (5 * n) (on_read s list r)) h ∙ take_at (runs_of s n) (drop (5 * n) list) (5 * n) (runs_length s n)

  number_again : answer_number front (length out) ≡ 0
  unfolding answer_number
  number_again =
      let m = file_back s c n f read_is in
      let five = runs_length s n in
      let e : length (runs_of s n) / 5 ≡ n = omega arith in
      let z : length (runs_of s n) % 5 ≡ 0 = omega arith in
      let ne = ne_eqb (length (runs_of s n)) 0 (λ q. omega (arith, q, m.some_runs)) in
      rw (front_is, ne, z, e, m.rules, le-leb (11 + 11 * n) (length out) (omega (arith, file_long s c n read_is))) refl

  pub read_then_write : (answer_written front (length out) ≡ Bytes (length s)) × (after_answer c front out ≡ s ++ drop (length s) out)
  unfolding outcome written
  read_then_write =
      let b = ap (answer_bytes c) front_is ∙ (file_back s c n f read_is).bytes in
      rw number_again (ap Bytes (sym (answer_length_lem c front) ∙ ap length b), ap (λ (x : List ℕ). x ++ drop (length x) out) b)

-- ---- a refusal

not_refusal : {Q : Type 0} {m n : ℕ} → Unread m ≡ Refusal n → Q
not_refusal h = let z : ◌≡◌ {A = ℕ} 0 1 = cc in absurd (omega arith)

not_runs : {Q : Type 0} {c m n : ℕ} → Runs c m ≡ Refusal n → Q
not_runs h = let z : ◌≡◌ {A = ℕ} 0 1 = cc in absurd (omega arith)

runs_no_refusal : {Q : Type 0} (k : ℕ) (s : List ℕ) (cost at prev count n : ℕ) → runs_from k s cost at prev count ≡ Refusal n → Q
unfolding runs_from
runs_no_refusal zero s cost at prev count n h = not_refusal h
runs_no_refusal {Q} (suc k) s cost at prev count n h = go (λ a b m. runs_no_refusal k s cost a b m n) (field_at s at 6) h
  where
    go : ((a b m : ℕ) → runs_from k s cost a b m ≡ Refusal n → Q) → (x : Field) → on_run (runs_from k s cost) s cost prev count x ≡ Refusal n → Q
    go ih (Wrong m) w = not_refusal w
    go ih (Body t st l) w = by (body_fits prev (part_of s st l)) (eqb (st + l) (length s)) w
      where
        by : (x y : Bool) → pick x (pick y (Runs cost (count + 1)) (runs_from k s cost (st + l) (body_last (part_of s st l)) (count + 1))) (Unread 17) ≡ Refusal n → Q
        by false y w = not_refusal w
        by true true w = not_runs w
        by true false w = ih (st + l) (body_last (part_of s st l)) (count + 1) w

-- reading, then writing: the bytes of a refusal that was read are the file, and it is one of the lists
pub refusal_back : (s : List ℕ) (n : ℕ) → AllBytes s → answer_file s ≡ Refusal n → (refusal_bytes n ≡ s) × (is_refusal n ≡ true)
unfolding answer_file refusal_read row_of
refusal_back s n f h = go (field_at s 0 5) refl h
  where
    is_number : {a b : ℕ} → Refusal a ≡ Refusal b → a ≡ b
    is_number w = cc

    by_tests : {t st l : ℕ} → FieldRead s 0 5 t st l → t ≡ 0x83 → (x : Bool) → eqb (length (part_of s st l)) 1 ≡ x → (y : Bool) → is_refusal (get_or (part_of s st l) 0 0) ≡ y → (z : Bool) → eqb (st + l) (length s) ≡ z →
        pick x (pick y (pick z (Refusal (get_or (part_of s st l) 0 0)) (Unread (field_number (field_at s (st + l) 4)))) (Unread 17)) (Unread 3) ≡ Refusal n → (refusal_bytes n ≡ s) × (is_refusal n ≡ true)
    by_tests r e false qx y qy z qz w = not_refusal w
    by_tests r e true qx false qy z qz w = not_refusal w
    by_tests r e true qx true qy false qz w = not_refusal w
    by_tests {t} {st} {l} r e true qx true qy true qz w =
        let a = is_number w in
        let b = spell 1 (part_of s st l) (eqb-true (length (part_of s st l)) 1 qx) in (
          ap (λ (k : ℕ). refusal_bytes k) (sym a) ∙ ap₂ field (sym e) b ∙ sym (field_bytes s 0 5 f r) ∙ ap (λ (k : ℕ). take k s) (eqb-true (st + l) (length s) qz) ∙ take-length s,
          ap is_refusal (sym a) ∙ qy,
        )

    by_tag : {t st l : ℕ} → FieldRead s 0 5 t st l → (t ≡ 0x81) ⊎ (t ≡ 0x83) → (x : Bool) → eqb t 0x81 ≡ x →
        pick x (runs_from (length s + 1) s (number8 (part_of s st l)) (st + l) 0 0) (refusal_read s (st + l) (part_of s st l)) ≡ Refusal n → (refusal_bytes n ≡ s) × (is_refusal n ≡ true)
    by_tag {t} {st} {l} r k true q w = runs_no_refusal (length s + 1) s (number8 (part_of s st l)) (st + l) 0 0 n w
    by_tag {t} {st} {l} r (inl e) false q w = absurd (eqb-false t 0x81 q e)
    by_tag {t} {st} {l} r (inr e) false q w =
        by_tests r e (eqb (length (part_of s st l)) 1) refl (is_refusal (get_or (part_of s st l) 0 0)) refl (eqb (st + l) (length s)) refl w

    go : (x : Field) → field_at s 0 5 ≡ x → on_head s x ≡ Refusal n → (refusal_bytes n ≡ s) × (is_refusal n ≡ true)
    go (Wrong m) e w = not_refusal w
    go (Body t st l) e w = let r = field_is s 0 5 e in by_tag r (at_5 t r.stands) (eqb t 0x81) refl w

pub refusal_then_write : (s out : List ℕ) (list : List ℤ) (n : ℕ) → AllBytes s → read_answer s (length list) ≡ Refusal n → length s ≤ length out → (refusal_written n (length out) ≡ Bytes (length s)) × (after_refusal n out ≡ s ++ drop (length s) out)
unfolding read_answer outcome written refusal_number
refusal_then_write s out list n f h l =
    let (b, k) = refusal_back s n f (go (answer_file s) h) in
    let e : 4 ≤ length out = omega (arith, ap length b) in
    rw (k, le-leb 4 (length out) e) (ap (λ (x : List ℕ). Bytes (length x)) b, ap (λ (x : List ℕ). x ++ drop (length x) out) b)
  where
    room : (d m : ℕ) (b : Bool) → pick b (Runs d m) (Unread 15) ≡ Refusal n → Runs d m ≡ Refusal n
    room d m true e = e
    room d m false e = not_refusal e

    go : (r : AnswerRead) → in_room (length list) r ≡ Refusal n → r ≡ Refusal n
    go (Runs d m) e = room d m (leb (5 * m) (length list)) e
    go (Refusal m) e = e
    go (Unread m) e = e

-- An answer that keeps the rules, written and read again, comes back.
-- Assumes nothing.
use Prim.Native.Nat.{ℕ, zero, suc, ◌+◌, ◌-◌, ◌*◌, ◌/◌, ◌%◌, ◌≤◌, ◌<◌}
use native.Mathlib.Omega.{arith}
use native.Mathlib.Nat.{add-zero}
use mathlib.Core.Path.{◌≡◌, refl, sym, ◌∙◌, ap, ap₂}
use mathlib.Core.Bool.{Bool, true, false}
use mathlib.Core.List.{List, [], ◌∷◌, ◌++◌, append-nil, append_assoc}
use lib.Dec.{leb}
use lib.ListN.{length, get_or, take, drop, length-append}
use lib.Seq.{take_all, take_at, take-add, drop-cons}
use lib.IntN.{ℤ, pos, negsuc}
use borrow.Author.Tests.{eq-eqb, ne_eqb, eqb-false, le-leb}
use Rattle.integers.specs.Pick.{pick}
use Rattle.integers.specs.Bytes.{word_back, bits16, signed_bits}
use Rattle.fields.specs.Fields.{Body, row_of, may_stand, length_fits, count_fits, field_at, part_of, field, bytes8}
use Rattle.fields.proofs.Laws.{field_read, field_part}
use Rattle.fields.proofs.Eight.{number_back}
use Rattle.fields.specs.Put.{written}
use Rattle.answers.specs.Runs.{is_refusal, whole, number_at, whole_at, last_before, runs_ok}
use Rattle.answers.specs.Reader.{Runs, Refusal, body_fits, body_last, runs_from, refusal_read, answer_file, on_read, read_answer, filled, run_numbers, runs_of}
use Rattle.answers.specs.Writer.{run_field, runs_bytes, answer_bytes, refusal_bytes, answer_length, answer_number, refusal_number, after_answer, after_refusal}
use Rattle.answers.specs.Rules.{run_parts, run_small, run_level, runs_each, last_next, last_first}
use Rattle.answers.specs.Lengths.{run_bytes_length, answer_length_lem, answer_room}

-- a refusal
pub refusal_again : (n : ℕ) → is_refusal n ≡ true → answer_file (refusal_bytes n) ≡ Refusal n
unfolding answer_file refusal_read may_stand length_fits count_fits row_of
refusal_again n h =
    let f : field_at (refusal_bytes n) 0 5 ≡ Body 0x83 3 1 = ap (λ (y : List ℕ). field_at y 0 5) (sym (append-nil (refusal_bytes n))) ∙ field_read [] (n ∷ []) [] 0x83 5 refl refl refl in
    let b : part_of (refusal_bytes n) 3 1 ≡ n ∷ [] = ap (λ (y : List ℕ). part_of y 3 1) (sym (append-nil (refusal_bytes n))) ∙ field_part [] (n ∷ []) [] 0x83 5 refl refl refl in
    rw (f, b, h)

-- a number that is small enough is not below zero
whole_pos : (z : ℤ) → whole z < 65536 → pos (whole z) ≡ z
unfolding whole
whole_pos (pos n) h = refl
whole_pos (negsuc n) h = absurd (omega arith)

five_taken : (l : List ℤ) (k : ℕ) → k + 5 ≤ length l → take 5 (drop k l) ≡ get_or l (k + 0) (pos 0) ∷ (get_or l (k + 1) (pos 0) ∷ (get_or l (k + 2) (pos 0) ∷ (get_or l (k + 3) (pos 0) ∷ (get_or l (k + 4) (pos 0) ∷ []))))
five_taken l k h =
    let e₀ : k + 0 ≡ k = omega arith in
    let e₁ : k + 1 ≡ suc k = omega arith in
    let e₂ : k + 2 ≡ suc (suc k) = omega arith in
    let e₃ : k + 3 ≡ suc (suc (suc k)) = omega arith in
    let e₄ : k + 4 ≡ suc (suc (suc (suc k))) = omega arith in
    rw (e₀, e₁, e₂, e₃, e₄, drop-cons l k (pos 0) (omega arith), drop-cons l (suc k) (pos 0) (omega arith), drop-cons l (suc (suc k)) (pos 0) (omega arith), drop-cons l (suc (suc (suc k))) (pos 0) (omega arith), drop-cons l (suc (suc (suc (suc k)))) (pos 0) (omega arith))

runs_cut : (runs : List ℤ) (d j : ℕ) → (rest : List ℕ) × (runs_bytes runs (j + d) ≡ runs_bytes runs j ++ rest)
unfolding runs_bytes
runs_cut runs zero j = ([], ap (runs_bytes runs) (add-zero j) ∙ sym (append-nil (runs_bytes runs j)))
runs_cut runs (suc d) j =
    let e : j + suc d ≡ suc (j + d) = omega arith in
    let c = runs_cut runs d j in
    (c.0 ++ run_field runs (j + d), ap (runs_bytes runs) e ∙ ap (λ (x : List ℕ). x ++ run_field runs (j + d)) c.1 ∙ append_assoc (runs_bytes runs j) c.0 (run_field runs (j + d)))

regroup : (x a f r : List ℕ) → x ++ (a ++ f ++ r) ≡ x ++ a ++ f ++ r
regroup x a f r = simp append_assoc

module _ (cost : ℕ) (runs : List ℤ) (small : cost < 18446744073709551616) (five : length runs % 5 ≡ 0) (some_runs : length runs ≡ 0 → ⊥) (rules : runs_ok runs (length runs / 5) ≡ true) where
  abbrev count : ℕ
  count = length runs / 5

  abbrev file : List ℕ
  file = answer_bytes cost runs

  abbrev front : ℕ → List ℕ
  front j = field 0x81 (bytes8 cost) ++ runs_bytes runs j

  abbrev body : ℕ → List ℕ
  body i =
      whole_at runs i 0 / 256 ∷ (whole_at runs i 0 % 256 ∷ (whole_at runs i 1 / 256 ∷ (whole_at runs i 1 % 256 ∷ (whole_at runs i 2 ∷
      (bits16 (number_at runs i 3) / 256 ∷ (bits16 (number_at runs i 3) % 256 ∷ (whole_at runs i 4 ∷ [])))))))

  front_length : (j : ℕ) → length (front j) ≡ 11 + 11 * j
  unfolding bytes8
  front_length j = length-append (field 0x81 (bytes8 cost)) (runs_bytes runs j) ∙ omega (arith, run_bytes_length runs j)

  file_length : length file ≡ 11 + 11 * count
  unfolding answer_bytes
  file_length = front_length count

  parts : (j d : ℕ) → suc j + d ≡ count → (c : (rest : List ℕ) × (runs_bytes runs (suc j + d) ≡ runs_bytes runs (suc j) ++ rest)) → file ≡ front j ++ run_field runs j ++ c.0
  unfolding answer_bytes runs_bytes
  parts j d t c = ap (λ (x : List ℕ). field 0x81 (bytes8 cost) ++ x) (ap (runs_bytes runs) (sym t) ∙ c.1) ∙ regroup (field 0x81 (bytes8 cost)) (runs_bytes runs j) (run_field runs j) c.0

  -- run j, read where it stands
  module _ (j : ℕ) (l : j < count) where
    rest_of : (rest : List ℕ) × (file ≡ front j ++ run_field runs j ++ rest)
    rest_of =
        let d = count - suc j in
        let t : suc j + d ≡ count = omega arith in
        let c = runs_cut runs d (suc j) in
        (c.0, parts j d t c)

    run_read : field_at file (11 + 11 * j) 6 ≡ Body 0x82 (14 + 11 * j) 8
    unfolding may_stand length_fits count_fits row_of
    run_read =
        let c = rest_of in
        let e = front_length j in
        let n : length (front j) + 3 ≡ 14 + 11 * j = omega arith in
        ap₂ (λ (y : List ℕ) (k : ℕ). field_at y k 6) c.1 (sym e) ∙ field_read (front j) (body j) c.0 0x82 6 refl refl refl ∙ ap (λ (k : ℕ). Body 0x82 k 8) n

    run_body_lem : part_of file (14 + 11 * j) 8 ≡ body j
    unfolding may_stand length_fits count_fits row_of
    run_body_lem =
        let c = rest_of in
        let e = front_length j in
        let n : 14 + 11 * j ≡ length (front j) + 3 = omega arith in
        ap₂ (λ (y : List ℕ) (k : ℕ). part_of y k 8) c.1 n ∙ field_part (front j) (body j) c.0 0x82 6 refl refl refl

    keeps : runs_ok runs count ≡ true → body_fits (last_before runs j) (body j) ≡ true
    unfolding body_fits
    keeps r =
        let w = (run_parts runs j (runs_each runs count j l r)).0 in
        rw (word_back (whole_at runs j 0), word_back (whole_at runs j 1)) w

    last_is : body_last (body j) ≡ last_before runs (j + 1)
    unfolding body_last
    last_is = word_back (whole_at runs j 1) ∙ sym (last_next runs j)

    -- the numbers come back
    numbers : run_numbers (body j) ≡ number_at runs j 0 ∷ (number_at runs j 1 ∷ (number_at runs j 2 ∷ (number_at runs j 3 ∷ (number_at runs j 4 ∷ []))))
    numbers =
        let k = runs_each runs count j l rules in
        let s = run_small runs j k in
        let p₀ = whole_pos (number_at runs j 0) (omega (arith, s.0)) in
        let p₁ = whole_pos (number_at runs j 1) (omega (arith, s.1)) in
        let p₂ = whole_pos (number_at runs j 2) (omega (arith, s.2)) in
        let p₄ = whole_pos (number_at runs j 4) (omega (arith, s.3)) in
        let v = signed_bits (number_at runs j 3) (run_level runs j k) in
        rw (word_back (whole_at runs j 0), word_back (whole_at runs j 1), word_back (bits16 (number_at runs j 3)), p₀, p₁, p₂, p₄, v)

  walk : (d j k : ℕ) → j + suc d ≡ count → d < k → runs_from k file cost (11 + 11 * j) (last_before runs j) j ≡ Runs cost count
  unfolding runs_from
  walk d j zero e l = absurd (omega arith)
  walk zero j (suc k) e l =
      let h : j < count = omega arith in
      let n : j + 1 ≡ count = omega arith in
      let z : 14 + 11 * j + 8 ≡ length file = omega (arith, file_length) in
      rw (run_read j h, run_body_lem j h, keeps j h rules, eq-eqb (14 + 11 * j + 8) (length file) z) (ap (Runs cost) n)
  walk (suc d) j (suc k) e l =
      let h : j < count = omega arith in
      let z = ne_eqb (14 + 11 * j + 8) (length file) (λ q. omega (arith, q, file_length)) in
      let n : 14 + 11 * j + 8 ≡ 11 + 11 * (j + 1) = omega arith in
      rw (run_read j h, run_body_lem j h, keeps j h rules, z, last_is j h, n) (walk d (j + 1) k (omega arith) (omega arith))

  -- writing, then reading: the cost and the number of runs come back
  pub write_then_read : answer_file file ≡ Runs cost count
  unfolding answer_file may_stand length_fits count_fits row_of bytes8 answer_bytes
  write_then_read =
      let f : field_at file 0 5 ≡ Body 0x81 3 8 = field_read [] (bytes8 cost) (runs_bytes runs count) 0x81 5 refl refl refl in
      let b : part_of file 3 8 ≡ bytes8 cost = field_part [] (bytes8 cost) (runs_bytes runs count) 0x81 5 refl refl refl in
      let d = count - 1 in
      let more : 0 < count = some_count in
      let w = walk d 0 (length file + 1) (omega arith) (omega (arith, file_length)) in
      rw (f, b, number_back cost small) (ap (λ (p : ℕ). runs_from (length file + 1) file cost 11 p 0) (sym (last_first runs)) ∙ w)
    where
      some_count : 0 < length runs / 5
      some_count = omega (arith, five, some_runs)

  runs_front : (j : ℕ) → j ≤ count → runs_of file j ≡ take (5 * j) runs
  unfolding runs_of
  runs_front zero l = refl
  runs_front (suc j) l =
      let h : j < count = omega arith in
      let e : 5 * suc j ≡ 5 * j + 5 = omega arith in
      ap₂ (λ (x y : List ℤ). x ++ y) (runs_front j (omega arith)) (ap run_numbers (run_body_lem j h) ∙ numbers j h ∙ sym (five_taken runs (5 * j) (omega arith))) ∙ sym (take-add (5 * j) 5 runs) ∙ ap (λ (k : ℕ). take k runs) (sym e)

  -- and so do the run numbers
  pub runs_back_lem : runs_of file count ≡ runs
  runs_back_lem = runs_front count (omega arith) ∙ take_all (5 * count) runs (omega (arith, five))

-- the same from buffer to buffer: what a writer left in front of out, read again into a list that has room for it; the list's rest stays
module _ (cost : ℕ) (runs : List ℤ) (out : List ℕ) (list : List ℤ) (small : cost < 18446744073709551616) (w : answer_number runs (length out) ≡ 0) (room : length runs ≤ length list) where
  abbrev bytes : List ℕ
  bytes = take (answer_length (length runs)) (after_answer cost runs out)

  bytes_are : bytes ≡ answer_bytes cost runs
  unfolding written
  bytes_are = rw w (take_at (answer_bytes cost runs) (drop (length (answer_bytes cost runs)) out) (answer_length (length runs)) (answer_length_lem cost runs))

  five_runs : 5 * (length runs / 5) ≡ length runs
  five_runs = omega (arith, (answer_room runs (length out) w).five)

  pub written_then_read : read_answer bytes (length list) ≡ Runs cost (length runs / 5)
  unfolding read_answer
  written_then_read =
      let r = answer_room runs (length out) w in
      let a : answer_file bytes ≡ Runs cost (length runs / 5) = ap answer_file bytes_are ∙ write_then_read cost runs small r.five r.some_runs r.rules in
      rw (a, le-leb (5 * (length runs / 5)) (length list) (omega (arith, five_runs))) refl

  pub written_then_filled : filled bytes list ≡ runs ++ drop (length runs) list
  unfolding filled
  written_then_filled =
      let r = answer_room runs (length out) w in
      ap (on_read bytes list) written_then_read
      ∙ ap (λ (x : List ℕ). runs_of x (length runs / 5) ++ drop (5 * (length runs / 5)) list) bytes_are
      ∙ ap₂ (λ (x : List ℤ) (k : ℕ). x ++ drop k list) (runs_back_lem cost runs small r.five r.some_runs r.rules) five_runs

pub refusal_then_read : (n : ℕ) (out : List ℕ) (list : List ℤ) → refusal_number n (length out) ≡ 0
    → (read_answer (take 4 (after_refusal n out)) (length list) ≡ Refusal n) × (filled (take 4 (after_refusal n out)) list ≡ list)
unfolding written refusal_number read_answer filled
refusal_then_read n out list w = go (is_refusal n) refl (leb 4 (length out)) refl w
  where
    go : (a : Bool) → is_refusal n ≡ a → (b : Bool) → leb 4 (length out) ≡ b → ◌≡◌ {A = ℕ} (pick a (pick b 0 15) 17) 0
        → (read_answer (take 4 (after_refusal n out)) (length list) ≡ Refusal n) × (filled (take 4 (after_refusal n out)) list ≡ list)
    go false qa b qb h = absurd (eqb-false 17 0 refl h)
    go true qa false qb h = absurd (eqb-false 15 0 refl h)
    go true qa true qb h = rw (qa, qb, refusal_again n qa) (refl, refl)

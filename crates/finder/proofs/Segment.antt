-- Plan file in, answer file out, case by case. Assumes nothing.
use mathlib.Core.Path.{◌≡◌, refl, sym, ◌∙◌, ap, ap₂}
use mathlib.Core.List.{List, ◌++◌}
use mathlib.Core.Bool.{Bool, true, false}
use Prim.Native.Nat.{ℕ, ◌*◌, ◌/◌, ◌%◌, ◌≤◌, ◌<◌}
use native.Mathlib.Omega.{arith}
use lib.Dec.{eqb, leb}
use lib.IntN.{ℤ}
use lib.Signed.{mag}
use lib.ListN.{length, take, drop, length-append}
use lib.Seq.{take_at}
use borrow.Author.Tests.{eq-eqb, ne_eqb, eqb-true, le-leb, leb-true}
use Rattle.integers.specs.Pick.{pick}
use Rattle.plan.specs.Build.{Done, Refused}
use Rattle.model.specs.Result.{Result, found, refused}
use Rattle.search.specs.Told.{Found}
use Rattle.search.specs.Search.{search_result, found_of, runs_after, words_left, words_after}
use Rattle.readings.specs.Codec.{readings_of, decode_number, decoded}
use Rattle.plan.specs.Counts.{count_ok}
use Rattle.readings.proofs.Trips.{readings_length}
use Rattle.fields.specs.Fields.{part_of}
use Rattle.fields.specs.Put.{outcome, written}
use Rattle.fields.specs.Put.{Written}
use Rattle.files.specs.Reader.{FileRead}
use Rattle.files.specs.Reader.{plan_file, readings_part}
use Rattle.answers.specs.Runs.{last_refusal, is_refusal}
use Rattle.answers.specs.Lengths.{answer_length_lem}
use Rattle.answers.specs.Writer.{answer_bytes, refusal_bytes, answer_number, refusal_number, answer_written, after_answer, refusal_written, after_refusal}
use Rattle.finder.specs.declared.Outcome.{Outcome}
use Rattle.finder.specs.Finder.{written_outcome, file_words, file_readings, file_result, room_number, segment_outcome, after_segment}
use Rattle.finder.specs.Parts.{runs_in, found_written, after_found}
use Rattle.finder.proofs.Calls.{none, some, part_is, number_is, list_is}
use Rattle.finder.proofs.Numbers.{listed, answer_listed, file_listed}
use Rattle.finder.proofs.Fit.{Writable, search_writable}

-- ---- a result that can be written is refused for want of room alone

refusal_room : (n room : ℕ) → is_refusal n ≡ true → refusal_number n room ≡ room_number (refusal_bytes n) room
unfolding refusal_number room_number
refusal_room n room h = rw h

answer_room : (c : ℕ) (ns : List ℤ) (room : ℕ) → Writable (found c ns) → answer_number ns room ≡ room_number (answer_bytes c ns) room
unfolding room_number
answer_room c ns room (h, _) = h room ∙ ap (λ (l : ℕ). pick (leb l room) 0 15) (sym (answer_length_lem c ns))

-- the writer's answer for a result, and the bytes after it
abbrev result_written : Result → ℕ → Written
result_written (found c ns) room = answer_written ns room
result_written (refused n) room = refusal_written n room

abbrev after_result : Result → List ℕ → List ℕ
after_result (found c ns) out = after_answer c ns out
after_result (refused n) out = after_refusal n out

pub outcome_is : (r : Result) → Writable r → (out : List ℕ) → (written_outcome (result_written r (length out)) ≡ segment_outcome r (length out)) × (after_result r out ≡ after_segment r out)
unfolding segment_outcome after_segment
outcome_is (found c ns) w out =
    (ap₂ (λ (n l : ℕ). written_outcome (outcome n l)) (answer_room c ns (length out) w) (sym (answer_length_lem c ns)), ap (λ (n : ℕ). written n (answer_bytes c ns) out) (answer_room c ns (length out) w))
outcome_is (refused n) w out =
    (ap (λ (k : ℕ). written_outcome (outcome k 4)) (refusal_room n (length out) w), ap (λ (k : ℕ). written k (refusal_bytes n) out) (refusal_room n (length out) w))

-- ---- the runs of a result at the front of a list

front : (ns runs : List ℤ) → 5 * (length ns / 5) ≡ length ns → take (5 * (length ns / 5)) (ns ++ drop (length ns) runs) ≡ ns
front ns runs e = ap (λ (k : ℕ). take k (ns ++ drop (length ns) runs)) e ∙ take_at ns (drop (length ns) runs) (length ns) refl

pub runs_here : (r : Result) → Writable r → (runs : List ℤ) (room : ℕ) (out : List ℕ)
    → (found_written (found_of r) (runs_after r runs) room ≡ result_written r room) × (after_found (found_of r) (runs_after r runs) out ≡ after_result r out)
runs_here (found c ns) w runs room out = let e = front ns runs w.1 in (ap (λ (l : List ℤ). answer_written l room) e, ap (λ (l : List ℤ). after_answer c l out) e)
runs_here (refused n) w runs room out = (refl, refl)

pub runs_room : (r : Result) → Writable r → (runs : List ℤ) → runs_in (found_of r) ≤ length (runs_after r runs)
runs_room (found c ns) w runs = omega (arith, w.1, length-append ns (drop (length ns) runs))
runs_room (refused n) w runs = omega arith

-- ---- decoding

-- what a decoder that is not refused has found
decode_small : (len room : ℕ) → decode_number len room ≤ 15
unfolding decode_number
decode_small len room = go (eqb (len % 2) 0) (count_ok (len / 2)) (leb (len / 2) room)
  where
    go : (a b c : Bool) → pick a (pick b (pick c 0 15) 9) 3 ≤ 15
    go true true true = omega arith
    go true true false = omega arith
    go true false c = omega arith
    go false b c = omega arith

pub decode_fits : (len room : ℕ) → decode_number len room ≡ 0 → (len ≡ 2 * (len / 2)) × (len / 2 ≤ room)
unfolding decode_number
decode_fits len room e = go (eqb (len % 2) 0) refl (count_ok (len / 2)) (leb (len / 2) room) refl e
  where
    go : (a : Bool) → eqb (len % 2) 0 ≡ a → (b c : Bool) → leb (len / 2) room ≡ c → ◌≡◌ {A = ℕ} (pick a (pick b (pick c 0 15) 9) 3) 0 → (len ≡ 2 * (len / 2)) × (len / 2 ≤ room)
    go true p true true q h = (omega (arith, eqb-true (len % 2) 0 p), leb-true (len / 2) room q)
    go true p true false q h = absurd (omega (arith, h))
    go true p false c q h = absurd (omega (arith, h))
    go false p b c q h = absurd (omega (arith, h))

module _ (b : List ℕ) (zs zs' : List ℤ) (n : ℕ) (d : (n ≡ decode_number (length b) (length zs)) × (zs' ≡ decoded b zs)) (k : n ≡ 0) where
  decoded_is : zs' ≡ readings_of b ++ drop (length b / 2) zs
  unfolding decoded
  decoded_is = d.1 ∙ rw (← d.0, eq-eqb n 0 k)

  fits : (length b ≡ 2 * (length b / 2)) × (length b / 2 ≤ length zs)
  fits = decode_fits (length b) (length zs) (sym d.0 ∙ k)

  pub prefix_fits : length b / 2 ≤ length zs'
  prefix_fits = rw decoded_is (omega (arith, length-append (readings_of b) (drop (length b / 2) zs), readings_length (length b / 2) b fits.0))

  pub prefix_is : take (length b / 2) zs' ≡ readings_of b
  prefix_is = ap (take (length b / 2)) decoded_is ∙ take_at (readings_of b) (drop (length b / 2) zs) (length b / 2) (readings_length (length b / 2) b fits.0)

-- ---- the cases

listed_refusal : (n : ℕ) → listed n ≡ true → is_refusal n ≡ true
unfolding is_refusal
listed_refusal n h = h

module _ (s : List ℕ) (r : FileRead) (e : r ≡ plan_file s) (zs : List ℤ) (ws : List ℕ) (runs : List ℤ) (out : List ℕ) where
  abbrev whole : Result
  whole = file_result s (length zs) (length ws) (length runs)

  -- all that the contract says
  abbrev Segmented : Outcome → List ℕ → List ℤ → List ℤ → List ℕ → Type 0
  Segmented o out' zs' runs' ws' = (o ≡ segment_outcome whole (length out)) × ((out' ≡ after_segment whole out) × ((zs' ≡ file_readings s zs) × ((runs' ≡ runs_after whole runs) × (ws' ≡ file_words s whole ws))))

  -- what a refusal writes
  refused_bytes : (n : ℕ) → refused n ≡ whole → is_refusal n ≡ true → (o : Outcome) (out' : List ℕ) → (o ≡ written_outcome (refusal_written n (length out))) × (out' ≡ after_refusal n out)
      → (o ≡ segment_outcome whole (length out)) × (out' ≡ after_segment whole out)
  refused_bytes n q w o out' (a, b) =
      let h = outcome_is (refused n) w out in
      (a ∙ h.0 ∙ ap (λ (x : Result). segment_outcome x (length out)) q, b ∙ h.1 ∙ ap (λ (x : Result). after_segment x out) q)

  -- the file has no plan
  pub segment_none : (n : ℕ) → r.answer ≡ Refused n → (o : Outcome) (out' : List ℕ) → (o ≡ written_outcome (refusal_written n (length out))) × (out' ≡ after_refusal n out) → Segmented o out' zs runs ws
  unfolding file_result file_readings file_words
  segment_none n h o out' k =
      let q : refused n ≡ whole = none s r e n h _ refused in
      let w : is_refusal n ≡ true = listed_refusal n (ap answer_listed (sym h ∙ ap (λ (x : FileRead). x.answer) e) ∙ file_listed s) in
      let b = refused_bytes n q w o out' k in
      (b.0, (b.1, (none s r e n h _ (λ i. zs), (ap (λ (x : Result). runs_after x runs) q, none s r e n h _ (λ i. ws)))))

  module _ (h : r.answer ≡ Done) (b : List ℕ) (p : b ≡ part_of s r.start r.len) (zs' : List ℤ) (n : ℕ) (d : (n ≡ decode_number (length b) (length zs)) × (zs' ≡ decoded b zs)) where
    -- the readings do not fit
    pub segment_wrong : (n ≡ 0 → ⊥) → (o : Outcome) (out' : List ℕ) → (o ≡ written_outcome (refusal_written n (length out))) × (out' ≡ after_refusal n out) → Segmented o out' zs' runs ws
    unfolding file_result file_words words_after words_left is_refusal
    segment_wrong k o out' l =
        let i = number_is s r e h b p zs zs' n d in
        let low : n ≤ 15 = omega (arith, d.0, decode_small (length b) (length zs)) in
        let q : refused n ≡ whole = rw (← i, ne_eqb n 0 k) (some s r e h (refused n) refused) in
        let w : is_refusal n ≡ true = rw (ne_eqb n 0 k, le-leb n last_refusal (omega (arith, low))) in
        let x : ws ≡ words_after (plan_file s).plan (refused n) ws = rw (ne_eqb n 16 (λ z. omega (arith, z, low))) in
        let y = refused_bytes n q w o out' l in
        (y.0, (y.1, (list_is s r e h b p zs zs' n d, (ap (λ (x : Result). runs_after x runs) q, x ∙ ap (λ (x : Result). words_after (plan_file s).plan x ws) q ∙ some s r e h _ (λ i. ws)))))

    -- the search
    module _ (k : n ≡ 0) (grid : (mag r.plan.lo < 32768) × (mag r.plan.hi < 32768)) where
      abbrev searched : Result
      searched = search_result r.plan (take (length b / 2) zs') (length ws) (length runs)

      writable : Writable searched
      writable = search_writable r.plan (take (length b / 2) zs') (length ws) (length runs) grid.0 grid.1

      searched_is : searched ≡ whole
      unfolding file_result
      searched_is =
          let i = number_is s r e h b p zs zs' n d in
          let q : searched ≡ search_result (plan_file s).plan (readings_of (readings_part s)) (length ws) (length runs) =
          ap (λ (x : List ℤ). search_result r.plan x (length ws) (length runs)) (prefix_is b zs zs' n d k ∙ ap readings_of (part_is s r e h b p zs zs' n d)) ∙ ap (λ (x : FileRead). search_result x.plan (readings_of (readings_part s)) (length ws) (length runs)) e in
          rw (← i, eq-eqb n 0 k) (q ∙ some s r e h _ refused)

      pub segment_runs : (runs' : List ℤ) (f : Found) → f ≡ found_of searched → runs' ≡ runs_after searched runs → runs_in f ≤ length runs'
      segment_runs runs' f a c = rw (a, c) (runs_room searched writable runs)

      pub segment_some : (runs' : List ℤ) (ws' : List ℕ) (f : Found) (w : Written) (out' : List ℕ) (o : Outcome)
          → (f ≡ found_of searched) × ((runs' ≡ runs_after searched runs) × (ws' ≡ words_after r.plan searched ws))
          → (w ≡ found_written f runs' (length out)) × (out' ≡ after_found f runs' out) → o ≡ written_outcome w → Segmented o out' zs' runs' ws'
      unfolding file_words
      segment_some runs' ws' f w out' o (a, (c, x)) (u, v) y =
          let q = searched_is in
          let i = runs_here searched writable runs (length out) out in
          let j = outcome_is searched writable out in
          let u' : w ≡ _ = u ∙ ap₂ (λ (z : Found) (l : List ℤ). found_written z l (length out)) a c ∙ i.0 in
          let v' : out' ≡ _ = v ∙ ap₂ (λ (z : Found) (l : List ℤ). after_found z l out) a c ∙ i.1 in (
            y ∙ ap written_outcome u' ∙ j.0 ∙ ap (λ (z : Result). segment_outcome z (length out)) q,
            (
              v' ∙ j.1 ∙ ap (λ (z : Result). after_segment z out) q,
              (
                list_is s r e h b p zs zs' n d,
                (
                  c ∙ ap (λ (z : Result). runs_after z runs) q,
                  x ∙ ap (λ (z : Result). words_after r.plan z ws) q ∙ ap (λ (z : FileRead). words_after z.plan whole ws) e ∙ some s r e h _ (λ i. ws),
                ),
              ),
            ),
          )

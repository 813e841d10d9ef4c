-- Runs that change places. Assumes nothing.
use Rattle.std.proofs.Common.{◌≡◌, refl, sym, ◌∙◌, ap, ◌⊎◌, inl, inr, List, ◌++◌, ℕ, zero, suc, ◌+◌, ◌-◌, ◌*◌, ◌/◌, ◌%◌, ◌≤◌, ◌<◌, ℤ, pos, length, take, drop, arith, length-append, length-drop, rules, ext_get_or, get_or-append-add, get_or-drop, drop-drop, append_assoc}
use Rattle.std.proofs.Math.Decide.{dec_lt}
use Rattle.std.proofs.Math.ListN.{get_or-append}
use Rattle.std.proofs.lemmas.List.{places}
use Rattle.std.proofs.lemmas.List.Edits.{sets, sets-eq}
use borrow.Rule.Slice.PartMut.{put_mid}
use lib.Seq.{get_or-take, length-take-le}
use Rattle.runs.specs.declared.Run.{Run}
use Rattle.runs.specs.Runs.{five_of, Put, place, runs_back, at, Turned, Reversed}

-- ---- the list with its first m runs in the other order
back_length : (m : ℕ) (l : List ℤ) → 5 * m ≤ length l → length (runs_back m l) ≡ 5 * m
unfolding runs_back
back_length zero l h = refl
back_length (suc m) l h =
    length-append (take 5 (drop (5 * m) l)) (runs_back m l)
    ∙ omega (arith, length-take-le 5 (drop (5 * m) l) (omega (arith, length-drop (5 * m) l)), back_length m l (omega arith))

back_get : (m : ℕ) (l : List ℤ) → 5 * m ≤ length l → (q f : ℕ) → q < m → f < 5 → at (runs_back m l) (5 * q + f) ≡ at l (5 * (m - 1 - q) + f)
unfolding runs_back
back_get zero l h q f hq hf = absurd (omega arith)
back_get (suc m) l h zero f hq hf =
    let e : 5 * 0 + f ≡ f = omega arith in
    let w : 5 * m ≡ 5 * (suc m - 1 - 0) = omega arith in
    ap (at (take 5 (drop (5 * m) l) ++ runs_back m l)) e
    ∙ get_or-append (take 5 (drop (5 * m) l)) (runs_back m l) (pos 0) f (omega (arith, length-take-le 5 (drop (5 * m) l) (omega (arith, length-drop (5 * m) l))))
    ∙ get_or-take 5 (drop (5 * m) l) f (pos 0) hf ∙ get_or-drop (5 * m) l f (pos 0) ∙ ap (λ (x : ℕ). at l (x + f)) w
back_get (suc m) l h (suc q) f hq hf =
    let n = length-take-le 5 (drop (5 * m) l) (omega (arith, length-drop (5 * m) l)) in
    let e : 5 * suc q + f ≡ length (take 5 (drop (5 * m) l)) + (5 * q + f) = omega (arith, n) in
    let w : 5 * (m - 1 - q) ≡ 5 * (suc m - 1 - suc q) = omega arith in
    ap (at (take 5 (drop (5 * m) l) ++ runs_back m l)) e ∙ get_or-append-add (take 5 (drop (5 * m) l)) (runs_back m l) (5 * q + f) (pos 0)
    ∙ back_get m l (omega arith) q f (omega arith) hf ∙ ap (λ (x : ℕ). at l (x + f)) w

-- a list whose first m runs are those of l in the other order, and whose rest is that of l
reversed_is : (m : ℕ) (l l' : List ℤ) → 5 * m ≤ length l → length l' ≡ length l → ((q f : ℕ) → q < m → f < 5 → at l' (5 * q + f) ≡ at l (5 * (m - 1 - q) + f)) → ((i : ℕ) → 5 * m ≤ i → at l' i ≡ at l i)
    → l' ≡ runs_back m l ++ drop (5 * m) l
reversed_is m l l' room size run rest = ext_get_or (pos 0) l' (runs_back m l ++ drop (5 * m) l) (size ∙ whole) (λ i h. same i (dec_lt i (5 * m)))
  where
    n : length (runs_back m l) ≡ 5 * m
    n = back_length m l room

    whole : length l ≡ length (runs_back m l ++ drop (5 * m) l)
    whole = simp (length-append, length-drop) (omega (arith, n))

    same : (i : ℕ) → Dec (i < 5 * m) → at l' i ≡ at (runs_back m l ++ drop (5 * m) l) i
    same i (yes k) =
        let (a, b, e) = place i m k in
        ap (at l') (sym e) ∙ run (i / 5) (i % 5) a b ∙ sym (back_get m l room (i / 5) (i % 5) a b) ∙ ap (at (runs_back m l)) e ∙ sym (get_or-append (runs_back m l) (drop (5 * m) l) (pos 0) i (omega (arith, n)))
    same i (no k) =
        let e : 5 * m + (i - 5 * m) ≡ i = omega arith in
        let w : length (runs_back m l) + (i - 5 * m) ≡ i = omega (arith, n) in
        rest i (omega arith) ∙ ap (at l) (sym e) ∙ sym (get_or-drop (5 * m) l (i - 5 * m) (pos 0)) ∙ sym (get_or-append-add (runs_back m l) (drop (5 * m) l) (i - 5 * m) (pos 0))
        ∙ ap (at (runs_back m l ++ drop (5 * m) l)) w

-- all of them: what is in the middle stands where it stood
pub turned_all : (n m : ℕ) (l l' : List ℤ) → 5 * m ≤ length l → m ≤ 2 * n + 1 → Turned n m l l' → Reversed m l l'
turned_all n m l l' room h t = record { is = reversed_is m l l' room t.size run t.rest; size = t.size; run = run; rest = t.rest }
  where
    run : (q f : ℕ) → q < m → f < 5 → at l' (5 * q + f) ≡ at l (5 * (m - 1 - q) + f)
    run q f hq k = go q f hq k (dec_lt q n) (dec_lt (q + n) m)
      where
        go : (q f : ℕ) → q < m → f < 5 → Dec (q < n) → Dec (q + n < m) → at l' (5 * q + f) ≡ at l (5 * (m - 1 - q) + f)
        go q f hq k (yes a) d = t.run q f hq (inl a) k
        go q f hq k (no a) (yes b) = let z : m - 1 - q ≡ q = omega arith in rw z (t.kept q f (omega arith) b k)
        go q f hq k (no a) (no b) = t.run q f hq (inr (omega arith)) k

-- as many numbers as these copied over those from a on
module _ (l ys : List ℤ) (a k : ℕ) (room : a + k ≤ length l) (n : length ys ≡ k) where
  part_is : put_mid a k l ys ≡ sets l a ys
  part_is = sym (sets-eq ys l a (omega arith) ∙ rw (n, drop-drop, append_assoc))

  part_size : length (put_mid a k l ys) ≡ length l
  part_size = simp (length-append, length-drop) (omega (arith, length-take-le a l (omega arith)))

  part_here : (f : ℕ) → f < k → at (put_mid a k l ys) (a + f) ≡ at ys f
  part_here f h = search (rules, places)

  part_other : (i : ℕ) → (i < a) ⊎ (a + k ≤ i) → at (put_mid a k l ys) i ≡ at l i
  part_other i (inl h) = search (rules, places)
  part_other i (inr h) = search (rules, places)

-- the five numbers of a run copied to their place
pub put_part : (m k : ℕ) (r : Run) (l ys : List ℤ) → 5 * m + 5 ≤ length l → k ≡ 5 → ys ≡ five_of r → Put m r l (put_mid (5 * m) k l ys)
put_part m k r l ys h e q =
    let n : length ys ≡ k = ap length q ∙ sym e in
    record {
      is = part_is l ys (5 * m) k (omega arith) n ∙ ap (sets l (5 * m)) q;
      size = part_size l ys (5 * m) k (omega arith) n;
      here = λ f g. part_here l ys (5 * m) k (omega arith) n f (omega arith) ∙ ap (λ (x : List ℤ). at x f) q;
      other = λ i o. part_other l ys (5 * m) k (omega arith) n i (rw e o);
    }

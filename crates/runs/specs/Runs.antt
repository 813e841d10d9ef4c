-- Runs in a list of numbers, five a run. Assumes nothing.
use Rattle.std.specs.Prelude.{◌≡◌, refl, ◌⊎◌, List, [], ◌∷◌, ◌++◌, reverse, ℕ, zero, suc, ◌+◌, ◌-◌, ◌*◌, ◌/◌, ◌%◌, ◌≤◌, ◌<◌, ℤ, pos, length, get_or, take, drop}
use Rattle.std.proofs.Common.{sym, ◌∙◌, ap, inl, inr, arith, div-add-mod', mod-lt, length-append, length-drop, ext_get_or, get_or-append-add, get_or-drop}
use Rattle.std.proofs.Math.Decide.{dec_lt}
use Rattle.std.proofs.lemmas.List.Edits.{sets}
use Rattle.std.proofs.Math.ListN.{get_or-append}
use Rattle.std.proofs.lemmas.List.{length-reverse}
use Rattle.model.specs.Run as M
use Rattle.model.specs.Run.{numbers, five}
use Rattle.model.proofs.RunLaws.{numbers_length, numbers_append, numbers_get}
use Rattle.model.proofs.Lists.{reverse_get}
use Rattle.runs.specs.declared.Run.{Run}

-- the five numbers of a run
abbrev pub five_of : Run → List ℤ
five_of r = r.first ∷ r.last ∷ r.state ∷ r.level ∷ r.edge ∷ []

abbrev pub at : List ℤ → ℕ → ℤ
at l i = get_or l i (pos 0)

-- ---- contracts

-- the five numbers of r are stored one after the other
pub record Put (m : ℕ) (r : Run) (l l' : List ℤ) : Type 0 where
  pub is : l' ≡ sets l (5 * m) (five_of r)
  pub size : length l' ≡ length l
  pub here : (f : ℕ) → f < 5 → at l' (5 * m + f) ≡ at (five_of r) f
  pub other : (i : ℕ) → (i < 5 * m) ⊎ (5 * m + 5 ≤ i) → at l' i ≡ at l i

-- the first n numbers of the runs a and b have changed places
pub record SwappedTo (n a b : ℕ) (l l' : List ℤ) : Type 0 where
  pub size : length l' ≡ length l
  pub first : (f : ℕ) → f < n → at l' (5 * a + f) ≡ at l (5 * b + f)
  pub second : (f : ℕ) → f < n → at l' (5 * b + f) ≡ at l (5 * a + f)
  pub other : (k : ℕ) → (k < 5 * a) ⊎ (5 * a + n ≤ k) → (k < 5 * b) ⊎ (5 * b + n ≤ k) → at l' k ≡ at l k

abbrev pub SwappedRuns : ℕ → ℕ → List ℤ → List ℤ → Type 0
SwappedRuns = SwappedTo 5

-- the first m runs of l, last one first
unfoldable pub runs_back : ℕ → List ℤ → List ℤ
runs_back zero l = []
runs_back (suc m) l = take 5 (drop (5 * m) l) ++ runs_back m l

-- the first m runs are in the other order, and the rest is as before
pub record Reversed (m : ℕ) (l l' : List ℤ) : Type 0 where
  pub is : l' ≡ runs_back m l ++ drop (5 * m) l
  pub size : length l' ≡ length l
  pub run : (q f : ℕ) → q < m → f < 5 → at l' (5 * q + f) ≡ at l (5 * (m - 1 - q) + f)
  pub rest : (i : ℕ) → 5 * m ≤ i → at l' i ≡ at l i

-- the first n runs and the last n of m have changed places
pub record Turned (n m : ℕ) (l l' : List ℤ) : Type 0 where
  pub size : length l' ≡ length l
  pub run : (q f : ℕ) → q < m → (q < n) ⊎ (m ≤ q + n) → f < 5 → at l' (5 * q + f) ≡ at l (5 * (m - 1 - q) + f)
  pub kept : (q f : ℕ) → n ≤ q → q + n < m → f < 5 → at l' (5 * q + f) ≡ at l (5 * q + f)
  pub rest : (i : ℕ) → 5 * m ≤ i → at l' i ≡ at l i

-- ---- what the list holds

-- the runs rs in front, then what stood there before
pub record Holds (rs : List M.Run) (l₀ l : List ℤ) : Type 0 where
  pub size : length l ≡ length l₀
  pub run : (q f : ℕ) → q < length rs → f < 5 → at l (5 * q + f) ≡ at (numbers rs) (5 * q + f)
  pub rest : (i : ℕ) → 5 * length rs ≤ i → at l i ≡ at l₀ i

pub holds_none : (l : List ℤ) → Holds [] l l
holds_none l = record { size = refl; run = λ q f h k. absurd (omega arith); rest = λ i h. refl }

-- a place is a number of a run
pub place : (i m : ℕ) → i < 5 * m → (i / 5 < m) × (i % 5 < 5) × (5 * (i / 5) + i % 5 ≡ i)
place i m h = let e = div-add-mod' i 5 in let z : 0 < 5 = omega arith in let r = mod-lt i z in (omega arith, r, omega arith)

pub holds_put : (rs : List M.Run) (l₀ l l' : List ℤ) (m : ℕ) (r : Run) (x : M.Run) → m ≡ length rs → five_of r ≡ five x → Holds rs l₀ l → Put m r l l' → Holds (rs ++ (x ∷ [])) l₀ l'
unfolding numbers
holds_put rs l₀ l l' m r x e v h p = record { size = p.size ∙ h.size; run = run; rest = λ i k. p.other i (inr (omega (arith, length-append rs (x ∷ [])))) ∙ h.rest i (omega (arith, length-append rs (x ∷ []))) }
  where
    old : (q f : ℕ) → q < length rs → f < 5 → at (numbers (rs ++ (x ∷ []))) (5 * q + f) ≡ at (numbers rs) (5 * q + f)
    old q f hq hf = rw (numbers_append rs (x ∷ [])) (get_or-append (numbers rs) (numbers (x ∷ [])) (pos 0) (5 * q + f) (omega (arith, numbers_length rs)))

    new : (f : ℕ) → f < 5 → at (numbers (rs ++ (x ∷ []))) (5 * m + f) ≡ at (five x) f
    new f hf =
        let w : 5 * m + f ≡ length (numbers rs) + f = omega (arith, numbers_length rs) in
        rw (numbers_append rs (x ∷ []), w) (get_or-append-add (numbers rs) (five x ++ []) f (pos 0) ∙ get_or-append (five x) [] (pos 0) f hf)

    run : (q f : ℕ) → q < length (rs ++ (x ∷ [])) → f < 5 → at l' (5 * q + f) ≡ at (numbers (rs ++ (x ∷ []))) (5 * q + f)
    run q f hq hf = go (dec_lt q (length rs))
      where
        go : Dec (q < length rs) → at l' (5 * q + f) ≡ at (numbers (rs ++ (x ∷ []))) (5 * q + f)
        go (yes k) = p.other (5 * q + f) (inl (omega arith)) ∙ h.run q f k hf ∙ sym (old q f k hf)
        go (no k) =
            let w : q ≡ m = omega (arith, length-append rs (x ∷ [])) in
            rw w (p.here f hf ∙ ap (λ (z : List ℤ). at z f) v ∙ sym (new f hf))

pub holds_reversed : (rs : List M.Run) (l₀ l l' : List ℤ) (m : ℕ) → m ≡ length rs → Holds rs l₀ l → Reversed m l l' → Holds (reverse rs) l₀ l'
holds_reversed rs l₀ l l' m e h p = record {
  size = p.size ∙ h.size;
  run = λ q f hq hf.
      let n = length-reverse rs in
      let d : M.Run = M.run 0 0 0 (pos 0) 0 in
      let w : length rs - 1 - q ≡ m - 1 - q = omega arith in
      p.run q f (omega arith) hf ∙ h.run (m - 1 - q) f (omega arith) hf ∙ numbers_get rs (m - 1 - q) f d (omega arith) hf
      ∙ ap (λ (z : M.Run). at (five z) f) (ap (λ (z : ℕ). get_or rs z d) (sym w) ∙ sym (reverse_get rs q d (omega arith))) ∙ sym (numbers_get (reverse rs) q f d hq hf);
  rest = λ i k. let n = length-reverse rs in p.rest i (omega arith) ∙ h.rest i (omega arith);
}

-- the whole list
pub holds_is : (rs : List M.Run) (l₀ l : List ℤ) → 5 * length rs ≤ length l₀ → Holds rs l₀ l → l ≡ numbers rs ++ drop (length (numbers rs)) l₀
holds_is rs l₀ l room h = ext_get_or (pos 0) l (numbers rs ++ drop (length (numbers rs)) l₀) size same
  where
    n : length (numbers rs) ≡ 5 * length rs
    n = numbers_length rs

    size : length l ≡ length (numbers rs ++ drop (length (numbers rs)) l₀)
    size = simp (length-append, length-drop) (omega (arith, h.size, n))

    same : (i : ℕ) → i < length l → at l i ≡ at (numbers rs ++ drop (length (numbers rs)) l₀) i
    same i hi = go (dec_lt i (5 * length rs))
      where
        go : Dec (i < 5 * length rs) → at l i ≡ at (numbers rs ++ drop (length (numbers rs)) l₀) i
        go (yes k) =
            let (a, b, e) = place i (length rs) k in
            ap (at l) (sym e) ∙ h.run (i / 5) (i % 5) a b ∙ ap (at (numbers rs)) e ∙ sym (get_or-append (numbers rs) _ (pos 0) i (omega (arith, n)))
        go (no k) =
            let e : length (numbers rs) + (i - length (numbers rs)) ≡ i = omega (arith, n) in
            h.rest i (omega arith) ∙ ap (at l₀) (sym e) ∙ sym (get_or-drop (length (numbers rs)) l₀ (i - length (numbers rs)) (pos 0)) ∙ sym (get_or-append-add (numbers rs) (drop (length (numbers rs)) l₀) (i - length (numbers rs)) (pos 0))
            ∙ ap (at (numbers rs ++ drop (length (numbers rs)) l₀)) e

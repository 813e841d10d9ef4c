-- How long a written answer is, and storing it field by field.
-- Assumes nothing.
use Rattle.std.specs.Prelude.{ℕ, zero, suc, ◌+◌, ◌*◌, ◌/◌, ◌%◌, ◌≤◌, ◌≡◌, refl, Bool, true, false, List, eqb, leb, length, ℤ}
use Rattle.std.proofs.Common.{arith, add-one, sym, ◌∙◌, ap, length-append, eqb-true, leb-true}
use Rattle.std.proofs.lemmas.Bool.{eqb-false}
use Rattle.integers.specs.Pick.{pick}
use Rattle.fields.specs.Fields.{put_at, field, bytes8}
use Rattle.fields.proofs.PutLaws.{put_none, put_more}
use Rattle.answers.specs.Runs.{runs_ok}
use Rattle.answers.specs.Writer.{run_field, runs_bytes, answer_bytes, answer_length, answer_number}

pub run_bytes_length : (runs : List ℤ) (n : ℕ) → length (runs_bytes runs n) ≡ 11 * n
unfolding runs_bytes
run_bytes_length runs zero = refl
run_bytes_length runs (suc n) = length-append (runs_bytes runs n) (run_field runs n) ∙ omega (arith, run_bytes_length runs n)

pub answer_length_lem : (cost : ℕ) (runs : List ℤ) → length (answer_bytes cost runs) ≡ answer_length (length runs)
unfolding answer_bytes bytes8
answer_length_lem cost runs = length-append (field 0x81 (bytes8 cost)) (runs_bytes runs (length runs / 5)) ∙ omega (arith, run_bytes_length runs (length runs / 5))

pub none_put : (out : List ℕ) (runs : List ℤ) → 11 ≤ length out → out ≡ put_at out 11 (runs_bytes runs 0)
unfolding runs_bytes
none_put out runs h = sym (put_none out 11 h)

pub run_put : (out : List ℕ) (runs : List ℤ) (i : ℕ) → 11 + 11 * (i + 1) ≤ length out → put_at (put_at out 11 (runs_bytes runs i)) (11 + 11 * i) (run_field runs i) ≡ put_at out 11 (runs_bytes runs (i + 1))
unfolding runs_bytes
run_put out runs i h =
    let n = run_bytes_length runs i in
    ap (λ (k : ℕ). put_at (put_at out 11 (runs_bytes runs i)) (11 + k) (run_field runs i)) (sym n) ∙
    put_more out 11 (runs_bytes runs i) (run_field runs i) (omega arith) ∙ ap (λ (k : ℕ). put_at out 11 (runs_bytes runs k)) (sym (add-one i))

pub answer_put :
    (cost : ℕ) (runs : List ℤ) (out x₁ x₂ : List ℕ) → 11 + 11 * (length runs / 5) ≤ length out → x₁ ≡ put_at out 0 (field 0x81 (bytes8 cost)) → x₂ ≡ put_at x₁ 11 (runs_bytes runs (length runs / 5)) →
    x₂ ≡ put_at out 0 (answer_bytes cost runs)
unfolding answer_bytes bytes8
answer_put cost runs out x₁ x₂ h e₁ e₂ =
    e₂ ∙ ap (λ (x : List ℕ). put_at x 11 (runs_bytes runs (length runs / 5))) e₁ ∙ put_more out 0 (field 0x81 (bytes8 cost)) (runs_bytes runs (length runs / 5)) (omega (arith, run_bytes_length runs (length runs / 5)))

-- what a writer that is not refused has found
pub record Writes (runs : List ℤ) (room : ℕ) : Type 0 where
  pub some_runs : length runs ≡ 0 → ⊥
  pub five : length runs % 5 ≡ 0
  pub rules : runs_ok runs (length runs / 5) ≡ true
  pub fits : 11 + 11 * (length runs / 5) ≤ room

pub answer_room : (runs : List ℤ) (room : ℕ) → answer_number runs room ≡ 0 → Writes runs room
unfolding answer_number
answer_room runs room e = go (eqb (length runs) 0) refl (eqb (length runs % 5) 0) refl (runs_ok runs (length runs / 5)) refl (leb (11 + 11 * (length runs / 5)) room) refl e
  where
    go :
        (a : Bool) → eqb (length runs) 0 ≡ a → (b : Bool) → eqb (length runs % 5) 0 ≡ b → (c : Bool) → runs_ok runs (length runs / 5) ≡ c → (d : Bool) → leb (11 + 11 * (length runs / 5)) room ≡ d →
        ◌≡◌ {A = ℕ} (pick a 17 (pick b (pick c (pick d 0 15) 17) 17)) 0 → Writes runs room
    go true qa b qb c qc d qd h = absurd (eqb-false 17 0 refl h)
    go false qa false qb c qc d qd h = absurd (eqb-false 17 0 refl h)
    go false qa true qb false qc d qd h = absurd (eqb-false 17 0 refl h)
    go false qa true qb true qc false qd h = absurd (eqb-false 15 0 refl h)
    go false qa true qb true qc true qd h =
        record { some_runs = eqb-false (length runs) 0 qa; five = eqb-true (length runs % 5) 0 qb; rules = qc; fits = leb-true (11 + 11 * (length runs / 5)) room qd }

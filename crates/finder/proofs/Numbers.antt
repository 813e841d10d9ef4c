-- The refusals of a plan file's reading are numbers of the paper's lists. Assumes nothing.
use mathlib.Core.Path.{◌≡◌, refl}
use mathlib.Core.List.{List}
use mathlib.Core.Bool.{Bool, true, false}
use Prim.Native.Nat.{ℕ, zero, suc, ◌+◌, ◌-◌}
use lib.Dec.{eqb, leb, ltb}
use lib.IntN.{ℤ, pos}
use lib.ListN.{length, get_or}
use Rattle.integers.specs.Bytes.{word}
use Rattle.plan.specs.declared.Plan.{Plan}
use Rattle.plan.specs.declared.Edge.{Edge}
use Rattle.plan.specs.declared.Label.{Label}
use Rattle.plan.specs.Build.{Built}
use Rattle.plan.specs.Build.{Answer}
use Rattle.plan.specs.Build.{Done, Refused}
use Rattle.plan.specs.Build.{pick, grid_ok, states_ok, blank, refused_at, done, open_number, open_plan, edge_of, has_edge, fresh_edge, read_edge, edge_step, add_step, plan_number, change_number, add_edge, with_label, label_number, add_label, closed, seal_plan}
use Rattle.model.specs.Checked.{is_early}
use Rattle.model.proofs.Checked.{early_has, plan_is_early, label_is_early}
use Rattle.fields.specs.Fields.{Field}
use Rattle.fields.specs.Fields.{Body, Wrong}
use Rattle.fields.specs.Fields.{row_of, may_stand, length_fits, count_fits, checked_field, field_at, field_number, part_of}
use Rattle.fields.proofs.Tags.{nothing_after}
use Rattle.answers.specs.Runs.{last_refusal}
use Rattle.files.specs.Reader.{FileRead}
use Rattle.files.specs.Reader.{refused_file, level_at, grid_number, open_bodies, edge_body, label_body, entry_body, on_answer, at_end, finish_file, on_field, entries_from, on_states, on_grid, plan_file}
use Rattle.std.specs.Prelude.{Option, Some, None}
use Rattle.plan.specs.Build.{RefuseEdge}

-- a number of the lists
abbrev pub listed : ℕ → Bool
listed n = pick (eqb n 0) false (leb n last_refusal)

abbrev low : ℕ → Type 0
low n = leb n last_refusal ≡ true

early_low : (n : ℕ) → is_early n ≡ true → low n
early_low n = early_has (λ (k : ℕ). leb k last_refusal) n refl

abbrev pub answer_listed : Answer → Bool
answer_listed Done = true
answer_listed (Refused n) = listed n

abbrev field_listed : Field → Bool
field_listed (Body t st l) = true
field_listed (Wrong n) = listed n

abbrev built_listed : Built → Bool
built_listed b = answer_listed b.answer

abbrev read_listed : FileRead → Bool
read_listed r = answer_listed r.answer

either : {A : Type 0} (f : A → Bool) (b : Bool) (x y : A) → f x ≡ true → f y ≡ true → f (pick b x y) ≡ true
either f true x y h k = h
either f false x y h k = k

-- x where the number is 0, else what it makes of the number
unless_zero : {A : Type 0} (f : A → Bool) (n : ℕ) (x : A) (y : ℕ → A) → low n → f x ≡ true → (listed n ≡ true → f (y n) ≡ true) → f (pick (eqb n 0) x (y n)) ≡ true
unless_zero f n x y l h k = go (eqb n 0) refl
  where
    go : (b : Bool) → eqb n 0 ≡ b → f (pick b x (y n)) ≡ true
    go true e = h
    go false e = k (rw e l)

field_listed_lem : (s : List ℕ) (at stage : ℕ) → field_listed (field_at s at stage) ≡ true
unfolding field_at checked_field
field_listed_lem s at stage = go (ltb (length s - at) 3) (may_stand stage tag) (length_fits tag len) (count_fits tag len) (leb len (length s - at - 3))
  where
    tag : ℕ
    tag = get_or s at 0

    len : ℕ
    len = word (get_or s (at + 1) 0) (get_or s (at + 2) 0)

    go : (a b c d e : Bool) → field_listed (pick a (Wrong 1) (pick b (pick c (pick d (pick e (Body tag (at + 3) len) (Wrong 1)) (Wrong 9)) (Wrong 3)) (Wrong 2))) ≡ true
    go true b c d e = refl
    go false true true true true = refl
    go false true true true false = refl
    go false true true false e = refl
    go false true false d e = refl
    go false false c d e = refl

-- nothing may stand after the readings
end_listed : (s : List ℕ) (at : ℕ) → listed (field_number (field_at s at 4)) ≡ true
end_listed s at = go (field_at s at 4) refl (field_listed_lem s at 4)
  where
    go : (f : Field) → field_at s at 4 ≡ f → field_listed f ≡ true → listed (field_number f) ≡ true
    go (Body t st l) e h = absurd (nothing_after s at e)
    go (Wrong n) e h = h

-- ---- the plan calls

open_listed : (lo hi : ℤ) (s a b : ℕ) → built_listed (open_plan lo hi s a b) ≡ true
unfolding open_plan open_number
open_listed lo hi s a b = go (grid_ok lo hi) (states_ok s a b)
  where
    go : (p q : Bool) → built_listed (pick (eqb (pick p (pick q 0 5) 4) 0) (done (blank lo hi s a b)) (refused_at (blank (pos 0) (pos 0) 0 0 0) (pick p (pick q 0 5) 4))) ≡ true
    go true true = refl
    go true false = refl
    go false q = refl

change_low : (p : Plan) → low (change_number p)
unfolding change_number
change_low p = go (eqb (plan_number p) 0) p.sealed
  where
    go : (a b : Bool) → low (pick a (pick b 11 0) (plan_number p))
    go true true = refl
    go true false = refl
    go false b = early_low (plan_number p) (plan_is_early p)

step_listed : (p : Plan) (f t k : ℕ) (r : Option Edge) → built_listed (add_step p (read_edge p.edges p.edgecount f t k r)) ≡ true
step_listed p f t k None = refl
step_listed p f t k (Some e) = go (has_edge p.edges p.edgecount f t k)
  where
    go : (b : Bool) → built_listed (add_step p (fresh_edge b e)) ≡ true
    go true = refl
    go false = refl

edge_listed : (p : Plan) (f t k g c : ℕ) → built_listed (add_edge p f t k g c) ≡ true
unfolding add_edge edge_step
edge_listed p f t k g c =
    unless_zero built_listed (change_number p) _ (refused_at p) (change_low p)
    (either built_listed (ltb 0 p.labelcount) (refused_at p 11) _ refl (go (leb 32 p.edgecount)))
    (λ h. h)
  where
    go : (b : Bool) → built_listed (add_step p (pick b (RefuseEdge 10) (read_edge p.edges p.edgecount f t k (edge_of p.states f t k g c)))) ≡ true
    go true = refl
    go false = step_listed p f t k (edge_of p.states f t k g c)

label_listed : (p : Plan) (a b c : ℕ) → built_listed (add_label p a b c) ≡ true
unfolding add_label
label_listed p a b c =
    let l : Label = record { p = a; q = b; c = c } in
    unless_zero built_listed (change_number p) _ (refused_at p) (change_low p)
    (unless_zero built_listed (label_number p.labels p.labelcount l) (done (with_label p l)) (refused_at p) (early_low (label_number p.labels p.labelcount l) (label_is_early p.labels p.labelcount l)) refl (λ h. h))
    (λ h. h)

seal_listed : (p : Plan) → built_listed (seal_plan p) ≡ true
unfolding seal_plan
seal_listed p = unless_zero built_listed (change_number p) (done (closed p)) (refused_at p) (change_low p) refl (λ h. h)

-- ---- the reader

wrong_file : (n : ℕ) → listed n ≡ true → read_listed (refused_file n) ≡ true
unfolding refused_file
wrong_file n h = h

on_answer_lem : (r : FileRead) (a : Answer) → read_listed r ≡ true → answer_listed a ≡ true → read_listed (on_answer r a) ≡ true
on_answer_lem r Done h k = h
on_answer_lem r (Refused n) h k = wrong_file n k

opened_listed : (g b : List ℕ) → built_listed (open_bodies g b) ≡ true
unfolding open_bodies
opened_listed g b = either built_listed (eqb (length g) 4) _ _ (either built_listed (eqb (length b) 3) _ _ (open_listed _ _ _ _ _) refl) refl

entry_listed : (t : ℕ) (b : List ℕ) (p : Plan) → built_listed (entry_body t b p) ≡ true
unfolding entry_body edge_body label_body
entry_listed t b p =
    either built_listed (eqb t 0x03) _ _
    (either built_listed (eqb (length b) 6) _ _ (edge_listed p _ _ _ _ _) refl)
    (either built_listed (eqb (length b) 5) _ _ (label_listed p _ _ _) refl)

finish_listed : (s : List ℕ) (p : Plan) (st l : ℕ) → read_listed (finish_file s p st l) ≡ true
unfolding finish_file
finish_listed s p st l =
    on_answer_lem (at_end s (seal_plan p).plan st l) (seal_plan p).answer
    (either read_listed (eqb (st + l) (length s)) _ _ refl (wrong_file _ (end_listed s (st + l))))
    (seal_listed p)

entries_listed : (k : ℕ) (s : List ℕ) (p : Plan) (at stage : ℕ) → read_listed (entries_from k s p at stage) ≡ true
unfolding entries_from
entries_listed zero s p at stage = wrong_file 1 refl
entries_listed (suc k) s p at stage = go (field_at s at stage) (field_listed_lem s at stage) (λ q i j. entries_listed k s q i j)
  where
    go : (f : Field) → field_listed f ≡ true → ((q : Plan) (i j : ℕ) → read_listed (entries_from k s q i j) ≡ true) → read_listed (on_field (entries_from k s) s p f) ≡ true
    go (Wrong n) h rec = wrong_file n h
    go (Body t st l) h rec = either read_listed (eqb t 0x05) (finish_file s p st l) (on_answer (entries_from k s (entry_body t (part_of s st l) p).plan (st + l) (row_of t).next) (entry_body t (part_of s st l) p).answer) (finish_listed s p st l) (on_answer_lem (entries_from k s (entry_body t (part_of s st l) p).plan (st + l) (row_of t).next) (entry_body t (part_of s st l) p).answer (rec (entry_body t (part_of s st l) p).plan (st + l) (row_of t).next) (entry_listed t (part_of s st l) p))

grid_low : (b : List ℕ) → low (grid_number b)
unfolding grid_number
grid_low b = go (eqb (length b) 4) (grid_ok (level_at b 0) (level_at b 2))
  where
    go : (p q : Bool) → low (pick p (pick q 0 4) 3)
    go true true = refl
    go true false = refl
    go false q = refl

pub file_listed : (s : List ℕ) → read_listed (plan_file s) ≡ true
unfolding plan_file
file_listed s = grid (field_at s 0 0) (field_listed_lem s 0 0)
  where
    states : (g : List ℕ) (f : Field) → field_listed f ≡ true → read_listed (on_states s g f) ≡ true
    states g (Wrong n) h = wrong_file n h
    states g (Body t st l) h = on_answer_lem (entries_from (length s + 1) s (open_bodies g (part_of s st l)).plan (st + l) 2) (open_bodies g (part_of s st l)).answer (entries_listed (length s + 1) s (open_bodies g (part_of s st l)).plan (st + l) 2) (opened_listed g (part_of s st l))

    grid : (f : Field) → field_listed f ≡ true → read_listed (on_grid s f) ≡ true
    grid (Wrong n) h = wrong_file n h
    grid (Body t st l) h =
        unless_zero read_listed (grid_number (part_of s st l)) (on_states s (part_of s st l) (field_at s (st + l) 1)) refused_file (grid_low (part_of s st l)) (states (part_of s st l) (field_at s (st + l) 1) (field_listed_lem s (st + l) 1)) (wrong_file (grid_number (part_of s st l)))

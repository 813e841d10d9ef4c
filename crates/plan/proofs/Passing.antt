-- A refusal that is passed on. Assumes nothing.
use Rattle.std.specs.Prelude.{◌≡◌, ◌≤◌, ℕ, Option, Some, None, Result, Ok, Err, ok_or, IsErrAnd, List, length, get_or}
use Rattle.std.specs.Slice.{IsItemAt}
use Rattle.std.proofs.lemmas.List.{get_or_default}
use Rattle.std.proofs.Common.{Bor}
use mathlib.Core.Path.{◌∙◌, refl, ap}
use Rattle.std.proofs.lemmas.Result.{err_from_is_err_and}
use Rattle.plan.specs.declared.reasons.Refusal.{Refusal}
use Rattle.plan.specs.declared.Plan.{Plan}
use Rattle.plan.specs.declared.PlanError.{PlanError}
use Rattle.plan.specs.Build.{giving_back, refused_at, built, step_of, add_step}
use Rattle.plan.specs.declared.Edge.{Edge}
use Rattle.plan.specs.declared.reasons.Refusal.TheVariants.{CutShort, TagOutOfPlace, WrongLength, BadLevel, BadState, BadEdge, RepeatedEdge, BadLabel, BadCount, PlanFull, OutOfTurn, LabelsOverlap, LabelTooLate, WorkspaceTooShort, ListTooShort, NoSegmentation, BadAnswer, LabelsInWindow, BadWindow, TooManyChanges}
use Rattle.plan.specs.Refusals.{refusal_number, number_of}
use native.Mathlib.Omega.{arith}

-- by `?`, as it came
pub passed : {A B : Type 0} (r : Result A Refusal) (q : Result B Refusal) (x : Refusal) → q ≡ Err x → IsErrAnd r (λ (y : Refusal). y ≡ x) → number_of r ≡ number_of q
passed r q x e h = let p = err_from_is_err_and r h in rw (p.1, p.2, e)

pub passed_as : {A : Type 0} (r : Result A Refusal) (x : Refusal) → IsErrAnd r (λ (y : Refusal). y ≡ x) → r ≡ Err x
passed_as r x h = let p = err_from_is_err_and r h in rw (p.1, p.2)

-- what an absent value is refused with
pub missing : {A : Type 0} (o : Option A) (e x : Refusal) → Err x ≡ ok_or o e → o ≡ None → x ≡ e
missing o e x h q = let k = rw q at h in cc

-- what `get` gives of a list: an element, or there is none
module _ {X : Type 0} (xs : List X) (i : ℕ) (o : Option (Bor X)) (h : IsItemAt xs i o) where
  pub got_none : o ≡ None → length xs ≤ i
  got_none q = (rw q at h).3

  pub got_some : (x : Bor X) (d : X) → o ≡ Some x → x.now ≡ get_or xs i d
  got_some x d q = let k = rw q at h in k.1 ∙ get_or_default xs i x.now d k.3.0

-- no refusal has the number 0
pub number_some : (r : Refusal) → refusal_number r ≡ 0 → ⊥
number_some CutShort h = omega (arith, h)
number_some TagOutOfPlace h = omega (arith, h)
number_some WrongLength h = omega (arith, h)
number_some BadLevel h = omega (arith, h)
number_some BadState h = omega (arith, h)
number_some BadEdge h = omega (arith, h)
number_some RepeatedEdge h = omega (arith, h)
number_some BadLabel h = omega (arith, h)
number_some BadCount h = omega (arith, h)
number_some PlanFull h = omega (arith, h)
number_some OutOfTurn h = omega (arith, h)
number_some LabelsOverlap h = omega (arith, h)
number_some LabelTooLate h = omega (arith, h)
number_some WorkspaceTooShort h = omega (arith, h)
number_some ListTooShort h = omega (arith, h)
number_some NoSegmentation h = omega (arith, h)
number_some BadAnswer h = omega (arith, h)
number_some LabelsInWindow h = omega (arith, h)
number_some BadWindow h = omega (arith, h)
number_some TooManyChanges h = omega (arith, h)

pub refused_some : {A : Type 0} (r : Result A Refusal) (x : Refusal) → r ≡ Err x → number_of r ≡ 0 → ⊥
refused_some r x e h = number_some x (rw e at h)

-- what was checked before a plan is given back: a refusal, or a value
module _ {A : Type 0} (p : Plan) (r : Result A Refusal) (g : Result A PlanError) (h : g ≡ giving_back p r) where
  -- the plan is given back with its number, which is not 0
  pub record Gives (b : Result Plan PlanError) : Type 0 where
    pub is : built b ≡ refused_at p (number_of r)
    pub some : number_of r ≡ 0 → ⊥

  pub gives_back : (b : Result Plan PlanError) (e : PlanError) → g ≡ Err e → IsErrAnd b (λ (y : PlanError). y ≡ e) → Gives b
  gives_back b e q k = go r refl
    where
      go : (x : Result A Refusal) → x ≡ r → Gives b
      go (Ok x) w = let z : g ≡ Ok x = rw (← w) at h in let y : ◌≡◌ {A = ℕ} 0 1 = cc in absurd (omega arith)
      go (Err x) w =
          let z : g ≡ Err (record { refusal = x; plan = p }) = rw (← w) at h in
          let s : e ≡ record { refusal = x; plan = p } = cc in
          let t = err_from_is_err_and b k in
          record { is = rw (t.1, t.2, s) (ap (refused_at p) (ap number_of w)); some = λ (q : number_of r ≡ 0). number_some x (ap number_of w ∙ q) }

  pub lets_through : (x : A) → g ≡ Ok x → r ≡ Ok x
  lets_through x q = go r refl
    where
      go : (y : Result A Refusal) → y ≡ r → r ≡ Ok x
      go (Ok y) w = let z : g ≡ Ok y = rw (← w) at h in cc
      go (Err y) w = let z : g ≡ Err (record { refusal = y; plan = p }) = rw (← w) at h in let v : ◌≡◌ {A = ℕ} 0 1 = cc in absurd (omega arith)

-- an edge that is not added
pub step_refused : (p : Plan) (r : Result Edge Refusal) → (number_of r ≡ 0 → ⊥) → refused_at p (number_of r) ≡ add_step p (step_of r)
step_refused p (Ok e) h = absurd (h refl)
step_refused p (Err x) h = refl

-- An edge that leads to a list is taken in; one that does not leaves the least so far. Assumes nothing.
use mathlib.Core.Path.{◌≡◌, refl, sym, ◌∙◌, ap, subst}
use mathlib.Core.List.{List}
use mathlib.Core.Option.{Option}
use mathlib.Core.Logic.{inl}
use mathlib.Core.Bool.{true, false}
use Prim.Native.Nat.{ℕ, min}
use native.Mathlib.Omega.{arith}
use Rattle.plan.specs.declared.Edge.{Edge}
use Rattle.plan.specs.declared.Label.{Label}
use Rattle.model.specs.Model.{penalty, change_of}
use Rattle.model.specs.Labels.{count_before}
use Rattle.model.specs.Index.{edge_min}
use Rattle.model.proofs.Held.{penalty_most_lem, change_low}
use Rattle.labels.specs.Boundary.{leads_from}
use Rattle.curve.specs.Curve.{Curve, curve_as, curve_most}
use Rattle.edges.specs.Edge.{Taken, spared_refl}
use Rattle.layer.specs.declared.Shape.{Shape}
use Rattle.layer.specs.Layer.{list_at}
use Rattle.layer.specs.Step.{source, offered, TookOne}

module _ (o : Option Label) (t : ℕ) (x : Edge) (k s cur : ℕ) (g : Shape) where
  pub took_not : (ws : List ℕ) (acc next work : ℕ) → leads_from o t x k s ≡ false → TookOne o t x k s cur g ws ws acc next work acc
  unfolding offered
  took_not ws acc next work e = record {
    place = inl refl;
    spared = spared_refl _ _ _ _ ws;
    curve = λ A B C D F H l d h c f. curve_as (λ (j : ℕ). min (F j) (offered o t x k s g.grid.levels H j)) (λ j i. rw e (omega (arith, curve_most l c j i))) c;
  }

  pub took_so : {ws ws' : List ℕ} {acc next work r : ℕ} → leads_from o t x k s ≡ true → (f pen : ℕ) → f ≡ source o t x k cur g → pen ≡ penalty x.class
      → Taken (edge_min g.grid.levels x.kind) pen (change_of x.kind) g.grid.base g.grid.levels ws ws' f acc next work r → TookOne o t x k s cur g ws ws' acc next work r
  unfolding offered
  took_so {ws} e f pen ef ep m = record {
    place = m.place;
    spared = m.spared;
    curve = λ A B C D F H l n h c d.
        curve_as (λ (j : ℕ). min (F j) (offered o t x k s g.grid.levels H j)) (λ j i. rw (e, ep) refl)
        (m.curve A B C D F (H (count_before o t x.kind k) x.from) l (omega (arith, change_low x.kind)) (omega (arith, ep, penalty_most_lem x.class)) c
        (subst (λ (p : ℕ). Curve D C g.grid.base g.grid.levels ws p (H (count_before o t x.kind k) x.from)) (sym ef) (d e)));
  }

-- the code's places are the definition's
pub source_is : (o : Option Label) (t : ℕ) (x : Edge) (k cur : ℕ) (g : Shape) (c f : ℕ) → c ≡ count_before o t x.kind k → f ≡ list_at cur g.states g.grid.levels c x.from → f ≡ source o t x k cur g
source_is o t x k cur g c f ec ef = ef ∙ ap (λ (n : ℕ). list_at cur g.states g.grid.levels n x.from) ec

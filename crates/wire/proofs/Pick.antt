-- A choice at a place where its test is known, and what holds of both ways of a choice.
use Prim.Native.Nat.{ℕ}
use mathlib.Core.Bool.{Bool, true, false}
use mathlib.Core.Path.{◌≡◌, refl, sym, ◌∙◌}
use lib.Dec.{eqb}
use borrow.Author.Tests.{eq-eqb, ne_eqb}
use Rattle.wire.specs.Pick.{pick}

pub pick_true {ℓ} : {A : Type ℓ} (b : Bool) (x y : A) → b ≡ true → pick b x y ≡ x
unfolding pick
pick_true b x y e = rw e

pub pick_false {ℓ} : {A : Type ℓ} (b : Bool) (x y : A) → b ≡ false → pick b x y ≡ y
unfolding pick
pick_false b x y e = rw e

-- a choice whose test is known
pub ruleset picks = (pick_true, pick_false)

pub by_pick {ℓ} : {A : Type ℓ} (P : A → Type 0) (b : Bool) (x y : A) → (b ≡ true → P x) → (b ≡ false → P y) → P (pick b x y)
unfolding pick
by_pick P true x y f g = f refl
by_pick P false x y f g = g refl

-- what is done with what is chosen
pub into : {A B : Type 0} (f : A → B) (b : Bool) (x y : A) {u v : B} → f x ≡ u → f y ≡ v → f (pick b x y) ≡ pick b u v
unfolding pick
into f true x y p q = p
into f false x y p q = q

-- ---- what a definition answers, its test being known

pub first : {A : Type 0} {r : A} (b : Bool) (x y : A) → b ≡ true → r ≡ x → r ≡ pick b x y
first b x y e p = p ∙ sym (pick_true b x y e)

pub second : {A : Type 0} {r : A} (b : Bool) (x y : A) → b ≡ false → r ≡ y → r ≡ pick b x y
second b x y e p = p ∙ sym (pick_false b x y e)

-- a test that a call answered
pub told_so : {a b t : Bool} → a ≡ b → a ≡ t → b ≡ t
told_so p e = sym p ∙ e

-- a number that a call answered, or that is at hand
pub equal : {a : ℕ} (b k : ℕ) → a ≡ b → a ≡ k → eqb b k ≡ true
equal b k p e = eq-eqb b k (sym p ∙ e)

pub other : {a : ℕ} (b k : ℕ) → a ≡ b → (a ≡ k → ⊥) → eqb b k ≡ false
other b k p e = ne_eqb b k (λ h. e (p ∙ h))

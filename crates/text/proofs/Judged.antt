-- A text's number is 0 exactly for a text of the form that is asked for: the feed of the whole text is complete or refused, by demand 3.
use Prim.Native.Nat.{ℕ, suc, ◌*◌, ◌≤◌, ◌<◌}
use mathlib.Core.Path.{◌≡◌, refl}
use mathlib.Core.Bool.{Bool, true, false, cond}
use mathlib.Core.List.{List, [], ◌∷◌}
use mathlib.Core.Logic.{◌↔◌}
use native.Mathlib.Omega.{arith}
use borrow.Author.Tests.{eq-eqb, le-leb, lt-leb, eqb-true, eqb-false}
use lib.Dec.{eqb}
use mir.Syntax.{w8}
use mir.Val.{Fits}
use lib.ListN.{length, get_or}
use Rattle.wire.specs.Number.{AtMost}
use Rattle.item.specs.Item.{Formed, Good}
use Rattle.item.specs.declared.Form.{Form}
use Rattle.item.specs.declared.Form.TheVariants.{Good as good}
use Rattle.reader.specs.Answer.{Answer}
use Rattle.demand3.specs.Verdict.{Whole, is_formed, not_formed}
use Rattle.demand3.proofs.Whole.{whole_text}
use Rattle.rows.specs.Asked.{Sound}
use Rattle.rows.proofs.Walk.{good_sound}
use Rattle.rows.specs.Row.{size_of}
use Rattle.rows.specs.Rows.{rows_in}
use Rattle.text.specs.Text.{number_in, judged_as, judged_of, measured_of, read_of}
use Rattle.refusal.specs.Answer.{Is, Refused}
use Rattle.text.specs.Measured as M

-- 0 exactly for the texts of the form
pub judged_as_formed : (f : Form) (t : List ℕ) → AtMost 0xFF t → (judged_as f t ≡ 0) ↔ Formed f t
unfolding judged_as
judged_as_formed f t b = go _ (whole_text f t b)
  where
    go : (a : Answer) → Whole f t a → (number_in a ≡ 0) ↔ Formed f t
    go a (is_formed g) = ((λ _. g), λ _. refl)
    go a (not_formed e some few n) = ((λ z. absurd (omega arith)), λ g. absurd (n g))

pub judged_good : (t : List ℕ) → AtMost 0xFF t → (judged_of t ≡ 0) ↔ Good t
judged_good t b = judged_as_formed good t b

pub judged_range : (t : List ℕ) → AtMost 0xFF t → judged_of t ≤ 6
unfolding judged_as
judged_range t b = go _ (whole_text good t b)
  where
    go : (a : Answer) → Whole good t a → number_in a ≤ 6
    go a (is_formed g) = omega arith
    go a (not_formed e some few n) = few

-- a slice of bytes holds bytes
pub all_bytes : (t : List ℕ) → ((i : ℕ) → Fits w8 (get_or t i 0)) → AtMost 0xFF t
all_bytes [] h = tt
all_bytes (b ∷ t) h = (omega (arith, (h 0).fits), all_bytes t (λ i. h (suc i)))

pub judged_sound : (t : List ℕ) → AtMost 0xFF t → judged_of t ≡ 0 → Sound t
judged_sound t b z = let (w, s) = (judged_good t b).0 z in good_sound t w s

-- what a measure tells
pub record Known (t : List ℕ) (rows bytes : ℕ) : Type 0 where
  pub good : judged_of t ≡ 0
  pub rows_are : rows ≡ length (rows_in t)
  pub bytes_are : bytes ≡ size_of (rows_in t)

pub measured_are : (t : List ℕ) (rows bytes : ℕ) → measured_of t ≡ M.Are rows bytes → Known t rows bytes
unfolding measured_of
measured_are t rows bytes e = go (eqb (judged_of t) 0) refl e
  where
    go : (b : Bool) → eqb (judged_of t) 0 ≡ b
        → cond b (M.Are (length (rows_in t)) (size_of (rows_in t))) (M.Refused (judged_of t)) ≡ M.Are rows bytes → Known t rows bytes
    go true z q = record { good = eqb-true (judged_of t) 0 z; rows_are = cc; bytes_are = cc }
    go false z q = let y : ◌≡◌ {A = ℕ} 0 1 = cc in absurd (omega arith)

pub measured_refused : (t : List ℕ) (k : ℕ) → measured_of t ≡ M.Refused k → (judged_of t ≡ k) × (judged_of t ≡ 0 → ⊥)
unfolding measured_of
measured_refused t k e = go (eqb (judged_of t) 0) refl e
  where
    go : (b : Bool) → eqb (judged_of t) 0 ≡ b
        → cond b (M.Are (length (rows_in t)) (size_of (rows_in t))) (M.Refused (judged_of t)) ≡ M.Refused k → (judged_of t ≡ k) × (judged_of t ≡ 0 → ⊥)
    go true z q = let y : ◌≡◌ {A = ℕ} 0 1 = cc in absurd (omega arith)
    go false z q = (cc, eqb-false (judged_of t) 0 z)

-- and what a read then answers
module _ (t : List ℕ) (rows bytes room : ℕ) (k : Known t rows bytes) where
  pub too_small : room < 3 * rows → Refused 19 ≡ read_of t room
  unfolding read_of
  too_small h = rw (eq-eqb (judged_of t) 0 k.good, lt-leb (3 * length (rows_in t)) room (omega (arith, k.rows_are)))

  pub is_read : 3 * rows ≤ room → Is rows ≡ read_of t room
  unfolding read_of
  is_read h = rw (eq-eqb (judged_of t) 0 k.good, le-leb (3 * length (rows_in t)) room (omega (arith, k.rows_are)), ← k.rows_are)

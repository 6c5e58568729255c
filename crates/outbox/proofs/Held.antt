-- What it tells that an outbox holds whole frames: the used bytes lie within it, and the first message within them;
-- and what it tells that there is a next message.
use Prim.Native.Nat.{ℕ, ◌+◌, ◌≤◌, ◌<◌}
use mathlib.Core.Path.{◌≡◌, refl, sym, ap, subst}
use mathlib.Core.Bool.{Bool, true, false, cond}
use mathlib.Core.List.{List}
use native.Mathlib.Omega.{arith}
use borrow.Author.Tests.{leb-true, eqb-false}
use lib.Dec.{T, eqb, leb}
use lib.ListN.{length, take, length-take}
use Rattle.frame.specs.Frame.{length_in}
use Rattle.outbox.specs.Outbox.{whole_from, holds, next_number, size_of}
use Rattle.outbox.proofs.Fronts.{whole_front}

pub held : (s : List ℕ) (used : ℕ) → holds s used ≡ true → (used ≤ length s) × (whole_from 0 (take used s) ≡ true)
unfolding holds
held s used e = go (leb used (length s)) refl e
  where
    go : (b : Bool) → leb used (length s) ≡ b → cond b (whole_from 0 (take used s)) false ≡ true → (used ≤ length s) × (whole_from 0 (take used s) ≡ true)
    go true h w = (leb-true used (length s) h, w)
    go false h w = absurd (subst T (sym w) tt)

-- the first message of the used bytes, by the size that is read there
pub record First (s : List ℕ) (used size : ℕ) : Type 0 where
  pub is : size ≡ size_of s used
  pub within : size ≤ used
  pub there : used ≤ length s

pub first_is : (s : List ℕ) (used n : ℕ) → holds s used ≡ true → 0 < used → n ≡ length_in (take used s) → First s used (4 + n)
first_is s used n e h i =
    let w = held s used e in
    let l = length-take used s in
    let f = whole_front (take used s) w.1 (omega (arith, l, w.0)) in
    record { is = ap (λ (k : ℕ). 4 + k) i; within = omega (arith, i, l, f.within); there = w.0 }

-- both outboxes hold whole frames, and data some where control has none
pub record Next (c : List ℕ) (m : ℕ) (d : List ℕ) (n : ℕ) : Type 0 where
  pub control : holds c m ≡ true
  pub «data» : holds d n ≡ true
  pub some : m ≡ 0 → 0 < n

pub next_is : (c : List ℕ) (m : ℕ) (d : List ℕ) (n : ℕ) → next_number c m d n ≡ 0 → Next c m d n
unfolding next_number
next_is c m d n e = go (holds c m) (holds d n) (eqb m 0) (eqb n 0) refl refl refl refl e
  where
    go : (a b x y : Bool) → holds c m ≡ a → holds d n ≡ b → eqb m 0 ≡ x → eqb n 0 ≡ y
        → ◌≡◌ {A = ℕ} (cond a (cond b (cond x (cond y 41 0) 0) 42) 42) 0
        → Next c m d n
    go false b x y p q r t e = absurd (omega arith)
    go true false x y p q r t e = absurd (omega arith)
    go true true true true p q r t e = absurd (omega arith)
    go true true true false p q r t e = record { control = p; «data» = q; some = λ z. omega (arith, eqb-false n 0 t) }
    go true true false y p q r t e = record { control = p; «data» = q; some = λ z. absurd (eqb-false m 0 r z) }

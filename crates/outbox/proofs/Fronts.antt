-- What a frame's number 0 tells of its length, and what whole frames tell of the frame at their front: it lies within them,
-- and what follows it is whole frames again.
use Prim.Native.Nat.{ℕ, zero, suc, ◌+◌, ◌≤◌, ◌<◌}
use mathlib.Core.Path.{◌≡◌, refl, sym, ap, subst, ◌∙◌}
use mathlib.Core.Bool.{Bool, true, false, cond}
use mathlib.Core.List.{List, [], ◌∷◌}
use native.Mathlib.Omega.{arith}
use borrow.Author.Tests.{eqb-true, eqb-false, eq-eqb, ne_eqb}
use lib.Dec.{T, eqb, ltb}
use lib.ListN.{length, drop, get_or, length-take}
use lib.Seq.{take-take}
use Rattle.wire.specs.Number.{number_of}
use Rattle.frame.proofs.Laws.{length_range}
use Rattle.frame.specs.Frame.{length_in, length_number, kind_number}
use Rattle.outbox.specs.Outbox.{frame_number, front, front_size, whole_from}

-- a frame that append takes
pub frame_fits : (f : List ℕ) → frame_number f ≡ 0 → (10 ≤ length_in f) × (length f ≡ 4 + length_in f)
unfolding frame_number
frame_fits f e = go (ltb (length f) 4) (eqb (length_number n) 0) (eqb (length f) (4 + n)) refl refl e
  where
    n : ℕ
    n = length_in f

    go : (a b c : Bool) → eqb (length_number n) 0 ≡ b → eqb (length f) (4 + n) ≡ c
        → cond a 13 (cond b (cond c (kind_number (get_or f 9 0) n) 13) (length_number n)) ≡ 0
        → (10 ≤ n) × (length f ≡ 4 + n)
    go true b c p q e = absurd (omega arith)
    go false false c p q e = absurd (eqb-false (length_number n) 0 p e)
    go false true false p q e = absurd (omega arith)
    go false true true p q e = ((length_range n (eqb-true (length_number n) 0 p)).0, eqb-true (length f) (4 + n) q)

-- bytes still to pass are passed over
pass : (k : ℕ) (s : List ℕ) → k ≤ length s → whole_from k s ≡ whole_from 0 (drop k s)
unfolding whole_from
pass zero s h = refl
pass (suc k) [] h = absurd (omega arith)
pass (suc k) (b ∷ s) h = pass k s (omega arith)

on_from : (s : List ℕ) → frame_number (front s) ≡ 0 → 4 + length_in s ≤ length s → whole_from 0 s ≡ whole_from 0 (drop (4 + length_in s) s)
unfolding whole_from
on_from [] e h = absurd (omega arith)
on_from (b ∷ s) e h =
    let n = length_in (b ∷ s) in
    let z : suc (3 + n) ≡ 4 + n = omega arith in
    rw (eq-eqb _ _ e) (pass (3 + n) s (omega arith) ∙ ap (λ (k : ℕ). whole_from 0 (drop k (b ∷ s))) z)

-- the frame at the front, where append takes it
pub record Front (s : List ℕ) : Type 0 where
  pub within : 4 + length_in s ≤ length s
  pub size : front_size s ≡ 4 + length_in s
  pub on : whole_from 0 s ≡ whole_from 0 (drop (4 + length_in s) s)

pub front_is : (s : List ℕ) → frame_number (front s) ≡ 0 → Front s
unfolding front_size
front_is s e =
    let n = length_in s in
    let same : length_in (front s) ≡ n = ap number_of (take-take 4 (4 + n) s (omega arith)) in
    let h : 4 + n ≤ length s = omega (arith, (frame_fits (front s) e).1, same, length-take (4 + n) s) in
    record { within = h; size = rw (eq-eqb _ _ e); on = on_from s e h }

-- no such frame is longer than the bytes
pub no_front : (s : List ℕ) → length s < 4 + length_in s → front_size s ≡ 0
unfolding front_size
no_front s h = rw (ne_eqb (frame_number (front s)) 0 (λ z. omega (arith, (front_is s z).within)))

-- there is such a frame where the size is not 0
pub sized : (s : List ℕ) → (front_size s ≡ 0 → ⊥) → Front s
unfolding front_size
sized s h = go (eqb (frame_number (front s)) 0) refl h
  where
    go : (b : Bool) → eqb (frame_number (front s)) 0 ≡ b → (cond b (4 + length_in s) 0 ≡ 0 → ⊥) → Front s
    go true e h = front_is s (eqb-true (frame_number (front s)) 0 e)
    go false e h = absurd (h refl)

-- or bytes are whole frames, and some
pub whole_front : (s : List ℕ) → whole_from 0 s ≡ true → 0 < length s → Front s
unfolding whole_from
whole_front [] w h = absurd (omega arith)
whole_front (b ∷ s) w h = go (eqb (frame_number (front (b ∷ s))) 0) refl w
  where
    go : (t : Bool) → eqb (frame_number (front (b ∷ s))) 0 ≡ t → cond t (whole_from (3 + length_in (b ∷ s)) s) false ≡ true → Front (b ∷ s)
    go true e w = front_is (b ∷ s) (eqb-true (frame_number (front (b ∷ s))) 0 e)
    go false e w = absurd (subst T (sym w) tt)

-- bytes with no such frame at their front are not whole frames
pub not_whole : (s : List ℕ) → front_size s ≡ 0 → 0 < length s → whole_from 0 s ≡ false
unfolding whole_from
not_whole [] e h = absurd (omega arith)
not_whole (b ∷ s) e h = rw (ne_eqb (frame_number (front (b ∷ s))) 0 (λ z. omega (arith, (front_is (b ∷ s) z).size, e)))

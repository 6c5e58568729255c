-- Where the bytes of a head lead: with four of them the length is judged, with fourteen the header, and otherwise the head goes on.
use Prim.Native.Nat.{ℕ, ◌-◌, ◌≤◌}
use mathlib.Core.Path.{◌≡◌, sym, ap, ◌∙◌}
use mathlib.Core.List.{List, ◌++◌}
use borrow.Author.Tests.{ne_eqb}
use lib.ListN.{length, drop, get_or}
use lib.Seq.{take-append-le}
use Rattle.wire.specs.Number.{number_of}
use Rattle.frame.specs.Frame.{length_in, length_number, kind_number}
use Rattle.frame.specs.Header.{header_of}
use Rattle.frames.specs.State.{State, head, text, refused}
use Rattle.frames.specs.Feed.{head_number, after, event_at, fed, pushed}
use Rattle.frames.specs.Event.{More, Header, Refusal}

-- only the first four bytes say the length
pub length_front : (bs more : List ℕ) → 4 ≤ length bs → length_in (bs ++ more) ≡ length_in bs
length_front bs more h = ap number_of (take-append-le 4 bs more h)

-- ---- the number

pub number_four : (t : List ℕ) → length t ≡ 4 → head_number t ≡ length_number (length_in t)
unfolding head_number
number_four t n = rw n

pub number_whole : (t : List ℕ) → length t ≡ 14 → head_number t ≡ kind_number (get_or t 9 0) (length_in t)
unfolding head_number
number_whole t n = rw n

pub number_other : (t : List ℕ) → (length t ≡ 4 → ⊥) → (length t ≡ 14 → ⊥) → head_number t ≡ 0
unfolding head_number
number_other t n m = rw (ne_eqb _ _ n, ne_eqb _ _ m)

-- ---- the state

pub after_refused : (t : List ℕ) → (head_number t ≡ 0 → ⊥) → after t ≡ refused (head_number t)
unfolding after
after_refused t h = rw (ne_eqb _ _ h)

pub after_whole : (t : List ℕ) → head_number t ≡ 0 → length t ≡ 14 → after t ≡ text (length_in t - 10)
unfolding after
after_whole t h n = rw (h, n)

pub after_more : (t : List ℕ) → head_number t ≡ 0 → (length t ≡ 14 → ⊥) → after t ≡ head t
unfolding after
after_more t h n = rw (h, ne_eqb _ _ n)

-- ---- what a byte more reaches

pushed_at : (t : List ℕ) (s : State) → after t ≡ s → fed (event_at s t) 1 s ≡ pushed t
pushed_at t s e = rw e

pub pushed_refused : (t : List ℕ) (e : ℕ) → e ≡ head_number t → (e ≡ 0 → ⊥) → fed (Refusal e) 1 (refused e) ≡ pushed t
pushed_refused t e p h = pushed_at t (refused e) (after_refused t (λ z. h (p ∙ z)) ∙ ap refused (sym p))

pub pushed_whole : (t : List ℕ) → head_number t ≡ 0 → length t ≡ 14
    → fed (Header (header_of (drop 4 t)) (length_in t - 10)) 1 (text (length_in t - 10)) ≡ pushed t
pushed_whole t h n = pushed_at t (text (length_in t - 10)) (after_whole t h n)

pub pushed_more : (t : List ℕ) → head_number t ≡ 0 → (length t ≡ 14 → ⊥) → fed More 1 (head t) ≡ pushed t
pushed_more t h n = pushed_at t (head t) (after_more t h n)

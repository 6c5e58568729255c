-- Messages to send wait in outboxes: frames lie end to end from place 0, as far as the used count goes.
use Rattle.std.specs.Prelude.{ℕ, zero, suc, ◌+◌, ◌-◌, Bool, false, cond, Option, None, Some}
use Rattle.std.specs.Prelude.{List, [], ◌∷◌, ◌++◌, eqb, leb, ltb, length, take, drop, get_or, replicate}
use Rattle.refusal.specs.Answer.{Counted, Is, Refused}
use Rattle.frame.specs.Frame.{length_in, length_number, kind_number}
use Rattle.outbox.specs.Dropped as D
use Rattle.outbox.specs.Dropped.{Dropped}

-- a frame that append takes, 0: else 13 (under four bytes), 10, 11, 13 (bytes over or missing), 12
unfoldable pub frame_number : List ℕ → ℕ
frame_number f =
    cond (ltb (length f) 4) 13
    (cond (eqb (length_number (length_in f)) 0)
    (cond (eqb (length f) (4 + length_in f)) (kind_number (get_or f 9 0) (length_in f)) 13)
    (length_number (length_in f)))

-- the first frame of bytes that are whole frames
abbrev pub front : List ℕ → List ℕ
front s = take (4 + length_in s) s

-- what a private function answers: its size, 0 where append would not take it
unfoldable pub front_size : List ℕ → ℕ
front_size s = cond (eqb (frame_number (front s)) 0) (4 + length_in s) 0

-- a size, none where it is 0
abbrev pub size_there : ℕ → Option ℕ
size_there k = cond (eqb k 0) None (Some k)

-- whole frames that append takes, end to end; so many bytes still belong to the last one
unfoldable pub whole_from : ℕ → List ℕ → Bool
whole_from k [] = eqb k 0
whole_from zero (b ∷ s) = cond (eqb (frame_number (front (b ∷ s))) 0) (whole_from (3 + length_in (b ∷ s)) s) false
whole_from (suc k) (b ∷ s) = whole_from k s

-- the used bytes of an outbox are whole frames that append takes
unfoldable pub holds : List ℕ → ℕ → Bool
holds s used = cond (leb used (length s)) (whole_from 0 (take used s)) false

-- ---- append: 42, 13, 10, 11, 13, 12, 40

unfoldable pub append_of : List ℕ → ℕ → List ℕ → Counted
append_of s used f =
    cond (holds s used)
    (cond (eqb (frame_number f) 0)
    (cond (leb (length f) (length s - used)) (Is (used + length f)) (Refused 40))
    (Refused (frame_number f)))
    (Refused 42)

-- the frame is copied behind the used bytes
abbrev pub append_after : Counted → List ℕ → ℕ → List ℕ → List ℕ
append_after (Is n) s used f = take used s ++ (f ++ drop n s)
append_after (Refused k) s used f = s

-- ---- next: 42 (of either), 41 (both empty)

unfoldable pub next_number : List ℕ → ℕ → List ℕ → ℕ → ℕ
next_number c m d n =
    cond (holds c m)
    (cond (holds d n)
    (cond (eqb m 0) (cond (eqb n 0) 41 0) 0)
    42)
    42

-- the next message comes from control unless it is empty; a refused part is empty
unfoldable pub next_of : List ℕ → ℕ → List ℕ → ℕ → List ℕ
next_of c m d n =
    cond (eqb (next_number c m d n) 0)
    (cond (eqb m 0) (front (take n d)) (front (take m c)))
    []

-- ---- drop: that message is dropped, the rest moves down to place 0, the freed bytes are 00

abbrev pub size_of : List ℕ → ℕ → ℕ
size_of s used = 4 + length_in (take used s)

-- the first size of the used bytes go
unfoldable pub moved : List ℕ → ℕ → ℕ → List ℕ
moved s size used = drop size (take used s) ++ (replicate size 0 ++ drop used s)

-- the used count of the outbox that it was dropped from
unfoldable pub drop_of : List ℕ → ℕ → List ℕ → ℕ → Dropped
drop_of c m d n =
    cond (eqb (next_number c m d n) 0)
    (cond (eqb m 0) (D.Data (n - size_of d n)) (D.Control (m - size_of c m)))
    (D.Refused (next_number c m d n))

abbrev pub control_after : Dropped → List ℕ → ℕ → List ℕ
control_after (D.Control k) c m = moved c (size_of c m) m
control_after (D.Data k) c m = c
control_after (D.Refused e) c m = c

abbrev pub data_after : Dropped → List ℕ → ℕ → List ℕ
data_after (D.Control k) d n = d
data_after (D.Data k) d n = moved d (size_of d n) n
data_after (D.Refused e) d n = d

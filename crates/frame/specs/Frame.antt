-- A frame: four length bytes, a 10-byte header and text; the length counts the latter two.
use Rattle.std.specs.Prelude.{ℕ, ◌+◌, cond, List, ◌++◌, eqb, leb, ltb, length, take}
use Rattle.wire.specs.Longest.{longest}
use Rattle.wire.specs.Number.{number_of, bytes_of}
use Rattle.refusal.specs.Answer.{Counted, Is, Refused}
use Rattle.frame.specs.Header.{header_bytes}
use Rattle.frame.specs.declared.Header.{Header}

-- the length that a frame's first four bytes say
abbrev pub length_in : List ℕ → ℕ
length_in bs = number_of (take 4 bs)

-- a length below 10 is 10, above 32,010 is 11
unfoldable pub length_number : ℕ → ℕ
length_number n = cond (ltb n 10) 10 (cond (ltb (10 + longest) n) 11 0)

-- SType not 0 with a length other than 10 is 12
unfoldable pub kind_number : ℕ → ℕ → ℕ
kind_number stype n = cond (eqb stype 0) 0 (cond (eqb n 10) 0 12)

-- the frame of a header and a text
unfoldable pub frame_of : Header → List ℕ → List ℕ
frame_of h text = bytes_of 4 (10 + length text) ++ (header_bytes h ++ text)

-- 11, 12, then 17: an output too short
unfoldable pub written_of : Header → ℕ → ℕ → Counted
written_of h text room =
    cond (leb text longest)
    (cond (eqb (kind_number h.stype (10 + text)) 0)
    (cond (leb (14 + text) room) (Is (14 + text)) (Refused 17))
    (Refused 12))
    (Refused 11)

-- A feed: which states the list allows, and what a piece reaches.
use Rattle.std.specs.Prelude.{ℕ, ◌+◌, ◌-◌, min, Bool, true, false, cond, List, [], ◌∷◌, ◌++◌, eqb, leb, ltb, length, drop, get_or}
use Rattle.wire.specs.Longest.{longest}
use Rattle.frame.specs.Header.{header_of}
use Rattle.frame.specs.Frame.{length_in, length_number, kind_number}
use Rattle.frames.specs.State.{State, head, text, refused, reader_of, state_of}
use Rattle.frames.specs.declared.Phase.{Phase}
use Rattle.frames.specs.declared.Phase.TheVariants as P
use Rattle.frames.specs.declared.FrameReader.{FrameReader}
use Rattle.frames.specs.Event.{Event, More, Header, Text, End, Refusal, Fed}

-- ---- the list behind 14

-- every byte is 00
abbrev pub all_zero : List ℕ → Bool
all_zero [] = true
all_zero (b ∷ bs) = cond (eqb b 0) (all_zero bs) false

-- fewer than 14 bytes are held, 00 behind them; four or more say a length of a frame
abbrev pub allows_head : FrameReader → Bool
allows_head r =
    cond (ltb r.count 14)
    (cond (all_zero (drop r.count r.held))
    (cond (eqb r.left 0)
    (cond (ltb r.count 4) true (eqb (length_number (length_in r.held)) 0)) false) false) false

-- no byte is held
abbrev pub allows_bare : FrameReader → Bool
allows_bare r = cond (eqb r.count 0) (all_zero r.held) false

-- nothing is to come, and the number is one of a frame's
abbrev pub refusal_allowed : ℕ → ℕ → Bool
refusal_allowed n e = cond (eqb n 0) (cond (leb 10 e) (leb e 12) false) false

abbrev pub allows_at : Phase → FrameReader → Bool
allows_at P.Head r = allows_head r
allows_at P.Text r = cond (allows_bare r) (leb r.left longest) false
allows_at (P.Refused e) r = cond (allows_bare r) (refusal_allowed r.left e) false

-- a state that does not break the list
unfoldable pub allows : FrameReader → Bool
allows r = allows_at r.phase r

-- ---- the head of a frame, byte by byte

-- 10 and 11 after the fourth byte, 12 after the header
unfoldable pub head_number : List ℕ → ℕ
head_number bs =
    cond (eqb (length bs) 4) (length_number (length_in bs))
    (cond (eqb (length bs) 14) (kind_number (get_or bs 9 0) (length_in bs)) 0)

-- the state that these bytes of a head lead to
unfoldable pub after : List ℕ → State
after bs =
    cond (eqb (head_number bs) 0)
    (cond (eqb (length bs) 14) (text (length_in bs - 10)) (head bs))
    (refused (head_number bs))

abbrev pub fed : Event → ℕ → State → Fed
fed e k s = record { event = e; consumed = k; reader = reader_of s }

-- what is reached with the head's bytes t: a whole header is handed out, with its text's length
abbrev pub event_at : State → List ℕ → Event
event_at (head bs) t = More
event_at (text n) t = Header (header_of (drop 4 t)) n
event_at (refused e) t = Refusal e

-- what private functions answer: a refused reader, and one byte more of a head
abbrev pub refused_after : ℕ → ℕ → Fed
refused_after e k = fed (Refusal e) k (refused e)

abbrev pub pushed : List ℕ → Fed
pushed t = fed (event_at (after t) t) 1 (after t)

abbrev pub reached : State → List ℕ → ℕ → Fed → Fed
reached (head bs) t k next = next
reached (text n) t k next = fed (event_at (text n) t) k (text n)
reached (refused e) t k next = fed (event_at (refused e) t) k (refused e)

unfoldable pub eat : List ℕ → ℕ → List ℕ → Fed
eat bs k [] = fed More k (head bs)
eat bs k (b ∷ p) = reached (after (bs ++ (b ∷ []))) (bs ++ (b ∷ [])) (k + 1) (eat (bs ++ (b ∷ [])) (k + 1) p)

-- ---- a feed

-- of a piece of m bytes text bytes are handed out, at most the n that are still to come; behind the last comes the frame's end
unfoldable pub text_fed : ℕ → ℕ → Fed
text_fed n m =
    cond (eqb n 0) (fed End 0 (head []))
    (cond (eqb m 0) (fed More 0 (text n))
    (fed (Text (min n m)) (min n m) (text (n - min n m))))

-- a refused reader repeats its number and consumes nothing
abbrev pub start : State → List ℕ → Fed
start (head bs) p = eat bs 0 p
start (text n) p = text_fed n (length p)
start (refused e) p = fed (Refusal e) 0 (refused e)

-- 14 first
unfoldable pub fed_of : FrameReader → List ℕ → Fed
fed_of r p = cond (allows r) (start (state_of r) p) (record { event = Refusal 14; consumed = 0; reader = r })

-- ---- the end of the stream

-- the stream may end behind a frame's last byte, 0; inside a frame it is 13; a refused one has its number
abbrev pub end_in : State → ℕ
end_in (head []) = 0
end_in (head (b ∷ bs)) = 13
end_in (text n) = cond (eqb n 0) 0 13
end_in (refused e) = e

unfoldable pub end_of : FrameReader → ℕ
end_of r = cond (allows r) (end_in (state_of r)) 14

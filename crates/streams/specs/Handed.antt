-- What feeds hand out, whole frames and the frame that is open with its text so far, and what a run of them comes to.
use Rattle.std.specs.Prelude.{ℕ, zero, suc, ◌+◌, ◌≤◌, cond, List, [], ◌∷◌, ◌++◌, ◌⊎◌, ◌↔◌, ◌≡◌, eqb, length, take, drop}
use Rattle.wire.specs.Lists.{Each}
use Rattle.wire.specs.Number.{AtMost}
use Rattle.frame.specs.declared.Header.{Header as FrameHeader}
use Rattle.frames.specs.State.{State, head, text, refused, reader_of, state_of}
use Rattle.frames.specs.Feed.{fed_of, end_of}
use Rattle.frames.specs.Event.{Event, More, Header, Text, End, Refusal}
use Rattle.frames.specs.declared.FrameReader.{FrameReader}
use Rattle.streams.specs.Stream.{Frame, frame, Split, WholeFrames, EndsInside, Wrong, EndsWrong}

-- no frame is open; a frame, its text so far, and the text's length that came with its header; or something came out of turn
pub data Current : Type 0 where
  none : Current
  opened : Frame → ℕ → Current
  amiss : Current

-- the whole frames that were handed out, and what is open
pub record Handed : Type 0 where
  pub done : List Frame
  pub current : Current

abbrev pub nothing : Handed
nothing = record { done = []; current = none }

-- a header comes where no frame is open
abbrev pub begun : Current → FrameHeader → ℕ → Current
begun none h n = opened (frame h []) n
begun (opened f m) h n = amiss
begun amiss h n = amiss

-- a text part goes to the open frame
abbrev pub longer : Current → List ℕ → Current
longer none x = amiss
longer (opened f n) x = opened (frame f.header (f.text ++ x)) n
longer amiss x = amiss

-- a frame's end comes where its text is as long as its header said, and puts it behind the others
abbrev pub ended : Current → Current
ended none = amiss
ended (opened f n) = cond (eqb (length f.text) n) none amiss
ended amiss = amiss

abbrev pub closed : List Frame → Current → List Frame
closed fs none = fs
closed fs (opened f n) = fs ++ (f ∷ [])
closed fs amiss = fs

-- what a feed of the piece p hands out, behind what was handed out before
abbrev pub after : Event → List ℕ → Handed → Handed
after More p g = g
after (Header h n) p g = record { done = g.done; current = begun g.current h n }
after (Text k) p g = record { done = g.done; current = longer g.current (take k p) }
after End p g = record { done = closed g.done g.current; current = ended g.current }
after (Refusal e) p g = g

-- the whole frames among it, the state being s: the open frame too, where its last text byte came
abbrev pub whole_of : Handed → State → List Frame
whole_of g (head bs) = g.done
whole_of g (text zero) = closed g.done g.current
whole_of g (text (suc n)) = g.done
whole_of g (refused e) = g.done

-- ---- a sequence of feeds: the bytes consumed in all, what was handed out, and the reader after it

pub record Run : Type 0 where
  pub bytes : List ℕ
  pub handed : Handed
  pub reader : FrameReader

abbrev pub run : List ℕ → Handed → FrameReader → Run
run c g r = record { bytes = c; handed = g; reader = r }

-- one feed more
abbrev pub fed_more : Run → List ℕ → Run
fed_more x p =
    run (x.bytes ++ take (fed_of x.reader p).consumed p) (after (fed_of x.reader p).event p x.handed) (fed_of x.reader p).reader

-- any pieces, one after the other; a host feeds what was left of a piece again
abbrev pub feeds : Run → List (List ℕ) → Run
feeds x [] = x
feeds x (p ∷ ps) = feeds (fed_more x p) ps

-- a fresh reader, to which nothing was fed
abbrev pub fresh : Run
fresh = run [] nothing (reader_of (head []))

-- each piece is bytes
abbrev pub AllBytes : List (List ℕ) → Type 0
AllBytes ps = Each (AtMost 0xFF) ps

-- a stream is fed to its end: each piece is the next of it, and what a feed left of one comes again
abbrev pub FedAll : Run → List (List ℕ) → List ℕ → Type 0
FedAll x [] s = s ≡ []
FedAll x (p ∷ ps) s = (t : List ℕ) × (s ≡ p ++ t) × FedAll (fed_more x p) ps (drop (fed_of x.reader p).consumed p ++ t)

-- ---- what a run comes to

-- what is open, by the state: a frame of whose text n bytes are still to come, as its header said; or none
abbrev pub InTurn : State → Current → Type 0
InTurn (head bs) u = u ≡ none
InTurn (text n) u = (f : Frame) × (u ≡ opened f (length f.text + n))
InTurn (refused e) u = u ≡ none

-- the frames handed out are those of the bytes consumed, nothing came out of turn, and where the reader is refused, their rest is the number's cause
pub record HandedOut (x : Run) : Type 0 where
  pub rest : List ℕ
  pub split : Split x.bytes (whole_of x.handed (state_of x.reader)) rest
  pub in_turn : InTurn (state_of x.reader) x.handed.current
  pub cause : (e : ℕ) → state_of x.reader ≡ refused e → Wrong rest e

-- the number of the stream's end, by where its bytes end
pub record Ends (r : FrameReader) (bytes : List ℕ) : Type 0 where
  pub whole : (end_of r ≡ 0) ↔ WholeFrames bytes
  pub inside : (end_of r ≡ 13) ↔ EndsInside bytes
  pub wrong : (e : ℕ) → 10 ≤ e → e ≤ 12 → (end_of r ≡ e) ↔ EndsWrong bytes e
  pub no_other : (end_of r ≡ 0) ⊎ ((end_of r ≡ 13) ⊎ ((10 ≤ end_of r) × (end_of r ≤ 12)))

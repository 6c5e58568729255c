-- The fed frame reader's state: the bytes of a frame's head that came, or the text bytes that are still to come.
use Rattle.std.specs.Prelude.{ℕ, ◌-◌, List, [], ◌++◌, length, take, replicate}
use Rattle.frames.specs.declared.Phase.{Phase}
use Rattle.frames.specs.declared.Phase.TheVariants.{Head, Text, Refused}
use Rattle.frames.specs.declared.FrameReader.{FrameReader}

-- fewer than the four length bytes and ten header bytes; so many text bytes to come; refused
pub data State : Type 0 where
  head : List ℕ → State
  text : ℕ → State
  refused : ℕ → State

-- the reader that holds a state: bytes not held are 00
abbrev pub holding : List ℕ → ℕ → Phase → FrameReader
holding bs n p = record { held = bs ++ replicate (14 - length bs) 0; count = length bs; left = n; phase = p }

unfoldable pub reader_of : State → FrameReader
reader_of (head bs) = holding bs 0 Head
reader_of (text n) = holding [] n Text
reader_of (refused e) = holding [] 0 (Refused e)

-- the state that a reader holds
abbrev pub state_in : Phase → FrameReader → State
state_in Head r = head (take r.count r.held)
state_in Text r = text r.left
state_in (Refused e) r = refused e

unfoldable pub state_of : FrameReader → State
state_of r = state_in r.phase r

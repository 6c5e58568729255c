-- What the private functions ask of their arguments: no promise of a public function and no theorem cites it.
use Rattle.std.specs.Prelude.{ℕ, ◌≤◌, ◌<◌, List, ◌≡◌, length, take}
use Rattle.frame.specs.Frame.{length_in, length_number}
use Rattle.frames.specs.State.{head, reader_of}
use Rattle.frames.specs.declared.FrameReader.{FrameReader}

-- bytes of a head that a frame may begin with, and that are not all of it
pub record Begun (bs : List ℕ) : Type 0 where
  pub few : length bs < 14
  pub length_ok : 4 ≤ length bs → length_number (length_in bs) ≡ 0

-- a reader that holds such bytes
pub record Held (r : FrameReader) : Type 0 where
  pub is : r ≡ reader_of (head (take r.count r.held))
  pub begun : Begun (take r.count r.held)

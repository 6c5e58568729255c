-- A stream: whole frames end to end, and a rest; and where it ends.
use Rattle.std.specs.Prelude.{ℕ, ◌+◌, ◌≤◌, ◌<◌, List, [], ◌∷◌, ◌++◌, ◌≡◌, length, get_or}
use Rattle.wire.specs.Lists.{Each}
use Rattle.wire.specs.Longest.{longest}
use Rattle.frame.specs.Header.{InRange}
use Rattle.frame.specs.Frame.{length_in, length_number, kind_number, frame_of}
use Rattle.frame.specs.declared.Header.{Header}

-- a frame: its header and its text
pub record Frame : Type 0 where
  pub header : Header
  pub text : List ℕ

abbrev pub frame : Header → List ℕ → Frame
frame h x = record { header = h; text = x }

-- not 10, 11 or 12: a text of at most 32,000 bytes, and none unless the SType is 0
pub record Taken (f : Frame) : Type 0 where
  pub range : InRange f.header
  pub few : length f.text ≤ longest
  pub kind : kind_number f.header.stype (10 + length f.text) ≡ 0

abbrev pub AllTaken : List Frame → Type 0
AllTaken fs = Each Taken fs

-- end to end
unfoldable pub all : List Frame → List ℕ
all [] = []
all (f ∷ fs) = frame_of f.header f.text ++ all fs

-- no whole frame stands at the front of these bytes
abbrev pub Unfinished : List ℕ → Type 0
Unfinished rest = (f : Frame) (more : List ℕ) → Taken f → rest ≡ frame_of f.header f.text ++ more → ⊥

-- these are the frames of these bytes, and their rest
pub record Split (bytes : List ℕ) (fs : List Frame) (rest : List ℕ) : Type 0 where
  pub taken : AllTaken fs
  pub is : bytes ≡ all fs ++ rest
  pub unfinished : Unfinished rest

-- ---- where bytes end

-- whole frames, and nothing behind them
abbrev pub WholeFrames : List ℕ → Type 0
WholeFrames bytes = (fs : List Frame) × AllTaken fs × (bytes ≡ all fs)

-- some bytes of a frame and not all: where its length is there it is no 10 or 11 and counts more bytes, and where its header is there it is no 12
pub record Inside (rest : List ℕ) : Type 0 where
  pub some : 0 < length rest
  pub length_right : 4 ≤ length rest → length_number (length_in rest) ≡ 0
  pub missing : 4 ≤ length rest → length rest < 4 + length_in rest
  pub kind_right : 14 ≤ length rest → kind_number (get_or rest 9 0) (length_in rest) ≡ 0

abbrev pub EndsInside : List ℕ → Type 0
EndsInside bytes = (fs : List Frame) × (rest : List ℕ) × AllTaken fs × (bytes ≡ all fs ++ rest) × Inside rest

-- the cause of each number: 10 and 11 after a frame's fourth byte, 12 after its header
pub data Wrong (rest : List ℕ) : ℕ → Type 0 where
  too_short : length rest ≡ 4 → length_in rest < 10 → Wrong rest 10
  too_long : length rest ≡ 4 → 10 + longest < length_in rest → Wrong rest 11
  other_length : length rest ≡ 14 → 10 ≤ length_in rest → length_in rest ≤ 10 + longest → (get_or rest 9 0 ≡ 0 → ⊥) → (length_in rest ≡ 10 → ⊥) → Wrong rest 12

abbrev pub EndsWrong : List ℕ → ℕ → Type 0
EndsWrong bytes e = (fs : List Frame) × (rest : List ℕ) × AllTaken fs × (bytes ≡ all fs ++ rest) × Wrong rest e

-- What is printed of a captured stream: the lines of each byte, and behind the last byte one line more.
use Rattle.std.specs.Prelude.{ℕ, List, [], ◌∷◌, ◌++◌}
use Rattle.lines.specs.Text.{line_text}
use Rattle.capture.specs.Capture.{fresh_lister, byte_told, last_line}
use Rattle.capture.specs.declared.Lister.{Lister}
use Rattle.capture.specs.declared.Told.{Told}

-- a lister, and what was printed
pub record Printed : Type 0 where
  pub lister : Lister
  pub lines : List ℕ

abbrev pub printed : Lister → List ℕ → Printed
printed l s = record { lister = l; lines = s }

-- lines, and behind them those of t
abbrev pub behind : List ℕ → Printed → Printed
behind s t = printed t.lister (s ++ t.lines)

abbrev pub lines_of : Told → List ℕ
lines_of t = line_text t.first ++ line_text t.second

unfoldable pub byte_printed : Lister → ℕ → Printed
byte_printed l b = printed (byte_told l b).lister (lines_of (byte_told l b))

unfoldable pub bytes_printed : Lister → List ℕ → Printed
bytes_printed l [] = printed l []
bytes_printed l (b ∷ s) = behind (byte_printed l b).lines (bytes_printed (byte_printed l b).lister s)

-- all that is printed of a captured stream
unfoldable pub listing_of : List ℕ → List ℕ
listing_of s = (bytes_printed fresh_lister s).lines ++ line_text (last_line (bytes_printed fresh_lister s).lister)

-- The fields of a record, the room for its lines, and an output to write into.
use Rattle.std.specs.Prelude.{ℕ, ◌+◌, min, ◌==◌, Bool, List, [], ◌∷◌, length, take, drop, replicate}
use Rattle.wire.specs.Number.{number_of}
use Rattle.wire.specs.Lent.{copied}
use Rattle.wire.specs.Search.{first_at}

-- the number of so many bytes from a place on, high byte first; as far as there are bytes
unfoldable pub field_of : ℕ → List ℕ → ℕ → ℕ
field_of size s at = number_of (take size (drop at s))

-- the first ten bytes, 00 where there are fewer
unfoldable pub ten_in : List ℕ → List ℕ
ten_in s = copied (replicate 10 0) s

-- the numbers of four bytes each, as far as they are whole
unfoldable pub words_in : List ℕ → List ℕ
words_in [] = []
words_in (a ∷ []) = []
words_in (a ∷ b ∷ []) = []
words_in (a ∷ b ∷ c ∷ []) = []
words_in (a ∷ b ∷ c ∷ d ∷ s) = number_of (a ∷ b ∷ c ∷ d ∷ []) ∷ words_in s

-- a line end
abbrev pub ends : ℕ → Bool
ends c = c == 10

-- the place of the first line end from a place on, or the end of the bytes
unfoldable pub line_end : List ℕ → ℕ → ℕ
line_end s at = min at (length s) + first_at ends (drop at s)

-- the room for all lines that a program takes
unfoldable pub room : List ℕ
room = replicate 1048576 0

-- an output before anything is written
unfoldable pub blank : List ℕ
blank = replicate 65536 0xEE

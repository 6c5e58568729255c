-- What is printed of a line: a letter, fields behind tabs, numbers decimal, a line end.
use Rattle.std.specs.Prelude.{ℕ, List, [], ◌∷◌, ◌++◌, Option, Some, None}
use Rattle.item.specs.Code.{codes, found, letters}
use Rattle.frame.specs.declared.Header.{Header}
use Rattle.lines.specs.Decimal.{decimal_of}
use Rattle.lines.specs.declared.Line.{Line}
use Rattle.lines.specs.declared.Line.TheVariants.{Message, Item, Refusal, End}

abbrev pub tab : ℕ
tab = 9

abbrev pub newline : ℕ
newline = 10

-- a number behind its tab
abbrev pub number_field : ℕ → List ℕ
number_field n = tab ∷ decimal_of n

-- a code's name behind its tab
abbrev pub name_field : ℕ → List ℕ
name_field code = tab ∷ letters (found code codes).name

unfoldable pub fields : List ℕ → List ℕ
fields [] = []
fields (n ∷ l) = number_field n ++ fields l

abbrev pub line_of : ℕ → List ℕ → List ℕ
line_of letter l = letter ∷ fields l ++ (newline ∷ [])

-- M: session ID, PType, SType, byte 2, byte 3, system bytes, text length
unfoldable pub message_line : Header → ℕ → List ℕ
message_line h n = line_of 0x4D (h.session ∷ h.ptype ∷ h.stype ∷ h.byte2 ∷ h.byte3 ∷ h.system ∷ n ∷ [])

-- I: depth, name, length
unfoldable pub item_line : ℕ → ℕ → ℕ → List ℕ
item_line depth code size = 0x49 ∷ number_field depth ++ (name_field code ++ (number_field size ++ (newline ∷ [])))

-- X: refusal number, stream bytes through the refusing one
unfoldable pub refusal_line : ℕ → ℕ → List ℕ
refusal_line number bytes = line_of 0x58 (number ∷ bytes ∷ [])

-- E: frames, bytes
unfoldable pub end_line : ℕ → ℕ → List ℕ
end_line frames bytes = line_of 0x45 (frames ∷ bytes ∷ [])

-- of no line nothing
abbrev pub line_text : Option Line → List ℕ
line_text None = []
line_text (Some (Message h n)) = message_line h n
line_text (Some (Item depth code size)) = item_line depth code size
line_text (Some (Refusal number bytes)) = refusal_line number bytes
line_text (Some (End frames bytes)) = end_line frames bytes

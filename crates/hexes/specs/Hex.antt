-- Bytes in hex: which bytes a line's characters say, and the digits that a byte is printed as.
use Rattle.std.specs.Prelude.{ℕ, ◌+◌, ◌*◌, ◌-◌, ◌/◌, ◌%◌, ◌<◌, Bool, false, cond, List, [], ◌∷◌, ◌++◌, eqb, ltb, leb, length, drop}
use Rattle.std.specs.Prelude.{Option, Some, None, Result, Ok, Err}
use Rattle.refusal.specs.Answer.{Counted}
use Rattle.refusal.specs.Answer as C
use Rattle.hexes.specs.declared.HexError.{HexError}
use Rattle.hexes.specs.declared.HexError.TheVariants.{Wrong, Long}
use Rattle.hexes.specs.declared.Place.{Place}
use Rattle.hexes.specs.declared.Place.TheVariants.{Between, Behind, Broken}

abbrev pub within : ℕ → ℕ → ℕ → Bool
within low high c = cond (leb low c) (leb c high) false

-- a hex digit's value: of 0 to 9, a to f, A to F; 16 for any other character
unfoldable pub digit_of : ℕ → ℕ
digit_of c =
    cond (within 0x30 0x39 c) (c - 0x30)
    (cond (within 0x41 0x46 c) (c - 0x37)
    (cond (within 0x61 0x66 c) (c - 0x57)
    16))

-- what a private function answers: a digit's value, if it is one
abbrev pub some_digit : ℕ → Option ℕ
some_digit d = cond (ltb d 16) (Some d) None

-- ---- a place in a line is behind the first digit of a byte, and then it is that digit's value; or between bytes; or behind something wrong

abbrev pub between : ℕ
between = 16

abbrev pub wrong : ℕ
wrong = 17

-- what private functions say of a place: its number; behind a first digit it is the digit's value, below 16
abbrev pub number_of : Place → ℕ
number_of Between = between
number_of (Behind d) = d
number_of Broken = wrong

abbrev pub IsPlace : Place → Type 0
IsPlace Between = Unit {0}
IsPlace (Behind d) = d < 16
IsPlace Broken = Unit {0}

-- a space may stand only between bytes
abbrev pub on_space : ℕ → ℕ
on_space place = cond (eqb place between) between wrong

-- a digit of this value ends a byte that was begun, or begins one
abbrev pub on_digit : ℕ → ℕ → ℕ
on_digit place d = cond (eqb d 16) wrong (cond (ltb place 16) between (cond (eqb place between) d wrong))

-- the place behind one character more
unfoldable pub place_on : ℕ → ℕ → ℕ
place_on place c = cond (eqb c 0x20) (on_space place) (on_digit place (digit_of c))

-- the place behind these characters
abbrev pub place_after : ℕ → List ℕ → ℕ
place_after place [] = place
place_after place (c ∷ s) = place_after (place_on place c) s

-- the bytes that these characters end
abbrev pub bytes_from : ℕ → List ℕ → List ℕ
bytes_from place [] = []
bytes_from place (c ∷ s) = cond (ltb place 16) ((place * 16 + digit_of c) ∷ bytes_from (place_on place c) s) (bytes_from (place_on place c) s)

-- ---- the bytes that a line says

unfoldable pub bytes_in : List ℕ → List ℕ
bytes_in s = bytes_from between s

-- nothing in it is wrong, and no byte is half there
unfoldable pub is_hex : List ℕ → Bool
is_hex s = eqb (place_after between s) between

-- how many they are, if there is room for them
abbrev pub said_in : List ℕ → ℕ → Result ℕ HexError
said_in bytes room = cond (ltb room (length bytes)) (Err Long) (Ok (length bytes))

unfoldable pub said_of : List ℕ → ℕ → Result ℕ HexError
said_of s room = cond (is_hex s) (said_in (bytes_in s) room) (Err Wrong)

-- the output afterwards: the bytes, the rest stays; as it was where they are not told
abbrev pub said_after : Result ℕ HexError → List ℕ → List ℕ → List ℕ
said_after (Ok n) bytes out = bytes ++ drop n out
said_after (Err e) bytes out = out

-- ---- bytes printed

-- the digit of a value, in lower case
unfoldable pub glyph_of : ℕ → ℕ
glyph_of d = cond (ltb d 10) (0x30 + d) (0x57 + d)

-- two digits a byte
abbrev pub hex_of : List ℕ → List ℕ
hex_of [] = []
hex_of (b ∷ s) = glyph_of (b / 16) ∷ glyph_of (b % 16) ∷ hex_of s

-- how many digits there are, or 17 where there is no room for them
unfoldable pub printed_of : ℕ → ℕ → Counted
printed_of bytes room = cond (ltb room (2 * bytes)) (C.Refused 17) (C.Is (2 * bytes))

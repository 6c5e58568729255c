-- What is printed of a line that says no bytes.
use Rattle.std.specs.Prelude.{ℕ, List, codes}
use Rattle.hexes.specs.declared.HexError.{HexError}
use Rattle.hexes.specs.declared.HexError.TheVariants.{Wrong, Long}

abbrev pub words_of : HexError → List ℕ
words_of Wrong = codes "a character is wrong, or a byte is half there"
words_of Long = codes "there are more bytes than the output holds"

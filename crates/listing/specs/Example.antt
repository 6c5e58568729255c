-- Document 01's example: a stream, and the lines that it prints exactly.
use Rattle.std.specs.Prelude.{ℕ, List, [], ◌∷◌}
use Rattle.item.specs.Code.{letters}

abbrev pub stream : List ℕ
stream = 0x00 ∷ 0x00 ∷ 0x00 ∷ 0x0C ∷ 0x00 ∷ 0x01 ∷ 0x81 ∷ 0x0D ∷ 0x00 ∷ 0x00 ∷ 0x00 ∷ 0x00 ∷ 0x00 ∷ 0x07 ∷ 0x01 ∷ 0x00 ∷ []

abbrev pub lines : List ℕ
lines = letters "M\t1\t0\t0\t129\t13\t7\t2\nI\t1\tL\t0\nE\t1\t16\n"

-- A line has at most 149 bytes: a letter, a line end, and at most 21 bytes a number.
use Prim.Native.Nat.{ℕ, ◌≤◌}
use mathlib.Core.List.{[], ◌∷◌, ◌++◌}
use native.Mathlib.Omega.{arith}
use lib.ListN.{length, length-append}
use Rattle.std.proofs.Common.{Option, Some, None}
use Rattle.lines.specs.Text.{newline, number_field, name_field, fields, line_of, item_line, refusal_line, end_line, line_text}
use Rattle.lines.specs.declared.Line.{Line}
use Rattle.lines.specs.declared.Line.TheVariants.{Message, Item, Refusal, End}
use Rattle.lines.proofs.Fields.{field_short, fields_short, message_short}
use Rattle.lines.proofs.Named.{name_short}

two_short : (letter m n : ℕ) → length (line_of letter (m ∷ n ∷ [])) ≤ 44
two_short letter m n = omega (arith, length-append (fields (m ∷ n ∷ [])) (newline ∷ []), fields_short (m ∷ n ∷ []))

pub refusal_short : (number bytes : ℕ) → length (refusal_line number bytes) ≤ 44
unfolding refusal_line
refusal_short number bytes = two_short 0x58 number bytes

pub end_short : (frames bytes : ℕ) → length (end_line frames bytes) ≤ 44
unfolding end_line
end_short frames bytes = two_short 0x45 frames bytes

pub item_short : (depth code size : ℕ) → length (item_line depth code size) ≤ 52
unfolding item_line
item_short depth code size =
    let last = number_field size ++ (newline ∷ []) in
    omega (
      arith,
      length-append (number_field depth) (name_field code ++ last),
      length-append (name_field code) last,
      length-append (number_field size) (newline ∷ []),
      field_short depth,
      name_short code,
      field_short size,
    )

pub line_short : (x : Option Line) → length (line_text x) ≤ 149
line_short None = omega arith
line_short (Some (Message h n)) = message_short h n
line_short (Some (Item depth code size)) = omega (arith, item_short depth code size)
line_short (Some (Refusal number bytes)) = omega (arith, refusal_short number bytes)
line_short (Some (End frames bytes)) = omega (arith, end_short frames bytes)

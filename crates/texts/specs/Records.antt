-- What each record of whole texts prints; docs/CALLS.md has it in words. No record leaves anything behind for the next.
use Rattle.std.specs.Prelude.{ℕ, ◌+◌, ◌*◌, cond, eqb, List, [], ◌∷◌, ◌++◌, take, drop, replicate, codes, decimal}
use Rattle.std.specs.List.{flat_map}
use Rattle.refusal.specs.Answer.{Counted}
use Rattle.item.specs.declared.Form.TheVariants.{Lean}
use Rattle.wire.specs.Lent.{out_after}
use Rattle.records.specs.Fields.{field_of, words_in, blank}
use Rattle.rows.specs.Row.{row, rows_of, text_of}
use Rattle.rows.specs.Rows.{rows_in}
use Rattle.rows.specs.declared.Row.{Row}
use Rattle.text.specs.Measured.{Measured, Are, Refused}
use Rattle.text.specs.Text.{judged_as, judged_of, measured_of, read_of, table_after, part_number, part_of}
use Rattle.writer.specs.Writing.{written_of, leaned_of}
use Rattle.driver.specs.Input.{says}
use Rattle.driver.specs.Printed.{field, line, bad_record, if_bytes, hex_field, counted_fields}
use Rattle.texts.specs.declared.Texts.{Texts}

-- ---- a text judged

abbrev pub measured_fields : Measured → List ℕ
measured_fields (Are rows bytes) = field (decimal rows) ++ field (decimal bytes)
measured_fields (Refused k) = []

abbrev pub judged_line : List ℕ → List ℕ
judged_line t = line (codes "judged") (field (decimal (judged_of t)) ++ field (decimal (judged_as Lean t)) ++ measured_fields (measured_of t))

-- ---- a text read into a table of so many numbers, each 7 before

abbrev pub numbers_fields : List ℕ → List ℕ
numbers_fields table = flat_map (λ n. field (decimal n)) table

abbrev pub read_fields : Counted → List ℕ → List ℕ → List ℕ
read_fields answer t table = counted_fields answer ++ numbers_fields (table_after answer t table)

abbrev pub read_line : List ℕ → List ℕ
read_line [] = bad_record
read_line (room ∷ t) = line (codes "read") (read_fields (read_of t room) t (replicate room 7))

-- ---- a row's content as a part of a text

abbrev pub row_in : List ℕ → Row
row_in s = row (field_of 4 s 0) (field_of 4 s 4) (field_of 4 s 8)

abbrev pub part_fields : List ℕ → Row → List ℕ
part_fields t r = field (decimal (part_number t r)) ++ hex_field (part_of t r) 1048576

abbrev pub part_line : List ℕ → List ℕ
part_line s = if_bytes 12 s (line (codes "part") (part_fields (drop 12 s) (row_in s)))

-- ---- what is written into an output of so many bytes, each EE before

abbrev pub output_fields : Counted → List ℕ → ℕ → List ℕ
output_fields answer bytes room = counted_fields answer ++ hex_field (out_after answer bytes (take room blank)) 1048576

-- the record's bytes before the content
abbrev pub front : List ℕ → ℕ
front s = 3 + 4 * field_of 1 s 2

abbrev pub table_in : List ℕ → List ℕ
table_in s = words_in (take (4 * field_of 1 s 2) (drop 3 s))

abbrev pub written_fields : List ℕ → List ℕ → ℕ → List ℕ
written_fields table content room = output_fields (written_of table content room) (text_of content (rows_of table)) room

abbrev pub written_line : List ℕ → List ℕ
written_line s = if_bytes (front s) s (line (codes "written") (written_fields (table_in s) (drop (front s) s) (field_of 2 s 0)))

abbrev pub lean_fields : List ℕ → ℕ → ℕ → List ℕ
lean_fields t numbers room = output_fields (leaned_of t numbers room) (text_of t (rows_in t)) room

abbrev pub lean_line : List ℕ → List ℕ
lean_line s = if_bytes 3 s (line (codes "lean") (lean_fields (drop 3 s) (field_of 1 s 0) (field_of 2 s 1)))

-- ---- a record, by its letter

abbrev pub printed : ℕ → List ℕ → List ℕ
printed c s =
    cond (eqb c 0x6A) (judged_line s)
    (cond (eqb c 0x72) (read_line s)
    (cond (eqb c 0x70) (part_line s)
    (cond (eqb c 0x77) (written_line s)
    (cond (eqb c 0x6C) (lean_line s)
    bad_record))))

-- nothing is kept from record to record
abbrev pub begun : Texts
begun = record {}

abbrev pub done : Texts × List ℕ → ℕ → List ℕ → Texts × List ℕ
done x c s = says (printed c s) x

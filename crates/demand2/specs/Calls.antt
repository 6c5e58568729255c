-- What a call promises, as one value: its answer and what it was lent, afterwards.
use Rattle.std.specs.Prelude.{List, length, ℕ}
use Rattle.rows.specs.Row.{rows_of, text_of}
use Rattle.rows.specs.Rows.{rows_in}
use Rattle.text.specs.Text.{read_of, table_after}
use Rattle.refusal.specs.Answer.{Counted}
use Rattle.writer.specs.Writing.{written_of, leaned_of, rows_after}
use Rattle.wire.specs.Lent.{out_after}

-- a text read into a table: the answer, the table
abbrev pub read : List ℕ → List ℕ → Counted × List ℕ
read t table = (read_of t (length table), table_after (read_of t (length table)) t table)

-- a table's rows over the content s written into an output: the answer, the output
abbrev pub write : List ℕ → List ℕ → List ℕ → Counted × List ℕ
write table s out = (written_of table s (length out), out_after (written_of table s (length out)) (text_of s (rows_of table)) out)

-- a text's lean form: the answer, the table, the output
abbrev pub write_lean : List ℕ → List ℕ → List ℕ → Counted × List ℕ × List ℕ
write_lean t table out = (
  leaned_of t (length table) (length out),
  rows_after (leaned_of t (length table) (length out)) t table,
  out_after (leaned_of t (length table) (length out)) (text_of t (rows_in t)) out,
)

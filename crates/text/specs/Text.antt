-- A whole text: its number, its rows in a table, and a row's content as a part of the text itself.
use Rattle.std.specs.Prelude.{ℕ, ◌*◌, Bool, cond, List, [], ◌++◌, eqb, leb, length, drop}
use Rattle.item.specs.Code.{kind_of}
use Rattle.item.specs.declared.Form.{Form}
use Rattle.item.specs.declared.Form.TheVariants.{Good as good}
use Rattle.item.specs.declared.Kind.{Kind}
use Rattle.item.specs.declared.Kind.TheVariants as K
use Rattle.reader.specs.State.{reader_of, fresh}
use Rattle.reader.specs.Feed.{fed_of}
use Rattle.reader.specs.Answer.{Answer, More, Complete, Refusal}
use Rattle.rows.specs.Row.{table_of, part_at, inside, size_of}
use Rattle.rows.specs.Rows.{rows_in}
use Rattle.rows.specs.declared.Row.{Row}
use Rattle.refusal.specs.Answer.{Counted}
use Rattle.refusal.specs.Answer.{Is, Refused}
use Rattle.text.specs.Measured.{Measured}
use Rattle.text.specs.Measured as M

-- the number of an answer; 0 for a text of the form. That a whole text is never answered more is proved, so that its 5 is not met.
abbrev pub number_in : Answer → ℕ
number_in Complete = 0
number_in (Refusal e) = e
number_in More = 5

-- a whole text's number, asked to be good or lean: the fed reader's, told that form, with N its length
unfoldable pub judged_as : Form → List ℕ → ℕ
judged_as f t = number_in (fed_of (reader_of (fresh f (length t))) t).answer

-- as a good text
abbrev pub judged_of : List ℕ → ℕ
judged_of t = judged_as good t

-- how many rows a good text has, and how many bytes its lean form
unfoldable pub measured_of : List ℕ → Measured
measured_of t = cond (eqb (judged_of t) 0) (M.Are (length (rows_in t)) (size_of (rows_in t))) (M.Refused (judged_of t))

-- its number, then 19: a table of so many numbers holds fewer than three a row
unfoldable pub read_of : List ℕ → ℕ → Counted
read_of t room =
    cond (eqb (judged_of t) 0)
    (cond (leb (3 * length (rows_in t)) room) (Is (length (rows_in t))) (Refused 19))
    (Refused (judged_of t))

-- the table afterwards: the rows, later numbers unchanged; as it was where the call is refused
abbrev pub table_after : Counted → List ℕ → List ℕ → List ℕ
table_after (Is n) t table = table_of (rows_in t) ++ drop (3 * n) table
table_after (Refused k) t table = table

-- a content part: 1, 9, 16
abbrev pub part_number_as : Kind → Bool → ℕ
part_number_as K.Unknown within = 1
part_number_as K.List within = 9
part_number_as (K.Plain _) within = cond within 0 16

unfoldable pub part_number : List ℕ → Row → ℕ
part_number t r = part_number_as (kind_of r.code) (inside t r)

-- a refused part is empty
unfoldable pub part_of : List ℕ → Row → List ℕ
part_of t r = cond (eqb (part_number t r) 0) (part_at t r) []

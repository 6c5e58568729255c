-- What comes back: a row's content from a text that was read, and rows from a text that was written.
use Rattle.std.specs.Prelude.{ℕ, List, [], ◌++◌, ◌≡◌, length, drop}
use Rattle.item.specs.Code.{L}
use Rattle.item.specs.Item.{Tree, Says, meaning_of}
use Rattle.item.specs.declared.Form.TheVariants.{Good as good, Lean as lean}
use Rattle.rows.specs.Row.{rows_of, part_at}
use Rattle.rows.specs.Rows.{Has, rows_of_text}
use Rattle.rows.specs.declared.Row.{Row}
use Rattle.text.specs.Text.{part_number, part_of}
use Rattle.demand2.specs.Alike.{AllAlike}
use Rattle.demand2.specs.Calls.{write}

-- of a list's row 9 and nothing; of another the content that the row names
pub record Part (t : List ℕ) (r : Row) : Type 0 where
  pub of_list : r.code ≡ L → (part_number t r ≡ 9) × (part_of t r ≡ [])
  pub of_other : (r.code ≡ L → ⊥) → (part_number t r ≡ 0) × (part_of t r ≡ part_at t r)

-- What was written, n bytes of an output: rows that one tree has, and a lean text of that tree's meaning; what is read back from it are rows of that meaning.
pub record Back (table s out : List ℕ) (n : ℕ) : Type 0 where
  pub text : List ℕ
  pub tree : Tree
  pub has : Has s tree (rows_of table)
  pub used : n ≡ length text
  pub output : (write table s out).1 ≡ text ++ drop n out
  pub is_lean : Says lean (meaning_of tree) text
  pub is_good : Says good (meaning_of tree) text
  pub rows : Has text (meaning_of tree) (rows_of_text (meaning_of tree) text is_good)
  pub same_tree : meaning_of (meaning_of tree) ≡ meaning_of tree
  pub same_rows : AllAlike s (rows_of table) text (rows_of_text (meaning_of tree) text is_good)
  pub as_many : length (rows_of table) ≡ length (rows_of_text (meaning_of tree) text is_good)

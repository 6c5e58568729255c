-- The writer: the number of rows over a content, the lean text that they stand for, and what is left of the output.
use Rattle.std.specs.Prelude.{ℕ, ◌*◌, ◌%◌, Bool, true, false, cond, List, [], ◌∷◌, ◌++◌, eqb, leb, length, drop}
use Rattle.wire.specs.Longest.{longest}
use Rattle.item.specs.Code.{L, kind_of, allowed, largest}
use Rattle.item.specs.declared.Kind.{Kind}
use Rattle.item.specs.declared.Kind.TheVariants as K
use Rattle.levels.specs.Levels.{began, leaving}
use Rattle.rows.specs.Row.{rows_of, table_of, part_at, inside, text_of, size_of}
use Rattle.rows.specs.Rows.{rows_in}
use Rattle.rows.specs.declared.Row.{Row}
use Rattle.text.specs.Text.{judged_of}
use Rattle.refusal.specs.Answer.{Counted}
use Rattle.refusal.specs.Answer.{Is, Refused}

-- each of these bytes is at most m
abbrev pub at_most : ℕ → List ℕ → Bool
at_most m [] = true
at_most m (b ∷ bs) = cond (leb b m) (at_most m bs) false

-- ---- a row, at levels that await so many items, innermost first

-- a list's row: members at depth 16, 4
abbrev pub list_number : List ℕ → Row → ℕ
list_number st r = cond (eqb r.length 0) 0 (cond (eqb (length st) 16) 4 0)

-- another row: not a length of its code 3, content outside 16, a byte that its code does not take 6
unfoldable pub content_number : List ℕ → Row → ℕ
content_number s r =
    cond (allowed r.code r.length)
    (cond (inside s r)
    (cond (at_most (largest r.code) (part_at s r)) 0 6)
    16)
    3

abbrev pub number_as : Kind → List ℕ → List ℕ → Row → ℕ
number_as K.Unknown s st r = 1
number_as K.List s st r = list_number st r
number_as (K.Plain _) s st r = content_number s r

-- 15 (the item has ended), 1, 4, 3, 16, 6
unfoldable pub row_number : List ℕ → List ℕ → Row → ℕ
row_number s [] r = 15
row_number s (m ∷ st) r = number_as (kind_of r.code) s (m ∷ st) r

-- the levels behind a row: one item less is awaited, and a list's members are
unfoldable pub levels_behind : List ℕ → Row → List ℕ
levels_behind st r = leaving (cond (eqb r.code L) (r.length ∷ began st) (began st))

-- ---- rows

-- nothing is awaited behind the last row, or 15
abbrev pub end_number : List ℕ → ℕ
end_number [] = 0
end_number (m ∷ st) = 15

-- row by row, then 15
unfoldable pub judged_from : List ℕ → List ℕ → List Row → ℕ
judged_from s st [] = end_number st
judged_from s st (r ∷ rs) =
    cond (eqb (row_number s st r) 0) (judged_from s (levels_behind st r) rs) (row_number s st r)

-- rows are none, or one whole item
abbrev pub rows_number : List ℕ → List Row → ℕ
rows_number s [] = 0
rows_number s (r ∷ rs) = judged_from s (1 ∷ []) (r ∷ rs)

-- 15 (not whole rows) first
unfoldable pub table_number : List ℕ → List ℕ → ℕ
table_number s table = cond (eqb (length table % 3) 0) (rows_number s (rows_of table)) 15

-- ---- the writer's answer

-- a text of n bytes for an output of so many: above 32,000, 18; output too short, 17; else the bytes used
abbrev pub used_of : ℕ → ℕ → Counted
used_of n room = cond (leb n longest) (cond (leb n room) (Is n) (Refused 17)) (Refused 18)

unfoldable pub written_of : List ℕ → List ℕ → ℕ → Counted
written_of table s room =
    cond (eqb (table_number s table) 0) (used_of (length (text_of s (rows_of table))) room) (Refused (table_number s table))

-- ---- a text's lean form

-- the text's number, 19 (row table too small), 17 (output too short)
unfoldable pub leaned_of : List ℕ → ℕ → ℕ → Counted
leaned_of t room out =
    cond (eqb (judged_of t) 0)
    (cond (leb (3 * length (rows_in t)) room)
    (cond (leb (size_of (rows_in t)) out) (Is (size_of (rows_in t))) (Refused 17))
    (Refused 19))
    (Refused (judged_of t))

abbrev pub rows_after : Counted → List ℕ → List ℕ → List ℕ
rows_after (Is n) t table = table_of (rows_in t) ++ drop (3 * length (rows_in t)) table
rows_after (Refused k) t table = table

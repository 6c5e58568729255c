-- A row: three numbers of a table, the content that it names, and the lean text that it stands for.
use Rattle.std.specs.Prelude.{ℕ, ◌+◌, Bool, cond, List, [], ◌∷◌, ◌++◌, eqb, leb, length, get_or, take, drop}
use Rattle.item.specs.Code.{L}
use Rattle.item.specs.Item.{fewest, told, lean_header}
use Rattle.rows.specs.declared.Row.{Row}

abbrev pub row : ℕ → ℕ → ℕ → Row
row c n p = record { code = c; length = n; place = p }

-- the row that three numbers are
abbrev pub row_of : List ℕ → Row
row_of numbers = row (get_or numbers 0 0) (get_or numbers 1 0) (get_or numbers 2 0)

-- the rows of a table, three numbers a row, and the table of rows
unfoldable pub rows_of : List ℕ → List Row
rows_of [] = []
rows_of (c ∷ []) = []
rows_of (c ∷ n ∷ []) = []
rows_of (c ∷ n ∷ p ∷ t) = row c n p ∷ rows_of t

unfoldable pub table_of : List Row → List ℕ
table_of [] = []
table_of (r ∷ rs) = r.code ∷ r.length ∷ r.place ∷ table_of rs

-- the content of a row that is no list, as a part of s, and whether it lies within s
abbrev pub part_at : List ℕ → Row → List ℕ
part_at s r = take r.length (drop r.place s)

abbrev pub inside : List ℕ → Row → Bool
inside s r = leb (r.place + r.length) (length s)

-- the bytes of an item's own content: a list has none, its members are rows of their own
unfoldable pub content_size : ℕ → ℕ → ℕ
content_size c n = cond (eqb c L) 0 n

-- the lean text of a row whose content lies in s, and its size
unfoldable pub row_text : List ℕ → Row → List ℕ
row_text s r = lean_header r.code r.length ++ cond (eqb r.code L) [] (told r.code (part_at s r))

unfoldable pub text_of : List ℕ → List Row → List ℕ
text_of s [] = []
text_of s (r ∷ rs) = row_text s r ++ text_of s rs

unfoldable pub row_size : ℕ → ℕ → ℕ
row_size c n = 1 + fewest n + content_size c n

unfoldable pub size_of : List Row → ℕ
size_of [] = 0
size_of (r ∷ rs) = row_size r.code r.length + size_of rs

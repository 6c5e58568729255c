-- Rows of a tree, wherever their contents lie, and the rows of a text, in order of appearance.
use Rattle.std.specs.Prelude.{ℕ, zero, suc, ◌+◌, ◌/◌, ◌%◌, ◌≤◌, List, [], ◌∷◌, ◌++◌, ◌≡◌, length, take}
use Rattle.wire.specs.Number.{number_of}
use Rattle.item.specs.Code.{L}
use Rattle.item.specs.Item.{Item, Items, plain, list, none, more, count, Tree, empty, one, Content, Spells, SpellsAll, Says}
use Rattle.item.specs.declared.Form.TheVariants.{Good as good}
use Rattle.rows.specs.Row.{row, part_at, content_size}
use Rattle.rows.specs.declared.Row.{Row}

-- these rows, their contents in s, are an item at depth d: one row with its content, or a list's row and its members', one deeper
abbrev mutual
  pub HasItem : List ℕ → ℕ → Item → List Row → Type 0
  HasItem s d (plain c x) rs =
      (r : Row) × (rs ≡ r ∷ []) × (r.code ≡ c) × (r.place + r.length ≤ length s) × (x ≡ part_at s r) × Content good c x
      × (d ≤ 16)
  HasItem s d (list is) rs =
      (r : Row) × (ms : List Row) × (rs ≡ r ∷ ms) × (r.code ≡ L) × (r.length ≡ count is) × HasAll s (suc d) is ms
      × (d ≤ 16)

  pub HasAll : List ℕ → ℕ → Items → List Row → Type 0
  HasAll s d none rs = rs ≡ []
  HasAll s d (more i is) rs =
      (u : List Row) × (v : List Row) × (rs ≡ u ++ v) × HasItem s d i u × HasAll s d is v

-- rows are none, or one whole item at depth 1
abbrev pub Has : List ℕ → Tree → List Row → Type 0
Has s empty rs = rs ≡ []
Has s (one i) rs = HasItem s 1 i rs

-- the rows of an item that is spelled from place p on: code, length, place of the first byte after the length bytes
unfoldable mutual
  pub item_rows : (i : Item) (d : ℕ) (t : List ℕ) → Spells good d i t → ℕ → List Row
  item_rows (plain c x) d t (ls, e, lens, con, deep) p = row c (length x) (p + 1 + length ls) ∷ []
  item_rows (list is) d t (ls, body, e, lens, all, deep) p =
      row L (count is) (p + 1 + length ls) ∷ items_rows is (suc d) body all (p + 1 + length ls)

  pub items_rows : (is : Items) (d : ℕ) (t : List ℕ) → SpellsAll good d is t → ℕ → List Row
  items_rows none d t e p = []
  items_rows (more i is) d t (u, v, e, s, all) p = item_rows i d u s p ++ items_rows is d v all (p + length u)

-- the rows of a good text
abbrev pub rows_of_text : (w : Tree) (t : List ℕ) → Says good w t → List Row
rows_of_text empty t s = []
rows_of_text (one i) t s = item_rows i 1 t s.0 0

-- the same from the bytes alone, at place p, where so many bytes still belong to the last row: a format byte b begins a row
abbrev pub row_at : ℕ → ℕ → List ℕ → Row
row_at p b t = row (b / 4) (number_of (take (b % 4) t)) (p + 1 + b % 4)

-- the bytes behind a format byte that belong to its row: length bytes and content
abbrev pub own_bytes : ℕ → List ℕ → ℕ
own_bytes b t = b % 4 + content_size (b / 4) (number_of (take (b % 4) t))

unfoldable pub rows_from : ℕ → ℕ → List ℕ → List Row
rows_from p k [] = []
rows_from p zero (b ∷ t) = row_at p b t ∷ rows_from (suc p) (own_bytes b t) t
rows_from p (suc k) (b ∷ t) = rows_from (suc p) k t

abbrev pub rows_in : List ℕ → List Row
rows_in t = rows_from 0 0 t

-- A table's rows are read three numbers at a time, and the lean text of rows is as long as their sizes say where their contents are there.
use Prim.Native.Nat.{ℕ, zero, suc, ◌+◌, ◌*◌, ◌-◌, ◌<◌, ◌≤◌}
use mathlib.Core.Path.{◌≡◌, refl, sym, ap, ap₂, ◌∙◌}
use mathlib.Core.Bool.{Bool, true, false, cond}
use mathlib.Core.List.{List, [], ◌∷◌, ◌++◌, map, append-nil}
use native.Mathlib.Omega.{arith}
use borrow.Author.Tests.{eq-eqb, ne_eqb, eqb-true, eqb-false}
use lib.Dec.{eqb}
use lib.ListN.{length, get_or, take, drop, length-append, length-take, length-drop}
use lib.Seq.{drop-cons}
use Rattle.std.specs.Simd.{first_chunks}
use Rattle.wire.proofs.Numbers.{length_bytes}
use Rattle.item.specs.Code.{L}
use Rattle.item.specs.Item.{fewest, told, lean_header}
use Rattle.item.proofs.Fewest.{counted}
use Rattle.item.proofs.Lean.{told_length}
use Rattle.rows.specs.declared.Row.{Row}
use Rattle.wire.specs.Lists.{Each}
use Rattle.rows.specs.Row.{row, row_of, rows_of, table_of, part_at, content_size, row_text, text_of, row_size, size_of}
use Rattle.rows.specs.Asked.{Fits}

-- the row that a table's number i begins
abbrev pub row_from : List ℕ → ℕ → Row
row_from table i = row (get_or table i 0) (get_or table (i + 1) 0) (get_or table (i + 2) 0)

-- the next row of a table, and its end
pub rows_more : (table : List ℕ) (i : ℕ) (r : Row) → r ≡ row_from table i → i + 3 ≤ length table → rows_of (drop i table) ≡ r ∷ rows_of (drop (i + 3) table)
unfolding rows_of
rows_more table i r e h =
    let a : i + 1 ≡ suc i = omega arith in
    let b : i + 2 ≡ suc (suc i) = omega arith in
    let c : i + 3 ≡ suc (suc (suc i)) = omega arith in
    rw (e, a, b, c)
    (ap rows_of
    (drop-cons table i 0 (omega arith)
    ∙ ap (λ (t : List ℕ). get_or table i 0 ∷ t)
    (drop-cons table (suc i) 0 (omega arith) ∙ ap (λ (t : List ℕ). get_or table (suc i) 0 ∷ t) (drop-cons table (suc (suc i)) 0 (omega arith)))))

pub rows_few : (t : List ℕ) → length t < 3 → rows_of t ≡ []
unfolding rows_of
rows_few [] h = refl
rows_few (c ∷ []) h = refl
rows_few (c ∷ n ∷ []) h = refl
rows_few (c ∷ n ∷ p ∷ t) h = absurd (omega arith)

pub rows_end : (table : List ℕ) (i : ℕ) → length table < i + 3 → rows_of (drop i table) ≡ []
rows_end table i h = rows_few (drop i table) (omega (arith, length-drop i table))

-- a table's rows, three numbers each
pub rows_chunks : (k : ℕ) (t : List ℕ) → k * 3 ≤ length t → length t < k * 3 + 3 → map row_of (first_chunks 3 k t) ≡ rows_of t
unfolding rows_of
rows_chunks zero t h g = sym (rows_few t g)
rows_chunks (suc k) [] h g = absurd (omega arith)
rows_chunks (suc k) (c ∷ []) h g = absurd (omega arith)
rows_chunks (suc k) (c ∷ n ∷ []) h g = absurd (omega arith)
rows_chunks (suc k) (c ∷ n ∷ p ∷ t) h g = ap (λ (rs : List Row). row c n p ∷ rs) (rows_chunks k t (omega arith) (omega arith))

-- rows that are put into a table are read back from it
pub table_length : (rs : List Row) → length (table_of rs) ≡ 3 * length rs
unfolding table_of
table_length [] = refl
table_length (r ∷ rs) = omega (arith, table_length rs)

pub rows_table : (rs : List Row) → rows_of (table_of rs) ≡ rs
unfolding rows_of table_of
rows_table [] = refl
rows_table (r ∷ rs) = ap (λ (qs : List Row). row r.code r.length r.place ∷ qs) (rows_table rs)

-- ---- a row's lean text

pub fewest_few : (n : ℕ) → fewest n ≤ 4
fewest_few n = (counted n).four

pub content_few : (c n : ℕ) → content_size c n ≤ n
unfolding content_size
content_few c n = go (eqb c L)
  where
    go : (b : Bool) → cond b 0 n ≤ n
    go true = omega arith
    go false = omega arith

pub header_length : (c n : ℕ) → length (lean_header c n) ≡ 1 + fewest n
header_length c n = omega (arith, length_bytes (fewest n) n)

module _ (s : List ℕ) (r : Row) where
  -- a list's row is its header alone
  pub list_text : r.code ≡ L → row_text s r ≡ lean_header r.code r.length
  unfolding row_text
  list_text e = rw (eq-eqb r.code L e) (append-nil (lean_header r.code r.length))

  -- another has its content behind
  pub plain_text : (r.code ≡ L → ⊥) → row_text s r ≡ lean_header r.code r.length ++ told r.code (part_at s r)
  unfolding row_text
  plain_text e = rw (ne_eqb r.code L e)

  -- the content as a part from the row's place to its end, and its length
  pub part_between : take (r.place + r.length - r.place) (drop r.place s) ≡ part_at s r
  part_between =
      let n : r.place + r.length - r.place ≡ r.length = omega arith in
      ap (λ (k : ℕ). take k (drop r.place s)) n

  pub part_length : r.place + r.length ≤ length s → length (part_at s r) ≡ r.length
  part_length h = simp (length-take, length-drop) (omega arith)

  -- a header is a part of the text, and a content that is there the rest
  pub header_within : length (lean_header r.code r.length) ≤ length (row_text s r)
  unfolding row_text
  header_within = omega (arith, length-append (lean_header r.code r.length) (cond (eqb r.code L) [] (told r.code (part_at s r))))

  pub plain_length : (r.code ≡ L → ⊥) → r.place + r.length ≤ length s → length (row_text s r) ≡ length (lean_header r.code r.length) + r.length
  plain_length n h =
      ap length (plain_text n) ∙ length-append (lean_header r.code r.length) (told r.code (part_at s r))
      ∙ ap (λ (k : ℕ). length (lean_header r.code r.length) + k) (told_length r.code (part_at s r) ∙ part_length h)

  -- a row's lean text is as long as its size says
  pub row_length : ((r.code ≡ L → ⊥) → r.place + r.length ≤ length s) → length (row_text s r) ≡ row_size r.code r.length
  unfolding row_size content_size
  row_length h = go (eqb r.code L) refl
    where
      go : (b : Bool) → eqb r.code L ≡ b → length (row_text s r) ≡ 1 + fewest r.length + cond b 0 r.length
      go true e = omega (arith, ap length (list_text (eqb-true r.code L e)), header_length r.code r.length)
      go false e =
          let n : r.code ≡ L → ⊥ = eqb-false r.code L e in
          omega (arith, plain_length n (h n), header_length r.code r.length)

-- and at most 5 bytes longer than its content
pub row_size_most : (c n : ℕ) → row_size c n ≤ 5 + n
unfolding row_size
row_size_most c n = omega (arith, fewest_few n, content_few c n)

-- rows that fit have a lean text as long as their sizes say
pub text_length : (s : List ℕ) (rs : List Row) → Each (Fits s) rs → length (text_of s rs) ≡ size_of rs
unfolding text_of size_of
text_length s [] f = refl
text_length s (r ∷ rs) (f, fs) =
    length-append (row_text s r) (text_of s rs) ∙ ap₂ (λ (m n : ℕ). m + n) (row_length s r f.within) (text_length s rs fs)

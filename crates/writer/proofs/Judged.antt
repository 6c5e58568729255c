-- Row by row: the levels behind each, and what the number of a row makes of the number of all.
use Prim.Native.Nat.{ℕ, ◌+◌, ◌%◌, ◌<◌, ◌≤◌}
use mathlib.Core.Path.{◌≡◌, refl, sym, ap, ◌∙◌}
use mathlib.Core.Bool.{Bool, true, false, cond, ◌&&◌}
use mathlib.Core.List.{List, [], ◌∷◌, map}
use mathlib.Core.Logic.{◌⊎◌, inl, inr}
use native.Mathlib.Omega.{arith}
use borrow.Author.Tests.{eq-eqb, ne_eqb, eqb-true, eqb-false}
use lib.Dec.{eqb, leb}
use lib.ListN.{length, get_or, drop}
use Rattle.std.specs.List.{list_all}
use Rattle.std.proofs.lemmas.List.{drop_more, drop_all}
use Rattle.refusal.specs.Number.{number_of}
use Rattle.refusal.specs.declared.Refusal.{Refusal}
use Rattle.refusal.proofs.Once.{some_number}
use Rattle.item.specs.Code.{L, kind_of}
use Rattle.levels.specs.Levels.{began, leaving}
use Rattle.levels.proofs.Laws.{leaving_length}
use Rattle.rows.specs.declared.Row.{Row}
use Rattle.rows.specs.Row.{row_of, rows_of, row_size, size_of}
use Rattle.writer.specs.Writing.{at_most, list_number, number_as, rows_number, row_number, levels_behind, end_number, judged_from}

-- each byte is at most m: by the iterator's test of all
pub all_within : (m : ℕ) (s : List ℕ) → at_most m s ≡ list_all (λ b. leb b m) s
all_within m [] = refl
all_within m (b ∷ s) = go (leb b m) (all_within m s)
  where
    go : (t : Bool) → at_most m s ≡ list_all (λ b. leb b m) s → cond t (at_most m s) false ≡ (t && list_all (λ b. leb b m) s)
    go true e = e
    go false e = refl

-- ---- a row by its code's kind, where an item is awaited

pub none_open : (s st : List ℕ) (r : Row) → length st ≡ 0 → row_number s st r ≡ 15
unfolding row_number
none_open s [] r e = refl
none_open s (m ∷ st) r e = absurd (omega arith)

pub some_open : (s st : List ℕ) (r : Row) → (length st ≡ 0 → ⊥) → row_number s st r ≡ number_as (kind_of r.code) s st r
unfolding row_number
some_open s [] r n = absurd (n refl)
some_open s (m ∷ st) r n = refl

-- ---- a list's row

pub row_list : (s st : List ℕ) (r : Row) → row_number s st r ≡ 0 → r.code ≡ L → list_number st r ≡ 0
unfolding row_number kind_of
row_list s [] r z e = absurd (omega arith)
row_list s (m ∷ st) r z e = sym (ap (λ (c : ℕ). number_as (kind_of c) s (m ∷ st) r) e) ∙ z

-- a list's members have a level to go to
pub list_room : (st : List ℕ) (r : Row) → length st ≤ 16 → list_number st r ≡ 0 → (r.length ≡ 0 → ⊥) → length st < 16
list_room st r h z e = go (eqb (length st) 16) refl (rw (ne_eqb r.length 0 e) at z)
  where
    go : (b : Bool) → eqb (length st) 16 ≡ b → ◌≡◌ {A = ℕ} (cond b 4 0) 0 → length st < 16
    go true q y = absurd (omega arith)
    go false q y = let n : length st ≡ 16 → ⊥ = eqb-false (length st) 16 q in omega arith

pub began_length : (st : List ℕ) → length (began st) ≡ length st
began_length [] = refl
began_length (m ∷ st) = refl

-- ---- the levels behind a row

module _ (st : List ℕ) (r : Row) where
  pub behind_plain : (r.code ≡ L → ⊥) → levels_behind st r ≡ leaving (began st)
  unfolding levels_behind
  behind_plain e = rw (ne_eqb r.code L e)

  pub behind_list : r.code ≡ L → levels_behind st r ≡ leaving (r.length ∷ began st)
  unfolding levels_behind
  behind_list e = rw (eq-eqb r.code L e)

  pub behind_empty : r.code ≡ L → r.length ≡ 0 → levels_behind st r ≡ leaving (began st)
  unfolding leaving
  behind_empty e z = behind_list e ∙ rw (eq-eqb r.length 0 z)

  -- no list's members are awaited behind it
  pub behind_none : ((r.code ≡ L) × (r.length ≡ 0)) ⊎ (r.code ≡ L → ⊥) → levels_behind st r ≡ leaving (began st)
  behind_none (inl (e, z)) = behind_empty e z
  behind_none (inr e) = behind_plain e

  pub behind_members : r.code ≡ L → (r.length ≡ 0 → ⊥) → levels_behind st r ≡ r.length ∷ began st
  unfolding leaving
  behind_members e z = behind_list e ∙ rw (ne_eqb r.length 0 z)

  -- are at most 16
  pub behind_few : length st ≤ 16 → (r.code ≡ L → list_number st r ≡ 0) → length (levels_behind st r) ≤ 16
  behind_few h z = go (eqb r.code L) refl (eqb r.length 0) refl
    where
      left : levels_behind st r ≡ leaving (began st) → length (levels_behind st r) ≤ 16
      left e = rw e (omega (arith, leaving_length (began st), began_length st))

      go : (a : Bool) → eqb r.code L ≡ a → (b : Bool) → eqb r.length 0 ≡ b → length (levels_behind st r) ≤ 16
      go false e b f = left (behind_plain (eqb-false r.code L e))
      go true e true f = left (behind_empty (eqb-true r.code L e) (eqb-true r.length 0 f))
      go true e false f =
          let c : r.code ≡ L = eqb-true r.code L e in
          let n : r.length ≡ 0 → ⊥ = eqb-false r.length 0 f in
          rw (behind_members c n) (omega (arith, list_room st r h (z c) n, began_length st))

-- ---- rows

-- a table of whole rows that is not empty has a row
pub some_rows : (s table : List ℕ) → length table % 3 ≡ 0 → (length table ≡ 0 → ⊥) → rows_number s (rows_of table) ≡ judged_from s (1 ∷ []) (rows_of table)
unfolding rows_of judged_from
some_rows s [] z n = absurd (n refl)
some_rows s (c ∷ []) z n = absurd (omega arith)
some_rows s (c ∷ k ∷ []) z n = absurd (omega arith)
some_rows s (c ∷ k ∷ p ∷ t) z n = refl

-- the row that the i-th three numbers are, and those behind it
pub rows_next : (numbers : List (List ℕ)) (i : ℕ) (d : List ℕ) (r : Row) → r ≡ row_of (get_or numbers i d) → i < length numbers
    → map row_of (drop i numbers) ≡ r ∷ map row_of (drop (i + 1) numbers)
rows_next numbers i d r e h = ap (map row_of) (drop_more numbers i d h) ∙ ap (λ (x : Row). x ∷ map row_of (drop (i + 1) numbers)) (sym e)

pub rows_done : (numbers : List (List ℕ)) (i : ℕ) → length numbers ≤ i → map row_of (drop i numbers) ≡ []
rows_done numbers i h = ap (map row_of) (drop_all i numbers h)

-- and their sizes
pub sizes_from : (numbers : List (List ℕ)) (i : ℕ) (d : List ℕ) (r : Row) → r ≡ row_of (get_or numbers i d) → i < length numbers
    → size_of (map row_of (drop i numbers)) ≡ row_size r.code r.length + size_of (map row_of (drop (i + 1) numbers))
unfolding size_of
sizes_from numbers i d r e h = ap size_of (rows_next numbers i d r e h)

pub sizes_none : (numbers : List (List ℕ)) (i : ℕ) → length numbers ≤ i → size_of (map row_of (drop i numbers)) ≡ 0
unfolding size_of
sizes_none numbers i h = ap size_of (rows_done numbers i h)

-- a row in order hands on to the next, and another's number is the rows'
pub judged_on : (s st : List ℕ) (r : Row) (rs all : List Row) → all ≡ r ∷ rs → row_number s st r ≡ 0
    → judged_from s st all ≡ judged_from s (levels_behind st r) rs
unfolding judged_from
judged_on s st r rs all e z = ap (judged_from s st) e ∙ rw (eq-eqb (row_number s st r) 0 z)

pub judged_stop : (s st : List ℕ) (r : Row) (rs all : List Row) → all ≡ r ∷ rs → (row_number s st r ≡ 0 → ⊥)
    → judged_from s st all ≡ row_number s st r
unfolding judged_from
judged_stop s st r rs all e n = ap (judged_from s st) e ∙ rw (ne_eqb (row_number s st r) 0 n)

pub judged_refused : (s st : List ℕ) (r : Row) (rs all : List Row) (e : Refusal) → all ≡ r ∷ rs → number_of e ≡ row_number s st r
    → number_of e ≡ judged_from s st all
judged_refused s st r rs all e a n = n ∙ sym (judged_stop s st r rs all a (λ z. omega (arith, some_number e, n, z)))

pub judged_end : (s st : List ℕ) (all : List Row) → all ≡ [] → judged_from s st all ≡ end_number st
unfolding judged_from
judged_end s st all e = ap (judged_from s st) e

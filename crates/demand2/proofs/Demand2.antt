-- Demand 2, of what the calls promise: a good text's rows are its tree's and stand for its lean form; what is written says the meaning of the rows' tree.
use Prim.Native.Nat.{ℕ, ◌+◌, ◌*◌, ◌%◌, ◌≤◌, ◌<◌}
use mathlib.Core.Path.{◌≡◌, refl, sym, ap, subst, ◌∙◌}
use mathlib.Core.Bool.{Bool, true, false, cond}
use mathlib.Core.List.{List, ◌++◌}
use mathlib.Core.Logic.{◌↔◌}
use native.Mathlib.Omega.{arith}
use borrow.Author.Tests.{eq-eqb, ne_eqb, le-leb, lt-leb, eqb-true, leb-true}
use lib.Dec.{eqb, leb}
use lib.ListN.{length, take, drop}
use lib.Seq.{take_at}
use Rattle.wire.specs.Longest.{longest}
use Rattle.wire.specs.Number.{AtMost}
use Rattle.item.specs.Code.{L, kind_of}
use Rattle.item.specs.Item.{Tree, Content, Says, Good, Lean, meaning_of, lean_of}
use Rattle.item.specs.declared.Form.TheVariants.{Good as good, Lean as lean}
use Rattle.item.proofs.Codes.{of_plain, plain_not_list}
use Rattle.item.proofs.Laws as laws
use Rattle.item.proofs.Reading as reading
use Rattle.wire.specs.Lists.{Each}
use Rattle.rows.specs.Row.{rows_of, table_of, part_at, text_of}
use Rattle.rows.specs.Rows.{Has, rows_of_text, rows_in}
use Rattle.rows.specs.declared.Row.{Row}
use Rattle.rows.proofs.Tables.{table_length, rows_table}
use Rattle.rows.proofs.Trees.{tree_each, tree_text, tree_size, tree_spells, tree_once}
use Rattle.rows.proofs.Walk.{text_walked, text_has, good_sound}
use Rattle.text.specs.Text.{judged_of, read_of, part_number_as, part_number, part_of}
use Rattle.refusal.specs.Answer.{Counted}
use Rattle.refusal.specs.Answer.{Is, Refused}
use Rattle.text.proofs.Judged.{judged_good, judged_range}
use Rattle.writer.specs.Writing.{rows_number, table_number, used_of, written_of, leaned_of}
use Rattle.wire.specs.Lent.{out_after}
use Rattle.writer.proofs.OneItem.{has_taken, taken_has}
use Rattle.writer.proofs.Leaned.{tree_written}
use Rattle.demand2.specs.Calls.{read, write, write_lean}
use Rattle.demand2.specs.Back.{Part, Back}
use Rattle.demand2.proofs.Alike.{tree_alike, alike_many}

-- ---- rows and trees

-- ROWS ARE NONE OR ONE WHOLE ITEM, WITH GOOD CONTENTS, EXACTLY WHEN SOME TREE HAS THEM, and no two trees have the same rows.
pub rows_of_a_tree : (s : List ℕ) (rs : List Row) → (rows_number s rs ≡ 0) ↔ ((w : Tree) × Has s w rs)
rows_of_a_tree s rs = (taken_has s rs, λ (w, h). has_taken s w rs h)

pub one_tree : (s : List ℕ) (w w' : Tree) (rs : List Row) → Has s w rs → Has s w' rs → w ≡ w'
one_tree = tree_once

-- ---- what is written

module _ (table s out : List ℕ) (w : Tree) (whole : length table % 3 ≡ 0) (has : Has s w (rows_of table)) where
  used : written_of table s (length out) ≡ used_of (length (lean_of w)) (length out)
  used = tree_written table s (length out) w whole has

  -- Rows of a tree are written as its lean form, and the bytes used are that form's; 18 where it is above 32,000 bytes, then 17 where the output is shorter.
  pub writes_lean : length (lean_of w) ≤ longest → length (lean_of w) ≤ length out
      → write table s out ≡ (Is (length (lean_of w)), lean_of w ++ drop (length (lean_of w)) out)
  writes_lean few room =
      let e : written_of table s (length out) ≡ Is (length (lean_of w))
      = used ∙ rw (le-leb (length (lean_of w)) longest few, le-leb (length (lean_of w)) (length out) room) in
      rw (e, tree_text w s (rows_of table) has)

  pub too_long : longest < length (lean_of w) → write table s out ≡ (Refused 18, out)
  too_long many =
      let e : written_of table s (length out) ≡ Refused 18 = used ∙ rw (lt-leb (length (lean_of w)) longest many) in
      rw e

  pub too_short : length (lean_of w) ≤ longest → length out < length (lean_of w) → write table s out ≡ (Refused 17, out)
  too_short few less =
      let e : written_of table s (length out) ≡ Refused 17 = used ∙ rw (le-leb (length (lean_of w)) longest few, lt-leb (length (lean_of w)) (length out) less) in
      rw e

-- ---- a row's content

list_part : {t : List ℕ} (r : Row) → r.code ≡ L → Part t r
unfolding part_number part_of kind_of
list_part r e = record { of_list = λ _. (rw e, rw e); of_other = λ n. absurd (n e) }

plain_part : {t : List ℕ} (r : Row) → r.place + r.length ≤ length t → Content good r.code (part_at t r) → Part t r
unfolding part_number part_of
plain_part {t} r within con =
    let inside : part_number_as (kind_of r.code) true ≡ 0 = of_plain (λ k. part_number_as k true ≡ 0) (kind_of r.code) con.known (λ _. refl) in
    let number : part_number t r ≡ 0 = rw (le-leb (r.place + r.length) (length t) within) inside in
    record { of_list = λ e. absurd (plain_not_list r.code con.known e); of_other = λ _. (number, rw (eq-eqb (part_number t r) 0 number)) }

-- ---- what is read

module _ (t : List ℕ) (w : Tree) (s : Says good w t) where
  judged : judged_of t ≡ 0
  judged = (judged_good t (laws.good_bytes t w s)).1 (w, s)

  rows_are : rows_in t ≡ rows_of_text w t s
  rows_are = (text_walked w t s).0

  -- A GOOD TEXT IS READ INTO THE ROWS OF THE DEFINITION: code, length and place of each item in order of appearance, as many as there are; later
  -- numbers are unchanged. Or 19, and the table as it was.
  pub reads_rows : (table : List ℕ) → 3 * length (rows_of_text w t s) ≤ length table
      → read t table ≡ (Is (length (rows_of_text w t s)), table_of (rows_of_text w t s) ++ drop (3 * length (rows_of_text w t s)) table)
  unfolding read_of
  reads_rows table room = rw (← rows_are) (go (subst (λ (rs : List Row). 3 * length rs ≤ length table) (sym rows_are) room))
    where
      go : 3 * length (rows_in t) ≤ length table → read t table ≡ (Is (length (rows_in t)), table_of (rows_in t) ++ drop (3 * length (rows_in t)) table)
      go room = rw (eq-eqb (judged_of t) 0 judged, le-leb (3 * length (rows_in t)) (length table) room)

  pub table_too_small : (table : List ℕ) → length table < 3 * length (rows_of_text w t s) → read t table ≡ (Refused 19, table)
  unfolding read_of
  table_too_small table small = go (subst (λ (rs : List Row). length table < 3 * length rs) (sym rows_are) small)
    where
      go : length table < 3 * length (rows_in t) → read t table ≡ (Refused 19, table)
      go small = rw (eq-eqb (judged_of t) 0 judged, lt-leb (3 * length (rows_in t)) (length table) small)

  -- The content of each of these rows that is no list's can be had as a part of the text, and is the item's; a list's is 9.
  pub parts_there : Each (Part t) (rows_of_text w t s)
  parts_there = subst (Each (Part t)) rows_are (tree_each t (Part t) list_part plain_part w (rows_in t) (text_has t w s))

  -- ---- read, then write

  -- a table that was read into begins with the rows
  filled : (table : List ℕ) → 3 * length (rows_of_text w t s) ≤ length table → take (3 * length (rows_of_text w t s)) (read t table).1 ≡ table_of (rows_of_text w t s)
  filled table room =
      ap (λ (x : Counted × List ℕ). take (3 * length (rows_of_text w t s)) x.1) (reads_rows table room)
      ∙ take_at (table_of (rows_of_text w t s)) _ (3 * length (rows_of_text w t s)) (table_length (rows_of_text w t s))

  has_rows : Has t w (rows_of (table_of (rows_of_text w t s)))
  has_rows = rw (rows_table, ← rows_are) (text_has t w s)

  short : length (lean_of w) ≤ longest
  short = omega (arith, laws.shortest t t w w s s refl, (good_sound t w s).short)

  -- READ, THEN WRITE: the output is the lean form of the text, and the rest of it stays.
  pub read_then_write : (table out : List ℕ) → 3 * length (rows_of_text w t s) ≤ length table → length (lean_of w) ≤ length out
      → write (take (3 * length (rows_of_text w t s)) (read t table).1) t out ≡ (Is (length (lean_of w)), lean_of w ++ drop (length (lean_of w)) out)
  read_then_write table out room fits =
      ap (λ (x : List ℕ). write x t out) (filled table room)
      ∙ writes_lean (table_of (rows_of_text w t s)) t out w (omega (arith, table_length (rows_of_text w t s))) has_rows short fits

  -- The same in one call, which answers both.
  pub in_one_call : (table out : List ℕ) → 3 * length (rows_of_text w t s) ≤ length table → length (lean_of w) ≤ length out
      → write_lean t table out
      ≡ (Is (length (lean_of w)), table_of (rows_of_text w t s) ++ drop (3 * length (rows_of_text w t s)) table, lean_of w ++ drop (length (lean_of w)) out)
  unfolding leaned_of
  in_one_call table out room fits = rw (← rows_are) (go (subst (λ (rs : List Row). 3 * length rs ≤ length table) (sym rows_are) room))
    where
      go : 3 * length (rows_in t) ≤ length table
          → write_lean t table out ≡ (Is (length (lean_of w)), table_of (rows_in t) ++ drop (3 * length (rows_in t)) table, lean_of w ++ drop (length (lean_of w)) out)
      go room =
          let size = tree_size w t (rows_in t) (text_has t w s) in
          let fit = le-leb (length (lean_of w)) (length out) fits in
          rw (eq-eqb (judged_of t) 0 judged, le-leb (3 * length (rows_in t)) (length table) room, size, fit, tree_text w t (rows_in t) (text_has t w s))

  -- and it equals the text exactly when the text was lean
  pub equal_when_lean : Lean t ↔ (t ≡ lean_of w)
  equal_when_lean = laws.own_lean_form t w s

-- A text that is not good has a number from 1 to 6, and nothing is read or written.
pub not_good : (t table out : List ℕ) → AtMost 0xFF t → (Good t → ⊥)
    → (e : ℕ) × (1 ≤ e) × (e ≤ 6) × (read t table ≡ (Refused e, table)) × (write_lean t table out ≡ (Refused e, table, out))
unfolding read_of leaned_of
not_good t table out b h =
    let z : judged_of t ≡ 0 → ⊥ = λ e. h ((judged_good t b).0 e) in
    (judged_of t, omega arith, judged_range t b, rw (ne_eqb (judged_of t) 0 z), rw (ne_eqb (judged_of t) 0 z))

-- ---- write, then read

-- what the answer tells
record Answered (table s : List ℕ) (n : ℕ) : Type 0 where
  whole : length table % 3 ≡ 0
  taken : rows_number s (rows_of table) ≡ 0
  few : length (text_of s (rows_of table)) ≤ longest
  is : n ≡ length (text_of s (rows_of table))

answered : (table s : List ℕ) (room n : ℕ) → written_of table s room ≡ Is n → Answered table s n
unfolding written_of table_number
answered table s room n e = go (eqb (length table % 3) 0) refl (eqb (rows_number s (rows_of table)) 0) refl (leb size longest) refl (leb size room) e
  where
    size : ℕ
    size = length (text_of s (rows_of table))

    number : Bool → ℕ
    number a = cond a (rows_number s (rows_of table)) 15

    clash : (k : ℕ) → Refused k ≡ Is n → Answered table s n
    clash k q = let z : ◌≡◌ {A = ℕ} 0 1 = cc in absurd (omega arith)

    go : (a : Bool) → eqb (length table % 3) 0 ≡ a → (b : Bool) → eqb (rows_number s (rows_of table)) 0 ≡ b
        → (c : Bool) → leb size longest ≡ c → (d : Bool)
        → cond (eqb (number a) 0) (cond c (cond d (Is size) (Refused 17)) (Refused 18)) (Refused (number a)) ≡ Is n
        → Answered table s n
    go false f b g c h d q = clash 15 q
    go true f false g c h d q = clash _ (rw g at q)
    go true f true g false h d q = clash 18 (rw g at q)
    go true f true g true h false q = clash 17 (rw g at q)
    go true f true g true h true q =
        let r = rw g at q in
        record {
          whole = eqb-true (length table % 3) 0 f;
          taken = eqb-true (rows_number s (rows_of table)) 0 g;
          few = leb-true size longest h;
          is = cc;
        }

-- WRITE, THEN READ.
pub write_then_read : (table s out : List ℕ) (n : ℕ) → (write table s out).0 ≡ Is n → Back table s out n
write_then_read table s out n e =
    let a = answered table s (length out) n e in
    let x = text_of s (rows_of table) in
    let (w, h) = taken_has s (rows_of table) a.taken in
    let is = tree_text w s (rows_of table) h in
    let l : Says lean (meaning_of w) x = subst (Says lean (meaning_of w)) (sym is) (tree_spells w s (rows_of table) h (omega (arith, a.few, ap length is))) in
    let g = laws.lean_is_good x (meaning_of w) l in
    let back : Has x (meaning_of w) (rows_of_text (meaning_of w) x g)
    = subst (Has x (meaning_of w)) (text_walked (meaning_of w) x g).0 (text_has x (meaning_of w) g) in
    record {
      text = x;
      tree = w;
      has = h;
      used = a.is;
      output = ap (λ (y : Counted). out_after y x out) e;
      is_lean = l;
      is_good = g;
      rows = back;
      same_tree = laws.lean_meaning_own x (meaning_of w) l;
      same_rows = tree_alike s x w (rows_of table) (rows_of_text (meaning_of w) x g) h back;
      as_many = alike_many s x (rows_of table) (rows_of_text (meaning_of w) x g) (tree_alike s x w (rows_of table) (rows_of_text (meaning_of w) x g) h back);
    }

-- ---- equal meanings

-- EQUAL MEANINGS, EQUAL LEAN BYTES, and the other way round: of texts, and of rows that can be written.
pub equal_texts : (t t' : List ℕ) (w w' : Tree) → Says good w t → Says good w' t' → (meaning_of w ≡ meaning_of w') ↔ (lean_of w ≡ lean_of w')
equal_texts = laws.equal_meanings

pub equal_rows : (s s' : List ℕ) (rs rs' : List Row) (w w' : Tree) → Has s w rs → Has s' w' rs'
    → length (text_of s rs) ≤ longest → length (text_of s' rs') ≤ longest
    → (meaning_of w ≡ meaning_of w') ↔ (text_of s rs ≡ text_of s' rs')
equal_rows s s' rs rs' w w' h h' few few' =
    let e = tree_text w s rs h in
    let e' = tree_text w' s' rs' h' in
    let l = tree_spells w s rs h (omega (arith, few, ap length e)) in
    let l' = tree_spells w' s' rs' h' (omega (arith, few', ap length e')) in (
      (λ m. e ∙ sym (laws.lean_of_meaning w) ∙ ap lean_of m ∙ laws.lean_of_meaning w' ∙ sym e'),
      λ q. reading.tree_once lean lean (meaning_of w) (meaning_of w') (lean_of w) l (subst (Says lean (meaning_of w')) (sym (sym e ∙ q ∙ e')) l'),
    )

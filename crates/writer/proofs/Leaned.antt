-- Rows that a tree has are written as its lean form; a good text's are, and no refusal is left, since its lean form is no longer than it.
use Prim.Native.Nat.{ℕ, ◌*◌, ◌%◌, ◌≤◌, ◌<◌}
use mathlib.Core.Path.{◌≡◌, sym, ap, subst, ◌∙◌}
use mathlib.Core.List.{List, ◌++◌}
use native.Mathlib.Omega.{arith}
use borrow.Author.Tests.{eq-eqb, le-leb, lt-leb}
use lib.ListN.{length, take, drop}
use lib.Seq.{take_at}
use Rattle.wire.specs.Longest.{longest}
use Rattle.wire.specs.Number.{AtMost}
use Rattle.rows.specs.Row.{rows_of, table_of, text_of, size_of}
use Rattle.item.specs.Item.{Tree, lean_of}
use Rattle.rows.specs.Rows.{Has, rows_in}
use Rattle.rows.specs.declared.Row.{Row}
use Rattle.rows.proofs.Tables.{table_length, rows_table}
use Rattle.rows.proofs.Trees.{tree_text, tree_size}
use Rattle.rows.proofs.Walk.{text_has}
use Rattle.text.specs.Text.{judged_of, read_of, table_after}
use Rattle.refusal.specs.Answer.{Counted}
use Rattle.refusal.specs.Answer.{Is, Refused}
use Rattle.text.proofs.Judged.{judged_good, judged_sound, Known, is_read}
use Rattle.writer.specs.Writing.{table_number, used_of, written_of, leaned_of, rows_after}
use Rattle.wire.specs.Lent.{out_after}
use Rattle.writer.proofs.OneItem.{has_taken}

table_taken : (table s : List ℕ) (w : Tree) → length table % 3 ≡ 0 → Has s w (rows_of table) → table_number s table ≡ 0
unfolding table_number
table_taken table s w z h = rw (eq-eqb (length table % 3) 0 z) (has_taken s w (rows_of table) h)

-- the rows of a tree are written as its lean form, where that is not too long
pub tree_written : (table s : List ℕ) (room : ℕ) (w : Tree) → length table % 3 ≡ 0 → Has s w (rows_of table)
    → written_of table s room ≡ used_of (length (lean_of w)) room
unfolding written_of
tree_written table s room w z h =
    rw (eq-eqb (table_number s table) 0 (table_taken table s w z h)) (ap (λ (x : List ℕ). used_of (length x) room) (tree_text w s (rows_of table) h))

-- and those of a good text are, since its lean form is no longer than it
good_written : (t : List ℕ) → AtMost 0xFF t → judged_of t ≡ 0 → (room : ℕ) → size_of (rows_in t) ≤ room
    → written_of (table_of (rows_in t)) t room ≡ Is (size_of (rows_in t))
good_written t bytes good room h =
    let (w, s) = (judged_good t bytes).0 good in
    let has = text_has t w s in
    let n = tree_size w t (rows_in t) has in
    tree_written (table_of (rows_in t)) t room w (omega (arith, table_length (rows_in t))) (subst (Has t w) (sym (rows_table (rows_in t))) has)
    ∙ rw (← n, le-leb (size_of (rows_in t)) longest (judged_sound t bytes good).few, le-leb (size_of (rows_in t)) room h)

-- what the call makes of a text that is measured, a table and an output
module _ (t table out : List ℕ) (rows bytes : ℕ) (k : Known t rows bytes) where
  pub too_small : length table < 3 * rows → Refused 19 ≡ leaned_of t (length table) (length out)
  unfolding leaned_of
  too_small h = rw (eq-eqb (judged_of t) 0 k.good, lt-leb (3 * length (rows_in t)) (length table) (omega (arith, k.rows_are)))

  module _ (room : 3 * rows ≤ length table) where
    pub too_short : length out < bytes → Refused 17 ≡ leaned_of t (length table) (length out)
    unfolding leaned_of
    too_short h =
        let few = le-leb (3 * length (rows_in t)) (length table) (omega (arith, k.rows_are)) in
        rw (eq-eqb (judged_of t) 0 k.good, few, lt-leb (size_of (rows_in t)) (length out) (omega (arith, k.bytes_are)))

    module _ (fits : bytes ≤ length out) (at_most : AtMost 0xFF t) where
      leaned : Is (size_of (rows_in t)) ≡ leaned_of t (length table) (length out)
      unfolding leaned_of
      leaned =
          let few = le-leb (3 * length (rows_in t)) (length table) (omega (arith, k.rows_are)) in
          rw (eq-eqb (judged_of t) 0 k.good, few, le-leb (size_of (rows_in t)) (length out) (omega (arith, k.bytes_are)))

      -- the table that is read into, and its part that is written from
      filled : (q : Counted) (after : List ℕ) → q ≡ read_of t (length table) → after ≡ table_after q t table
          → after ≡ table_of (rows_in t) ++ drop (3 * length (rows_in t)) table
      filled q after e f =
          f ∙ ap (λ (x : Counted). table_after x t table) (e ∙ sym (is_read t rows bytes (length table) k room))
          ∙ ap (λ (n : ℕ). table_of (rows_in t) ++ drop (3 * n) table) k.rows_are

      front : (after : List ℕ) → after ≡ table_of (rows_in t) ++ drop (3 * length (rows_in t)) table → take (3 * rows) after ≡ table_of (rows_in t)
      front after e =
          let n : length (table_of (rows_in t)) ≡ 3 * rows = omega (arith, table_length (rows_in t), k.rows_are) in
          ap (take (3 * rows)) e ∙ take_at (table_of (rows_in t)) _ (3 * rows) n

      pub written : (q r : Counted) (after last : List ℕ) → q ≡ read_of t (length table) → after ≡ table_after q t table
          → r ≡ written_of (take (3 * rows) after) t (length out) → last ≡ out_after r (text_of t (rows_of (take (3 * rows) after))) out
          → (r ≡ leaned_of t (length table) (length out)) × (after ≡ rows_after r t table) × (last ≡ out_after r (text_of t (rows_in t)) out)
      written q r after last e f g h =
          let full = filled q after e f in
          let x = front after full in
          let is : r ≡ Is (size_of (rows_in t)) =
          g ∙ ap (λ (y : List ℕ). written_of y t (length out)) x ∙ good_written t at_most k.good (length out) (omega (arith, k.bytes_are)) in
          let same : rows_of (take (3 * rows) after) ≡ rows_in t = ap rows_of x ∙ rows_table (rows_in t) in
          (is ∙ leaned, full ∙ sym (ap (λ (y : Counted). rows_after y t table) is), h ∙ ap (λ (y : List Row). out_after r (text_of t y) out) same)

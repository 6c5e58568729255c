-- The walk from format byte to format byte meets the items of a good text in order: each header says how many bytes belong to its row, and the walk goes
-- on behind them.
use Prim.Native.Nat.{ℕ, zero, suc, ◌+◌, ◌*◌, ◌/◌, ◌%◌, ◌≤◌}
use mathlib.Core.Path.{◌≡◌, refl, sym, ap, ap₂, subst, ◌∙◌}
use mathlib.Core.Bool.{true}
use mathlib.Core.List.{List, [], ◌∷◌, ◌++◌, append_assoc, append-nil}
use native.Mathlib.Omega.{arith}
use borrow.Author.Tests.{ne_eqb}
use lib.ListN.{length, take, drop, length-append}
use lib.Seq.{take_at, drop_at}
use Rattle.wire.specs.Longest.{longest}
use Rattle.wire.specs.Number.{number_of}
use Rattle.item.specs.Code.{L, kind_of, is_plain}
use Rattle.item.specs.Item.{Item, Items, plain, list, none, more, count, Tree, empty, one, Lengths, header, Spells, SpellsAll, Says}
use Rattle.item.specs.declared.Form.TheVariants.{Good as good}
use Rattle.item.proofs.Codes.{plain_not_list}
use Rattle.item.proofs.Laws.{shortest}
use Rattle.rows.specs.Row.{row, content_size}
use Rattle.rows.specs.Rows.{HasItem, HasAll, Has, item_rows, items_rows, rows_of_text, own_bytes, rows_from, rows_in}
use Rattle.rows.specs.Asked.{Ends, Sound}
use Rattle.rows.specs.declared.Row.{Row}
use Rattle.rows.proofs.Trees.{tree_size}

-- from place p, with k bytes still to pass, to place q with m, by these rows
pub record Walked (p k q m : ℕ) (t v : List ℕ) (rs : List Row) : Type 0 where
  pub rows : rows_from p k t ≡ rs ++ rows_from q m v
  pub ends : Ends m v → Ends k t

then : (p k q m o n : ℕ) (t v w : List ℕ) (rs qs : List Row) → Walked p k q m t v rs → Walked q m o n v w qs → Walked p k o n t w (rs ++ qs)
then p k q m o n t v w rs qs a b =
    record {
      rows = a.rows ∙ ap (λ (x : List Row). rs ++ x) b.rows ∙ sym (append_assoc rs qs (rows_from o n w));
      ends = λ e. a.ends (b.ends e);
    }

-- bytes of the last row are passed over
pub passed : (x v : List ℕ) (p k j : ℕ) → j ≡ length x + k → Walked p j (p + length x) k (x ++ v) v []
unfolding rows_from Ends
passed [] v p k j h =
    let e : p + 0 ≡ p = omega arith in
    let z : j ≡ k = omega arith in
    record { rows = ap₂ (λ (q i : ℕ). rows_from q i v) (sym e) z; ends = subst (λ (i : ℕ). Ends i v) (sym z) }
passed (b ∷ x) v p k zero h = absurd (omega arith)
passed (b ∷ x) v p k (suc j) h =
    let e : suc p + length x ≡ p + suc (length x) = omega arith in
    let w = passed x v (suc p) k j (omega arith) in
    record { rows = w.rows ∙ ap (λ (q : ℕ). rows_from q k v) e; ends = w.ends }

-- a header gives its row
module _ (c n : ℕ) (ls y : List ℕ) (lens : Lengths good ls n) where
  code_is : (c * 4 + length ls) / 4 ≡ c
  code_is = omega (arith, lens.few)

  many_are : (c * 4 + length ls) % 4 ≡ length ls
  many_are = omega (arith, lens.few)

  length_is : number_of (take ((c * 4 + length ls) % 4) (ls ++ y)) ≡ n
  length_is = rw many_are (ap number_of (take_at ls y (length ls) refl) ∙ lens.says)

  headed : (p : ℕ) → Walked p 0 (p + 1 + length ls) (content_size c n) (header c ls ++ y) y (row c n (p + 1 + length ls) ∷ [])
  unfolding rows_from Ends
  headed p =
      let own : own_bytes (c * 4 + length ls) (ls ++ y) ≡ length ls + content_size c n = ap₂ (λ (a b : ℕ). a + b) many_are (ap₂ content_size code_is length_is) in
      let e : suc p + length ls ≡ p + 1 + length ls = omega arith in
      let w = passed ls y (suc p) (content_size c n) (own_bytes (c * 4 + length ls) (ls ++ y)) own in
      record {
        rows = ap₂ (λ (a : Row) (b : List Row). a ∷ b) (rw (code_is, length_is, many_are)) (w.rows ∙ ap (λ (q : ℕ). rows_from q (content_size c n) y) e);
        ends = w.ends;
      }

-- the bytes of an item's own, behind its header
own_content : (c n : ℕ) → is_plain (kind_of c) ≡ true → content_size c n ≡ n
unfolding content_size
own_content c n k = rw (ne_eqb c L (plain_not_list c k))

own_none : (n : ℕ) → content_size L n ≡ 0
unfolding content_size
own_none n = refl

mutual
  unfolding item_rows

  item_walked : (i : Item) (d : ℕ) (u v : List ℕ) (s : Spells good d i u) (p : ℕ) → Walked p 0 (p + length u) 0 (u ++ v) v (item_rows i d u s p)
  item_walked (plain c x) d u v (ls, e, lens, con, deep) p =
      let t : u ++ v ≡ header c ls ++ (x ++ v) = ap (λ (y : List ℕ). y ++ v) e ∙ append_assoc (header c ls) x v in
      let n : p + 1 + length ls + length x ≡ p + length u = omega (arith, ap length e, length-append (header c ls) x) in
      let z : content_size c (length x) ≡ length x + 0 = own_content c (length x) con.known ∙ omega arith in
      rw (t, ← n) (then p 0 (p + 1 + length ls) (content_size c (length x)) (p + 1 + length ls + length x) 0 _ (x ++ v) v _ []
      (headed c (length x) ls (x ++ v) lens p) (passed x v (p + 1 + length ls) 0 (content_size c (length x)) z))
  item_walked (list is) d u v (ls, body, e, lens, all, deep) p =
      let t : u ++ v ≡ header L ls ++ (body ++ v) = ap (λ (y : List ℕ). y ++ v) e ∙ append_assoc (header L ls) body v in
      let n : p + 1 + length ls + length body ≡ p + length u = omega (arith, ap length e, length-append (header L ls) body) in
      let h = headed L (count is) ls (body ++ v) lens p in
      rw (t, ← n) (then p 0 (p + 1 + length ls) 0 (p + 1 + length ls + length body) 0 _ (body ++ v) v _ _
      (subst (λ (k : ℕ). Walked p 0 (p + 1 + length ls) k (header L ls ++ (body ++ v)) (body ++ v) (row L (count is) (p + 1 + length ls) ∷ []))
      (own_none (count is)) h)
      (items_walked is (suc d) body v all (p + 1 + length ls)))

  items_walked : (is : Items) (d : ℕ) (u v : List ℕ) (s : SpellsAll good d is u) (p : ℕ) → Walked p 0 (p + length u) 0 (u ++ v) v (items_rows is d u s p)
  items_walked none d u v e p =
      let n : p + length u ≡ p = omega (arith, ap length e) in
      rw (n, e) (record { rows = refl; ends = λ h. h })
  items_walked (more i is) d u v (a, b, e, s, all) p =
      let t : u ++ v ≡ a ++ (b ++ v) = ap (λ (y : List ℕ). y ++ v) e ∙ append_assoc a b v in
      let n : p + length a + length b ≡ p + length u = omega (arith, ap length e, length-append a b) in
      rw (t, ← n) (then p 0 (p + length a) 0 (p + length a + length b) 0 _ (b ++ v) v _ _
      (item_walked i d a (b ++ v) s p) (items_walked is d b v all (p + length a)))

-- the rows of a good text, read from its bytes, are those of the definition, and the walk ends with the text
pub text_walked : (w : Tree) (t : List ℕ) (s : Says good w t) → (rows_in t ≡ rows_of_text w t s) × Ends 0 t
unfolding rows_from Ends
text_walked empty t e = rw e (refl, tt)
text_walked (one i) t (s, few) =
    let k = item_walked i 1 t [] s 0 in
    let a : t ++ [] ≡ t = append-nil t in
    (ap (rows_from 0 0) (sym a) ∙ k.rows ∙ append-nil (item_rows i 1 t s 0), subst (Ends 0) a (k.ends tt))

-- ---- a good text's rows, with their contents in the text itself, are those of its tree

-- the item's bytes stand in t from place p on
pub record Lies (t u : List ℕ) (p : ℕ) : Type 0 where
  pub before : List ℕ
  pub behind : List ℕ
  pub at : length before ≡ p
  pub all : t ≡ before ++ (u ++ behind)

-- the later part of what lies there
later : (t u a b : List ℕ) (p q : ℕ) → u ≡ a ++ b → q ≡ p + length a → Lies t u p → Lies t b q
later t u a b p q e n l =
    record {
      before = l.before ++ a;
      behind = l.behind;
      at = length-append l.before a ∙ omega (arith, l.at);
      all =
          l.all ∙ ap (λ (y : List ℕ). l.before ++ y) (ap (λ (y : List ℕ). y ++ l.behind) e ∙ append_assoc a b l.behind)
          ∙ sym (append_assoc l.before a (b ++ l.behind));
    }

earlier : (t u a b : List ℕ) (p : ℕ) → u ≡ a ++ b → Lies t u p → Lies t a p
earlier t u a b p e l =
    record {
      before = l.before;
      behind = b ++ l.behind;
      at = l.at;
      all = l.all ∙ ap (λ (y : List ℕ). l.before ++ y) (ap (λ (y : List ℕ). y ++ l.behind) e ∙ append_assoc a b l.behind);
    }

lies_part : (t x : List ℕ) (p : ℕ) → Lies t x p → (x ≡ take (length x) (drop p t)) × (p + length x ≤ length t)
lies_part t x p l = (
  sym (rw (l.all, drop_at l.before (x ++ l.behind) p l.at) (take_at x l.behind (length x) refl)),
  omega (arith, l.at, ap length l.all, length-append l.before (x ++ l.behind), length-append x l.behind),
)

module _ (t : List ℕ) where
  mutual
    unfolding item_rows

    item_has : (i : Item) (d : ℕ) (u : List ℕ) (s : Spells good d i u) (p : ℕ) → Lies t u p → HasItem t d i (item_rows i d u s p)
    item_has (plain c x) d u (ls, e, lens, con, deep) p l =
        let part = lies_part t x (p + 1 + length ls) (later t u (header c ls) x p (p + 1 + length ls) e (omega arith) l) in
        (row c (length x) (p + 1 + length ls), refl, refl, part.1, part.0, con, deep)
    item_has (list is) d u (ls, body, e, lens, all, deep) p l = (
      row L (count is) (p + 1 + length ls),
      items_rows is (suc d) body all (p + 1 + length ls),
      refl,
      refl,
      refl,
      items_have is (suc d) body all (p + 1 + length ls) (later t u (header L ls) body p (p + 1 + length ls) e (omega arith) l),
      deep,
    )

    items_have : (is : Items) (d : ℕ) (u : List ℕ) (s : SpellsAll good d is u) (p : ℕ) → Lies t u p → HasAll t d is (items_rows is d u s p)
    items_have none d u e p l = refl
    items_have (more i is) d u (a, b, e, s, all) p l = (
      item_rows i d a s p,
      items_rows is d b all (p + length a),
      refl,
      item_has i d a s p (earlier t u a b p e l),
      items_have is d b all (p + length a) (later t u a b p (p + length a) e refl l),
    )

  pub text_has : (w : Tree) → Says good w t → Has t w (rows_in t)
  text_has w s = subst (Has t w) (sym (text_walked w t s).0) (go w s)
    where
      go : (w : Tree) (s : Says good w t) → Has t w (rows_of_text w t s)
      go empty e = refl
      go (one i) (s, few) = item_has i 1 t s 0 (record { before = []; behind = []; at = refl; all = sym (append-nil t) })

  -- so that its lean form is no longer than it, and the walk is sound
  pub good_sound : (w : Tree) → Says good w t → Sound t
  good_sound w s =
      record {
        short = short w s;
        ends = (text_walked w t s).1;
        few = omega (arith, tree_size w t (rows_in t) (text_has w s), shortest t t w w s s refl, short w s);
      }
    where
      short : (w : Tree) → Says good w t → length t ≤ longest
      short empty e = omega (arith, ap length e)
      short (one i) (s, few) = few

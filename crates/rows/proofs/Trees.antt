-- Rows that a tree has stand for its lean form, which spells its meaning, and no other tree has them. Each by induction on the tree.
use Prim.Native.Nat.{ℕ, suc, ◌+◌, ◌≤◌, ◌<◌, ◌^◌}
use mathlib.Core.Path.{◌≡◌, refl, sym, ap, ap₂, subst, ◌∙◌}
use mathlib.Core.List.{List, [], ◌∷◌, ◌++◌, append_assoc, append-nil}
use native.Mathlib.Nat.{suc_inj}
use native.Mathlib.Omega.{arith}
use lib.ListN.{length, length-append}
use Rattle.wire.specs.Longest.{longest}
use Rattle.wire.specs.Number.{bytes_of}
use Rattle.item.specs.Code.{L}
use Rattle.item.specs.Item.{Item, Items, plain, list, none, more, count, Tree, empty, one, fewest, Content, Lengths, Spells, SpellsAll}
use Rattle.item.specs.declared.Form.TheVariants.{Good as good, Lean as lean}
use Rattle.item.specs.Item.{Says, told, meaning, meanings, meaning_of, lean_header, lean_item, lean_items, lean_of}
use Rattle.item.proofs.Codes.{plain_not_list, plain_small}
use Rattle.item.proofs.Fewest.{lean_lengths}
use Rattle.item.proofs.Lean.{told_length, told_content, count_meanings}
use Rattle.wire.specs.Lists.{Each}
use Rattle.rows.specs.Row.{part_at, row_text, text_of, row_size, size_of}
use Rattle.rows.specs.Rows.{HasItem, HasAll, Has}
use Rattle.rows.specs.Asked.{Fits}
use Rattle.rows.specs.declared.Row.{Row}
use Rattle.rows.proofs.Tables.{list_text, plain_text, part_length, text_length}

pub text_append : (s : List ℕ) (u v : List Row) → text_of s (u ++ v) ≡ text_of s u ++ text_of s v
unfolding text_of
text_append s [] v = refl
text_append s (r ∷ u) v = ap (λ (t : List ℕ). row_text s r ++ t) (text_append s u v) ∙ sym (append_assoc (row_text s r) (text_of s u) (text_of s v))

-- ---- the text of a tree's rows is its lean form

mutual
  unfolding text_of lean_item

  pub item_text : (i : Item) (s : List ℕ) (d : ℕ) (rs : List Row) → HasItem s d i rs → text_of s rs ≡ lean_item i
  item_text (plain c x) s d rs (r, e, q, within, is, con, deep) =
      let n : length x ≡ r.length = ap length is ∙ part_length s r within in
      ap (text_of s) e ∙ append-nil (row_text s r) ∙ plain_text s r (λ z. plain_not_list c con.known (sym q ∙ z)) ∙ rw (q, ← is, ← n)
  item_text (list is) s d rs (r, ms, e, q, n, all, deep) =
      ap (text_of s) e ∙ ap₂ (λ (y z : List ℕ). y ++ z) (list_text s r q ∙ ap₂ lean_header q n) (items_text is s (suc d) ms all)

  pub items_text : (is : Items) (s : List ℕ) (d : ℕ) (rs : List Row) → HasAll s d is rs → text_of s rs ≡ lean_items is
  items_text none s d rs e = ap (text_of s) e
  items_text (more i is) s d rs (u, v, e, h, all) =
      ap (text_of s) e ∙ text_append s u v ∙ ap₂ (λ (y z : List ℕ). y ++ z) (item_text i s d u h) (items_text is s d v all)

pub tree_text : (w : Tree) (s : List ℕ) (rs : List Row) → Has s w rs → text_of s rs ≡ lean_of w
unfolding text_of
tree_text empty s rs e = ap (text_of s) e
tree_text (one i) s rs h = item_text i s 1 rs h

-- ---- a tree's rows can be written, in as many bytes as their sizes say

each_append : (P : Row → Type 0) (u v : List Row) → Each P u → Each P v → Each P (u ++ v)
each_append P [] v f g = g
each_append P (r ∷ u) v (f, fs) g = (f, each_append P u v fs g)

-- what holds of every list's row, and of every other row with its good content, holds of each row of a tree
module _ (s : List ℕ) (P : Row → Type 0) (of_list : (r : Row) → r.code ≡ L → P r)
    (of_plain : (r : Row) → r.place + r.length ≤ length s → Content good r.code (part_at s r) → P r) where
  mutual
    item_each : (i : Item) (d : ℕ) (rs : List Row) → HasItem s d i rs → Each P rs
    item_each (plain c x) d rs (r, e, q, within, is, con, deep) =
        subst (Each P) (sym e) (of_plain r within (subst (Content good r.code) is (subst (λ (k : ℕ). Content good k x) (sym q) con)), tt)
    item_each (list is) d rs (r, ms, e, q, n, all, deep) = subst (Each P) (sym e) (of_list r q, items_each is (suc d) ms all)

    items_each : (is : Items) (d : ℕ) (rs : List Row) → HasAll s d is rs → Each P rs
    items_each none d rs e = subst (Each P) (sym e) tt
    items_each (more i is) d rs (u, v, e, h, all) = subst (Each P) (sym e) (each_append P u v (item_each i d u h) (items_each is d v all))

  pub tree_each : (w : Tree) (rs : List Row) → Has s w rs → Each P rs
  tree_each empty rs e = subst (Each P) (sym e) tt
  tree_each (one i) rs h = item_each i 1 rs h

pub tree_fits : (w : Tree) (s : List ℕ) (rs : List Row) → Has s w rs → Each (Fits s) rs
tree_fits w s rs h =
    tree_each s (Fits s) (λ r q. record { small = omega arith; within = λ z. absurd (z q) })
    (λ r within con. record { small = plain_small r.code con.known; within = λ _. within }) w rs h

pub tree_size : (w : Tree) (s : List ℕ) (rs : List Row) → Has s w rs → size_of rs ≡ length (lean_of w)
tree_size w s rs h = sym (text_length s rs (tree_fits w s rs h)) ∙ ap length (tree_text w s rs h)

-- each row takes a byte or more
pub rows_fewer : (rs : List Row) → length rs ≤ size_of rs
unfolding size_of row_size
rows_fewer [] = omega arith
rows_fewer (r ∷ rs) = omega (arith, rows_fewer rs)

-- ---- the lean form spells the tree's meaning, unless it is too long

-- a list has no more members than bytes
items_fewer : (is : Items) (s : List ℕ) (d : ℕ) (rs : List Row) → HasAll s d is rs → count is ≤ length (lean_items is)
unfolding lean_item
items_fewer none s d rs e = omega arith
items_fewer (more (plain c x) is) s d rs (u, v, e, h, all) =
    omega (arith, items_fewer is s d v all, length-append (lean_item (plain c x)) (lean_items is))
items_fewer (more (list ms) is) s d rs (u, v, e, h, all) =
    omega (arith, items_fewer is s d v all, length-append (lean_item (list ms)) (lean_items is))

mutual
  unfolding meaning lean_item

  pub item_spells : (i : Item) (s : List ℕ) (d : ℕ) (rs : List Row) → HasItem s d i rs → length (lean_item i) < 2 ^ 24 → Spells lean d (meaning i) (lean_item i)
  item_spells (plain c x) s d rs (r, e, q, within, is, con, deep) few =
      let n = length-append (lean_header c (length x)) (told c x) in
      let lens = lean_lengths (length x) (omega (arith, n, told_length c x)) in (
        bytes_of (fewest (length x)) (length x),
        refl,
        subst (λ (m : ℕ). Lengths lean (bytes_of (fewest (length x)) (length x)) m) (sym (told_length c x)) lens,
        told_content c x con,
        deep,
      )
  item_spells (list is) s d rs (r, ms, e, q, n, all, deep) few =
      let m = length-append (lean_header L (count is)) (lean_items is) in
      let lens = lean_lengths (count is) (omega (arith, m, items_fewer is s (suc d) ms all)) in (
        bytes_of (fewest (count is)) (count is),
        lean_items is,
        refl,
        subst (λ (k : ℕ). Lengths lean (bytes_of (fewest (count is)) (count is)) k) (sym (count_meanings is)) lens,
        items_spell is s (suc d) ms all (omega (arith, m)),
        deep,
      )

  pub items_spell : (is : Items) (s : List ℕ) (d : ℕ) (rs : List Row) → HasAll s d is rs → length (lean_items is) < 2 ^ 24
      → SpellsAll lean d (meanings is) (lean_items is)
  items_spell none s d rs e few = refl
  items_spell (more i is) s d rs (u, v, e, h, all) few =
      let n = length-append (lean_item i) (lean_items is) in
      (lean_item i, lean_items is, refl, item_spells i s d u h (omega (arith, n)), items_spell is s d v all (omega (arith, n)))

pub tree_spells : (w : Tree) (s : List ℕ) (rs : List Row) → Has s w rs → length (lean_of w) ≤ longest → Says lean (meaning_of w) (lean_of w)
tree_spells empty s rs e few = refl
tree_spells (one i) s rs h few = (item_spells i s 1 rs h (omega arith), few)

-- ---- rows have one tree

pub record Same {X : Type 0} (i j : X) (v v' : List Row) : Type 0 where
  pub tree : i ≡ j
  pub rest : v ≡ v'

-- what stands behind a row, in two ways to part the same rows
behind_row : (u u' v v' ms ms' : List Row) (r r' : Row) → u ≡ r ∷ ms → u' ≡ r' ∷ ms' → u ++ v ≡ u' ++ v' → (r ≡ r') × (ms ++ v ≡ ms' ++ v')
behind_row u u' v v' ms ms' r r' e e' q =
    let z : r ∷ (ms ++ v) ≡ r' ∷ (ms' ++ v') = ap (λ (x : List Row). x ++ v) (sym e) ∙ q ∙ ap (λ (x : List Row). x ++ v') e' in
    (cc, cc)

module _ (s : List ℕ) where
  mutual
    pub item_once : (i j : Item) (d : ℕ) (u u' v v' : List Row) → HasItem s d i u → HasItem s d j u' → u ++ v ≡ u' ++ v' → Same i j v v'
    item_once (plain c x) (plain c' x') d u u' v v' (r, e, q, w, is, con, deep) (r', e', q', w', is', con', deep') k =
        let (p, rest) = behind_row u u' v v' [] [] r r' e e' k in
        record { tree = ap₂ plain (sym q ∙ ap (λ (y : Row). y.code) p ∙ q') (is ∙ ap (part_at s) p ∙ sym is'); rest = rest }
    item_once (plain c x) (list js) d u u' v v' (r, e, q, w, is, con, deep) (r', ms', e', q', n', all', deep') k =
        let (p, rest) = behind_row u u' v v' [] ms' r r' e e' k in
        absurd (plain_not_list c con.known (sym q ∙ ap (λ (y : Row). y.code) p ∙ q'))
    item_once (list is) (plain c' x') d u u' v v' (r, ms, e, q, n, all, deep) (r', e', q', w', is', con', deep') k =
        let (p, rest) = behind_row u u' v v' ms [] r r' e e' k in
        absurd (plain_not_list c' con'.known (sym q' ∙ ap (λ (y : Row). y.code) (sym p) ∙ q))
    item_once (list is) (list js) d u u' v v' (r, ms, e, q, n, all, deep) (r', ms', e', q', n', all', deep') k =
        let (p, rest) = behind_row u u' v v' ms ms' r r' e e' k in
        let o = items_once is js (suc d) ms ms' v v' (sym n ∙ ap (λ (y : Row). y.length) p ∙ n') all all' rest in
        record { tree = ap list o.tree; rest = o.rest }

    pub items_once : (is js : Items) (d : ℕ) (u u' v v' : List Row) → count is ≡ count js → HasAll s d is u → HasAll s d js u' → u ++ v ≡ u' ++ v'
        → Same is js v v'
    items_once none none d u u' v v' n e e' k = record { tree = refl; rest = rw (e, e') at k }
    items_once none (more j js) d u u' v v' n h h' k = absurd (omega arith)
    items_once (more i is) none d u u' v v' n h h' k = absurd (omega arith)
    items_once (more i is) (more j js) d u u' v v' n (a, b, e, h, all) (a', b', e', h', all') k =
        let z : a ++ (b ++ v) ≡ a' ++ (b' ++ v') = rw (← append_assoc a b v, ← append_assoc a' b' v', ← e, ← e') k in
        let o = item_once i j d a a' (b ++ v) (b' ++ v') h h' z in
        let p = items_once is js d b b' v v' (suc_inj n) all all' o.rest in
        record { tree = ap₂ more o.tree p.tree; rest = p.rest }

  some_rows : (i : Item) (d : ℕ) (rs : List Row) → HasItem s d i rs → rs ≡ [] → ⊥
  some_rows (plain c x) d rs h z = omega (arith, ap length (sym z ∙ h.1))
  some_rows (list is) d rs h z = omega (arith, ap length (sym z ∙ h.2))

  pub tree_once : (w w' : Tree) (rs : List Row) → Has s w rs → Has s w' rs → w ≡ w'
  tree_once empty empty rs h h' = refl
  tree_once empty (one j) rs h h' = absurd (some_rows j 1 rs h' h)
  tree_once (one i) empty rs h h' = absurd (some_rows i 1 rs h h')
  tree_once (one i) (one j) rs h h' = ap one (item_once i j 1 rs rs [] [] h h' refl).tree

-- Rows are none or one whole item exactly when a tree has them: the levels await what of the tree is still to come, row by row.
use Prim.Native.Nat.{ℕ, zero, suc, ◌+◌, ◌-◌, ◌%◌, ◌≤◌, ◌<◌}
use mathlib.Core.Path.{◌≡◌, refl, sym, ap, ap₂, subst, ◌∙◌}
use mathlib.Core.Bool.{Bool, true, false, cond}
use mathlib.Core.List.{List, [], ◌∷◌, ◌++◌, append_assoc, append-nil}
use native.Mathlib.Omega.{arith}
use borrow.Author.Tests.{le-leb, eqb-true, eqb-false, leb-true}
use lib.Dec.{eqb, leb}
use lib.ListN.{length}
use Rattle.wire.specs.Number.{AtMost}
use Rattle.item.specs.Code.{L, kind_of, is_plain, allowed, largest}
use Rattle.item.specs.Item.{Item, Items, plain, list, none, more, count, Tree, empty, one, Content}
use Rattle.item.specs.declared.Form.TheVariants.{Good as good}
use Rattle.item.specs.declared.Kind.{Kind}
use Rattle.item.specs.declared.Kind.TheVariants as K
use Rattle.item.proofs.Codes.{of_plain, plain_not_list, list_code}
use Rattle.levels.specs.Levels.{began, leaving}
use Rattle.levels.proofs.Laws.{leaving_some}
use Rattle.wire.specs.Lists.{Each}
use Rattle.rows.specs.Row.{rows_of, part_at, inside, text_of, size_of}
use Rattle.rows.specs.Rows.{HasItem, HasAll, Has}
use Rattle.rows.specs.declared.Row.{Row}
use Rattle.rows.specs.Asked.{Fits}
use Rattle.rows.proofs.Tables.{part_length, text_length}
use Rattle.rows.proofs.Trees.{tree_fits}
use Rattle.writer.specs.Writing.{at_most, list_number, content_number, number_as, row_number, levels_behind, judged_from, rows_number, table_number}
use Rattle.writer.proofs.Judged.{behind_plain, behind_list, behind_few, judged_on}

-- ---- the tests as facts

at_most_test : (m : ℕ) (x : List ℕ) → AtMost m x → at_most m x ≡ true
at_most_test m [] a = refl
at_most_test m (b ∷ x) (a, as') = rw (le-leb b m a) (at_most_test m x as')

test_at_most : (m : ℕ) (x : List ℕ) → at_most m x ≡ true → AtMost m x
test_at_most m [] e = tt
test_at_most m (b ∷ x) e = go (leb b m) refl e (test_at_most m x)
  where
    go : (t : Bool) → leb b m ≡ t → cond t (at_most m x) false ≡ true → (at_most m x ≡ true → AtMost m x) → (b ≤ m) × AtMost m x
    go true h q rest = (leb-true b m h, rest q)
    go false h q rest = let z : ◌≡◌ {A = ℕ} 0 1 = cc in absurd (omega arith)

module _ (s : List ℕ) where
  -- a content that is good has no number, and one without is good
  content_none : (r : Row) (x : List ℕ) → r.place + r.length ≤ length s → x ≡ part_at s r → Content good r.code x → content_number s r ≡ 0
  unfolding content_number
  content_none r x h e con =
      let n : length x ≡ r.length = ap length e ∙ part_length s r h in
      let a : allowed r.code r.length ≡ true = ap (allowed r.code) (sym n) ∙ con.whole in
      let b : at_most (largest r.code) (part_at s r) ≡ true = ap (at_most (largest r.code)) (sym e) ∙ at_most_test (largest r.code) x con.bytes in
      rw (a, le-leb (r.place + r.length) (length s) h, b)

  none_content : (r : Row) → is_plain (kind_of r.code) ≡ true → content_number s r ≡ 0 → (r.place + r.length ≤ length s) × Content good r.code (part_at s r)
  unfolding content_number
  none_content r k e = go (allowed r.code r.length) refl (inside s r) refl (at_most (largest r.code) (part_at s r)) refl e
    where
      go : (a : Bool) → allowed r.code r.length ≡ a → (b : Bool) → inside s r ≡ b → (c : Bool) → at_most (largest r.code) (part_at s r) ≡ c
          → ◌≡◌ {A = ℕ} (cond a (cond b (cond c 0 6) 16) 3) 0 → (r.place + r.length ≤ length s) × Content good r.code (part_at s r)
      go true f true g true h q =
          let l = leb-true (r.place + r.length) (length s) g in
          (l, record { known = k; whole = ap (allowed r.code) (part_length s r l) ∙ f; bytes = test_at_most (largest r.code) (part_at s r) h })
      go true f true g false h q = absurd (omega arith)
      go true f false g c h q = absurd (omega arith)
      go false f b g c h q = absurd (omega arith)

  -- ---- a tree's rows are taken

  -- one item less is awaited behind a row
  less : (n : ℕ) (st : List ℕ) → began (suc n ∷ st) ≡ n ∷ st
  less n st =
      let e : suc n - 1 ≡ n = omega arith in
      ap (λ (m : ℕ). m ∷ st) e

  plain_levels : (n : ℕ) (st : List ℕ) (r : Row) → (r.code ≡ L → ⊥) → levels_behind (suc n ∷ st) r ≡ leaving (n ∷ st)
  plain_levels n st r h = behind_plain (suc n ∷ st) r h ∙ ap leaving (less n st)

  list_levels : (n : ℕ) (st : List ℕ) (r : Row) (m : ℕ) → r.code ≡ L → r.length ≡ m → levels_behind (suc n ∷ st) r ≡ leaving (m ∷ n ∷ st)
  list_levels n st r m h q = behind_list (suc n ∷ st) r h ∙ ap₂ (λ (x : ℕ) (y : List ℕ). leaving (x ∷ y)) q (less n st)

  taken : (n : ℕ) (st u : List ℕ) (r : Row) (rs : List Row) → row_number s (suc n ∷ st) r ≡ 0 → levels_behind (suc n ∷ st) r ≡ u
      → judged_from s (suc n ∷ st) (r ∷ rs) ≡ judged_from s u rs
  taken n st u r rs z e = judged_on s (suc n ∷ st) r rs (r ∷ rs) refl z ∙ ap (λ (v : List ℕ). judged_from s v rs) e

  list_none : (st : List ℕ) (r : Row) → (0 < r.length → length st < 16) → list_number st r ≡ 0
  list_none st r h = go (eqb r.length 0) refl (eqb (length st) 16) refl
    where
      go : (a : Bool) → eqb r.length 0 ≡ a → (b : Bool) → eqb (length st) 16 ≡ b → ◌≡◌ {A = ℕ} (cond a 0 (cond b 4 0)) 0
      go true e b f = refl
      go false e true f =
          let z : r.length ≡ 0 → ⊥ = eqb-false r.length 0 e in
          absurd (omega (arith, h (omega arith), eqb-true (length st) 16 f))
      go false e false f = refl

  number_as_kind : (n : ℕ) (st : List ℕ) (r : Row) (k : Kind) → kind_of r.code ≡ k → row_number s (suc n ∷ st) r ≡ number_as k s (suc n ∷ st) r
  unfolding row_number
  number_as_kind n st r k e = ap (λ (x : Kind). number_as x s (suc n ∷ st) r) e

  number_plain : (n : ℕ) (st : List ℕ) (r : Row) → is_plain (kind_of r.code) ≡ true → row_number s (suc n ∷ st) r ≡ content_number s r
  number_plain n st r p =
      number_as_kind n st r (kind_of r.code) refl ∙ of_plain (λ k. number_as k s (suc n ∷ st) r ≡ content_number s r) (kind_of r.code) p (λ _. refl)

  kind_list : (c : ℕ) → c ≡ L → kind_of c ≡ K.List
  unfolding kind_of
  kind_list c e = ap kind_of e

  members_deep : (is : Items) (d : ℕ) (rs : List Row) → 0 < count is → HasAll s d is rs → d ≤ 16
  members_deep none d rs h all = absurd (omega arith)
  members_deep (more (plain c x) is) d rs h (u, v, e, (r, e₁, q, w, i, con, deep), all) = deep
  members_deep (more (list ms) is) d rs h (u, v, e, (r, us, e₁, q, n, ms', deep), all) = deep

  mutual
    unfolding leaving

    item_taken : (i : Item) (st : List ℕ) (n : ℕ) (rs qs : List Row) → HasItem s (suc (length st)) i rs
        → judged_from s (suc n ∷ st) (rs ++ qs) ≡ judged_from s (leaving (n ∷ st)) qs
    item_taken (plain c x) st n rs qs (r, e, q, within, is, con, deep) =
        let con' : Content good r.code x = subst (λ (y : ℕ). Content good y x) (sym q) con in
        ap (λ (y : List Row). judged_from s (suc n ∷ st) (y ++ qs)) e
        ∙ taken n st (leaving (n ∷ st)) r qs (number_plain n st r con'.known ∙ content_none r x within is con')
        (plain_levels n st r (plain_not_list r.code con'.known))
    item_taken (list is) st n rs qs (r, ms, e, q, m, all, deep) =
        ap (λ (y : List Row). judged_from s (suc n ∷ st) (y ++ qs)) e
        ∙ taken n st (leaving (count is ∷ n ∷ st)) r (ms ++ qs)
        (number_as_kind n st r K.List (kind_list r.code q)
        ∙ list_none (suc n ∷ st) r (λ h. omega (arith, members_deep is (suc (suc (length st))) ms (omega arith) all)))
        (list_levels n st r (count is) q m)
        ∙ items_taken is (n ∷ st) ms qs all

    items_taken : (is : Items) (st : List ℕ) (rs qs : List Row) → HasAll s (suc (length st)) is rs
        → judged_from s (leaving (count is ∷ st)) (rs ++ qs) ≡ judged_from s (leaving st) qs
    items_taken none st rs qs e = ap (λ (z : List Row). judged_from s (leaving (0 ∷ st)) (z ++ qs)) e
    items_taken (more i is) st rs qs (u, v, e, h, all) =
        ap₂ (λ (y : List ℕ) (z : List Row). judged_from s y z) (leaving_some (count is) st) (ap (λ (z : List Row). z ++ qs) e ∙ append_assoc u v qs)
        ∙ item_taken i st (count is) u (v ++ qs) h
        ∙ items_taken is st v qs all

  has_number : (i : Item) (rs : List Row) → HasItem s 1 i rs → judged_from s (1 ∷ []) rs ≡ 0
  unfolding judged_from leaving
  has_number i rs h = ap (judged_from s (1 ∷ [])) (sym (append-nil rs)) ∙ item_taken i [] 0 rs [] h

  pub has_taken : (w : Tree) (rs : List Row) → Has s w rs → rows_number s rs ≡ 0
  has_taken empty rs e = rw e
  has_taken (one i) [] h = refl
  has_taken (one i) (r ∷ rs) h = has_number i (r ∷ rs) h

  -- ---- rows that are taken are a tree's

  -- what the levels await, innermost first
  abbrev Runs : List ℕ → List Row → Type 0
  Runs [] rs = rs ≡ []
  Runs (n ∷ st) rs = (u : List Row) × (v : List Row) × (rs ≡ u ++ v) × ((is : Items) × (count is ≡ n) × HasAll s (suc (length st)) is u) × Runs st v

  -- the innermost level awaits an item, or none is open
  abbrev Awaits : List ℕ → Type 0
  Awaits [] = Unit {0}
  Awaits (n ∷ st) = 0 < n

  leaving_awaits : (st : List ℕ) → Awaits (leaving st)
  unfolding leaving
  leaving_awaits [] = tt
  leaving_awaits (zero ∷ st) = leaving_awaits st
  leaving_awaits (suc n ∷ st) = subst Awaits (sym (leaving_some n st)) (omega arith)

  unleave : (st : List ℕ) (rs : List Row) → Runs (leaving st) rs → Runs st rs
  unfolding leaving
  unleave [] rs h = h
  unleave (zero ∷ st) rs h = ([], rs, refl, (none, refl, refl), unleave st rs h)
  unleave (suc n ∷ st) rs h = subst (λ (y : List ℕ). Runs y rs) (leaving_some n st) h

  -- one item more at the innermost level
  add_plain : (r : Row) (n : ℕ) (st : List ℕ) (rs : List Row) → is_plain (kind_of r.code) ≡ true → content_number s r ≡ 0 → suc (length st) ≤ 16
      → Runs (n ∷ st) rs → Runs (suc n ∷ st) (r ∷ rs)
  add_plain r n st rs k z deep (u, v, e, (is, c, all), rest) =
      let con = none_content r k z in (
        r ∷ u,
        v,
        ap (λ (y : List Row). r ∷ y) e,
        (more (plain r.code (part_at s r)) is, ap suc c, (r ∷ [], u, refl, (r, refl, refl, con.0, refl, con.1, deep), all)),
        rest,
      )

  add_list : (r : Row) (n : ℕ) (st : List ℕ) (rs : List Row) → r.code ≡ L → suc (length st) ≤ 16 → Runs (r.length ∷ n ∷ st) rs → Runs (suc n ∷ st) (r ∷ rs)
  add_list r n st rs q deep (x, y, e, (ms, c, all), (u, v, e', (is, c', all'), rest)) = (
    r ∷ (x ++ u),
    v,
    ap (λ (z : List Row). r ∷ z) (e ∙ ap (λ (z : List Row). x ++ z) e' ∙ sym (append_assoc x u v)),
    (more (list ms) is, ap suc c', (r ∷ x, u, refl, (r, x, refl, q, sym c, all, deep), all')),
    rest,
  )

  -- a row is taken where it has no number and what follows has none
  turn : (st : List ℕ) (r : Row) (rs : List Row) → judged_from s st (r ∷ rs) ≡ 0 → (row_number s st r ≡ 0) × (judged_from s (levels_behind st r) rs ≡ 0)
  unfolding judged_from
  turn st r rs z = go (eqb (row_number s st r) 0) refl z
    where
      go : (b : Bool) → eqb (row_number s st r) 0 ≡ b → cond b (judged_from s (levels_behind st r) rs) (row_number s st r) ≡ 0
          → (row_number s st r ≡ 0) × (judged_from s (levels_behind st r) rs ≡ 0)
      go true e q = (eqb-true (row_number s st r) 0 e, q)
      go false e q = absurd (eqb-false (row_number s st r) 0 e q)

  module _ (r : Row) (rs : List Row) (n : ℕ) (st : List ℕ) (rec : (u : List ℕ) → Awaits u → length u ≤ 16 → judged_from s u rs ≡ 0 → Runs u rs) where
    -- what follows the row, as what its levels await
    follow : (u : List ℕ) → levels_behind (suc n ∷ st) r ≡ leaving u → length (levels_behind (suc n ∷ st) r) ≤ 16
        → judged_from s (levels_behind (suc n ∷ st) r) rs ≡ 0 → Runs u rs
    follow u e h z =
        let few = subst (λ (y : List ℕ). length y ≤ 16) e h in
        unleave u rs (rec (leaving u) (leaving_awaits u) few (ap (λ (y : List ℕ). judged_from s y rs) (sym e) ∙ z))

    as_kind : (k : Kind) → kind_of r.code ≡ k → length (suc n ∷ st) ≤ 16 → number_as k s (suc n ∷ st) r ≡ 0
        → judged_from s (levels_behind (suc n ∷ st) r) rs ≡ 0 → Runs (suc n ∷ st) (r ∷ rs)
    as_kind K.Unknown e h z q = absurd (omega arith)
    as_kind K.List e h z q =
        let c = list_code r.code e in
        add_list r n st rs c h (follow (r.length ∷ n ∷ st) (list_levels n st r r.length c refl) (behind_few (suc n ∷ st) r h (λ _. z)) q)
    as_kind (K.Plain _) e h z q =
        let p : is_plain (kind_of r.code) ≡ true = ap is_plain e in
        let not_list = plain_not_list r.code p in
        add_plain r n st rs p z h (follow (n ∷ st) (plain_levels n st r not_list) (behind_few (suc n ∷ st) r h (λ l. absurd (not_list l))) q)

  runs : (rs : List Row) (st : List ℕ) → Awaits st → length st ≤ 16 → judged_from s st rs ≡ 0 → Runs st rs
  unfolding judged_from row_number
  runs [] [] a h z = refl
  runs [] (n ∷ st) a h z = absurd (omega arith)
  runs (r ∷ rs) [] a h z = absurd (omega (arith, (turn [] r rs z).0))
  runs (r ∷ rs) (zero ∷ st) a h z = absurd (omega arith)
  runs (r ∷ rs) (suc n ∷ st) a h z =
      let t = turn (suc n ∷ st) r rs z in
      as_kind r rs n st (λ u f g y. runs rs u f g y) (kind_of r.code) refl h t.0 t.1

  one_item : (rs : List Row) → Runs (1 ∷ []) rs → (i : Item) × HasItem s 1 i rs
  one_item rs (u, v, e, (none, c, all), rest) = absurd (omega arith)
  one_item rs (u, v, e, (more i none, c, (x, y, e₁, h, z)), rest) =
      let f : rs ≡ x = e ∙ ap₂ (λ (a b : List Row). a ++ b) (e₁ ∙ ap (λ (a : List Row). x ++ a) z ∙ append-nil x) rest ∙ append-nil x in
      (i, subst (HasItem s 1 i) (sym f) h)
  one_item rs (u, v, e, (more i (more j is), c, all), rest) = absurd (omega arith)

  pub taken_has : (rs : List Row) → rows_number s rs ≡ 0 → (w : Tree) × Has s w rs
  taken_has [] z = (empty, refl)
  taken_has (r ∷ rs) z =
      let (i, h) = one_item (r ∷ rs) (runs (r ∷ rs) (1 ∷ []) (omega arith) (omega arith) z) in
      (one i, h)

  -- so that they can be written
  pub table_fits : (table : List ℕ) → table_number s table ≡ 0 → Each (Fits s) (rows_of table)
  unfolding table_number
  table_fits table z = go (eqb (length table % 3) 0) z
    where
      go : (b : Bool) → cond b (rows_number s (rows_of table)) 15 ≡ 0 → Each (Fits s) (rows_of table)
      go true y = let (w, h) = taken_has (rows_of table) y in tree_fits w s (rows_of table) h
      go false y = absurd (omega arith)

pub sized : (s table : List ℕ) → table_number s table ≡ 0 → length (text_of s (rows_of table)) ≡ size_of (rows_of table)
sized s table z = text_length s (rows_of table) (table_fits s table z)

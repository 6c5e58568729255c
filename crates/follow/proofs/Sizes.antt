-- How long what may follow is: at least two bytes an item, and in lean form one item at depth 16 is not 258 bytes long. So the tests hold wherever
-- something follows.
use Prim.Native.Nat.{ℕ, suc, ◌+◌, ◌*◌, ◌-◌, ◌^◌, ◌≤◌, ◌<◌}
use mathlib.Core.Path.{◌≡◌, refl, sym, ap, subst, ◌∙◌}
use mathlib.Core.Bool.{Bool, true, false, cond}
use mathlib.Core.List.{List, [], ◌∷◌, ◌++◌}
use mathlib.Core.Logic.{inl, inr}
use native.Mathlib.Decide.{ℕ_discrete}
use native.Mathlib.Nat.{suc_inj}
use native.Mathlib.Omega.{arith}
use lib.Dec.{eqb}
use lib.ListN.{length, length-append}
use borrow.Author.Tests.{eq-eqb, ne_eqb, le-leb, lt-ltb, eqb-true, leb-true}
use Rattle.wire.specs.Number.{AtMost}
use Rattle.wire.proofs.Numbers.{number_lt}
use Rattle.wire.proofs.Choice.{both}
use Rattle.item.specs.Code.{L, allowed}
use Rattle.item.specs.Item.{Item, Items, plain, list, none, more, count, header, Spells, SpellsAll}
use Rattle.item.specs.declared.Form.{Form}
use Rattle.item.specs.declared.Form.TheVariants.{Good as good, Lean as lean}
use Rattle.item.proofs.Codes.{plain_not_list}
use Rattle.levels.specs.Levels.{total, deepest}
use Rattle.levels.proofs.Laws.{deepest_none, deepest_at}
use Rattle.follow.proofs.Follow.{Run, Awaited, AfterContent, PlainLength, AfterLength, AfterLengths}
use Rattle.follow.specs.Fits.{alone_at16, gap, fits_items, lowest, holds_members, fits_list, fits_plain, fits_lengths}
use Rattle.follow.proofs.Gap.{items_none, items_deep, no_258_at_16}
use Rattle.follow.proofs.Leading.{grown, Led, lowest_said}
use Rattle.follow.proofs.Grammar.{content_out, length_out, none_out}

pub item_size : (f : Form) (d : ℕ) (i : Item) (u : List ℕ) → Spells f d i u → 2 ≤ length u
item_size f d (plain c x) u (ls, e, lens, con, deep) = omega (arith, lens.some, ap length e, length-append (header c ls) x)
item_size f d (list is) u (ls, body, e, lens, all, deep) = omega (arith, lens.some, ap length e, length-append (header L ls) body)

items_size : (f : Form) (d : ℕ) (is : Items) (u : List ℕ) → SpellsAll f d is u → 2 * count is ≤ length u
items_size f d none u e = omega (arith, ap length e)
items_size f d (more i is) u (x, y, e, s, k) =
    omega (arith, item_size f d i x s, items_size f d is y k, ap length e, length-append x y)

-- ---- one item is awaited in all, at depth 16, and 258 bytes are left

no_run : (u : List ℕ) → Run lean 16 1 u → length u ≡ 258 → ⊥
no_run u (none, c, s) q = omega arith
no_run u (more i none, c, (x, y, e, s, z)) q = no_258_at_16 (i, x, s, omega (arith, ap length e, length-append x y, ap length z))
no_run u (more i (more j is), c, s) q = omega arith

pub record AtGap (f : Form) (n : ℕ) (st : List ℕ) : Type 0 where
  pub form : f ≡ lean
  pub bytes : n ≡ 258
  pub one : total st ≡ 1
  pub deep : deepest st ≡ 1

pub gap_is : (f : Form) (n : ℕ) (st : List ℕ) → gap f n st ≡ true → AtGap f n st
unfolding gap alone_at16
gap_is good n st e = let z : ◌≡◌ {A = ℕ} 0 1 = cc in absurd (omega arith)
gap_is lean n st e =
    let a = both (eqb n 258) _ e in
    let b = both (eqb (total st) 1) _ a.1 in
    record { form = refl; bytes = eqb-true n 258 a.0; one = eqb-true (total st) 1 b.0; deep = eqb-true (deepest st) 1 b.1 }

pub is_gap : (f : Form) (n : ℕ) (st : List ℕ) → AtGap f n st → gap f n st ≡ true
unfolding gap alone_at16
is_gap f n st g = rw (g.form, eq-eqb n 258 g.bytes, eq-eqb (total st) 1 g.one, eq-eqb (deepest st) 1 g.deep)

pub gap? : (f : Form) (n : ℕ) (st : List ℕ) → Dec (AtGap f n st)
gap? f n st = go (gap f n st) refl
  where
    go : (b : Bool) → gap f n st ≡ b → Dec (AtGap f n st)
    go true e = yes (gap_is f n st e)
    go false e = no (λ g. let z : ◌≡◌ {A = ℕ} 0 1 = cc (is_gap f n st g) in omega arith)

-- only the innermost of sixteen levels is at depth 16
deepest_is : (n : ℕ) (st : List ℕ) → deepest (n ∷ st) ≡ 1 → (length st ≡ 15) × (n ≡ 1)
deepest_is n st e = go (ℕ_discrete (length st) 15)
  where
    go : Dec (length st ≡ 15) → (length st ≡ 15) × (n ≡ 1)
    go (yes q) = (q, sym (deepest_at n st q) ∙ e)
    go (no q) = absurd (omega (arith, deepest_none (n ∷ st) (λ z. q (suc_inj z))))

-- ---- what is awaited

-- what the levels await, and nothing else, may fill n bytes
pub record Fill (f : Form) (n : ℕ) (st : List ℕ) : Type 0 where
  pub enough : 2 * total st ≤ n
  pub none : total st ≡ 0 → n ≡ 0
  pub whole : AtGap f n st → ⊥

not_gap : (f : Form) (n : ℕ) (st : List ℕ) → (AtGap f n st → ⊥) → gap f n st ≡ false
not_gap f n st h = go (gap f n st) refl
  where
    go : (b : Bool) → gap f n st ≡ b → b ≡ false
    go true e = absurd (h (gap_is f n st e))
    go false e = refl

pub fill_fits : (f : Form) (n : ℕ) (st : List ℕ) → Fill f n st → fits_items f n st ≡ true
unfolding fits_items
fill_fits f n st x = go (ℕ_discrete (total st) 0)
  where
    go : Dec (total st ≡ 0) → fits_items f n st ≡ true
    go (yes z) = rw (eq-eqb (total st) 0 z, eq-eqb n 0 (x.none z))
    go (no p) = rw (ne_eqb (total st) 0 p, not_gap f n st x.whole, le-leb (2 * total st) n x.enough)

no_gap : (b : Bool) (x : Bool) → cond b false x ≡ true → (b ≡ false) × (x ≡ true)
no_gap true x e = let z : ◌≡◌ {A = ℕ} 0 1 = cc in absurd (omega arith)
no_gap false x e = (refl, e)

pub fits_fill : (f : Form) (n : ℕ) (st : List ℕ) → fits_items f n st ≡ true → Fill f n st
unfolding fits_items
fits_fill f n st e = go (ℕ_discrete (total st) 0)
  where
    go : Dec (total st ≡ 0) → Fill f n st
    go (yes z) =
        let k : n ≡ 0 = eqb-true n 0 (rw (eq-eqb (total st) 0 z) at e) in
        record { enough = omega arith; none = λ _. k; whole = λ g. omega (arith, g.one) }
    go (no p) =
        let q = no_gap (gap f n st) _ (rw (ne_eqb (total st) 0 p) at e) in
        record {
          enough = leb-true (2 * total st) n q.1;
          none = λ z. absurd (p z);
          whole = λ g. let z : ◌≡◌ {A = ℕ} 0 1 = cc (is_gap f n st g, q.0) in omega arith;
        }

pub awaited_fill : (f : Form) (st t : List ℕ) → Awaited f st t → Fill f (length t) st
unfolding total
awaited_fill f [] t e = record { enough = omega (arith, ap length e); none = λ _. ap length e; whole = λ g. omega (arith, g.one) }
awaited_fill f (n ∷ st) t (u, v, e, m, k) =
    let g = awaited_fill f st v k in
    let (is, q, s) = m in
    record {
      enough = omega (arith, items_size f (suc (length st)) is u s, g.enough, ap length e, length-append u v);
      none = λ z. omega (arith, items_none f (suc (length st)) is u (omega arith) s, g.none (omega arith), ap length e, length-append u v);
      whole = λ h. hole h g.none;
    }
  where
    hole : AtGap f (length t) (n ∷ st) → (total st ≡ 0 → length v ≡ 0) → ⊥
    hole h r =
        let d = deepest_is n st h.deep in
        let w : Run lean 16 1 u = rw (← h.form, ← d.1, ← (ap suc d.0)) m in
        no_run u w (omega (arith, h.bytes, h.one, r (omega (arith, h.one)), ap length e, length-append u v))

-- below depth 16 nothing is awaited
pub awaited_deep : (f : Form) (n : ℕ) (st t : List ℕ) → 16 ≤ length st → Awaited f (n ∷ st) t → n ≡ 0
awaited_deep f n st t h (u, v, e, (is, q, s), k) = sym q ∙ items_deep f (suc (length st)) is u (omega arith) s

-- Fill at as many bytes
pub fill_at : {f : Form} {n m : ℕ} {st : List ℕ} → n ≡ m → Fill f n st → Fill f m st
fill_at {f} {st} e x = subst (λ (k : ℕ). Fill f k st) e x

pub content_fill : (f : Form) (st : List ℕ) (c l : ℕ) (t : List ℕ) → AfterContent f st c l t → (l ≤ length t) × Fill f (length t - l) st
content_fill f st c l t k =
    let (x, w, e, q, a, r) = content_out f st c l t k in
    let z : length t ≡ l + length w = ap length e ∙ length-append x w ∙ ap (λ (y : ℕ). y + length w) q in
    (omega arith, fill_at (omega arith) (awaited_fill f st w r))

-- ---- the tests with j length bytes to come, as facts

pub record FitList (f : Form) (n : ℕ) (st : List ℕ) (j v : ℕ) : Type 0 where
  pub room : j ≤ n
  pub deep : length st ≡ 16 → (lowest f j v ≡ 0) × Fill f (n - j) st
  pub apart : (length st ≡ 16 → ⊥) → total st + lowest f j v ≡ 0 → n - j ≡ 1 → ⊥
  pub enough : (length st ≡ 16 → ⊥) → 2 * (total st + lowest f j v) ≤ n - j

pub record FitPlain (f : Form) (c n : ℕ) (st : List ℕ) (j v : ℕ) : Type 0 where
  pub room : j + lowest f j v + 2 * total st ≤ n
  pub last : total st ≡ 0 → (n - j < v * 256 ^ j + 256 ^ j) × (allowed c (n - j) ≡ true)

module _ (f : Form) (n : ℕ) (st : List ℕ) (j v : ℕ) where
  pub fit_list : FitList f n st j v → fits_list f n st j v ≡ true
  unfolding fits_list holds_members
  fit_list x = go (ℕ_discrete (length st) 16) (ℕ_discrete (total st + lowest f j v) 0)
    where
      go : Dec (length st ≡ 16) → Dec (total st + lowest f j v ≡ 0)
          → fits_list f n st j v ≡ true
      go (yes e) z =
          rw (le-leb j n x.room, eq-eqb (length st) 16 e, eq-eqb (lowest f j v) 0 (x.deep e).0) (fill_fits f (n - j) st (x.deep e).1)
      go (no e) (yes z) =
          rw (le-leb j n x.room, ne_eqb (length st) 16 e, eq-eqb (total st + lowest f j v) 0 z, ne_eqb (n - j) 1 (x.apart e z))
      go (no e) (no z) =
          rw (
            le-leb j n x.room,
            ne_eqb (length st) 16 e,
            ne_eqb (total st + lowest f j v) 0 z,
            le-leb (2 * (total st + lowest f j v)) (n - j) (x.enough e),
          )

  pub fit_plain : (c : ℕ) → FitPlain f c n st j v → fits_plain f c n st j v ≡ true
  unfolding fits_plain
  fit_plain c x = go (ℕ_discrete (total st) 0)
    where
      go : Dec (total st ≡ 0) → fits_plain f c n st j v ≡ true
      go (yes z) =
          rw (
            le-leb (j + lowest f j v + 2 * total st) n x.room,
            eq-eqb (total st) 0 z,
            lt-ltb (n - j) (v * 256 ^ j + 256 ^ j) (x.last z).0,
          )
          (x.last z).1
      go (no z) = rw (le-leb (j + lowest f j v + 2 * total st) n x.room, ne_eqb (total st) 0 z)

-- ---- wherever length bytes may follow the tests hold

module _ (f : Form) (st : List ℕ) (j v : ℕ) (t ls w : List ℕ) (e : t ≡ ls ++ w) (q : length ls ≡ j) (a : AtMost 0xFF ls)
    (led : Led f v ls) where
  size : length t ≡ j + length w
  size = ap length e ∙ length-append ls w ∙ ap (λ (y : ℕ). y + length w) q

  low : lowest f j v ≤ grown v ls
  low = rw (← q) (lowest_said f v ls led)

  list_need : Awaited f (grown v ls ∷ st) w → FitList f (length t) st j v
  unfolding total
  list_need k =
      let x = grown v ls in
      let n = size in
      let g = awaited_fill f (x ∷ st) w k in
      let h = low in
      record {
        room = omega arith;
        deep = λ s.
            let y : x ≡ 0 = awaited_deep f x st w (omega arith) k in
            (omega arith, fill_at (omega arith) (awaited_fill f st w (none_out f x st w y k)));
        apart = λ s z₁ z₂. omega (arith, g.enough, g.none (omega (arith, g.enough)));
        enough = λ s. omega (arith, g.enough);
      }

  plain_need : (c : ℕ) → PlainLength c (grown v ls) → AfterContent f st c (grown v ls) w → FitPlain f c (length t) st j v
  plain_need c p k =
      let g = content_fill f st c (grown v ls) w k in
      let n = size in
      let h = low in
      record {
        room = omega (arith, g.0, g.1.enough);
        last = λ z.
            let y : length t - j ≡ grown v ls = omega (arith, g.0, g.1.none z) in
            (rw (← q) (omega (arith, number_lt ls a)), rw y p.whole);
      }

-- the tests hold, and their facts
pub lengths_list : (f : Form) (st : List ℕ) (j v : ℕ) (t : List ℕ) → AfterLengths f st L j v t → FitList f (length t) st j v
lengths_list f st j v t k = go (length_out f st L j v t k)
  where
    go : (ls : List ℕ) × (w : List ℕ) × (t ≡ ls ++ w) × (length ls ≡ j) × AtMost 0xFF ls × Led f v ls × AfterLength f st L (grown v ls) w
        → FitList f (length t) st j v
    go (ls, w, e, q, a, l, inl (z, r)) = list_need f st j v t ls w e q a l r
    go (ls, w, e, q, a, l, inr (p, r)) = absurd (plain_not_list L p.known refl)

pub lengths_plain : (f : Form) (st : List ℕ) (c j v : ℕ) (t : List ℕ) → (c ≡ L → ⊥) → AfterLengths f st c j v t → FitPlain f c (length t) st j v
lengths_plain f st c j v t h k = go (length_out f st c j v t k)
  where
    go : (ls : List ℕ) × (w : List ℕ) × (t ≡ ls ++ w) × (length ls ≡ j) × AtMost 0xFF ls × Led f v ls × AfterLength f st c (grown v ls) w
        → FitPlain f c (length t) st j v
    go (ls, w, e, q, a, l, inl (z, r)) = absurd (h z)
    go (ls, w, e, q, a, l, inr (p, r)) = plain_need f st j v t ls w e q a l c p r

pub lengths_fit : (f : Form) (st : List ℕ) (c j v n : ℕ) (t : List ℕ) → length t ≡ n → AfterLengths f st c j v t → fits_lengths f c n st j v ≡ true
unfolding fits_lengths
lengths_fit f st c j v n t q k = go (ℕ_discrete c L)
  where
    go : Dec (c ≡ L) → fits_lengths f c n st j v ≡ true
    go (yes z) =
        let k' = subst (λ (x : ℕ). AfterLengths f st x j v t) z k in
        rw (eq-eqb c L z, ← q) (fit_list f (length t) st j v (lengths_list f st j v t k'))
    go (no z) = rw (ne_eqb c L z, ← q) (fit_plain f (length t) st j v c (lengths_plain f st c j v t z k))

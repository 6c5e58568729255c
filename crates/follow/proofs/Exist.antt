-- Wherever the tests hold something may follow: items of two bytes and one longer item, with zero bytes for contents, make up any number of bytes but
-- the gap's.
use Prim.Native.Nat.{ℕ, zero, suc, ◌+◌, ◌*◌, ◌-◌, ◌^◌, ◌≤◌, ◌<◌}
use mathlib.Core.Path.{◌≡◌, refl, sym, ap, subst, ◌∙◌}
use mathlib.Core.Bool.{true, false, cond, not}
use mathlib.Core.List.{List, [], ◌∷◌, ◌++◌}
use mathlib.Core.Logic.{inl, inr}
use native.Mathlib.Decide.{ℕ_discrete}
use native.Mathlib.Nat.{mod-eq_of_lt}
use native.Mathlib.Numerals.{lt_of_le_of_ne}
use native.Mathlib.Omega.{arith}
use lib.Dec.{eqb, leb, ltb}
use lib.ListN.{length, length-append, replicate}
use borrow.Author.Tests.{eq-eqb, ne_eqb, eqb-true, eqb-false, leb-true, ltb-true, not-true}
use Rattle.wire.specs.Longest.{longest}
use Rattle.wire.specs.Number.{bytes_of}
use Rattle.wire.proofs.Choice.{both}
use Rattle.wire.proofs.Numbers.{number_bytes, length_bytes, bytes_at_most}
use Rattle.item.specs.Code.{L, kind_of, is_plain, allowed}
use Rattle.item.specs.Item.{more, limit}
use Rattle.item.specs.declared.Form.{Form}
use Rattle.item.specs.declared.Form.TheVariants.{Lean as lean}
use Rattle.item.proofs.Codes.{allowed_eights, plain_not_list}
use Rattle.levels.specs.Levels.{total}
use Rattle.levels.proofs.Laws.{deepest_none, deepest_at}
use Rattle.follow.specs.Fits.{fits_items, lowest, holds_members, fits_list, fits_plain, fits_lengths}
use Rattle.follow.specs.Size.{OfSize}
use Rattle.follow.proofs.Follow.{Run, Awaited, AfterContent, AfterLength, AfterLengths, Known, a_list, a_plain}
use Rattle.follow.proofs.Gap.{only_258, zeros_length, zeros_at_most}
use Rattle.follow.proofs.Leading.{grown, bytes_led, Lowest, the_lowest}
use Rattle.follow.proofs.Grammar.{run_none, none_in, content_in, length_in}
use Rattle.follow.proofs.Sizes.{AtGap, gap?, Fill, fits_fill, FitList, FitPlain}

pub two_at_least : (n : ℕ) → (n ≡ 0 → ⊥) → (n ≡ 1 → ⊥) → 2 ≤ n
two_at_least n h k = omega arith

-- ---- several items, one behind another

-- a run of n items at a depth, of so many bytes
abbrev Running : Form → ℕ → ℕ → ℕ → Type 0
Running f d n k = (u : List ℕ) × Run f d n u × (length u ≡ k)

one_more : (f : Form) (d n x y k : ℕ) → x + y ≡ k → OfSize f d x → Running f d n y → Running f d (suc n) k
one_more f d n x y k e (i, u, s, q) (v, (is, c, r), p) = (u ++ v, (more i is, ap suc c, (u, v, refl, s, r)), length-append u v ∙ omega arith)

no_items : (f : Form) (d : ℕ) → Running f d 0 0
no_items f d = ([], run_none f d, refl)

-- with two items or more the gap is got round: 260 is 3 and 257
run_of : (f : Form) (d n k : ℕ) → 2 * n ≤ k → (n ≡ 0 → k ≡ 0) → (f ≡ lean → d ≡ 16 → n ≡ 1 → k ≡ 258 → ⊥) → k ≤ longest → d ≤ 16 → Running f d n k
run_of f d zero k h z hole m deep = subst (Running f d 0) (sym (z refl)) (no_items f d)
run_of f d (suc zero) k h z hole m deep =
    one_more f d 0 k 0 k (omega arith) (only_258 f d k h m deep (λ x y. hole x y refl)) (no_items f d)
run_of f d (suc (suc n)) k h z hole m deep =
    go (ℕ_discrete n 0) (ℕ_discrete k 260) (λ y a b c. run_of f d (suc n) y a (λ e. absurd (omega arith)) b c deep)
  where
    small : (x : ℕ) → 2 ≤ x → x ≤ 3 → OfSize f d x
    small x a b = only_258 f d x a (omega arith) deep (λ _ _ e. omega arith)

    two : OfSize f d 2
    two = small 2 (omega arith) (omega arith)

    three : OfSize f d 3
    three = small 3 (omega arith) (omega arith)

    go : Dec (n ≡ 0) → Dec (k ≡ 260)
        → ((y : ℕ) → 2 * suc n ≤ y → (f ≡ lean → d ≡ 16 → suc n ≡ 1 → y ≡ 258 → ⊥) → y ≤ longest → Running f d (suc n) y)
        → Running f d (suc (suc n)) k
    go (yes a) (yes b) rest = one_more f d (suc n) 3 257 k (omega arith) three (rest 257 (omega arith) (λ _ _ _ e. omega arith) (omega arith))
    go (yes a) (no b) rest =
        one_more f d (suc n) 2 (k - 2) k (omega arith) two (rest (k - 2) (omega arith) (λ _ _ _ e. b (omega arith)) (omega arith))
    go (no a) b rest =
        one_more f d (suc n) 2 (k - 2) k (omega arith) two (rest (k - 2) (omega arith) (λ _ _ e _. a (omega arith)) (omega arith))

-- ---- what the levels await

-- some k bytes of which P holds
abbrev pub Exists : (List ℕ → Type 0) → ℕ → Type 0
Exists P k = (t : List ℕ) × P t × (length t ≡ k)

-- bytes for the innermost level, and for those behind it
two_parts : (f : Form) (n : ℕ) (st : List ℕ) (x y k : ℕ) → x + y ≡ k → Running f (suc (length st)) n x → Exists (Awaited f st) y
    → Exists (Awaited f (n ∷ st)) k
two_parts f n st x y k e (u, s, q) (v, w, r) = (u ++ v, (u, v, refl, s, w), length-append u v ∙ omega arith)

-- above depth 16 there is no gap
pub shallow_fill : (f : Form) (k : ℕ) (st : List ℕ) → length st ≤ 15 → 2 * total st ≤ k → (total st ≡ 0 → k ≡ 0) → Fill f k st
shallow_fill f k st h e z = record { enough = e; none = z; whole = λ g. omega (arith, g.deep, deepest_none st (λ q. omega arith)) }

pub awaited_of : (f : Form) (st : List ℕ) (k : ℕ) → Fill f k st → k ≤ longest → length st ≤ 16 → Exists (Awaited f st) k
unfolding total
awaited_of f [] k x m deep = ([], refl, sym (x.none refl))
awaited_of f (n ∷ st) k x m deep = go (λ y g h. awaited_of f st y g h (omega arith)) (ℕ_discrete (total st) 0)
  where
    go : ((y : ℕ) → Fill f y st → y ≤ longest → Exists (Awaited f st) y) → Dec (total st ≡ 0) → Exists (Awaited f (n ∷ st)) k
    go rest (yes z) =
        two_parts f n st k 0 k (omega arith)
        (run_of f (suc (length st)) n k (omega (arith, x.enough)) (λ e. x.none (omega arith))
        (λ a b c e. x.whole (record { form = a; bytes = e; one = omega arith; deep = deepest_at n st (omega arith) ∙ c })) m deep)
        (rest 0 (shallow_fill f 0 st (omega arith) (omega arith) (λ _. refl)) (omega arith))
    go rest (no z) =
        two_parts f n st (2 * n) (k - 2 * n) k (omega (arith, x.enough))
        (run_of f (suc (length st)) n (2 * n) (omega arith) (λ e. omega arith) (λ _ _ c e. omega arith) (omega (arith, x.enough)) deep)
        (rest (k - 2 * n) (shallow_fill f (k - 2 * n) st (omega arith) (omega (arith, x.enough)) (λ e. absurd (z e))) (omega arith))

-- a list of no members in front of what is awaited
none_of : (f : Form) (v : ℕ) (st : List ℕ) (k : ℕ) → v ≡ 0 → Fill f k st → k ≤ longest → length st ≤ 16 → Exists (Awaited f (v ∷ st)) k
none_of f v st k z x m deep = let (t, w, q) = awaited_of f st k x m deep in (t, none_in f v st t z w, q)

pub content_of : (f : Form) (st : List ℕ) (c l k : ℕ) → l ≤ k → Fill f (k - l) st → k ≤ longest → length st ≤ 16 → Exists (AfterContent f st c l) k
content_of f st c l k h x m deep =
    let (w, r, q) = awaited_of f st (k - l) x (omega arith) deep in (
      replicate l 0 ++ w,
      subst (λ (y : ℕ). AfterContent f st c y (replicate l 0 ++ w)) (zeros_length l)
          (content_in f st c (replicate l 0) w (zeros_at_most l (limit f c)) r),
      length-append (replicate l 0) w ∙ omega (arith, zeros_length l),
    )

-- ---- length bytes

-- j length bytes behind v that say x, and behind them what may follow
lengths_of : (f : Form) (st : List ℕ) (c j v x n : ℕ) → 0 < j → lowest f j v ≤ x → x < v * 256 ^ j + 256 ^ j → Exists (AfterLength f st c x) n
    → Exists (AfterLengths f st c j v) (j + n)
lengths_of f st c j v x n pos lo hi (w, r, q) =
    let y = x - v * 256 ^ j in
    let ls = bytes_of j y in
    let l = length_bytes j y in
    let low : v * 256 ^ j ≤ x = omega (arith, (the_lowest f j v pos).low) in
    let h : y < 256 ^ j = omega arith in
    let says : grown v ls ≡ x = rw (l, number_bytes j y, mod-eq_of_lt h) (omega arith) in (
      ls ++ w,
      subst (λ (k : ℕ). AfterLengths f st c k v (ls ++ w)) l
          (length_in f st c ls w v (bytes_at_most j y) (bytes_led f j v x lo hi) (subst (λ (k : ℕ). AfterLength f st c k w) (sym says) r)),
      length-append ls w ∙ omega (arith, l),
    )

module _ (f : Form) (st : List ℕ) (j v n : ℕ) (m : n ≤ longest) (deep : length st ≤ 16) (pos : 0 < j) where
  list_at : (x : ℕ) → j ≤ n → lowest f j v ≤ x → x < v * 256 ^ j + 256 ^ j → Exists (Awaited f (x ∷ st)) (n - j) → Exists (AfterLengths f st L j v) n
  list_at x room lo hi (w, r, q) =
      let (t, k, p) = lengths_of f st L j v x (n - j) pos lo hi (w, inl (refl, r), q) in
      (t, k, p ∙ omega arith)

  pub lengths_list_of : FitList f n st j v → Exists (AfterLengths f st L j v) n
  unfolding total
  lengths_list_of x =
      go (ℕ_discrete (length st) 16) (ℕ_discrete (lowest f j v) 0) (ℕ_discrete (total st) 0) (ℕ_discrete (n - j) 0) (ℕ_discrete (n - j) 258)
    where
      low : Lowest f j v
      low = the_lowest f j v pos

      -- a list of no members
      empty : lowest f j v ≡ 0 → Fill f (n - j) st → Exists (AfterLengths f st L j v) n
      empty z fill = list_at 0 x.room (omega arith) (omega (arith, low.high)) (none_of f 0 st (n - j) refl fill (omega arith) deep)

      -- a list of k members, above depth 16
      some : (k : ℕ) → lowest f j v ≤ k → k ≤ lowest f j v + 2 → (length st ≡ 16 → ⊥) → Fill f (n - j) (k ∷ st) → Exists (AfterLengths f st L j v) n
      some k lo hi e fill =
          list_at k x.room lo (omega (arith, low.high)) (awaited_of f (k ∷ st) (n - j) fill (omega arith) (lt_of_le_of_ne deep e))

      one : (a b : ℕ) → (a ≡ 0 → ⊥) → a + b ≡ 1 → a ≡ 1
      one a b h e = omega arith

      go : Dec (length st ≡ 16) → Dec (lowest f j v ≡ 0) → Dec (total st ≡ 0) → Dec (n - j ≡ 0) → Dec (n - j ≡ 258) → Exists (AfterLengths f st L j v) n
      go (yes e) _ _ _ _ = empty (x.deep e).0 (x.deep e).1
      go (no e) (yes z) (no s) _ _ =
          empty z (shallow_fill f (n - j) st (omega (arith, lt_of_le_of_ne deep e)) (omega (arith, x.enough e)) (λ q. absurd (s q)))
      go (no e) (yes z) (yes s) (yes y) _ = empty z (shallow_fill f (n - j) st (omega (arith, lt_of_le_of_ne deep e)) (omega arith) (λ _. y))
      go (no e) (yes z) (yes s) (no y) (yes h) =
          some 2 (omega arith) (omega arith) e (record { enough = omega arith; none = λ q. absurd (omega arith); whole = λ g. omega (arith, g.one) })
      go (no e) (yes z) (yes s) (no y) (no h) =
          let two = two_at_least (n - j) y (x.apart e (omega arith)) in
          some 1 (omega arith) (omega arith) e (record { enough = omega arith; none = λ q. absurd (omega arith); whole = λ g. h g.bytes })
      go (no e) (no z) s y h =
          some (lowest f j v) (omega arith) (omega arith) e
          (record {
            enough = omega (arith, x.enough e);
            none = λ q. absurd (z (omega arith));
            whole = λ g. omega (arith, low.product, one (lowest f j v) (total st) z g.one);
          })

module _ (f : Form) (st : List ℕ) (c j v n : ℕ) (m : n ≤ longest) (deep : length st ≤ 16) (pos : 0 < j) (known : is_plain (kind_of c) ≡ true) where
  plain_at : (x : ℕ) → j + x ≤ n → allowed c x ≡ true → lowest f j v ≤ x → x < v * 256 ^ j + 256 ^ j → Fill f (n - j - x) st
      → Exists (AfterLengths f st c j v) n
  plain_at x room whole lo hi g =
      let (y, r, q) = content_of f st c x (n - j) (omega arith) g (omega arith) deep in
      let (t, k, p) = lengths_of f st c j v x (n - j) pos lo hi (y, inr (record { known = known; whole = whole }, r), q) in
      (t, k, p ∙ omega arith)

  pub lengths_plain_of : FitPlain f c n st j v → Exists (AfterLengths f st c j v) n
  lengths_plain_of x = go (ℕ_discrete (total st) 0) (gap? f (n - j - lowest f j v) st)
    where
      low : Lowest f j v
      low = the_lowest f j v pos

      -- every code allows the lowest length, and one of 8 bytes more
      whole : allowed c (lowest f j v) ≡ true
      whole = rw low.product (allowed_eights c low.eights known)

      longer : allowed c (lowest f j v + 8) ≡ true
      longer =
          let e : lowest f j v + 8 ≡ (low.eights + 1) * 8 = omega (arith, low.product) in
          rw e (allowed_eights c (low.eights + 1) known)

      go : Dec (total st ≡ 0) → Dec (AtGap f (n - j - lowest f j v) st) → Exists (AfterLengths f st c j v) n
      go (yes z) _ =
          plain_at (n - j) (omega (arith, x.room)) (x.last z).1 (omega (arith, x.room)) (x.last z).0
          (record { enough = omega arith; none = λ _. omega arith; whole = λ g. omega (arith, g.one) })
      go (no z) (yes g) =
          plain_at (lowest f j v + 8) (omega (arith, x.room, g.bytes)) longer (omega arith) (omega (arith, low.high))
          (record { enough = omega (arith, g.bytes, g.one); none = λ e. absurd (z e); whole = λ h. omega (arith, g.bytes, h.bytes) })
      go (no z) (no g) =
          plain_at (lowest f j v) (omega (arith, x.room)) whole (omega arith) (omega (arith, low.high))
          (record { enough = omega (arith, x.room); none = λ e. absurd (z e); whole = g })

-- ---- the tests as facts

pub list_fit : (f : Form) (n : ℕ) (st : List ℕ) (j v : ℕ) → fits_list f n st j v ≡ true → FitList f n st j v
unfolding fits_list holds_members
list_fit f n st j v e = go (ℕ_discrete (length st) 16) (ℕ_discrete (total st + lowest f j v) 0) (both (leb j n) _ e).1
  where
    room : j ≤ n
    room = leb-true j n (both (leb j n) _ e).0

    go : Dec (length st ≡ 16) → Dec (total st + lowest f j v ≡ 0)
        → cond (eqb (length st) 16) (cond (eqb (lowest f j v) 0) (fits_items f (n - j) st) false)
        (cond (eqb (total st + lowest f j v) 0) (not (eqb (n - j) 1)) (leb (2 * (total st + lowest f j v)) (n - j))) ≡ true
        → FitList f n st j v
    go (yes z) y x =
        let q = both (eqb (lowest f j v) 0) (fits_items f (n - j) st) (rw (eq-eqb (length st) 16 z) at x) in
        record {
          room = room;
          deep = λ _. (eqb-true (lowest f j v) 0 q.0, fits_fill f (n - j) st q.1);
          apart = λ k. absurd (k z);
          enough = λ k. absurd (k z);
        }
    go (no z) (yes y) x =
        let q : not (eqb (n - j) 1) ≡ true = rw (ne_eqb (length st) 16 z, eq-eqb (total st + lowest f j v) 0 y) at x in
        record {
          room = room;
          deep = λ k. absurd (z k);
          apart = λ _ _. eqb-false (n - j) 1 (not-true (eqb (n - j) 1) q);
          enough = λ _. omega arith;
        }
    go (no z) (no y) x =
        let q : leb (2 * (total st + lowest f j v)) (n - j) ≡ true = rw (ne_eqb (length st) 16 z, ne_eqb (total st + lowest f j v) 0 y) at x in
        record {
          room = room;
          deep = λ k. absurd (z k);
          apart = λ _ k. absurd (y k);
          enough = λ _. leb-true (2 * (total st + lowest f j v)) (n - j) q;
        }

pub plain_fit : (f : Form) (c n : ℕ) (st : List ℕ) (j v : ℕ) → fits_plain f c n st j v ≡ true → FitPlain f c n st j v
unfolding fits_plain
plain_fit f c n st j v e =
    let b = both (leb (j + lowest f j v + 2 * total st) n) _ e in
    record {
      room = leb-true (j + lowest f j v + 2 * total st) n b.0;
      last = λ z.
          let q = both (ltb (n - j) (v * 256 ^ j + 256 ^ j)) (allowed c (n - j)) (rw (eq-eqb (total st) 0 z) at b.1) in
          (ltb-true (n - j) (v * 256 ^ j + 256 ^ j) q.0, q.1);
    }

-- where the test holds length bytes may follow
pub lengths_exist : (f : Form) (st : List ℕ) (c j v n : ℕ) → n ≤ longest → length st ≤ 16 → 0 < j → Known c → fits_lengths f c n st j v ≡ true
    → Exists (AfterLengths f st c j v) n
unfolding fits_lengths
lengths_exist f st c j v n m deep pos (a_list z) e =
    let x : fits_list f n st j v ≡ true = rw (eq-eqb c L z) at e in
    rw z (lengths_list_of f st j v n m deep pos (list_fit f n st j v x))
lengths_exist f st c j v n m deep pos (a_plain k) e =
    let x : fits_plain f c n st j v ≡ true = rw (ne_eqb c L (plain_not_list c k)) at e in
    lengths_plain_of f st c j v n m deep pos k (plain_fit f c n st j v x)

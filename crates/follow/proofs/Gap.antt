-- The gap: in lean form no item without members is 258 bytes long, so none is at depth 16; every other size there is, at every depth and in either form.
use Prim.Native.Nat.{ℕ, zero, suc, ◌+◌, ◌*◌, ◌-◌, ◌≤◌, ◌<◌}
use mathlib.Core.Path.{◌≡◌, refl, sym, ap, subst}
use mathlib.Core.Bool.{Bool, true, false, cond}
use mathlib.Core.List.{List, [], ◌∷◌, ◌++◌, append-nil}
use native.Mathlib.Decide.{ℕ_discrete}
use native.Mathlib.Numerals.{lt_of_le_of_ne}
use native.Mathlib.Omega.{arith}
use lib.Dec.{leb, ltb}
use lib.ListN.{length, length-append, replicate, length-replicate}
use borrow.Author.Tests.{lt-ltb, le-ltb, leb-true, leb-false, ltb-true, ltb-false}
use Rattle.wire.specs.Longest.{longest}
use Rattle.wire.specs.Number.{number_of, bytes_of, AtMost}
use Rattle.wire.proofs.Numbers.{length_bytes}
use Rattle.item.specs.Code.{L}
use Rattle.item.specs.Item.{Item, Items, plain, list, none, more, count, fewest, header, lean_header, Spells, SpellsAll}
use Rattle.item.specs.declared.Form.{Form}
use Rattle.item.specs.declared.Form.TheVariants.{Good as good, Lean as lean}
use Rattle.item.proofs.Contents.{bytes_content}
use Rattle.item.proofs.Fewest.{lean_lengths}
use Rattle.item.proofs.Lean.{good_item}
use Rattle.follow.specs.Size.{Memberless, OfSize}

-- ---- no item without members is 258 bytes long in lean form

pub items_none : (f : Form) (d : ℕ) (is : Items) (u : List ℕ) → count is ≡ 0 → SpellsAll f d is u → length u ≡ 0
items_none f d none u z e = ap length e
items_none f d (more i is) u z k = absurd (omega arith)

-- a length of 255 takes 257 bytes, one of 256 takes 259
no_length : (n : ℕ) → 1 + fewest n + n ≡ 258 → ⊥
unfolding fewest
no_length n = go (ltb n 256) refl (ltb n 65536) refl (ltb n 16777216)
  where
    go : (a : Bool) → ltb n 256 ≡ a → (b : Bool) → ltb n 65536 ≡ b → (c : Bool) → 1 + cond a 1 (cond b 2 (cond c 3 4)) + n ≡ 258 → ⊥
    go true e b g c q = let h = ltb-true n 256 e in omega arith
    go false e true g c q = let h = ltb-false n 256 e in omega arith
    go false e false g true q = let h = ltb-false n 65536 g in omega arith
    go false e false g false q = let h = ltb-false n 65536 g in omega arith

-- No single item without members is 258 bytes long in lean form.
pub no_258 : (d : ℕ) (i : Item) (u : List ℕ) → Memberless i → Spells lean d i u → length u ≡ 258 → ⊥
no_258 d (plain c x) u m (ls, e, lens, con, deep) q =
    no_length (length x) (omega (arith, lens.form, ap length e, length-append (header c ls) x))
no_258 d (list is) u m (ls, body, e, lens, all, deep) q =
    omega (arith, lens.few, ap length e, length-append (header L ls) body, items_none lean (suc d) is body m all)

-- ---- at depth 16 no item has members

-- no item is deeper than 16
pub items_deep : (f : Form) (d : ℕ) (is : Items) (u : List ℕ) → 16 < d → SpellsAll f d is u → count is ≡ 0
items_deep f d none u h e = refl
items_deep f d (more (plain c x) is) u h (y, z, e, (ls, e₁, lens, con, deep), k) = absurd (omega arith)
items_deep f d (more (list ms) is) u h (y, z, e, (ls, body, e₁, lens, all, deep), k) = absurd (omega arith)

memberless : (f : Form) (i : Item) (u : List ℕ) → Spells f 16 i u → Memberless i
memberless f (plain c x) u s = tt
memberless f (list is) u (ls, body, e, lens, all, deep) = items_deep f 17 is body (omega arith) all

-- So none is 258 bytes long at depth 16.
pub no_258_at_16 : OfSize lean 16 258 → ⊥
no_258_at_16 (i, u, s, q) = no_258 16 i u (memberless lean i u s) s q

-- ---- every other size

-- zero bytes as contents
pub zeros_length : (n : ℕ) → length (replicate {A = ℕ} n 0) ≡ n
zeros_length n = length-replicate n 0

pub zeros_at_most : (n m : ℕ) → AtMost m (replicate n 0)
zeros_at_most zero m = tt
zeros_at_most (suc n) m = (omega arith, zeros_at_most n m)

-- what is spelled lean is spelled in either form
either_form : (f : Form) (i : Item) (d : ℕ) (t : List ℕ) → Spells lean d i t → Spells f d i t
either_form good i d t s = good_item i d t s
either_form lean i d t s = s

-- B of k bytes, with its fewest length bytes
plain_of : (f : Form) (d k n : ℕ) → k < 65536 → d ≤ 16 → 1 + fewest k + k ≡ n → OfSize f d n
plain_of f d k n h deep e =
    let x = replicate {A = ℕ} k 0 in
    let z = zeros_length k in
    let s : Spells lean d (plain 0o10 x) (lean_header 0o10 k ++ x) =
    (bytes_of (fewest k) k, refl, rw z (lean_lengths k (omega arith)), bytes_content lean x (zeros_at_most k 0xFF), deep) in (
      plain 0o10 x,
      lean_header 0o10 k ++ x,
      either_form f (plain 0o10 x) d _ s,
      omega (arith, length-append (lean_header 0o10 k) x, length_bytes (fewest k) k),
    )

short : (k : ℕ) → k < 256 → fewest k ≡ 1
unfolding fewest
short k h = rw (lt-ltb k 256 h)

long : (k : ℕ) → 256 ≤ k → k < 65536 → fewest k ≡ 2
unfolding fewest
long k h l = rw (le-ltb k 256 h, lt-ltb k 65536 l)

-- 258 bytes in good form: a length byte too many
spare : (d : ℕ) → d ≤ 16 → OfSize good d 258
unfolding number_of
spare d deep =
    let x = replicate {A = ℕ} 255 0 in (
      plain 0o10 x,
      (0o10 * 4 + 2) ∷ (0 ∷ 255 ∷ []) ++ x,
      (
        0 ∷ 255 ∷ [],
        refl,
        record { some = omega arith; few = omega arith; bytes = (omega arith, (omega arith, tt)); says = refl; form = tt },
        bytes_content good x (zeros_at_most 255 0xFF),
        deep,
      ),
      refl,
    )

-- 258 bytes above depth 16: a list of one member
nested : (d : ℕ) → d < 16 → OfSize lean d 258
nested d deep =
    let (i, u, s, q) = plain_of lean (suc d) 254 256 (omega arith) deep (omega (arith, short 254 (omega arith))) in (
      list (more i none),
      lean_header L 1 ++ u,
      (bytes_of (fewest 1) 1, u, refl, lean_lengths 1 (omega arith), (u, [], sym (append-nil u), s, refl), omega arith),
      omega (arith, length-append (lean_header L 1) u, length_bytes (fewest 1) 1, short 1 (omega arith)),
    )

-- And that is the only one: every other size from two bytes on some item has, at every depth and in either form.
pub only_258 : (f : Form) (d n : ℕ) → 2 ≤ n → n ≤ longest → d ≤ 16 → (f ≡ lean → d ≡ 16 → n ≡ 258 → ⊥) → OfSize f d n
only_258 f d n h m deep hole = go (ℕ_discrete n 258) (leb n 257) refl
  where
    at_258 : (f : Form) → (f ≡ lean → d ≡ 16 → ⊥) → OfSize f d 258
    at_258 good h = spare d deep
    at_258 lean h = nested d (lt_of_le_of_ne deep (h refl))

    go : Dec (n ≡ 258) → (b : Bool) → leb n 257 ≡ b → OfSize f d n
    go (yes e) b q = subst (OfSize f d) (sym e) (at_258 f (λ x y. hole x y e))
    go (no e) true q =
        let k = leb-true n 257 q in
        plain_of f d (n - 2) n (omega arith) deep (omega (arith, short (n - 2) (omega arith)))
    go (no e) false q =
        let k : 258 < n = lt_of_le_of_ne (leb-false n 257 q) (λ z. e (sym z)) in
        plain_of f d (n - 3) n (omega arith) deep (omega (arith, long (n - 3) (omega arith) (omega arith)))

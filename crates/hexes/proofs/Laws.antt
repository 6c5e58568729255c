-- What one character more does: a digit is told by its range, what is wrong stays wrong, and a digit that ends a byte adds one byte.
use Prim.Native.Nat.{ℕ, suc, ◌+◌, ◌*◌, ◌-◌, ◌<◌, ◌≤◌}
use mathlib.Core.Path.{◌≡◌, refl, sym, ap, ◌∙◌}
use mathlib.Core.Bool.{Bool, true, false, cond}
use mathlib.Core.List.{List, [], ◌∷◌}
use native.Mathlib.Numerals.{add-one}
use native.Mathlib.Nat.{add-zero}
use native.Mathlib.Omega.{arith}
use borrow.Author.Tests.{le-leb, lt-ltb, lt-leb, eq-eqb, ne_eqb, eqb-true, eqb-false, leb-true, ltb-true, ltb-false}
use lib.Dec.{eqb, ltb, leb}
use lib.ListN.{length, drop, get_or, set, length-set}
use lib.Seq.{sets, drop-cons}
use Rattle.wire.proofs.Choice.{both}
use Rattle.std.proofs.Common.{Some, None}
use Rattle.hexes.specs.Hex.{within, digit_of, some_digit, place_on, place_after, bytes_from, hex_of}

pub by_cond : (P : ℕ → Type 0) (b : Bool) (x y : ℕ) → (b ≡ true → P x) → (b ≡ false → P y) → P (cond b x y)
by_cond P true x y f g = f refl
by_cond P false x y f g = g refl

pub same : {A : Type 0} (b : Bool) (x : A) → cond b x x ≡ x
same true x = refl
same false x = refl

-- ---- digits

pub inside : (low high c : ℕ) → low ≤ c → c ≤ high → within low high c ≡ true
inside low high c a b = rw (le-leb low c a, le-leb c high b)

pub below : (low high c : ℕ) → c < low → within low high c ≡ false
below low high c a = rw (lt-leb low c a)

pub above : (low high c : ℕ) → high < c → within low high c ≡ false
above low high c a = rw (lt-leb c high a, same)

pub at_most : (low high c : ℕ) → within low high c ≡ true → c ≤ high
at_most low high c e = leb-true c high (both (leb low c) (leb c high) e).1

pub digit_decimal : (c : ℕ) → 0x30 ≤ c → c ≤ 0x39 → digit_of c ≡ c - 0x30
unfolding digit_of
digit_decimal c a b = rw (inside 0x30 0x39 c a b)

pub digit_upper : (c : ℕ) → 0x41 ≤ c → c ≤ 0x46 → digit_of c ≡ c - 0x37
unfolding digit_of
digit_upper c a b = rw (above 0x30 0x39 c (omega arith), inside 0x41 0x46 c a b)

pub digit_lower : (c : ℕ) → 0x61 ≤ c → c ≤ 0x66 → digit_of c ≡ c - 0x57
unfolding digit_of
digit_lower c a b = rw (above 0x30 0x39 c (omega arith), above 0x41 0x46 c (omega arith), inside 0x61 0x66 c a b)

pub digit_none : (c : ℕ) → within 0x30 0x39 c ≡ false → within 0x41 0x46 c ≡ false → within 0x61 0x66 c ≡ false → digit_of c ≡ 16
unfolding digit_of
digit_none c p q r = rw (p, q, r)

pub digit_le : (c : ℕ) → digit_of c ≤ 16
unfolding digit_of
digit_le c =
    by_cond (λ (d : ℕ). d ≤ 16) (within 0x30 0x39 c) _ _ (λ h. omega (arith, at_most 0x30 0x39 c h)) (λ _.
    by_cond (λ (d : ℕ). d ≤ 16) (within 0x41 0x46 c) _ _ (λ h. omega (arith, at_most 0x41 0x46 c h)) (λ _.
    by_cond (λ (d : ℕ). d ≤ 16) (within 0x61 0x66 c) _ _ (λ h. omega (arith, at_most 0x61 0x66 c h)) (λ _. omega arith)))

-- what is told of a digit
pub some_told : (d n : ℕ) → Some n ≡ some_digit d → (d ≡ n) × (d < 16)
some_told d n e = by (ltb d 16) refl e
  where
    by : (b : Bool) → ltb d 16 ≡ b → Some n ≡ cond b (Some d) None → (d ≡ n) × (d < 16)
    by true t p = (cc, ltb-true d 16 t)
    by false t p = cc

pub none_told : (d : ℕ) → None ≡ some_digit d → 16 ≤ d
none_told d e = by (ltb d 16) refl e
  where
    by : (b : Bool) → ltb d 16 ≡ b → None ≡ cond b (Some d) None → 16 ≤ d
    by true t p = cc
    by false t p = ltb-false d 16 t

-- ---- what is wrong stays wrong

pub wrong_on : (c : ℕ) → place_on 17 c ≡ 17
unfolding place_on
wrong_on c = rw (same {A = ℕ} (eqb (digit_of c) 16) 17, same {A = ℕ} (eqb c 0x20) 17)

pub wrong_after : (s : List ℕ) → place_after 17 s ≡ 17
wrong_after [] = refl
wrong_after (c ∷ s) = rw (wrong_on c) (wrong_after s)

-- what is no digit does not end a byte
pub broken : (place c : ℕ) → place < 16 → digit_of c ≡ 16 → place_on place c ≡ 17
unfolding place_on
broken place c h e =
    let n : eqb place 16 ≡ false = ne_eqb place 16 (λ z. omega (arith, z)) in
    rw (n, eq-eqb (digit_of c) 16 e, same {A = ℕ} (eqb c 0x20) 17)

-- ---- a place behind a character: behind a byte's first digit, behind its second, between bytes as before, or behind something wrong

no_digit : digit_of 0x20 ≡ 16
unfolding digit_of
no_digit = refl

no_space : (c : ℕ) → digit_of c < 16 → eqb c 0x20 ≡ false
no_space c h = ne_eqb c 0x20 (λ e. omega (arith, h, no_digit, ap digit_of e))

module _ (c n : ℕ) (e : Some n ≡ some_digit (digit_of c)) where
  pub begins_by : n ≡ place_on 16 c
  unfolding place_on
  begins_by =
      let t = some_told (digit_of c) n e in
      let k : eqb (digit_of c) 16 ≡ false = ne_eqb (digit_of c) 16 (λ z. omega (arith, z, t.1)) in
      rw (no_space c t.1, k) (sym t.0)

  pub ends_by : (place : ℕ) → place < 16 → 16 ≡ place_on place c
  unfolding place_on
  ends_by place h =
      let t = some_told (digit_of c) n e in
      let k : eqb (digit_of c) 16 ≡ false = ne_eqb (digit_of c) 16 (λ z. omega (arith, z, t.1)) in
      rw (no_space c t.1, k, lt-ltb place 16 h)

pub space_between : (c : ℕ) → c ≡ 0x20 → 16 ≡ place_on 16 c
unfolding place_on
space_between c e = rw (eq-eqb c 0x20 e)

module _ (c : ℕ) (e : None ≡ some_digit (digit_of c)) where
  none_is : digit_of c ≡ 16
  none_is = omega (arith, none_told (digit_of c) e, digit_le c)

  pub breaks_between : (c ≡ 0x20 → ⊥) → 17 ≡ place_on 16 c
  unfolding place_on
  breaks_between h = rw (ne_eqb c 0x20 h, eq-eqb (digit_of c) 16 none_is)

  pub breaks_byte : (place : ℕ) → place < 16 → 17 ≡ place_on place c
  breaks_byte place h = sym (broken place c h none_is)

-- so a byte that was begun ends with a digit, where all ends well
pub ends_well : (place c : ℕ) (s : List ℕ) → place < 16 → place_after (place_on place c) s ≡ 16 → digit_of c < 16
ends_well place c s h e = told (eqb (digit_of c) 16) refl
  where
    told : (b : Bool) → eqb (digit_of c) 16 ≡ b → digit_of c < 16
    told true q =
        let d : digit_of c ≡ 16 = eqb-true (digit_of c) 16 q in
        let z : ◌≡◌ {A = ℕ} 17 16 = sym (wrong_after s) ∙ ap (λ (p : ℕ). place_after p s) (sym (broken place c h d)) ∙ e in
        absurd (omega arith)
    told false q = omega (arith, eqb-false (digit_of c) 16 q, digit_le c)

pub begun_ends : (s : List ℕ) (i place : ℕ) → i < length s → place_after place (drop i s) ≡ 16 → cond (ltb place 16) (digit_of (get_or s i 0)) 0 < 16
begun_ends s i place h e =
    by_cond (λ (d : ℕ). d < 16) (ltb place 16) _ _
    (λ t. ends_well place (get_or s i 0) (drop (suc i) s) (ltb-true place 16 t) (ap (place_after place) (sym (drop-cons s i 0 h)) ∙ e))
    (λ _. omega arith)

-- ---- a byte more, or none

counted : (b : Bool) (x : ℕ) (l : List ℕ) → length (cond b (x ∷ l) l) ≡ cond b 1 0 + length l
counted true x l = omega arith
counted false x l = omega arith

stored : (b : Bool) (out : List ℕ) (n x : ℕ) (l : List ℕ) → sets (cond b (set out n x) out) (n + cond b 1 0) l ≡ sets out n (cond b (x ∷ l) l)
stored true out n x l = rw add-one
stored false out n x l = rw add-zero

kept : (b : Bool) (out : List ℕ) (n x : ℕ) → length (cond b (set out n x) out) ≡ length out
kept true out n x = length-set out n x
kept false out n x = refl

-- one character read
module _ (s : List ℕ) (i place p : ℕ) (h : i < length s) (on : p ≡ place_on place (get_or s i 0)) where
  pub place_turn : place_after p (drop (i + 1) s) ≡ place_after place (drop i s)
  place_turn = rw (add-one, drop-cons s i 0 h, on)

  pub size_turn : cond (ltb place 16) 1 0 + length (bytes_from p (drop (i + 1) s)) ≡ length (bytes_from place (drop i s))
  size_turn = rw (add-one, drop-cons s i 0 h, on) (sym (counted (ltb place 16) _ _))

  -- and the byte stored that it ends
  module _ (out o : List ℕ) (n e : ℕ) (put : o ≡ cond (ltb place 16) (set out n (place * 16 + digit_of (get_or s i 0))) out)
      (more : e ≡ cond (ltb place 16) 1 0) where
    pub store_turn : sets o (n + e) (bytes_from p (drop (i + 1) s)) ≡ sets out n (bytes_from place (drop i s))
    store_turn = rw (put, more, add-one, drop-cons s i 0 h, on) (stored (ltb place 16) out n _ _)

    pub store_kept : length o ≡ length out
    store_kept = rw put (kept (ltb place 16) out n _)

-- ---- bytes printed

pub hex_length : (s : List ℕ) → length (hex_of s) ≡ 2 * length s
hex_length [] = refl
hex_length (b ∷ s) = let e = hex_length s in omega arith

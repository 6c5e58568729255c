-- What is printed says the bytes again: each byte's two digits are the digits of its two halves, and both are digits and no spaces.
use Prim.Native.Nat.{ℕ, ◌+◌, ◌*◌, ◌/◌, ◌%◌, ◌<◌, ◌≤◌}
use mathlib.Core.Path.{◌≡◌, refl, ap, ◌∙◌}
use mathlib.Core.Bool.{Bool, true, false, cond}
use mathlib.Core.List.{List, [], ◌∷◌}
use native.Mathlib.Omega.{arith}
use borrow.Author.Tests.{lt-ltb, le-ltb, ltb-true, ltb-false, ne_eqb}
use lib.Dec.{eqb, ltb}
use lib.ListN.{length}
use Rattle.std.proofs.Common.{Ok}
use Rattle.wire.specs.Number.{AtMost}
use Rattle.hexes.specs.Hex.{digit_of, place_on, place_after, bytes_from, between, bytes_in, is_hex, said_of, glyph_of, hex_of}
use Rattle.hexes.proofs.Laws.{digit_decimal, digit_lower}

-- a digit's value is that of the digit printed
digit_back : (d : ℕ) → d < 16 → digit_of (glyph_of d) ≡ d
unfolding glyph_of
digit_back d h = by (ltb d 10) refl
  where
    by : (b : Bool) → ltb d 10 ≡ b → digit_of (cond b (0x30 + d) (0x57 + d)) ≡ d
    by true e = let l = ltb-true d 10 e in digit_decimal (0x30 + d) (omega arith) (omega arith) ∙ omega arith
    by false e = let l = ltb-false d 10 e in digit_lower (0x57 + d) (omega arith) (omega arith) ∙ omega arith

digit_no_space : (d : ℕ) → eqb (glyph_of d) 0x20 ≡ false
unfolding glyph_of
digit_no_space d = by (ltb d 10)
  where
    by : (b : Bool) → eqb (cond b (0x30 + d) (0x57 + d)) 0x20 ≡ false
    by true = ne_eqb (0x30 + d) 0x20 (λ z. omega (arith, z))
    by false = ne_eqb (0x57 + d) 0x20 (λ z. omega (arith, z))

-- the first digit of a byte begins it, and the second ends it
begins : (d : ℕ) → d < 16 → place_on between (glyph_of d) ≡ d
unfolding place_on
begins d h =
    let n : eqb d 16 ≡ false = ne_eqb d 16 (λ z. omega (arith, z)) in
    rw (digit_no_space d, digit_back d h, n)

ends : (place d : ℕ) → place < 16 → d < 16 → place_on place (glyph_of d) ≡ between
unfolding place_on
ends place d p h =
    let n : eqb d 16 ≡ false = ne_eqb d 16 (λ z. omega (arith, z)) in
    rw (digit_no_space d, digit_back d h, n, lt-ltb place 16 p)

pub well_back : (s : List ℕ) → AtMost 0xFF s → place_after between (hex_of s) ≡ between
well_back [] h = refl
well_back (b ∷ s) (h, hs) =
    let high : b / 16 < 16 = omega arith in
    let low : b % 16 < 16 = omega arith in
    ap (λ (p : ℕ). place_after (place_on p (glyph_of (b % 16))) (hex_of s)) (begins (b / 16) high)
    ∙ ap (λ (p : ℕ). place_after p (hex_of s)) (ends (b / 16) (b % 16) high low)
    ∙ well_back s hs

pub bytes_back : (s : List ℕ) → AtMost 0xFF s → bytes_from between (hex_of s) ≡ s
bytes_back [] h = refl
bytes_back (b ∷ s) (h, hs) =
    let high : b / 16 < 16 = omega arith in
    let low : b % 16 < 16 = omega arith in
    let whole : b / 16 * 16 + b % 16 ≡ b = omega arith in
    rw (begins (b / 16) high, lt-ltb (b / 16) 16 high, ends (b / 16) (b % 16) high low, digit_back (b % 16) low, whole)
    (ap (λ (l : List ℕ). b ∷ l) (bytes_back s hs))

-- so the digits of bytes say these bytes, wherever there is room for them
pub back : (s : List ℕ) (room : ℕ) → AtMost 0xFF s → length s ≤ room → (said_of (hex_of s) room ≡ Ok (length s)) × (bytes_in (hex_of s) ≡ s)
unfolding said_of is_hex bytes_in
back s room h l = (
  rw (well_back s h, bytes_back s h, le-ltb room (length s) l),
  bytes_back s h,
)

-- The fewest decimal digits that hold a number spell it: both divide by ten, digit by digit.
use Prim.Native.Nat.{ℕ, zero, suc, ◌+◌, ◌-◌, ◌*◌, ◌/◌, ◌%◌, ◌^◌, ◌≤◌, ◌<◌}
use mathlib.Core.Bool.{cond}
use mathlib.Core.List.{[], ◌∷◌, ◌++◌}
use mathlib.Core.Path.{◌≡◌, sym, ap, ◌∙◌}
use native.Mathlib.Omega.{arith}
use native.Mathlib.Numerals.{unary_clauses}
use native.Mathlib.Decide.{dec_lt}
use borrow.Author.Tests.{lt-ltb, le-ltb}
use lib.Dec.{ltb}
use lib.ListN.{length, length-append}
use Rattle.io.specs.Digits.{last_digits, hex_digit_ascii, IsDigitCount}
use Rattle.lines.specs.Decimal.{spelled, decimal_of}

glyph_ten : (d : ℕ) → d < 10 → hex_digit_ascii d ≡ 48 + d
glyph_ten d h = rw (lt-ltb d 10 h)

pow_ten : (k : ℕ) → 10 ^ suc k ≡ 10 ^ k * 10
pow_ten k = simp unary_clauses

pow_positive : (k : ℕ) → 1 ≤ 10 ^ k
pow_positive zero = omega arith
pow_positive (suc k) = let one : 1 ≤ 10 ^ k = pow_positive k in omega (arith, pow_ten k, one)

-- a number of k + 1 digits, and no fewer
pub spelled_is : (j k n : ℕ) → n < 10 ^ suc k → (0 < k → 10 ^ k ≤ n) → k < j → spelled j n ≡ last_digits 10 (suc k) n
unfolding spelled
spelled_is zero k n few least h = absurd (omega arith)
spelled_is (suc j) zero n few least h =
    let ten : n < 10 = omega (arith, few) in
    let same : n % 10 ≡ n = omega arith in
    rw (lt-ltb n 10 ten, same, glyph_ten n ten)
spelled_is (suc j) (suc k) n few least h =
    let p = pow_ten (suc k) in
    let q = pow_ten k in
    let l : 10 ^ suc k ≤ n = least (omega arith) in
    let one : 1 ≤ 10 ^ k = pow_positive k in
    rw (
      le-ltb n 10 (omega (arith, q, l, one)),
      glyph_ten (n % 10) (omega arith),
      spelled_is j k (n / 10) (omega (arith, p, few)) (λ w. omega (arith, q, l)) (omega arith),
    )

-- twenty digits hold a u64
pow_above : (i : ℕ) → 10 ^ 20 ≤ 10 ^ (i + 20)
pow_above zero = omega arith
pow_above (suc i) =
    let e : suc i + 20 ≡ suc (i + 20) = omega arith in
    let p : 10 ^ (suc i + 20) ≡ 10 ^ (i + 20) * 10 = ap (λ (m : ℕ). 10 ^ m) e ∙ pow_ten (i + 20) in
    omega (arith, p, pow_above i)

at_most_twenty : (k n : ℕ) → 10 ^ k ≤ n → n < 2 ^ 64 → k < 20
at_most_twenty k n least few = go (dec_lt k 20)
  where
    go : Dec (k < 20) → k < 20
    go (yes h) = h
    go (no h) =
        let i : (k - 20) + 20 ≡ k = omega arith in
        let p : 10 ^ 20 ≤ 10 ^ k = rw (← i) (pow_above (k - 20)) in
        absurd (omega (arith, p, least, few))

-- so do the digits that the kit's `decimal` writes of a u64
pub fewest_spelled : (k n : ℕ) → IsDigitCount 10 1 n k → n < 2 ^ 64 → last_digits 10 k n ≡ decimal_of n
fewest_spelled zero n (some, few, least) h = absurd (omega arith)
fewest_spelled (suc zero) n (some, few, least) h = sym (spelled_is 20 zero n few (λ w. absurd (omega arith)) (omega arith))
fewest_spelled (suc (suc k)) n (some, few, least) h =
    let e : suc (suc k) - 1 ≡ suc k = omega arith in
    let l : 10 ^ suc k ≤ n = rw e at (least (omega arith)) in
    sym (spelled_is 20 (suc k) n few (λ w. l) (at_most_twenty (suc k) n l h))

pub fewest_few : (k n : ℕ) → IsDigitCount 10 1 n k → n < 2 ^ 64 → k ≤ 20
fewest_few zero n (some, few, least) h = omega arith
fewest_few (suc zero) n (some, few, least) h = omega arith
fewest_few (suc (suc k)) n (some, few, least) h =
    let e : suc (suc k) - 1 ≡ suc k = omega arith in
    let l : 10 ^ suc k ≤ n = rw e at (least (omega arith)) in
    at_most_twenty (suc k) n l h

pub spelled_length : (k n : ℕ) → length (spelled k n) ≤ k
unfolding spelled
spelled_length zero n = omega arith
spelled_length (suc k) n = go (dec_lt n 10) (spelled_length k (n / 10))
  where
    go : Dec (n < 10) → length (spelled k (n / 10)) ≤ k → length (cond (ltb n 10) ((48 + n) ∷ []) (spelled k (n / 10) ++ ((48 + n % 10) ∷ []))) ≤ suc k
    go (yes h) few = rw (lt-ltb n 10 h) (omega arith)
    go (no h) few = rw (le-ltb n 10 (omega arith), length-append) (omega (arith, few))

-- Numbers as bytes, once over the width: what was written is read back, and what was read is written back.
use Prim.Native.Nat.{ℕ, zero, suc, ◌+◌, ◌*◌, ◌/◌, ◌%◌, ◌<◌, ◌^◌}
use mathlib.Core.Path.{◌≡◌, refl, sym, ap, ap₂, ◌∙◌}
use mathlib.Core.List.{List, [], ◌∷◌, ◌++◌}
use native.Mathlib.Nat.{pow-succ', one-le-pow, zero-lt-suc, mod-one, mod-eq_of_lt, add-mul, add_assoc, mul_assoc, div-div-eq-div-mul, div-one, mul-add-div_right, mul-add-mod_self_right}
use native.Mathlib.Omega.{arith}
use lib.Arith.{digits_lt, digits_div, mod-mul}
use lib.ListN.{length, take, drop}
use Rattle.wire.specs.Number.{number_of, bytes_of, AtMost}

pub power_pos : (w : ℕ) → 0 < 256 ^ w
power_pos w = one-le-pow w 256 (zero-lt-suc 255)

-- a number in front of bytes: with the first of them it is a longer number
pub number_on : (a b : ℕ) (bs : List ℕ) → a * 256 ^ length (b ∷ bs) + number_of (b ∷ bs) ≡ (a * 256 + b) * 256 ^ length bs + number_of bs
unfolding number_of
number_on a b bs = rw (pow-succ', add-mul, mul_assoc, add_assoc)

pub number_lt : (bs : List ℕ) → AtMost 0xFF bs → number_of bs < 256 ^ length bs
unfolding number_of
number_lt [] h = omega arith
number_lt (b ∷ bs) (h, hs) = rw pow-succ' (digits_lt (omega arith) (number_lt bs hs))

-- a part of bytes is bytes
pub at_most_drop : (m k : ℕ) (bs : List ℕ) → AtMost m bs → AtMost m (drop k bs)
at_most_drop m zero bs h = h
at_most_drop m (suc k) [] h = h
at_most_drop m (suc k) (b ∷ bs) (h, hs) = at_most_drop m k bs hs

pub at_most_take : (m k : ℕ) (bs : List ℕ) → AtMost m bs → AtMost m (take k bs)
at_most_take m zero bs h = tt
at_most_take m (suc k) [] h = tt
at_most_take m (suc k) (b ∷ bs) (h, hs) = (h, at_most_take m k bs hs)

pub at_most_append : (m : ℕ) (x y : List ℕ) → AtMost m x → AtMost m y → AtMost m (x ++ y)
at_most_append m [] y a b = b
at_most_append m (c ∷ x) y (a, as') b = (a, at_most_append m x y as' b)

pub length_bytes : (w n : ℕ) → length (bytes_of w n) ≡ w
unfolding bytes_of
length_bytes zero n = refl
length_bytes (suc w) n = ap suc (length_bytes w n)

pub bytes_at_most : (w n : ℕ) → AtMost 0xFF (bytes_of w n)
unfolding bytes_of
bytes_at_most zero n = tt
bytes_at_most (suc w) n = (omega arith, bytes_at_most w n)

-- what was written is read back
pub number_bytes : (w n : ℕ) → number_of (bytes_of w n) ≡ n % 256 ^ w
unfolding number_of bytes_of
number_bytes zero n = sym (mod-one n)
number_bytes (suc w) n =
    rw (length_bytes w n, number_bytes w n, pow-succ' 256 w) (sym (mod-mul n (zero-lt-suc 255) (power_pos w)))

-- the last byte apart
pub bytes_last : (w n : ℕ) → bytes_of (suc w) n ≡ bytes_of w (n / 256) ++ (n % 256 ∷ [])
unfolding bytes_of
bytes_last zero n = rw (div-one n)
bytes_last (suc w) n =
    ap₂ (λ (b : ℕ) (bs : List ℕ). b ∷ bs) (rw (pow-succ', div-div-eq-div-mul)) (bytes_last w n)

-- what stands in front of the last w bytes does not matter to them
pub bytes_behind : (w q n : ℕ) → bytes_of w (q * 256 ^ w + n) ≡ bytes_of w n
unfolding bytes_of
bytes_behind zero q n = refl
bytes_behind (suc w) q n =
    rw (pow-succ', ← (mul_assoc q 256 (256 ^ w)), mul-add-div_right (power_pos w), mul-add-mod_self_right, bytes_behind w (q * 256) n)

-- what was read is written back
pub bytes_number : (bs : List ℕ) → AtMost 0xFF bs → bytes_of (length bs) (number_of bs) ≡ bs
unfolding number_of bytes_of
bytes_number [] h = refl
bytes_number (b ∷ bs) (h, hs) =
    ap₂ (λ (x : ℕ) (xs : List ℕ). x ∷ xs)
    (rw (digits_div b (number_lt bs hs)) (mod-eq_of_lt (omega arith)))
    (bytes_behind (length bs) b (number_of bs) ∙ bytes_number bs hs)

-- The tests by quotients, which cannot overflow, are the definition's by products.
use Prim.Native.Nat.{ℕ, zero, suc, ◌+◌, ◌*◌, ◌-◌, ◌/◌, ◌^◌, ◌≤◌, ◌<◌}
use mathlib.Core.Path.{◌≡◌, refl, sym}
use mathlib.Core.Bool.{Bool, true, false}
use native.Mathlib.Nat.{le-mul_of_pos_right, pow-suc, pow-le-pow_right, div-eq_of_lt, le-div_iff_mul-le, div-lt_iff_lt-mul}
use native.Mathlib.Omega.{arith}
use Rattle.std.proofs.Common.{pow-add}
use borrow.Author.Tests.{le-leb, lt-leb, leb-true, leb-false, lt-ltb, le-ltb}
use lib.Dec.{leb, ltb}
use Rattle.wire.proofs.Numbers.{power_pos}
use Rattle.levels.proofs.Laws.{stack_length}

-- two tests that hold together, and fail together
leb_same : (a b c d : ℕ) → (a ≤ b → c ≤ d) → (b < a → d < c) → leb a b ≡ leb c d
leb_same a b c d h k = go (leb a b) refl
  where
    go : (x : Bool) → leb a b ≡ x → x ≡ leb c d
    go true e = sym (le-leb c d (h (leb-true a b e)))
    go false e = sym (lt-leb c d (k (leb-false a b e)))

-- two bytes an item
pub halves : (n m : ℕ) → leb m (n / 2) ≡ leb (2 * m) n
halves n m = leb_same m (n / 2) (2 * m) n (λ h. omega arith) (λ h. omega arith)

-- eight bits a byte
byte_bits : (j : ℕ) → 2 ^ (8 * j) ≡ 256 ^ j
byte_bits zero = refl
byte_bits (suc j) =
    let e : 8 * suc j ≡ 8 * j + 8 = omega arith in
    rw (e, pow-add 2 (8 * j) 8, byte_bits j) (sym (pow-suc 256 j))

pub shifted : (n j : ℕ) → n / 2 ^ (8 * j) ≡ n / 256 ^ j
shifted n j = rw byte_bits

-- of a number of eight bytes nothing is left without eight or more
pub none_left : (n j : ℕ) → n < 2 ^ 64 → 8 ≤ j → n / 256 ^ j ≡ 0
none_left n j h k = div-eq_of_lt (omega (arith, pow-le-pow_right {n = 256} (omega arith) {i = 8} {j = j} k))

module _ (v j n : ℕ) where
  -- v with j more bytes, all zero, is at most n
  pub at_most : v ≤ n / 256 ^ j → v * 256 ^ j ≤ n
  at_most h = (le-div_iff_mul-le (power_pos j)).0 h

  pub above : n / 256 ^ j < v → n < v * 256 ^ j
  above h = (div-lt_iff_lt-mul (power_pos j)).0 h

  -- with any j more bytes it is above n
  pub beyond : n / 256 ^ j ≤ v → n < v * 256 ^ j + 256 ^ j
  beyond h =
      let w : n < suc v * 256 ^ j = (div-lt_iff_lt-mul (power_pos j)).0 (omega (arith, h)) in
      let e : suc v * 256 ^ j ≡ v * 256 ^ j + 256 ^ j = omega arith in
      rw e at w

  pub not_beyond : v < n / 256 ^ j → v * 256 ^ j + 256 ^ j ≤ n
  not_beyond h =
      let w : suc v * 256 ^ j ≤ n = (le-div_iff_mul-le (power_pos j)).0 h in
      let e : suc v * 256 ^ j ≡ v * 256 ^ j + 256 ^ j = omega arith in
      rw e at w

-- members and items behind them, two bytes each
pub members : (left m v j : ℕ) → m ≤ left / 2 → leb v ((left / 2 - m) / 256 ^ j) ≡ leb (2 * (m + v * 256 ^ j)) left
members left m v j h =
    leb_same v ((left / 2 - m) / 256 ^ j) (2 * (m + v * 256 ^ j)) left
    (λ k. omega (arith, h, at_most v j (left / 2 - m) k)) (λ k. omega (arith, h, above v j (left / 2 - m) k))

-- a number without its last k bytes is zero exactly where it has no more than k
module _ (v k : ℕ) where
  pub few_bytes : v / 256 ^ k ≡ 0 → ltb v (256 ^ k) ≡ true
  few_bytes e = lt-ltb v (256 ^ k) (omega (arith, above 1 k v (omega (arith, e))))

  pub more_bytes : (v / 256 ^ k ≡ 0 → ⊥) → ltb v (256 ^ k) ≡ false
  more_bytes e = le-ltb v (256 ^ k) (omega (arith, at_most 1 k v (omega (arith, e))))

-- v with bytes 00 behind it is nothing exactly where v is
module _ (v k : ℕ) where
  pub none_product : v ≡ 0 → v * 256 ^ k ≡ 0
  none_product e = rw e (omega arith)

  pub product_none : v * 256 ^ k ≡ 0 → v ≡ 0
  product_none e = omega (arith, le-mul_of_pos_right v (power_pos k))

-- a content and items behind it, two bytes each
pub holds : (left m v j : ℕ) → m ≤ left / 2 → leb v ((left - 2 * m) / 256 ^ j) ≡ leb (v * 256 ^ j + 2 * m) left
holds left m v j h =
    leb_same v ((left - 2 * m) / 256 ^ j) (v * 256 ^ j + 2 * m) left
    (λ k. omega (arith, h, at_most v j (left - 2 * m) k)) (λ k. omega (arith, h, above v j (left - 2 * m) k))

-- j length bytes come off first
pub room : (n j k m : ℕ) → j ≤ n → leb (j + k + 2 * m) n ≡ leb (k + 2 * m) (n - j)
room n j k m h = leb_same (j + k + 2 * m) n (k + 2 * m) (n - j) (λ e. omega arith) (λ e. omega arith)

-- what the tests of a list and of another item cite
pub ruleset at_depth = (stack_length, product_none, none_product)

pub ruleset content_room = (room, beyond, not_beyond)

-- A tab, and behind it the digits that the kit's `decimal` writes, are a number's field.
use Prim.Native.Nat.{ℕ, ◌+◌, ◌^◌, ◌≤◌, ◌<◌}
use mathlib.Core.List.{List, [], ◌∷◌}
use mathlib.Core.Path.{◌≡◌, ap, ◌∙◌}
use native.Mathlib.Omega.{arith}
use lib.ListN.{length, take, length-take}
use lib.Seq.{sets}
use Rattle.io.specs.Digits.{last_digits, IsDigitCount}
use Rattle.wire.proofs.Stores.{sets_append}
use Rattle.lines.specs.Decimal.{decimal_of}
use Rattle.lines.specs.Text.{tab, number_field}
use Rattle.lines.proofs.Digits.{fewest_spelled, fewest_few}

module _ (n k : ℕ) (d : List ℕ) (small : n < 2 ^ 64) (few : IsDigitCount 10 1 n k) (e : take k d ≡ last_digits 10 k n) where
  pub digits_are : take k d ≡ decimal_of n
  digits_are = e ∙ fewest_spelled k n few small

  pub digits_short : length (take k d) ≤ 20
  digits_short = omega (arith, length-take k d, fewest_few k n few small)

  module _ (s s₁ s₂ : List ℕ) (at a r : ℕ) (behind : a ≡ at + 1) (tabbed : s₁ ≡ sets s at (tab ∷ []))
      (end : r ≡ a + length (take k d)) (stored : s₂ ≡ sets s₁ a (take k d)) where
    pub field_end : r ≡ at + length (number_field n)
    field_end =
        let l = ap length digits_are in
        omega (arith, l, behind, end)

    pub field_stored : s₂ ≡ sets s at (number_field n)
    field_stored = rw (stored, digits_are, tabbed, behind) (sets_append s at (tab ∷ []) (decimal_of n))

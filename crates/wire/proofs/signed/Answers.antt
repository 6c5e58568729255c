-- A number's last bytes are what is left of the half, or the half more; the casts read the one as it is and the other as the negative number it stands for.
use Prim.Native.Nat.{ℕ, suc, ◌+◌, ◌-◌, ◌*◌, ◌/◌, ◌%◌, ◌<◌, ◌≤◌, ◌^◌}
use mathlib.Core.Path.{◌≡◌, sym, ap, ◌∙◌}
use native.Mathlib.Nat.{mod-lt}
use native.Mathlib.Omega.{arith}
use lib.IntN.{negsuc}
use mir.Syntax.{w64}
use mir.Val.{to_z}
use mir.ValLaws.{to_z_pos, to_z-neg}
use Rattle.wire.specs.Twos.{half_of, twos, signed_of}
use Rattle.wire.proofs.Twos.{half_pos, half_le, twos_low, twos_high, last_bytes}
use Rattle.wire.proofs.signed.Goals as goal

module _ (h n : ℕ) (p : 0 < h) (l : h ≤ 2 ^ 63) where
  low : n / h % 2 ≡ 0 → to_z w64 (n % h) ≡ twos h (n % (2 * h))
  low e =
      let m = mod-lt n p in
      let q : n % (2 * h) ≡ n % h = last_bytes h n p ∙ rw e (omega arith) in
      rw q (to_z_pos w64 (n % h) (omega arith) ∙ sym (twos_low h (n % h) m))

  high : (n / h % 2 ≡ 0 → ⊥) → to_z w64 (18446744073709551615 - (h - 1 - n % h)) ≡ twos h (n % (2 * h))
  high ne =
      let m = mod-lt n p in
      let e : n / h % 2 ≡ 1 = omega arith in
      let q : n % (2 * h) ≡ h + n % h = last_bytes h n p ∙ rw e (omega arith) in
      let b : 18446744073709551615 - (h - 1 - n % h) ≡ 2 ^ 64 - suc (h - 1 - n % h) = omega arith in
      let d : h - 1 - n % h ≡ 2 * h - suc (h + n % h) = omega arith in
      rw q (ap (to_z w64) b ∙ to_z-neg w64 (h - 1 - n % h) (omega arith) ∙ ap negsuc d ∙ sym (twos_high h (h + n % h) (omega arith)))

pub returns-then-n-half-eq0 : goal.returns-then-n-half-eq0
unfolding signed_of
returns-then-n-half-eq0 c =
    let a = c.args in
    rw c.half_of-half.ensures
    (low (half_of a.w) a.n (half_pos a.w) (half_le a.w) (rw c.half_of-half.ensures at c.if-n-half-eq0.true))

pub returns-else-n-half-eq0 : goal.returns-else-n-half-eq0
unfolding signed_of
returns-else-n-half-eq0 c =
    let a = c.args in
    rw c.half_of-half.ensures
    (high (half_of a.w) a.n (half_pos a.w) (half_le a.w) (rw c.half_of-half.ensures at c.if-n-half-eq0.false))

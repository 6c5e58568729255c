-- The number read so far, in front of the bytes still to read, stays the number of all of them; and it has as many bytes as were read.
use Rattle.std.proofs.Common.{◌≡◌, ℕ, suc, ◌+◌, ◌*◌, ◌<◌, ◌≤◌, ◌^◌, length, drop, get_or, sym, ap, ◌∙◌, subst, add-one, arith, drop-cons}
use native.Mathlib.Nat.{lt_of_lt_of_le, pow-le-pow_right, zero-lt-suc, pow-suc}
use lib.Arith.{digits_lt}
use lib.Seq.{drop-length}
use Rattle.wire.specs.Number.{number_of}
use Rattle.wire.proofs.Numbers.{number_on}
use Rattle.wire.proofs.number_of_few.Goals as goal

-- with another byte to read, at most seven were
small : (n i : ℕ) → n < 256 ^ i → i ≤ 7 → n < 256 ^ 7
small n i h k = lt_of_lt_of_le h (pow-le-pow_right (zero-lt-suc 255) k)

pub overflow_mul-n : goal.overflow_mul-n
overflow_mul-n c =
    let l = c.loop-byte in
    omega (arith, small l.n l.byte-index l.invariant.few (omega arith))

pub overflow_add-n : goal.overflow_add-n
overflow_add-n c =
    let l = c.loop-byte in
    omega (arith, c.type_inv.s l.byte-index, small l.n l.byte-index l.invariant.few (omega arith))

pub loop-byte-preserved : goal.loop-byte-preserved
loop-byte-preserved c =
    let l = c.loop-byte in
    let i = l.byte-index in
    let s = c.args.s.now in
    let b = get_or s i 0 in
    let e = drop-cons s i 0 (omega arith) in
    rw c.from.ensures (record {
      few = rw (add-one, pow-suc) (digits_lt l.invariant.few (c.type_inv.s i).fits);
      rest = rw add-one (sym (number_on l.n b (drop (suc i) s)) ∙ (rw e at l.invariant.rest));
    })

pub returns : goal.returns
unfolding number_of
returns c =
    let l = c.loop-byte in
    let s = c.args.s.now in
    let e : l.byte-index ≡ length s = omega arith in
    let d : drop l.byte-index s ≡ drop (length s) s = ap (λ (k : ℕ). drop k s) e in
    let z : l.n * 1 + 0 ≡ number_of s = rw (d, drop-length s) at l.invariant.rest in
    (omega arith, subst (λ (k : ℕ). l.n < 256 ^ k) e l.invariant.few)

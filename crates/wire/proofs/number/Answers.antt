-- At most eight bytes are their own first eight; of more, the first eight are read.
use Rattle.std.proofs.Common.{◌≡◌, ℕ, ◌<◌, ◌≤◌, ◌^◌, min, length, take, ap, ◌∙◌, arith}
use native.Mathlib.Nat.{lt_of_lt_of_le, pow-le-pow_right, zero-lt-suc}
use Rattle.std.proofs.lemmas.List.{length-take, take_min}
use Rattle.wire.specs.Number.{number_of}
use Rattle.wire.proofs.number.Goals as goal

-- what has few bytes is below what has more
wider : (r m n : ℕ) → r < 256 ^ m → m ≤ n → r < 256 ^ n
wider r m n h k = lt_of_lt_of_le h (pow-le-pow_right (zero-lt-suc 255) k)

pub returns : goal.returns
returns c =
    let s = c.args.s.now in
    let n = c.min.result in
    let e : n ≡ min 8 (length s) = omega arith in
    let first : take n s ≡ take 8 s = ap (λ (k : ℕ). take k s) e ∙ take_min 8 s in
    (c.number_of_few.ensures.0 ∙ ap number_of first, wider _ (length (take n s)) (length s) c.number_of_few.ensures.1 (simp length-take (omega arith)))

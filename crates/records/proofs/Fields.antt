-- A field is the number of its bytes, of which the first eight count, and has no more bytes than they are.
use Prim.Native.Nat.{ℕ, ◌<◌, ◌≤◌, ◌^◌, min}
use mathlib.Core.Path.{◌≡◌, ap, ◌∙◌}
use mathlib.Core.List.{List}
use native.Mathlib.Decide.{dec_lt}
use native.Mathlib.Nat.{lt_of_lt_of_le, pow-le-pow_right, zero-lt-suc}
use native.Mathlib.Omega.{arith}
use lib.ListN.{length, take, drop}
use lib.Seq.{take_all, take-take}
use Rattle.wire.specs.Number.{number_of}
use Rattle.records.specs.Fields.{field_of}

pub field_is : (size at r : ℕ) (x s : List ℕ) → x ≡ take size (drop at s) → length x ≤ size → r ≡ number_of (take 8 x) → r ≡ field_of (min 8 size) s at
unfolding field_of
field_is size at r x s e l p = p ∙ ap number_of (go (dec_lt size 8))
  where
    go : Dec (size < 8) → take 8 x ≡ take (min 8 size) (drop at s)
    go (yes h) = let m : size ≡ min 8 size = omega arith in take_all 8 x (omega arith) ∙ e ∙ ap (λ (k : ℕ). take k (drop at s)) m
    go (no h) =
        let m : 8 ≡ min 8 size = omega arith in
        ap (take 8) e ∙ take-take 8 size (drop at s) (omega arith) ∙ ap (λ (k : ℕ). take k (drop at s)) m

pub field_lt : (size r : ℕ) (x : List ℕ) → length x ≤ size → r < 256 ^ length x → r < 256 ^ size
field_lt size r x l h = lt_of_lt_of_le h (pow-le-pow_right (zero-lt-suc 255) l)

-- Three runs of stores from place 0, each behind the one before, are one: a frame's parts are written so.
use Prim.Native.Nat.{ℕ, ◌+◌}
use mathlib.Core.Path.{◌≡◌, ap, ap₂, ◌∙◌}
use mathlib.Core.List.{List, ◌++◌, append_assoc}
use native.Mathlib.Omega.{arith}
use lib.ListN.{length, length-append}
use lib.Seq.{sets}
use Rattle.wire.proofs.Stores.{sets_append}

pub three_runs : (l x y z : List ℕ) (i j : ℕ) → length x ≡ i → i + length y ≡ j → sets (sets (sets l 0 x) i y) j z ≡ sets l 0 (x ++ (y ++ z))
three_runs l x y z i j e f =
    let p : i ≡ 0 + length x = omega (arith, e) in
    let q : j ≡ 0 + length (x ++ y) = omega (arith, e, f, length-append x y) in
    ap (λ (k : ℕ). sets (sets (sets l 0 x) k y) j z) p
    ∙ ap₂ (λ (s : List ℕ) (k : ℕ). sets s k z) (sets_append l 0 x y) q
    ∙ sets_append l 0 (x ++ y) z
    ∙ ap (sets l 0) (append_assoc x y z)

-- A code's name is short.
use Prim.Native.Nat.{ℕ, ◌≤◌}
use native.Mathlib.Omega.{arith}
use lib.ListN.{length}
use lib.Dec.{leb, leb→le}
use Rattle.item.specs.Code.{codes, found, letters}
use Rattle.item.proofs.Codes.{found_each}
use Rattle.lines.specs.Text.{name_field}

-- no name is longer than seven letters
pub name_short : (code : ℕ) → length (name_field code) ≤ 8
name_short code =
    let few : length (letters (found code codes).name) ≤ 7 = leb→le _ 7 (found_each (λ x. leb (length (letters x.name)) 7) code codes tt tt) in
    omega (arith, few)

-- A line that is printed into an array of its own, and copied from there, is stored at its place.
use Prim.Native.Nat.{ℕ, ◌+◌, ◌-◌, ◌≤◌}
use mathlib.Core.List.{List, ◌++◌}
use mathlib.Core.Path.{◌≡◌, refl, ap, sym, ◌∙◌}
use native.Mathlib.Omega.{arith}
use lib.ListN.{length, take, drop, replicate, length-replicate}
use lib.Seq.{sets, length-sets}
use Rattle.wire.specs.Lent.{copied}
use Rattle.wire.proofs.Stores.{sets_there, placed_sets}
use Rattle.lines.specs.Text.{line_text}
use Rattle.std.proofs.Common.{Option}
use Rattle.lines.specs.declared.Line.{Line}
use Rattle.lines.proofs.Short.{line_short}

abbrev zeros : List ℕ
zeros = replicate 160 0

module _ (x : Option Line) (text : List ℕ) (n : ℕ) (counted : n ≡ length (line_text x)) (stored : text ≡ sets zeros 0 (line_text x)) where
  size : length zeros ≡ 160
  size = length-replicate {A = ℕ} 160 0

  pub within : n ≤ length text
  within = omega (arith, counted, line_short x, ap length stored ∙ length-sets zeros 0 (line_text x), size)

  text_is : take n text ≡ line_text x
  text_is = rw (counted, stored) (sets_there zeros (line_text x) 0 (length (line_text x)) refl (omega (arith, line_short x, size)))

  pub text_length : n ≡ length (take n text)
  text_length = counted ∙ ap length (sym text_is)

  pub placed : (out y : List ℕ) (at : ℕ) → at + length (line_text x) ≤ length out → y ≡ copied (take (at + n - at) (drop at out)) (take n text)
      → take at out ++ (y ++ drop (at + n - at) (drop at out)) ≡ sets out at (line_text x)
  placed out y at h q = rw counted (placed_sets out (line_text x) y at h (rw (text_is, counted) at q))

-- A byte prints at most two lines.
use Prim.Native.Nat.{ℕ, ◌≤◌}
use native.Mathlib.Omega.{arith}
use lib.ListN.{length, length-append}
use Rattle.lines.specs.Text.{line_text}
use Rattle.lines.proofs.Short.{line_short}
use Rattle.capture.specs.Capture.{byte_told}
use Rattle.capture.specs.declared.Lister.{Lister}
use Rattle.capture.specs.declared.Told.{Told}
use Rattle.listing.specs.Listing.{lines_of, byte_printed}

pub told_short : (t : Told) → length (lines_of t) ≤ 298
told_short t = omega (arith, length-append (line_text t.first) (line_text t.second), line_short t.first, line_short t.second)

pub byte_short : (l : Lister) (b : ℕ) → length (byte_printed l b).lines ≤ 298
unfolding byte_printed
byte_short l b = told_short (byte_told l b)

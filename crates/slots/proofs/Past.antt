-- A store past the list changes nothing.
use Rattle.std.specs.Prelude.{ℕ, ◌≤◌, List, ◌≡◌, length, set}
use mathlib.Core.Path.{sym}
use lib.Seq.{set_out}

pub set_past : {A : Type 0} (l : List A) (i : ℕ) (x : A) → length l ≤ i → l ≡ set l i x
set_past l i x h = sym (set_out l i x h)

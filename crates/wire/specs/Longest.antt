-- The most bytes that a text may have.
use Rattle.std.specs.Prelude.{ℕ}

abbrev pub longest : ℕ
longest = 32000

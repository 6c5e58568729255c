-- What the private functions ask of their arguments: no promise of a public function and no theorem cites it.
use Rattle.std.specs.Prelude.{ℕ, ◌+◌, ◌%◌, ◌≤◌, ◌<◌, List, length, get_or}
use Rattle.wire.specs.Longest.{longest}

-- a format byte stands at place p of a text, and its length bytes behind it
pub record HeaderAt (t : List ℕ) (p : ℕ) : Type 0 where
  pub short : length t ≤ longest
  pub there : p < length t
  pub whole : p + 1 + get_or t p 0 % 4 ≤ length t

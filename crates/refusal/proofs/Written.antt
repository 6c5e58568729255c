-- A writer that keeps what it is given, as a text does, holds the same after two writings of the same bytes.
use Rattle.std.specs.Prelude.{◌≡◌, ℕ, List, ◌++◌}
use Rattle.std.specs.Fmt.{HasWritten, formatter_writer}
use Rattle.std.specs.declared.fmt.Formatter.{Formatter}
use Rattle.std.proofs.Common.{sym, ◌∙◌}
use Rattle.std.proofs.lemmas.Fmt.{contents_after_writes}

-- what such a writer holds: in each of its calls it grows by the bytes that it is given
abbrev pub Holds : {W : Type 0} → (W → List ℕ → W → Type 0) → (W → List ℕ) → Type 0
Holds {W} gives held = (w : W) (bs : List ℕ) (v : W) → gives w bs v → held v ≡ held w ++ bs

pub one_writing :
    {W : Type 0} (gives : W → List ℕ → W → Type 0) (held : W → List ℕ) → Holds gives held
    → (f : Formatter W) (bs : List ℕ) (g g' : Formatter W) → HasWritten gives f bs g → HasWritten gives f bs g'
    → held (formatter_writer g) ≡ held (formatter_writer g')
one_writing gives held holds f bs g g' p q =
    contents_after_writes gives held holds _ bs _ p.wrote ∙ sym (contents_after_writes gives held holds _ bs _ q.wrote)

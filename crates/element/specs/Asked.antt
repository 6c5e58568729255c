-- What the private functions ask of their arguments: no promise of a public function and no theorem cites it.
use Rattle.std.specs.Prelude.{ℕ, ◌<◌, ◌^◌, ◌≡◌}
use Rattle.item.specs.Code.{sizes, kind_of}
use Rattle.item.specs.declared.Kind.TheVariants as K

-- n is a number of the width of this code
pub record Readable (code width n : ℕ) : Type 0 where
  pub least : ℕ
  pub known : kind_of code ≡ K.Plain (sizes width least)
  pub small : n < 256 ^ width

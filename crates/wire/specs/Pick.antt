-- A choice: the first where the test holds, else the second. The checker does not open it by itself, so that a proof goes by its two laws.
use Rattle.std.specs.Prelude.{Bool, true, false}

unfoldable pub pick {ℓ} : {A : Type ℓ} → Bool → A → A → A
pick true x y = x
pick false x y = y

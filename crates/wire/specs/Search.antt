-- A search: the place of the first element of a list that passes a test, the list's length where none does.
use Rattle.std.specs.Prelude.{ℕ, zero, suc, Bool, cond, List, [], ◌∷◌}

unfoldable pub first_at : {A : Type 0} → (A → Bool) → List A → ℕ
first_at test [] = zero
first_at test (x ∷ l) = cond (test x) zero (suc (first_at test l))

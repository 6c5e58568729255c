-- The lines of an input, without their ends; the last need not have one.
use Rattle.std.specs.Prelude.{ℕ, cond, List, [], ◌∷◌}
use Rattle.records.specs.Fields.{ends}

-- a byte before the first of these lines
abbrev pub before : ℕ → List (List ℕ) → List (List ℕ)
before c [] = (c ∷ []) ∷ []
before c (l ∷ ls) = (c ∷ l) ∷ ls

abbrev pub lines_of : List ℕ → List (List ℕ)
lines_of [] = []
lines_of (c ∷ s) = cond (ends c) ([] ∷ lines_of s) (before c (lines_of s))

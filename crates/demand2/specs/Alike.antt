-- Rows of the same meaning: as many, and one by one the same code, the same length and the same content, each BOOLEAN a truth. Places may differ.
use Rattle.std.specs.Prelude.{List, [], ◌∷◌, ◌≡◌, ℕ}
use Rattle.item.specs.Code.{L}
use Rattle.item.specs.Item.{told}
use Rattle.rows.specs.Row.{part_at}
use Rattle.rows.specs.declared.Row.{Row}

-- r with its content in s, and q with its content in t
pub record Alike (s : List ℕ) (r : Row) (t : List ℕ) (q : Row) : Type 0 where
  pub code : r.code ≡ q.code
  pub same_length : r.length ≡ q.length
  pub content : (r.code ≡ L → ⊥) → told r.code (part_at s r) ≡ told q.code (part_at t q)

abbrev pub AllAlike : List ℕ → List Row → List ℕ → List Row → Type 0
AllAlike s [] t [] = Unit {0}
AllAlike s [] t (q ∷ qs) = ⊥
AllAlike s (r ∷ rs) t [] = ⊥
AllAlike s (r ∷ rs) t (q ∷ qs) = Alike s r t q × AllAlike s rs t qs

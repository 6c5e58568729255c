-- What private functions of text and writer ask of a text and of rows: no promise of a public function and no theorem cites it.
use Rattle.std.specs.Prelude.{ℕ, zero, suc, ◌+◌, ◌≤◌, ◌<◌, List, [], ◌∷◌, ◌≡◌, length}
use Rattle.wire.specs.Longest.{longest}
use Rattle.item.specs.Code.{L}
use Rattle.rows.specs.Row.{size_of}
use Rattle.rows.specs.Rows.{own_bytes, rows_in}
use Rattle.rows.specs.declared.Row.{Row}

-- the text ends where a row's own bytes end; so many bytes still belong to the last row
unfoldable pub Ends : ℕ → List ℕ → Type 0
Ends zero [] = Unit {0}
Ends (suc k) [] = ⊥
Ends zero (b ∷ t) = Ends (own_bytes b t) t
Ends (suc k) (b ∷ t) = Ends k t

pub record Sound (t : List ℕ) : Type 0 where
  pub short : length t ≤ longest
  pub ends : Ends 0 t
  pub few : size_of (rows_in t) ≤ longest

-- a row that can be written from a content: its format byte is a byte, with up to four length bytes, and its content is there
pub record Fits (s : List ℕ) (r : Row) : Type 0 where
  pub small : r.code < 63
  pub within : (r.code ≡ L → ⊥) → r.place + r.length ≤ length s

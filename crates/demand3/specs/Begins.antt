-- Which prefixes some text of a form, good or lean, and of n bytes begins with.
use Rattle.std.specs.Prelude.{ℕ, ◌<◌, List, ◌++◌, ◌≡◌, length, get_or}
use Rattle.item.specs.Item.{Tree, Says, Formed}
use Rattle.item.specs.declared.Form.{Form}
use Rattle.reader.specs.Place.{content_byte, number_at}
use Rattle.demand3.specs.Roles.{roles_of}

-- some text exists, is of the form, has n bytes and begins with p
abbrev pub Begins : Form → ℕ → List ℕ → Type 0
Begins f n p = (t : List ℕ) × Formed f (p ++ t) × (length (p ++ t) ≡ n)

-- e is 01's number for a byte b that comes behind q: by the role of that place in every text of the form, of n bytes, that begins with q
pub record NumberBehind (f : Form) (n : ℕ) (q : List ℕ) (b e : ℕ) : Type 0 where
  pub says : (t : List ℕ) (w : Tree) (s : Says f w (q ++ t)) → length (q ++ t) ≡ n → 0 < length t
      → e ≡ number_at (get_or (roles_of f w (q ++ t) s) (length q) content_byte) b

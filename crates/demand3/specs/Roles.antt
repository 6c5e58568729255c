-- The role of each byte of a text: format byte, length byte or content byte, in order.
use Rattle.std.specs.Prelude.{ℕ, suc, ◌+◌, ◌*◌, List, [], ◌∷◌, ◌++◌, map, length}
use Rattle.item.specs.Code.{L}
use Rattle.item.specs.Item.{Item, Items, plain, list, none, more, Tree, empty, one, Spells, SpellsAll, Says}
use Rattle.item.specs.declared.Form.{Form}
use Rattle.reader.specs.Place.{Role, format_byte, length_byte, content_byte}

-- the length bytes of an item of code c at depth d; those before them say v
abbrev pub length_roles : ℕ → ℕ → ℕ → List ℕ → List Role
length_roles c d v [] = []
length_roles c d v (b ∷ bs) = length_byte c d (length bs) v ∷ length_roles c d (v * 256 + b) bs

unfoldable mutual
  pub item_roles : (i : Item) (f : Form) (d : ℕ) (t : List ℕ) → Spells f d i t → List Role
  item_roles (plain c x) f d t (ls, e, lens, con, deep) = format_byte ∷ length_roles c d 0 ls ++ map (λ (b : ℕ). content_byte) x
  item_roles (list is) f d t (ls, body, e, lens, all, deep) = format_byte ∷ length_roles L d 0 ls ++ items_roles is f (suc d) body all

  pub items_roles : (is : Items) (f : Form) (d : ℕ) (t : List ℕ) → SpellsAll f d is t → List Role
  items_roles none f d t e = []
  items_roles (more i is) f d t (u, v, e, s, all) = item_roles i f d u s ++ items_roles is f d v all

abbrev pub roles_of : (f : Form) (w : Tree) (t : List ℕ) → Says f w t → List Role
roles_of f empty t s = []
roles_of f (one i) t s = item_roles i f 1 t s.0

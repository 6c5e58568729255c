-- The words of the gap: items without members, and an item of so many bytes.
use Rattle.std.specs.Prelude.{ℕ, List, ◌≡◌, length}
use Rattle.item.specs.Item.{Item, plain, list, count, Spells}
use Rattle.item.specs.declared.Form.{Form}

-- an item has no members: it is no list, or an empty one
abbrev pub Memberless : Item → Type 0
Memberless (plain c x) = Unit {0}
Memberless (list is) = count is ≡ 0

-- some item of the form, at depth d, is n bytes long
abbrev pub OfSize : Form → ℕ → ℕ → Type 0
OfSize f d n = (i : Item) × (u : List ℕ) × Spells f d i u × (length u ≡ n)

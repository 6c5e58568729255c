-- The item: the tree, which bytes spell which tree, good texts, the lean form and the meaning.
use Rattle.std.specs.Prelude.{ℕ, zero, suc, ◌+◌, ◌*◌, ◌≤◌, true, cond, List, [], ◌∷◌, ◌++◌, map, ◌≡◌, eqb, ltb, length}
use Rattle.wire.specs.Longest.{longest}
use Rattle.wire.specs.Number.{number_of, bytes_of, AtMost}
use Rattle.item.specs.Code.{L, BOOLEAN, kind_of, is_plain, allowed, largest}
-- what is asked of a good text, and more of one in lean form
pub use Rattle.item.specs.declared.Form.{Form}
pub use Rattle.item.specs.declared.Form.TheVariants.{Good as good, Lean as lean}

-- the tree: an item has a code other than L and its content, or is a list of members
mutual
  pub data Item : Type 0 where
    plain : ℕ → List ℕ → Item
    list : Items → Item

  pub data Items : Type 0 where
    none : Items
    more : Item → Items → Items

abbrev pub count : Items → ℕ
count none = zero
count (more i is) = suc (count is)

-- a text says nothing, or one item
pub data Tree : Type 0 where
  empty : Tree
  one : Item → Tree

-- the fewest bytes that hold a length (1 for zero)
unfoldable pub fewest : ℕ → ℕ
fewest n = cond (ltb n 256) 1 (cond (ltb n 65536) 2 (cond (ltb n 16777216) 3 4))

abbrev pub Fewest : Form → List ℕ → ℕ → Type 0
Fewest good ls n = Unit {0}
Fewest lean ls n = length ls ≡ fewest n

-- 1 to 3 length bytes that say n, leading zeros good; in lean form the fewest that hold n
pub record Lengths (f : Form) (ls : List ℕ) (n : ℕ) : Type 0 where
  pub some : 1 ≤ length ls
  pub few : length ls ≤ 3
  pub bytes : AtMost 0xFF ls
  pub says : number_of ls ≡ n
  pub form : Fewest f ls n

-- the largest content byte of a code; in lean form BOOLEAN bytes are 00 or 01
abbrev pub limit : Form → ℕ → ℕ
limit good c = largest c
limit lean c = cond (eqb c BOOLEAN) 0x01 (largest c)

-- a content of a code other than L
pub record Content (f : Form) (c : ℕ) (x : List ℕ) : Type 0 where
  pub known : is_plain (kind_of c) ≡ true
  pub whole : allowed c (length x) ≡ true
  pub bytes : AtMost (limit f c) x

-- a format byte (code x 4 + number of length bytes) and the length bytes
abbrev pub header : ℕ → List ℕ → List ℕ
header c ls = (c * 4 + length ls) ∷ ls

-- these bytes spell an item at depth d: header and content, or header and members, one deeper
abbrev mutual
  pub Spells : Form → ℕ → Item → List ℕ → Type 0
  Spells f d (plain c x) t =
      (ls : List ℕ) × (t ≡ header c ls ++ x) × Lengths f ls (length x) × Content f c x × (d ≤ 16)
  Spells f d (list is) t =
      (ls : List ℕ) × (body : List ℕ) × (t ≡ header L ls ++ body) × Lengths f ls (count is)
      × SpellsAll f (suc d) is body × (d ≤ 16)

  pub SpellsAll : Form → ℕ → Items → List ℕ → Type 0
  SpellsAll f d none t = t ≡ []
  SpellsAll f d (more i is) t =
      (u : List ℕ) × (v : List ℕ) × (t ≡ u ++ v) × Spells f d i u × SpellsAll f d is v

-- a text is empty, or exactly one item at depth 1 whose bytes fill it, with at most 32,000 bytes
abbrev pub Says : Form → Tree → List ℕ → Type 0
Says f empty t = t ≡ []
Says f (one i) t = Spells f 1 i t × (length t ≤ longest)

-- a text of a form
abbrev pub Formed : Form → List ℕ → Type 0
Formed f t = (w : Tree) × Says f w t

abbrev pub Good : List ℕ → Type 0
Good = Formed good

abbrev pub Lean : List ℕ → Type 0
Lean = Formed lean

-- BOOLEAN 00 is false, any other true
abbrev pub truth : ℕ → ℕ
truth b = cond (eqb b 0x00) 0x00 0x01

-- a content, each BOOLEAN a truth
unfoldable pub told : ℕ → List ℕ → List ℕ
told c x = cond (eqb c BOOLEAN) (map truth x) x

-- the meaning: the tree of codes, counts and contents, each BOOLEAN a truth
unfoldable mutual
  pub meaning : Item → Item
  meaning (plain c x) = plain c (told c x)
  meaning (list is) = list (meanings is)

  pub meanings : Items → Items
  meanings none = none
  meanings (more i is) = more (meaning i) (meanings is)

abbrev pub meaning_of : Tree → Tree
meaning_of empty = empty
meaning_of (one i) = one (meaning i)

-- the lean form: each length in the fewest bytes, each BOOLEAN 00 or 01
abbrev pub lean_header : ℕ → ℕ → List ℕ
lean_header c n = header c (bytes_of (fewest n) n)

unfoldable mutual
  pub lean_item : Item → List ℕ
  lean_item (plain c x) = lean_header c (length x) ++ told c x
  lean_item (list is) = lean_header L (count is) ++ lean_items is

  pub lean_items : Items → List ℕ
  lean_items none = []
  lean_items (more i is) = lean_item i ++ lean_items is

abbrev pub lean_of : Tree → List ℕ
lean_of empty = []
lean_of (one i) = lean_item i

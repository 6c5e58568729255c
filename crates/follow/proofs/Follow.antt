-- What may follow in a text of a form of which a part was read. The levels are counts of items still awaited, innermost first; an item at the innermost
-- of them has the depth of their number.
use Prim.Native.Nat.{ℕ, zero, suc, ◌+◌, ◌*◌, ◌≤◌, ◌<◌}
use mathlib.Core.Bool.{true}
use mathlib.Core.List.{List, [], ◌∷◌, ◌++◌}
use mathlib.Core.Logic.{◌⊎◌}
use mathlib.Core.Path.{◌≡◌}
use lib.ListN.{length}
use Rattle.item.specs.Code.{L, kind_of, is_plain, allowed}
use Rattle.item.specs.Item.{Items, count, limit, SpellsAll}
use Rattle.item.specs.declared.Form.{Form}
use Rattle.item.specs.declared.Form.TheVariants.{Good as good, Lean as lean}

-- u is n items at depth d, one behind the other
abbrev pub Run : Form → ℕ → ℕ → List ℕ → Type 0
Run f d n u = (is : Items) × (count is ≡ n) × SpellsAll f d is u

-- t is what these levels await
abbrev pub Awaited : Form → List ℕ → List ℕ → Type 0
Awaited f [] t = t ≡ []
Awaited f (n ∷ st) t = (u : List ℕ) × (v : List ℕ) × (t ≡ u ++ v) × Run f (suc (length st)) n u × Awaited f st v

-- t is l more content bytes of the code c, and then what the levels await
abbrev pub AfterContent : Form → List ℕ → ℕ → ℕ → List ℕ → Type 0
AfterContent f st c zero t = Awaited f st t
AfterContent f st c (suc l) [] = ⊥
AfterContent f st c (suc l) (b ∷ t) = (b ≤ limit f c) × AfterContent f st c l t

pub record PlainLength (c v : ℕ) : Type 0 where
  pub known : is_plain (kind_of c) ≡ true
  pub whole : allowed c v ≡ true

-- t follows a length of v: that many members, or that many content bytes
abbrev pub AfterLength : Form → List ℕ → ℕ → ℕ → List ℕ → Type 0
AfterLength f st c v t = ((c ≡ L) × Awaited f (v ∷ st) t) ⊎ (PlainLength c v × AfterContent f st c v t)

-- length bytes that say v may have j more behind them: in lean form the first of several is not 00
abbrev pub Leads : Form → ℕ → ℕ → Type 0
Leads good j v = Unit {0}
Leads lean zero v = Unit {0}
Leads lean (suc j) v = 0 < v

-- t is j more length bytes, behind those that say v, and what follows them
abbrev pub AfterLengths : Form → List ℕ → ℕ → ℕ → ℕ → List ℕ → Type 0
AfterLengths f st c zero v t = AfterLength f st c v t
AfterLengths f st c (suc j) v [] = ⊥
AfterLengths f st c (suc j) v (b ∷ t) = (b ≤ 0xFF) × Leads f j (v * 256 + b) × AfterLengths f st c j (v * 256 + b) t

-- a code is L's, or that of plain items
pub data Known (c : ℕ) : Type 0 where
  a_list : c ≡ L → Known c
  a_plain : is_plain (kind_of c) ≡ true → Known c

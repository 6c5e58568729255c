-- The items of a text in order of appearance, each with its depth, code and length: by its tree; as a reader shows them, byte by byte; and as calls of the
-- next item tell them, again and again.
use Rattle.std.specs.Prelude.{ℕ, zero, suc, ◌≡◌, Bool, true, false, cond, List, [], ◌∷◌, ◌++◌, length, drop}
use Rattle.item.specs.Code.{L}
use Rattle.item.specs.Item.{Item as Node, Items, plain, list, none, more, count, Tree, empty, one}
use Rattle.reader.specs.State.{State, state_of}
use Rattle.reader.specs.Step.{step}
use Rattle.reader.specs.Feed.{status, status_of, fed, fed_of}
use Rattle.reader.specs.Items.{shown, next_of}
use Rattle.reader.specs.Answer.{Answer, More, Complete, Refusal, Fed, Found, Nothing, Item, Reached}
use Rattle.reader.specs.declared.Reader.{Reader}
use Rattle.rows.specs.declared.Row.{Row}
use Rattle.demand3.specs.Feeds.{more_consumed}

pub record Entry : Type 0 where
  pub depth : ℕ
  pub code : ℕ
  pub length : ℕ

abbrev pub entry : ℕ → ℕ → ℕ → Entry
entry d c v = record { depth = d; code = c; length = v }

-- ---- by the tree

-- an item at depth d, and its members one deeper
unfoldable mutual
  pub told : Node → ℕ → List Entry
  told (plain c x) d = entry d c (length x) ∷ []
  told (list is) d = entry d L (count is) ∷ told_all is (suc d)

  pub told_all : Items → ℕ → List Entry
  told_all none d = []
  told_all (more i is) d = told i d ++ told_all is d

-- the outer item has depth 1
abbrev pub told_of : Tree → List Entry
told_of empty = []
told_of (one i) = told i 1

-- ---- as a reader shows them

abbrev pub noted : Found → List Entry
noted Nothing = []
noted (Item d c v) = entry d c v ∷ []

-- up to the byte that completes the text; a byte that is refused shows none
abbrev pub showing : Answer → Found → List Entry → List Entry
showing More x es = noted x ++ es
showing Complete x es = noted x
showing (Refusal e) x es = []

unfoldable pub entries_in : State → List ℕ → List Entry
entries_in s [] = []
entries_in s (b ∷ bs) = showing (status (step s b)) (shown s b) (entries_in (step s b) bs)

-- ---- as calls tell them

-- an item was met and the answer is more: the next call is on the bytes that are left
abbrev pub goes_on_after : Found → Answer → Bool
goes_on_after Nothing a = false
goes_on_after (Item d c v) More = true
goes_on_after (Item d c v) Complete = false
goes_on_after (Item d c v) (Refusal e) = false

abbrev pub onward : Reached → Bool
onward f = goes_on_after f.found f.answer

-- an answer of the next item, without the item, as one of a feed
abbrev pub fed_by : Reached → Fed
fed_by f = fed f.answer f.consumed f.reader

-- the feed of the bytes bs, by the first answer f: that answer, or from its reader the feed of what it left
abbrev pub fed_again : Reached → List ℕ → Fed
fed_again f bs = cond (onward f) (more_consumed f.consumed (fed_of f.reader (drop f.consumed bs))) (fed_by f)

-- what calls tell: the items, and the last answer with the bytes consumed in all and the last reader
pub record Run : Type 0 where
  pub entries : List Entry
  pub last : Fed

-- one answer, and what the calls behind it tell
abbrev pub behind : Reached → Run → Run
behind f next =
    cond (onward f)
    (record { entries = noted f.found ++ next.entries; last = more_consumed f.consumed next.last })
    (record { entries = noted f.found; last = fed_by f })

-- at most m calls, the first on the bytes bs
unfoldable pub calls : ℕ → Reader → List ℕ → Run
calls zero r bs = record { entries = []; last = fed More 0 r }
calls (suc m) r bs = behind (next_of r bs) (calls m (next_of r bs).reader (drop (next_of r bs).consumed bs))

-- calls are the feed of bs and tell, of a reader that goes on, the items that it shows
pub record Agrees (r : Reader) (bs : List ℕ) (run : Run) : Type 0 where
  pub feeds : run.last ≡ fed_of r bs
  pub tells : status_of r ≡ More → run.entries ≡ entries_in (state_of r) bs

-- ---- codes and lengths

abbrev pub entry_numbers : List Entry → List (ℕ × ℕ)
entry_numbers [] = []
entry_numbers (e ∷ es) = (e.code, e.length) ∷ entry_numbers es

abbrev pub row_numbers : List Row → List (ℕ × ℕ)
row_numbers [] = []
row_numbers (r ∷ rs) = (r.code, r.length) ∷ row_numbers rs

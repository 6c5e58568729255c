-- The items that a reader shows of a text of a form, good or lean, are those of its tree, each with its depth, and of a good text its rows.
use Prim.Native.Nat.{ℕ, zero, suc, ◌+◌, ◌*◌, ◌-◌, ◌≤◌, ◌<◌}
use mathlib.Core.Path.{◌≡◌, refl, sym, ap, ap₂, subst, ◌∙◌}
use mathlib.Core.Bool.{Bool, true, false, cond}
use mathlib.Core.List.{List, [], ◌∷◌, ◌++◌, map, append_assoc, append-nil}
use native.Mathlib.Omega.{arith}
use borrow.Author.Tests.{lt-ltb, le-ltb, ne_eqb}
use lib.Dec.{ltb}
use lib.ListN.{length, length-append}
use Rattle.wire.specs.Longest.{longest}
use Rattle.wire.specs.Number.{AtMost, number_of}
use Rattle.wire.proofs.Numbers.{number_on}
use Rattle.item.specs.Code.{L}
use Rattle.item.specs.Item.{Item, Items, plain, list, none, more, count, Tree, empty, one, Lengths, header, Spells, SpellsAll, Says}
use Rattle.item.specs.declared.Form.{Form}
use Rattle.item.specs.declared.Form.TheVariants.{Good as good}
use Rattle.item.proofs.Laws.{good_bytes}
use Rattle.follow.proofs.Leading.{grown}
use Rattle.reader.specs.State.{State, state, state_of, reader_of, fresh}
use Rattle.reader.specs.Step.{step}
use Rattle.reader.specs.Feed.{allows, status_at, status}
use Rattle.reader.specs.Items.{shown_at, shown, reached, seek, begin, next_of}
use Rattle.reader.specs.Place.{Role, format_byte, length_byte, content_byte}
use Rattle.reader.proofs.Rest.{RestAt, Rest, LiveAt, Live}
use Rattle.reader.specs.declared.Phase.{Phase}
use Rattle.reader.specs.declared.Phase.TheVariants.{Format, Length, Content, Refused}
use Rattle.reader.specs.Answer.{Answer, More, Complete, Refusal, Nothing, Item as an_item}
use Rattle.reader.proofs.Right.{Out, goes, ends, role_in, step_right}
use Rattle.reader.specs.declared.Reader.{Reader}
use Rattle.reader.proofs.Allowed.{state_reader}
use Rattle.reader.proofs.Fresh.{one_live}
use Rattle.demand3.specs.Roles.{length_roles, item_roles, items_roles}
use Rattle.demand3.proofs.Along.{Along, nothing, never, stands, falls, along_fresh, where_to}
use Rattle.rows.specs.Rows.{item_rows, items_rows, rows_of_text}
use Rattle.rows.specs.declared.Row.{Row}
use Rattle.follow.proofs.Sizes.{item_size}
use Rattle.demand3.proofs.Walk.{taken, step_there, text_taken}
use Rattle.itemwise.specs.Told.{Entry, entry, noted, showing, entries_in, told, told_all, told_of, calls, entry_numbers, row_numbers}
use Rattle.itemwise.proofs.Calls.{live_on, on_status, again}

-- ---- by the roles of the bytes

-- the item that a byte of a role shows
abbrev note_at : Role → ℕ → List Entry
note_at format_byte b = []
note_at (length_byte c d left v) b = cond (ltb 0 left) [] (entry d c (v * 256 + b) ∷ [])
note_at content_byte b = []

abbrev notes : List Role → List ℕ → List Entry
notes [] t = []
notes (ρ ∷ ρs) [] = []
notes (ρ ∷ ρs) (b ∷ t) = note_at ρ b ++ notes ρs t

shown_at_noted : (p : Phase) (d b : ℕ) → noted (shown_at p d b) ≡ note_at (role_in p d) b
shown_at_noted Format d b = refl
shown_at_noted (Length c j v) d b = go (ltb 0 (j - 1))
  where
    go : (x : Bool) → noted (cond x Nothing (an_item d c (v * 256 + b))) ≡ cond x [] (entry d c (v * 256 + b) ∷ [])
    go true = refl
    go false = refl
shown_at_noted (Content c l) d b = refl
shown_at_noted (Refused e) d b = refl

shown_note : (s : State) (b : ℕ) → noted (shown s b) ≡ note_at (role_in s.phase (length s.stack)) b
unfolding shown
shown_note s b = shown_at_noted s.phase (length s.stack) b

-- nothing follows a complete text
complete_end : (f : Form) (p : Phase) (st t : List ℕ) → status_at p st ≡ Complete → RestAt f p st t → t ≡ []
complete_end f Format [] t e w = w
complete_end f Format (m ∷ st) t e w = let z : ◌≡◌ {A = ℕ} 0 1 = cc in absurd (omega arith)
complete_end f (Length c j v) st t e w = let z : ◌≡◌ {A = ℕ} 0 1 = cc in absurd (omega arith)
complete_end f (Content c l) st t e w = let z : ◌≡◌ {A = ℕ} 0 1 = cc in absurd (omega arith)
complete_end f (Refused x) st t e w = absurd w

-- a live state is not refused
not_refused : (p : Phase) (st : List ℕ) (x : ℕ) → LiveAt p st → status_at p st ≡ Refusal x → ⊥
not_refused Format [] x at e = let z : ◌≡◌ {A = ℕ} 0 1 = cc in omega arith
not_refused Format (m ∷ st) x at e = let z : ◌≡◌ {A = ℕ} 0 1 = cc in omega arith
not_refused (Length c j v) st x at e = let z : ◌≡◌ {A = ℕ} 0 1 = cc in omega arith
not_refused (Content c l) st x at e = let z : ◌≡◌ {A = ℕ} 0 1 = cc in omega arith
not_refused (Refused y) st x at e = at

is_live : (f : Form) (n k m : ℕ) (s : State) (t : List ℕ) → Out f n k m s → Rest s t → Live s
is_live f n k m s t (goes l x y z) w = l
is_live f n k m s t (ends x y e) w = absurd (subst (λ (z : State). RestAt z.form z.phase z.stack t) e w.1)

-- one byte
module _ (s : State) (b : ℕ) (t : List ℕ) (live : Live (step s b)) (w : Rest (step s b) t) where
  abbrev left : List Entry
  left = notes (taken ((step s b).phase, (step s b).stack) t) t

  one_shown : (a : Answer) → status (step s b) ≡ a → entries_in (step s b) t ≡ left
      → showing a (shown s b) (entries_in (step s b) t) ≡ noted (shown s b) ++ left
  unfolding status
  one_shown More e h = ap (λ (es : List Entry). noted (shown s b) ++ es) h
  one_shown Complete e h =
      let z : t ≡ [] = complete_end (step s b).form (step s b).phase (step s b).stack t e w.1 in
      sym (append-nil (noted (shown s b))) ∙ sym (ap (λ (u : List ℕ). noted (shown s b) ++ notes (taken ((step s b).phase, (step s b).stack) u) u) z)
  one_shown (Refusal x) e h = absurd (not_refused (step s b).phase (step s b).stack x live.at e)

  one_along : entries_in (step s b) t ≡ left
      → showing (status (step s b)) (shown s b) (entries_in (step s b) t) ≡ notes (taken (s.phase, s.stack) (b ∷ t)) (b ∷ t)
  one_along h =
      one_shown (status (step s b)) refl h
      ∙ ap (λ (es : List Entry). es ++ left) (shown_note s b)
      ∙ ap (λ a. note_at (role_in s.phase (length s.stack)) b ++ notes (taken a t) t) (sym (where_to (step s b) live (step_there s b)))

-- a reader that may read all of t shows what the roles of its bytes show
along : (t : List ℕ) (s : State) → Live s → Rest s t → AtMost 0xFF t → entries_in s t ≡ notes (taken (s.phase, s.stack) t) t
unfolding entries_in
along [] s live w bytes = refl
along (b ∷ t) s live w bytes =
    let right = step_right s b live (omega (arith, w.0)) bytes.0 in
    let w' = right.into t (omega (arith, w.0)) w.1 in
    let live' = is_live _ _ _ _ (step s b) t right.out w' in
    one_along s b t live' w' (along t (step s b) live' w' bytes.1)

-- ---- by the tree

notes_append : (rs qs : List Role) (u v : List ℕ) → length rs ≡ length u → notes (rs ++ qs) (u ++ v) ≡ notes rs u ++ notes qs v
notes_append [] qs [] v h = refl
notes_append [] qs (b ∷ u) v h = absurd (omega arith)
notes_append (ρ ∷ rs) qs [] v h = absurd (omega arith)
notes_append (ρ ∷ rs) qs (b ∷ u) v h =
    ap (λ (es : List Entry). note_at ρ b ++ es) (notes_append rs qs u v (omega arith)) ∙ sym (append_assoc (note_at ρ b) (notes rs u) (notes qs v))

lengths_many : (c d v : ℕ) (ls : List ℕ) → length (length_roles c d v ls) ≡ length ls
lengths_many c d v [] = refl
lengths_many c d v (b ∷ ls) = ap suc (lengths_many c d (v * 256 + b) ls)

-- the last length byte shows the item
lengths_noted : (c d v b : ℕ) (ls : List ℕ) → notes (length_roles c d v (b ∷ ls)) (b ∷ ls) ≡ entry d c (grown v (b ∷ ls)) ∷ []
unfolding number_of
lengths_noted c d v b [] =
    let e : grown v (b ∷ []) ≡ v * 256 + b = omega arith in
    rw e
lengths_noted c d v b (b' ∷ ls) =
    rw (lt-ltb 0 (suc (length ls)) (omega arith))
    (lengths_noted c d (v * 256 + b) b' ls ∙ ap (λ (n : ℕ). entry d c n ∷ []) (sym (number_on v b (b' ∷ ls))))

header_noted : (f : Form) (c d n : ℕ) (ls : List ℕ) → Lengths f ls n → notes (format_byte ∷ length_roles c d 0 ls) (header c ls) ≡ entry d c n ∷ []
header_noted f c d n [] lens = absurd (omega (arith, lens.some))
header_noted f c d n (b ∷ ls) lens =
    let e : grown 0 (b ∷ ls) ≡ n = omega (arith, lens.says) in
    lengths_noted c d 0 b ls ∙ ap (λ (x : ℕ). entry d c x ∷ []) e

content_many : (x : List ℕ) → length (map (λ (b : ℕ). content_byte) x) ≡ length x
content_many [] = refl
content_many (b ∷ x) = ap suc (content_many x)

content_noted : (x : List ℕ) → notes (map (λ (b : ℕ). content_byte) x) x ≡ []
content_noted [] = refl
content_noted (b ∷ x) = content_noted x

-- a role for each byte
mutual
  unfolding item_roles items_roles

  item_many : (i : Item) (f : Form) (d : ℕ) (t : List ℕ) (s : Spells f d i t) → length (item_roles i f d t s) ≡ length t
  item_many (plain c x) f d t (ls, e, lens, con, deep) =
      let a = length-append (length_roles c d 0 ls) (map (λ (b : ℕ). content_byte) x) in
      let b = length-append ls x in
      let h = ap length e in
      omega (arith, a, b, h, lengths_many c d 0 ls, content_many x)
  item_many (list is) f d t (ls, body, e, lens, all, deep) =
      let a = length-append (length_roles L d 0 ls) (items_roles is f (suc d) body all) in
      let b = length-append ls body in
      let h = ap length e in
      omega (arith, a, b, h, lengths_many L d 0 ls, items_many is f (suc d) body all)

  items_many : (is : Items) (f : Form) (d : ℕ) (t : List ℕ) (s : SpellsAll f d is t) → length (items_roles is f d t s) ≡ length t
  items_many none f d t e = sym (ap length e)
  items_many (more i is) f d t (u, v, e, s, all) =
      length-append (item_roles i f d u s) (items_roles is f d v all)
      ∙ ap₂ (λ (x y : ℕ). x + y) (item_many i f d u s) (items_many is f d v all)
      ∙ sym (length-append u v) ∙ sym (ap length e)

-- the roles of an item's bytes show its entries
mutual
  unfolding item_roles items_roles told told_all

  item_noted : (i : Item) (f : Form) (d : ℕ) (t : List ℕ) (s : Spells f d i t) → notes (item_roles i f d t s) t ≡ told i d
  item_noted (plain c x) f d t (ls, e, lens, con, deep) =
      ap (notes (format_byte ∷ length_roles c d 0 ls ++ map (λ (b : ℕ). content_byte) x)) e
      ∙ notes_append (format_byte ∷ length_roles c d 0 ls) (map (λ (b : ℕ). content_byte) x) (header c ls) x (ap suc (lengths_many c d 0 ls))
      ∙ ap₂ (λ (a b : List Entry). a ++ b) (header_noted f c d (length x) ls lens) (content_noted x)
  item_noted (list is) f d t (ls, body, e, lens, all, deep) =
      ap (notes (format_byte ∷ length_roles L d 0 ls ++ items_roles is f (suc d) body all)) e
      ∙ notes_append (format_byte ∷ length_roles L d 0 ls) (items_roles is f (suc d) body all) (header L ls) body (ap suc (lengths_many L d 0 ls))
      ∙ ap₂ (λ (a b : List Entry). a ++ b) (header_noted f L d (count is) ls lens) (items_noted is f (suc d) body all)

  items_noted : (is : Items) (f : Form) (d : ℕ) (t : List ℕ) (s : SpellsAll f d is t) → notes (items_roles is f d t s) t ≡ told_all is d
  items_noted none f d t e = refl
  items_noted (more i is) f d t (u, v, e, s, all) =
      ap (notes (item_roles i f d u s ++ items_roles is f d v all)) e
      ∙ notes_append (item_roles i f d u s) (items_roles is f d v all) u v (item_many i f d u s)
      ∙ ap₂ (λ (a b : List Entry). a ++ b) (item_noted i f d u s) (items_noted is f d v all)

-- ---- a text of a form

fresh_is : (f : Form) (n : ℕ) → 2 ≤ n → n ≤ longest → fresh f n ≡ state f n 0 (1 ∷ []) Format
unfolding fresh
fresh_is f n h k = rw (ne_eqb n 0 (λ z. omega arith), ne_eqb n 1 (λ z. omega arith), le-ltb longest n k)

one_told : (f : Form) (i : Item) (t : List ℕ) (g : Says f (one i) t) → AtMost 0xFF t → Along f (length t) [] (fresh f (length t))
    → entries_in (fresh f (length t)) t ≡ told i 1
one_told f i t g bytes (nothing z q e) = absurd (omega (arith, item_size f 1 i t g.0))
one_told f i t g bytes (never q e fails) = absurd (fails (t, (one i, g), refl))
one_told f i t g bytes (stands st) =
    let e = fresh_is f (length t) (item_size f 1 i t g.0) g.1 in
    along t (fresh f (length t)) st.live (st.into t (one i, g) refl) bytes
    ∙ ap (λ (s : State). notes (taken (s.phase, s.stack) t) t) e
    ∙ ap (λ (rs : List Role). notes rs t) (text_taken f i t g.0)
    ∙ item_noted i f 1 t g.0
one_told f i t g bytes (falls q₁ b e q l a c d y z h) = absurd (omega (arith, ap length q, length-append q₁ (b ∷ [])))

-- THE ITEMS that a reader told a form and its size shows of a text of that form are its tree's, in order, with their depths, codes and lengths
pub told_items : (f : Form) (t : List ℕ) (w : Tree) (g : Says f w t) → AtMost 0xFF t → entries_in (fresh f (length t)) t ≡ told_of w
unfolding entries_in
told_items f t empty g bytes = ap (λ (u : List ℕ). entries_in (fresh f (length t)) u) g
told_items f t (one i) g bytes = one_told f i t g bytes (along_fresh f (length t))

-- of a good text
pub good_told : (t : List ℕ) (w : Tree) (g : Says good w t) → entries_in (fresh good (length t)) t ≡ told_of w
good_told t w g = told_items good t w g (good_bytes t w g)

-- ---- by calls

-- no bytes show no item
none_found : (r : Reader) → (next_of r []).found ≡ Nothing
unfolding next_of seek
none_found r = go (allows r) (status (state_of r))
  where
    go : (b : Bool) (a : Answer) → (cond b (begin a r []) (reached Nothing (Refusal 14) 0 r)).found ≡ Nothing
    go true More = refl
    go true Complete = refl
    go true (Refusal e) = refl
    go false a = refl

none_told : (m : ℕ) (r : Reader) → (calls m r []).entries ≡ []
unfolding calls
none_told zero r = refl
none_told (suc m) r = rw (none_found r)

fresh_more : (f : Form) (n : ℕ) → 2 ≤ n → n ≤ longest → status (fresh f n) ≡ More
unfolding status
fresh_more f n h k = ap status (fresh_is f n h k)

-- THE NEXT ITEM, asked of a fresh reader again and again, tells of a text of its form the items of the tree, in order, with their depths
pub again_told : (f : Form) (t : List ℕ) (w : Tree) (g : Says f w t) → AtMost 0xFF t → (m : ℕ) → length t < m
    → (calls m (reader_of (fresh f (length t))) t).entries ≡ told_of w
again_told f t empty g bytes m few = ap (λ (u : List ℕ). (calls m (reader_of (fresh f (length t))) u).entries) g ∙ none_told m (reader_of (fresh f (length t)))
again_told f t (one i) g bytes m few =
    let s = fresh f (length t) in
    let two = item_size f 1 i t g.0 in
    let live : Live s = subst Live (sym (fresh_is f (length t) two g.1)) (one_live f (length t) two g.1) in
    let o = live_on s live (fresh_more f (length t) two g.1) in
    (again m (reader_of s) t o.full bytes few).tells (on_status (reader_of s) o)
    ∙ ap (λ (x : State). entries_in x t) (state_reader s live.shallow)
    ∙ told_items f t (one i) g bytes

-- ---- the rows

rows_on : (rs qs : List Row) → row_numbers (rs ++ qs) ≡ row_numbers rs ++ row_numbers qs
rows_on [] qs = refl
rows_on (r ∷ rs) qs = ap (λ (x : List (ℕ × ℕ)). (r.code, r.length) ∷ x) (rows_on rs qs)

entries_on : (es fs : List Entry) → entry_numbers (es ++ fs) ≡ entry_numbers es ++ entry_numbers fs
entries_on [] fs = refl
entries_on (e ∷ es) fs = ap (λ (x : List (ℕ × ℕ)). (e.code, e.length) ∷ x) (entries_on es fs)

mutual
  unfolding item_rows items_rows told told_all

  item_rows_told : (i : Item) (d : ℕ) (t : List ℕ) (s : Spells good d i t) (p : ℕ) → row_numbers (item_rows i d t s p) ≡ entry_numbers (told i d)
  item_rows_told (plain c x) d t (ls, e, lens, con, deep) p = refl
  item_rows_told (list is) d t (ls, body, e, lens, all, deep) p =
      ap (λ (x : List (ℕ × ℕ)). (L, count is) ∷ x) (items_rows_told is (suc d) body all (p + 1 + length ls))

  items_rows_told : (is : Items) (d : ℕ) (t : List ℕ) (s : SpellsAll good d is t) (p : ℕ) → row_numbers (items_rows is d t s p) ≡ entry_numbers (told_all is d)
  items_rows_told none d t e p = refl
  items_rows_told (more i is) d t (u, v, e, s, all) p =
      rows_on (item_rows i d u s p) (items_rows is d v all (p + length u))
      ∙ ap₂ (λ (x y : List (ℕ × ℕ)). x ++ y) (item_rows_told i d u s p) (items_rows_told is d v all (p + length u))
      ∙ sym (entries_on (told i d) (told_all is d))

-- the items of a good text's tree have the codes and lengths of its rows, in order
pub rows_told : (w : Tree) (t : List ℕ) (g : Says good w t) → row_numbers (rows_of_text w t g) ≡ entry_numbers (told_of w)
rows_told empty t g = refl
rows_told (one i) t g = item_rows_told i 1 t g.0 0

-- THE ITEMS that a reader told its size shows of a good text have the codes and lengths of its rows, in order
pub shown_rows : (t : List ℕ) (w : Tree) (g : Says good w t) → entry_numbers (entries_in (fresh good (length t)) t) ≡ row_numbers (rows_of_text w t g)
shown_rows t w g = ap entry_numbers (good_told t w g) ∙ sym (rows_told w t g)

-- and so have the items that the calls tell
pub again_rows : (t : List ℕ) (w : Tree) (g : Says good w t) (m : ℕ) → length t < m
    → entry_numbers (calls m (reader_of (fresh good (length t))) t).entries ≡ row_numbers (rows_of_text w t g)
again_rows t w g m few = ap entry_numbers (again_told good t w g (good_bytes t w g) m few) ∙ sym (rows_told w t g)

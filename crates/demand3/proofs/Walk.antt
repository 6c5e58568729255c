-- A reader that is not refused goes through a text by the roles of its bytes: what it takes each byte for is what that byte is.
use Prim.Native.Nat.{ℕ, suc, ◌+◌, ◌*◌, ◌-◌, ◌/◌, ◌%◌}
use mathlib.Core.Path.{◌≡◌, refl, sym, ap, ◌∙◌}
use mathlib.Core.Bool.{Bool, true, false, cond}
use mathlib.Core.List.{List, [], ◌∷◌, ◌++◌, map, append_assoc, append-nil}
use native.Mathlib.Omega.{arith}
use lib.Dec.{eqb, leb, ltb}
use lib.ListN.{length}
use borrow.Author.Tests.{eq-eqb, ne_eqb, lt-ltb, eqb-true, eqb-false}
use Rattle.wire.specs.Number.{number_of}
use Rattle.wire.proofs.Numbers.{number_on}
use Rattle.item.specs.Code.{L, allowed}
use Rattle.item.specs.Item.{Item, Items, plain, list, none, more, count, Lengths, limit, header, Spells, SpellsAll}
use Rattle.item.specs.declared.Form.{Form}
use Rattle.item.proofs.Codes.{plain_not_list}
use Rattle.levels.specs.Levels.{began, leaving}
use Rattle.follow.specs.Fits.{fits_items, leads, fits_lengths}
use Rattle.follow.proofs.Leading.{grown}
use Rattle.reader.specs.State.{State, state, refused}
use Rattle.reader.specs.Step.{known, whole, content_from, at_format, at_list, at_plain, at_length, at_content, step_at, step}
use Rattle.reader.specs.Place.{Role, format_byte, length_byte, content_byte}
use Rattle.reader.specs.declared.Phase.{Phase}
use Rattle.reader.specs.declared.Phase.TheVariants.{Format, Length, Content, Refused}
use Rattle.reader.proofs.Right.{role_in}
use Rattle.demand3.specs.Roles.{length_roles, item_roles, items_roles}

-- ---- the reader without its tests

-- a content of v bytes begins, or an item is whole
abbrev content : ℕ → List ℕ → ℕ → Phase × List ℕ
content c st v = cond (eqb v 0) (Format, leaving st) (Content c v, st)

-- behind the last length byte
abbrev body : ℕ → List ℕ → ℕ → Phase × List ℕ
body c st v = cond (eqb c L) (Format, leaving (v ∷ st)) (content c st v)

abbrev naive : Phase → List ℕ → ℕ → Phase × List ℕ
naive Format st b = (Length (b / 4) (b % 4) 0, began st)
naive (Length c j v) st b = cond (ltb 0 (j - 1)) (Length c (j - 1) (v * 256 + b), st) (body c st (v * 256 + b))
naive (Content c l) st b = content c st (l - 1)
naive (Refused e) st b = (Refused e, st)

-- what a reader without tests takes each byte for
abbrev pub taken : Phase × List ℕ → List ℕ → List Role
taken a [] = []
taken a (b ∷ t) = role_in a.0 (length a.1) ∷ taken (naive a.0 a.1 b) t

-- a state is refused, or is where the reader without tests is
pub data Naive (a : Phase × List ℕ) (s : State) : Type 0 where
  there : (s.phase, s.stack) ≡ a → Naive a s
  gone : (f : Form) (n e : ℕ) → s ≡ refused f n e → Naive a s

module _ (a : Phase × List ℕ) where
  naive_pick : (b : Bool) (x y : State) → (b ≡ true → Naive a x) → (b ≡ false → Naive a y) → Naive a (cond b x y)
  naive_pick true x y f g = f refl
  naive_pick false x y f g = g refl

content_naive : (f : Form) (n k : ℕ) (st : List ℕ) (c v : ℕ) → Naive (content c st v) (content_from f n k st c v)
content_naive f n k st c v = go (eqb v 0)
  where
    go : (b : Bool) → Naive (cond b (Format, leaving st) (Content c v, st)) (cond b (whole f n k st) (state f n k st (Content c v)))
    go true = there refl
    go false = there refl

leaving_none : (v : ℕ) (st : List ℕ) → v ≡ 0 → leaving (v ∷ st) ≡ leaving st
unfolding leaving
leaving_none v st e = rw (eq-eqb v 0 e)

leaving_some : (v : ℕ) (st : List ℕ) → (v ≡ 0 → ⊥) → leaving (v ∷ st) ≡ v ∷ st
unfolding leaving
leaving_some v st e = rw (ne_eqb v 0 e)

list_naive : (f : Form) (n k : ℕ) (st : List ℕ) (v : ℕ) → Naive (Format, leaving (v ∷ st)) (at_list f n k st v)
unfolding at_list
list_naive f n k st v =
    naive_pick a (eqb v 0) _ _
    (λ z. naive_pick a (fits_items f (n - k) st) _ _
    (λ _. there (ap (λ (x : List ℕ). (Format, x)) (sym (leaving_none v st (eqb-true v 0 z))))) (λ _. gone f n 5 refl))
    (λ z. naive_pick a (eqb (length st) 16) _ _ (λ _. gone f n 4 refl)
    (λ _. naive_pick a (fits_items f (n - k) (v ∷ st)) _ _
    (λ _. there (ap (λ (x : List ℕ). (Format, x)) (sym (leaving_some v st (eqb-false v 0 z))))) (λ _. gone f n 5 refl)))
  where
    a : Phase × List ℕ
    a = (Format, leaving (v ∷ st))

plain_naive : (f : Form) (n k : ℕ) (st : List ℕ) (c v : ℕ) → Naive (content c st v) (at_plain f n k st c v)
unfolding at_plain
plain_naive f n k st c v =
    naive_pick a (allowed c v) _ _
    (λ _. naive_pick a (leb v (n - k)) _ _
    (λ _. naive_pick a (fits_items f (n - k - v) st) _ _ (λ _. content_naive f n k st c v) (λ _. gone f n 5 refl)) (λ _. gone f n 5 refl))
    (λ _. gone f n 3 refl)
  where
    a : Phase × List ℕ
    a = content c st v

both_naive : (b : Bool) (x y : Phase × List ℕ) (s t : State) → Naive x s → Naive y t → Naive (cond b x y) (cond b s t)
both_naive true x y s t p q = p
both_naive false x y s t p q = q

-- a step that does not refuse goes where the reader without tests goes
step_naive : (p : Phase) (f : Form) (n k : ℕ) (st : List ℕ) (b : ℕ) → Naive (naive p st b) (step_at p f n k st b)
unfolding step_at at_format at_length at_content
step_naive Format f n k st b =
    naive_pick a (known (b / 4)) _ _
    (λ _. naive_pick a (eqb (b % 4) 0) _ _ (λ _. gone f n 2 refl)
    (λ _. naive_pick a (fits_lengths f (b / 4) (n - k) (began st) (b % 4) 0) _ _ (λ _. there refl) (λ _. gone f n 5 refl)))
    (λ _. gone f n 1 refl)
  where
    a : Phase × List ℕ
    a = (Length (b / 4) (b % 4) 0, began st)
step_naive (Length c j v) f n k st b =
    both_naive (ltb 0 (j - 1)) (Length c (j - 1) (v * 256 + b), st) (body c st (v * 256 + b)) _ _
    (naive_pick (Length c (j - 1) (v * 256 + b), st) (leads f (v * 256 + b)) _ _
    (λ _. naive_pick (Length c (j - 1) (v * 256 + b), st) (fits_lengths f c (n - k) st (j - 1) (v * 256 + b)) _ _
    (λ _. there refl) (λ _. gone f n 5 refl))
    (λ _. gone f n 5 refl))
    (both_naive (eqb c L) _ _ _ _ (list_naive f n k st (v * 256 + b)) (plain_naive f n k st c (v * 256 + b)))
step_naive (Content c l) f n k st b =
    naive_pick (content c st (l - 1)) (leb b (limit f c)) _ _ (λ _. content_naive f n k st c (l - 1)) (λ _. gone f n 6 refl)
step_naive (Refused e) f n k st b = gone f n e refl

pub step_there : (s : State) (b : ℕ) → Naive (naive s.phase s.stack b) (step s b)
unfolding step
step_there s b = step_naive s.phase s.form s.size (s.read + 1) s.stack b

-- ---- through a text

-- the content of an item
taken_content : (c b : ℕ) (x w st : List ℕ)
    → taken (Content c (suc (length x)), st) (b ∷ x ++ w) ≡ content_byte ∷ map (λ (y : ℕ). content_byte) x ++ taken (Format, leaving st) w
taken_content c b [] w st = refl
taken_content c b (b' ∷ x) w st =
    let e : suc (suc (length x)) - 1 ≡ suc (length x) = omega arith in
    ap (λ (rs : List Role). content_byte ∷ rs) (rw (e, ne_eqb (suc (length x)) 0 (λ z. omega arith)) (taken_content c b' x w st))

content_taken : (c : ℕ) (x w st : List ℕ) → taken (content c st (length x)) (x ++ w) ≡ map (λ (y : ℕ). content_byte) x ++ taken (Format, leaving st) w
content_taken c [] w st = refl
content_taken c (b ∷ x) w st = rw (ne_eqb (suc (length x)) 0 (λ z. omega arith)) (taken_content c b x w st)

plain_body : (c : ℕ) (x w st : List ℕ) → (c ≡ L → ⊥) → taken (body c st (length x)) (x ++ w) ≡ map (λ (y : ℕ). content_byte) x ++ taken (Format, leaving st) w
plain_body c x w st h = rw (ne_eqb c L h) (content_taken c x w st)

-- length bytes, and what follows the last
taken_lengths : (c b v : ℕ) (ls w st : List ℕ)
    → taken (Length c (suc (length ls)) v, st) (b ∷ ls ++ w) ≡ length_roles c (length st) v (b ∷ ls) ++ taken (body c st (grown v (b ∷ ls))) w
unfolding number_of
taken_lengths c b v [] w st =
    let e : grown v (b ∷ []) ≡ v * 256 + b = omega arith in
    rw e
taken_lengths c b v (b' ∷ ls) w st =
    let e : suc (suc (length ls)) - 1 ≡ suc (length ls) = omega arith in
    rw (e, lt-ltb 0 (suc (length ls)) (omega arith))
    (ap (λ (rs : List Role). length_byte c (length st) (suc (length ls)) v ∷ rs)
    (taken_lengths c b' (v * 256 + b) ls w st
    ∙ ap (λ (x : ℕ). length_roles c (length st) (v * 256 + b) (b' ∷ ls) ++ taken (body c st x) w) (sym (number_on v b (b' ∷ ls)))))

lengths_taken : (f : Form) (c n : ℕ) (ls w st : List ℕ) → Lengths f ls n
    → taken (Length c (length ls) 0, st) (ls ++ w) ≡ length_roles c (length st) 0 ls ++ taken (body c st n) w
lengths_taken f c n [] w st lens = absurd (omega (arith, lens.some))
lengths_taken f c n (b ∷ ls) w st lens =
    let e : grown 0 (b ∷ ls) ≡ n = omega (arith, lens.says) in
    taken_lengths c b 0 ls w st ∙ ap (λ (x : ℕ). length_roles c (length st) 0 (b ∷ ls) ++ taken (body c st x) w) e

-- a header, and what follows its length bytes
header_taken : (f : Form) (c n m : ℕ) (ls w st : List ℕ) → Lengths f ls n
    → taken (Format, suc m ∷ st) (header c ls ++ w) ≡ format_byte ∷ length_roles c (suc (length st)) 0 ls ++ taken (body c (m ∷ st) n) w
header_taken f c n m ls w st lens =
    let q : (c * 4 + length ls) / 4 ≡ c = omega (arith, lens.few) in
    let r : (c * 4 + length ls) % 4 ≡ length ls = omega (arith, lens.few) in
    let e : suc m - 1 ≡ m = omega arith in
    ap (λ (rs : List Role). format_byte ∷ rs) (rw (q, r, e) (lengths_taken f c n ls w (m ∷ st) lens))

-- an item, and then the levels that await nothing are left
mutual
  unfolding item_roles

  item_taken : (i : Item) (f : Form) (m : ℕ) (st u w : List ℕ) (s : Spells f (suc (length st)) i u)
      → taken (Format, suc m ∷ st) (u ++ w) ≡ item_roles i f (suc (length st)) u s ++ taken (Format, leaving (m ∷ st)) w
  item_taken (plain c x) f m st u w (ls, e, lens, con, deep) =
      ap (λ (y : List ℕ). taken (Format, suc m ∷ st) (y ++ w)) e
      ∙ ap (taken (Format, suc m ∷ st)) (append_assoc (header c ls) x w)
      ∙ header_taken f c (length x) m ls (x ++ w) st lens
      ∙ ap (λ (rs : List Role). format_byte ∷ length_roles c (suc (length st)) 0 ls ++ rs)
      (plain_body c x w (m ∷ st) (plain_not_list c con.known))
      ∙ sym (append_assoc (format_byte ∷ length_roles c (suc (length st)) 0 ls) (map (λ (y : ℕ). content_byte) x) (taken (Format, leaving (m ∷ st)) w))
  item_taken (list is) f m st u w (ls, inner, e, lens, all, deep) =
      ap (λ (y : List ℕ). taken (Format, suc m ∷ st) (y ++ w)) e
      ∙ ap (taken (Format, suc m ∷ st)) (append_assoc (header L ls) inner w)
      ∙ header_taken f L (count is) m ls (inner ++ w) st lens
      ∙ ap (λ (rs : List Role). format_byte ∷ length_roles L (suc (length st)) 0 ls ++ rs) (items_taken is f (m ∷ st) inner w all)
      ∙ sym (append_assoc (format_byte ∷ length_roles L (suc (length st)) 0 ls) (items_roles is f (suc (suc (length st))) inner all)
      (taken (Format, leaving (m ∷ st)) w))

  items_taken : (is : Items) (f : Form) (st u w : List ℕ) (all : SpellsAll f (suc (length st)) is u)
      → taken (Format, leaving (count is ∷ st)) (u ++ w) ≡ items_roles is f (suc (length st)) u all ++ taken (Format, leaving st) w
  items_taken none f st u w e =
      ap (λ (y : List ℕ). taken (Format, leaving (0 ∷ st)) (y ++ w)) e ∙ ap (λ (x : List ℕ). taken (Format, x) w) (leaving_none 0 st refl)
  items_taken (more i is) f st u w (x, y, e, s, all) =
      ap (λ (z : List ℕ). taken (Format, leaving (suc (count is) ∷ st)) (z ++ w)) e
      ∙ ap (λ (z : List ℕ). taken (Format, z) ((x ++ y) ++ w)) (leaving_some (suc (count is)) st (λ z. omega arith))
      ∙ ap (taken (Format, suc (count is) ∷ st)) (append_assoc x y w)
      ∙ item_taken i f (count is) st x (y ++ w) s
      ∙ ap (λ (rs : List Role). item_roles i f (suc (length st)) x s ++ rs) (items_taken is f st y w all)
      ∙ sym (append_assoc (item_roles i f (suc (length st)) x s) (items_roles is f (suc (length st)) y all) (taken (Format, leaving st) w))

-- a whole text is taken for what it is
pub text_taken : (f : Form) (i : Item) (t : List ℕ) (s : Spells f 1 i t) → taken (Format, 1 ∷ []) t ≡ item_roles i f 1 t s
unfolding leaving
text_taken f i t s =
    ap (taken (Format, 1 ∷ [])) (sym (append-nil t)) ∙ item_taken i f 0 [] t [] s ∙ append-nil (item_roles i f 1 t s)

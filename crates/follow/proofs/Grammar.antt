-- The next byte of what is awaited: where an item is awaited, the bytes go on with its format byte, its length bytes and its content or members, and
-- then with what is awaited behind it.
use Prim.Native.Nat.{ℕ, zero, suc, ◌+◌, ◌*◌, ◌≤◌}
use mathlib.Core.Path.{◌≡◌, refl, sym, ap, subst, ◌∙◌}
use mathlib.Core.List.{List, [], ◌∷◌, ◌++◌, append_assoc}
use mathlib.Core.Logic.{inl, inr}
use native.Mathlib.Nat.{suc_inj}
use native.Mathlib.Omega.{arith}
use lib.ListN.{length}
use Rattle.wire.specs.Number.{number_of, AtMost}
use Rattle.wire.proofs.Numbers.{number_on}
use Rattle.item.specs.Code.{L}
use Rattle.item.specs.Item.{Item, plain, list, none, more, count, Lengths, limit, header, Spells}
use Rattle.item.specs.declared.Form.{Form}
use Rattle.follow.proofs.Follow.{Run, Awaited, AfterContent, PlainLength, AfterLength, AfterLengths}
use Rattle.follow.proofs.Leading.{grown, Led, led_fewest, fewest_led}

pub run_none : (f : Form) (d : ℕ) → Run f d 0 []
run_none f d = (none, refl, refl)

pub none_run : (f : Form) (d : ℕ) (u : List ℕ) → Run f d 0 u → u ≡ []
none_run f d u (none, n, e) = e
none_run f d u (more i is, n, s) = absurd (omega arith)

module _ (f : Form) (st : List ℕ) (c : ℕ) where
  pub content_in : (x w : List ℕ) → AtMost (limit f c) x → Awaited f st w → AfterContent f st c (length x) (x ++ w)
  content_in [] w a k = k
  content_in (b ∷ x) w (a, as') k = (a, content_in x w as' k)

  pub content_out : (l : ℕ) (t : List ℕ) → AfterContent f st c l t
      → (x : List ℕ) × (w : List ℕ) × (t ≡ x ++ w) × (length x ≡ l) × AtMost (limit f c) x × Awaited f st w
  content_out zero t k = ([], t, refl, refl, tt, k)
  content_out (suc l) [] k = absurd k
  content_out (suc l) (b ∷ t) (h, k) =
      let (x, w, e, n, a, q) = content_out l t k in
      (b ∷ x, w, ap (λ (y : List ℕ). b ∷ y) e, ap suc n, (h, a), q)

  pub length_in : (ls w : List ℕ) (v : ℕ) → AtMost 0xFF ls → Led f v ls → AfterLength f st c (grown v ls) w
      → AfterLengths f st c (length ls) v (ls ++ w)
  unfolding number_of
  length_in [] w v a l k = subst (λ (x : ℕ). AfterLength f st c x w) (omega arith) k
  length_in (b ∷ ls) w v (a, as') (l, led) k =
      (a, l, length_in ls w (v * 256 + b) as' led (subst (λ (x : ℕ). AfterLength f st c x w) (number_on v b ls) k))

  pub length_out : (j v : ℕ) (t : List ℕ) → AfterLengths f st c j v t
      → (ls : List ℕ) × (w : List ℕ) × (t ≡ ls ++ w) × (length ls ≡ j) × AtMost 0xFF ls × Led f v ls × AfterLength f st c (grown v ls) w
  unfolding number_of
  length_out zero v t k = ([], t, refl, refl, tt, tt, subst (λ (x : ℕ). AfterLength f st c x t) (omega arith) k)
  length_out (suc j) v [] k = absurd k
  length_out (suc j) v (b ∷ t) (h, l, k) =
      let (ls, w, e, n, a, led, q) = length_out j (v * 256 + b) t k in
      let next = subst (λ (x : ℕ). AfterLength f st c x w) (sym (number_on v b ls)) q in
      (b ∷ ls, w, ap (λ (y : List ℕ). b ∷ y) e, ap suc n, (h, a), (rw n l, led), next)

-- what the format byte b begins: an item of a code, with so many length bytes, behind which t goes on
pub record Begun (f : Form) (st : List ℕ) (b : ℕ) (t : List ℕ) : Type 0 where
  pub code : ℕ
  pub lengths : ℕ
  pub byte : b ≡ code * 4 + lengths
  pub some : 1 ≤ lengths
  pub few : lengths ≤ 3
  pub goes : AfterLengths f st code lengths 0 t

-- what follows a first header
cut : (b c : ℕ) (t u v u₁ u₂ ls x : List ℕ) → b ∷ t ≡ u ++ v → u ≡ u₁ ++ u₂ → u₁ ≡ header c ls ++ x
    → (b ≡ c * 4 + length ls) × (t ≡ ls ++ (x ++ (u₂ ++ v)))
cut b c t u v u₁ u₂ ls x e e₁ e₂ =
    let q : ◌≡◌ {A = List ℕ} (b ∷ t) ((c * 4 + length ls) ∷ (ls ++ (x ++ (u₂ ++ v)))) = e ∙ rw (e₁, e₂) (simp append_assoc) in
    (cc, cc)

-- the length bytes of an item, and what follows them
goes_on : (f : Form) (st : List ℕ) (c n : ℕ) (ls w t : List ℕ) → t ≡ ls ++ w → Lengths f ls n → AfterLength f st c n w
    → AfterLengths f st c (length ls) 0 t
goes_on f st c n ls w t e lens k =
    let q : n ≡ grown 0 ls = sym lens.says ∙ omega arith in
    rw e (length_in f st c ls w 0 lens.bytes (fewest_led f ls n lens) (rw q at k))

first : (f : Form) (st : List ℕ) (n b : ℕ) (t u v : List ℕ) → b ∷ t ≡ u ++ v → Run f (suc (length st)) (suc n) u → Awaited f st v
    → Begun f (n ∷ st) b t
first f st n b t u v e (none, z, s) k = absurd (omega arith)
first f st n b t u v e (more (plain c x) is, z, (u₁, u₂, e₁, (ls, e₂, lens, con, deep), s)) k =
    let q = cut b c t u v u₁ u₂ ls x e e₁ e₂ in
    let rest : Awaited f (n ∷ st) (u₂ ++ v) = (u₂, v, refl, (is, suc_inj z, s), k) in
    let this : PlainLength c (length x) = record { known = con.known; whole = con.whole } in
    record {
      code = c;
      lengths = length ls;
      byte = q.0;
      some = lens.some;
      few = lens.few;
      goes =
          goes_on f (n ∷ st) c (length x) ls (x ++ (u₂ ++ v)) t q.1 lens (inr (this, content_in f (n ∷ st) c x (u₂ ++ v) con.bytes rest));
    }
first f st n b t u v e (more (list ms) is, z, (u₁, u₂, e₁, (ls, body, e₂, lens, all, deep), s)) k =
    let q = cut b L t u v u₁ u₂ ls body e e₁ e₂ in
    let rest : Awaited f (n ∷ st) (u₂ ++ v) = (u₂, v, refl, (is, suc_inj z, s), k) in
    record {
      code = L;
      lengths = length ls;
      byte = q.0;
      some = lens.some;
      few = lens.few;
      goes =
          goes_on f (n ∷ st) L (count ms) ls (body ++ (u₂ ++ v)) t q.1 lens (inl (refl, (body, u₂ ++ v, refl, (ms, refl, all), rest)));
    }

-- where an item is awaited, the bytes begin with one
pub begin : (f : Form) (st : List ℕ) (n b : ℕ) (t : List ℕ) → Awaited f (suc n ∷ st) (b ∷ t) → Begun f (n ∷ st) b t
begin f st n b t (u, v, e, m, k) = first f st n b t u v e m k

-- and the other way: an item in front of n more
join : (f : Form) (st : List ℕ) (n : ℕ) (i : Item) (x w y : List ℕ) → y ≡ x ++ w → Spells f (suc (length st)) i x → Awaited f (n ∷ st) w
    → Awaited f (suc n ∷ st) y
join f st n i x w y e s (u, v, e₂, (is, q, all), k) =
    (x ++ u, v, e ∙ ap (λ (r : List ℕ). x ++ r) e₂ ∙ sym (append_assoc x u v), (more i is, ap suc q, (x, u, refl, s, all)), k)

glue : (b c : ℕ) (t ls w x rest : List ℕ) → b ≡ c * 4 + length ls → t ≡ ls ++ w → w ≡ x ++ rest → b ∷ t ≡ (header c ls ++ x) ++ rest
glue b c t ls w x rest e₁ e₂ e₃ = rw (e₁, e₂, e₃) (simp append_assoc)

said : (f : Form) (ls : List ℕ) (n : ℕ) → 1 ≤ length ls → length ls ≤ 3 → AtMost 0xFF ls → Led f 0 ls → n ≡ grown 0 ls → Lengths f ls n
said f ls n some few bytes led e =
    let q : number_of ls ≡ n = sym (e ∙ omega arith) in
    record { some = some; few = few; bytes = bytes; says = q; form = rw (← q) (led_fewest f ls some few bytes led) }

unbody : (f : Form) (st : List ℕ) (n c b : ℕ) (t ls w : List ℕ) → t ≡ ls ++ w → b ≡ c * 4 + length ls → 1 ≤ length ls → length ls ≤ 3
    → AtMost 0xFF ls → Led f 0 ls → suc (length st) ≤ 16 → AfterLength f (n ∷ st) c (grown 0 ls) w → Awaited f (suc n ∷ st) (b ∷ t)
unbody f st n c b t ls w e fb some few bytes led deep (inl (z, (body, rest, e₁, (ms, q, all), k))) =
    join f st n (list ms) (header L ls ++ body) rest (b ∷ t) (glue b L t ls w body rest (rw z at fb) e e₁)
    (ls, body, refl, said f ls (count ms) some few bytes led q, all, deep) k
unbody f st n c b t ls w e fb some few bytes led deep (inr (p, k₁)) =
    let (x, rest, e₁, q, a, k) = content_out f (n ∷ st) c (grown 0 ls) w k₁ in
    join f st n (plain c x) (header c ls ++ x) rest (b ∷ t) (glue b c t ls w x rest fb e e₁)
    (ls, refl, said f ls (length x) some few bytes led q, record { known = p.known; whole = rw q p.whole; bytes = a }, deep) k

-- a header and what may follow it are an item that was awaited
pub unbegin : (f : Form) (st : List ℕ) (n c j b : ℕ) (t : List ℕ) → suc (length st) ≤ 16 → b ≡ c * 4 + j → 1 ≤ j → j ≤ 3
    → AfterLengths f (n ∷ st) c j 0 t → Awaited f (suc n ∷ st) (b ∷ t)
unbegin f st n c j b t deep fb some few k =
    let (ls, w, e, q, a, led, r) = length_out f (n ∷ st) c j 0 t k in
    unbody f st n c b t ls w e (rw q fb) (rw q some) (rw q few) a led deep r

-- a level that awaits nothing may stand in front or not
module _ (f : Form) (n : ℕ) (st t : List ℕ) (z : n ≡ 0) where
  pub none_out : Awaited f (n ∷ st) t → Awaited f st t
  none_out (u, v, e, r, k) =
      let x : u ≡ [] = none_run f (suc (length st)) u (subst (λ (y : ℕ). Run f (suc (length st)) y u) z r) in
      rw (e ∙ ap (λ (y : List ℕ). y ++ v) x) k

  pub none_in : Awaited f st t → Awaited f (n ∷ st) t
  none_in w = ([], t, refl, subst (λ (y : ℕ). Run f (suc (length st)) y []) (sym z) (run_none f (suc (length st))), w)

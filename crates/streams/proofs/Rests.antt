-- What stands behind the whole frames, and is never one: nothing, some bytes of a frame, or bytes that a number refuses; the three exclude each other.
use Prim.Native.Nat.{ℕ, zero, suc, ◌+◌, ◌≤◌, ◌<◌}
use mathlib.Core.Path.{◌≡◌, refl, sym, ap, ap₂, subst, ◌∙◌}
use mathlib.Core.Bool.{Bool, true, false}
use mathlib.Core.List.{List, [], ◌∷◌, ◌++◌, append-nil}
use mathlib.Core.Logic.{◌⊎◌, inl, inr}
use native.Mathlib.Nat.{mod-eq_of_lt}
use native.Mathlib.Omega.{arith}
use borrow.Author.Tests.{ne_eqb, lt-ltb, le-ltb, eqb-true, eqb-false}
use lib.Dec.{eqb}
use lib.ListN.{length, get_or, length-append, get_or-append}
use lib.Seq.{take_at, get_or-append-add}
use Rattle.wire.specs.Longest.{longest}
use Rattle.wire.specs.Number.{number_of, bytes_of}
use Rattle.wire.proofs.Numbers.{length_bytes, number_bytes}
use Rattle.frame.specs.Header.{header_bytes}
use Rattle.frame.specs.Frame.{length_in, length_number, kind_number, frame_of}
use Rattle.frame.specs.declared.Header.{Header}
use Rattle.frame.proofs.Laws.{bytes_length, frame_length, length_range, range_length}
use Rattle.frames.specs.State.{State, head, text, refused}
use Rattle.frames.specs.Feed.{head_number, end_in}
use Rattle.frames.proofs.Heads.{number_four, number_whole, number_other}
use Rattle.streams.specs.Stream.{frame, AllTaken, all, Unfinished, Inside, Wrong, too_short, too_long, other_length}
use Rattle.streams.specs.Handed.{Handed, whole_of, InTurn}
use Rattle.streams.proofs.Once.{frame_says}
use Rattle.streams.proofs.Streams.{Right, wrong_range, text_taken}

-- a rest, and the number of a stream that ends behind it
pub data Rest (rest : List ℕ) : ℕ → Type 0 where
  none : rest ≡ [] → Rest rest 0
  inside : Inside rest → Rest rest 13
  wrong : (e : ℕ) → Wrong rest e → Rest rest e

-- ---- the number that a head's bytes have tells them apart

wrong_number : (rest : List ℕ) (e : ℕ) → Wrong rest e → head_number rest ≡ e
unfolding length_number kind_number
wrong_number rest e (too_short n h) = number_four rest n ∙ rw (lt-ltb (length_in rest) 10 h)
wrong_number rest e (too_long n h) = number_four rest n ∙ rw (le-ltb (length_in rest) 10 (omega arith), lt-ltb (10 + longest) (length_in rest) h)
wrong_number rest e (other_length n h k s m) = number_whole rest n ∙ rw (ne_eqb (get_or rest 9 0) 0 s, ne_eqb (length_in rest) 10 m)

inside_number : (rest : List ℕ) → Inside rest → head_number rest ≡ 0
inside_number rest i = go (eqb (length rest) 4) refl (eqb (length rest) 14) refl
  where
    go : (a : Bool) → eqb (length rest) 4 ≡ a → (b : Bool) → eqb (length rest) 14 ≡ b → head_number rest ≡ 0
    go true e b f = let n = eqb-true (length rest) 4 e in number_four rest n ∙ i.length_right (omega arith)
    go false e true f = let n = eqb-true (length rest) 14 f in number_whole rest n ∙ i.kind_right (omega arith)
    go false e false f = number_other rest (eqb-false (length rest) 4 e) (eqb-false (length rest) 14 f)

none_number : (rest : List ℕ) → rest ≡ [] → head_number rest ≡ 0
unfolding head_number
none_number rest z = ap head_number z

pub wrong_not : (rest : List ℕ) (e : ℕ) → head_number rest ≡ 0 → Wrong rest e → ⊥
wrong_not rest e z w = omega (arith, z, wrong_number rest e w, (wrong_range rest e w).0)

-- ---- each kind of rest is that of one number

module _ {rest : List ℕ} where
  pub rest_none : {n : ℕ} → Rest rest n → rest ≡ [] → n ≡ 0
  rest_none (none z) e = refl
  rest_none (inside i) e = absurd (omega (arith, i.some, ap length e))
  rest_none (wrong x w) e = absurd (wrong_not rest x (none_number rest e) w)

  pub none_rest : {n : ℕ} → Rest rest n → n ≡ 0 → rest ≡ []
  none_rest (none z) e = z
  none_rest (inside i) e = absurd (omega arith)
  none_rest (wrong x w) e = absurd (omega (arith, (wrong_range rest x w).0))

  pub rest_inside : {n : ℕ} → Rest rest n → Inside rest → n ≡ 13
  rest_inside (none z) i = absurd (omega (arith, i.some, ap length z))
  rest_inside (inside j) i = refl
  rest_inside (wrong x w) i = absurd (wrong_not rest x (inside_number rest i) w)

  pub inside_rest : {n : ℕ} → Rest rest n → n ≡ 13 → Inside rest
  inside_rest (none z) e = absurd (omega arith)
  inside_rest (inside i) e = i
  inside_rest (wrong x w) e = absurd (omega (arith, (wrong_range rest x w).1))

  pub rest_wrong : {n : ℕ} → Rest rest n → (e : ℕ) → Wrong rest e → n ≡ e
  rest_wrong (none z) e w = absurd (wrong_not rest e (none_number rest z) w)
  rest_wrong (inside i) e w = absurd (wrong_not rest e (inside_number rest i) w)
  rest_wrong (wrong x v) e w = sym (wrong_number rest x v) ∙ wrong_number rest e w

  pub wrong_rest : {n : ℕ} → Rest rest n → (e : ℕ) → 10 ≤ e → e ≤ 12 → n ≡ e → Wrong rest e
  wrong_rest (none z) e h k q = absurd (omega arith)
  wrong_rest (inside i) e h k q = absurd (omega arith)
  wrong_rest (wrong x w) e h k q = subst (Wrong rest) q w

  pub rest_one : {n : ℕ} → Rest rest n → (n ≡ 0) ⊎ ((n ≡ 13) ⊎ ((10 ≤ n) × (n ≤ 12)))
  rest_one (none z) = inl refl
  rest_one (inside i) = inr (inl refl)
  rest_one (wrong x w) = inr (inr (wrong_range rest x w))

-- ---- no whole frame stands in a rest

pub few_unfinished : (rest : List ℕ) → length rest < 14 → Unfinished rest
few_unfinished rest h f more t e =
    omega (arith, ap length e, length-append (frame_of f.header f.text) more, frame_length f.header f.text)

-- the length bytes count more than is there
pub inside_unfinished : (rest : List ℕ) → Inside rest → Unfinished rest
inside_unfinished rest i f more t e =
    let says = ap length_in e ∙ frame_says f.header f.text more t.few in
    let many = ap length e ∙ length-append (frame_of f.header f.text) more in
    let size = frame_length f.header f.text in
    omega (arith, says, many, size, i.missing (omega (arith, many, size)))

-- four bytes are no frame, and fourteen are one of length 10
pub wrong_unfinished : (rest : List ℕ) (e : ℕ) → Wrong rest e → Unfinished rest
wrong_unfinished rest e (too_short n h) f more t q = few_unfinished rest (omega arith) f more t q
wrong_unfinished rest e (too_long n h) f more t q = few_unfinished rest (omega arith) f more t q
wrong_unfinished rest e (other_length n h k s m) f more t q =
    let many = ap length q ∙ length-append (frame_of f.header f.text) more in
    let none : length f.text ≡ 0 = omega (arith, many, frame_length f.header f.text) in
    m (ap length_in q ∙ frame_says f.header f.text more t.few ∙ omega arith)

pub none_unfinished : Unfinished []
none_unfinished = few_unfinished [] (omega arith)

pub rest_unfinished : {rest : List ℕ} {n : ℕ} → Rest rest n → Unfinished rest
rest_unfinished {rest = rest} (none z) = few_unfinished rest (omega (arith, ap length z))
rest_unfinished {rest = rest} (inside i) = inside_unfinished rest i
rest_unfinished {rest = rest} (wrong e w) = wrong_unfinished rest e w

-- ---- a frame of whose text n bytes are still to come

module _ (h : Header) (x : List ℕ) (n : ℕ) (few : length x + n ≤ longest) where
  abbrev pub whole : ℕ
  whole = 10 + (length x + n)

  abbrev pub bytes : List ℕ
  bytes = bytes_of 4 whole ++ (header_bytes h ++ x)

  pub says : length_in bytes ≡ whole
  says = ap number_of (take_at (bytes_of 4 whole) (header_bytes h ++ x) 4 (length_bytes 4 whole)) ∙ number_bytes 4 whole ∙ mod-eq_of_lt (omega arith)

  pub many : length bytes ≡ 14 + length x
  many =
      omega (arith, length-append (bytes_of 4 whole) (header_bytes h ++ x), length_bytes 4 whole, length-append (header_bytes h) x, bytes_length h)

  pub stype_there : get_or bytes 9 0 ≡ h.stype
  unfolding header_bytes
  stype_there =
      let nine : 9 ≡ length (bytes_of 4 whole) + 5 = omega (arith, length_bytes 4 whole) in
      let five : 5 ≡ length (bytes_of 2 h.session) + 3 = omega (arith, length_bytes 2 h.session) in
      ap (λ (k : ℕ). get_or bytes k 0) nine
      ∙ get_or-append-add (bytes_of 4 whole) (header_bytes h ++ x) 5 0
      ∙ get_or-append (header_bytes h) x 0 5 (omega (arith, bytes_length h))
      ∙ ap (λ (k : ℕ). get_or (header_bytes h) k 0) five
      ∙ get_or-append-add (bytes_of 2 h.session) (h.byte2 ∷ h.byte3 ∷ h.ptype ∷ h.stype ∷ bytes_of 4 h.system) 3 0

  text_inside : 0 < n → kind_number h.stype whole ≡ 0 → Inside bytes
  text_inside some kind =
      record {
        some = omega (arith, many);
        length_right = λ _. ap length_number says ∙ range_length whole (omega arith, omega arith);
        missing = λ _. omega (arith, many, says);
        kind_right = λ _. ap₂ kind_number stype_there says ∙ kind;
      }

-- ---- what the bytes consumed come to

-- whole frames, which were handed out, and a rest of the number that the state has at the stream's end
pub record Came (c : List ℕ) (g : Handed) (s : State) : Type 0 where
  pub rest : List ℕ
  pub taken : AllTaken (whole_of g s)
  pub is : c ≡ all (whole_of g s) ++ rest
  pub kind : Rest rest (end_in s)
  pub in_turn : InTurn s g.current
  pub cause : (e : ℕ) → s ≡ refused e → Wrong rest e

clash : {A : Type 0} → ◌≡◌ {A = ℕ} 0 1 → A
clash e = absurd (omega arith)

pub came : (c : List ℕ) (g : Handed) (s : State) → Right c g s → Came c g s
came c g (head []) r = record { rest = []; taken = r.taken; is = r.is; kind = none refl; in_turn = r.none_open; cause = λ e q. clash cc }
came c g (head (b ∷ bs)) r =
    let begun = r.begun in
    record {
      rest = b ∷ bs;
      taken = r.taken;
      is = r.is;
      kind =
          inside (
          record {
            some = omega arith;
            length_right = begun.length_ok;
            missing = λ h. omega (arith, begun.few, (length_range (length_in (b ∷ bs)) (begun.length_ok h)).0);
            kind_right = λ h. absurd (omega (arith, begun.few));
          }
          );
      in_turn = r.none_open;
      cause = λ e q. clash cc;
    }
came c g (text zero) r =
    let (t, e) = text_taken r in
    record {
      rest = [];
      taken = t;
      is = e ∙ sym (append-nil (all (whole_of g (text zero))));
      kind = none refl;
      in_turn = (frame r.header r.so_far, r.open_is);
      cause = λ e q. clash cc;
    }
came c g (text (suc n)) r =
    record {
      rest = bytes r.header r.so_far (suc n) r.few;
      taken = r.taken;
      is = r.is;
      kind = rw (ne_eqb (suc n) 0 (λ e. omega arith)) (inside (text_inside r.header r.so_far (suc n) r.few (omega arith) r.kind));
      in_turn = (frame r.header r.so_far, r.open_is);
      cause = λ e q. clash cc;
    }
came c g (refused x) r =
    record {
      rest = r.last;
      taken = r.taken;
      is = r.is;
      kind = wrong x r.cause;
      in_turn = r.none_open;
      cause = λ e q. subst (Wrong r.last) (same q) r.cause;
    }
  where
    same : {e : ℕ} → refused x ≡ refused e → x ≡ e
    same q = cc

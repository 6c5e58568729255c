-- Every stream has frames and a rest: its first bytes are too few for a head, or refused, or a whole head behind which a frame's text stands or is missing.
use Prim.Native.Nat.{ℕ, zero, suc, ◌+◌, ◌-◌, ◌≤◌, ◌<◌}
use mathlib.Core.Path.{◌≡◌, refl, sym, ap, ap₂, subst, ◌∙◌}
use mathlib.Core.Bool.{Bool, true, false}
use mathlib.Core.List.{List, [], ◌∷◌, ◌++◌, append_assoc, append-nil}
use native.Mathlib.Nat.{zero-add}
use native.Mathlib.Omega.{arith}
use borrow.Author.Tests.{leb-true, leb-false}
use lib.Dec.{leb}
use lib.ListN.{length, take, drop, get_or, length-append, length-drop, take-append-drop, get_or-append}
use lib.Seq.{drop_at, length-take-le}
use Rattle.wire.specs.Longest.{longest}
use Rattle.wire.specs.Number.{bytes_of, AtMost}
use Rattle.wire.proofs.Stores.{parts}
use Rattle.wire.proofs.Numbers.{length_bytes, bytes_at_most, at_most_drop, at_most_append}
use Rattle.frame.specs.Header.{header_bytes, header_of}
use Rattle.frame.specs.Frame.{length_in, length_number, kind_number, frame_of}
use Rattle.frame.proofs.Laws.{header_back, length_range, range_length}
use Rattle.frames.specs.Feed.{eat}
use Rattle.frames.specs.Event.{Fed}
use Rattle.frames.proofs.Heads.{length_front, number_whole}
use Rattle.streams.specs.Stream.{Frame, frame, Taken, all, Unfinished, Split, Wrong, too_short, too_long, other_length}
use Rattle.streams.proofs.Heads.{whole, bad, begun_nothing, Ate, on, off, eat_ate}
use Rattle.streams.proofs.Streams.{head_bytes, ten_range, stype_is, at_most_first}
use Rattle.streams.proofs.Rests.{bytes, says, many, stype_there, wrong_not, few_unfinished, inside_unfinished}

-- a head that is whole: its fourteen bytes are no 10, 11 or 12
pub record WholeHead (t : List ℕ) : Type 0 where
  pub fourteen : length t ≡ 14
  pub length_right : length_number (length_in t) ≡ 0
  pub kind_right : kind_number (get_or t 9 0) (length_in t) ≡ 0

-- ---- the head of a frame

-- a frame's first fourteen bytes
abbrev pub head_of : Frame → List ℕ
head_of f = bytes_of 4 (10 + length f.text) ++ header_bytes f.header

-- what they are
pub record FrameHead (f : Frame) (t : List ℕ) : Type 0 where
  pub is : frame_of f.header f.text ≡ t ++ f.text
  pub is_whole : WholeHead t
  pub header_is : header_of (drop 4 t) ≡ f.header
  pub text_length : length_in t - 10 ≡ length f.text
  pub in_bytes : AtMost 0xFF (header_bytes f.header) → AtMost 0xFF t

-- The head of a frame is whole, and says its header and how long its text is.
pub frame_head : (f : Frame) → Taken f → FrameHead f (head_of f)
unfolding frame_of
frame_head f k =
    let h = f.header in
    let n = length f.text in
    let four = bytes_of 4 (10 + n) in
    let few : length {A = ℕ} [] + n ≤ longest = omega (arith, k.few) in
    let same : bytes h [] n few ≡ head_of f = ap₂ (λ (j : ℕ) (y : List ℕ). bytes_of 4 (10 + j) ++ y) (zero-add n) (append-nil (header_bytes h)) in
    let counts : length_in (head_of f) ≡ 10 + n = ap length_in (sym same) ∙ says h [] n few ∙ omega arith in
    let stype : get_or (head_of f) 9 0 ≡ h.stype = ap (λ (y : List ℕ). get_or y 9 0) (sym same) ∙ stype_there h [] n few in
    record {
      is = sym (append_assoc four (header_bytes h) f.text);
      is_whole =
          record {
            fourteen = ap length (sym same) ∙ many h [] n few;
            length_right = ap length_number counts ∙ range_length (10 + n) (omega arith, omega (arith, k.few));
            kind_right = ap₂ kind_number stype counts ∙ k.kind;
          };
      header_is = ap header_of (drop_at four (header_bytes h) 4 (length_bytes 4 (10 + n))) ∙ header_back h k.range;
      text_length = omega (arith, counts);
      in_bytes = at_most_append 0xFF four (header_bytes h) (bytes_at_most 4 (10 + n));
    }

-- ---- bytes behind a whole head

module _ (t : List ℕ) (w : WholeHead t) (v : List ℕ) where
  -- the text's length that the head says
  abbrev count : ℕ
  count = length_in t - 10

  -- where the text is there, a frame stands at the front
  module _ (b : AtMost 0xFF t) (enough : count ≤ length v) where
    abbrev first : Frame
    first = frame (header_of (drop 4 t)) (take count v)

    text_is : length (take count v) ≡ count
    text_is = length-take-le count v enough

    length_is : 10 + length (take count v) ≡ length_in t
    length_is = omega (arith, text_is, (length_range (length_in t) w.length_right).0)

    first_taken : Taken first
    first_taken =
        let ten : length (drop 4 t) ≡ 10 = rw length-drop (omega (arith, w.fourteen)) in
        record {
          range = ten_range (drop 4 t) ten (at_most_drop 0xFF 4 t b);
          few = omega (arith, length_is, (length_range (length_in t) w.length_right).1);
          kind = ap₂ kind_number (stype_is t) length_is ∙ w.kind_right;
        }

    first_is : t ++ v ≡ frame_of first.header first.text ++ drop count v
    unfolding frame_of
    first_is =
        let ten = header_bytes (header_of (drop 4 t)) in
        let four = bytes_of 4 (10 + length (take count v)) in
        let n : 0 + count ≡ length (take count v) = omega (arith, text_is) in
        let head_is : t ≡ four ++ ten
        = head_bytes t w.fourteen b w.length_right ∙ ap₂ (λ (j : ℕ) (y : List ℕ). bytes_of 4 (10 + j) ++ y) n (append-nil ten) in
        ap₂ (λ (x y : List ℕ). x ++ y) head_is (sym (take-append-drop count v))
        ∙ sym (append_assoc (four ++ ten) (take count v) (drop count v))
        ∙ ap (λ (x : List ℕ). x ++ drop count v) (append_assoc four ten (take count v))

  -- where text bytes are missing, none does: the length bytes count more than is there
  missing_unfinished : length v < count → Unfinished (t ++ v)
  missing_unfinished missing =
      let n = length-append t v in
      let same : length_in (t ++ v) ≡ length_in t = length_front t v (omega (arith, w.fourteen)) in
      let stype : get_or (t ++ v) 9 0 ≡ get_or t 9 0 = get_or-append t v 0 9 (omega (arith, w.fourteen)) in
      inside_unfinished (t ++ v) (
      record {
        some = omega (arith, n, w.fourteen);
        length_right = λ _. ap length_number same ∙ w.length_right;
        missing = λ _. omega (arith, n, same, w.fourteen);
        kind_right = λ _. ap₂ kind_number stype same ∙ w.kind_right;
      }
      )

  -- If the head of an unfinished rest is whole, fewer text bytes came than it says.
  pub unfinished_short : AtMost 0xFF t → Unfinished (t ++ v) → length v < length_in t - 10
  unfinished_short b u = go (leb count (length v)) refl
    where
      go : (c : Bool) → leb count (length v) ≡ c → length v < count
      go true e =
          let enough = leb-true count (length v) e in
          absurd (u (first b enough) (drop count v) (first_taken b enough) (first_is b enough))
      go false e = leb-false count (length v) e

-- ---- bytes that a number refuses

-- no frame begins with them
wrong_front : (u v : List ℕ) (e : ℕ) → Wrong u e → Unfinished (u ++ v)
wrong_front u v e w f more k q = go e w
  where
    t : List ℕ
    t = head_of f

    w' : WholeHead t
    w' = (frame_head f k).is_whole

    behind : u ++ v ≡ t ++ (f.text ++ more)
    behind = q ∙ ap (λ (y : List ℕ). y ++ more) (frame_head f k).is ∙ append_assoc t f.text more

    same : 4 ≤ length u → length_in u ≡ length_in t
    same h = sym (length_front u v h) ∙ ap length_in behind ∙ length_front t (f.text ++ more) (omega (arith, w'.fourteen))

    range : (10 ≤ length_in t) × (length_in t ≤ 10 + longest)
    range = length_range (length_in t) w'.length_right

    go : (e : ℕ) → Wrong u e → ⊥
    go e (too_short n h) = omega (arith, same (omega arith), range.0)
    go e (too_long n h) = omega (arith, same (omega arith), range.1)
    go e (other_length n h j s m) =
        let u_is = (parts u t v (f.text ++ more) (n ∙ sym w'.fourteen) behind).0 in
        let right = ap (λ (y : List ℕ). kind_number (get_or y 9 0) (length_in y)) u_is ∙ w'.kind_right in
        wrong_not u 12 (number_whole u n ∙ right) (other_length n h j s m)

-- ---- the frames of a stream, one after the other

abbrev HasFrames : List ℕ → Type 0
HasFrames s = (fs : List Frame) × (rest : List ℕ) × Split s fs rest

no_frame : (s : List ℕ) → Unfinished s → HasFrames s
unfolding all
no_frame s u = ([], s, record { taken = tt; is = refl; unfinished = u })

one_more : (s : List ℕ) (f : Frame) (v : List ℕ) → Taken f → s ≡ frame_of f.header f.text ++ v → HasFrames v → HasFrames s
unfolding all
one_more s f v t e (fs, rest, p) =
    let x = frame_of f.header f.text in
    let is = e ∙ ap (λ (y : List ℕ). x ++ y) p.is ∙ sym (append_assoc x (all fs) rest) in
    (f ∷ fs, rest, record { taken = (t, p.taken); is = is; unfinished = p.unfinished })

-- what stands at the front, where every shorter stream has frames and a rest
front : (s : List ℕ) → AtMost 0xFF s → ((v : List ℕ) → length v < length s → AtMost 0xFF v → HasFrames v) → HasFrames s
front s b shorter = go (eat [] 0 s) (eat_ate s [] 0 begun_nothing)
  where
    behind : (t v : List ℕ) → s ≡ t ++ v → WholeHead t → (c : Bool) → leb (length_in t - 10) (length v) ≡ c → HasFrames s
    behind t v q w true e =
        let n = length_in t - 10 in
        let enough = leb-true n (length v) e in
        let at : AtMost 0xFF (t ++ v) = subst (AtMost 0xFF) q b in
        let at_t = at_most_first 0xFF t v at in
        let at_v : AtMost 0xFF v = subst (AtMost 0xFF) (drop_at t v (length t) refl) (at_most_drop 0xFF (length t) (t ++ v) at) in
        let less : length (drop n v) < length s = omega (arith, length-drop n v, ap length q, length-append t v, w.fourteen) in
        one_more s (first t w v at_t enough) (drop n v) (first_taken t w v at_t enough) (q ∙ first_is t w v at_t enough)
        (shorter (drop n v) less (at_most_drop 0xFF n v at_v))
    behind t v q w false e =
        no_frame s (subst Unfinished (sym q) (missing_unfinished t w v (leb-false (length_in t - 10) (length v) e)))

    go : (f : Fed) → Ate [] 0 s f → HasFrames s
    go f (on e begun) = no_frame s (few_unfinished s begun.few)
    go f (off u v q e (whole n z k to)) =
        behind u v q (record { fourteen = n; length_right = z; kind_right = k }) (leb (length_in u - 10) (length v)) refl
    go f (off u v q e (bad x w to)) = no_frame s (subst Unfinished (sym q) (wrong_front u v x w))

up_to : (n : ℕ) (s : List ℕ) → length s ≤ n → AtMost 0xFF s → HasFrames s
up_to zero s h b = no_frame s (few_unfinished s (omega arith))
up_to (suc n) s h b = front s b (λ v less. up_to n v (omega arith))

-- Every stream of bytes has frames and a rest.
pub split_some : (s : List ℕ) → AtMost 0xFF s → (fs : List Frame) × (rest : List ℕ) × Split s fs rest
split_some s b = up_to (length s) s (omega arith) b

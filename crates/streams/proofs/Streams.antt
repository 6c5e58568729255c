-- However a stream is cut, each feed keeps what is known of its state: what was handed out are the consumed bytes' frames, in order, each with its text.
use Prim.Native.Nat.{ℕ, zero, suc, ◌+◌, ◌-◌, ◌≤◌, ◌<◌, ◌^◌, min}
use mathlib.Core.Path.{◌≡◌, refl, sym, ap, ap₂, subst, ◌∙◌}
use mathlib.Core.Bool.{Bool, true, false, cond}
use mathlib.Core.List.{List, [], ◌∷◌, ◌++◌, append_assoc, append-nil}
use native.Mathlib.Nat.{zero-add}
use native.Mathlib.Omega.{arith}
use borrow.Author.Tests.{eq-eqb, lt-ltb, le-leb, eqb-true, ltb-false}
use lib.Dec.{eqb, ltb}
use lib.ListN.{length, take, drop, get_or, replicate, length-append, length-take, length-drop, take-append-drop}
use lib.Seq.{take_at, drop_at, take_all, get_or-drop}
use Rattle.wire.specs.Longest.{longest}
use Rattle.wire.specs.Number.{number_of, bytes_of, AtMost}
use Rattle.wire.proofs.Numbers.{number_lt, bytes_number, at_most_take, at_most_drop, at_most_append}
use Rattle.frame.specs.Header.{InRange, header_bytes, header_of}
use Rattle.frame.specs.Frame.{length_in, length_number, kind_number, frame_of}
use Rattle.frame.specs.declared.Header.{Header}
use Rattle.frame.proofs.Laws.{bytes_back, length_range}
use Rattle.frames.specs.State.{State, head, text, refused, reader_of}
use Rattle.frames.specs.Feed.{all_zero, allows, fed, eat, text_fed, start, fed_of}
use Rattle.frames.specs.Asked.{Begun}
use Rattle.frames.specs.Event as E
use Rattle.frames.proofs.Heads.{length_front}
use Rattle.frames.proofs.Held.{state_reader}
use Rattle.frames.specs.Event.{Fed}
use Rattle.frames.specs.declared.FrameReader.{FrameReader}
use Rattle.streams.specs.Stream.{Frame, frame, AllTaken, all, Wrong, too_short, too_long, other_length}
use Rattle.streams.specs.Handed.{Current, none, opened, begun, longer, ended, Handed, closed, after, Run, fed_more, feeds, fresh, AllBytes}
use Rattle.streams.proofs.Heads.{whole, bad, begun_nothing, Ate, on, off, eat_ate}

-- ---- what is known in each state of the bytes c consumed and of what was handed out

pub record InHead (c : List ℕ) (g : Handed) (bs : List ℕ) : Type 0 where
  pub none_open : g.current ≡ none
  pub taken : AllTaken g.done
  pub is : c ≡ all g.done ++ bs
  pub begun : Begun bs
  pub bytes : AtMost 0xFF bs

-- a frame is open, of whose text n bytes are still to come
pub record InText (c : List ℕ) (g : Handed) (n : ℕ) : Type 0 where
  pub header : Header
  pub so_far : List ℕ
  pub open_is : g.current ≡ opened (frame header so_far) (length so_far + n)
  pub taken : AllTaken g.done
  pub is : c ≡ all g.done ++ (bytes_of 4 (10 + (length so_far + n)) ++ (header_bytes header ++ so_far))
  pub range : InRange header
  pub few : length so_far + n ≤ longest
  pub kind : kind_number header.stype (10 + (length so_far + n)) ≡ 0

pub record InRefused (c : List ℕ) (g : Handed) (e : ℕ) : Type 0 where
  pub none_open : g.current ≡ none
  pub taken : AllTaken g.done
  pub last : List ℕ
  pub is : c ≡ all g.done ++ last
  pub cause : Wrong last e

abbrev pub Right : List ℕ → Handed → State → Type 0
Right c g (head bs) = InHead c g bs
Right c g (text n) = InText c g n
Right c g (refused e) = InRefused c g e

-- ---- the states that are reached are allowed, and held as they are

zeros : (n : ℕ) → all_zero (replicate n 0) ≡ true
zeros zero = refl
zeros (suc n) = zeros n

pub wrong_range : (t : List ℕ) (e : ℕ) → Wrong t e → (10 ≤ e) × (e ≤ 12)
wrong_range t e (too_short n h) = (omega arith, omega arith)
wrong_range t e (too_long n h) = (omega arith, omega arith)
wrong_range t e (other_length n h k s m) = (omega arith, omega arith)

pub head_allowed : (bs : List ℕ) → Begun bs → allows (reader_of (head bs)) ≡ true
unfolding allows reader_of
head_allowed bs begun = go (ltb (length bs) 4) refl
  where
    behind : drop (length bs) (bs ++ replicate (14 - length bs) 0) ≡ replicate (14 - length bs) 0
    behind = drop_at bs (replicate (14 - length bs) 0) (length bs) refl

    go : (b : Bool) → ltb (length bs) 4 ≡ b → allows (reader_of (head bs)) ≡ true
    go true e = rw (lt-ltb (length bs) 14 begun.few, behind, zeros, e)
    go false e =
        let h : 4 ≤ length bs = ltb-false (length bs) 4 e in
        let same = length_front bs (replicate (14 - length bs) 0) h in
        rw (lt-ltb (length bs) 14 begun.few, behind, zeros, e, same, eq-eqb (length_number (length_in bs)) 0 (begun.length_ok h))

pub right_allowed : (c : List ℕ) (g : Handed) (s : State) → Right c g s → allows (reader_of s) ≡ true
unfolding allows reader_of
right_allowed c g (head bs) r = head_allowed bs r.begun
right_allowed c g (text n) r = le-leb n longest (omega (arith, r.few))
right_allowed c g (refused e) r =
    let k = wrong_range r.last e r.cause in
    rw (le-leb 10 e k.0, le-leb e 12 k.1)

fed_is : (c : List ℕ) (g : Handed) (s : State) (p : List ℕ) → Right c g s → fed_of (reader_of s) p ≡ start s p
unfolding fed_of
fed_is c g s p r = rw (right_allowed c g s r) (ap (λ (x : State). start x p) (state_reader s))

-- ---- one feed

-- what a feed leaves, of the bytes and of what was handed out
abbrev Next : List ℕ → Handed → List ℕ → Fed → Type 0
Next c g p f = (s : State) × (f.reader ≡ reader_of s) × Right (c ++ take f.consumed p) (after f.event p g) s

pub all_append : (fs gs : List Frame) → all (fs ++ gs) ≡ all fs ++ all gs
unfolding all
all_append [] gs = refl
all_append (f ∷ fs) gs =
    ap (λ (x : List ℕ). frame_of f.header f.text ++ x) (all_append fs gs)
    ∙ sym (append_assoc (frame_of f.header f.text) (all fs) (all gs))

pub taken_append : (fs gs : List Frame) → AllTaken fs → AllTaken gs → AllTaken (fs ++ gs)
taken_append [] gs a b = b
taken_append (f ∷ fs) gs (t, a) b = (t, taken_append fs gs a b)

-- bytes behind the consumed ones
behind : (c a bs u p : List ℕ) (n : ℕ) → c ≡ a ++ bs → take n p ≡ u → c ++ take n p ≡ a ++ (bs ++ u)
behind c a bs u p n e f = ap₂ (λ (x y : List ℕ). x ++ y) e f ∙ append_assoc a bs u

-- a whole head is the four bytes of its length and the ten of its header
pub head_bytes : (t : List ℕ) → length t ≡ 14 → AtMost 0xFF t → length_number (length_in t) ≡ 0
    → t ≡ bytes_of 4 (10 + (0 + (length_in t - 10))) ++ (header_bytes (header_of (drop 4 t)) ++ [])
head_bytes t n b z =
    let four : length (take 4 t) ≡ 4 = rw length-take (omega arith) in
    let ten : length (drop 4 t) ≡ 10 = rw length-drop (omega arith) in
    let low = length_range (length_in t) z in
    let m : length_in t ≡ 10 + (0 + (length_in t - 10)) = omega (arith, low.0) in
    sym (take-append-drop 4 t)
    ∙ ap₂ (λ (x y : List ℕ). x ++ y)
    (sym (bytes_number (take 4 t) (at_most_take 0xFF 4 t b)) ∙ ap₂ bytes_of four m)
    (sym (bytes_back (drop 4 t) ten (at_most_drop 0xFF 4 t b)) ∙ sym (append-nil (header_bytes (header_of (drop 4 t)))))

-- ten bytes say a header in range
pub ten_range : (t : List ℕ) → length t ≡ 10 → AtMost 0xFF t → InRange (header_of t)
unfolding header_of
ten_range t n b =
    let two : length (take 2 t) ≡ 2 = rw length-take (omega arith) in
    let four : length (drop 6 t) ≡ 4 = rw length-drop (omega arith) in
    record {
      session = subst (λ (k : ℕ). number_of (take 2 t) < 256 ^ k) two (number_lt (take 2 t) (at_most_take 0xFF 2 t b));
      system = subst (λ (k : ℕ). number_of (drop 6 t) < 256 ^ k) four (number_lt (drop 6 t) (at_most_drop 0xFF 6 t b));
    }

pub at_most_first : (m : ℕ) (x y : List ℕ) → AtMost m (x ++ y) → AtMost m x
at_most_first m [] y a = tt
at_most_first m (b ∷ x) y (a, as') = (a, at_most_first m x y as')

pub stype_is : (t : List ℕ) → (header_of (drop 4 t)).stype ≡ get_or t 9 0
unfolding header_of
stype_is t = get_or-drop 4 t 5 0

-- an open frame to whose text nothing is to come is a frame like those before it
pub text_taken : {c : List ℕ} {g : Handed} → InText c g 0 → AllTaken (closed g.done g.current) × (c ≡ all (closed g.done g.current))
unfolding all frame_of
text_taken {c} {g} r =
    let x = r.so_far in
    let same : length x + 0 ≡ length x = omega arith in
    let f = frame r.header x in
    let is_done : closed g.done g.current ≡ g.done ++ (f ∷ []) = ap (closed g.done) r.open_is in
    let kind_is = ap (λ (j : ℕ). kind_number r.header.stype (10 + j)) (sym same) ∙ r.kind in
    let whole_is : all (g.done ++ (f ∷ [])) ≡ all g.done ++ (bytes_of 4 (10 + length x) ++ (header_bytes r.header ++ x))
    = all_append g.done (f ∷ []) ∙ ap (λ (y : List ℕ). all g.done ++ y) (append-nil (bytes_of 4 (10 + length x) ++ (header_bytes r.header ++ x))) in (
      subst AllTaken (sym is_done)
          (taken_append g.done (f ∷ []) r.taken (record { range = r.range; few = omega (arith, r.few); kind = kind_is }, tt)),
      r.is ∙ ap (λ (j : ℕ). all g.done ++ (bytes_of 4 (10 + j) ++ (header_bytes r.header ++ x))) same ∙ sym whole_is ∙ sym (ap all is_done),
    )

module _ (c : List ℕ) (g : Handed) (p : List ℕ) (b : AtMost 0xFF p) where
  -- a head goes on, is whole, or is refused
  head_next : (bs : List ℕ) → InHead c g bs → (f : Fed) → Ate bs 0 p f → Next c g p f
  head_next bs r f (on e begun) =
      let n : take (0 + length p) p ≡ p = take_all (0 + length p) p (omega arith) in
      rw e (
        head (bs ++ p),
        refl,
        record {
          none_open = r.none_open;
          taken = r.taken;
          is = behind c (all g.done) bs p p (0 + length p) r.is n;
          begun = begun;
          bytes = at_most_append 0xFF bs p r.bytes b;
        },
      )
  head_next bs r f (off u v q e (whole n z k to)) =
      let t = bs ++ u in
      let at : AtMost 0xFF t = at_most_append 0xFF bs u r.bytes (at_most_first 0xFF u v (subst (AtMost 0xFF) q b)) in
      let took : take (0 + length u) p ≡ u = ap₂ take (zero-add (length u)) q ∙ take_at u v (length u) refl in
      let ten : length (drop 4 t) ≡ 10 = rw length-drop (omega arith) in
      let low = length_range (length_in t) z in
      let m : length_in t ≡ 10 + (0 + (length_in t - 10)) = omega (arith, low.0) in
      let zero_more : length_in t - 10 ≡ 0 + (length_in t - 10) = omega arith in
      let h = header_of (drop 4 t) in
      rw (e, to) (
        text (length_in t - 10),
        refl,
        record {
          header = h;
          so_far = [];
          open_is = ap (λ (y : Current). begun y h (length_in t - 10)) r.none_open ∙ ap (opened (frame h [])) zero_more;
          taken = r.taken;
          is = behind c (all g.done) bs u p (0 + length u) r.is took ∙ ap (λ (x : List ℕ). all g.done ++ x) (head_bytes t n at z);
          range = ten_range (drop 4 t) ten (at_most_drop 0xFF 4 t at);
          few = omega (arith, low.1);
          kind = ap₂ kind_number (stype_is t) (sym m) ∙ k;
        },
      )
  head_next bs r f (off u v q e (bad x cause to)) =
      let took : take (0 + length u) p ≡ u = ap₂ take (zero-add (length u)) q ∙ take_at u v (length u) refl in
      rw (e, to) (
        refused x,
        refl,
        record { none_open = r.none_open; taken = r.taken; last = bs ++ u; is = behind c (all g.done) bs u p (0 + length u) r.is took; cause = cause },
      )

  -- text bytes go to the open frame; its end closes it
  part_next : (n m : ℕ) → InText c g n → m ≡ min n (length p) → Next c g p (fed (E.Text m) m (text (n - m)))
  part_next n m r e =
      let k : length (take m p) ≡ m = rw length-take (omega arith) in
      let x = r.so_far in
      let more : length (x ++ take m p) ≡ length x + m = length-append x (take m p) ∙ ap (λ (j : ℕ). length x + j) k in
      let same : length (x ++ take m p) + (n - m) ≡ length x + n = omega arith in (
        text (n - m),
        refl,
        record {
          header = r.header;
          so_far = x ++ take m p;
          open_is = ap (λ (y : Current). longer y (take m p)) r.open_is ∙ ap (opened (frame r.header (x ++ take m p))) (sym same);
          taken = r.taken;
          is =
              behind c (all g.done) (bytes_of 4 (10 + (length x + n)) ++ (header_bytes r.header ++ x)) (take m p) p m r.is refl
              ∙ ap (λ (y : List ℕ). all g.done ++ y)
              (append_assoc (bytes_of 4 (10 + (length x + n))) (header_bytes r.header ++ x) (take m p)
              ∙ ap₂ (λ (j : ℕ) (y : List ℕ). bytes_of 4 (10 + j) ++ y) (sym same) (append_assoc (header_bytes r.header) x (take m p)));
          range = r.range;
          few = omega (arith, r.few);
          kind = ap (λ (j : ℕ). kind_number r.header.stype (10 + j)) same ∙ r.kind;
        },
      )

  end_next : (n : ℕ) → n ≡ 0 → InText c g n → Next c g p (fed E.End 0 (head []))
  end_next n z r =
      let (t, e) = text_taken (subst (InText c g) z r) in
      let same : length r.so_far ≡ length r.so_far + n = omega arith in (
        head [],
        refl,
        record {
          none_open = ap ended r.open_is ∙ rw (eq-eqb (length r.so_far) (length r.so_far + n) same);
          taken = t;
          is = append-nil c ∙ e ∙ sym (append-nil (all (closed g.done g.current)));
          begun = begun_nothing;
          bytes = tt;
        },
      )

  stay_text : (n : ℕ) → InText c g n → Next c g p (fed E.More 0 (text n))
  stay_text n r = (
    text n,
    refl,
    record {
      header = r.header;
      so_far = r.so_far;
      open_is = r.open_is;
      taken = r.taken;
      is = append-nil c ∙ r.is;
      range = r.range;
      few = r.few;
      kind = r.kind;
    },
  )

  text_next : (n : ℕ) → InText c g n → Next c g p (text_fed n (length p))
  unfolding text_fed
  text_next n r = go (eqb n 0) refl (eqb (length p) 0) refl
    where
      given : (a d : Bool) → Fed
      given a d =
          let m = min n (length p) in
          cond a (fed E.End 0 (head [])) (cond d (fed E.More 0 (text n)) (fed (E.Text m) m (text (n - m))))

      go : (a : Bool) → eqb n 0 ≡ a → (d : Bool) → eqb (length p) 0 ≡ d → Next c g p (given a d)
      go true e d f = end_next n (eqb-true n 0 e) r
      go false e true f = stay_text n r
      go false e false f = part_next n (min n (length p)) r refl

  next : (s : State) → Right c g s → Next c g p (start s p)
  next (head bs) r = head_next bs r (eat bs 0 p) (eat_ate p bs 0 r.begun)
  next (text n) r = text_next n r
  next (refused e) r =
      (refused e, refl, record { none_open = r.none_open; taken = r.taken; last = r.last; is = append-nil c ∙ r.is; cause = r.cause })

-- ---- a sequence of feeds

-- what a run has come to
pub record Reached (x : Run) : Type 0 where
  pub state : State
  pub reader_is : x.reader ≡ reader_of state
  pub right : Right x.bytes x.handed state

fed_reached : (x : Run) (p : List ℕ) → AtMost 0xFF p → Reached x → Reached (fed_more x p)
fed_reached x p b r =
    let e : fed_of x.reader p ≡ start r.state p
    = ap (λ (y : FrameReader). fed_of y p) r.reader_is ∙ fed_is x.bytes x.handed r.state p r.right in
    let (s, f, k) = next x.bytes x.handed p b r.state r.right in
    rw e (record { state = s; reader_is = f; right = k })

feeds_reached : (ps : List (List ℕ)) (x : Run) → AllBytes ps → Reached x → Reached (feeds x ps)
feeds_reached [] x b r = r
feeds_reached (p ∷ ps) x (b, bs) r = feeds_reached ps (fed_more x p) bs (fed_reached x p b r)

pub reached : (ps : List (List ℕ)) → AllBytes ps → Reached (feeds fresh ps)
unfolding all
reached ps b =
    let right : Right [] fresh.handed (head []) = record { none_open = refl; taken = tt; is = refl; begun = begun_nothing; bytes = tt } in
    feeds_reached ps fresh b (record { state = head []; reader_is = refl; right = right })

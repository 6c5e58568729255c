-- The theorems of a stream: the frames handed out are its frames, its end has its number, no reached state breaks the list, and a host's loop feeds all.
use Prim.Native.Nat.{ℕ, suc, ◌+◌, ◌-◌, ◌≤◌, min}
use mathlib.Core.Path.{◌≡◌, refl, sym, ap, subst, ◌∙◌}
use mathlib.Core.Bool.{Bool, true, false, cond}
use mathlib.Core.List.{List, [], ◌∷◌, ◌++◌, append_assoc, append-nil}
use native.Mathlib.Omega.{arith}
use borrow.Author.Tests.{eqb-true}
use lib.Dec.{eqb}
use lib.ListN.{length, take, drop, take-append-drop}
use Rattle.frames.specs.State.{State, head, text, refused, state_of}
use Rattle.frames.specs.Feed.{allows, after, fed, reached, eat, text_fed, start, fed_of, end_in, end_of}
use Rattle.frames.specs.Event.{More, Text, End, Refusal, Fed}
use Rattle.frames.specs.declared.FrameReader.{FrameReader}
use Rattle.frames.proofs.Held.{state_reader}
use Rattle.streams.specs.Stream.{Frame, AllTaken, all, Unfinished, Split, WholeFrames, EndsInside, EndsWrong}
use Rattle.streams.specs.Handed.{Run, whole_of, fed_more, feeds, fresh, AllBytes, FedAll, HandedOut, Ends}
use Rattle.streams.proofs.Once.{split_once}
use Rattle.streams.proofs.Streams as streams
use Rattle.streams.proofs.Rests.{Came, came, rest_none, none_rest, rest_inside, inside_rest, rest_wrong, wrong_rest, rest_one}
use Rattle.streams.proofs.Rests.{none_unfinished, inside_unfinished, wrong_unfinished, rest_unfinished}

-- of a stream that is fed to its end all is consumed
all_consumed : (ps : List (List ℕ)) (x : Run) (s : List ℕ) → FedAll x ps s → (feeds x ps).bytes ≡ x.bytes ++ s
all_consumed [] x s e = sym (ap (λ (y : List ℕ). x.bytes ++ y) e ∙ append-nil x.bytes)
all_consumed (p ∷ ps) x s (t, e, f) =
    let k = (fed_of x.reader p).consumed in
    let joins : take k p ++ (drop k p ++ t) ≡ p ++ t = sym (append_assoc (take k p) (drop k p) t) ∙ ap (λ (y : List ℕ). y ++ t) (take-append-drop k p) in
    all_consumed ps (fed_more x p) (drop k p ++ t) f
    ∙ append_assoc x.bytes (take k p) (drop k p ++ t)
    ∙ ap (λ (y : List ℕ). x.bytes ++ y) (joins ∙ sym e)

module _ (ps : List (List ℕ)) (b : AllBytes ps) where
  abbrev x : Run
  x = feeds fresh ps

  -- No state that is reached breaks the list.
  pub reached_allowed : allows x.reader ≡ true
  reached_allowed =
      let r = streams.reached ps b in
      ap allows r.reader_is ∙ streams.right_allowed x.bytes x.handed r.state r.right

  came_to : Came x.bytes x.handed (state_of x.reader)
  came_to =
      let r = streams.reached ps b in
      subst (Came x.bytes x.handed) (sym (ap state_of r.reader_is ∙ state_reader r.state)) (came x.bytes x.handed r.state r.right)

  split : Split x.bytes (whole_of x.handed (state_of x.reader)) came_to.rest
  split = record { taken = came_to.taken; is = came_to.is; unfinished = rest_unfinished came_to.kind }

  -- THE FRAMES HANDED OUT ARE THE STREAM'S. For every way to feed a stream, the frames handed out, headers and texts, are in order those of the bytes
  -- consumed, and bytes have one list of frames and one rest (Once: split_once); each header, text part and end comes in its turn, and each text is as long
  -- as its header said: nothing of one message reaches another. Where the reader is refused, the rest is the number's cause.
  pub frames_handed_out : HandedOut x
  frames_handed_out = record { rest = came_to.rest; split = split; in_turn = came_to.in_turn; cause = came_to.cause }

  end_is : end_of x.reader ≡ end_in (state_of x.reader)
  unfolding end_of
  end_is = rw reached_allowed

  -- another rest behind whole frames is this one
  same_rest : (fs : List Frame) (rest : List ℕ) → AllTaken fs → x.bytes ≡ all fs ++ rest → Unfinished rest → came_to.rest ≡ rest
  same_rest fs rest taken is unfinished = (split_once x.bytes _ fs came_to.rest rest split (record { taken = taken; is = is; unfinished = unfinished })).1

  -- THE NUMBER OF THE STREAM'S END: 0 exactly where the bytes are whole frames, 13 exactly where they end inside one, and 10, 11 or 12 exactly for its cause.
  pub ends : Ends x.reader x.bytes
  ends =
      record {
        whole = (whole_is, is_whole);
        inside = (inside_is, is_inside);
        wrong = λ e h k. (wrong_is e h k, is_wrong e);
        no_other = rw end_is (rest_one came_to.kind);
      }
    where
      whole_is : end_of x.reader ≡ 0 → WholeFrames x.bytes
      whole_is e =
          let z = none_rest came_to.kind (sym end_is ∙ e) in
          (_, came_to.taken, came_to.is ∙ ap (λ (y : List ℕ). all (whole_of x.handed (state_of x.reader)) ++ y) z ∙ append-nil _)

      is_whole : WholeFrames x.bytes → end_of x.reader ≡ 0
      is_whole (fs, t, i) = end_is ∙ rest_none came_to.kind (same_rest fs [] t (i ∙ sym (append-nil (all fs))) none_unfinished)

      inside_is : end_of x.reader ≡ 13 → EndsInside x.bytes
      inside_is e = (_, came_to.rest, came_to.taken, came_to.is, inside_rest came_to.kind (sym end_is ∙ e))

      is_inside : EndsInside x.bytes → end_of x.reader ≡ 13
      is_inside (fs, rest, t, i, k) =
          let z = same_rest fs rest t i (inside_unfinished rest k) in
          end_is ∙ rest_inside came_to.kind (rw z k)

      wrong_is : (e : ℕ) → 10 ≤ e → e ≤ 12 → end_of x.reader ≡ e → EndsWrong x.bytes e
      wrong_is e h k q = (_, came_to.rest, came_to.taken, came_to.is, wrong_rest came_to.kind e h k (sym end_is ∙ q))

      is_wrong : (e : ℕ) → EndsWrong x.bytes e → end_of x.reader ≡ e
      is_wrong e (fs, rest, t, i, w) =
          let z = same_rest fs rest t i (wrong_unfinished rest e w) in
          end_is ∙ rest_wrong came_to.kind e (rw z w)

  -- The same of a stream that is fed to its end: all of it was consumed.
  pub stream_ends : (s : List ℕ) → FedAll fresh ps s → Ends x.reader s
  stream_ends s f = subst (Ends x.reader) (all_consumed ps fresh s f) ends

-- ---- what a host's loop stands on

-- with more the whole piece was consumed
eat_more : (p bs : List ℕ) (k : ℕ) → (eat bs k p).event ≡ More → (eat bs k p).consumed ≡ k + length p
unfolding eat
eat_more [] bs k e = omega arith
eat_more (b ∷ p) bs k e = go (after (bs ++ (b ∷ []))) e (eat_more p (bs ++ (b ∷ [])) (k + 1))
  where
    t : List ℕ
    t = bs ++ (b ∷ [])

    next : Fed
    next = eat t (k + 1) p

    go : (s : State) → (reached s t (k + 1) next).event ≡ More → (next.event ≡ More → next.consumed ≡ k + 1 + length p)
        → (reached s t (k + 1) next).consumed ≡ k + suc (length p)
    go (head x) e rec = rec e ∙ omega arith
    go (text n) e rec = absurd (let z : ◌≡◌ {A = ℕ} 0 1 = cc in omega arith)
    go (refused n) e rec = absurd (let z : ◌≡◌ {A = ℕ} 0 1 = cc in omega arith)

start_more : (s : State) (p : List ℕ) → (start s p).event ≡ More → (start s p).consumed ≡ length p
unfolding text_fed
start_more (head bs) p e = eat_more p bs 0 e ∙ omega arith
start_more (text n) p e = go (eqb n 0) (eqb (length p) 0) refl e
  where
    given : (a d : Bool) → Fed
    given a d = cond a (fed End 0 (head [])) (cond d (fed More 0 (text n)) (fed (Text (min n (length p))) (min n (length p)) (text (n - min n (length p)))))

    go : (a d : Bool) → eqb (length p) 0 ≡ d → (given a d).event ≡ More → (given a d).consumed ≡ length p
    go true d f e = absurd (let z : ◌≡◌ {A = ℕ} 0 1 = cc in omega arith)
    go false true f e = sym (eqb-true (length p) 0 f)
    go false false f e = absurd (let z : ◌≡◌ {A = ℕ} 0 1 = cc in omega arith)
start_more (refused n) p e = absurd (let z : ◌≡◌ {A = ℕ} 0 1 = cc in omega arith)

-- With more the whole piece was consumed: a host that feeds what is left until it is answered more has fed all of it.
pub more_all : (r : FrameReader) (p : List ℕ) → (fed_of r p).event ≡ More → (fed_of r p).consumed ≡ length p
unfolding fed_of
more_all r p = go (allows r)
  where
    given : Bool → Fed
    given b = cond b (start (state_of r) p) (record { event = Refusal 14; consumed = 0; reader = r })

    go : (b : Bool) → (given b).event ≡ More → (given b).consumed ≡ length p
    go true e = start_more (state_of r) p e
    go false e = absurd (let z : ◌≡◌ {A = ℕ} 0 1 = cc in omega arith)

-- Each call on an outbox that holds a queue leaves one that holds the queue afterwards: the used bytes are the frames that wait, the oldest first.
use Prim.Native.Nat.{ℕ, ◌+◌, ◌-◌}
use mathlib.Core.Path.{◌≡◌, refl, sym, ap, ap₂, ◌∙◌}
use mathlib.Core.Bool.{Bool, true, false, cond}
use mathlib.Core.List.{List, [], ◌∷◌, ◌++◌, append_assoc, append-nil}
use native.Mathlib.Omega.{arith}
use borrow.Author.Tests.{ne_eqb, le-leb, eqb-true}
use lib.Dec.{eqb, leb}
use lib.ListN.{length, take, drop, replicate, length-append}
use lib.Seq.{take_at, drop_at, take-append-le, drop-append-add}
use Rattle.wire.specs.Lists.{joined}
use Rattle.wire.specs.Number.{number_of}
use Rattle.frame.specs.Frame.{length_in}
use Rattle.outbox.specs.Outbox.{frame_number, front, whole_from, holds, append_of, next_number, next_of, size_of, moved, drop_of}
use Rattle.outbox.proofs.Fronts.{frame_fits, front_is}
use Rattle.queues.specs.Queue.{Box, box, buffer_of, used_of, Frames, joins, Act, to_control, to_data, drop_next, Boxes, boxes, acted, acted_all}
use Rattle.queues.specs.Queue.{Lent, lent, lent_of, called, called_all, Kept, Appended, Handed, Gone}

-- ---- the used bytes are the frames that wait

-- a frame at the front is found there
front_says : (f v : List ℕ) → frame_number f ≡ 0 → length_in (f ++ v) ≡ length_in f
front_says f v z = ap number_of (take-append-le 4 f v (omega (arith, (frame_fits f z).1)))

front_found : (f v : List ℕ) → frame_number f ≡ 0 → front (f ++ v) ≡ f
front_found f v z = take_at f v (4 + length_in (f ++ v)) ((frame_fits f z).1 ∙ ap (λ (k : ℕ). 4 + k) (sym (front_says f v z)))

joined_whole : (q : List (List ℕ)) → Frames q → whole_from 0 (joined q) ≡ true
unfolding whole_from
joined_whole [] a = refl
joined_whole (f ∷ q) (z, a) =
    let g = front_is (f ++ joined q) (ap frame_number (front_found f (joined q) z) ∙ z) in
    let n : length f ≡ 4 + length_in (f ++ joined q) = (frame_fits f z).1 ∙ ap (λ (k : ℕ). 4 + k) (sym (front_says f (joined q) z)) in
    g.on ∙ ap (whole_from 0) (drop_at f (joined q) (4 + length_in (f ++ joined q)) n) ∙ joined_whole q a

module _ (b : Box) (a : Frames b.waiting) where
  used_bytes : take (used_of b) (buffer_of b) ≡ joined b.waiting
  used_bytes = take_at (joined b.waiting) b.behind (used_of b) refl

  behind_bytes : drop (used_of b) (buffer_of b) ≡ b.behind
  behind_bytes = drop_at (joined b.waiting) b.behind (used_of b) refl

  box_holds : holds (buffer_of b) (used_of b) ≡ true
  unfolding holds
  box_holds =
      rw (le-leb (used_of b) (length (buffer_of b)) (omega (arith, length-append (joined b.waiting) b.behind)), used_bytes) (joined_whole b.waiting a)

  -- ---- append

  -- the answer, by whether there is room
  room_is : length (buffer_of b) - used_of b ≡ length b.behind
  room_is = omega (arith, length-append (joined b.waiting) b.behind)

  joined_last : (q : List (List ℕ)) (f : List ℕ) → joined (q ++ (f ∷ [])) ≡ joined q ++ f
  joined_last [] f = append-nil f
  joined_last (g ∷ q) f = ap (λ (x : List ℕ). g ++ x) (joined_last q f) ∙ sym (append_assoc g (joined q) f)

  frames_last : (q : List (List ℕ)) (f : List ℕ) → Frames q → frame_number f ≡ 0 → Frames (q ++ (f ∷ []))
  frames_last [] f a z = (z, tt)
  frames_last (g ∷ q) f (y, a) z = (y, frames_last q f a z)

  -- Append puts a frame behind those that wait, or changes nothing.
  pub appended : (f : List ℕ) → Appended b f
  unfolding append_of joins
  appended f = go (eqb (frame_number f) 0) refl (leb (length f) (length b.behind)) refl
    where
      go : (x : Bool) → eqb (frame_number f) 0 ≡ x → (y : Bool) → leb (length f) (length b.behind) ≡ y → Appended b f
      go false e y h = record { buffer = rw (box_holds, e); used = rw (box_holds, e); frames = rw e a }
      go true e false h = record { buffer = rw (box_holds, e, room_is, h); used = rw (box_holds, e, room_is, h); frames = rw (e, h) a }
      go true e true h =
          let more = joined_last b.waiting f in
          record {
            buffer =
                rw (box_holds, e, room_is, h, used_bytes, more)
                (ap (λ (x : List ℕ). joined b.waiting ++ (f ++ x)) (drop-append-add (joined b.waiting) b.behind (length f))
                ∙ sym (append_assoc (joined b.waiting) f (drop (length f) b.behind)));
            used = rw (box_holds, e, room_is, h, more) (sym (length-append (joined b.waiting) f));
            frames = rw (e, h) (frames_last b.waiting f a (eqb-true (frame_number f) 0 e));
          }

-- ---- next and drop

-- an outbox is empty exactly where no frame waits
none_used : (q : List (List ℕ)) → Frames q → q ≡ [] → length (joined q) ≡ 0
none_used q a e = ap (λ (x : List (List ℕ)). length (joined x)) e

some_used : (f : List ℕ) (q : List (List ℕ)) → frame_number f ≡ 0 → length (joined (f ∷ q)) ≡ 0 → ⊥
some_used f q z e = omega (arith, length-append f (joined q), (frame_fits f z).1)

-- the first message of an outbox is the oldest frame that waits
module _ (f : List ℕ) (q : List (List ℕ)) (r : List ℕ) (z : frame_number f ≡ 0) (a : Frames q) where
  abbrev some : Box
  some = box (f ∷ q) r

  first_is : front (take (used_of some) (buffer_of some)) ≡ f
  first_is = ap front (used_bytes some (z, a)) ∙ front_found f (joined q) z

  size_is : size_of (buffer_of some) (used_of some) ≡ length f
  size_is = ap (λ (x : List ℕ). 4 + length_in x) (used_bytes some (z, a)) ∙ ap (λ (k : ℕ). 4 + k) (front_says f (joined q) z) ∙ sym (frame_fits f z).1

  moved_is : moved (buffer_of some) (size_of (buffer_of some) (used_of some)) (used_of some) ≡ buffer_of (box q (replicate (length f) 0 ++ r))
  unfolding moved
  moved_is =
      rw (size_is, used_bytes some (z, a), behind_bytes some (z, a))
      (ap (λ (x : List ℕ). x ++ (replicate (length f) 0 ++ r)) (drop_at f (joined q) (length f) refl))

  left_is : used_of some - size_of (buffer_of some) (used_of some) ≡ length (joined q)
  left_is = omega (arith, size_is, length-append f (joined q))

-- what the calls make of two queues
module _ (c d : Box) (a : Frames c.waiting) (b : Frames d.waiting) where
  number_is : next_number (buffer_of c) (used_of c) (buffer_of d) (used_of d) ≡ cond (eqb (used_of c) 0) (cond (eqb (used_of d) 0) 41 0) 0
  unfolding next_number
  number_is = rw (box_holds c a, box_holds d b)

-- Next hands back the oldest message, control's first.
pub handed : (cq dq : List (List ℕ)) (cr dr : List ℕ) → Frames cq → Frames dq → Handed (box cq cr) (box dq dr)
unfolding next_of
handed [] [] cr dr a b =
    let n = number_is (box [] cr) (box [] dr) a b in
    record { part = rw n; number = n }
handed [] (f ∷ q) cr dr a (z, b) =
    let n = number_is (box [] cr) (box (f ∷ q) dr) a (z, b) in
    let some = ne_eqb (length (f ++ joined q)) 0 (some_used f q z) in
    record { part = rw (n, some) (first_is f q dr z b); number = rw (n, some) }
handed (f ∷ q) dq cr dr (z, a) b =
    let n = number_is (box (f ∷ q) cr) (box dq dr) (z, a) b in
    let some = ne_eqb (length (f ++ joined q)) 0 (some_used f q z) in
    record { part = rw (n, some) (first_is f q cr z a); number = rw (n, some) }

-- Drop takes that message away.
pub gone : (cq dq : List (List ℕ)) (cr dr : List ℕ) → Frames cq → Frames dq → Gone (box cq cr) (box dq dr)
unfolding drop_of
gone [] [] cr dr a b = record { calls = rw (number_is (box [] cr) (box [] dr) a b); kept = record { control = a; stock = b } }
gone [] (f ∷ q) cr dr a (z, b) =
    let n = number_is (box [] cr) (box (f ∷ q) dr) a (z, b) in
    record {
      calls = rw (n, ne_eqb (length (f ++ joined q)) 0 (some_used f q z), moved_is f q dr z b, left_is f q dr z b);
      kept = record { control = a; stock = b };
    }
gone (f ∷ q) dq cr dr (z, a) b =
    let n = number_is (box (f ∷ q) cr) (box dq dr) (z, a) b in
    let some = ne_eqb (length (f ++ joined q)) 0 (some_used f q z) in
    record { calls = rw (n, some, moved_is f q cr z a, left_is f q cr z a); kept = record { control = a; stock = b } }

-- ---- any sequence of calls

acted_is : (b : Boxes) → Kept b → (x : Act) → (called (lent_of b) x ≡ lent_of (acted b x)) × Kept (acted b x)
acted_is b k (to_control f) =
    let r = appended b.control k.control f in (
      ap₂ (λ (s : List ℕ) (n : ℕ). lent s n (buffer_of b.stock) (used_of b.stock)) r.buffer r.used,
      record { control = r.frames; stock = k.stock },
    )
acted_is b k (to_data f) =
    let r = appended b.stock k.stock f in (
      ap₂ (λ (s : List ℕ) (n : ℕ). lent (buffer_of b.control) (used_of b.control) s n) r.buffer r.used,
      record { control = k.control; stock = r.frames },
    )
acted_is b k drop_next =
    let r = gone b.control.waiting b.stock.waiting b.control.behind b.stock.behind k.control k.stock in
    (r.calls, r.kept)

-- OVER ANY SEQUENCE OF APPENDS AND DROPS EACH OUTBOX IS A PLAIN QUEUE OF FRAMES: its buffer is the frames that wait, oldest first, and behind the used
-- bytes those that were there, or 00 where freed.
pub queues : (as' : List Act) (b : Boxes) → Kept b → (called_all (lent_of b) as' ≡ lent_of (acted_all b as')) × Kept (acted_all b as')
queues [] b k = (refl, k)
queues (x ∷ as') b k =
    let (e, k') = acted_is b k x in
    let (f, k'') = queues as' (acted b x) k' in
    (ap (λ (l : Lent). called_all l as') e ∙ f, k'')

-- Two buffers of any bytes with nothing used are empty queues.
pub empty_queues : (c d : List ℕ) → (lent c 0 d 0 ≡ lent_of (boxes (box [] c) (box [] d))) × Kept (boxes (box [] c) (box [] d))
empty_queues c d = (refl, record { control = tt; stock = tt })

-- An outbox as a plain queue: the frames that wait, oldest first, and the bytes behind them.
use Rattle.std.specs.Prelude.{ℕ, cond, List, [], ◌∷◌, ◌++◌, ◌≡◌, eqb, leb, length, drop, replicate}
use Rattle.wire.specs.Lists.{Each, joined}
use Rattle.refusal.specs.Answer.{Counted}
use Rattle.refusal.specs.Answer as C
use Rattle.outbox.specs.Outbox.{frame_number, append_of, append_after, next_number, next_of, drop_of, control_after, data_after}
use Rattle.outbox.specs.Dropped as D
use Rattle.outbox.specs.Dropped.{Dropped}

pub record Box : Type 0 where
  pub waiting : List (List ℕ)
  pub behind : List ℕ

abbrev pub box : List (List ℕ) → List ℕ → Box
box q r = record { waiting = q; behind = r }

-- the buffer of an outbox, frames end to end and the bytes behind them, and its used count
abbrev pub buffer_of : Box → List ℕ
buffer_of b = joined b.waiting ++ b.behind

abbrev pub used_of : Box → ℕ
used_of b = length (joined b.waiting)

-- each frame that waits is one that append takes
abbrev pub Frames : List (List ℕ) → Type 0
Frames q = Each (λ (f : List ℕ). frame_number f ≡ 0) q

-- ---- what a queue does

-- a frame goes to the end, over the bytes that were there; what is no frame, or finds no room, does not
unfoldable pub joins : Box → List ℕ → Box
joins b f =
    cond (eqb (frame_number f) 0)
    (cond (leb (length f) (length b.behind)) (box (b.waiting ++ (f ∷ [])) (drop (length f) b.behind)) b)
    b

-- the oldest leaves; where its bytes were freed is 00
abbrev pub leaves_from : List (List ℕ) → List ℕ → Box
leaves_from [] r = box [] r
leaves_from (f ∷ q) r = box q (replicate (length f) 0 ++ r)

abbrev pub leaves : Box → Box
leaves b = leaves_from b.waiting b.behind

-- ---- two outboxes, and what is done to them

pub data Act : Type 0 where
  to_control : List ℕ → Act
  to_data : List ℕ → Act
  drop_next : Act

pub record Boxes : Type 0 where
  pub control : Box
  pub stock : Box

abbrev pub boxes : Box → Box → Boxes
boxes c d = record { control = c; stock = d }

-- the next message: control's oldest, and data's where control is empty
abbrev pub oldest : List (List ℕ) → List (List ℕ) → List ℕ
oldest [] [] = []
oldest [] (f ∷ q) = f
oldest (f ∷ q) d = f

-- it is dropped
abbrev pub without : List (List ℕ) → Boxes → Boxes
without [] b = boxes b.control (leaves b.stock)
without (f ∷ q) b = boxes (leaves b.control) b.stock

abbrev pub acted : Boxes → Act → Boxes
acted b (to_control f) = boxes (joins b.control f) b.stock
acted b (to_data f) = boxes b.control (joins b.stock f)
acted b drop_next = without b.control.waiting b

abbrev pub acted_all : Boxes → List Act → Boxes
acted_all b [] = b
acted_all b (a ∷ as') = acted_all (acted b a) as'

-- ---- the same by the calls: two buffers with their used counts

pub record Lent : Type 0 where
  pub control : List ℕ
  pub cused : ℕ
  pub stock : List ℕ
  pub dused : ℕ

abbrev pub lent : List ℕ → ℕ → List ℕ → ℕ → Lent
lent c m d n = record { control = c; cused = m; stock = d; dused = n }

abbrev pub lent_of : Boxes → Lent
lent_of b = lent (buffer_of b.control) (used_of b.control) (buffer_of b.stock) (used_of b.stock)

-- the used count afterwards: as answered, or as it was
abbrev pub used_after : Counted → ℕ → ℕ
used_after (C.Is n) used = n
used_after (C.Refused k) used = used

abbrev pub control_used : Dropped → ℕ → ℕ
control_used (D.Control n) used = n
control_used (D.Data n) used = used
control_used (D.Refused k) used = used

abbrev pub data_used : Dropped → ℕ → ℕ
data_used (D.Control n) used = used
data_used (D.Data n) used = n
data_used (D.Refused k) used = used

abbrev pub called : Lent → Act → Lent
called l (to_control f) =
    lent
    (append_after (append_of l.control l.cused f) l.control l.cused f)
    (used_after (append_of l.control l.cused f) l.cused)
    l.stock
    l.dused
called l (to_data f) =
    lent
    l.control
    l.cused
    (append_after (append_of l.stock l.dused f) l.stock l.dused f)
    (used_after (append_of l.stock l.dused f) l.dused)
called l drop_next =
    lent
    (control_after (drop_of l.control l.cused l.stock l.dused) l.control l.cused)
    (control_used (drop_of l.control l.cused l.stock l.dused) l.cused)
    (data_after (drop_of l.control l.cused l.stock l.dused) l.stock l.dused)
    (data_used (drop_of l.control l.cused l.stock l.dused) l.dused)

abbrev pub called_all : Lent → List Act → Lent
called_all l [] = l
called_all l (a ∷ as') = called_all (called l a) as'

-- ---- what a call makes of queues

-- each frame that waits in either is one that append takes
pub record Kept (b : Boxes) : Type 0 where
  pub control : Frames b.control.waiting
  pub stock : Frames b.stock.waiting

-- append leaves the outbox of the queue that the frame has joined, or of the queue as it was
pub record Appended (b : Box) (f : List ℕ) : Type 0 where
  pub buffer : append_after (append_of (buffer_of b) (used_of b) f) (buffer_of b) (used_of b) f ≡ buffer_of (joins b f)
  pub used : used_after (append_of (buffer_of b) (used_of b) f) (used_of b) ≡ used_of (joins b f)
  pub frames : Frames (joins b f).waiting

-- 41 where none waits, else 0
abbrev pub none_number : List (List ℕ) → List (List ℕ) → ℕ
none_number [] [] = 41
none_number [] (f ∷ q) = 0
none_number (f ∷ q) d = 0

-- next hands back the oldest message, control's first; nothing, and 41, where none waits
pub record Handed (c d : Box) : Type 0 where
  pub part : next_of (buffer_of c) (used_of c) (buffer_of d) (used_of d) ≡ oldest c.waiting d.waiting
  pub number : next_number (buffer_of c) (used_of c) (buffer_of d) (used_of d) ≡ none_number c.waiting d.waiting

-- drop leaves the outboxes of the queues without that message
pub record Gone (c d : Box) : Type 0 where
  pub calls : called (lent_of (boxes c d)) drop_next ≡ lent_of (without c.waiting (boxes c d))
  pub kept : Kept (without c.waiting (boxes c d))

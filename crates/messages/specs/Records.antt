-- What each record does to the frame reader and the outboxes that are kept, and what is printed; docs/CALLS.md has it in words.
use Rattle.std.specs.Prelude.{ℕ, zero, suc, Bool, true, false, cond, eqb, List, [], ◌∷◌, ◌++◌, length, take, drop, get_or, replicate, codes, decimal}
use Rattle.wire.specs.Lent.{copied, out_after}
use Rattle.refusal.specs.Answer.{Counted, Is, Refused}
use Rattle.records.specs.Fields.{field_of, ten_in, blank}
use Rattle.frame.specs.Header.{header_of}
use Rattle.frame.specs.Frame.{frame_of, written_of}
use Rattle.frame.specs.declared.Header as frame
use Rattle.frames.specs.State.{head, reader_of}
use Rattle.frames.specs.Event.{Event, More, Header, Text, End, Refusal, Fed}
use Rattle.frames.specs.Feed.{fed_of, end_of}
use Rattle.frames.specs.declared.FrameReader.{FrameReader}
use Rattle.outbox.specs.Dropped as dropped
use Rattle.outbox.specs.Outbox.{append_of, append_after, next_number, next_of, drop_of, control_after, data_after}
use Rattle.driver.specs.Printed.{field, line, bad_record, if_bytes, hex_field, counted_fields}
use Rattle.driver.specs.Input.{keeps, says, with_bytes}
use Rattle.messages.specs.declared.Outbox.{Outbox}
use Rattle.messages.specs.declared.Messages.{Messages}

-- ---- the frame reader

abbrev pub with_reader : FrameReader → Messages → Messages
with_reader r m = record { reader = r; control = m.control; «data» = m.«data» }

abbrev pub fresh_done : Messages × List ℕ → Messages × List ℕ
fresh_done x = keeps (with_reader (reader_of (head [])) x.0) (line (codes "fresh") []) x

-- what a feed reached, and the bytes that it consumed
abbrev pub event_line : Event → ℕ → List ℕ
event_line More k = line (codes "more") (field (decimal k))
event_line (Header h n) k =
    line (codes "header")
    (field (decimal k) ++ field (decimal h.session) ++ field (decimal h.ptype) ++ field (decimal h.stype)
    ++ field (decimal h.byte2) ++ field (decimal h.byte3) ++ field (decimal h.system) ++ field (decimal n))
event_line (Text n) k = line (codes "text") (field (decimal k) ++ field (decimal n))
event_line End k = line (codes "end") (field (decimal k))
event_line (Refusal e) k = line (codes "refused") (field (decimal k) ++ field (decimal e))

-- whether nothing of a piece is left to feed: all of it is consumed, or it is refused
abbrev pub is_last : Event → Bool
is_last More = true
is_last (Header h n) = false
is_last (Text n) = false
is_last End = false
is_last (Refusal e) = true

abbrev pub fed_done : Fed → Messages × List ℕ → Messages × List ℕ
fed_done f x = keeps (with_reader f.reader x.0) (event_line f.event f.consumed) x

-- a piece fed, and what is left of it again, so many times at most
unfoldable pub feeds_done : ℕ → Messages × List ℕ → List ℕ → Messages × List ℕ
feeds_done zero x s = x
feeds_done (suc n) x s =
    let f = fed_of x.0.reader s in
    cond (is_last f.event) (fed_done f x) (feeds_done n (fed_done f x) (drop f.consumed s))

abbrev pub piece_done : Messages × List ℕ → List ℕ → Messages × List ℕ
piece_done x s = feeds_done 1048578 x s

abbrev pub end_done : Messages × List ℕ → Messages × List ℕ
end_done x = says (line (codes "stream") (field (decimal (end_of x.0.reader)))) x

-- ---- a frame written into an output of so many bytes, each EE before

abbrev pub written_fields : frame.Header → List ℕ → List ℕ → List ℕ
written_fields h text out =
    let answer = written_of h (length text) (length out) in
    counted_fields answer ++ hex_field (out_after answer (frame_of h text) out) 1048576

-- header (10), room (2), text
abbrev pub written_line : List ℕ → List ℕ
written_line s =
    if_bytes 12 s
    (line (codes "frame") (written_fields (header_of (ten_in s)) (drop 12 s) (take (field_of 2 s 10) blank)))

-- ---- outboxes: control is 0, data any other

-- before anything is appended
unfoldable pub unused : List ℕ
unused = replicate 256 0xEE

abbrev pub with_control : Outbox → Messages → Messages
with_control o m = record { reader = m.reader; control = o; «data» = m.«data» }

abbrev pub with_data : Outbox → Messages → Messages
with_data o m = record { reader = m.reader; control = m.control; «data» = o }

abbrev pub with_box : ℕ → Outbox → Messages → Messages
with_box which o m = cond (eqb which 0) (with_control o m) (with_data o m)

-- used (4), then its bytes
abbrev pub box_in : List ℕ → Outbox
box_in s = record { bytes = copied unused (drop 4 s); used = field_of 4 s 0 }

-- which (1), used (4), its bytes
abbrev pub box_done : Messages × List ℕ → List ℕ → Messages × List ℕ
box_done x s =
    let which = get_or s 0 0 in
    let made = box_in (drop 1 s) in
    with_bytes 5 s x
    (keeps (with_box which made x.0) (line (codes "box") (field (decimal which) ++ field (decimal made.used))) x)

-- the used count behind an append, which stays where it is refused
abbrev pub used_after : Counted → ℕ → ℕ
used_after (Is n) used = n
used_after (Refused e) used = used

abbrev pub append_to : Outbox → List ℕ → Outbox
append_to o f =
    let answer = append_of o.bytes o.used f in
    record { bytes = append_after answer o.bytes o.used f; used = used_after answer o.used }

abbrev pub append_line : Outbox → List ℕ → List ℕ
append_line o f = line (codes "appended") (counted_fields (append_of o.bytes o.used f) ++ hex_field (append_to o f).bytes 1048576)

abbrev pub box_of : ℕ → Messages → Outbox
box_of which m = cond (eqb which 0) m.control m.«data»

-- which (1), a frame
abbrev pub append_done : Messages × List ℕ → List ℕ → Messages × List ℕ
append_done x [] = says bad_record x
append_done x (which ∷ f) =
    let o = box_of which x.0 in
    keeps (with_box which (append_to o f) x.0) (append_line o f) x

abbrev pub next_fields : Outbox → Outbox → List ℕ
next_fields c d =
    field (decimal (next_number c.bytes c.used d.bytes d.used)) ++ hex_field (next_of c.bytes c.used d.bytes d.used) 1048576

abbrev pub next_done : Messages × List ℕ → Messages × List ℕ
next_done x = says (line (codes "next") (next_fields x.0.control x.0.«data»)) x

-- 0 where a message is dropped, or the refusal's number
abbrev pub drop_number : dropped.Dropped → ℕ
drop_number (dropped.Control n) = 0
drop_number (dropped.Data n) = 0
drop_number (dropped.Refused e) = e

-- the outboxes behind a drop
abbrev pub control_behind : dropped.Dropped → Outbox → Outbox
control_behind (dropped.Control n) o = record { bytes = control_after (dropped.Control n) o.bytes o.used; used = n }
control_behind (dropped.Data n) o = o
control_behind (dropped.Refused e) o = o

abbrev pub data_behind : dropped.Dropped → Outbox → Outbox
data_behind (dropped.Control n) o = o
data_behind (dropped.Data n) o = record { bytes = data_after (dropped.Data n) o.bytes o.used; used = n }
data_behind (dropped.Refused e) o = o

abbrev pub drop_line : ℕ → Outbox → Outbox → List ℕ
drop_line number c d =
    line (codes "dropped")
    (field (decimal number) ++ field (decimal c.used) ++ field (decimal d.used) ++ hex_field c.bytes 1048576 ++ hex_field d.bytes 1048576)

abbrev pub drop_done : Messages × List ℕ → Messages × List ℕ
drop_done x =
    let c = x.0.control in
    let d = x.0.«data» in
    let answer = drop_of c.bytes c.used d.bytes d.used in
    let c' = control_behind answer c in
    let d' = data_behind answer d in
    keeps (record { reader = x.0.reader; control = c'; «data» = d' }) (drop_line (drop_number answer) c' d') x

-- ---- at the beginning: a fresh frame reader, and two outboxes of which nothing is used

abbrev pub empty : Outbox
empty = record { bytes = unused; used = 0 }

abbrev pub begun : Messages
begun = record { reader = reader_of (head []); control = empty; «data» = empty }

-- ---- a record, by its letter

abbrev pub done : Messages × List ℕ → ℕ → List ℕ → Messages × List ℕ
done x c s =
    cond (eqb c 0x66) (fresh_done x)
    (cond (eqb c 0x70) (piece_done x s)
    (cond (eqb c 0x65) (end_done x)
    (cond (eqb c 0x77) (says (written_line s) x)
    (cond (eqb c 0x62) (box_done x s)
    (cond (eqb c 0x61) (append_done x s)
    (cond (eqb c 0x6E) (next_done x)
    (cond (eqb c 0x64) (drop_done x)
    (says bad_record x))))))))

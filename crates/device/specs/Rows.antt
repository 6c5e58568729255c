-- The rows of the device, in document 01's order: each sees the device, the fresh number n, the message or the wish, and nothing of the link.
use Rattle.std.specs.Prelude.{ℕ, ◌+◌, ◌%◌, Bool, true, false, List, eqb, get_or, set}
use Rattle.wire.specs.Pick.{pick}
use Rattle.frame.specs.Header.{w_of, stream_of, data_header}
use Rattle.frame.specs.declared.Header.{Header}
use Rattle.slots.specs.Slots.{free, slot_of, found_at, is_there}
use Rattle.slots.specs.declared.Slot.{Slot}
use Rattle.slots.specs.declared.Query.TheVariants.{Free, Named, Answered}
use Rattle.text.specs.Text.{judged_of}
use Rattle.message.specs.declared.Text.{Text}
use Rattle.message.specs.declared.Text.TheVariants.{Empty, About, Wished}
use Rattle.message.specs.Send.{Send, Nothing, Message}
use Rattle.state.specs.State.{with_received, with_own, with_flag, received_freed, own_freed}
use Rattle.state.specs.declared.Device.{Device}
use Rattle.device.specs.Acted.{Acted}

-- ---- what a row answers

abbrev pub answer : ℕ → Device → Send → Acted
answer n d m = record { number = n; device = d; took = false; send = m }

-- a number alone, and nothing sent
abbrev pub told : ℕ → Device → Acted
told n d = answer n d Nothing

-- the fresh number is taken
abbrev pub takes : Device → Send → Acted
takes d m = record { number = 0; device = d; took = true; send = m }

-- data carries the device ID; only a wished primary may set W
abbrev pub sent : Device → Bool → ℕ → ℕ → ℕ → Text → Send
sent d w stream function system text = Message (data_header d.id w stream function system) text

-- ---- the slot with these system bytes

-- its place, and what it holds
abbrev pub own_at : Device → ℕ → ℕ
own_at d k = found_at (Named k) d.own

abbrev pub own_named : Device → ℕ → Slot
own_named d k = get_or d.own (own_at d k) free

abbrev pub received_at : Device → ℕ → ℕ
received_at d k = found_at (Named k) d.received

abbrev pub received_named : Device → ℕ → Slot
received_named d k = get_or d.received (received_at d k) free

-- ---- received

-- SType 7: closes the own slot with these system bytes (34) or nothing (35)
unfoldable pub rejected_of : Device → Header → Acted
rejected_of d h = pick (is_there (Named h.system) d.own) (told 34 (own_freed d (own_at d h.system))) (told 35 d)

-- an S9 of this function about this header, with the fresh number; received stream 9 data never provokes an S9: dropped, 32
unfoldable pub complain_of : Device → ℕ → Header → ℕ → Acted
complain_of d n h function = pick (eqb (stream_of h) 9) (told 32 d) (takes d (sent d false 9 function n (About h)))

-- an even function: W set, or no own slot that it answers, dropped, 32; otherwise the slot closes, delivered, 31
unfoldable pub secondary_of : Device → Header → Acted
secondary_of d h =
    pick (w_of h) (told 32 d)
    (pick (is_there (Answered h.system (stream_of h) h.byte3) d.own)
    (told 31 (own_freed d (found_at (Answered h.system (stream_of h) h.byte3) d.own)))
    (told 32 d))

-- W with these system bytes already in a received slot, dropped, 33; with no free received slot, function 0 is sent, same stream and system
-- bytes; else delivered, 30, taking a slot
unfoldable pub opened_of : Device → Header → Acted
opened_of d h =
    pick (is_there (Named h.system) d.received) (told 33 d)
    (pick (is_there Free d.received)
    (told 30 (with_received d (set d.received (found_at Free d.received) (slot_of h.system (stream_of h) h.byte3))))
    (answer 0 d (sent d false (stream_of h) 0 h.system Empty)))

-- an odd function: stream flag clear, S9F3; function 255, S9F5; text not good, S9F7
unfoldable pub primary_of : Device → ℕ → Header → List ℕ → Acted
primary_of d n h text =
    pick (get_or d.flags (stream_of h) false)
    (pick (eqb h.byte3 255) (complain_of d n h 5)
    (pick (eqb (judged_of text) 0)
    (pick (w_of h) (opened_of d h) (told 30 d))
    (complain_of d n h 7)))
    (complain_of d n h 3)

-- session ID not the device ID, S9F1
unfoldable pub data_of : Device → ℕ → Header → List ℕ → Acted
data_of d n h text =
    pick (eqb h.session d.id)
    (pick (eqb (h.byte3 % 2) 0) (secondary_of d h) (primary_of d n h text))
    (complain_of d n h 1)

-- ---- wished

-- set or clear a stream flag
unfoldable pub flag_of : Device → ℕ → Bool → Acted
flag_of d m b = told 0 (with_flag d m b)

-- a primary with the fresh number; with W it takes an own slot, 24 where they are full
unfoldable pub send_of : Device → ℕ → Bool → ℕ → ℕ → Acted
send_of d n w m f =
    pick w
    (pick (is_there Free d.own)
    (takes (with_own d (set d.own (found_at Free d.own) (slot_of n m f))) (sent d true m f n Wished))
    (told 24 d))
    (takes d (sent d false m f n Wished))

-- a reply copies the system bytes, with the same stream, and frees the slot; no received slot with these system bytes, 25
unfoldable pub replied_of : Device → ℕ → ℕ → Text → Acted
replied_of d k f text =
    pick (is_there (Named k) d.received)
    (answer 0 (received_freed d (received_at d k)) (sent d false (received_named d k).stream f k text))
    (told 25 d)

-- function one more, or 0 without text as an abort
unfoldable pub reply_of : Device → ℕ → Acted
reply_of d k = replied_of d k ((received_named d k).function + 1) Wished

unfoldable pub abort_of : Device → ℕ → Acted
abort_of d k = replied_of d k 0 Empty

-- ---- timers

-- T3 names an own slot by system bytes, frees it and sends S9F9 about its header; no such slot, 27
unfoldable pub t3_of : Device → ℕ → ℕ → Acted
t3_of d n k =
    pick (is_there (Named k) d.own)
    (takes (own_freed d (own_at d k)) (sent d false 9 9 n (About (data_header d.id true (own_named d k).stream (own_named d k).function k))))
    (told 27 d)

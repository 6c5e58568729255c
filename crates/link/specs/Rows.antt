-- The rows of the link, in document 01's order: each sees the link, and of the device at most whether a received slot is open.
use Rattle.std.specs.Prelude.{ℕ, Bool, true, false}
use Rattle.wire.specs.Pick.{pick}
use Rattle.frame.specs.declared.Header.{Header}
use Rattle.slots.specs.Slots.{no_test, test_of, runs}
use Rattle.message.specs.Message.{control, response, reject}
use Rattle.message.specs.Send.{Send, Nothing}
use Rattle.state.specs.State.{connected, selected, with_phase, with_test, numbered, gone}
use Rattle.state.specs.declared.Phase.TheVariants.{NotSelected, Selected}
use Rattle.state.specs.declared.Link.{Link}
use Rattle.link.specs.Linked.{Linked}

-- ---- what a row answers

abbrev pub answer : ℕ → Link → Send → Linked
answer n l m = record { number = n; link = l; empties = false; send = m }

-- a number alone, and nothing sent
abbrev pub told : ℕ → Link → Linked
told n l = answer n l Nothing

-- the data slots are emptied
abbrev pub leaves : Link → Send → Linked
leaves l m = record { number = 0; link = l; empties = true; send = m }

-- ---- received

-- a Reject with a reason
unfoldable pub rejecting : Link → Header → ℕ → Linked
rejecting l h reason = answer 0 l (reject h reason)

-- SType 7: closes the linktest with these system bytes (34) or nothing (35)
unfoldable pub rejected_of : Link → Header → Linked
rejected_of l h = pick (runs l.linktest h.system) (told 34 (with_test l no_test)) (told 35 l)

-- Select.req: not selected becomes selected, status 0; selected, status 1
unfoldable pub select_req_of : Link → Header → Linked
select_req_of l h = pick (selected l) (answer 0 l (response h 2 1)) (answer 0 (with_phase l Selected) (response h 2 0))

-- Deselect.req: selected, with any received slot open: status 2 (busy), and nothing changes; with none open, becomes not selected, all data slots emptied,
-- status 0; not selected, status 1
unfoldable pub deselect_req_of : Link → Bool → Header → Linked
deselect_req_of l busy h =
    pick (selected l)
    (pick busy (answer 0 l (response h 4 2)) (leaves (with_phase l NotSelected) (response h 4 0)))
    (answer 0 l (response h 4 1))

-- Linktest.req: Linktest.rsp
unfoldable pub linktest_req_of : Link → Header → Linked
linktest_req_of l h = answer 0 l (response h 6 0)

-- Linktest.rsp: closes the own linktest with these system bytes, else Reject, reason 3
unfoldable pub linktest_rsp_of : Link → Header → Linked
linktest_rsp_of l h = pick (runs l.linktest h.system) (told 0 (with_test l no_test)) (rejecting l h 3)

-- Separate.req, immediate, whatever is open: selected becomes not selected, data slots emptied; not selected, nothing
unfoldable pub separate_req_of : Link → Linked
separate_req_of l = pick (selected l) (leaves (with_phase l NotSelected) Nothing) (told 0 l)

-- ---- wished

-- connect gives not selected; when connected, 21
unfoldable pub connect_of : Link → Linked
connect_of l = pick (connected l) (told 21 l) (told 0 (with_phase l NotSelected))

-- disconnect gives not connected and empties slots and linktest
unfoldable pub disconnect_of : Link → Linked
disconnect_of l = leaves (gone l) Nothing

-- linktest and separate: session ID FFFF, the fresh number n; a linktest that already runs, 26
unfoldable pub linktest_of : Link → ℕ → Linked
linktest_of l n = pick l.linktest.running (told 26 l) (answer 0 (with_test (numbered l n) (test_of n)) (control 0xFFFF n 0 0 5))

unfoldable pub separate_of : Link → ℕ → Linked
separate_of l n = leaves (with_phase (numbered l n) NotSelected) (control 0xFFFF n 0 0 9)

-- ---- timers

-- T6 (own linktest open), T7 (not selected) and T8 (connected) close as by disconnect; a timer that does not run, 27
unfoldable pub t6_of : Link → Linked
t6_of l = pick l.linktest.running (disconnect_of l) (told 27 l)

unfoldable pub t8_of : Link → Linked
t8_of l = pick (connected l) (disconnect_of l) (told 27 l)

unfoldable pub t7_of : Link → Linked
t7_of l = pick (selected l) (told 27 l) (t8_of l)

-- The run of docs/AUDIT.md, worked out: a primary is answered two events later, one is dropped, one is emptied out. So the theorems speak of something.
use Prim.Native.Nat.{ℕ, ◌+◌, ◌^◌}
use mathlib.Core.Bool.{true, false}
use mathlib.Core.List.{List, [], ◌∷◌}
use mathlib.Core.Logic.{inl, inr}
use mathlib.Core.Option.{Option, none, some}
use mathlib.Core.Path.{◌≡◌, refl, ap, ◌∙◌}
use native.Mathlib.Omega.{arith}
use Rattle.wire.specs.Pick.{pick}
use Rattle.wire.specs.Search.{first_at}
use Rattle.frame.specs.Header.{data_header}
use Rattle.frame.specs.declared.Header.{Header}
use Rattle.slots.specs.Slots.{no_slots, no_test, passes}
use Rattle.fresh.specs.Fresh.{is_held, one_more, fresh_of}
use Rattle.fresh.proofs.Fresh.{first_here}
use Rattle.text.specs.Text.{judged_as}
use Rattle.levels.specs.Levels.{total, stack_of, levels_of, clean_of}
use Rattle.follow.specs.Fits.{fits_items}
use Rattle.reader.specs.State.{fresh}
use Rattle.reader.specs.Feed.{allows_phase as reads_phase, allows_frame, allows_end, allows as reader_allows, status, eat, fed_of}
use Rattle.message.specs.Message.{response}
use Rattle.message.specs.declared.Received.TheVariants.{SelectReq, SeparateReq, Data}
use Rattle.message.specs.declared.Text.TheVariants.{About, Wished}
use Rattle.message.specs.Send.{Send, Nothing, Message}
use Rattle.state.specs.State.{session_of}
use Rattle.state.specs.declared.Phase.{Phase}
use Rattle.state.specs.declared.Phase.TheVariants.{NotSelected, Selected}
use Rattle.allowed.specs.Slots.{allows_slots, allows_first}
use Rattle.allowed.specs.States.{allows, allows_link, allows_device, allows_open, allows_test}
use Rattle.link.specs.Rows as link
use Rattle.device.specs.Rows as device
use Rattle.session.specs.Gates.{and_then, when_connected, when_selected, when_good, when_stream, when_primary, wish_gate, event_gate, gate_of}
use Rattle.session.specs.Table.{data_of, came_of, wish_of, event_of, step_of}
use Rattle.session.specs.declared.Wish.{Wish}
use Rattle.session.specs.declared.Wish.TheVariants.{Connect, Flag, Primary, Reply}
use Rattle.session.specs.declared.Event.{Event}
use Rattle.session.specs.declared.Event.TheVariants.{Wish as on_wish, Received as on_received}
use Rattle.reached.specs.Reached.{Happened, Fits, AllFit}
use Rattle.protocol.specs.Protocol.{separate_req}
use Rattle.audit.specs.Run.{Seen, run_from, run_of}
use Rattle.audit.specs.Audit.{last_delivered, answered, Answers, Unanswered, UnansweredAfter}
use Rattle.audit.proofs.Audit.{answered_once, dropped_unanswered, separate_unanswered}

-- ---- the events, each without text

-- Select.req, and Separate.req
abbrev asking : ℕ → Header
asking stype = record { session = 0xFFFF; byte2 = 0; byte3 = 0; ptype = 0; stype = stype; system = 9 }

-- function 1 of this stream, with W and these system bytes
abbrev asked : ℕ → ℕ → Header
asked m n = record { session = 5; byte2 = 0x80 + m; byte3 = 1; ptype = 0; stype = 0; system = n }

abbrev happens : Event → Happened
happens e = record { event = e; text = [] }

abbrev events : List Happened
events =
    happens (on_wish Connect)
    ∷ happens (on_received (SelectReq (asking 1)))
    ∷ happens (on_wish (Flag 1 true))
    ∷ happens (on_received (Data (asked 1 1)))
    ∷ happens (on_received (Data (asked 1 1)))
    ∷ happens (on_wish (Reply 1))
    ∷ happens (on_wish (Primary false 1 1))
    ∷ happens (on_received (Data (asked 1 2)))
    ∷ happens (on_received (SeparateReq (asking 9)))
    ∷ happens (on_received (SelectReq (asking 1)))
    ∷ happens (on_wish (Reply 2))
    ∷ happens (on_received (Data (asked 2 3)))
    ∷ []

abbrev run : List Seen
run = run_of 5 events

-- ---- what is seen of them

-- a line of the account, the latest first: the number, what is sent, the phase in which the event ends, and the place that is answered
abbrev account : List Seen → List (ℕ × Send × Phase × Option ℕ)
account [] = []
account (x ∷ v) = (x.number, x.send, x.after, answered x v) ∷ account v

-- data of the device with this stream, function and system bytes, without W
abbrev said : ℕ → ℕ → ℕ → Header
said m f n = record { session = 5; byte2 = m; byte3 = f; ptype = 0; stype = 0; system = n }

-- what is looked through to work it out: the gates with the list behind 14, the rows of either half, and how a text without bytes is judged
the_gates : Unit {0}
unfolding and_then when_connected when_selected when_good when_stream when_primary wish_gate event_gate gate_of
    allows allows_link allows_device allows_open allows_test allows_slots allows_first
the_gates = tt

the_rows : Unit {0}
unfolding link.connect_of link.select_req_of link.separate_req_of device.data_of device.primary_of device.opened_of device.complain_of
    device.flag_of device.send_of device.reply_of device.replied_of data_header
the_rows = tt

the_text : Unit {0}
unfolding judged_as total stack_of levels_of clean_of fits_items fresh reads_phase allows_frame allows_end reader_allows status eat fed_of
the_text = tt

the_run : Unit {0}
unfolding the_gates the_rows the_text run_from session_of step_of event_of came_of data_of wish_of pick first_at passes last_delivered
the_run = tt

-- the two fresh numbers
first_number : fresh_of no_slots no_test 1 ≡ 1
unfolding fresh_of is_held the_run
first_number = first_here (is_held no_slots no_test) (2 ^ 32) 1 refl

second_number : fresh_of no_slots no_test (one_more 1) ≡ 2
unfolding fresh_of is_held one_more the_run
second_number = first_here (is_held no_slots no_test) (2 ^ 32) 2 refl

-- the account, where these numbers are taken
abbrev lines : ℕ → ℕ → List (ℕ × Send × Phase × Option ℕ)
lines one two =
    (0, Message (said 9 3 two) (About (asked 2 3)), Selected, some 11)
    ∷ (25, Nothing, Selected, none)
    ∷ (0, response (asking 1) 2 0, Selected, none)
    ∷ (0, Nothing, NotSelected, none)
    ∷ (30, Nothing, Selected, none)
    ∷ (0, Message (said 1 1 one) Wished, Selected, none)
    ∷ (0, Message (said 1 2 1) Wished, Selected, some 3)
    ∷ (33, Nothing, Selected, none)
    ∷ (30, Nothing, Selected, none)
    ∷ (0, Nothing, Selected, none)
    ∷ (0, response (asking 1) 2 0, Selected, none)
    ∷ (0, Nothing, NotSelected, none)
    ∷ []

worked_out : account run ≡ lines 1 2
unfolding the_run
worked_out = ap (λ (n : ℕ). lines n (fresh_of no_slots no_test (one_more n))) first_number ∙ ap (lines 1) second_number

-- ---- what the theorems say of it

never : {A : Type 0} → ◌≡◌ {A = ℕ} 0 1 → A
never e = absurd (omega arith)

wish_fits : (w : Wish) → Fits (on_wish w)
wish_fits w h q = never cc

select_fits : (h : Header) → Fits (on_received (SelectReq h))
select_fits h k q = never cc

separate_fits : (h : Header) → Fits (on_received (SeparateReq h))
separate_fits h k q = never cc

data_fits : (m n : ℕ) → Fits (on_received (Data (asked m n)))
data_fits m n h q = let z : asked m n ≡ h = cc in rw (← z) (omega arith)

infixr 4 ◌and◌
◌and◌ : {P Q : Type 0} → P → Q → P × Q
p and q = (p, q)

fits : AllFit events
fits =
    wish_fits _ and select_fits _ and wish_fits _ and data_fits 1 1 and data_fits 1 1 and wish_fits _ and wish_fits _ and data_fits 1 2
    and separate_fits _ and select_fits _ and wish_fits _ and data_fits 2 3 and tt

-- what goes out at place 5 answers the primary of place 3
answers : Answers run 5 3
unfolding the_run
answers = record { seen = _; earlier = _; at = inr (inr (inr (inr (inr (inr (inl (refl, refl, refl))))))); is = refl }

-- and nothing else does
nothing_else : (j : ℕ) → Answers run j 3 → j ≡ 5
nothing_else j a = answered_once 5 (omega arith) events fits 3 j 5 a answers

-- nothing answers the primary of place 4, which was dropped
nothing : Unanswered run 4
unfolding the_run
nothing = dropped_unanswered 5 (omega arith) events fits 4 _ _ (inr (inr (inr (inr (inr (inr (inr (inl (refl, refl, refl))))))))) refl

-- nothing that was received before place 8, where a Separate.req came, is answered after it
nothing_after : UnansweredAfter run 8
unfolding the_run
nothing_after =
    separate_unanswered 5 (omega arith) events fits 8 _ _ (inr (inr (inr (inl (refl, refl, refl))))) (separate_req (asking 9))

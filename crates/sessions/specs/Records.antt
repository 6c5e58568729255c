-- What each record does to the session that is kept, and what is printed; docs/CALLS.md has it in words.
use Rattle.std.specs.Prelude.{ℕ, zero, suc, Bool, false, cond, eqb, List, [], ◌++◌, length, drop, get_or, set, codes, decimal}
use Rattle.refusal.specs.Answer.{Counted, Is, Refused}
use Rattle.records.specs.Fields.{field_of, ten_in}
use Rattle.frame.specs.Header.{header_of}
use Rattle.frame.specs.Frame.{frame_of, written_of}
use Rattle.slots.specs.declared.Slot.{Slot}
use Rattle.slots.specs.Slots.{free}
use Rattle.slots.specs.declared.Linktest.{Linktest}
use Rattle.message.specs.Message.{received_of}
use Rattle.message.specs.Send.{Send, Nothing, Message}
use Rattle.message.specs.Written.{text_of}
use Rattle.state.specs.declared.Phase.{Phase}
use Rattle.state.specs.declared.Phase.TheVariants.{NotConnected, NotSelected, Selected}
use Rattle.state.specs.declared.Link.{Link}
use Rattle.state.specs.declared.Device.{Device}
use Rattle.state.specs.declared.Session.{Session}
use Rattle.state.specs.State.{made_of, with_phase, with_test, with_next, with_received, with_own, with_flag}
use Rattle.allowed.specs.States.{allows}
use Rattle.session.specs.declared.Timer.{Timer}
use Rattle.session.specs.declared.Timer.TheVariants.{T3, T6, T7, T8}
use Rattle.session.specs.declared.Wish as wished
use Rattle.session.specs.declared.Wish.TheVariants as W
use Rattle.session.specs.declared.Event as happened
use Rattle.session.specs.declared.Event.TheVariants as E
use Rattle.session.specs.Stepped.{Stepped}
use Rattle.session.specs.Table.{step_of}
use Rattle.driver.specs.Printed.{field, line, bad_record, hex_field, refused_fields}
use Rattle.driver.specs.Input.{keeps, says, with_bytes}
use Rattle.sessions.specs.declared.Sessions.{Sessions}

-- ---- a state

abbrev pub phase_words : Phase → List ℕ
phase_words NotConnected = codes "not connected"
phase_words NotSelected = codes "not selected"
phase_words Selected = codes "selected"

abbrev pub test_fields : Linktest → List ℕ
test_fields t = cond t.running (field (codes "linktest") ++ field (decimal t.system)) []

-- a taken slot: a word, its place, system bytes, stream, function
abbrev pub slot_fields : List ℕ → ℕ → Slot → List ℕ
slot_fields word place s =
    cond s.taken
    (field word ++ field (decimal place) ++ field (decimal s.system) ++ field (decimal s.stream) ++ field (decimal s.function))
    []

-- of the first k slots those that are taken, in order
unfoldable pub slots_first : List ℕ → List Slot → ℕ → List ℕ
slots_first word l zero = []
slots_first word l (suc k) = slots_first word l k ++ slot_fields word k (get_or l k free)

-- of the first k streams those whose flag is set, in order
unfoldable pub flags_first : List Bool → ℕ → List ℕ
flags_first l zero = []
flags_first l (suc k) = flags_first l k ++ cond (get_or l k false) (field (decimal k)) []

abbrev pub flags_fields : List Bool → List ℕ
flags_fields l = field (codes "flags") ++ flags_first l 128

-- the phase, the next own number, an own linktest that is open, the received slots, the own ones, the flags
abbrev pub state_fields : Session → List ℕ
state_fields s =
    field (phase_words s.link.phase) ++ field (decimal s.link.next) ++ test_fields s.link.linktest
    ++ slots_first (codes "received") s.device.received 32 ++ slots_first (codes "own") s.device.own 32 ++ flags_fields s.device.flags

-- ---- what is sent

abbrev pub written_fields : Counted → List ℕ → List ℕ
written_fields (Is n) frame = field (codes "sent") ++ hex_field frame 1048576
written_fields (Refused k) frame = refused_fields k

-- a message, the wish's text being given, as a frame in 32,768 bytes
abbrev pub sent_fields : Send → List ℕ → List ℕ
sent_fields Nothing wished = []
sent_fields (Message h t) wished =
    let text = text_of t wished in
    written_fields (written_of h (length text) 32768) (frame_of h text)

-- ---- what a record names

abbrev pub byte_of : List ℕ → ℕ → ℕ
byte_of s at = get_or s at 0

abbrev pub is_one : List ℕ → ℕ → Bool
is_one s at = eqb (byte_of s at) 1

-- wish (1), W (1), stream (1), function (1), flag (1), system bytes (4)
abbrev pub wish_in : List ℕ → wished.Wish
wish_in s =
    let kind = byte_of s 0 in
    cond (eqb kind 0) W.Connect
    (cond (eqb kind 1) W.Disconnect
    (cond (eqb kind 2) (W.Flag (byte_of s 2) (is_one s 4))
    (cond (eqb kind 3) (W.Primary (is_one s 1) (byte_of s 2) (byte_of s 3))
    (cond (eqb kind 4) (W.Reply (field_of 4 s 5))
    (cond (eqb kind 5) (W.Abort (field_of 4 s 5))
    (cond (eqb kind 6) W.Linktest W.Separate))))))

-- timer (1), system bytes (4)
abbrev pub timer_in : List ℕ → Timer
timer_in s =
    let kind = byte_of s 0 in
    cond (eqb kind 3) (T3 (field_of 4 s 1)) (cond (eqb kind 6) T6 (cond (eqb kind 7) T7 T8))

-- taken (1), system bytes (4), stream (1), function (1)
abbrev pub slot_in : List ℕ → Slot
slot_in s = record { taken = is_one s 0; system = field_of 4 s 1; stream = byte_of s 5; function = byte_of s 6 }

-- running (1), system bytes (4)
abbrev pub test_in : List ℕ → Linktest
test_in s = record { running = is_one s 0; system = field_of 4 s 1 }

-- not connected (0), not selected (1), selected (any other)
abbrev pub phase_in : ℕ → Phase
phase_in kind = cond (eqb kind 0) NotConnected (cond (eqb kind 1) NotSelected Selected)

-- ---- the lines

abbrev pub made_line : ℕ → Session → List ℕ
made_line number s = line (codes "made") (field (decimal number) ++ state_fields s)

abbrev pub event_line : Stepped → List ℕ → List ℕ
event_line t wished = line (codes "event") (field (decimal t.number) ++ state_fields t.session ++ sent_fields t.send wished)

abbrev pub changed_line : Session → List ℕ
changed_line s = line (codes "state") (field (cond (allows s) (codes "allowed") (codes "broken")) ++ state_fields s)

-- ---- the records

abbrev pub of_session : Session → Sessions
of_session s = record { session = s }

abbrev pub make_done : Sessions × List ℕ → List ℕ → Sessions × List ℕ
make_done x s = let made = made_of (field_of 2 s 0) in with_bytes 2 s x (keeps (of_session made.session) (made_line made.number made.session) x)

-- an event, with its text
unfoldable pub event_done : Sessions × List ℕ → happened.Event → List ℕ → Sessions × List ℕ
event_done x e text = let t = step_of x.0.session e text in keeps (of_session t.session) (event_line t text) x

abbrev pub receive_done : Sessions × List ℕ → List ℕ → Sessions × List ℕ
receive_done x s = with_bytes 10 s x (event_done x (E.Received (received_of (header_of (ten_in s)))) (drop 10 s))

abbrev pub wish_done : Sessions × List ℕ → List ℕ → Sessions × List ℕ
wish_done x s = with_bytes 9 s x (event_done x (E.Wish (wish_in s)) (drop 9 s))

abbrev pub timer_done : Sessions × List ℕ → List ℕ → Sessions × List ℕ
timer_done x s = with_bytes 5 s x (event_done x (E.Timer (timer_in s)) [])

-- by hand: a state is kept, and said
unfoldable pub changed_done : Sessions × List ℕ → Session → Sessions × List ℕ
changed_done x s = keeps (of_session s) (changed_line s) x

abbrev pub with_link : Session → Link → Session
with_link s l = record { link = l; device = s.device }

abbrev pub with_device : Session → Device → Session
with_device s d = record { link = s.link; device = d }

abbrev pub number_done : Sessions × List ℕ → List ℕ → Sessions × List ℕ
number_done x s =
    let kept = x.0.session in
    with_bytes 4 s x (changed_done x (with_link kept (with_next kept.link (field_of 4 s 0))))

abbrev pub phase_done : Sessions × List ℕ → List ℕ → Sessions × List ℕ
phase_done x s =
    let kept = x.0.session in
    with_bytes 1 s x (changed_done x (with_link kept (with_phase kept.link (phase_in (byte_of s 0)))))

abbrev pub linktest_done : Sessions × List ℕ → List ℕ → Sessions × List ℕ
linktest_done x s =
    let kept = x.0.session in
    with_bytes 5 s x (changed_done x (with_link kept (with_test kept.link (test_in s))))

-- which (1), place (1), a slot (7)
abbrev pub with_slot : Device → List ℕ → Device
with_slot d s =
    let at = byte_of s 1 in
    let slot = slot_in (drop 2 s) in
    cond (eqb (byte_of s 0) 0) (with_received d (set d.received at slot)) (with_own d (set d.own at slot))

abbrev pub slot_done : Sessions × List ℕ → List ℕ → Sessions × List ℕ
slot_done x s =
    let kept = x.0.session in
    with_bytes 9 s x (changed_done x (with_device kept (with_slot kept.device s)))

-- stream (1), flag (1)
abbrev pub flag_done : Sessions × List ℕ → List ℕ → Sessions × List ℕ
flag_done x s =
    let kept = x.0.session in
    with_bytes 2 s x (changed_done x (with_device kept (with_flag kept.device (byte_of s 0) (is_one s 1))))

-- at the beginning: the session of device 0
abbrev pub begun : Sessions
begun = of_session (made_of 0).session

-- m, r, w, t, n, p, l, x, g, or another letter
abbrev pub done : Sessions × List ℕ → ℕ → List ℕ → Sessions × List ℕ
done x c s =
    cond (eqb c 0x6D) (make_done x s)
    (cond (eqb c 0x72) (receive_done x s)
    (cond (eqb c 0x77) (wish_done x s)
    (cond (eqb c 0x74) (timer_done x s)
    (cond (eqb c 0x6E) (number_done x s)
    (cond (eqb c 0x70) (phase_done x s)
    (cond (eqb c 0x6C) (linktest_done x s)
    (cond (eqb c 0x78) (slot_done x s)
    (cond (eqb c 0x67) (flag_done x s)
    (says bad_record x)))))))))

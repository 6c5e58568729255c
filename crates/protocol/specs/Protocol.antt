-- What an event delivers, sends, changes and leaves open: the words of the session's theorems.
use Rattle.std.specs.Prelude.{ℕ, ◌+◌, ◌%◌, ◌<◌, Bool, true, false, cond, List, ◌⊎◌, ◌≡◌, eqb, get_or, set}
use Rattle.wire.specs.Pick.{pick}
use Rattle.frame.specs.Header.{w_of, stream_of}
use Rattle.frame.specs.declared.Header.{Header}
use Rattle.slots.specs.Slots.{free, found_at, is_there}
use Rattle.slots.specs.declared.Slot.{Slot}
use Rattle.slots.specs.declared.Query.TheVariants.{Taken, Named, Answered}
use Rattle.text.specs.Text.{judged_of}
use Rattle.message.specs.Message.{response}
use Rattle.message.specs.declared.Received.{Received}
use Rattle.message.specs.declared.Received.TheVariants.{Reject, OtherPType, OtherSType, SelectReq, SelectRsp, DeselectReq, DeselectRsp, LinktestReq}
use Rattle.message.specs.declared.Received.TheVariants.{LinktestRsp, SeparateReq, Data}
use Rattle.message.specs.declared.Text.{Text}
use Rattle.message.specs.declared.Text.TheVariants.{Empty, About, Wished}
use Rattle.message.specs.Send.{Send, Nothing, Message}
use Rattle.state.specs.State.{connected, selected, with_phase, received_freed, own_freed, emptied, received_open}
use Rattle.state.specs.declared.Phase.TheVariants.{NotConnected, NotSelected, Selected}
use Rattle.state.specs.declared.Phase.{Phase}
use Rattle.state.specs.declared.Device.{Device}
use Rattle.state.specs.declared.Session.{Session}
use Rattle.device.specs.Rows.{received_at, received_named}
use Rattle.session.specs.Table.{told, step_of}
use Rattle.session.specs.Stepped.{Stepped}
use Rattle.session.specs.declared.Timer.{Timer}
use Rattle.session.specs.declared.Timer.TheVariants.{T3, T6, T7, T8}
use Rattle.session.specs.declared.Wish.{Wish}
use Rattle.session.specs.declared.Wish.TheVariants.{Connect, Disconnect, Flag, Primary, Reply, Abort, Linktest, Separate}
use Rattle.session.specs.declared.Event.{Event}
use Rattle.session.specs.declared.Event.TheVariants.{Timer as on_timer, Wish as on_wish, Received as on_received}

-- ---- data is neither delivered nor sent

-- delivered: 30, a primary, or 31, a secondary
abbrev pub delivers : ℕ → Bool
delivers n = cond (eqb n 30) true (eqb n 31)

-- data has SType 0
abbrev pub is_data : Send → Bool
is_data Nothing = false
is_data (Message h x) = eqb h.stype 0

pub record Quiet (r : Stepped) : Type 0 where
  pub undelivered : delivers r.number ≡ false
  pub unsent : is_data r.send ≡ false

-- ---- a refusal, and a message that is dropped

-- all that does something answers 0, or delivers, or closes what was rejected, 34
abbrev pub acts : ℕ → Bool
acts n = cond (eqb n 0) true (cond (delivers n) true (eqb n 34))

pub record Unchanged (s : Session) (r : Stepped) : Type 0 where
  pub state : r.session ≡ s
  pub silent : r.send ≡ Nothing

-- ---- a reply that goes out

-- the received slot at a place
abbrev pub received_slot : Session → ℕ → Slot
received_slot s i = get_or s.device.received i free

-- the received primary with these system bytes
abbrev pub primary_at : Session → ℕ → Slot
primary_at s n = received_named s.device n

-- another device, and nothing else changes
abbrev pub with_device : Session → Device → Session
with_device s d = record { link = s.link; device = d }

-- the reply answers the received primary with system bytes n, with function f, and closes it; after it, a reply is 25, and an abort
pub record Replied (s : Session) (n f : ℕ) (text : Text) (r : Stepped) : Type 0 where
  pub header : Header
  pub sends : r.send ≡ Message header text
  pub is_open : (primary_at s n).taken ≡ true
  pub named : (primary_at s n).system ≡ n
  pub system : header.system ≡ n
  pub stream : stream_of header ≡ (primary_at s n).stream
  pub function : header.byte3 ≡ f
  pub no_w : w_of header ≡ false
  pub closes : r.session ≡ with_device s (received_freed s.device (received_at s.device n))
  pub closed : is_there (Named n) r.session.device.received ≡ false
  pub not_again : (later : List ℕ) → judged_of later ≡ 0 → step_of r.session (on_wish (Reply n)) later ≡ told 25 r.session
  pub nor_aborted : (later : List ℕ) → step_of r.session (on_wish (Abort n)) later ≡ told 25 r.session

-- ---- a secondary that is delivered

-- the place of the own primary that a header answers
abbrev pub answered_at : Session → Header → ℕ
answered_at s h = found_at (Answered h.system (stream_of h) h.byte3) s.device.own

-- the own primary at a place
abbrev pub own_of : Session → ℕ → Slot
own_of s i = get_or s.device.own i free

-- an open primary with the header's system bytes and stream, and function one less, or the header's function 0
pub record Awaits (h : Header) (p : Slot) : Type 0 where
  pub is_open : p.taken ≡ true
  pub system : p.system ≡ h.system
  pub stream : p.stream ≡ stream_of h
  pub function : (p.function + 1 ≡ h.byte3) ⊎ (h.byte3 ≡ 0)

-- the secondary answers an own primary that awaits it, and closes it
pub record Delivered (s : Session) (h : Header) (r : Stepped) : Type 0 where
  pub place : answered_at s h < 32
  pub awaits : Awaits h (own_of s (answered_at s h))
  pub no_w : w_of h ≡ false
  pub closes : r.session ≡ with_device s (own_freed s.device (answered_at s h))
  pub closed : is_there (Named h.system) r.session.device.own ≡ false
  pub silent : r.send ≡ Nothing

-- of two places of own primaries, the open one with the secondary's system bytes is closed, and whatever is at the other is as it was
abbrev pub NotSwapped : Session → Header → Stepped → Type 0
NotSwapped s h r =
    (i j : ℕ) → i < 32 → (i ≡ j → ⊥) → (own_of s i).taken ≡ true → (own_of s i).system ≡ h.system
    → (own_of r.session i ≡ free) × (own_of r.session j ≡ own_of s j)

-- ---- what is left open

pub record NoneOpen (s : Session) : Type 0 where
  pub received : received_open s.device ≡ false
  pub own : is_there Taken s.device.own ≡ false

-- not connected: no slot and no linktest is open, and the next own number is as it was
pub record Gone (s t : Session) : Type 0 where
  pub phase : t.link.phase ≡ NotConnected
  pub slots : NoneOpen t
  pub linktest : t.link.linktest.running ≡ false
  pub next : t.link.next ≡ s.link.next

-- disconnect, T6, T7 and T8
pub data Disconnects : Event → Type 0 where
  disconnect : Disconnects (on_wish Disconnect)
  t6 : Disconnects (on_timer T6)
  t7 : Disconnects (on_timer T7)
  t8 : Disconnects (on_timer T8)

-- selected is left at once: the number is 0, the phase not selected, and no slot open
pub record AtOnce (r : Stepped) : Type 0 where
  pub number : r.number ≡ 0
  pub phase : r.session.link.phase ≡ NotSelected
  pub slots : NoneOpen r.session

-- separate, received or wished
pub data Separates : Event → Type 0 where
  separate_req : (h : Header) → Separates (on_received (SeparateReq h))
  separate : Separates (on_wish Separate)

-- Deselect.req, and separate
pub data Deselects : Event → Type 0 where
  deselect_req : (h : Header) → Deselects (on_received (DeselectReq h))
  separates : {e : Event} → Separates e → Deselects e

-- ---- Deselect.req while work is open

-- status 2 (busy), and nothing changes
pub record Busy (s : Session) (h : Header) (r : Stepped) : Type 0 where
  pub number : r.number ≡ 0
  pub status : r.send ≡ response h 4 2
  pub unchanged : r.session ≡ s

-- status 0, not selected, all data slots emptied, and nothing else changes
pub record Done (s : Session) (h : Header) (r : Stepped) : Type 0 where
  pub number : r.number ≡ 0
  pub status : r.send ≡ response h 4 0
  pub leaves : r.session ≡ record { link = with_phase s.link NotSelected; device = emptied s.device }

-- each received slot is as it was, or none was taken
abbrev pub LosesNone : Session → Session → Type 0
LosesNone s t = ((i : ℕ) → received_slot t i ≡ received_slot s i) ⊎ ((i : ℕ) → i < 32 → (received_slot s i).taken ≡ false)

-- ---- the phase after an event

-- connect gives not selected; disconnect, not connected; separate, where it is selected, not selected
abbrev pub phase_wished : Session → Wish → Phase
phase_wished s Connect = pick (connected s.link) s.link.phase NotSelected
phase_wished s Disconnect = NotConnected
phase_wished s (Flag m b) = s.link.phase
phase_wished s (Primary w m f) = s.link.phase
phase_wished s (Reply k) = s.link.phase
phase_wished s (Abort k) = s.link.phase
phase_wished s Linktest = s.link.phase
phase_wished s Separate = pick (selected s.link) NotSelected s.link.phase

-- T6 (own linktest open), T7 (not selected) and T8 (connected) give not connected
abbrev pub phase_timed : Session → Timer → Phase
phase_timed s (T3 k) = s.link.phase
phase_timed s T6 = pick s.link.linktest.running NotConnected s.link.phase
phase_timed s T7 = pick (selected s.link) s.link.phase NotConnected
phase_timed s T8 = NotConnected

-- Select.req, when connected, gives selected; where it is selected Deselect.req gives not selected unless a received slot is open, and Separate.req at once
abbrev pub phase_came : Session → Received → Phase
phase_came s (Reject h) = s.link.phase
phase_came s (OtherPType h) = s.link.phase
phase_came s (OtherSType h) = s.link.phase
phase_came s (SelectReq h) = pick (connected s.link) Selected s.link.phase
phase_came s (SelectRsp h) = s.link.phase
phase_came s (DeselectReq h) = pick (selected s.link) (pick (received_open s.device) s.link.phase NotSelected) s.link.phase
phase_came s (DeselectRsp h) = s.link.phase
phase_came s (LinktestReq h) = s.link.phase
phase_came s (LinktestRsp h) = s.link.phase
phase_came s (SeparateReq h) = pick (selected s.link) NotSelected s.link.phase
phase_came s (Data h) = s.link.phase

abbrev pub phase_after : Session → Event → Phase
phase_after s (on_timer t) = phase_timed s t
phase_after s (on_wish w) = phase_wished s w
phase_after s (on_received r) = phase_came s r

-- ---- flags and the device ID

-- the flags are as they were, or a wish set or cleared one
pub data FlagsBy (e : Event) (f g : List Bool) : Type 0 where
  as_they_were : g ≡ f → FlagsBy e f g
  wished : (m : ℕ) (b : Bool) → e ≡ on_wish (Flag m b) → g ≡ set f m b → FlagsBy e f g

-- ---- what data that is sent carries

-- the device ID; and W only where a primary with W is wished
pub record Carries (id : ℕ) (e : Event) (h : Header) : Type 0 where
  pub device : h.session ≡ id
  pub w : w_of h ≡ true → (m : ℕ) × (f : ℕ) × (e ≡ on_wish (Primary true m f))

-- what is sent does, where it is data
abbrev pub DataCarries : ℕ → Event → Send → Type 0
DataCarries id e Nothing = Unit {0}
DataCarries id e (Message h t) = h.stype ≡ 0 → Carries id e h

-- ---- received stream 9 data

-- an S9 is about a header
abbrev pub is_about : Send → Bool
is_about Nothing = false
is_about (Message h Empty) = false
is_about (Message h (About p)) = true
is_about (Message h Wished) = false

-- no S9 about a header is sent, and no fresh number is taken
pub record Unprovoked (s : Session) (r : Stepped) : Type 0 where
  pub unsent : is_about r.send ≡ false
  pub next : r.session.link.next ≡ s.link.next

-- ---- a primary that is delivered

-- the event began in selected; the session ID is the device ID; the function is odd, and not 255; the stream's flag is set; the text is good
pub record Heard (s : Session) (h : Header) (text : List ℕ) : Type 0 where
  pub in_selected : selected s.link ≡ true
  pub mine : h.session ≡ s.device.id
  pub odd : eqb (h.byte3 % 2) 0 ≡ false
  pub flag : get_or s.device.flags (stream_of h) false ≡ true
  pub not_255 : h.byte3 ≡ 255 → ⊥
  pub good : judged_of text ≡ 0

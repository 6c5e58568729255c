-- Which received primary an outgoing message answers, told from a run alone, and what that message is.
use Rattle.std.specs.Prelude.{ℕ, ◌+◌, ◌%◌, ◌<◌, Bool, true, false, not, cond, List, [], ◌∷◌, ◌≡◌, eqb, length}
use Rattle.std.proofs.Math.Option.{Option, none, some}
use Rattle.frame.specs.Header.{w_of, stream_of}
use Rattle.frame.specs.declared.Header.{Header}
use Rattle.slots.specs.Slots.{is_primary}
use Rattle.message.specs.declared.Received.{Received}
use Rattle.message.specs.declared.Received.TheVariants.{Reject, OtherPType, OtherSType, SelectReq, SelectRsp, DeselectReq, DeselectRsp, LinktestReq}
use Rattle.message.specs.declared.Received.TheVariants.{LinktestRsp, SeparateReq, Data}
use Rattle.message.specs.declared.Text.TheVariants.{Empty, About, Wished}
use Rattle.message.specs.Send.{Send, Message}
use Rattle.session.specs.declared.Timer.TheVariants.{T3}
use Rattle.session.specs.declared.Wish.{Wish}
use Rattle.session.specs.declared.Wish.TheVariants.{Connect, Disconnect, Flag, Primary, Reply, Abort, Linktest, Separate}
use Rattle.session.specs.declared.Event.{Event}
use Rattle.session.specs.declared.Event.TheVariants.{Timer as on_timer, Wish as on_wish, Received as on_received}
use Rattle.protocol.specs.Protocol.{is_data}
use Rattle.audit.specs.Run.{Seen, SeenAt}

-- ---- what an event is to the account

-- a received primary with this header; a reply or an abort that is wished to these system bytes; neither
pub data Entry : Type 0 where
  primary : Header → Entry
  reply : ℕ → Entry
  neither : Entry

-- an odd function
abbrev pub is_odd : Header → Bool
is_odd h = not (eqb (h.byte3 % 2) 0)

-- a received primary is data (PType 0, SType 0) with an odd function
abbrev pub entry_in : Received → Entry
entry_in (Reject h) = neither
entry_in (OtherPType h) = neither
entry_in (OtherSType h) = neither
entry_in (SelectReq h) = neither
entry_in (SelectRsp h) = neither
entry_in (DeselectReq h) = neither
entry_in (DeselectRsp h) = neither
entry_in (LinktestReq h) = neither
entry_in (LinktestRsp h) = neither
entry_in (SeparateReq h) = neither
entry_in (Data h) = cond (is_odd h) (primary h) neither

abbrev pub entry_wished : Wish → Entry
entry_wished Connect = neither
entry_wished Disconnect = neither
entry_wished (Flag m b) = neither
entry_wished (Primary w m f) = neither
entry_wished (Reply n) = reply n
entry_wished (Abort n) = reply n
entry_wished Linktest = neither
entry_wished Separate = neither

abbrev pub entry_of : Event → Entry
entry_of (on_timer t) = neither
entry_of (on_wish w) = entry_wished w
entry_of (on_received r) = entry_in r

-- ---- which primary a message answers

-- a primary with W and these system bytes
abbrev pub asks : Entry → ℕ → Bool
asks (primary h) n = cond (w_of h) (eqb h.system n) false
asks (reply k) n = false
asks neither n = false

-- such a primary is delivered, 30
abbrev pub delivered : Seen → ℕ → Bool
delivered x n = cond (eqb x.number 30) (asks (entry_of x.event) n) false

-- the place of the last such
unfoldable pub last_delivered : List Seen → ℕ → Option ℕ
last_delivered [] n = none
last_delivered (y ∷ v) n = cond (delivered y n) (some (length v)) (last_delivered v n)

-- what is sent after v answers, at a received primary, that one; at a reply or an abort, the last that was delivered with the system bytes that are wished;
-- at any other event, none
abbrev pub answers_at : Entry → List Seen → Option ℕ
answers_at (primary h) v = some (length v)
answers_at (reply n) v = last_delivered v n
answers_at neither v = none

-- the place of the primary that data which is sent at x, after v, answers; what is no data answers none
abbrev pub answered : Seen → List Seen → Option ℕ
answered x v = cond (is_data x.send) (answers_at (entry_of x.event) v) none

-- what is sent at place j answers the primary received at place i
abbrev pub Answers : List Seen → ℕ → ℕ → Type 0
Answers u j i = SeenAt u j (λ x v. answered x v ≡ some i)

-- nothing answers the primary received at place i
abbrev pub Unanswered : List Seen → ℕ → Type 0
Unanswered u i = (j : ℕ) → Answers u j i → ⊥

-- nothing that was received before place k is answered after it
abbrev pub UnansweredAfter : List Seen → ℕ → Type 0
UnansweredAfter u k = (i j : ℕ) → i < k → k < j → Answers u j i → ⊥

-- ---- what suits a primary as an answer

-- the header of an SxFy: PType 0, SType 0, this W bit, this stream and this function
pub record SxFy (m : Header) (w : Bool) (x y : ℕ) : Type 0 where
  pub ptype : m.ptype ≡ 0
  pub stype : m.stype ≡ 0
  pub w_bit : w_of m ≡ w
  pub stream : stream_of m ≡ x
  pub function : m.byte3 ≡ y

-- to a primary with W: its stream, this function and no W, its session ID and its system bytes
pub record Replies (p m : Header) (y : ℕ) : Type 0 where
  pub asked : w_of p ≡ true
  pub is : SxFy m false (stream_of p) y
  pub session : m.session ≡ p.session
  pub system : m.system ≡ p.system

-- F1, F3, F5, F7
pub data Complaint : ℕ → Type 0 where
  f1 : Complaint 1
  f3 : Complaint 3
  f5 : Complaint 5
  f7 : Complaint 7

-- its secondary, at a reply; its function 0, at an abort or at its own event; or the session's own S9F1, F3, F5 or F7 about its header, at its own event
pub data Suits (p : Header) (e : Event) (x : Send) : Type 0 where
  secondary : (m : Header) → e ≡ on_wish (Reply p.system) → x ≡ Message m Wished → Replies p m (p.byte3 + 1) → Suits p e x
  aborted : (m : Header) → e ≡ on_wish (Abort p.system) → x ≡ Message m Empty → Replies p m 0 → Suits p e x
  function_0 : (m : Header) → e ≡ on_received (Data p) → x ≡ Message m Empty → Replies p m 0 → Suits p e x
  complaint : (m : Header) (y : ℕ) → e ≡ on_received (Data p) → x ≡ Message m (About p) → SxFy m false 9 y → Complaint y → Suits p e x

-- at place i a primary with header p is received
abbrev pub ReceivedAt : List Seen → ℕ → Header → Type 0
ReceivedAt u i p = SeenAt u i (λ x v. entry_of x.event ≡ primary p)

-- at place i a primary is received, and what is sent at x suits it
pub record SuitsAt (u : List Seen) (i : ℕ) (x : Seen) : Type 0 where
  pub header : Header
  pub received : ReceivedAt u i header
  pub suits : Suits header x.event x.send

-- ---- data that answers no received primary

-- an own primary; S9F9, about a header with the system bytes that T3 names; S9F1, about a received secondary
pub data Unasked (e : Event) (x : Send) : Type 0 where
  own_primary : (w : Bool) (m f : ℕ) (h : Header) → e ≡ on_wish (Primary w m f) → x ≡ Message h Wished → is_primary m f ≡ true → SxFy h w m f → Unasked e x
  s9f9 : (n : ℕ) (m p : Header) → e ≡ on_timer (T3 n) → x ≡ Message m (About p) → SxFy m false 9 9 → p.system ≡ n → Unasked e x
  s9f1 : (h m : Header) → e ≡ on_received (Data h) → is_odd h ≡ false → x ≡ Message m (About h) → SxFy m false 9 1 → Unasked e x

-- ---- what is dropped

-- dropped: 32, 33
abbrev pub dropped : ℕ → Bool
dropped n = cond (eqb n 32) true (eqb n 33)

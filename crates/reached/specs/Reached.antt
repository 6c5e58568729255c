-- The states that events reach from a state, and that each open message has system bytes of its own.
use Rattle.std.specs.Prelude.{ℕ, ◌^◌, ◌<◌, true, false, List, [], ◌∷◌, ◌≡◌, length, get_or}
use Rattle.wire.specs.Lists.{Each}
use Rattle.frame.specs.declared.Header.{Header}
use Rattle.slots.specs.Slots.{free}
use Rattle.fresh.specs.Fresh.{is_held}
use Rattle.slots.specs.declared.Slot.{Slot}
use Rattle.message.specs.declared.Received.TheVariants.{Data}
use Rattle.state.specs.State.{fresh}
use Rattle.state.specs.declared.Session.{Session}
use Rattle.session.specs.Table.{step_of}
use Rattle.session.specs.declared.Event.{Event}
use Rattle.session.specs.declared.Event.TheVariants.{Received as on_received}

-- an event, and the text that comes with it
pub record Happened : Type 0 where
  pub event : Event
  pub text : List ℕ

-- the state after events, one behind another
unfoldable pub after : Session → List Happened → Session
after s [] = s
after s (e ∷ l) = after (step_of s e.event e.text).session l

-- ---- what the code's types say and a definition's numbers and lists do not

-- byte 3 of received data is a byte
abbrev pub Fits : Event → Type 0
Fits e = (h : Header) → e ≡ on_received (Data h) → h.byte3 < 2 ^ 8

abbrev pub AllFit : List Happened → Type 0
AllFit l = Each (λ (e : Happened). Fits e.event) l

-- each table has 32 slots, and the next own number four bytes
pub record Sized (s : Session) : Type 0 where
  pub received : length s.device.received ≡ 32
  pub own : length s.device.own ≡ 32
  pub next : s.link.next < 2 ^ 32

-- ---- system bytes of its own

-- two taken slots with the same system bytes are one
abbrev pub Apart : List Slot → Type 0
Apart l =
    (i j : ℕ) → i < 32 → j < 32 → (get_or l i free).taken ≡ true → (get_or l j free).taken ≡ true → (get_or l i free).system ≡ (get_or l j free).system → i ≡ j

pub record OneEach (s : Session) : Type 0 where
  -- the fresh number is held by no own slot and not by the linktest
  pub fresh_free : is_held s.device.own s.link.linktest (fresh s) ≡ false
  -- no two open own messages share system bytes
  pub own : Apart s.device.own
  pub test : s.link.linktest.running ≡ true → (i : ℕ) → i < 32 → (get_or s.device.own i free).taken ≡ true
      → (get_or s.device.own i free).system ≡ s.link.linktest.system → ⊥
  -- no two open received primaries do
  pub received : Apart s.device.received

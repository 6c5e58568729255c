-- The session's state, as it is made, and its two halves, the link and the device, changed a part at a time: nothing else changes.
use Rattle.std.specs.Prelude.{ℕ, Bool, true, false, cond, List, leb, set, replicate}
use Rattle.slots.specs.Slots.{free, no_slots, no_test, is_there}
use Rattle.fresh.specs.Fresh.{one_more, fresh_of}
use Rattle.slots.specs.declared.Slot.{Slot}
use Rattle.slots.specs.declared.Linktest.{Linktest}
use Rattle.slots.specs.declared.Query.TheVariants.{Taken}
use Rattle.state.specs.declared.Phase.{Phase}
use Rattle.state.specs.declared.Phase.TheVariants.{NotConnected, NotSelected, Selected}
use Rattle.state.specs.declared.Link.{Link}
use Rattle.state.specs.declared.Device.{Device}
use Rattle.state.specs.declared.Session.{Session}
use Rattle.refusal.specs.Answer.{number_in}
use Rattle.state.specs.declared.Made as answered

-- the session of a device: not connected, the next own number 1, no slot taken, no linktest, all flags clear
unfoldable pub session_of : ℕ → Session
session_of id =
    record {
      link = record { phase = NotConnected; linktest = no_test; next = 1 };
      device = record { id = id; flags = replicate 128 false; received = no_slots; own = no_slots };
    }

-- what is made: the number, 0 or a refusal's, and the session
pub record Made : Type 0 where
  pub number : ℕ
  pub session : Session

-- a made session's answer, in numbers
abbrev pub made_in : answered.Made → Made
made_in r = record { number = number_in r.answer; session = r.session }

-- a device ID above 32,767 is 28
unfoldable pub made_of : ℕ → Made
made_of id = record { number = cond (leb id 32767) 0 28; session = session_of id }

-- the fresh number, held by no own slot nor the linktest
abbrev pub fresh : Session → ℕ
fresh s = fresh_of s.device.own s.link.linktest s.link.next

-- ---- the link

abbrev pub is_connected : Phase → Bool
is_connected NotConnected = false
is_connected NotSelected = true
is_connected Selected = true

abbrev pub is_selected : Phase → Bool
is_selected NotConnected = false
is_selected NotSelected = false
is_selected Selected = true

abbrev pub connected : Link → Bool
connected l = is_connected l.phase

abbrev pub selected : Link → Bool
selected l = is_selected l.phase

abbrev pub with_phase : Link → Phase → Link
with_phase l p = record { phase = p; linktest = l.linktest; next = l.next }

abbrev pub with_test : Link → Linktest → Link
with_test l t = record { phase = l.phase; linktest = t; next = l.next }

abbrev pub with_next : Link → ℕ → Link
with_next l n = record { phase = l.phase; linktest = l.linktest; next = n }

-- a fresh number is taken: the next own number is one more
abbrev pub numbered : Link → ℕ → Link
numbered l n = with_next l (one_more n)

-- not connected, the linktest emptied; the next own number stays
abbrev pub gone : Link → Link
gone l = with_test (with_phase l NotConnected) no_test

-- ---- the device

abbrev pub with_received : Device → List Slot → Device
with_received d l = record { id = d.id; flags = d.flags; received = l; own = d.own }

abbrev pub with_own : Device → List Slot → Device
with_own d l = record { id = d.id; flags = d.flags; received = d.received; own = l }

abbrev pub with_flag : Device → ℕ → Bool → Device
with_flag d m b = record { id = d.id; flags = set d.flags m b; received = d.received; own = d.own }

-- the slot at a place freed
abbrev pub received_freed : Device → ℕ → Device
received_freed d at = with_received d (set d.received at free)

abbrev pub own_freed : Device → ℕ → Device
own_freed d at = with_own d (set d.own at free)

-- the data slots emptied
abbrev pub emptied : Device → Device
emptied d = with_own (with_received d no_slots) no_slots

-- any received slot open
abbrev pub received_open : Device → Bool
received_open d = is_there Taken d.received

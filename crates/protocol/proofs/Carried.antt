-- Flags change by flag wishes alone, and the device ID never; every data message carries the device ID, and W only where a primary with W is wished.
use Prim.Native.Nat.{ℕ, ◌≤◌}
use mathlib.Core.Bool.{Bool, true, false, false≢true}
use mathlib.Core.List.{List}
use mathlib.Core.Path.{◌≡◌, refl, ap, sym, ◌∙◌}
use borrow.Author.Tests.{eq-eqb}
use Rattle.wire.specs.Pick.{pick}
use Rattle.wire.proofs.Pick.{by_pick}
use Rattle.frame.specs.Header.{data_header}
use Rattle.frame.specs.declared.Header.{Header}
use Rattle.frame.proofs.Laws.{data_w}
use Rattle.message.specs.declared.Text.{Text}
use Rattle.message.specs.Send.{Send, Nothing, Message}
use Rattle.state.specs.State.{fresh, with_flag}
use Rattle.state.specs.declared.Device.{Device}
use Rattle.state.specs.declared.Link.{Link}
use Rattle.state.specs.declared.Session.{Session}
use Rattle.allowed.specs.States.{allows}
use Rattle.link.specs.Linked.{Linked}
use Rattle.device.specs.Rows as device
use Rattle.device.specs.Acted.{Acted}
use Rattle.device.proofs.Rows.{Ends, drops, complains, closes, aborts, opens, hears, data_ends}
use Rattle.session.specs.Table.{told, wish_of, event_of, step_of}
use Rattle.session.specs.Stepped.{Stepped}
use Rattle.session.specs.declared.Wish.TheVariants.{Flag, Primary}
use Rattle.session.specs.declared.Event.{Event}
use Rattle.session.specs.declared.Event.TheVariants.{Wish as on_wish}
use Rattle.session.proofs.Gates.{let_through}
use Rattle.session.proofs.Rows.{DeviceRow, rejected_own_row, data_row, flag_row, send_row, reply_row, abort_row, t3_row}
use Rattle.session.proofs.Rows.{Step, of_link_row, of_device_row, stops, step}
use Rattle.protocol.specs.Protocol.{is_data, with_device, FlagsBy, as_they_were, wished, Carries, DataCarries}
use Rattle.protocol.proofs.Halves.{emptied_id, emptied_flags}
use Rattle.protocol.proofs.Rows.{LinkDoes, link_stays, link_acts, link_does}

-- ---- a row of the device

-- the device ID stays, flags change by a flag wish alone, and data that is sent carries what it must
record Keeps (d : Device) (e : Event) (a : Acted) : Type 0 where
  id : a.device.id ≡ d.id
  flags : FlagsBy e d.flags a.device.flags
  carries : DataCarries d.id e a.send

module _ (d : Device) {e : Event} where
  either : (b : Bool) (x y : Acted) → Keeps d e x → Keeps d e y → Keeps d e (pick b x y)
  either b x y p q = by_pick (Keeps d e) b x y (λ _. p) (λ _. q)

  -- nothing is sent
  silent : {a : Acted} → a.device.id ≡ d.id → a.device.flags ≡ d.flags → a.send ≡ Nothing → Keeps d e a
  silent p q m = record { id = p; flags = as_they_were q; carries = rw m tt }

  carried : (w : Bool) (m f n : ℕ) → (w ≡ true → e ≡ on_wish (Primary true m f)) → Carries d.id e (data_header d.id w m f n)
  unfolding data_header
  carried w m f n wish = record { device = refl; w = λ z. (m, f, wish (sym (data_w d.id w m f n) ∙ z)) }

  -- data is sent without W
  sends : {a : Acted} → a.device.id ≡ d.id → a.device.flags ≡ d.flags
      → (m f n : ℕ) (t : Text) → a.send ≡ device.sent d false m f n t → Keeps d e a
  sends p q m f n t is = record { id = p; flags = as_they_were q; carries = rw is (λ _. carried false m f n (λ z. absurd (false≢true z))) }

module _ (d : Device) (n : ℕ) where
  data_keeps : {e : Event} (h : Header) (text : List ℕ) (a : Acted) → Ends d n h text a → Keeps d e a
  data_keeps h text a (drops p) = silent d refl refl refl
  data_keeps h text a (complains p q) = sends d refl refl _ _ _ _ refl
  data_keeps h text a (closes p q) = silent d refl refl refl
  data_keeps h text a (aborts p q) = sends d refl refl _ _ _ _ refl
  data_keeps h text a (opens g w u room) = silent d refl refl refl
  data_keeps h text a (hears g w) = silent d refl refl refl

  send_keeps : (w : Bool) (m f : ℕ) → Keeps d (on_wish (Primary w m f)) (device.send_of d n w m f)
  unfolding device.send_of
  send_keeps w m f =
      by_pick (Keeps d (on_wish (Primary w m f))) w _ _
      (λ z. either d _ _ _
      (record { id = refl; flags = as_they_were refl; carries = λ _. carried d true m f n (λ _. ap (λ (b : Bool). on_wish (Primary b m f)) z) })
      (silent d refl refl refl))
      (λ _. sends d refl refl _ _ _ _ refl)

device_keeps : (s : Session) (text : List ℕ) (e : Event) (a : Acted) → DeviceRow s text e a → Keeps s.device e a
unfolding device.rejected_of device.flag_of device.reply_of device.abort_of device.replied_of device.t3_of
device_keeps s text e a (rejected_own_row h) = either s.device _ _ _ (silent s.device refl refl refl) (silent s.device refl refl refl)
device_keeps s text e a (data_row z h) = data_keeps s.device (fresh s) h text a (data_ends s.device (fresh s) h text)
device_keeps s text e a (flag_row m b p) = record { id = refl; flags = wished m b refl refl; carries = tt }
device_keeps s text e a (send_row z w m f p) = send_keeps s.device (fresh s) w m f
device_keeps s text e a (reply_row z k) = either s.device _ _ _ (sends s.device refl refl _ _ _ _ refl) (silent s.device refl refl refl)
device_keeps s text e a (abort_row z k) = either s.device _ _ _ (sends s.device refl refl _ _ _ _ refl) (silent s.device refl refl refl)
device_keeps s text e a (t3_row k) = either s.device _ _ _ (sends s.device refl refl _ _ _ _ refl) (silent s.device refl refl refl)

-- ---- a row of the link

no_data : (id : ℕ) (e : Event) (x : Send) → is_data x ≡ false → DataCarries id e x
no_data id e Nothing p = tt
no_data id e (Message h t) p = λ z. absurd (false≢true (sym p ∙ eq-eqb h.stype 0 z))

control_alone : (l : Link) (x : Linked) → LinkDoes l x → is_data x.send ≡ false
control_alone l x (link_stays n z is) = ap (λ (y : Linked). is_data y.send) is
control_alone l x (link_acts a z y) = y

-- ---- every event

record KeepsAll (s : Session) (e : Event) (r : Stepped) : Type 0 where
  id : r.session.device.id ≡ s.device.id
  flags : FlagsBy e s.device.flags r.session.device.flags
  carries : DataCarries s.device.id e r.send

keeps_all : (s : Session) (text : List ℕ) (e : Event) (r : Stepped) → Step s text e r → KeepsAll s e r
keeps_all s text e r (of_link_row {x = x} ok p row) =
    record {
      id = emptied_id x.empties s.device;
      flags = as_they_were (emptied_flags x.empties s.device);
      carries = no_data s.device.id e x.send (control_alone s.link x (link_does s e x row));
    }
keeps_all s text e r (of_device_row {a = a} ok row) =
    let k = device_keeps s text e a row in record { id = k.id; flags = k.flags; carries = k.carries }
keeps_all s text e r (stops z g) = record { id = refl; flags = as_they_were refl; carries = tt }

module _ (s : Session) (e : Event) (text : List ℕ) where
  all : KeepsAll s e (step_of s e text)
  all = keeps_all s text e (step_of s e text) (step s e text)

  -- THE DEVICE ID NEVER CHANGES.
  pub id_stays : (step_of s e text).session.device.id ≡ s.device.id
  id_stays = all.id

  -- FLAGS CHANGE BY FLAG WISHES ALONE.
  pub flags_by_wish : FlagsBy e s.device.flags (step_of s e text).session.device.flags
  flags_by_wish = all.flags

  -- EVERY DATA MESSAGE CARRIES THE DEVICE ID, AND W ONLY WHERE A PRIMARY WITH W IS WISHED.
  pub data_carries : DataCarries s.device.id e (step_of s e text).send
  data_carries = all.carries

-- A FLAG WISH FOR A STREAM OF 1 TO 127 SETS OR CLEARS ITS FLAG, IN ANY PHASE, and changes nothing else.
pub flag_set : (s : Session) (m : ℕ) (b : Bool) (text : List ℕ) → allows s ≡ true → 1 ≤ m → m ≤ 127
    → step_of s (on_wish (Flag m b)) text ≡ told 0 (with_device s (with_flag s.device m b))
unfolding event_of wish_of device.flag_of
flag_set s m b text ok low high = let_through s (on_wish (Flag m b)) text ok (low, high)

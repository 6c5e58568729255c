-- The list allows a state where each of its tests holds, and only there.
use mathlib.Core.Bool.{true, false, not, cond}
use mathlib.Core.Path.{◌≡◌}
use Prim.Native.Nat.{◌≤◌}
use borrow.Author.Tests.{le-leb, leb-true, not-true}
use lib.Dec.{leb}
use lib.ListN.{get_or}
use Rattle.wire.proofs.Choice.{both}
use Rattle.state.specs.declared.Device.{Device}
use Rattle.state.specs.declared.Session.{Session}
use Rattle.allowed.specs.Slots.{allows_slots}
use Rattle.allowed.specs.States.{allows_link, allows_device, allows_open, allows_test, allows}

-- what the list says of a device
pub record DeviceHolds (d : Device) : Type 0 where
  pub id : d.id ≤ 32767
  pub flag : get_or d.flags 0 false ≡ false
  pub received : allows_slots d.received ≡ true
  pub own : allows_slots d.own ≡ true

module _ (d : Device) where
  pub device_holds : allows_device d ≡ true → DeviceHolds d
  unfolding allows_device
  device_holds e =
      let a = both (leb d.id 32767) (cond (not (get_or d.flags 0 false)) (cond (allows_slots d.received) (allows_slots d.own) false) false) e in
      let b = both (not (get_or d.flags 0 false)) (cond (allows_slots d.received) (allows_slots d.own) false) a.1 in
      let c = both (allows_slots d.received) (allows_slots d.own) b.1 in
      record { id = leb-true d.id 32767 a.0; flag = not-true (get_or d.flags 0 false) b.0; received = c.0; own = c.1 }

  pub device_allowed : DeviceHolds d → allows_device d ≡ true
  unfolding allows_device
  device_allowed h = rw (le-leb d.id 32767 h.id, h.flag, h.received) h.own

-- what it says of a state
pub record Holds (s : Session) : Type 0 where
  pub link : allows_link s.link ≡ true
  pub device : DeviceHolds s.device
  pub phase : allows_open s.link.phase s.device ≡ true
  pub test : allows_test s.link.linktest s.device ≡ true

module _ (s : Session) where
  pub holds : allows s ≡ true → Holds s
  unfolding allows
  holds e =
      let last = cond (allows_open s.link.phase s.device) (allows_test s.link.linktest s.device) false in
      let a = both (allows_link s.link) (cond (allows_device s.device) last false) e in
      let b = both (allows_device s.device) last a.1 in
      let c = both (allows_open s.link.phase s.device) (allows_test s.link.linktest s.device) b.1 in
      record { link = a.0; device = device_holds s.device b.0; phase = c.0; test = c.1 }

  pub holds_allowed : Holds s → allows s ≡ true
  unfolding allows
  holds_allowed h = rw (h.link, device_allowed s.device h.device, h.phase) h.test

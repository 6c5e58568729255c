-- The list behind 14: which states of a session are allowed.
use Rattle.std.specs.Prelude.{Bool, true, false, not, cond, eqb, leb, get_or}
use Rattle.slots.specs.Slots.{is_there}
use Rattle.slots.specs.declared.Linktest.{Linktest}
use Rattle.slots.specs.declared.Query.TheVariants.{Taken, Named}
use Rattle.state.specs.State.{is_selected, connected, received_open}
use Rattle.state.specs.declared.Phase.{Phase}
use Rattle.state.specs.declared.Link.{Link}
use Rattle.state.specs.declared.Device.{Device}
use Rattle.state.specs.declared.Session.{Session}
use Rattle.allowed.specs.Slots.{allows_slots}

-- a linktest runs only when connected; a closed one is all zero
unfoldable pub allows_link : Link → Bool
allows_link l = cond l.linktest.running (connected l) (eqb l.linktest.system 0)

-- the device ID is at most 32,767, no flag stands for stream 0, and the received and the own slots are allowed
unfoldable pub allows_device : Device → Bool
allows_device d =
    cond (leb d.id 32767)
    (cond (not (get_or d.flags 0 false))
    (cond (allows_slots d.received) (allows_slots d.own) false) false) false

-- ---- between the two

-- a slot is taken only when selected
unfoldable pub allows_open : Phase → Device → Bool
allows_open p d = cond (is_selected p) true (cond (received_open d) false (not (is_there Taken d.own)))

-- a running linktest has system bytes of no own slot
unfoldable pub allows_test : Linktest → Device → Bool
allows_test t d = cond t.running (not (is_there (Named t.system) d.own)) true

-- a state that does not break the list
unfoldable pub allows : Session → Bool
allows s =
    cond (allows_link s.link)
    (cond (allows_device s.device)
    (cond (allows_open s.link.phase s.device) (allows_test s.link.linktest s.device) false) false) false

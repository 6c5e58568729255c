-- The table: what each event answers, the new state, and what is sent. An event that the gates let through goes to a row of the link or of the device.
use Rattle.std.specs.Prelude.{ℕ, cond, List, eqb}
use Rattle.wire.specs.Pick.{pick}
use Rattle.frame.specs.declared.Header.{Header}
use Rattle.slots.specs.Slots.{is_there}
use Rattle.slots.specs.declared.Query.TheVariants.{Named}
use Rattle.message.specs.declared.Received.{Received}
use Rattle.message.specs.declared.Received.TheVariants.{Reject, OtherPType, OtherSType, SelectReq, SelectRsp, DeselectReq, DeselectRsp, LinktestReq}
use Rattle.message.specs.declared.Received.TheVariants.{LinktestRsp, SeparateReq, Data}
use Rattle.message.specs.Send.{Send, Nothing}
use Rattle.state.specs.State.{fresh, selected, numbered, emptied, received_open}
use Rattle.state.specs.declared.Link.{Link}
use Rattle.state.specs.declared.Device.{Device}
use Rattle.state.specs.declared.Session.{Session}
use Rattle.link.specs.Rows as link
use Rattle.link.specs.Linked.{Linked}
use Rattle.device.specs.Rows as device
use Rattle.device.specs.Acted.{Acted}
use Rattle.session.specs.Gates.{gate_of}
use Rattle.session.specs.Stepped.{Stepped}
use Rattle.session.specs.declared.Timer.{Timer}
use Rattle.session.specs.declared.Timer.TheVariants.{T3, T6, T7, T8}
use Rattle.session.specs.declared.Wish.{Wish}
use Rattle.session.specs.declared.Wish.TheVariants.{Connect, Disconnect, Flag, Primary, Reply, Abort, Linktest, Separate}
use Rattle.session.specs.declared.Event.{Event}
use Rattle.session.specs.declared.Event.TheVariants.{Timer as on_timer, Wish as on_wish, Received as on_received}

-- ---- what a row answers, done to the session

-- a number alone: the state is as it was, and nothing is sent
abbrev pub told : ℕ → Session → Stepped
told n s = record { number = n; session = s; send = Nothing }

abbrev pub answer : ℕ → Link → Device → Send → Stepped
answer n l d m = record { number = n; session = record { link = l; device = d }; send = m }

-- the link as the row answers it, the data slots emptied where the row says so
abbrev pub by_link : Session → Linked → Stepped
by_link s r = answer r.number r.link (cond r.empties (emptied s.device) s.device) r.send

-- the device as the row answers it, the next own number one more than n where the row took n
abbrev pub by_device : Session → ℕ → Acted → Stepped
by_device s n a = answer a.number (cond a.took (numbered s.link n) s.link) a.device a.send

-- ---- received

-- 1. SType 7: closes the own slot or linktest with these system bytes (34) or nothing (35)
unfoldable pub rejected_of : Session → ℕ → Header → Stepped
rejected_of s n h =
    pick (is_there (Named h.system) s.device.own)
    (by_device s n (device.rejected_of s.device h))
    (by_link s (link.rejected_of s.link h))

-- 5. data: not selected, Reject, reason 4
unfoldable pub data_of : Session → ℕ → Header → List ℕ → Stepped
data_of s n h text =
    pick (selected s.link)
    (by_device s n (device.data_of s.device n h text))
    (by_link s (link.rejecting s.link h 4))

-- in this order: 1. SType 7; 2. PType not 0: Reject, reason 2; 3. SType not among 0 to 6 and 9: Reject, reason 1; 4. control, of which types 2 and 4 are
-- rejected with reason 3; 5. data
unfoldable pub came_of : Session → ℕ → Received → List ℕ → Stepped
came_of s n (Reject h) text = rejected_of s n h
came_of s n (OtherPType h) text = by_link s (link.rejecting s.link h 2)
came_of s n (OtherSType h) text = by_link s (link.rejecting s.link h 1)
came_of s n (SelectReq h) text = by_link s (link.select_req_of s.link h)
came_of s n (SelectRsp h) text = by_link s (link.rejecting s.link h 3)
came_of s n (DeselectReq h) text = by_link s (link.deselect_req_of s.link (received_open s.device) h)
came_of s n (DeselectRsp h) text = by_link s (link.rejecting s.link h 3)
came_of s n (LinktestReq h) text = by_link s (link.linktest_req_of s.link h)
came_of s n (LinktestRsp h) text = by_link s (link.linktest_rsp_of s.link h)
came_of s n (SeparateReq h) text = by_link s (link.separate_req_of s.link)
came_of s n (Data h) text = data_of s n h text

-- ---- wished

unfoldable pub wish_of : Session → ℕ → Wish → Stepped
wish_of s n Connect = by_link s (link.connect_of s.link)
wish_of s n Disconnect = by_link s (link.disconnect_of s.link)
wish_of s n (Flag m b) = by_device s n (device.flag_of s.device m b)
wish_of s n (Primary w m f) = by_device s n (device.send_of s.device n w m f)
wish_of s n (Reply k) = by_device s n (device.reply_of s.device k)
wish_of s n (Abort k) = by_device s n (device.abort_of s.device k)
wish_of s n Linktest = by_link s (link.linktest_of s.link n)
wish_of s n Separate = by_link s (link.separate_of s.link n)

-- ---- timers

unfoldable pub timer_of : Session → ℕ → Timer → Stepped
timer_of s n (T3 k) = by_device s n (device.t3_of s.device n k)
timer_of s n T6 = by_link s (link.t6_of s.link)
timer_of s n T7 = by_link s (link.t7_of s.link)
timer_of s n T8 = by_link s (link.t8_of s.link)

-- ---- every event

unfoldable pub event_of : Session → ℕ → Event → List ℕ → Stepped
event_of s n (on_timer t) text = timer_of s n t
event_of s n (on_wish w) text = wish_of s n w
event_of s n (on_received r) text = came_of s n r text

-- the gates first; the fresh number is found once, and handed down
unfoldable pub step_of : Session → Event → List ℕ → Stepped
step_of s e text = pick (eqb (gate_of s e text) 0) (event_of s (fresh s) e text) (told (gate_of s e text) s)

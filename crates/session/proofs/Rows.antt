-- Which row an event asks for, once the gates have let it through: what is proved of every event goes by these rows.
use Prim.Native.Nat.{ℕ, ◌≤◌}
use mathlib.Core.Bool.{Bool, true}
use mathlib.Core.List.{List}
use mathlib.Core.Path.{◌≡◌}
use borrow.Author.Tests.{eqb-false}
use Rattle.wire.proofs.Pick.{by_pick}
use Rattle.frame.specs.declared.Header.{Header}
use Rattle.slots.specs.Slots.{is_primary}
use Rattle.message.specs.declared.Received.{Received}
use Rattle.message.specs.declared.Received.TheVariants.{Reject, OtherPType, OtherSType, SelectReq, SelectRsp, DeselectReq, DeselectRsp, LinktestReq}
use Rattle.message.specs.declared.Received.TheVariants.{LinktestRsp, SeparateReq, Data}
use Rattle.state.specs.State.{fresh, connected, selected, received_open}
use Rattle.state.specs.declared.Session.{Session}
use Rattle.allowed.specs.States.{allows}
use Rattle.link.specs.Rows as link
use Rattle.link.specs.Linked.{Linked}
use Rattle.device.specs.Rows as device
use Rattle.device.specs.Acted.{Acted}
use Rattle.session.specs.Gates.{gate_of}
use Rattle.session.specs.Table.{told, by_link, by_device, rejected_of, data_of, came_of, wish_of, timer_of, event_of, step_of}
use Rattle.session.specs.Stepped.{Stepped}
use Rattle.session.specs.declared.Timer.{Timer}
use Rattle.session.specs.declared.Timer.TheVariants.{T3, T6, T7, T8}
use Rattle.session.specs.declared.Wish.{Wish}
use Rattle.session.specs.declared.Wish.TheVariants.{Connect, Disconnect, Flag, Primary, Reply, Abort, Linktest, Separate}
use Rattle.session.specs.declared.Event.{Event}
use Rattle.session.specs.declared.Event.TheVariants.{Timer as on_timer, Wish as on_wish, Received as on_received}
use Rattle.session.proofs.Gates.{WishPassed, Passed, Gated, let_gate, by_gate}

-- what may be rejected
pub data Rejects : Received → Type 0 where
  ptype : (h : Header) → Rejects (OtherPType h)
  stype : (h : Header) → Rejects (OtherSType h)
  select_rsp : (h : Header) → Rejects (SelectRsp h)
  deselect_rsp : (h : Header) → Rejects (DeselectRsp h)
  unselected_data : (h : Header) → Rejects (Data h)

-- a row of the link, and an event that may ask for it
pub data LinkRow (s : Session) : Event → Linked → Type 0 where
  rejecting_row : {r : Received} → Rejects r → (h : Header) (reason : ℕ) → LinkRow s (on_received r) (link.rejecting s.link h reason)
  rejected_row : (h : Header) → LinkRow s (on_received (Reject h)) (link.rejected_of s.link h)
  select_req_row : (h : Header) → LinkRow s (on_received (SelectReq h)) (link.select_req_of s.link h)
  deselect_req_row : (h : Header) → LinkRow s (on_received (DeselectReq h)) (link.deselect_req_of s.link (received_open s.device) h)
  linktest_req_row : (h : Header) → LinkRow s (on_received (LinktestReq h)) (link.linktest_req_of s.link h)
  linktest_rsp_row : (h : Header) → LinkRow s (on_received (LinktestRsp h)) (link.linktest_rsp_of s.link h)
  separate_req_row : (h : Header) → LinkRow s (on_received (SeparateReq h)) (link.separate_req_of s.link)
  connect_row : LinkRow s (on_wish Connect) (link.connect_of s.link)
  disconnect_row : LinkRow s (on_wish Disconnect) (link.disconnect_of s.link)
  linktest_row : connected s.link ≡ true → LinkRow s (on_wish Linktest) (link.linktest_of s.link (fresh s))
  separate_row : selected s.link ≡ true → LinkRow s (on_wish Separate) (link.separate_of s.link (fresh s))
  t6_row : LinkRow s (on_timer T6) (link.t6_of s.link)
  t7_row : LinkRow s (on_timer T7) (link.t7_of s.link)
  t8_row : LinkRow s (on_timer T8) (link.t8_of s.link)

-- a row of the device, an event that may ask for it, and what the gates let its proofs know
pub data DeviceRow (s : Session) (text : List ℕ) : Event → Acted → Type 0 where
  rejected_own_row : (h : Header) → DeviceRow s text (on_received (Reject h)) (device.rejected_of s.device h)
  data_row : selected s.link ≡ true → (h : Header) → DeviceRow s text (on_received (Data h)) (device.data_of s.device (fresh s) h text)
  flag_row : (m : ℕ) (b : Bool) → 1 ≤ m → DeviceRow s text (on_wish (Flag m b)) (device.flag_of s.device m b)
  send_row : selected s.link ≡ true → (w : Bool) (m f : ℕ) → is_primary m f ≡ true
      → DeviceRow s text (on_wish (Primary w m f)) (device.send_of s.device (fresh s) w m f)
  reply_row : selected s.link ≡ true → (k : ℕ) → DeviceRow s text (on_wish (Reply k)) (device.reply_of s.device k)
  abort_row : selected s.link ≡ true → (k : ℕ) → DeviceRow s text (on_wish (Abort k)) (device.abort_of s.device k)
  t3_row : (k : ℕ) → DeviceRow s text (on_timer (T3 k)) (device.t3_of s.device (fresh s) k)

-- a step: a row done to the session, or the number of a gate alone
pub data Step (s : Session) (text : List ℕ) : Event → Stepped → Type 0 where
  of_link_row : {e : Event} {x : Linked} → allows s ≡ true → Passed s.link e text → LinkRow s e x → Step s text e (by_link s x)
  of_device_row : {e : Event} {a : Acted} → allows s ≡ true → DeviceRow s text e a → Step s text e (by_device s (fresh s) a)
  stops : {e : Event} {k : ℕ} → (allows s ≡ true → Passed s.link e text → ⊥) → Gated s.link e text k → Step s text e (told k s)

module _ (s : Session) (text : List ℕ) (ok : allows s ≡ true) where
  received_step : (r : Received) → connected s.link ≡ true → Step s text (on_received r) (came_of s (fresh s) r text)
  unfolding came_of rejected_of data_of
  received_step (Reject h) c =
      by_pick (Step s text (on_received (Reject h))) _ _ _ (λ _. of_device_row ok (rejected_own_row h)) (λ _. of_link_row ok c (rejected_row h))
  received_step (OtherPType h) c = of_link_row ok c (rejecting_row (ptype h) h 2)
  received_step (OtherSType h) c = of_link_row ok c (rejecting_row (stype h) h 1)
  received_step (SelectReq h) c = of_link_row ok c (select_req_row h)
  received_step (SelectRsp h) c = of_link_row ok c (rejecting_row (select_rsp h) h 3)
  received_step (DeselectReq h) c = of_link_row ok c (deselect_req_row h)
  received_step (DeselectRsp h) c = of_link_row ok c (rejecting_row (deselect_rsp h) h 3)
  received_step (LinktestReq h) c = of_link_row ok c (linktest_req_row h)
  received_step (LinktestRsp h) c = of_link_row ok c (linktest_rsp_row h)
  received_step (SeparateReq h) c = of_link_row ok c (separate_req_row h)
  received_step (Data h) c =
      by_pick (Step s text (on_received (Data h))) _ _ _ (λ z. of_device_row ok (data_row z h)) (λ _. of_link_row ok c (rejecting_row (unselected_data h) h 4))

  wish_step : (w : Wish) → WishPassed s.link w text → Step s text (on_wish w) (wish_of s (fresh s) w)
  unfolding wish_of
  wish_step Connect p = of_link_row ok p connect_row
  wish_step Disconnect p = of_link_row ok p disconnect_row
  wish_step (Flag m b) p = of_device_row ok (flag_row m b p.0)
  wish_step (Primary w m f) (g, p) = of_device_row ok (send_row g.phase w m f p)
  wish_step (Reply k) g = of_device_row ok (reply_row g.phase k)
  wish_step (Abort k) z = of_device_row ok (abort_row z k)
  wish_step Linktest c = of_link_row ok c (linktest_row c)
  wish_step Separate z = of_link_row ok z (separate_row z)

  timer_step : (t : Timer) → Step s text (on_timer t) (timer_of s (fresh s) t)
  unfolding timer_of
  timer_step (T3 k) = of_device_row ok (t3_row k)
  timer_step T6 = of_link_row ok tt t6_row
  timer_step T7 = of_link_row ok tt t7_row
  timer_step T8 = of_link_row ok tt t8_row

  event_step : (e : Event) → Passed s.link e text → Step s text e (event_of s (fresh s) e text)
  unfolding event_of
  event_step (on_timer t) p = timer_step t
  event_step (on_wish w) p = wish_step w p
  event_step (on_received r) p = received_step r p

pub step : (s : Session) (e : Event) (text : List ℕ) → Step s text e (step_of s e text)
step s e text =
    by_gate (Step s text e) s e text (λ ok p. event_step s text ok e p)
    (λ z g. stops (λ ok p. eqb-false (gate_of s e text) 0 z (let_gate s e text ok p)) g)

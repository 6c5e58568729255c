-- The phase after every event, in a state that the list behind 14 allows.
use Prim.Native.Nat.{ℕ}
use mathlib.Core.Bool.{Bool, true, false}
use mathlib.Core.List.{List}
use mathlib.Core.Path.{◌≡◌, refl, sym, ◌∙◌}
use Rattle.wire.specs.Pick.{pick}
use Rattle.wire.proofs.Pick.{pick_true, by_pick, into}
use Rattle.message.specs.declared.Received.{Received}
use Rattle.message.specs.declared.Received.TheVariants.{Reject, OtherPType, OtherSType, SelectReq, SelectRsp, DeselectReq, DeselectRsp, LinktestReq}
use Rattle.message.specs.declared.Received.TheVariants.{LinktestRsp, SeparateReq, Data}
use Rattle.state.specs.State.{fresh, connected, selected}
use Rattle.state.specs.declared.Phase.{Phase}
use Rattle.state.specs.declared.Phase.TheVariants.{NotConnected, NotSelected, Selected}
use Rattle.state.specs.declared.Session.{Session}
use Rattle.state.proofs.Phases.{selected_connected, selected_is, unconnected_is}
use Rattle.allowed.specs.States.{allows}
use Rattle.link.specs.Rows as link
use Rattle.link.specs.Linked.{Linked}
use Rattle.device.specs.Acted.{Acted}
use Rattle.session.specs.Table.{step_of}
use Rattle.session.specs.Stepped.{Stepped}
use Rattle.session.specs.declared.Wish.{Wish}
use Rattle.session.specs.declared.Wish.TheVariants.{Connect, Disconnect, Flag, Primary, Reply, Abort, Linktest, Separate}
use Rattle.session.specs.declared.Event.{Event}
use Rattle.session.specs.declared.Event.TheVariants.{Timer as on_timer, Wish as on_wish, Received as on_received}
use Rattle.session.proofs.Gates.{Passed}
use Rattle.session.proofs.Rows.{ptype, stype, select_rsp, deselect_rsp, unselected_data}
use Rattle.session.proofs.Rows.{LinkRow, rejecting_row, rejected_row, select_req_row, deselect_req_row, linktest_req_row, linktest_rsp_row, separate_req_row}
use Rattle.session.proofs.Rows.{connect_row, disconnect_row, linktest_row, separate_row, t6_row, t7_row, t8_row}
use Rattle.session.proofs.Rows.{DeviceRow, rejected_own_row, data_row, flag_row, send_row, reply_row, abort_row, t3_row}
use Rattle.session.proofs.Rows.{Step, of_link_row, of_device_row, stops, step}
use Rattle.protocol.specs.Protocol.{phase_after}
use Rattle.protocol.proofs.Halves.{numbered_phase}

module _ (s : Session) (text : List ℕ) where
  abbrev now : Phase
  now = s.link.phase

  abbrev phase_of : Linked → Phase
  phase_of x = x.link.phase

  -- ---- a row of the link

  -- both ways of a choice leave the phase
  same : (b : Bool) (x y : Linked) → phase_of x ≡ now → phase_of y ≡ now → phase_of (pick b x y) ≡ now
  same b x y p q = by_pick (λ (x : Linked). phase_of x ≡ now) b x y (λ _. p) (λ _. q)

  t8_phase : phase_of (link.t8_of s.link) ≡ NotConnected
  unfolding link.t8_of link.disconnect_of
  t8_phase = by_pick (λ (x : Linked). phase_of x ≡ NotConnected) (connected s.link) _ _ (λ _. refl) (λ c. unconnected_is now c)

  link_phase : (e : Event) (x : Linked) → Passed s.link e text → LinkRow s e x → phase_of x ≡ phase_after s e
  unfolding link.rejecting link.rejected_of link.select_req_of link.deselect_req_of link.linktest_req_of link.linktest_rsp_of link.separate_req_of
      link.connect_of link.disconnect_of link.linktest_of link.separate_of link.t6_of link.t7_of
  link_phase e x c (rejecting_row (ptype k) h reason) = refl
  link_phase e x c (rejecting_row (stype k) h reason) = refl
  link_phase e x c (rejecting_row (select_rsp k) h reason) = refl
  link_phase e x c (rejecting_row (deselect_rsp k) h reason) = refl
  link_phase e x c (rejecting_row (unselected_data k) h reason) = refl
  link_phase e x c (rejected_row h) = same _ _ _ refl refl
  link_phase e x c (select_req_row h) =
      by_pick (λ (x : Linked). phase_of x ≡ Selected) (selected s.link) _ _ (λ z. selected_is now z) (λ _. refl)
      ∙ sym (pick_true (connected s.link) Selected now c)
  link_phase e x c (deselect_req_row h) = into phase_of _ _ _ (into phase_of _ _ _ refl refl) refl
  link_phase e x c (linktest_req_row h) = refl
  link_phase e x c (linktest_rsp_row h) = same _ _ _ refl refl
  link_phase e x c (separate_req_row h) = into phase_of _ _ _ refl refl
  link_phase e x p connect_row = into phase_of _ _ _ refl refl
  link_phase e x p disconnect_row = refl
  link_phase e x p (linktest_row c) = same _ _ _ refl refl
  link_phase e x p (separate_row z) = sym (pick_true (selected s.link) NotSelected now z)
  link_phase e x p t6_row = into phase_of _ _ _ refl refl
  link_phase e x p t7_row = into phase_of _ _ _ refl t8_phase
  link_phase e x p t8_row = t8_phase

  -- ---- a row of the device leaves it

  device_phase : (e : Event) (a : Acted) → DeviceRow s text e a → phase_after s e ≡ now
  device_phase e a (rejected_own_row h) = refl
  device_phase e a (data_row z h) = refl
  device_phase e a (flag_row m b p) = refl
  device_phase e a (send_row z w m f p) = refl
  device_phase e a (reply_row z k) = refl
  device_phase e a (abort_row z k) = refl
  device_phase e a (t3_row k) = refl

  -- ---- and what the gates refuse would not have changed it

  -- a change where a test holds, which the gates would have let through
  unchanged : (b : Bool) (p : Phase) → (b ≡ true → ⊥) → pick b p now ≡ now
  unchanged b p never = by_pick (λ (x : Phase). x ≡ now) b p now (λ z. absurd (never z)) (λ _. refl)

  not_connected : (connected s.link ≡ true → ⊥) → NotConnected ≡ now
  not_connected never = go (connected s.link) refl
    where
      go : (b : Bool) → connected s.link ≡ b → NotConnected ≡ now
      go true c = absurd (never c)
      go false c = sym (unconnected_is now c)

  refused_wish : (w : Wish) → (Passed s.link (on_wish w) text → ⊥) → phase_after s (on_wish w) ≡ now
  refused_wish Connect never = absurd (never tt)
  refused_wish Disconnect never = not_connected never
  refused_wish (Flag m b) never = refl
  refused_wish (Primary w m f) never = refl
  refused_wish (Reply k) never = refl
  refused_wish (Abort k) never = refl
  refused_wish Linktest never = refl
  refused_wish Separate never = unchanged (selected s.link) NotSelected never

  -- what is refused is received when not connected
  refused_received : (r : Received) → (connected s.link ≡ true → ⊥) → phase_after s (on_received r) ≡ now
  refused_received (Reject h) never = refl
  refused_received (OtherPType h) never = refl
  refused_received (OtherSType h) never = refl
  refused_received (SelectReq h) never = unchanged (connected s.link) Selected never
  refused_received (SelectRsp h) never = refl
  refused_received (DeselectReq h) never = unchanged (selected s.link) _ (λ z. never (selected_connected now z))
  refused_received (DeselectRsp h) never = refl
  refused_received (LinktestReq h) never = refl
  refused_received (LinktestRsp h) never = refl
  refused_received (SeparateReq h) never = unchanged (selected s.link) NotSelected (λ z. never (selected_connected now z))
  refused_received (Data h) never = refl

  refused_phase : (e : Event) → (Passed s.link e text → ⊥) → phase_after s e ≡ now
  refused_phase (on_timer t) never = absurd (never tt)
  refused_phase (on_wish w) never = refused_wish w never
  refused_phase (on_received r) never = refused_received r never

  -- ---- every event

  step_phase : allows s ≡ true → (e : Event) (r : Stepped) → Step s text e r → r.session.link.phase ≡ phase_after s e
  step_phase ok e r (of_link_row _ p row) = link_phase e _ p row
  step_phase ok e r (of_device_row {a = a} _ row) = numbered_phase a.took s.link (fresh s) ∙ sym (device_phase e a row)
  step_phase ok e r (stops never g) = sym (refused_phase e (never ok))

-- THE PHASE AFTER EVERY EVENT: connect gives not selected, Select.req selected; Deselect.req, unless a received slot is open, and separate, not selected;
-- disconnect, T6, T7 and T8 not connected; every other event, and each that is refused, leaves it.
pub phase_after_step : (s : Session) (e : Event) (text : List ℕ) → allows s ≡ true → (step_of s e text).session.link.phase ≡ phase_after s e
phase_after_step s e text ok = step_phase s text ok e (step_of s e text) (step s e text)

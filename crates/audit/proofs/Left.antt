-- A Deselect.req that is answered with status 0, separate, disconnect, and T6, T7 or T8 that runs out do not end in selected.
use Prim.Native.Nat.{ℕ}
use mathlib.Core.Bool.{Bool, true, false}
use mathlib.Core.List.{List}
use mathlib.Core.Path.{◌≡◌, refl, ap}
use native.Mathlib.Omega.{arith}
use Rattle.wire.proofs.Pick.{by_pick}
use Rattle.frame.specs.declared.Header.{Header}
use Rattle.message.specs.Message.{response}
use Rattle.message.specs.declared.Received.TheVariants.{DeselectReq}
use Rattle.message.specs.Send.{Send, Nothing, Message}
use Rattle.state.specs.State.{fresh, is_selected, received_open}
use Rattle.state.specs.declared.Session.{Session}
use Rattle.state.proofs.Phases.{selected_connected}
use Rattle.allowed.specs.States.{allows}
use Rattle.link.specs.Rows as link
use Rattle.link.specs.Linked.{Linked}
use Rattle.session.specs.Table.{by_link, came_of, wish_of, event_of, step_of}
use Rattle.session.specs.Stepped.{Stepped}
use Rattle.session.specs.declared.Wish.TheVariants.{Disconnect}
use Rattle.session.specs.declared.Event.{Event}
use Rattle.session.specs.declared.Event.TheVariants.{Wish as on_wish, Received as on_received}
use Rattle.session.proofs.Gates.{Passed, let_through, by_gate}
use Rattle.protocol.specs.Protocol.{Separates, separate_req, separate, Disconnects}
use Rattle.protocol.proofs.Emptied.{disconnected}
use Rattle.audit.specs.Run.{Seen, seen_as}

-- what such an event is, as it is seen
pub data Leaves (x : Seen) : Type 0 where
  by_deselect : (h : Header) → x.event ≡ on_received (DeselectReq h) → x.send ≡ response h 4 0 → Leaves x
  by_separate : Separates x.event → Leaves x
  by_disconnect : x.event ≡ on_wish Disconnect → Leaves x
  by_closing : Disconnects x.event → x.number ≡ 0 → Leaves x

-- the status of a response
abbrev status_of : Send → ℕ
status_of Nothing = 0
status_of (Message m t) = m.byte3

-- ---- a step where the list behind 14 allows the state, and C holds of what is sent

module _ (s : Session) (text : List ℕ) (ok : allows s ≡ true) (C : Send → Type 0) where
  abbrev before : Bool
  before = is_selected s.link.phase

  abbrev StepOut : Stepped → Type 0
  StepOut r = C r.send → is_selected r.session.link.phase ≡ false

  record Out (x : Linked) : Type 0 where
    out : StepOut (by_link s x)

  outside : {x : Linked} → is_selected x.link.phase ≡ false → Out x
  outside z = record { out = λ _. z }

  -- in selected the gates let the event through, and in another phase one that refuses it changes nothing
  step_out : (e : Event) (x : Linked) → event_of s (fresh s) e text ≡ by_link s x → (before ≡ true → Passed s.link e text) → Out x → StepOut (step_of s e text)
  step_out e x is pass o = go before refl
    where
      go : (b : Bool) → before ≡ b → StepOut (step_of s e text)
      go true z = rw (let_through s e text ok (pass z), is) o.out
      go false z = by_gate StepOut s e text (λ _ _. rw is o.out) (λ _ _ _. z)

  deselect_out : (h : Header) → (C (response h 4 2) → ⊥) → StepOut (step_of s (on_received (DeselectReq h)) text)
  unfolding event_of came_of link.deselect_req_of
  deselect_out h unlike =
      step_out _ (link.deselect_req_of s.link (received_open s.device) h) refl (selected_connected s.link.phase)
      (by_pick Out before _ _
      (λ _. by_pick Out (received_open s.device) _ _ (λ _. record { out = λ q. absurd (unlike q) }) (λ _. outside refl))
      outside)

  separate_out : (e : Event) → Separates e → StepOut (step_of s e text)
  unfolding event_of came_of wish_of link.separate_req_of link.separate_of
  separate_out e (separate_req h) =
      step_out _ (link.separate_req_of s.link) refl (selected_connected s.link.phase) (by_pick Out before _ _ (λ _. outside refl) outside)
  separate_out e separate = step_out _ (link.separate_of s.link (fresh s)) refl (λ z. z) (outside refl)

  disconnect_out : StepOut (step_of s (on_wish Disconnect) text)
  unfolding event_of wish_of link.disconnect_of
  disconnect_out = step_out _ (link.disconnect_of s.link) refl (selected_connected s.link.phase) (outside refl)

module _ (s : Session) (text : List ℕ) (ok : allows s ≡ true) where
  pub leaves_out : (e : Event) → Leaves (seen_as e s.link.phase (step_of s e text)) → is_selected (step_of s e text).session.link.phase ≡ false
  leaves_out e (by_deselect h q p) =
      rw q (deselect_out s text ok (λ m. m ≡ response h 4 0) h (λ w. let z : ◌≡◌ {A = ℕ} 2 0 = ap status_of w in omega arith) (rw q at p))
  leaves_out e (by_separate q) = separate_out s text ok (λ _. Unit {0}) e q tt
  leaves_out e (by_disconnect q) = rw q (disconnect_out s text ok (λ _. Unit {0}) tt)
  leaves_out e (by_closing q p) = ap is_selected (disconnected s e text q p).phase

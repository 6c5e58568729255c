-- In selected, with any received slot open, Deselect.req is answered busy and changes nothing; so no Deselect.req loses an open received slot.
use Prim.Native.Nat.{ℕ, ◌<◌}
use mathlib.Core.Bool.{true, false}
use mathlib.Core.List.{List}
use mathlib.Core.Logic.{inl, inr}
use mathlib.Core.Path.{◌≡◌, refl, ap, ◌∙◌}
use native.Mathlib.Omega.{arith}
use borrow.Author.Tests.{lt-ltb, ltb-false}
use Rattle.wire.proofs.Pick.{pick_true, pick_false, by_pick}
use Rattle.wire.proofs.Search.{first_before, first_least}
use Rattle.frame.specs.declared.Header.{Header}
use Rattle.slots.specs.Slots.{free, passes, found_at}
use Rattle.slots.specs.declared.Slot.{Slot}
use Rattle.slots.specs.declared.Query.TheVariants.{Taken}
use Rattle.message.specs.Message.{response}
use Rattle.message.specs.declared.Received.TheVariants.{DeselectReq}
use Rattle.message.specs.Send.{Send}
use Rattle.state.specs.State.{selected, with_phase, received_open}
use Rattle.state.specs.declared.Phase.TheVariants.{NotSelected}
use Rattle.state.specs.declared.Session.{Session}
use Rattle.state.proofs.Phases.{selected_connected}
use Rattle.allowed.specs.States.{allows}
use Rattle.link.specs.Rows as link
use Rattle.link.specs.Linked.{Linked}
use Rattle.session.specs.Table.{by_link, came_of, event_of, step_of}
use Rattle.session.specs.Stepped.{Stepped}
use Rattle.session.specs.declared.Event.TheVariants.{Received as on_received}
use Rattle.session.proofs.Gates.{let_through, by_gate}
use Rattle.protocol.specs.Protocol.{received_slot, Busy, Done, LosesNone}

module _ (s : Session) where
  abbrev received : List Slot
  received = s.device.received

  -- ---- any received slot open, and none

  one_taken : (i : ℕ) → i < 32 → (received_slot s i).taken ≡ true → received_open s.device ≡ true
  unfolding passes
  one_taken i place taken = lt-ltb (found_at Taken received) 32 (omega (arith, first_least (passes Taken) free received i taken))

  all_free : received_open s.device ≡ false → (i : ℕ) → i < 32 → (received_slot s i).taken ≡ false
  unfolding passes
  all_free none i place = first_before (passes Taken) free received i (omega (arith, ltb-false (found_at Taken received) 32 none))

  module _ (h : Header) (text : List ℕ) where
    abbrev asked : Stepped
    asked = step_of s (on_received (DeselectReq h)) text

    asked_row : allows s ≡ true → selected s.link ≡ true → asked ≡ by_link s (link.deselect_req_of s.link (received_open s.device) h)
    unfolding event_of came_of
    asked_row ok z = let_through s (on_received (DeselectReq h)) text ok (selected_connected s.link.phase z)

    busy_row : selected s.link ≡ true → received_open s.device ≡ true
        → link.deselect_req_of s.link (received_open s.device) h ≡ link.answer 0 s.link (response h 4 2)
    unfolding link.deselect_req_of
    busy_row z some = pick_true (selected s.link) _ _ z ∙ pick_true (received_open s.device) _ _ some

    done_row : selected s.link ≡ true → received_open s.device ≡ false
        → link.deselect_req_of s.link (received_open s.device) h ≡ link.leaves (with_phase s.link NotSelected) (response h 4 0)
    unfolding link.deselect_req_of
    done_row z none = pick_true (selected s.link) _ _ z ∙ pick_false (received_open s.device) _ _ none

    -- IN SELECTED, WITH ANY RECEIVED SLOT OPEN, DESELECT.REQ IS ANSWERED STATUS 2 (BUSY), AND NOTHING CHANGES.
    pub busy : allows s ≡ true → selected s.link ≡ true → (i : ℕ) → i < 32 → (received_slot s i).taken ≡ true → Busy s h asked
    busy ok z i place taken =
        rw (asked_row ok z ∙ ap (by_link s) (busy_row z (one_taken i place taken))) (record { number = refl; status = refl; unchanged = refl })

    -- WITH NONE OPEN IT IS AS BEFORE: selected becomes not selected, all data slots emptied, status 0, and nothing else changes.
    pub not_busy : allows s ≡ true → selected s.link ≡ true → received_open s.device ≡ false → Done s h asked
    not_busy ok z none = rw (asked_row ok z ∙ ap (by_link s) (done_row z none)) (record { number = refl; status = refl; leaves = refl })

    -- ---- a Deselect.req in any state

    record Keeps (r : Linked) : Type 0 where
      keeps : LosesNone s (by_link s r).session

    as_it_was : {m : Send} → Keeps (link.answer 0 s.link m)
    as_it_was = record { keeps = inl (λ i. refl) }

    row_keeps : Keeps (link.deselect_req_of s.link (received_open s.device) h)
    unfolding link.deselect_req_of
    row_keeps =
        by_pick Keeps (selected s.link) _ _
        (λ _. by_pick Keeps (received_open s.device) _ _ (λ _. as_it_was) (λ none. record { keeps = inr (all_free none) }))
        (λ _. as_it_was)

    -- DESELECT.REQ LOSES NO REPLY THAT THE HOST WAITS FOR: after any, each received slot is as it was, or none was taken.
    pub deselect_loses_none : LosesNone s asked.session
    unfolding event_of came_of
    deselect_loses_none =
        by_gate (λ (r : Stepped). LosesNone s r.session) s (on_received (DeselectReq h)) text (λ _ _. row_keeps.keeps) (λ _ _. inl (λ i. refl))

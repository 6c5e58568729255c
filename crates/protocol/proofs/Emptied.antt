-- Disconnect, T6, T7 and T8 leave no slot and no linktest open; Deselect.req and separate, where they leave selected, no slot; and separate leaves it at once.
use Prim.Native.Nat.{ℕ}
use mathlib.Core.Bool.{Bool, true, false}
use mathlib.Core.List.{List}
use mathlib.Core.Path.{◌≡◌, refl}
use borrow.Author.Tests.{eqb-false}
use lib.Dec.{eqb}
use Rattle.wire.specs.Pick.{pick}
use Rattle.wire.proofs.Pick.{pick_true, by_pick}
use Rattle.frame.specs.declared.Header.{Header}
use Rattle.slots.specs.Slots.{no_slots, is_there}
use Rattle.slots.specs.declared.Query.TheVariants.{Taken}
use Rattle.slots.proofs.Found.{no_slots_there, free_not_taken}
use Rattle.message.specs.Send.{Send, Nothing}
use Rattle.state.specs.State.{fresh, selected, with_phase, numbered, emptied}
use Rattle.state.specs.declared.Phase.TheVariants.{NotSelected}
use Rattle.state.specs.declared.Link.{Link}
use Rattle.state.specs.declared.Device.{Device}
use Rattle.state.specs.declared.Session.{Session}
use Rattle.state.proofs.Phases.{selected_connected}
use Rattle.allowed.specs.States.{allows}
use Rattle.link.specs.Rows as link
use Rattle.link.specs.Linked.{Linked}
use Rattle.session.specs.Gates.{gate_of}
use Rattle.session.specs.Table.{by_link, came_of, wish_of, timer_of, event_of, step_of}
use Rattle.session.specs.Stepped.{Stepped}
use Rattle.session.specs.declared.Event.{Event}
use Rattle.session.proofs.Gates.{Passed, let_through, by_gate}
use Rattle.protocol.specs.Protocol.{NoneOpen, Gone, Disconnects, disconnect, t6, t7, t8}
use Rattle.protocol.specs.Protocol.{AtOnce, Separates, separate_req, separate, Deselects, deselect_req, separates}
use Rattle.protocol.proofs.Open.{none_open}

none_taken : is_there Taken no_slots ≡ false
none_taken = no_slots_there Taken free_not_taken

emptied_none : (l : Link) (d : Device) → NoneOpen (record { link = l; device = emptied d })
emptied_none l d = record { received = none_taken; own = none_taken }

-- ---- a row of the link that answers 0, done to the session

record Left (s : Session) (P : Stepped → Type 0) (r : Linked) : Type 0 where
  left : r.number ≡ 0 → P (by_link s r)

module _ {s : Session} {P : Stepped → Type 0} where
  either : (b : Bool) (x y : Linked) → Left s P x → Left s P y → Left s P (pick b x y)
  either b x y p q = by_pick (Left s P) b x y (λ _. p) (λ _. q)

  refuses : (n : ℕ) (l : Link) → eqb n 0 ≡ false → Left s P (link.told n l)
  refuses n l z = record { left = λ w. absurd (eqb-false n 0 z w) }

-- a gate that refuses does not answer 0
step_ends : (P : Stepped → Type 0) (s : Session) (e : Event) (text : List ℕ)
    → (allows s ≡ true → Passed s.link e text → (event_of s (fresh s) e text).number ≡ 0 → P (event_of s (fresh s) e text))
    → (step_of s e text).number ≡ 0 → P (step_of s e text)
step_ends P s e text go = by_gate (λ (r : Stepped). r.number ≡ 0 → P r) s e text go (λ z _ w. absurd (eqb-false (gate_of s e text) 0 z w))

-- ---- not connected

module _ (s : Session) where
  abbrev Closed : Stepped → Type 0
  Closed r = Gone s r.session

  disconnect_left : Left s Closed (link.disconnect_of s.link)
  unfolding link.disconnect_of
  disconnect_left = record { left = λ _. record { phase = refl; slots = emptied_none _ s.device; linktest = refl; next = refl } }

  t6_left : Left s Closed (link.t6_of s.link)
  unfolding link.t6_of
  t6_left = either _ _ _ disconnect_left (refuses 27 s.link refl)

  t8_left : Left s Closed (link.t8_of s.link)
  unfolding link.t8_of
  t8_left = either _ _ _ disconnect_left (refuses 27 s.link refl)

  t7_left : Left s Closed (link.t7_of s.link)
  unfolding link.t7_of
  t7_left = either _ _ _ (refuses 27 s.link refl) t8_left

  disconnects_left : (e : Event) (text : List ℕ) → Disconnects e → (event_of s (fresh s) e text).number ≡ 0 → Closed (event_of s (fresh s) e text)
  unfolding event_of wish_of timer_of
  disconnects_left e text disconnect = disconnect_left.left
  disconnects_left e text t6 = t6_left.left
  disconnects_left e text t7 = t7_left.left
  disconnects_left e text t8 = t8_left.left

  -- DISCONNECT, T6, T7 AND T8 GIVE NOT CONNECTED AND LEAVE NO SLOT AND NO LINKTEST OPEN, and the next own number as it was.
  pub disconnected : (e : Event) (text : List ℕ) → Disconnects e → (step_of s e text).number ≡ 0 → Gone s (step_of s e text).session
  disconnected e text d = step_ends Closed s e text (λ _ _. disconnects_left e text d)

  -- ---- not selected: no slot is open

  abbrev Emptied : Stepped → Type 0
  Emptied r = selected r.session.link ≡ false → NoneOpen r.session

  leaves : {l : Link} {m : Send} → Left s Emptied (link.leaves l m)
  leaves {l = l} = record { left = λ _ _. emptied_none l s.device }

  separate_left : (n : ℕ) → Left s Emptied (link.separate_of s.link n)
  unfolding link.separate_of
  separate_left n = leaves

  module _ (ok : allows s ≡ true) where
    -- where nothing changes, the list leaves no slot open unless the phase is selected
    unchanged : {m : Send} → Left s Emptied (link.answer 0 s.link m)
    unchanged = record { left = λ _. none_open s ok }

    deselect_left : (busy : Bool) (h : Header) → Left s Emptied (link.deselect_req_of s.link busy h)
    unfolding link.deselect_req_of
    deselect_left busy h = either _ _ _ (either _ _ _ unchanged leaves) unchanged

    separate_req_left : Left s Emptied (link.separate_req_of s.link)
    unfolding link.separate_req_of
    separate_req_left = either _ _ _ leaves unchanged

    deselects_left : (e : Event) (text : List ℕ) → Deselects e → (event_of s (fresh s) e text).number ≡ 0 → Emptied (event_of s (fresh s) e text)
    unfolding event_of came_of wish_of
    deselects_left e text (deselect_req h) = (deselect_left _ h).left
    deselects_left e text (separates (separate_req h)) = separate_req_left.left
    deselects_left e text (separates separate) = (separate_left (fresh s)).left

  -- DESELECT.REQ AND SEPARATE LEAVE NO SLOT OPEN where the phase is not selected afterwards.
  pub separated : (e : Event) (text : List ℕ) → Deselects e → (step_of s e text).number ≡ 0
      → selected (step_of s e text).session.link ≡ false → NoneOpen (step_of s e text).session
  separated e text d = step_ends Emptied s e text (λ ok _. deselects_left ok e text d)

  -- ---- separate is immediate

  at_once : (l : Link) (m : Send) → AtOnce (by_link s (link.leaves (with_phase l NotSelected) m))
  at_once l m = record { number = refl; phase = refl; slots = emptied_none _ s.device }

  separate_at_once : (n : ℕ) → AtOnce (by_link s (link.separate_of s.link n))
  unfolding link.separate_of
  separate_at_once n = at_once (numbered s.link n) _

  separate_req_at_once : selected s.link ≡ true → AtOnce (by_link s (link.separate_req_of s.link))
  unfolding link.separate_req_of
  separate_req_at_once z =
      rw (pick_true (selected s.link) (link.leaves (with_phase s.link NotSelected) Nothing) (link.told 0 s.link) z) (at_once s.link _)

  -- SEPARATE IS IMMEDIATE: in selected, received or wished, whatever is open, it leaves selected at once.
  pub immediate : (e : Event) (text : List ℕ) → Separates e → allows s ≡ true → selected s.link ≡ true → AtOnce (step_of s e text)
  unfolding event_of came_of wish_of
  immediate e text (separate_req h) ok z = rw (let_through s e text ok (selected_connected s.link.phase z)) (separate_req_at_once z)
  immediate e text separate ok z = rw (let_through s e text ok z) (separate_at_once (fresh s))

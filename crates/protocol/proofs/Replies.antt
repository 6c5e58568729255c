-- A reply that is asked for goes out only for a received primary that is still open, and closes it: no two share system bytes, so none is left to reply to.
use Prim.Native.Nat.{ℕ, ◌+◌, ◌≤◌, ◌<◌}
use mathlib.Core.Bool.{true, false}
use mathlib.Core.List.{List}
use mathlib.Core.Path.{◌≡◌, refl, ap, ◌∙◌}
use native.Mathlib.Nat.{mod-eq_of_lt}
use native.Mathlib.Omega.{arith}
use borrow.Author.Tests.{ltb-true}
use lib.ListN.{length, set}
use Rattle.wire.proofs.Pick.{pick_false, by_pick}
use Rattle.wire.proofs.Search.{first_passes}
use Rattle.frame.specs.Header.{data_header}
use Rattle.frame.specs.declared.Header.{Header}
use Rattle.frame.proofs.Laws.{data_w, data_stream}
use Rattle.slots.specs.Slots.{free, passes, is_there}
use Rattle.slots.specs.declared.Slot.{Slot}
use Rattle.slots.specs.declared.Query.TheVariants.{Named}
use Rattle.slots.proofs.Found.{named_system, named_taken}
use Rattle.text.specs.Text.{judged_of}
use Rattle.message.specs.declared.Text.{Text}
use Rattle.message.specs.declared.Text.TheVariants.{Empty, Wished}
use Rattle.message.specs.Send.{Nothing, Message}
use Rattle.state.specs.State.{fresh, selected, received_freed}
use Rattle.state.specs.declared.Device.{Device}
use Rattle.state.specs.declared.Session.{Session}
use Rattle.allowed.specs.States.{allows_open, allows_test, allows}
use Rattle.allowed.proofs.Slots.{Allowed, allows_facts, facts_allow, closed_allowed, closed_not_there, primary_range}
use Rattle.allowed.proofs.States.{holds, holds_allowed}
use Rattle.device.specs.Rows as device
use Rattle.device.specs.Acted.{Acted}
use Rattle.session.specs.Table.{told, by_device, wish_of, event_of, step_of}
use Rattle.session.specs.Stepped.{Stepped}
use Rattle.session.specs.declared.Wish.TheVariants.{Reply, Abort}
use Rattle.session.specs.declared.Event.TheVariants.{Wish as on_wish}
use Rattle.session.proofs.Gates.{let_through, by_gate}
use Rattle.protocol.specs.Protocol.{primary_at, with_device, Replied}

-- ---- where no received slot has these system bytes, both are 25

not_open : (d : Device) (n f : ℕ) (text : Text) → is_there (Named n) d.received ≡ false → device.replied_of d n f text ≡ device.told 25 d
unfolding device.replied_of
not_open d n f text none = pick_false (is_there (Named n) d.received) _ _ none

module _ (t : Session) (n : ℕ) (ok : allows t ≡ true) (phase : selected t.link ≡ true) (none : is_there (Named n) t.device.received ≡ false) where
  no_reply : (later : List ℕ) → judged_of later ≡ 0 → step_of t (on_wish (Reply n)) later ≡ told 25 t
  unfolding event_of wish_of device.reply_of
  no_reply later good =
      let_through t (on_wish (Reply n)) later ok (record { phase = phase; good = good }) ∙ ap (by_device t (fresh t)) (not_open t.device n _ Wished none)

  no_abort : (later : List ℕ) → step_of t (on_wish (Abort n)) later ≡ told 25 t
  unfolding event_of wish_of device.abort_of
  no_abort later = let_through t (on_wish (Abort n)) later ok phase ∙ ap (by_device t (fresh t)) (not_open t.device n 0 Empty none)

-- ---- what goes out closes its slot

module _ (s : Session) (n : ℕ) (size : length s.device.received ≡ 32) (ok : allows s ≡ true) (phase : selected s.link ≡ true) where
  abbrev received : List Slot
  received = s.device.received

  abbrev at : ℕ
  at = device.received_at s.device n

  abbrev after : Session
  after = with_device s (received_freed s.device at)

  allowed : Allowed received
  allowed = allows_facts received size (holds s ok).device.received

  after_allowed : allows after ≡ true
  unfolding allows_open allows_test
  after_allowed =
      let h = holds s ok in
      let d = h.device in
      holds_allowed after
      (record {
        link = h.link;
        device = record { id = d.id; flag = d.flag; received = facts_allow (closed_allowed allowed at); own = d.own };
        phase = rw phase;
        test = h.test;
      })

  after_none : is_there (Named n) (set received at free) ≡ false
  after_none = closed_not_there allowed n

  module _ (f : ℕ) (text : Text) (there : is_there (Named n) received ≡ true) where
    abbrev header : Header
    header = data_header s.device.id false (primary_at s n).stream f n

    place : at < 32
    place = ltb-true at 32 there

    passed : passes (Named n) (primary_at s n) ≡ true
    passed = first_passes (passes (Named n)) free received (omega (arith, size, place))

    is_open : (primary_at s n).taken ≡ true
    is_open = named_taken n (primary_at s n) passed

    small : (primary_at s n).stream ≤ 127
    small = (primary_range (primary_at s n).stream (primary_at s n).function (allowed.primary at place is_open)).0

    replies : Replied s n f text (by_device s (fresh s) (device.answer 0 (received_freed s.device at) (Message header text)))
    unfolding data_header
    replies =
        record {
          header = header;
          sends = refl;
          is_open = is_open;
          named = named_system n (primary_at s n) passed;
          system = refl;
          stream = data_stream s.device.id false (primary_at s n).stream f n ∙ mod-eq_of_lt (omega (arith, small));
          function = refl;
          no_w = data_w s.device.id false (primary_at s n).stream f n;
          closes = refl;
          closed = after_none;
          not_again = no_reply after n after_allowed phase after_none;
          nor_aborted = no_abort after n after_allowed phase after_none;
        }

-- ---- the rows of reply and abort

-- where anything is sent, it is the reply
abbrev Goes : Session → ℕ → ℕ → Text → Stepped → Type 0
Goes s n f text r = (r.send ≡ Nothing → ⊥) → Replied s n f text r

module _ (s : Session) (n : ℕ) (size : length s.device.received ≡ 32) where
  record RowGoes (f : ℕ) (text : Text) (a : Acted) : Type 0 where
    goes : Goes s n f text (by_device s (fresh s) a)

  row_goes : (f : ℕ) (text : Text) → allows s ≡ true → selected s.link ≡ true → RowGoes f text (device.replied_of s.device n f text)
  unfolding device.replied_of
  row_goes f text ok phase =
      by_pick (RowGoes f text) _ _ _
      (λ there. record { goes = λ _. replies s n size ok phase f text there })
      (λ _. record { goes = λ some. absurd (some refl) })

  module _ (text : List ℕ) where
    -- A REPLY THAT IS ASKED FOR GOES OUT ONLY FOR A RECEIVED PRIMARY THAT IS STILL OPEN, with its stream, system bytes and function one more, and closes it;
    -- after it, the same reply is 25.
    pub replied : ((step_of s (on_wish (Reply n)) text).send ≡ Nothing → ⊥)
        → Replied s n ((primary_at s n).function + 1) Wished (step_of s (on_wish (Reply n)) text)
    unfolding event_of wish_of device.reply_of
    replied =
        by_gate (Goes s n ((primary_at s n).function + 1) Wished) s (on_wish (Reply n)) text
        (λ ok g. (row_goes _ Wished ok g.phase).goes) (λ _ _ some. absurd (some refl))

    -- SO DOES AN ABORT, with function 0 and no text.
    pub aborted : ((step_of s (on_wish (Abort n)) text).send ≡ Nothing → ⊥) → Replied s n 0 Empty (step_of s (on_wish (Abort n)) text)
    unfolding event_of wish_of device.abort_of
    aborted =
        by_gate (Goes s n 0 Empty) s (on_wish (Abort n)) text (λ ok phase. (row_goes 0 Empty ok phase).goes) (λ _ _ some. absurd (some refl))

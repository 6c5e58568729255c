-- The list behind 14 and the facts that it stands for give each other, half by half, since each of its tests is a fact.
use Prim.Native.Nat.{◌^◌, ◌≤◌, ◌<◌}
use mathlib.Core.Bool.{Bool, true, false, false≢true, not, cond}
use mathlib.Core.List.{List}
use mathlib.Core.Path.{◌≡◌, refl}
use native.Mathlib.Omega.{arith}
use borrow.Author.Tests.{le-ltb, eq-eqb, eqb-true, not-true}
use lib.Dec.{eqb}
use lib.ListN.{get_or}
use Rattle.slots.specs.Slots.{found_at, is_there}
use Rattle.slots.specs.declared.Slot.{Slot}
use Rattle.slots.specs.declared.Linktest.{Linktest}
use Rattle.slots.specs.declared.Query.{Query}
use Rattle.slots.specs.declared.Query.TheVariants.{Taken, Named}
use Rattle.slots.proofs.Found.{none_there}
use Rattle.state.specs.State.{is_connected, is_selected, received_open}
use Rattle.state.specs.declared.Phase.{Phase}
use Rattle.state.specs.declared.Link.{Link}
use Rattle.state.specs.declared.Device.{Device}
use Rattle.state.specs.declared.Session.{Session}
use Rattle.allowed.specs.States.{allows_link, allows_open, allows_test, allows}
use Rattle.allowed.proofs.Slots.{Allowed, facts_allow, allows_facts}
use Rattle.allowed.proofs.States.{Holds, holds, holds_allowed}
use Rattle.reached.specs.Reached.{Sized}

-- ---- the facts

pub record KeptLink (l : Link) : Type 0 where
  pub closed : l.linktest.running ≡ false → l.linktest.system ≡ 0
  pub connected : l.linktest.running ≡ true → is_connected l.phase ≡ true
  pub small : l.next < 2 ^ 32

pub record KeptDevice (d : Device) : Type 0 where
  pub id : d.id ≤ 32767
  pub flag : get_or d.flags 0 false ≡ false
  pub received : Allowed d.received
  pub own : Allowed d.own

-- a slot is taken only when selected
pub record Shut (p : Phase) (d : Device) : Type 0 where
  pub received : is_selected p ≡ false → found_at Taken d.received ≡ 32
  pub own : is_selected p ≡ false → found_at Taken d.own ≡ 32

-- a running linktest has system bytes of no own slot
pub record Unshared (t : Linktest) (own : List Slot) : Type 0 where
  pub none : t.running ≡ true → found_at (Named t.system) own ≡ 32

pub record Kept (s : Session) : Type 0 where
  pub link : KeptLink s.link
  pub device : KeptDevice s.device
  pub shut : Shut s.link.phase s.device
  pub test : Unshared s.link.linktest s.device.own

-- ---- the facts give the test

not_there : (q : Query) (l : List Slot) → found_at q l ≡ 32 → is_there q l ≡ false
not_there q l e = le-ltb (found_at q l) 32 (omega arith)

link_allowed : (l : Link) → KeptLink l → allows_link l ≡ true
unfolding allows_link
link_allowed l k = go l.linktest.running refl
  where
    go : (b : Bool) → l.linktest.running ≡ b → cond b (is_connected l.phase) (eqb l.linktest.system 0) ≡ true
    go true e = k.connected e
    go false e = eq-eqb l.linktest.system 0 (k.closed e)

open_allowed : (p : Phase) (d : Device) → Shut p d → allows_open p d ≡ true
unfolding allows_open
open_allowed p d k = go (is_selected p) refl
  where
    go : (b : Bool) → is_selected p ≡ b → cond b true (cond (received_open d) false (not (is_there Taken d.own))) ≡ true
    go true e = refl
    go false e = rw (not_there Taken d.received (k.received e), not_there Taken d.own (k.own e))

test_allowed : (t : Linktest) (d : Device) → Unshared t d.own → allows_test t d ≡ true
unfolding allows_test
test_allowed t d k = go t.running refl
  where
    go : (b : Bool) → t.running ≡ b → cond b (not (is_there (Named t.system) d.own)) true ≡ true
    go true e = rw (not_there (Named t.system) d.own (k.none e))
    go false e = refl

pub kept_allowed : (s : Session) → Kept s → allows s ≡ true
kept_allowed s k =
    holds_allowed s
    (record {
      link = link_allowed s.link k.link;
      device = record { id = k.device.id; flag = k.device.flag; received = facts_allow k.device.received; own = facts_allow k.device.own };
      phase = open_allowed s.link.phase s.device k.shut;
      test = test_allowed s.link.linktest s.device k.test;
    })

-- ---- the test gives the facts, where the sizes are those of the code's types

neither : (a b : Bool) → cond a false (not b) ≡ true → (a ≡ false) × (b ≡ false)
neither true b e = absurd (false≢true e)
neither false b e = (refl, not-true b e)

module _ (s : Session) (sized : Sized s) where
  abbrev test : Linktest
  test = s.link.linktest

  link_facts : allows_link s.link ≡ true → KeptLink s.link
  unfolding allows_link
  link_facts e =
      record { closed = λ r. eqb-true test.system 0 (rw r at e); connected = λ r. rw r at e; small = sized.next }

  shut_facts : allows_open s.link.phase s.device ≡ true → Shut s.link.phase s.device
  unfolding allows_open
  shut_facts e =
      record {
        received = λ u. none_there Taken s.device.received sized.received (parts u).0;
        own = λ u. none_there Taken s.device.own sized.own (parts u).1;
      }
    where
      parts : is_selected s.link.phase ≡ false → (received_open s.device ≡ false) × (is_there Taken s.device.own ≡ false)
      parts u = neither (received_open s.device) (is_there Taken s.device.own) (rw u at e)

  test_facts : allows_test test s.device ≡ true → Unshared test s.device.own
  unfolding allows_test
  test_facts e =
      record {
        none = λ r. none_there (Named test.system) s.device.own sized.own (not-true (is_there (Named test.system) s.device.own) (rw r at e));
      }

  pub allowed_kept : allows s ≡ true → Kept s
  allowed_kept e =
      let h : Holds s = holds s e in
      record {
        link = link_facts h.link;
        device =
            record {
              id = h.device.id;
              flag = h.device.flag;
              received = allows_facts s.device.received sized.received h.device.received;
              own = allows_facts s.device.own sized.own h.device.own;
            };
        shut = shut_facts h.phase;
        test = test_facts h.test;
      }

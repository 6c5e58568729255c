-- Each way in which a link or a device changes keeps the facts: what is opened has system bytes that nothing holds, and what is emptied is all zero.
use Prim.Native.Nat.{ℕ, ◌^◌, ◌≤◌, ◌<◌}
use mathlib.Core.Bool.{Bool, true, false, false≢true}
use mathlib.Core.List.{List}
use mathlib.Core.Path.{◌≡◌, refl, sym, ◌∙◌}
use native.Mathlib.Omega.{arith}
use borrow.Author.Tests.{eq-eqb}
use lib.ListN.{set}
use lib.Seq.{get_or-set_other}
use Rattle.slots.specs.Slots.{free, slot_of, no_slots, no_test, test_of, passes, found_at, is_primary}
use Rattle.fresh.specs.Fresh.{is_held, one_more}
use Rattle.slots.specs.declared.Slot.{Slot}
use Rattle.slots.specs.declared.Linktest.{Linktest}
use Rattle.slots.specs.declared.Query.{Query}
use Rattle.slots.specs.declared.Query.TheVariants.{Taken, Named}
use Rattle.slots.proofs.Found.{other_named, no_slots_none, free_not_taken, free_not_named}
use Rattle.wire.proofs.Search.{stored_none}
use Rattle.fresh.proofs.Fresh.{one_more_is, fresh_free, fresh_small, not_in_own, not_in_test}
use Rattle.allowed.proofs.Slots.{Allowed, no_slots_allowed, closed_allowed, opened_allowed}
use Rattle.state.specs.State.{fresh, is_connected, is_selected, with_phase, with_test, numbered, gone}
use Rattle.state.specs.State.{with_received, with_own, with_flag, received_freed, own_freed, emptied}
use Rattle.state.specs.declared.Phase.{Phase}
use Rattle.state.specs.declared.Link.{Link}
use Rattle.state.specs.declared.Device.{Device}
use Rattle.state.specs.declared.Session.{Session}
use Rattle.reached.proofs.Kept.{KeptLink, KeptDevice, Shut, Unshared, Kept}

-- ---- the link

module _ {l : Link} (k : KeptLink l) where
  pub link_untested : KeptLink (with_test l no_test)
  link_untested = record { closed = λ r. refl; connected = λ r. absurd (false≢true r); small = k.small }

  pub link_phased : (p : Phase) → is_connected p ≡ true → KeptLink (with_phase l p)
  link_phased p e = record { closed = k.closed; connected = λ r. e; small = k.small }

  pub link_gone : KeptLink (gone l)
  link_gone = record { closed = λ r. refl; connected = λ r. absurd (false≢true r); small = k.small }

  module _ (n : ℕ) (small : n < 2 ^ 32) where
    one_more_small : one_more n < 2 ^ 32
    one_more_small = omega (arith, one_more_is n small)

    pub link_numbered : KeptLink (numbered l n)
    link_numbered = record { closed = k.closed; connected = k.connected; small = one_more_small }

    pub link_tested : is_connected l.phase ≡ true → KeptLink (with_test (numbered l n) (test_of n))
    link_tested e = record { closed = λ r. absurd (false≢true (sym r)); connected = λ r. e; small = one_more_small }

-- ---- the device

module _ {d : Device} (k : KeptDevice d) where
  pub device_emptied : KeptDevice (emptied d)
  device_emptied = record { id = k.id; flag = k.flag; received = no_slots_allowed; own = no_slots_allowed }

  pub device_own_freed : (at : ℕ) → KeptDevice (own_freed d at)
  device_own_freed at = record { id = k.id; flag = k.flag; received = k.received; own = closed_allowed k.own at }

  pub device_received_freed : (at : ℕ) → KeptDevice (received_freed d at)
  device_received_freed at = record { id = k.id; flag = k.flag; received = closed_allowed k.received at; own = k.own }

  module _ (at n m f : ℕ) (p : is_primary m f ≡ true) where
    pub device_own_opened : found_at (Named n) d.own ≡ 32 → KeptDevice (with_own d (set d.own at (slot_of n m f)))
    device_own_opened none = record { id = k.id; flag = k.flag; received = k.received; own = opened_allowed k.own at n m f p none }

    pub device_received_opened : found_at (Named n) d.received ≡ 32 → KeptDevice (with_received d (set d.received at (slot_of n m f)))
    device_received_opened none = record { id = k.id; flag = k.flag; received = opened_allowed k.received at n m f p none; own = k.own }

  -- a flag of stream 1 or above
  pub device_flag : (m : ℕ) (b : Bool) → 1 ≤ m → KeptDevice (with_flag d m b)
  device_flag m b h =
      record {
        id = k.id;
        flag = get_or-set_other d.flags m 0 b false (λ e. omega arith) ∙ k.flag;
        received = k.received;
        own = k.own;
      }

-- ---- what is in no slot is in none once a slot is stored that is not it

none_stored : {l : List Slot} → Allowed l → (q : Query) (x : Slot) → passes q x ≡ false → (at : ℕ) → found_at q l ≡ 32 → found_at q (set l at x) ≡ 32
none_stored {l = l} a q x e at none = stored_none (passes q) x e l at (none ∙ sym a.size) ∙ a.size

-- ---- a slot is taken only when selected

pub shut_emptied : (p : Phase) (d : Device) → Shut p (emptied d)
shut_emptied p d = record { received = λ u. no_slots_none Taken free_not_taken; own = λ u. no_slots_none Taken free_not_taken }

pub shut_selected : (p : Phase) (d : Device) → is_selected p ≡ true → Shut p d
shut_selected p d e = record { received = λ u. absurd (false≢true (sym u ∙ e)); own = λ u. absurd (false≢true (sym u ∙ e)) }

module _ {p : Phase} {d : Device} (k : Shut p d) where
  -- from a phase that is not selected to any
  pub shut_still : (q : Phase) → is_selected p ≡ false → Shut q d
  shut_still q e = record { received = λ u. k.received e; own = λ u. k.own e }

  pub shut_flag : (m : ℕ) (b : Bool) → Shut p (with_flag d m b)
  shut_flag m b = record { received = k.received; own = k.own }

  pub shut_own_freed : Allowed d.own → (at : ℕ) → Shut p (own_freed d at)
  shut_own_freed a at = record { received = k.received; own = λ u. none_stored a Taken free free_not_taken at (k.own u) }

  pub shut_received_freed : Allowed d.received → (at : ℕ) → Shut p (received_freed d at)
  shut_received_freed a at = record { received = λ u. none_stored a Taken free free_not_taken at (k.received u); own = k.own }

-- ---- a running linktest has system bytes of no own slot

pub untested : (own : List Slot) → Unshared no_test own
untested own = record { none = λ r. absurd (false≢true r) }

pub test_emptied : (t : Linktest) → Unshared t no_slots
test_emptied t = record { none = λ r. no_slots_none (Named t.system) (free_not_named t.system) }

module _ {t : Linktest} {own : List Slot} (k : Unshared t own) (a : Allowed own) (at : ℕ) where
  pub test_freed : Unshared t (set own at free)
  test_freed = record { none = λ r. none_stored a (Named t.system) free (free_not_named t.system) at (k.none r) }

  pub test_opened : (n m f : ℕ) → is_held own t n ≡ false → Unshared t (set own at (slot_of n m f))
  test_opened n m f not_held = record { none = λ r. none_stored a (Named t.system) (slot_of n m f) (apart r) at (k.none r) }
    where
      apart : t.running ≡ true → passes (Named t.system) (slot_of n m f) ≡ false
      apart r = other_named n m f t.system (λ e. false≢true (sym (not_in_test own t n not_held) ∙ rw (r, eq-eqb t.system n (sym e))))

-- ---- the fresh number

module _ {s : Session} (k : Kept s) where
  pub fresh_not_held : is_held s.device.own s.link.linktest (fresh s) ≡ false
  fresh_not_held = fresh_free s.device.own s.link.linktest k.device.own.size s.link.next k.link.small

  pub fresh_unnamed : found_at (Named (fresh s)) s.device.own ≡ 32
  fresh_unnamed = not_in_own s.device.own s.link.linktest (fresh s) fresh_not_held k.device.own.size

  pub fresh_unshared : Unshared (test_of (fresh s)) s.device.own
  fresh_unshared = record { none = λ r. fresh_unnamed }

  pub fresh_in_range : fresh s < 2 ^ 32
  fresh_in_range = fresh_small s.device.own s.link.linktest k.device.own.size s.link.next k.link.small

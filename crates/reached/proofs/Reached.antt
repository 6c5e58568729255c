-- No event leads out of the list behind 14, and each open message has system bytes of its own: a made session has these facts, and each event keeps them.
use Prim.Native.Nat.{ℕ, ◌≤◌, ◌<◌}
use mathlib.Core.Bool.{true, false, false≢true}
use mathlib.Core.List.{List, [], ◌∷◌}
use mathlib.Core.Path.{◌≡◌, refl, sym, ◌∙◌}
use native.Mathlib.Omega.{arith}
use lib.ListN.{get_or}
use Rattle.slots.specs.Slots.{free, passes}
use Rattle.slots.specs.declared.Query.TheVariants.{Named}
use Rattle.slots.proofs.Found.{taken_named}
use Rattle.wire.proofs.Search.{none_at}
use Rattle.state.specs.State.{session_of}
use Rattle.allowed.specs.States.{allows}
use Rattle.state.specs.declared.Session.{Session}
use Rattle.allowed.proofs.Made.{made_allowed}
use Rattle.session.specs.Table.{step_of}
use Rattle.reached.specs.Reached.{Happened, after, AllFit, Sized, OneEach}
use Rattle.reached.proofs.Kept.{Kept, kept_allowed, allowed_kept}
use Rattle.reached.proofs.Changed.{fresh_not_held}
use Rattle.reached.proofs.Rows.{step_stays}

pub made_sized : (id : ℕ) → Sized (session_of id)
unfolding session_of
made_sized id = record { received = refl; own = refl; next = omega arith }

after_kept : (l : List Happened) (s : Session) → Kept s → AllFit l → Kept (after s l)
unfolding after
after_kept [] s k fits = k
after_kept (e ∷ l) s k (fit, fits) = after_kept l (step_of s e.event e.text).session (step_stays s k e.event e.text fit) fits

-- the facts say that each open message has system bytes of its own
kept_one_each : (s : Session) → Kept s → OneEach s
kept_one_each s k =
    record {
      fresh_free = fresh_not_held k;
      own = k.device.own.apart;
      test = λ r i h taken same. false≢true (sym (unnamed r i h) ∙ taken_named s.link.linktest.system (get_or s.device.own i free) taken same);
      received = k.device.received.apart;
    }
  where
    unnamed : s.link.linktest.running ≡ true → (i : ℕ) → i < 32 → passes (Named s.link.linktest.system) (get_or s.device.own i free) ≡ false
    unnamed r i h =
        none_at (passes (Named s.link.linktest.system)) free s.device.own
        (k.test.none r ∙ sym k.device.own.size) i (rw k.device.own.size h)

-- ---- from any state that the list allows

module _ (s : Session) (sized : Sized s) (e : allows s ≡ true) (l : List Happened) (fits : AllFit l) where
  reached_kept : Kept (after s l)
  reached_kept = after_kept l s (allowed_kept s sized e) fits

  pub allowed_stays : allows (after s l) ≡ true
  allowed_stays = kept_allowed (after s l) reached_kept

  pub allowed_one_each : OneEach (after s l)
  allowed_one_each = kept_one_each (after s l) reached_kept

-- ---- from a made session

module _ (id : ℕ) (h : id ≤ 32767) (l : List Happened) (fits : AllFit l) where
  -- NO STATE REACHED FROM A MADE SESSION BY ANY SEQUENCE OF EVENTS BREAKS THE LIST.
  pub reached_allowed : allows (after (session_of id) l) ≡ true
  reached_allowed = allowed_stays (session_of id) (made_sized id) (made_allowed id h) l fits

  -- In each the fresh number is held by no own slot and not by the linktest, no two open own messages share system bytes,
  -- and no two open received primaries do.
  pub reached_one_each : OneEach (after (session_of id) l)
  reached_one_each = allowed_one_each (session_of id) (made_sized id) (made_allowed id h) l fits

-- Every event of a run keeps to what the run leaves open, since the session's received slots are what it leaves open, from the first event on.
use Prim.Native.Nat.{ℕ, ◌≤◌}
use mathlib.Core.Bool.{Bool, true, false, false≢true, cond}
use mathlib.Core.List.{List, [], ◌∷◌}
use mathlib.Core.Logic.{inl, inr}
use mathlib.Core.Path.{◌≡◌, refl, ap, sym, ◌∙◌}
use borrow.Author.Tests.{eqb-true}
use lib.Dec.{eqb}
use Rattle.slots.specs.declared.Query.TheVariants.{Named}
use Rattle.slots.proofs.Found.{no_slots_there, free_not_named}
use Rattle.state.specs.State.{session_of, is_selected}
use Rattle.state.specs.declared.Session.{Session}
use Rattle.allowed.proofs.Made.{made_allowed}
use Rattle.session.specs.Table.{step_of}
use Rattle.session.specs.Stepped.{Stepped}
use Rattle.session.specs.declared.Event.{Event}
use Rattle.reached.specs.Reached.{Happened, after, Fits, AllFit}
use Rattle.reached.proofs.Kept.{Kept, kept_allowed, allowed_kept}
use Rattle.reached.proofs.Rows.{step_stays}
use Rattle.reached.proofs.Reached.{made_sized}
use Rattle.protocol.specs.Protocol.{is_data, acts}
use Rattle.protocol.proofs.Carried.{id_stays}
use Rattle.protocol.proofs.Quiet.{quiet}
use Rattle.protocol.proofs.Refused.{unchanged}
use Rattle.audit.specs.Run.{Seen, seen_as, seen_of, run_from, run_of, At}
use Rattle.audit.specs.Audit.{dropped}
use Rattle.audit.proofs.Open.{open_at}
use Rattle.audit.proofs.Moves.{Moves, step_moves}
use Rattle.audit.proofs.Left.{Leaves, leaves_out}
use Rattle.audit.proofs.Stands.{Stands, in_neither, moves_stands}
use Rattle.audit.proofs.Speaks.{Speaks, speaks}

-- ---- an event

-- what is said of an event that is seen after v
pub record Sound (x : Seen) (v : List Seen) : Type 0 where
  pub speaks : Speaks x v
  pub unsent : dropped x.number ≡ true → is_data x.send ≡ false
  pub phased : is_data x.send ≡ true → is_selected x.before ≡ true
  pub leaves : Leaves x → is_selected x.after ≡ false

dropped_idle : (n : ℕ) → dropped n ≡ true → acts n ≡ false
dropped_idle n d = go (eqb n 32) refl d
  where
    go : (b : Bool) → eqb n 32 ≡ b → cond b true (eqb n 33) ≡ true → acts n ≡ false
    go true w d = rw (eqb-true n 32 w)
    go false w d = rw (eqb-true n 33 d)

step_sound : (v : List Seen) (s : Session) (e : Event) (text : List ℕ) → Kept s → ((n : ℕ) → Stands v s.device.id s.device.received n)
    → Sound (seen_as e s.link.phase (step_of s e text)) v
step_sound v s e text k d =
    record {
      speaks = speaks v s e (step_of s e text) (step_moves s e text) d;
      unsent = λ w. ap is_data (unchanged s e text (dropped_idle (step_of s e text).number w)).silent;
      phased = λ w. go (is_selected s.link.phase) refl w;
      leaves = leaves_out s text (kept_allowed s k) e;
    }
  where
    go : (b : Bool) → is_selected s.link.phase ≡ b → is_data (step_of s e text).send ≡ true → b ≡ true
    go true w m = refl
    go false w m = absurd (false≢true (sym (quiet s e text w).unsent ∙ m))

-- ---- a run

abbrev pub AllSound : List Seen → Type 0
AllSound [] = Unit {0}
AllSound (x ∷ v) = Sound x v × AllSound v

pub sound_at : (u : List Seen) (i : ℕ) (x : Seen) (v : List Seen) → AllSound u → At u i x v → Sound x v
sound_at [] i x v a p = absurd p
sound_at (y ∷ u) i x v (a, b) (inl (p, q, r)) = rw (q, r) a
sound_at (y ∷ u) i x v (a, b) (inr p) = sound_at u i x v b p

-- the session after a run, with what is said of the run
record Follows (v : List Seen) (s : Session) : Type 0 where
  kept : Kept s
  stands : (n : ℕ) → Stands v s.device.id s.device.received n
  sound : AllSound v

step_follows : (v : List Seen) (s : Session) → Follows v s → (e : Event) (text : List ℕ) → Fits e
    → Follows (seen_as e s.link.phase (step_of s e text) ∷ v) (step_of s e text).session
step_follows v s k e text fits =
    let r : Stepped = step_of s e text in
    let m : Moves s e r = step_moves s e text in
    let kept : Kept r.session = step_stays s k.kept e text fits in
    record {
      kept = kept;
      stands = λ n. rw (id_stays s e text) (moves_stands v s k.kept e r kept m n (k.stands n));
      sound = (step_sound v s e text k.kept k.stands, k.sound);
    }

made_follows : (id : ℕ) → id ≤ 32767 → Follows [] (session_of id)
unfolding session_of open_at
made_follows id h =
    record {
      kept = allowed_kept (session_of id) (made_sized id) (made_allowed id h);
      stands = λ n. in_neither refl (no_slots_there (Named n) (free_not_named n));
      sound = tt;
    }

run_follows : (l : List Happened) (v : List Seen) (s : Session) → Follows v s → AllFit l → Follows (run_from s v l) (after s l)
unfolding run_from after
run_follows [] v s k fits = k
run_follows (e ∷ l) v s k (fit, fits) =
    run_follows l (seen_of s e ∷ v) (step_of s e.event e.text).session (step_follows v s k e.event e.text fit) fits

pub run_sound : (id : ℕ) → id ≤ 32767 → (l : List Happened) → AllFit l → AllSound (run_of id l)
run_sound id h l fits = (run_follows l [] (session_of id) (made_follows id h) fits).sound

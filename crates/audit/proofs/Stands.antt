-- The received slots are the primaries that a run leaves open: what opens or closes a slot does so to the run, and what does not end in selected leaves none.
use Prim.Native.Nat.{ℕ, ◌<◌}
use mathlib.Core.Bool.{Bool, true, false, false≢true}
use mathlib.Core.List.{List, ◌∷◌}
use mathlib.Core.Logic.{inl}
use mathlib.Core.Option.{none, some}
use mathlib.Core.Path.{◌≡◌, refl, ap, sym, ◌∙◌}
use native.Mathlib.Decide.{ℕ_discrete}
use native.Mathlib.Omega.{arith}
use borrow.Author.Tests.{eq-eqb, ne_eqb, ltb-true, le-ltb}
use lib.Dec.{eqb, ltb}
use lib.ListN.{length, get_or, set}
use lib.Seq.{get_or-set_same, get_or-set_other}
use Rattle.frame.specs.Header.{w_of, stream_of, data_header}
use Rattle.frame.specs.declared.Header.{Header}
use Rattle.slots.specs.Slots.{free, slot_of, passes, found_at, is_there}
use Rattle.slots.specs.declared.Slot.{Slot}
use Rattle.slots.specs.declared.Query.{Query}
use Rattle.slots.specs.declared.Query.TheVariants.{Free, Taken, Named}
use Rattle.slots.proofs.Found.{free_not_named, named_system, named_taken, none_there, other_named, passes_free, taken_first, taken_named}
use Rattle.wire.proofs.Search.{first_passes, stored_here, stored_other}
use Rattle.allowed.proofs.Slots.{closed_not_there}
use Rattle.message.specs.declared.Text.{Text}
use Rattle.message.specs.Send.{Send}
use Rattle.state.specs.State.{is_selected}
use Rattle.state.specs.declared.Session.{Session}
use Rattle.device.specs.Rows.{received_at}
use Rattle.session.specs.Stepped.{Stepped}
use Rattle.session.specs.declared.Event.{Event}
use Rattle.reached.proofs.Kept.{Kept}
use Rattle.audit.specs.Run.{Seen, seen_as}
use Rattle.audit.specs.Audit.{Entry, primary, reply, neither, entry_of, delivered, ReceivedAt}
use Rattle.audit.proofs.Places.{seen_still}
use Rattle.audit.proofs.Open.{closes_as, ends, open_at, open_new, open_gone, open_same}
use Rattle.audit.proofs.Moves.{Goes, no_data, to_primary, unasked, Idle, Opens, Closes, Moves, opens, closes as closing, stays, leaves}

-- ---- system bytes among slots

-- the slot with these system bytes is where it was, and as it was
record Same (l l' : List Slot) (n : ℕ) : Type 0 where
  place : found_at (Named n) l' ≡ found_at (Named n) l
  slot : get_or l' (found_at (Named n) l') free ≡ get_or l (found_at (Named n) l) free

stored_same : (l : List Slot) (at : ℕ) (x : Slot) (n : ℕ) → passes (Named n) x ≡ false → (at ≡ found_at (Named n) l → ⊥) → Same l (set l at x) n
stored_same l at x n e h =
    let p : found_at (Named n) (set l at x) ≡ found_at (Named n) l = stored_other (passes (Named n)) x e l at h in
    record {
      place = p;
      slot = ap (λ (i : ℕ). get_or (set l at x) i free) p ∙ get_or-set_other l at (found_at (Named n) l) x free (λ w. h (sym w));
    }

-- where no slot is taken none has these system bytes
none_named : (l : List Slot) (n : ℕ) → found_at Taken l ≡ 32 → is_there (Named n) l ≡ false
none_named l n none_taken = le-ltb (found_at (Named n) l) 32 (omega (arith, taken_first n l))

-- ---- the run and the slots

-- a slot has what this header of a primary to the device says
pub record Slotted (id n : ℕ) (h : Header) (p : Slot) : Type 0 where
  pub asked : w_of h ≡ true
  pub session : h.session ≡ id
  pub system : h.system ≡ n
  pub stream : p.stream ≡ stream_of h
  pub function : p.function ≡ h.byte3

-- no primary with these system bytes is open, and no slot has them; or the one received at place i is, and its slot is there
pub data Stands (v : List Seen) (id : ℕ) (l : List Slot) (n : ℕ) : Type 0 where
  in_neither : open_at v n ≡ none → is_there (Named n) l ≡ false → Stands v id l n
  in_both : (i : ℕ) (h : Header) → open_at v n ≡ some i → ReceivedAt v i h
      → is_there (Named n) l ≡ true → Slotted id n h (get_or l (found_at (Named n) l) free) → Stands v id l n

-- an event that leaves both
still : (x : Seen) (v : List Seen) (id n : ℕ) (l l' : List Slot) → open_at (x ∷ v) n ≡ open_at v n → Same l l' n → Stands v id l n → Stands (x ∷ v) id l' n
still x v id n l l' o q (in_neither c t) = in_neither (o ∙ c) (ap (λ (i : ℕ). ltb i 32) q.place ∙ t)
still x v id n l l' o q (in_both i h c a t d) = in_both i h (o ∙ c) (seen_still _ i x v a) (ap (λ (i : ℕ). ltb i 32) q.place ∙ t) (rw q.slot d)

-- what is no reply closes nothing
pub no_reply : (e : Event) (x : Send) → Goes e x → (n : ℕ) → closes_as (entry_of e) x n ≡ false
no_reply e x (no_data d) n = by_entry (entry_of e)
  where
    by_entry : (k : Entry) → closes_as k x n ≡ false
    by_entry (primary h) = refl
    by_entry (reply k) = rw d
    by_entry neither = refl
no_reply e x (to_primary h p a) n = ap (λ (k : Entry). closes_as k x n) p
no_reply e x (unasked p u) n = ap (λ (k : Entry). closes_as k x n) p

module _ (v : List Seen) (s : Session) (k : Kept s) where
  abbrev slots : List Slot
  slots = s.device.received

  abbrev me : ℕ
  me = s.device.id

  found_in : (q : Query) → is_there q slots ≡ true → found_at q slots < length slots
  found_in q e = omega (arith, k.device.received.size, ltb-true (found_at q slots) 32 e)

  -- two tests that no slot passes both find two places
  apart : (p q : Query) → is_there p slots ≡ true → ((x : Slot) → passes p x ≡ true → passes q x ≡ true → ⊥) → found_at p slots ≡ found_at q slots → ⊥
  apart p q e never w =
      never (get_or slots (found_at p slots) free) (first_passes (passes p) free slots (found_in p e))
      (ap (λ (i : ℕ). passes q (get_or slots i free)) w ∙ first_passes (passes q) free slots (rw (← w) (found_in p e)))

  -- ---- a primary is delivered, and takes the lowest free slot

  module _ (e : Event) (h : Header) (r : Stepped) (p : entry_of e ≡ primary h) (z : is_selected s.link.phase ≡ true) (o : Opens s h r) where
    abbrev delivery : Seen
    delivery = seen_as e s.link.phase r

    abbrev place : ℕ
    place = found_at Free slots

    abbrev new_slot : Slot
    new_slot = slot_of h.system (stream_of h) h.byte3

    place_in : place < length slots
    place_in = found_in Free o.room

    heard : (n : ℕ) → delivered delivery n ≡ eqb h.system n
    heard n = rw (o.number, p, o.w)

    not_ended : (n : ℕ) → ends delivery n ≡ false
    not_ended n = rw (o.state, z, p)

    opens_new : Stands (delivery ∷ v) me (set slots place new_slot) h.system
    opens_new =
        let n : ℕ = h.system in
        let size : length slots ≡ 32 = k.device.received.size in
        let missing : found_at (Named n) slots ≡ length slots = none_there (Named n) slots size o.unnamed ∙ sym size in
        let at : found_at (Named n) (set slots place new_slot) ≡ place =
        stored_here (passes (Named n)) new_slot (taken_named n new_slot refl refl) slots place place_in missing in
        let stored = ap (λ (i : ℕ). get_or (set slots place new_slot) i free) at ∙ get_or-set_same slots place new_slot free place_in in
        in_both (length v) h (open_new delivery v n (heard n ∙ eq-eqb n n refl))
        (record { seen = delivery; earlier = v; at = inl (refl, refl, refl); is = p })
        (ap (λ (i : ℕ). ltb i 32) at ∙ o.room)
        (rw stored (record { asked = o.w; session = o.mine; system = refl; stream = refl; function = refl }))

    opens_stands : (n : ℕ) → Stands v me slots n → Stands (delivery ∷ v) me (set slots place new_slot) n
    opens_stands n d = go (ℕ_discrete h.system n)
      where
        go : Dec (h.system ≡ n) → Stands (delivery ∷ v) me (set slots place new_slot) n
        go (yes w) = rw (← w) opens_new
        go (no w) =
            still delivery v me n slots (set slots place new_slot) (open_same delivery v n (heard n ∙ ne_eqb h.system n w) (not_ended n))
            (stored_same slots place new_slot n (other_named h.system (stream_of h) h.byte3 n w)
            (apart Free (Named n) o.room (λ x f t. false≢true (sym (passes_free x f) ∙ named_taken n x t))))
            d

  -- ---- a reply or an abort goes out, and frees its slot

  module _ (e : Event) (m f : ℕ) (t : Text) (r : Stepped) (p : entry_of e ≡ reply m) (z : is_selected s.link.phase ≡ true) (o : Closes s e m f t r) where
    abbrev answering : Seen
    answering = seen_as e s.link.phase r

    abbrev freed : List Slot
    freed = set slots (received_at s.device m) free

    unheard : (n : ℕ) → delivered answering n ≡ false
    unheard n = rw o.number

    ended : (n : ℕ) → ends answering n ≡ eqb m n
    unfolding data_header
    ended n = rw (o.state, o.sends, z, p)

    closes_stands : (n : ℕ) → Stands v me slots n → Stands (answering ∷ v) me freed n
    closes_stands n d = go (ℕ_discrete m n)
      where
        go : Dec (m ≡ n) → Stands (answering ∷ v) me freed n
        go (yes q) =
            in_neither (open_gone answering v n (unheard n) (ended n ∙ eq-eqb m n q))
            (ap (λ (i : ℕ). is_there (Named i) freed) (sym q) ∙ closed_not_there k.device.received m)
        go (no q) =
            still answering v me n slots freed (open_same answering v n (unheard n) (ended n ∙ ne_eqb m n q))
            (stored_same slots (received_at s.device m) free n (free_not_named n)
            (apart (Named m) (Named n) o.named (λ x a b. q (sym (named_system m x a) ∙ named_system n x b))))
            d

  -- ---- every event

  module _ (e : Event) (r : Stepped) (after : Kept r.session) where
    abbrev seen : Seen
    seen = seen_as e s.link.phase r

    abbrev now : List Slot
    now = r.session.device.received

    leaves_stands : Idle s e r → is_selected r.session.link.phase ≡ false → (n : ℕ) → Stands (seen ∷ v) me now n
    leaves_stands i p n = in_neither (open_gone seen v n (i.undelivered n) (rw p)) (none_named now n (after.shut.received p))

    stays_stands : Idle s e r → now ≡ slots → (n : ℕ) → Stands v me slots n → Stands (seen ∷ v) me now n
    stays_stands i q n d = go (is_selected r.session.link.phase) refl
      where
        go : (b : Bool) → is_selected r.session.link.phase ≡ b → Stands (seen ∷ v) me now n
        go true p =
            still seen v me n slots now (open_same seen v n (i.undelivered n) (rw p (no_reply e r.send i.goes n)))
            (record { place = ap (found_at (Named n)) q; slot = ap (λ (x : List Slot). get_or x (found_at (Named n) x) free) q }) d
        go false p = leaves_stands i p n

    pub moves_stands : Moves s e r → (n : ℕ) → Stands v me slots n → Stands (seen ∷ v) me now n
    moves_stands (opens h p z o) n d = rw (ap (λ (x : Session). x.device.received) o.state) (opens_stands e h r p z o n d)
    moves_stands (closing m f t p z o) n d = rw (ap (λ (x : Session). x.device.received) o.state) (closes_stands e m f t r p z o n d)
    moves_stands (stays i q) n d = stays_stands i q n d
    moves_stands (leaves i p) n d = leaves_stands i p n

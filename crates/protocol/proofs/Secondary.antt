-- A secondary is delivered only to the own primary with its system bytes and stream, and closes it; another stays, since no two have the same system bytes.
use Prim.Native.Nat.{ℕ, ◌+◌, ◌<◌}
use mathlib.Core.Bool.{Bool, true, false, false≢true, cond}
use mathlib.Core.List.{List}
use mathlib.Core.Logic.{◌⊎◌, inl, inr}
use mathlib.Core.Path.{◌≡◌, refl, ap, sym, ◌∙◌}
use native.Mathlib.Omega.{arith}
use borrow.Author.Tests.{ltb-true, eqb-true}
use lib.Dec.{eqb}
use lib.ListN.{length, get_or, set}
use lib.Seq.{get_or-set_same, get_or-set_other}
use Rattle.wire.specs.Number.{AtMost}
use Rattle.wire.proofs.Choice.{both}
use Rattle.frame.specs.Header.{stream_of}
use Rattle.frame.specs.declared.Header.{Header}
use Rattle.slots.specs.Slots.{free, passes, found_at, is_there}
use Rattle.slots.specs.declared.Slot.{Slot}
use Rattle.slots.specs.declared.Query.TheVariants.{Named, Answered}
use Rattle.wire.proofs.Search.{first_passes}
use Rattle.allowed.proofs.Slots.{Allowed, allows_facts, taken_place, closed_not_there}
use Rattle.text.specs.Text.{judged_of}
use Rattle.text.proofs.Judged.{judged_range}
use Rattle.message.specs.declared.Received.TheVariants.{Data}
use Rattle.state.specs.declared.Session.{Session}
use Rattle.allowed.proofs.States.{holds}
use Rattle.session.specs.Table.{step_of}
use Rattle.session.specs.Stepped.{Stepped}
use Rattle.session.specs.declared.Event.{Event}
use Rattle.session.specs.declared.Event.TheVariants.{Received as on_received}
use Rattle.protocol.specs.Protocol.{delivers, answered_at, own_of, Awaits, Delivered, NotSwapped}
use Rattle.protocol.proofs.Rows.{Answers, Does, stays, judges, links, carries, by_hearing, answers, step_does}

-- ---- the primary that a secondary answers

one_of : (g f : ℕ) (b : Bool) → eqb f 0 ≡ b → cond b true (eqb (g + 1) f) ≡ true → (g + 1 ≡ f) ⊎ (f ≡ 0)
one_of g f true z e = inr (eqb-true f 0 z)
one_of g f false z e = inl (eqb-true (g + 1) f e)

answered_awaits : (h : Header) (p : Slot) → passes (Answered h.system (stream_of h) h.byte3) p ≡ true → Awaits h p
unfolding passes
answered_awaits h p e =
    let last : Bool = cond (eqb h.byte3 0) true (eqb (p.function + 1) h.byte3) in
    let a = both p.taken (cond (eqb p.system h.system) (cond (eqb p.stream (stream_of h)) last false) false) e in
    let b = both (eqb p.system h.system) (cond (eqb p.stream (stream_of h)) last false) a.1 in
    let c = both (eqb p.stream (stream_of h)) last b.1 in
    record {
      is_open = a.0;
      system = eqb-true p.system h.system b.0;
      stream = eqb-true p.stream (stream_of h) c.0;
      function = one_of p.function h.byte3 (eqb h.byte3 0) refl c.1;
    }

-- ---- the row that answers 31

module _ (s : Session) (e : Event) (text : List ℕ) (r : Stepped) (bytes : AtMost 0xFF text) (is : r.number ≡ 31) where
  elsewhere : delivers r.number ≡ false → ⊥
  elsewhere z = false≢true (sym z ∙ ap delivers is)

  does_answer : Does s e text r → (h : Header) × Answers s e h r
  does_answer (stays n z w) = absurd (elsewhere (ap (λ (x : Stepped). delivers x.number) w ∙ z))
  does_answer (judges z w) =
      let k : judged_of text ≡ 31 = sym (ap (λ (x : Stepped). x.number) w) ∙ is in
      absurd (omega (arith, judged_range text bytes))
  does_answer (links a z y) = absurd (elsewhere z)
  does_answer (carries z a y) = absurd (elsewhere y)
  does_answer (by_hearing h i w q) = let k : ◌≡◌ {A = ℕ} 30 31 = sym w ∙ is in absurd (omega arith)
  does_answer (answers h a) = (h, a)

module _ (s : Session) (e : Event) (h : Header) (r : Stepped) (size : length s.device.own ≡ 32) (a : Answers s e h r) where
  abbrev own : List Slot
  own = s.device.own

  abbrev at : ℕ
  at = answered_at s h

  place : at < 32
  place = ltb-true at 32 a.there

  awaits : Awaits h (own_of s at)
  awaits = answered_awaits h (own_of s at) (first_passes (passes (Answered h.system (stream_of h) h.byte3)) free own (omega (arith, size, place)))

  allowed : Allowed own
  allowed = allows_facts own size (holds s a.allowed).device.own

  -- the first slot with these system bytes is the one that is closed
  named : found_at (Named h.system) own ≡ at
  named = ap (λ (n : ℕ). found_at (Named n) own) (sym awaits.system) ∙ taken_place allowed at place awaits.is_open

  delivered : Delivered s h r
  delivered =
      record {
        place = place;
        awaits = awaits;
        no_w = a.no_w;
        closes = a.closes;
        closed =
            ap (λ (x : Session). is_there (Named h.system) x.device.own) a.closes
            ∙ ap (λ (i : ℕ). is_there (Named h.system) (set own i free)) (sym named)
            ∙ closed_not_there allowed h.system;
        silent = a.silent;
      }

  apart : NotSwapped s h r
  apart i j hi other ti e =
      let here : i ≡ at = sym (taken_place allowed i hi ti) ∙ ap (λ (n : ℕ). found_at (Named n) own) e ∙ named in
      let after : (k : ℕ) → own_of r.session k ≡ get_or (set own at free) k free = λ k. ap (λ (x : Session). own_of x k) a.closes in (
        after i ∙ ap (λ (k : ℕ). get_or (set own at free) k free) here ∙ get_or-set_same own at free free (omega (arith, size, place)),
        after j ∙ get_or-set_other own at j free free (λ w. other (here ∙ sym w)),
      )

module _ (s : Session) (text : List ℕ) (bytes : AtMost 0xFF text) (size : length s.device.own ≡ 32) where
  -- A SECONDARY IS DELIVERED ONLY TO THE OWN PRIMARY WITH ITS SYSTEM BYTES AND STREAM, AND CLOSES IT.
  pub secondary : (e : Event) → (step_of s e text).number ≡ 31 → (h : Header) × (e ≡ on_received (Data h)) × Delivered s h (step_of s e text)
  secondary e is =
      let (h, a) = does_answer s e text (step_of s e text) bytes is (step_does s e text) in
      (h, a.event, delivered s e h (step_of s e text) size a)

  -- TWO OPEN S1F1 NEVER SWAP REPLIES: the open own primary with the secondary's system bytes is closed, and whatever is at another place is as it was.
  pub never_swapped : (h : Header) → (step_of s (on_received (Data h)) text).number ≡ 31 → NotSwapped s h (step_of s (on_received (Data h)) text)
  never_swapped h is i j hi other ti e =
      let (k, a) = does_answer s (on_received (Data h)) text (step_of s (on_received (Data h)) text) bytes is (step_does s (on_received (Data h)) text) in
      let z : on_received (Data h) ≡ on_received (Data k) = a.event in
      let w : h ≡ k = cc in
      apart s (on_received (Data h)) k (step_of s (on_received (Data h)) text) size a i j hi other ti (e ∙ ap (λ (x : Header). x.system) w)

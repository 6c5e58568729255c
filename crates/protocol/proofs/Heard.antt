-- What is delivered with 30 had its flag set, a function other than 255 and a good text; and received stream 9 data provokes no S9 about a header.
use Prim.Native.Nat.{ℕ}
use mathlib.Core.Bool.{Bool, true, false, false≢true, cond}
use mathlib.Core.List.{List}
use mathlib.Core.Path.{◌≡◌, refl, ap, sym, ◌∙◌}
use native.Mathlib.Omega.{arith}
use Rattle.wire.specs.Number.{AtMost}
use Rattle.wire.proofs.Pick.{by_pick}
use Rattle.frame.specs.Header.{stream_of}
use Rattle.frame.specs.declared.Header.{Header}
use Rattle.text.specs.Text.{judged_of}
use Rattle.text.proofs.Judged.{judged_range}
use Rattle.message.specs.declared.Received.TheVariants.{Data}
use Rattle.state.specs.State.{fresh, selected, numbered}
use Rattle.state.specs.declared.Device.{Device}
use Rattle.state.specs.declared.Link.{Link}
use Rattle.state.specs.declared.Session.{Session}
use Rattle.link.specs.Rows as link
use Rattle.device.specs.Acted.{Acted}
use Rattle.device.proofs.Rows.{Ends, drops, complains, closes, aborts, opens, hears, data_ends}
use Rattle.session.specs.Table.{by_device, data_of, came_of, event_of, step_of}
use Rattle.session.specs.Stepped.{Stepped}
use Rattle.session.specs.declared.Event.{Event}
use Rattle.session.specs.declared.Event.TheVariants.{Received as on_received}
use Rattle.session.proofs.Gates.{by_gate}
use Rattle.protocol.specs.Protocol.{delivers, is_about, Unprovoked, Heard}
use Rattle.protocol.proofs.Rows.{Does, stays, judges, links, carries, by_hearing, answers, step_does}

-- ---- a primary that is delivered

module _ (s : Session) (e : Event) (text : List ℕ) (r : Stepped) (bytes : AtMost 0xFF text) (is : r.number ≡ 30) where
  elsewhere : delivers r.number ≡ false → ⊥
  elsewhere z = false≢true (sym z ∙ ap delivers is)

  does_hear : Does s e text r → (h : Header) × (e ≡ on_received (Data h)) × Heard s h text
  does_hear (stays n z w) = absurd (elsewhere (ap (λ (x : Stepped). delivers x.number) w ∙ z))
  does_hear (judges z w) =
      let k : judged_of text ≡ 30 = sym (ap (λ (x : Stepped). x.number) w) ∙ is in
      absurd (omega (arith, judged_range text bytes))
  does_hear (links a z y) = absurd (elsewhere z)
  does_hear (carries z a y) = absurd (elsewhere y)
  does_hear (by_hearing h i w q) = (h, i, q)
  does_hear (answers h a) = let k : ◌≡◌ {A = ℕ} 31 30 = sym a.number ∙ is in absurd (omega arith)

-- WHAT IS DELIVERED WITH 30 IS A PRIMARY TO THIS DEVICE, IN SELECTED; ITS STREAM'S FLAG WAS SET, ITS FUNCTION NOT 255, ITS TEXT GOOD.
pub heard : (s : Session) (e : Event) (text : List ℕ) → AtMost 0xFF text → (step_of s e text).number ≡ 30
    → (h : Header) × (e ≡ on_received (Data h)) × Heard s h text
heard s e text bytes is = does_hear s e text (step_of s e text) bytes is (step_does s e text)

-- ---- stream 9

-- a row of the device that sends no S9 and takes no fresh number
record Silent (a : Acted) : Type 0 where
  took : a.took ≡ false
  unsent : is_about a.send ≡ false

no_number : (b : Bool) (l : Link) (n : ℕ) → b ≡ false → (cond b (numbered l n) l).next ≡ l.next
no_number true l n e = absurd (false≢true (sym e))
no_number false l n e = refl

data_silent : (d : Device) (n : ℕ) (h : Header) (text : List ℕ) → stream_of h ≡ 9 → (a : Acted) → Ends d n h text a → Silent a
data_silent d n h text nine a (drops p) = record { took = refl; unsent = refl }
data_silent d n h text nine a (complains p other) = absurd (other nine)
data_silent d n h text nine a (closes w t) = record { took = refl; unsent = refl }
data_silent d n h text nine a (aborts g w) = record { took = refl; unsent = refl }
data_silent d n h text nine a (opens g w u room) = record { took = refl; unsent = refl }
data_silent d n h text nine a (hears g w) = record { took = refl; unsent = refl }

module _ (s : Session) (h : Header) (text : List ℕ) (nine : stream_of h ≡ 9) where
  of_device_row : (a : Acted) → Silent a → Unprovoked s (by_device s (fresh s) a)
  of_device_row a q = record { unsent = q.unsent; next = no_number a.took s.link (fresh s) q.took }

  -- RECEIVED STREAM 9 DATA NEVER PROVOKES AN S9 OF A FRESH NUMBER.
  pub unprovoked : Unprovoked s (step_of s (on_received (Data h)) text)
  unfolding event_of came_of data_of link.rejecting
  unprovoked =
      by_gate (Unprovoked s) s (on_received (Data h)) text
      (λ _ _. by_pick (Unprovoked s) (selected s.link) _ _
      (λ _. of_device_row _ (data_silent s.device (fresh s) h text nine _ (data_ends s.device (fresh s) h text)))
      (λ _. record { unsent = refl; next = refl }))
      (λ _ _. record { unsent = refl; next = refl })

-- What is kept and printed behind a record, from what its calls promise.
use Rattle.std.proofs.Common.{◌≡◌, ◌≢◌, ◌≤◌, ℕ, List, [], ◌∷◌, ◌++◌, length, drop, set, Result, OnOk, IsOk, sym, ap, ◌∙◌}
use Rattle.std.specs.Prelude.{decimal, codes}
use borrow.Author.Tests.{le-ltb, ne_eqb}
use Rattle.std.proofs.lemmas.Result.{on_ok_weaker}
use Rattle.refusal.specs.Answer.{number_in}
use Rattle.records.specs.Fields.{field_of}
use Rattle.message.specs.Notice.{told_in}
use Rattle.message.specs.Send.{send_in}
use Rattle.slots.specs.declared.Slot.{Slot}
use Rattle.state.specs.declared.Device.{Device}
use Rattle.state.specs.declared.Session.{Session}
use Rattle.state.specs.declared.Made.{Made}
use Rattle.state.specs.State as state
use Rattle.session.specs.declared.Event.{Event}
use Rattle.session.specs.declared.Stepped as answered
use Rattle.session.specs.Stepped.{Stepped, stepped_in}
use Rattle.session.specs.Table.{step_of}
use Rattle.driver.specs.Printed.{field}
use Rattle.driver.specs.Input.{keeps, with_bytes}
use Rattle.driver.proofs.Fields.{if_ok}
use Rattle.sessions.specs.Records.{state_fields, sent_fields, byte_of, slot_in, made_line, event_line, changed_line}
use Rattle.sessions.specs.Records.{of_session, make_done, event_done, changed_done, with_slot}
use Rattle.sessions.proofs.Printing.{in_three}
use Rattle.sessions.specs.declared.Sessions.{Sessions}

-- a record that has its bytes
long_enough : (n : ℕ) (s : List ℕ) (x y : Sessions × List ℕ) → n ≤ length s → with_bytes n s x y ≡ y
long_enough n s x y h = rw (le-ltb (length s) n h)

module _ {A E : Type 0} (r : Result A E) (p : Sessions) (old s said : List ℕ) where
  pub by_hand :
      {y k : Session} (n : ℕ) → n ≤ length s → y ≡ k
      → OnOk r (said ≡ old ++ changed_line y) → OnOk r ((record { session = y }, said) ≡ with_bytes n s (p, old) (changed_done (p, old) k))
  unfolding changed_done
  by_hand {y = y} {k = k} n h e q =
      let all = ap (λ (z : Session). changed_done (p, old) z) e ∙ sym (long_enough n s (p, old) (changed_done (p, old) k) h) in
      on_ok_weaker r (λ w. ap (λ (u : List ℕ). (record { session = y }, u)) w ∙ all) q

  pub made :
      {k n : ℕ} (m : Made) → 2 ≤ length s → k ≡ field_of 2 s 0 → state.made_in m ≡ state.made_of k → n ≡ number_in m.answer
      → OnOk r (said ≡ old ++ made_line n m.session) → OnOk r ((record { session = m.session }, said) ≡ make_done (p, old) s)
  made m h f e g q =
      let done = λ (t : state.Made). keeps (of_session t.session) (made_line t.number t.session) (p, old) in
      let all = ap done (e ∙ ap state.made_of f) ∙ sym (long_enough 2 s (p, old) (done (state.made_of (field_of 2 s 0))) h) in
      let line = ap (λ (i : ℕ). old ++ made_line i m.session) g in
      on_ok_weaker r (λ w. ap (λ (u : List ℕ). (record { session = m.session }, u)) (w ∙ line) ∙ all) q

  -- an event's line in its three parts
  pub stepped :
      {n : ℕ} {a b : List ℕ} (e : Event) (t : answered.Stepped) → stepped_in t ≡ step_of p.session e s → n ≡ told_in t.answer
      → a ≡ old ++ (codes "event" ++ (field (decimal n) ++ state_fields t.session))
      → b ≡ a ++ sent_fields (send_in t.send) s → (IsOk r → said ≡ b ++ 10 ∷ [])
      → OnOk r ((record { session = t.session }, said) ≡ event_done (p, old) e s)
  unfolding event_done
  stepped e t d f g h w =
      let done = λ (u : Stepped). keeps (of_session u.session) (event_line u s) (p, old) in
      let begun = g ∙ ap (λ (i : ℕ). old ++ (codes "event" ++ (field (decimal i) ++ state_fields t.session))) f in
      let ended = λ (u : List ℕ). (u ++ sent_fields (send_in t.send) s) ++ 10 ∷ [] in
      let three = in_three (codes "event") (decimal (told_in t.answer)) (state_fields t.session) old (sent_fields (send_in t.send) s) in
      let all = λ (ok : IsOk r). w ok ∙ ap (λ (u : List ℕ). u ++ 10 ∷ []) h ∙ ap ended begun ∙ three in
      if_ok r (λ ok. ap (λ (u : List ℕ). (record { session = t.session }, u)) (all ok) ∙ ap done d)

module _ (d y : Device) (s : List ℕ) (l : List Slot) (x : Slot) (is : x ≡ slot_in (drop 2 s)) where
  pub received_at : byte_of s 0 ≡ 0 → l ≡ set d.received (byte_of s 1) x → y ≡ state.with_received d l → y ≡ with_slot d s
  received_at h f g = rw h (g ∙ ap (state.with_received d) (f ∙ ap (set d.received (byte_of s 1)) is))

  pub own_at : byte_of s 0 ≢ 0 → l ≡ set d.own (byte_of s 1) x → y ≡ state.with_own d l → y ≡ with_slot d s
  own_at h f g = rw (ne_eqb (byte_of s 0) 0 h) (g ∙ ap (state.with_own d) (f ∙ ap (set d.own (byte_of s 1)) is))

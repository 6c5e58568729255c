-- A message dropped, from control or data; or none, where the call refuses.
use Rattle.std.proofs.Common.{◌≡◌, ◌∙◌, ℕ, List, ◌++◌, Result, Ok, Err, refl, append_assoc}
use Rattle.refusal.specs.declared.Refusal.{Refusal}
use Rattle.refusal.specs.Answer.{number_in}
use Rattle.outbox.specs.declared.Dropped.{Dropped}
use Rattle.outbox.specs.declared.Dropped.TheVariants.{Control, Data}
use Rattle.outbox.specs.Dropped.{dropped_in}
use Rattle.outbox.specs.Outbox.{drop_of}
use Rattle.messages.specs.declared.Outbox.{Outbox}
use Rattle.messages.specs.declared.Messages.{Messages}
use Rattle.messages.specs.Records.{drop_number, control_behind, data_behind, drop_line, drop_done}
use Rattle.driver.proofs.Fields.{wrote, in_three, if_ok}
use Rattle.messages.proofs.Messages.drop_message.Goals as goal
use Rattle.messages.proofs.Messages.drop_message.Goals.{in-Ok-Control, in-Ok-Data, in-Err}

number_told : (r : Result Dropped Refusal) → number_in r ≡ drop_number (dropped_in r)
number_told (Ok (Control n)) = refl
number_told (Ok (Data n)) = refl
number_told (Err e) = refl

done :
    (x : Messages × List ℕ) (r : Result Dropped Refusal) (c d : Outbox) (k : ℕ) (t : List ℕ) → let m = x.0 in
    dropped_in r ≡ drop_of m.control.bytes m.control.used m.«data».bytes m.«data».used → k ≡ number_in r
    → c ≡ control_behind (dropped_in r) m.control → d ≡ data_behind (dropped_in r) m.«data»
    → t ≡ x.1 ++ drop_line k c d → (record { reader = m.reader; control = c; «data» = d }, t) ≡ drop_done x
done x r c d k t e n p q w = rw (w, n, number_told r, p, q, e)

pub returns : goal.returns
returns c =
    let a = c.args in
    let m = a.self.now in
    let r = c.drop_next-dropped.result in
    let g = c.drop_next-dropped.ensures in
    let kept : (c.match-dropped.control ≡ control_behind (dropped_in r) m.control) × (c.match-dropped.data ≡ data_behind (dropped_in r) m.«data») =
    elim c.match-dropped.branch [
      | in-Ok-Control w ↦ let x = w.in-Ok-Control in let e = rw x.is at x.field-0-is in (rw (w.control-is, g.1, x.is, e), rw (w.data-is, g.2, x.is, e))
      | in-Ok-Data w ↦ let x = w.in-Ok-Data in let e = rw x.is at x.field-0-is in (rw (w.control-is, g.1, x.is, e), rw (w.data-is, g.2, x.is, e))
      | in-Err w ↦ (rw (w.control-is, g.1, w.in-Err.is), rw (w.data-is, g.2, w.in-Err.is))
    ] in
    let first = wrote a.stdout.now c.write.new.self _ c.in_ok-write.ensures.writes in
    let told = in_three a.stdout.now.said _ _ _ _ _ _ first c.in_ok-digits.ensures c.in_ok-digits-2.ensures in
    if_ok c.write_str.result
    (λ ok. done (m, a.stdout.now.said) r _ _ _ _ g.0 c.number.ensures kept.0 kept.1 (c.write_str.ensures.ok ok ∙ rw told (simp append_assoc)))

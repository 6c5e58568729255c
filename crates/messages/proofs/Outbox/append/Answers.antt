-- The answer, and the outbox that it leaves.
use Rattle.std.proofs.Common.{◌≡◌, ◌∙◌, ℕ, List, ◌++◌, Result, sym}
use Rattle.std.specs.Prelude.{codes}
use Rattle.refusal.specs.declared.Refusal.{Refusal}
use Rattle.refusal.specs.Answer.{counted_in}
use Rattle.outbox.specs.Outbox.{append_of, append_after}
use Rattle.driver.specs.Printed.{line, hex_field, counted_fields}
use Rattle.messages.specs.declared.Outbox.{Outbox}
use Rattle.messages.specs.Records.{used_after, append_to, append_line}
use Rattle.driver.proofs.Fields.{wrote_counted, in_three, if_ok}
use Rattle.messages.proofs.Outbox.append.Goals as goal
use Rattle.messages.proofs.Outbox.append.Goals.{in-Ok, in_default}

done :
    (o o' : Outbox) (f bytes said t : List ℕ) (r : Result ℕ Refusal) → counted_in r ≡ append_of o.bytes o.used f
    → bytes ≡ append_after (counted_in r) o.bytes o.used f → o' ≡ record { bytes = bytes; used = used_after (counted_in r) o.used }
    → t ≡ said ++ line (codes "appended") (counted_fields (counted_in r) ++ hex_field o'.bytes 1048576)
    → (o' ≡ append_to o f) × (t ≡ said ++ append_line o f)
done o o' f bytes said t r e g k w = (rw (k, g, e), rw (w, k, g, e))

pub returns : goal.returns
returns c =
    let a = c.args in
    let r = c.append-answer.result in
    let g = c.append-answer.ensures in
    let kept : c.match-answer.self ≡ record { bytes = c.append-answer.new.outbox; used = used_after (counted_in r) a.self.now.used } =
    elim c.match-answer.branch [ in-Ok w ↦ rw (w.self-is, w.in-Ok.is) | in_default w ↦ rw (w.self-is, w.in_default.is) ] in
    let same : c.match-answer.answer ≡ r = elim c.match-answer.branch [ in-Ok w ↦ w.answer-is ∙ sym w.in-Ok.is | in_default w ↦ w.answer-is ] in
    let first = wrote_counted a.stdout.now c.write.new.self (codes "appended") c.match-answer.answer c.in_ok-write.ensures.writes in
    let told = in_three a.stdout.now.said _ _ _ _ _ _ first c.in_ok-digits.ensures in
    if_ok c.write_str.result (λ ok. done a.self.now _ a.frame.now _ a.stdout.now.said _ r g.0 g.1 kept (told (c.write_str.ensures.ok ok) ∙ rw same))

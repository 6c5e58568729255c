-- Two outcomes that a promise permits for the same call are equal: each is the one that the definition gives.
use mathlib.Core.Path.{◌≡◌, sym, ap, ◌∙◌}
use Rattle.std.specs.Prelude.{Option, Some}
use Rattle.refusal.specs.Answer.{Counted, counted_in}
use Rattle.refusal.proofs.Once.{one_count}
use Rattle.wire.specs.Lent.{out_after}
use Rattle.message.specs.declared.Message.{Message}
use Rattle.message.specs.Send.{send_in}
use Rattle.message.specs.Written.{bytes_of}
use Rattle.message.proofs.Once.{one_send}
use Rattle.message.proofs.ReceivedFromHeader.from.Reads as received_reads
use Rattle.message.proofs.U32FromNotice.from.Reads as notice_reads
use Rattle.message.proofs.control_of.Reads as control_of_reads
use Rattle.message.proofs.response_of.Reads as response_of_reads
use Rattle.message.proofs.reject_of.Reads as reject_of_reads
use Rattle.message.proofs.write_message.Reads as write_message_reads

received_one : (κs : _) (a : _) (r r' : _) (s s' : _) → received_reads.Post κs a r s → received_reads.Post κs a r' s' → r ≡ r'
received_one κs a r r' s s' p q = p ∙ sym q

notice_one : (κs : _) (a : _) (r r' : _) (s s' : _) → notice_reads.Post κs a r s → notice_reads.Post κs a r' s' → r ≡ r'
notice_one κs a r r' s s' p q = p ∙ sym q

-- a message tells what is sent, and what is sent the message
one_message : (r r' : Message) → send_in (Some r) ≡ send_in (Some r') → r ≡ r'
one_message r r' e = let f : ◌≡◌ {A = Option Message} (Some r) (Some r') = one_send (Some r) (Some r') e in cc

control_of_one : (κs : _) (a : _) (r r' : _) (s s' : _) → control_of_reads.Post κs a r s → control_of_reads.Post κs a r' s' → r ≡ r'
control_of_one κs a r r' s s' p q = one_message r r' (p ∙ sym q)

response_of_one : (κs : _) (a : _) (r r' : _) (s s' : _) → response_of_reads.Post κs a r s → response_of_reads.Post κs a r' s' → r ≡ r'
response_of_one κs a r r' s s' p q = one_message r r' (p ∙ sym q)

reject_of_one : (κs : _) (a : _) (r r' : _) (s s' : _) → reject_of_reads.Post κs a r s → reject_of_reads.Post κs a r' s' → r ≡ r'
reject_of_one κs a r r' s s' p q = one_message r r' (p ∙ sym q)

write_message_one :
    (κs : _) (a : _) (r r' : _) (s s' : _) → write_message_reads.Post κs a r s → write_message_reads.Post κs a r' s'
    → (r ≡ r') × (s.1.1.0.now ≡ s'.1.1.0.now)
write_message_one κs a r r' s s' p q =
    let e : counted_in r ≡ counted_in r' = p.0 ∙ sym q.0 in
    (one_count r r' e, p.1 ∙ ap (λ (x : Counted). out_after x (bytes_of (send_in a.0) a.1.0.now) a.1.1.0.now) e ∙ sym q.1)

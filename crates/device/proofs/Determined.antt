-- Two outcomes that a promise permits for the same call are equal: each is the one that the definition gives.
use mathlib.Core.Path.{◌≡◌, ap, sym, ◌∙◌}
use Rattle.message.proofs.Once.{one_send, one_told}
use Rattle.device.specs.Acted.{Acted, acted_in}
use Rattle.device.specs.declared.Acted as answered
use Rattle.device.proofs.rejected.Reads as rejected_reads
use Rattle.device.proofs.data_came.Reads as data_came_reads
use Rattle.device.proofs.flag.Reads as flag_reads
use Rattle.device.proofs.send.Reads as send_reads
use Rattle.device.proofs.replied.Reads as replied_reads
use Rattle.device.proofs.t3.Reads as t3_reads

-- what the definitions are given tells what a row answers
one_acted : (r r' : answered.Acted) → acted_in r ≡ acted_in r' → r ≡ r'
one_acted r r' e =
    let a : r.answer ≡ r'.answer = one_told r.answer r'.answer (ap (λ (x : Acted). x.number) e) in
    let s : r.send ≡ r'.send = one_send r.send r'.send (ap (λ (x : Acted). x.send) e) in
    λ k. record { answer = a k; device = (e k).device; took = (e k).took; send = s k }

rejected_one : (κs : _) (a : _) (r r' : _) (s s' : _) → rejected_reads.Post κs a r s → rejected_reads.Post κs a r' s' → r ≡ r'
rejected_one κs a r r' s s' p q = one_acted r r' (p ∙ sym q)

data_came_one : (κs : _) (a : _) (r r' : _) (s s' : _) → data_came_reads.Post κs a r s → data_came_reads.Post κs a r' s' → r ≡ r'
data_came_one κs a r r' s s' p q = one_acted r r' (p ∙ sym q)

flag_one : (κs : _) (a : _) (r r' : _) (s s' : _) → flag_reads.Post κs a r s → flag_reads.Post κs a r' s' → r ≡ r'
flag_one κs a r r' s s' p q = one_acted r r' (p ∙ sym q)

send_one : (κs : _) (a : _) (r r' : _) (s s' : _) → send_reads.Post κs a r s → send_reads.Post κs a r' s' → r ≡ r'
send_one κs a r r' s s' p q = one_acted r r' (p ∙ sym q)

replied_one : (κs : _) (a : _) (r r' : _) (s s' : _) → replied_reads.Post κs a r s → replied_reads.Post κs a r' s' → r ≡ r'
replied_one κs a r r' s s' p q = one_acted r r' (p ∙ sym q)

t3_one : (κs : _) (a : _) (r r' : _) (s s' : _) → t3_reads.Post κs a r s → t3_reads.Post κs a r' s' → r ≡ r'
t3_one κs a r r' s s' p q = one_acted r r' (p ∙ sym q)

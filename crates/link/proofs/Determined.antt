-- Two outcomes that a promise permits for the same call are equal: each is the one that the definition gives.
use mathlib.Core.Path.{◌≡◌, ap, sym, ◌∙◌}
use Rattle.message.proofs.Once.{one_send, one_told}
use Rattle.link.specs.Linked.{Linked, linked_in}
use Rattle.link.specs.declared.Linked as answered
use Rattle.link.proofs.reject.Reads as reject_reads
use Rattle.link.proofs.rejected.Reads as rejected_reads
use Rattle.link.proofs.select_req.Reads as select_req_reads
use Rattle.link.proofs.deselect_req.Reads as deselect_req_reads
use Rattle.link.proofs.linktest_req.Reads as linktest_req_reads
use Rattle.link.proofs.linktest_rsp.Reads as linktest_rsp_reads
use Rattle.link.proofs.separate_req.Reads as separate_req_reads
use Rattle.link.proofs.connect.Reads as connect_reads
use Rattle.link.proofs.disconnect.Reads as disconnect_reads
use Rattle.link.proofs.linktest.Reads as linktest_reads
use Rattle.link.proofs.separate.Reads as separate_reads
use Rattle.link.proofs.t6.Reads as t6_reads
use Rattle.link.proofs.t7.Reads as t7_reads
use Rattle.link.proofs.t8.Reads as t8_reads

-- what the definitions are given tells what a row answers
one_linked : (r r' : answered.Linked) → linked_in r ≡ linked_in r' → r ≡ r'
one_linked r r' e =
    let a : r.answer ≡ r'.answer = one_told r.answer r'.answer (ap (λ (x : Linked). x.number) e) in
    let s : r.send ≡ r'.send = one_send r.send r'.send (ap (λ (x : Linked). x.send) e) in
    λ k. record { answer = a k; link = (e k).link; empties = (e k).empties; send = s k }

reject_one : (κs : _) (a : _) (r r' : _) (s s' : _) → reject_reads.Post κs a r s → reject_reads.Post κs a r' s' → r ≡ r'
reject_one κs a r r' s s' p q = one_linked r r' (p ∙ sym q)

rejected_one : (κs : _) (a : _) (r r' : _) (s s' : _) → rejected_reads.Post κs a r s → rejected_reads.Post κs a r' s' → r ≡ r'
rejected_one κs a r r' s s' p q = one_linked r r' (p ∙ sym q)

select_req_one : (κs : _) (a : _) (r r' : _) (s s' : _) → select_req_reads.Post κs a r s → select_req_reads.Post κs a r' s' → r ≡ r'
select_req_one κs a r r' s s' p q = one_linked r r' (p ∙ sym q)

deselect_req_one : (κs : _) (a : _) (r r' : _) (s s' : _) → deselect_req_reads.Post κs a r s → deselect_req_reads.Post κs a r' s' → r ≡ r'
deselect_req_one κs a r r' s s' p q = one_linked r r' (p ∙ sym q)

linktest_req_one : (κs : _) (a : _) (r r' : _) (s s' : _) → linktest_req_reads.Post κs a r s → linktest_req_reads.Post κs a r' s' → r ≡ r'
linktest_req_one κs a r r' s s' p q = one_linked r r' (p ∙ sym q)

linktest_rsp_one : (κs : _) (a : _) (r r' : _) (s s' : _) → linktest_rsp_reads.Post κs a r s → linktest_rsp_reads.Post κs a r' s' → r ≡ r'
linktest_rsp_one κs a r r' s s' p q = one_linked r r' (p ∙ sym q)

separate_req_one : (κs : _) (a : _) (r r' : _) (s s' : _) → separate_req_reads.Post κs a r s → separate_req_reads.Post κs a r' s' → r ≡ r'
separate_req_one κs a r r' s s' p q = one_linked r r' (p ∙ sym q)

connect_one : (κs : _) (a : _) (r r' : _) (s s' : _) → connect_reads.Post κs a r s → connect_reads.Post κs a r' s' → r ≡ r'
connect_one κs a r r' s s' p q = one_linked r r' (p ∙ sym q)

disconnect_one : (κs : _) (a : _) (r r' : _) (s s' : _) → disconnect_reads.Post κs a r s → disconnect_reads.Post κs a r' s' → r ≡ r'
disconnect_one κs a r r' s s' p q = one_linked r r' (p ∙ sym q)

linktest_one : (κs : _) (a : _) (r r' : _) (s s' : _) → linktest_reads.Post κs a r s → linktest_reads.Post κs a r' s' → r ≡ r'
linktest_one κs a r r' s s' p q = one_linked r r' (p ∙ sym q)

separate_one : (κs : _) (a : _) (r r' : _) (s s' : _) → separate_reads.Post κs a r s → separate_reads.Post κs a r' s' → r ≡ r'
separate_one κs a r r' s s' p q = one_linked r r' (p ∙ sym q)

t6_one : (κs : _) (a : _) (r r' : _) (s s' : _) → t6_reads.Post κs a r s → t6_reads.Post κs a r' s' → r ≡ r'
t6_one κs a r r' s s' p q = one_linked r r' (p ∙ sym q)

t7_one : (κs : _) (a : _) (r r' : _) (s s' : _) → t7_reads.Post κs a r s → t7_reads.Post κs a r' s' → r ≡ r'
t7_one κs a r r' s s' p q = one_linked r r' (p ∙ sym q)

t8_one : (κs : _) (a : _) (r r' : _) (s s' : _) → t8_reads.Post κs a r s → t8_reads.Post κs a r' s' → r ≡ r'
t8_one κs a r r' s s' p q = one_linked r r' (p ∙ sym q)

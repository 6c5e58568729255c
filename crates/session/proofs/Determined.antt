-- Two outcomes that a promise permits for the same call are equal: each is the one that the definition gives.
use mathlib.Core.Path.{◌≡◌, ap, sym, ◌∙◌}
use Rattle.message.proofs.Once.{one_send, one_told}
use Rattle.session.specs.Stepped.{Stepped, stepped_in}
use Rattle.session.specs.declared.Stepped as answered
use Rattle.session.proofs.step.Reads as step_reads

-- what the definitions are given tells what an event answers
one_stepped : (r r' : answered.Stepped) → stepped_in r ≡ stepped_in r' → r ≡ r'
one_stepped r r' e =
    let a : r.answer ≡ r'.answer = one_told r.answer r'.answer (ap (λ (x : Stepped). x.number) e) in
    let s : r.send ≡ r'.send = one_send r.send r'.send (ap (λ (x : Stepped). x.send) e) in
    λ k. record { answer = a k; session = (e k).session; send = s k }

step_one : (κs : _) (a : _) (r r' : _) (s s' : _) → step_reads.Post κs a r s → step_reads.Post κs a r' s' → r ≡ r'
step_one κs a r r' s s' p q = one_stepped r r' (p ∙ sym q)

-- Two outcomes that a promise permits for the same call are equal: each is the one that the definition gives.
use mathlib.Core.Path.{◌≡◌, sym, ap, ◌∙◌}
use Rattle.std.specs.Prelude.{ℕ, List, Result, Ok, Err, IfOk}
use Rattle.std.proofs.Common.{Bor, arith}
use Rattle.refusal.specs.Answer.{number_in, Counted, counted_in}
use Rattle.refusal.specs.declared.Refusal.{Refusal}
use Rattle.refusal.proofs.Once.{some_number, one_refusal, one_count}
use Rattle.outbox.specs.Dropped.{Dropped, dropped_in}
use Rattle.outbox.proofs.Once.{one_dropped}
use Rattle.outbox.specs.Outbox.{append_after, control_after, data_after}
use Rattle.outbox.proofs.append.Reads as append_reads
use Rattle.outbox.proofs.next.Reads as next_reads
use Rattle.outbox.proofs.drop_next.Reads as drop_next_reads

append_one : (κs : _) (a : _) (r r' : _) (s s' : _) → append_reads.Post κs a r s → append_reads.Post κs a r' s' → (r ≡ r') × (s.0.now ≡ s'.0.now)
append_one κs a r r' s s' p q =
    let e : counted_in r ≡ counted_in r' = p.0 ∙ sym q.0 in
    (one_count r r' e, p.1 ∙ ap (λ (x : Counted). append_after x a.0.now a.1.0 a.1.1.0.now) e ∙ sym q.1)

-- a part by its bytes
abbrev part_in : Result (Bor (List ℕ)) Refusal → Result (List ℕ) Refusal
part_in (Ok part) = Ok part.now
part_in (Err e) = Err e

-- the number alike, and each part the definition's
same_part : (r r' : Result (Bor (List ℕ)) Refusal) (x : List ℕ) → number_in r ≡ number_in r' → IfOk r (λ part. part.now ≡ x) → IfOk r' (λ part. part.now ≡ x)
    → part_in r ≡ part_in r'
same_part (Ok y) (Ok z) x e p q = ap Ok (p ∙ sym q)
same_part (Err d) (Err f) x e p q = ap Err (one_refusal d f e)
same_part (Ok y) (Err f) x e p q = absurd (omega (arith, some_number f))
same_part (Err d) (Ok z) x e p q = absurd (omega (arith, some_number d))

next_one : (κs : _) (a : _) (r r' : _) (s s' : _) → next_reads.Post κs a r s → next_reads.Post κs a r' s' → part_in r ≡ part_in r'
next_one κs a r r' s s' p q = same_part r r' _ (p.0 ∙ sym q.0) p.1 q.1

drop_next_one : (κs : _) (a : _) (r r' : _) (s s' : _) → drop_next_reads.Post κs a r s → drop_next_reads.Post κs a r' s'
    → (r ≡ r') × (s.0.now ≡ s'.0.now) × (s.1.1.0.now ≡ s'.1.1.0.now)
drop_next_one κs a r r' s s' p q =
    let e : dropped_in r ≡ dropped_in r' = p.0 ∙ sym q.0 in (
      one_dropped r r' e,
      p.1 ∙ ap (λ (x : Dropped). control_after x a.0.now a.1.0) e ∙ sym q.1,
      p.2 ∙ ap (λ (x : Dropped). data_after x a.1.1.0.now a.1.1.1.0) e ∙ sym q.2,
    )

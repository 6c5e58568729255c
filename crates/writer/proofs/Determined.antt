-- Two outcomes that a promise permits for the same call are equal: each is the one that the definition gives.
use mathlib.Core.Path.{◌≡◌, sym, ap, ◌∙◌}
use Rattle.refusal.specs.Answer.{Counted}
use Rattle.refusal.proofs.Once.{one_count}
use Rattle.rows.specs.Row.{rows_of, text_of}
use Rattle.rows.specs.Rows.{rows_in}
use Rattle.writer.specs.Writing.{rows_after}
use Rattle.wire.specs.Lent.{out_after}
use Rattle.writer.proofs.write.Reads as write_reads
use Rattle.writer.proofs.write_lean.Reads as write_lean_reads

write_one :
    (κs : _) (a : _) (r r' : _) (s s' : _) → write_reads.Post κs a r s → write_reads.Post κs a r' s'
    → (r ≡ r') × (s.1.1.0.now ≡ s'.1.1.0.now)
write_one κs a r r' s s' p q =
    let e = p.0 ∙ sym q.0 in
    (one_count r r' e, p.1 ∙ ap (λ (x : Counted). out_after x (text_of a.1.0.now (rows_of a.0.now)) a.1.1.0.now) e ∙ sym q.1)

write_lean_one :
    (κs : _) (a : _) (r r' : _) (s s' : _) → write_lean_reads.Post κs a r s → write_lean_reads.Post κs a r' s'
    → (r ≡ r') × (s.1.0.now ≡ s'.1.0.now) × (s.1.1.0.now ≡ s'.1.1.0.now)
write_lean_one κs a r r' s s' p q =
    let e = p.0 ∙ sym q.0 in (
      one_count r r' e,
      p.1.0 ∙ ap (λ (x : Counted). rows_after x a.0.now a.1.0.now) e ∙ sym q.1.0,
      p.1.1 ∙ ap (λ (x : Counted). out_after x (text_of a.0.now (rows_in a.0.now)) a.1.1.0.now) e ∙ sym q.1.1,
    )

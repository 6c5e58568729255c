-- Two outcomes that a promise permits for the same call are equal: each is the one that the definition gives.
use mathlib.Core.Path.{◌≡◌, sym, ◌∙◌}
use Rattle.lines.proofs.print.Reads as print_reads

print_one :
    (κs : _) (a : _) (r r' : _) (s s' : _) → print_reads.Post κs a r s → print_reads.Post κs a r' s'
    → (r ≡ r') × (s.1.0.now ≡ s'.1.0.now)
print_one κs a r r' s s' p q = (p.0 ∙ sym q.0, p.1 ∙ sym q.1)

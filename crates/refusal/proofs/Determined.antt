-- Two outcomes that a promise permits for the same call are equal: each is the one that the definition gives.
use Rattle.std.specs.Prelude.{◌≡◌, ℕ, List, IsOk}
use Rattle.std.specs.Fmt.{IsPlainFormatter, formatter_writer}
use Rattle.std.proofs.Common.{sym, ◌∙◌}
use Rattle.refusal.proofs.Once.{one_reading}
use Rattle.refusal.proofs.Written.{Holds, one_writing}
use Rattle.refusal.proofs.U32FromRefusal.from.Reads as from_reads
use Rattle.refusal.proofs.RefusalTryFromU32.try_from.Reads as try_from_reads
use Rattle.refusal.proofs.RefusalDisplay.fmt.Reads as display_reads
use Rattle.refusal.proofs.UnknownNumberDisplay.fmt.Reads as unknown_reads

from_one : (κs : _) (a : _) (r r' : _) (s s' : _) → from_reads.Post κs a r s → from_reads.Post κs a r' s' → r ≡ r'
from_one κs a r r' s s' p q = p ∙ sym q

try_from_one : (κs : _) (a : _) (r r' : _) (s s' : _) → try_from_reads.Post κs a r s → try_from_reads.Post κs a r' s' → r ≡ r'
try_from_one κs a r r' s s' p q = one_reading a.0 r r' p q

-- what a writer holds once a refusal was printed
display_one :
    (W : _) (l : _) (g : _) (t : _) (κs : _) (a : _) (r r' : _) (s s' : _) → display_reads.Post W l g t κs a r s → display_reads.Post W l g t κs a r' s'
    → (held : W.Denot → List ℕ) → Holds g.write_str_gives held → IsPlainFormatter a.1.0.now → IsOk r → IsOk r'
    → held (formatter_writer s.1.0.now) ≡ held (formatter_writer s'.1.0.now)
display_one W l g t κs a r r' s s' p q held holds plain ok ok' = one_writing _ held holds _ _ _ _ (p.0 plain ok) (q.0 plain ok')

-- and once a number that none has was
unknown_one :
    (W : _) (l : _) (g : _) (t : _) (κs : _) (a : _) (r r' : _) (s s' : _) → unknown_reads.Post W l g t κs a r s → unknown_reads.Post W l g t κs a r' s'
    → (held : W.Denot → List ℕ) → Holds g.write_str_gives held → IsPlainFormatter a.1.0.now → IsOk r → IsOk r'
    → held (formatter_writer s.1.0.now) ≡ held (formatter_writer s'.1.0.now)
unknown_one W l g t κs a r r' s s' p q held holds plain ok ok' = one_writing _ held holds _ _ _ _ (p.0 plain ok) (q.0 plain ok')

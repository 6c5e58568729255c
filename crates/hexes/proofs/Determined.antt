-- Two outcomes that a promise permits for the same call are equal: each is the one that the definition gives.
use mathlib.Core.Path.{◌≡◌, sym, ap, ◌∙◌}
use Prim.Native.Nat.{ℕ}
use Rattle.std.specs.Prelude.{List, IsOk}
use Rattle.std.specs.Fmt.{IsPlainFormatter, formatter_writer}
use Rattle.std.proofs.Common.{Result}
use Rattle.refusal.specs.Answer.{Counted, counted_in}
use Rattle.refusal.proofs.Once.{one_count}
use Rattle.refusal.proofs.Written.{Holds, one_writing}
use Rattle.wire.specs.Lent.{out_after}
use Rattle.hexes.specs.declared.HexError.{HexError}
use Rattle.hexes.specs.Hex.{bytes_in, said_after, hex_of}
use Rattle.hexes.proofs.bytes_in.Reads as bytes_in_reads
use Rattle.hexes.proofs.hex_of.Reads as hex_of_reads
use Rattle.hexes.proofs.HexErrorDisplay.fmt.Reads as display_reads

bytes_in_one :
    (κs : _) (a : _) (r r' : _) (s s' : _) → bytes_in_reads.Post κs a r s → bytes_in_reads.Post κs a r' s'
    → (r ≡ r') × (s.1.0.now ≡ s'.1.0.now)
bytes_in_one κs a r r' s s' p q =
    let e : r ≡ r' = p.0 ∙ sym q.0 in
    (e, p.1.0 ∙ ap (λ (x : Result ℕ HexError). said_after x (bytes_in a.0.now) a.1.0.now) e ∙ sym q.1.0)

hex_of_one :
    (κs : _) (a : _) (r r' : _) (s s' : _) → hex_of_reads.Post κs a r s → hex_of_reads.Post κs a r' s'
    → (r ≡ r') × (s.1.0.now ≡ s'.1.0.now)
hex_of_one κs a r r' s s' p q =
    let e : counted_in r ≡ counted_in r' = p.0 ∙ sym q.0 in
    (one_count r r' e, p.1.0 ∙ ap (λ (x : Counted). out_after x (hex_of a.0.now) a.1.0.now) e ∙ sym q.1.0)

-- what a writer holds once an error was printed
display_one :
    (W : _) (l : _) (g : _) (t : _) (κs : _) (a : _) (r r' : _) (s s' : _) → display_reads.Post W l g t κs a r s → display_reads.Post W l g t κs a r' s'
    → (held : W.Denot → List ℕ) → Holds g.write_str_gives held → IsPlainFormatter a.1.0.now → IsOk r → IsOk r'
    → held (formatter_writer s.1.0.now) ≡ held (formatter_writer s'.1.0.now)
display_one W l g t κs a r r' s s' p q held holds plain ok ok' = one_writing _ held holds _ _ _ _ (p.0 plain ok) (q.0 plain ok')

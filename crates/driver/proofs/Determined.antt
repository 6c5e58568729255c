-- Two outcomes that a promise permits for the same call are equal: each is the one that the definition gives.
use mathlib.Core.Path.{◌≡◌, sym, subst, ◌∙◌}
use Rattle.std.specs.Prelude.{ℕ, List, Option, Some, IfSome, Result, Ok, Err, OnOk, IsOk}
use Rattle.std.specs.Fmt.{IsPlainFormatter, formatter_writer}
use Rattle.std.proofs.lemmas.Result.{IfOk-at_ok}
use Rattle.refusal.proofs.Written.{Holds, one_writing}
use Rattle.driver.specs.Printed.{answer_fields}
use Rattle.driver.proofs.number.Reads as number_reads
use Rattle.driver.proofs.stdout.Stdout.new.Reads as new_reads
use Rattle.driver.proofs.stdout.Stdout.bytes.Reads as bytes_reads
use Rattle.driver.proofs.stdout.StdoutWrite.write_str.Reads as write_str_reads
use Rattle.driver.proofs.bad.Reads as bad_reads
use Rattle.driver.proofs.digits.Reads as digits_reads
use Rattle.driver.proofs.AnswerDisplay.fmt.Reads as display_reads
use Rattle.driver.proofs.Defined.record.Reads as record_reads
use Rattle.driver.proofs.run_on.Reads as run_on_reads

number_one : (g : _) (t : _) (d : _) (κs : _) (a : _) (r r' : _) (s s' : _) → number_reads.Post g t d κs a r s → number_reads.Post g t d κs a r' s' → r ≡ r'
number_one g t d κs a r r' s s' p q = p ∙ sym q

-- what standard output was handed

new_one : (κs : _) (a : _) (r r' : _) (s s' : _) → new_reads.Post κs a r s → new_reads.Post κs a r' s' → r.said ≡ r'.said
new_one κs a r r' s s' p q = p ∙ sym q

bytes_one : (κs : _) (a : _) (r r' : _) (s s' : _) → bytes_reads.Post κs a r s → bytes_reads.Post κs a r' s' → s.0.now.said ≡ s'.0.now.said
bytes_one κs a r r' s s' p q = p ∙ sym q

write_str_one :
    (κs : _) (a : _) (r r' : _) (s s' : _) → write_str_reads.Post κs a r s → write_str_reads.Post κs a r' s'
    → IsOk r → IsOk r' → s.0.now.said ≡ s'.0.now.said
write_str_one κs a r r' s s' p q ok ok' = p ok ∙ sym (q ok')

pub from_ok : {A E P : Type 0} (r : Result A E) → OnOk r P → IsOk r → P
from_ok (Ok x) p ok = p
from_ok (Err e) p ok = absurd cc

bad_one : (κs : _) (a : _) (r r' : _) (s s' : _) → bad_reads.Post κs a r s → bad_reads.Post κs a r' s' → IsOk r → IsOk r' → s.0.now.said ≡ s'.0.now.said
bad_one κs a r r' s s' p q ok ok' = from_ok r p ok ∙ sym (from_ok r' q ok')

digits_one :
    (κs : _) (a : _) (r r' : _) (s s' : _) → digits_reads.Post κs a r s → digits_reads.Post κs a r' s'
    → IsOk r → IsOk r' → s.0.now.said ≡ s'.0.now.said
digits_one κs a r r' s s' p q ok ok' = from_ok r p ok ∙ sym (from_ok r' q ok')

-- what a writer holds once an answer was printed, of which the words are known

some_of : (P : List ℕ → Type 0) (o : Option (List ℕ)) (bs : List ℕ) → o ≡ Some bs → IfSome o P → P bs
some_of P o bs e p = subst (λ (x : Option (List ℕ)). IfSome x P) e p

display_one :
    (T W : _) (l m : _) (g t h u : _) (κs : _) (a : _) (r r' : _) (s s' : _)
    → display_reads.Post T W l m g t h u κs a r s → display_reads.Post T W l m g t h u κs a r' s'
    → (bs : List ℕ) → answer_fields g.output a.0.now.0 ≡ Some bs
    → (held : W.Denot → List ℕ) → Holds h.write_str_gives held → IsPlainFormatter a.1.0.now → IsOk r → IsOk r'
    → held (formatter_writer s.1.0.now) ≡ held (formatter_writer s'.1.0.now)
display_one T W l m g t h u κs a r r' s s' p q bs e held holds plain ok ok' =
    one_writing _ held holds _ bs _ _ (some_of _ _ bs e p.0 plain ok) (some_of _ _ bs e q.0 plain ok')

-- a defined program and what standard output was handed, behind a record and behind an input

record_one :
    (P : _) (l : _) (g : _) (t : _) (κs : _) (a : _) (r r' : _) (s s' : _) → record_reads.Post P l g t κs a r s → record_reads.Post P l g t κs a r' s'
    → IsOk r → IsOk r' → ◌≡◌ {A = P.Denot × List ℕ} (s.0.now, s.1.0.now.said) (s'.0.now, s'.1.0.now.said)
record_one P l g t κs a r r' s s' p q ok ok' = from_ok r p ok ∙ sym (from_ok r' q ok')

run_on_one :
    (P : _) (l : _) (g : _) (t : _) (κs : _) (a : _) (r r' : _) (s s' : _) → run_on_reads.Post P l g t κs a r s → run_on_reads.Post P l g t κs a r' s'
    → (o o' : _) → r ≡ Ok o → r' ≡ Ok o' → ◌≡◌ {A = P.Denot × List ℕ} (s.0.now, o.said) (s'.0.now, o'.said)
run_on_one P l g t κs a r r' s s' p q o o' e e' = IfOk-at_ok _ e p ∙ sym (IfOk-at_ok _ e' q)

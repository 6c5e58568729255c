-- What was handed over in parts, as one text; and what is printed of an answer, by what it is in numbers.
use Rattle.std.proofs.Common.{◌≡◌, ℕ, List, ◌++◌, Some, Result, Ok, Err, OnOk, IsOk, refl, append_assoc}
use Rattle.std.specs.Prelude.{decimal}
use Rattle.std.specs.Fmt.{WritesInCalls, WritesText, ◌++?◌}
use Rattle.std.proofs.lemmas.Fmt.{contents_after_writes}
use Rattle.refusal.specs.declared.Refusal.{Refusal}
use Rattle.refusal.specs.Answer.{Is, Refused, counted_in}
use Rattle.refusal.specs.Number.{number_of}
use Rattle.driver.specs.declared.stdout.Stdout.{Stdout}
use Rattle.driver.specs.Printed.{answer_fields, counted_fields}

abbrev took : Stdout → List ℕ → Stdout → Type 0
took s l t = t.said ≡ s.said ++ l

pub wrote : (w v : Stdout) (bs : List ℕ) → WritesInCalls took w bs v → v.said ≡ w.said ++ bs
wrote w v bs p = contents_after_writes took (λ s. s.said) (λ s l t e. e) w bs v p

-- a word, and what is printed of an answer that counts
pub wrote_counted :
    (w v : Stdout) (word : List ℕ) (r : Result ℕ Refusal) → WritesText took w (Some word ++? answer_fields (λ n. Some (decimal n)) r) v
    → v.said ≡ w.said ++ (word ++ counted_fields (counted_in r))
wrote_counted w v word (Ok n) = wrote w v (word ++ counted_fields (Is n))
wrote_counted w v word (Err e) = wrote w v (word ++ counted_fields (Refused (number_of e)))

pub in_three : (s s1 s2 s3 a b c : List ℕ) → s1 ≡ s ++ a → s2 ≡ s1 ++ b → s3 ≡ s2 ++ c → s3 ≡ s ++ (a ++ b ++ c)
in_three s s1 s2 s3 a b c p q r = rw (r, q, p) (simp append_assoc)

pub if_ok : {A E P : Type 0} (r : Result A E) → (IsOk r → P) → OnOk r P
if_ok (Ok v) p = p refl
if_ok (Err e) p = tt

-- The next message, or none where the call refuses.
use Rattle.std.proofs.Common.{◌≡◌, ◌∙◌, ◌<◌, ℕ, List, [], ◌++◌, Result, Ok, Err, IfOk, Bor, refl, ap, arith}
use borrow.Author.Tests.{ne_eqb}
use Rattle.std.specs.Prelude.{codes, decimal}
use Rattle.std.specs.Result.{result_unwrap_or}
use Rattle.refusal.specs.declared.Refusal.{Refusal}
use Rattle.refusal.specs.Answer.{number_in}
use Rattle.refusal.proofs.Once.{some_number}
use Rattle.outbox.specs.Outbox.{next_number, next_of}
use Rattle.driver.specs.Printed.{field, line, hex_field}
use Rattle.messages.specs.declared.Messages.{Messages}
use Rattle.messages.specs.Records.{next_done}
use Rattle.driver.proofs.Fields.{wrote, in_three, if_ok}
use Rattle.messages.proofs.Messages.next.Goals as goal

-- a refused part is empty
part :
    (r : Result (Bor (List ℕ)) Refusal) (other : Bor (List ℕ)) (c d : List ℕ) (m n : ℕ) → other.now ≡ [] → number_in r ≡ next_number c m d n
    → IfOk r (λ p. p.now ≡ next_of c m d n) → (result_unwrap_or r other).now ≡ next_of c m d n
unfolding next_of
part (Ok p) other c d m n e k h = h
part (Err f) other c d m n e k h =
    let some : 0 < next_number c m d n = omega (arith, k, some_number f) in
    rw (e, ne_eqb (next_number c m d n) 0 (λ z. absurd (omega (arith, some, z))))

done :
    (x : Messages × List ℕ) (k : ℕ) (p t : List ℕ) → let m = x.0 in
    k ≡ next_number m.control.bytes m.control.used m.«data».bytes m.«data».used → p ≡ next_of m.control.bytes m.control.used m.«data».bytes m.«data».used
    → t ≡ x.1 ++ line (codes "next") (field (decimal k) ++ hex_field p 1048576) → (m, t) ≡ next_done x
done x k p t e f w = rw (w, e, f)

pub returns : goal.returns
returns c =
    let a = c.args in
    let m = a.self.now in
    let r = c.next-next.result in
    let g = c.next-next.ensures in
    let first = wrote a.stdout.now c.write.new.self _ c.in_ok-write.ensures.writes in
    let told = in_three a.stdout.now.said _ _ _ _ _ _ first c.in_ok-digits.ensures in
    let number = c.number.ensures ∙ g.0 in
    let is = ap (λ (p : Bor (List ℕ)). p.now) c.unwrap_or.ensures ∙ part r _ m.control.bytes m.«data».bytes m.control.used m.«data».used refl g.0 g.1 in
    if_ok c.write_str.result (λ ok. done (m, a.stdout.now.said) _ _ _ number is (told (c.write_str.ensures.ok ok)))

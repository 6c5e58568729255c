-- An answer is Ok exactly where its number is 0.
use Rattle.std.specs.Prelude.{◌≡◌, eqb, Result, Ok, Err, is_ok}
use Rattle.std.proofs.Common.{refl, sym, arith}
use borrow.Author.Tests.{ne_eqb}
use Rattle.refusal.specs.Answer.{number_in}
use Rattle.refusal.specs.Number.{number_of}
use Rattle.refusal.specs.declared.Refusal.{Refusal}
use Rattle.refusal.proofs.Once.{some_number}

pub ok_number : (r : Result Unit Refusal) → is_ok r ≡ eqb (number_in r) 0
ok_number (Ok x) = refl
ok_number (Err e) = sym (ne_eqb (number_of e) 0 (λ z. omega (arith, some_number e)))

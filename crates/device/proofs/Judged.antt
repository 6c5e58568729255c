-- A text that is refused has a number that is not 0.
use Rattle.std.specs.Prelude.{◌≡◌, ℕ, false, true, eqb, Result, Ok, Err}
use Rattle.std.specs.Result.{is_err}
use Rattle.std.proofs.Common.{arith}
use borrow.Author.Tests.{ne_eqb}
use Rattle.refusal.specs.Answer.{number_in}
use Rattle.refusal.specs.declared.Refusal.{Refusal}
use Rattle.refusal.proofs.Once.{some_number}

pub refused : (r : Result Unit Refusal) (n : ℕ) → number_in r ≡ n → is_err r ≡ true → eqb n 0 ≡ false
refused (Ok x) n e w = cc
refused (Err f) n e w = ne_eqb n 0 (omega (arith, some_number f))

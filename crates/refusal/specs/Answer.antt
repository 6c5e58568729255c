-- What a call that may refuse answers, in numbers.
use Rattle.std.specs.Prelude.{ℕ, Result, Ok, Err}
use Rattle.refusal.specs.Number.{number_of}
use Rattle.refusal.specs.declared.Refusal.{Refusal}

-- 0 where it does not refuse
abbrev pub number_in : {A : Type 0} → Result A Refusal → ℕ
number_in (Ok x) = 0
number_in (Err e) = number_of e

-- how many there are, or the refusal's number: what calls answer that count rows or bytes
pub data Counted : Type 0 where
  Is : ℕ → Counted
  Refused : ℕ → Counted

abbrev pub counted_in : Result ℕ Refusal → Counted
counted_in (Ok n) = Is n
counted_in (Err e) = Refused (number_of e)

-- The number that an element's bytes are, or a refusal's number.
use Rattle.std.specs.Prelude.{ℕ, Result, Ok, Err}
use Rattle.refusal.specs.Number.{number_of}
use Rattle.refusal.specs.declared.Refusal.{Refusal}

pub data Raw : Type 0 where
  Is : ℕ → Raw
  Refused : ℕ → Raw

-- what private functions answer, with the refusal as its number
abbrev pub raw_in : Result ℕ Refusal → Raw
raw_in (Ok n) = Is n
raw_in (Err e) = Refused (number_of e)

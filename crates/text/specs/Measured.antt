-- How many rows a text has, and how many bytes its lean form; or a refusal's number.
use Rattle.std.specs.Prelude.{ℕ, Result, Ok, Err}
use Rattle.refusal.specs.Number.{number_of}
use Rattle.refusal.specs.declared.Refusal.{Refusal}
use Rattle.text.specs.declared.Room.{Room}

pub data Measured : Type 0 where
  Are : ℕ → ℕ → Measured
  Refused : ℕ → Measured

-- what a call answers, with the refusal as its number
abbrev pub measured_in : Result Room Refusal → Measured
measured_in (Ok m) = Are m.rows m.bytes
measured_in (Err e) = Refused (number_of e)

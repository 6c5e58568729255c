-- What a drop answers, for the definitions: the outbox that a message was dropped from, with its used count then, or the refusal's number.
use Rattle.std.specs.Prelude.{ℕ, Result, Ok, Err}
use Rattle.refusal.specs.Number.{number_of}
use Rattle.refusal.specs.declared.Refusal.{Refusal}
use Rattle.outbox.specs.declared.Dropped as answered
use Rattle.outbox.specs.declared.Dropped.TheVariants as A

pub data Dropped : Type 0 where
  Control : ℕ → Dropped
  Data : ℕ → Dropped
  Refused : ℕ → Dropped

abbrev pub dropped_in : Result answered.Dropped Refusal → Dropped
dropped_in (Ok (A.Control n)) = Control n
dropped_in (Ok (A.Data n)) = Data n
dropped_in (Err e) = Refused (number_of e)

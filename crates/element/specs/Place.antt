-- Where an element lies in its content, or a refusal's number.
use Rattle.std.specs.Prelude.{ℕ, Result, Ok, Err}
use Rattle.refusal.specs.Number.{number_of}
use Rattle.refusal.specs.declared.Refusal.{Refusal}
use Rattle.element.specs.declared.Span.{Span}

pub data Place : Type 0 where
  At : ℕ → ℕ → Place
  Refused : ℕ → Place

-- what private functions answer, as a place
abbrev pub span_in : Result Span Refusal → Place
span_in (Ok s) = At s.at s.width
span_in (Err e) = Refused (number_of e)

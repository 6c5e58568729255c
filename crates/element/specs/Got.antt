-- An element, or a refusal's number.
use Rattle.std.specs.Prelude.{ℕ, Result, Ok, Err}
use Rattle.refusal.specs.Number.{number_of}
use Rattle.refusal.specs.declared.Refusal.{Refusal}
use Rattle.element.specs.declared.Element.{Element}

pub data Got : Type 0 where
  Is : Element → Got
  Refused : ℕ → Got

-- what a call answers, with the refusal as its number
abbrev pub got_in : Result Element Refusal → Got
got_in (Ok e) = Is e
got_in (Err r) = Refused (number_of r)

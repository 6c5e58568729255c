-- An element's answer is told by the element or the refusal's number that it is.
use Rattle.std.specs.Prelude.{◌≡◌, Result, Ok, Err}
use Rattle.std.proofs.Common.{ap}
use Rattle.refusal.specs.Number.{number_of}
use Rattle.refusal.specs.declared.Refusal.{Refusal}
use Rattle.refusal.proofs.Once.{one_refusal}
use Rattle.element.specs.Got.{got_in}
use Rattle.element.specs.declared.Element.{Element}

pub one_got : (r s : Result Element Refusal) → got_in r ≡ got_in s → r ≡ s
one_got (Ok x) (Ok y) e = let q : x ≡ y = cc in ap Ok q
one_got (Ok x) (Err g) e = absurd cc
one_got (Err f) (Ok y) e = absurd cc
one_got (Err f) (Err g) e = let q : number_of f ≡ number_of g = cc in ap Err (one_refusal f g q)

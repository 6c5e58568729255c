-- What is printed of a number, of an answer and of a record, by what they are in the definitions.
use Rattle.std.proofs.Common.{◌≡◌, ℕ, ◌^◌, ◌-◌, false, List, [], ◌∷◌, Option, Some, Result, Ok, Err}
use Rattle.std.proofs.Common.{ap, subst, ◌++◌, append-nil, length, arith}
use Rattle.std.specs.Fmt.{digits, char_count, padded_integral, format_spec, digits_output, styled_digits_output, WritesText}
use Rattle.std.specs.Result.{MatchResult, IsOkAnd}
use Rattle.refusal.specs.declared.Refusal.{Refusal}
use Rattle.element.specs.declared.Element.{Element}
use Rattle.element.specs.Got.{got_in}
use Rattle.driver.specs.Printed.{answer_fields}
use Rattle.driver.proofs.Fields.{wrote}
use Rattle.driver.specs.declared.stdout.Stdout.{Stdout}
use Rattle.elements.specs.declared.Fields.{Fields}
use Rattle.elements.specs.Records.{hex_digits, element_text, got_fields}

-- a number in a hole that is filled up with 0
zeros : (width n : ℕ) → padded_integral (format_spec 32 0 4 width (2 ^ 64 - 1)) false [] (digits 16 false n) ≡ hex_digits width n
unfolding padded_integral char_count
zeros width n =
    let e : width - length (digits 16 false n) - 0 - 0 ≡ width - length (digits 16 false n) = omega arith in
    rw (append-nil, e)

pub hole : (d s : _) (width n : ℕ) → digits_output d ≡ Some (digits 16 false n) → s ≡ format_spec 32 0 4 width (2 ^ 64 - 1)
    → styled_digits_output d s ≡ Some (hex_digits width n)
hole d s width n p q = rw (p, q) (ap Some (zeros width n))

-- an answer, in front of which `Fields` was put
pub answer_got :
    (r : Result Element Refusal) (m : Result Fields Refusal) → MatchResult r (λ x. IsOkAnd m (λ f. f.0 ≡ x)) (λ e. m ≡ Err e)
    → answer_fields (λ f. Some (element_text f.0)) m ≡ Some (got_fields (got_in r))
answer_got (Ok x) (Ok f) p = ap (λ (e : Element). Some (9 ∷ element_text e)) p
answer_got (Ok x) (Err e) p = absurd p
answer_got (Err e) m p = ap (answer_fields (λ f. Some (element_text f.0))) p

-- what was handed over in parts
pub said :
    (w v : Stdout) (o : Option (List ℕ)) (bs : List ℕ) → o ≡ Some bs → WritesText (λ s l t. t.said ≡ s.said ++ l) w o v → v.said ≡ w.said ++ bs
said w v o bs e p =
    wrote w v bs (subst (λ (x : Option (List ℕ)). WritesText (λ s l t. t.said ≡ s.said ++ l) w x v) e p)

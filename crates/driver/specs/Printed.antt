-- What the programs print.
use Rattle.std.specs.Prelude.{◌*◌, ℕ, cond, ltb, List, [], ◌∷◌, ◌++◌, length, codes, decimal, Option, Some, Result, Ok, Err}
use Rattle.std.specs.Fmt.{◌++?◌}
use Rattle.refusal.specs.declared.Refusal.{Refusal}
use Rattle.refusal.specs.Answer.{Counted, Is, Refused}
use Rattle.refusal.specs.Number.{number_of}
use Rattle.hexes.specs.Hex.{hex_of}

-- behind a tab
abbrev pub field : List ℕ → List ℕ
field s = 9 ∷ s

-- a line: a word, and the fields behind it
abbrev pub line : List ℕ → List ℕ → List ℕ
line word fields = word ++ fields ++ 10 ∷ []

-- a record that is not one
abbrev pub bad_record : List ℕ
bad_record = codes "bad record" ++ 10 ∷ []

-- this, of a record that has so many bytes; with fewer it is bad
abbrev pub if_bytes : ℕ → List ℕ → List ℕ → List ℕ
if_bytes n s text = cond (ltb (length s) n) bad_record text

-- bytes in hex; or, where the room is too short for their digits, the number of that refusal
abbrev pub hex_field : List ℕ → ℕ → List ℕ
hex_field s room = field (cond (ltb room (2 * length s)) (decimal 17) (hex_of s))

-- that a call refuses, and its number
abbrev pub refused_fields : ℕ → List ℕ
refused_fields k = field (codes "refused") ++ field (decimal k)

-- an answer: what is printed of it, or that it refuses, and the refusal's number
abbrev pub answer_fields : {A : Type 0} → (A → Option (List ℕ)) → Result A Refusal → Option (List ℕ)
answer_fields out (Ok x) = Some (field []) ++? out x
answer_fields out (Err e) = Some (refused_fields (number_of e))

-- of a call that counts
abbrev pub counted_fields : Counted → List ℕ
counted_fields (Is n) = field (decimal n)
counted_fields (Refused k) = refused_fields k

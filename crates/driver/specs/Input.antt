-- What an input does, line by line, to a program and to what standard output was handed; docs/CALLS.md has it in words.
use Rattle.std.specs.Prelude.{◌≡◌, ℕ, cond, eqb, ltb, List, [], ◌∷◌, ◌++◌, length, map, codes}
use Rattle.hexes.specs.Hex.{is_hex, bytes_in}
use Rattle.records.specs.Lines.{lines_of}
use Rattle.driver.specs.Printed.{bad_record}

-- a line prints a text, or it is a record: a letter, and bytes
pub data Line : Type 0 where
  Prints : List ℕ → Line
  Record : ℕ → List ℕ → Line

-- an empty line prints nothing, and a comment itself; of a line that is no record it is said that it is bad
abbrev pub line_of : List ℕ → Line
line_of [] = Prints []
line_of (c ∷ s) =
    cond (eqb c 0x23) (Prints ((c ∷ s) ++ 10 ∷ []))
    (cond (is_hex s) (Record c (bytes_in s))
    (Prints bad_record))

-- printed instead of any line
abbrev pub too_much : List ℕ
too_much = codes "too much input" ++ 10 ∷ []

abbrev pub input_of : List ℕ → List Line
input_of s = cond (ltb 1048575 (length s)) (Prints too_much ∷ []) (map line_of (lines_of s))

-- a program, and what standard output was handed: where the program is this one from now on, and a text is printed
abbrev pub keeps : {P : Type 0} → P → List ℕ → P × List ℕ → P × List ℕ
keeps p s x = (p, x.1 ++ s)

-- where only a text is printed
abbrev pub says : {P : Type 0} → List ℕ → P × List ℕ → P × List ℕ
says s x = keeps x.0 s x

-- this, behind a record that has so many bytes; with fewer it is bad
abbrev pub with_bytes : {P : Type 0} → ℕ → List ℕ → P × List ℕ → P × List ℕ → P × List ℕ
with_bytes n s x y = cond (ltb (length s) n) (says bad_record x) y

-- both behind a line, where `done` says it of a record
abbrev pub line_done : {P : Type 0} → (P × List ℕ → ℕ → List ℕ → P × List ℕ) → P × List ℕ → Line → P × List ℕ
line_done done x (Prints s) = says s x
line_done done x (Record c s) = done x c s

-- both behind these lines
abbrev pub lines_done : {P : Type 0} → (P × List ℕ → ℕ → List ℕ → P × List ℕ) → P × List ℕ → List Line → P × List ℕ
lines_done done x [] = x
lines_done done x (l ∷ ls) = lines_done done (line_done done x l) ls

-- whether a line may make the second of the first, where `makes` says it of a record
abbrev pub line_makes : {P : Type 0} → (P × List ℕ → ℕ → List ℕ → P × List ℕ → Type 0) → P × List ℕ → Line → P × List ℕ → Type 0
line_makes makes x (Prints s) y = y ≡ says s x
line_makes makes x (Record c s) y = makes x c s y

-- whether these lines may
abbrev pub lines_make : {P : Type 0} → (P × List ℕ → ℕ → List ℕ → P × List ℕ → Type 0) → P × List ℕ → List Line → P × List ℕ → Type 0
lines_make makes x [] y = y ≡ x
lines_make {P} makes x (l ∷ ls) y = (z : P × List ℕ) × line_makes makes x l z × lines_make makes z ls y

-- what is printed of an input by a program that begins as this
abbrev pub printed_of : {P : Type 0} → (P × List ℕ → ℕ → List ℕ → P × List ℕ) → P → List ℕ → List ℕ
printed_of done p s = (lines_done done (p, []) (input_of s)).1

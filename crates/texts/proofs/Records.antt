-- What the calls answer, as a record prints it.
use Rattle.std.proofs.Common.{◌≡◌, ◌<◌, ◌≤◌, ◌+◌, ◌*◌, ◌∙◌, ℕ, Result, Ok, Err, IfOk, Bor, ap, arith}
use Rattle.std.proofs.Common.{List, [], ◌++◌, length, get_or, take, drop, replicate, append_assoc}
use borrow.Author.Tests.{ne_eqb}
use Rattle.std.specs.Result.{result_unwrap_or}
use Rattle.refusal.specs.declared.Refusal.{Refusal}
use Rattle.refusal.specs.Answer.{number_in}
use Rattle.refusal.proofs.Once.{some_number}
use Rattle.rows.specs.declared.Row.{Row}
use Rattle.text.specs.Text.{part_number, part_of}
use Rattle.std.specs.Prelude.{decimal}
use Rattle.std.proofs.lemmas.List.Edits.{sets}
use Rattle.std.proofs.lemmas.List.{length-take-le, flat_map_more, take_more, length-drop, length-replicate, take-replicate}
use Rattle.wire.proofs.Stores.{sets_there}
use Rattle.records.specs.Fields.{words_in}
use Rattle.records.proofs.Words.{words_length}
use Rattle.driver.specs.Printed.{field}
use Rattle.texts.specs.Records.{numbers_fields}

-- a refused part is empty
pub part_told :
    (t : List ℕ) (r : Row) (x : Result (Bor (List ℕ)) Refusal) (d : Bor (List ℕ)) → d.now ≡ [] → number_in x ≡ part_number t r
    → IfOk x (λ p. p.now ≡ part_of t r) → (result_unwrap_or x d).now ≡ part_of t r
unfolding part_of
part_told t r (Ok p) d e n h = h
part_told t r (Err f) d e n h =
    let some : 0 < part_number t r = omega (arith, n, some_number f) in
    rw (e, ne_eqb (part_number t r) 0 (λ z. absurd (omega (arith, some, z))))

-- ---- the table that is lent: so many numbers, each 7

abbrev pub sevens : List ℕ
sevens = replicate 255 7

pub sevens_are : (n : ℕ) → n ≤ 255 → take n sevens ≡ replicate n 7
sevens_are n h = take-replicate n 255 7 h

pub sevens_length : (n : ℕ) → n ≤ 255 → length (take n sevens) ≡ n
sevens_length n h = ap {A = List ℕ} length (sevens_are n h) ∙ length-replicate {A = ℕ} n 7

-- ---- what is written into an output

module _ (b : List ℕ) where
  -- the numbers of the table that the record has
  pub table_told :
      (n k : ℕ) (out : List ℕ) → n ≤ 255 → 3 + 4 * n ≤ length b → k ≡ 4 * n → out ≡ sets (replicate 255 0) 0 (words_in (take k (drop 3 b)))
      → take n out ≡ words_in (take (4 * n) (drop 3 b))
  table_told n k out h l f e =
      let size = length-take-le (4 * n) (drop 3 b) (omega (arith, l, length-drop 3 b)) in
      let many = words_length (take (4 * n) (drop 3 b)) in
      let room : 0 + n ≤ length {A = ℕ} (replicate 255 0) = omega (arith, h, length-replicate {A = ℕ} 255 0) in
      ap (take n) (e ∙ ap (λ (i : ℕ). sets (replicate 255 0) 0 (words_in (take i (drop 3 b)))) f)
      ∙ sets_there (replicate 255 0) (words_in (take (4 * n) (drop 3 b))) 0 n (omega (arith, size, many)) room

-- ---- a table's numbers

pub numbers_turn :
    (s : List ℕ) (table : List ℕ) (i : ℕ) {t u : List ℕ} → i < length table → t ≡ s ++ numbers_fields (take i table)
    → u ≡ t ++ field (decimal (get_or table i 0))
    → u ≡ s ++ numbers_fields (take (i + 1) table)
numbers_turn s table i h e f =
    let one : ℕ → List ℕ = λ n. field (decimal n) in
    rw (f, e, take_more table i 0 h)
    (append_assoc s (numbers_fields (take i table)) _
    ∙ ap (λ (l : List ℕ). s ++ l) (flat_map_more one [] (take i table) (get_or table i 0)))

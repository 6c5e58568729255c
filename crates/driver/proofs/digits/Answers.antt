-- What is printed behind the tab: the digits, or the number of the refusal.
use Rattle.std.specs.Prelude.{◌≡◌, ℕ, ◌*◌, Bool, true, false, cond, List, [], ◌∷◌, ◌++◌, length, take, drop, decimal}
use Rattle.std.proofs.Common.{refl, sym, ap, ◌∙◌, arith, append_assoc}
use Rattle.std.proofs.lemmas.List.{take_at}
use Rattle.std.proofs.lemmas.Result.{on_ok_weaker}
use Rattle.refusal.specs.Answer.{Counted, Is, Refused}
use Rattle.hexes.specs.Hex.{hex_of, printed_of}
use Rattle.hexes.proofs.Laws.{hex_length}
use Rattle.driver.proofs.Fields.{wrote}
use Rattle.driver.proofs.digits.Goals as goal

abbrev counted : Counted → ℕ
counted (Is n) = n
counted (Refused k) = k

abbrev is_refused : Counted → ℕ
is_refused (Is n) = 0
is_refused (Refused k) = 1

shown :
    (b : Bool) (s old out : List ℕ) (n : ℕ) → Is n ≡ cond b (Refused 17) (Is (2 * length s)) → out ≡ hex_of s ++ drop n old
    → take n out ≡ cond b (decimal 17) (hex_of s)
shown true s old out n e f = let z : ◌≡◌ {A = ℕ} 0 1 = ap is_refused e in absurd (omega arith)
shown false s old out n e f =
    let m : n ≡ 2 * length s = ap counted e in
    ap (take n) f ∙ take_at (hex_of s) (drop n old) n (hex_length s ∙ sym m)

refused : (b : Bool) (s : List ℕ) (k : ℕ) → Refused k ≡ cond b (Refused 17) (Is (2 * length s)) → decimal k ≡ cond b (decimal 17) (hex_of s)
refused true s k e = ap decimal (ap counted e)
refused false s k e = let z : ◌≡◌ {A = ℕ} 1 0 = ap is_refused e in absurd (omega arith)

pub returns-in_ok-write_str-in-Ok : goal.returns-in_ok-write_str-in-Ok
unfolding printed_of
returns-in_ok-write_str-in-Ok c =
    let a = c.args in
    let told = c.in-Ok.ensures in
    let said = a.stdout.now.said in
    let part = take c.in-Ok.n c.hex_of.new.out in
    let number = told.number ∙ ap (printed_of (length a.bytes.now)) (sym c.room-out.ensures.1) in
    c.bytes.ensures ∙ ap (λ (l : List ℕ). l ++ part) (c.in_ok-write_str-in-Ok.ensures.ok refl) ∙ append_assoc said (9 ∷ []) part
    ∙ ap (λ (l : List ℕ). said ++ 9 ∷ l) (shown _ a.bytes.now _ _ c.in-Ok.n number told.output)

pub returns-in-Err : goal.returns-in-Err
unfolding printed_of
returns-in-Err c =
    let a = c.args in
    let said = a.stdout.now.said in
    let number = c.in-Err.ensures.number ∙ ap (printed_of (length a.bytes.now)) (sym c.room-out.ensures.1) in
    let number_field = ap (λ (n : ℕ). said ++ 9 ∷ decimal n) c.from.ensures ∙ ap (λ (l : List ℕ). said ++ 9 ∷ l) (refused _ a.bytes.now _ number) in
    on_ok_weaker c.write.result (λ w. wrote a.stdout.now c.write.new.self (9 ∷ decimal c.from.result) w ∙ number_field) c.write.ensures.writes

-- The frame, in an output of so many bytes.
use Rattle.std.proofs.Common.{◌≡◌, ◌≤◌, ◌-◌, ℕ, List, ◌++◌, length, take, drop, ap}
use borrow.Author.Tests.{le-ltb}
use Rattle.std.specs.Prelude.{codes}
use Rattle.std.proofs.lemmas.List.{take_rest}
use Rattle.refusal.specs.Answer.{Counted}
use Rattle.wire.specs.Lent.{out_after}
use Rattle.records.specs.Fields.{field_of, ten_in, blank}
use Rattle.frame.specs.Header.{header_of}
use Rattle.frame.specs.Frame.{frame_of, written_of}
use Rattle.frame.specs.declared.Header.{Header}
use Rattle.driver.specs.Printed.{line, hex_field, counted_fields}
use Rattle.messages.specs.Records.{written_line}
use Rattle.driver.proofs.Fields.{wrote_counted, in_three, if_ok}
use Rattle.messages.proofs.write.Goals as goal

done :
    (said b out new t : List ℕ) (k : ℕ) (h : Header) (f : Counted) → let text = take (length b - 12) (drop 12 b) in
    12 ≤ length b → out ≡ take k blank → k ≡ field_of 2 b 10 → h ≡ header_of (ten_in b)
    → f ≡ written_of h (length text) (length out) → new ≡ out_after f (frame_of h text) out
    → t ≡ said ++ line (codes "frame") (counted_fields f ++ hex_field new 1048576) → t ≡ said ++ written_line b
done said b out new t k h f l o r e g m w = rw (le-ltb (length b) 12 l, w, m, g, e, o, r, take_rest b 12)

pub returns : goal.returns
returns c =
    let a = c.args in
    let said = a.stdout.now.said in
    let g = c.write.ensures in
    let header = rw c.ten_in.ensures at c.from-header.ensures in
    let first = wrote_counted a.stdout.now c.write-2.new.self (codes "frame") c.write.result c.in_ok-write.ensures.writes in
    let told = in_three said _ _ _ _ _ _ first c.in_ok-digits.ensures in
    let out = ap (take c.field_at.result) c.blank-out.ensures.0 in
    if_ok c.write_str.result
    (λ ok. done said a.b.now _ _ _ c.field_at.result _ _ c.if-b-lt12.false out c.field_at.ensures.number header g.0 g.1 (told (c.write_str.ensures.ok ok)))

-- Each event's line.
use Rattle.std.proofs.Common.{◌≡◌, ◌∙◌, ℕ, List, ◌++◌, Result, Ok, Err, append_assoc}
use Rattle.std.specs.Prelude.{codes, decimal}
use Rattle.std.proofs.lemmas.Result.{on_ok_weaker}
use Rattle.refusal.specs.declared.Refusal.{Refusal}
use Rattle.refusal.specs.Number.{number_of}
use Rattle.driver.specs.Printed.{field, line}
use Rattle.frames.specs.Event.{event_of, event_in}
use Rattle.frames.specs.declared.Event.{Event}
use Rattle.messages.specs.Records.{event_line}
use Rattle.driver.proofs.Fields.{wrote}
use Rattle.messages.proofs.event_line.Goals as goal

told :
    (r : Result Event Refusal) (x e : Event) (said new : List ℕ) (k : ℕ) → r ≡ Ok x → x ≡ e → new ≡ said ++ event_line (event_of e) k
    → new ≡ said ++ event_line (event_in r) k
told r x e said new k p q h = rw (p, q) h

refused :
    (r : Result Event Refusal) (e : Refusal) (n : ℕ) (said new : List ℕ) (k : ℕ) → r ≡ Err e → n ≡ number_of e
    → new ≡ said ++ line (codes "refused") (field (decimal k) ++ field (decimal n)) → new ≡ said ++ event_line (event_in r) k
refused r e n said new k p q h = rw (p, ← q) h

pub returns-in-Ok-More : goal.returns-in-Ok-More
returns-in-Ok-More c =
    let x = c.in-Ok-More in
    let d = c.writeln in
    on_ok_weaker d.result (λ w. told _ _ _ _ _ _ x.is (rw x.is at x.field-0-is) (wrote c.args.stdout.now d.new.self _ w)) d.ensures.writes

pub returns-in_ok-write-in-Ok-Header : goal.returns-in_ok-write-in-Ok-Header
returns-in_ok-write-in-Ok-Header c =
    let x = c.in-Ok-Header in
    let d = c.writeln-in-Ok-Header in
    let first = wrote c.args.stdout.now c.write.new.self _ c.in_ok-write-in-Ok-Header.ensures.writes in
    on_ok_weaker d.result
    (λ w. told _ _ _ _ _ _ x.is (rw x.is at x.field-0-is) (wrote c.write.new.self d.new.self _ w ∙ rw first (simp append_assoc))) d.ensures.writes

pub returns-in-Ok-Text : goal.returns-in-Ok-Text
returns-in-Ok-Text c =
    let x = c.in-Ok-Text in
    let d = c.writeln-in-Ok-Text in
    on_ok_weaker d.result
    (λ w. told _ _ _ _ _ _ x.is (rw x.is at x.field-0-is) (wrote c.args.stdout.now d.new.self _ w ∙ simp append_assoc)) d.ensures.writes

pub returns-in-Ok-End : goal.returns-in-Ok-End
returns-in-Ok-End c =
    let x = c.in-Ok-End in
    let d = c.writeln-in-Ok-End in
    on_ok_weaker d.result (λ w. told _ _ _ _ _ _ x.is (rw x.is at x.field-0-is) (wrote c.args.stdout.now d.new.self _ w)) d.ensures.writes

pub returns-in-Err : goal.returns-in-Err
returns-in-Err c =
    let d = c.writeln-in-Err in
    let e = c.in-Err.refusal in
    on_ok_weaker d.result
    (λ w. refused _ e _ c.args.stdout.now.said _ c.args.consumed c.in-Err.is c.from.ensures (wrote c.args.stdout.now d.new.self _ w ∙ simp append_assoc))
    d.ensures.writes

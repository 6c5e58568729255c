-- An outbox made anew, control or data.
use Rattle.std.proofs.Common.{◌≡◌, ◌∙◌, ◌≤◌, ◌-◌, ℕ, List, ◌++◌, length, take, drop, get_or, eq-eqb, append_assoc}
use borrow.Author.Tests.{le-ltb, ne_eqb}
use Rattle.std.specs.Prelude.{codes, decimal}
use Rattle.std.proofs.lemmas.List.{take_rest}
use Rattle.std.proofs.lemmas.Result.{on_ok_weaker}
use Rattle.driver.specs.Printed.{field, line}
use Rattle.messages.specs.declared.Outbox.{Outbox}
use Rattle.messages.specs.declared.Messages.{Messages}
use Rattle.messages.specs.Records.{with_box, box_in, box_done}
use Rattle.driver.proofs.Fields.{wrote}
use Rattle.messages.proofs.Messages.make.Goals as goal
use Rattle.messages.proofs.Messages.make.Goals.{then-which-eq0, else-which-eq0}

made :
    (x : Messages × List ℕ) (b : List ℕ) (m : Messages) (t : List ℕ) (o : Outbox) → 5 ≤ length b → o ≡ box_in (take (length b - 1) (drop 1 b))
    → m ≡ with_box (get_or b 0 0) o x.0 → t ≡ x.1 ++ line (codes "box") (field (decimal (get_or b 0 0)) ++ field (decimal o.used))
    → (m, t) ≡ box_done x b
made x b m t o h e k w = rw (le-ltb (length b) 5 h, k, w, e, take_rest b 1)

pub returns : goal.returns
returns c =
    let a = c.args in
    let which = get_or a.b.now 0 0 in
    let o = c.outbox_in-made in
    let kept : c.if-which-eq0.self ≡ with_box which o.result a.self.now = elim c.if-which-eq0.branch [
      | then-which-eq0 w ↦ rw (w.self-is, eq-eqb which 0 w.if-which-eq0.true)
      | else-which-eq0 w ↦ rw (w.self-is, ne_eqb which 0 w.if-which-eq0.false)
    ] in
    let x : Messages × List ℕ = (a.self.now, a.stdout.now.said) in
    on_ok_weaker c.writeln.result
    (λ w. made x a.b.now _ _ o.result c.if-b-lt5.false o.ensures kept (wrote a.stdout.now c.writeln.new.self _ w ∙ simp append_assoc))
    c.writeln.ensures.writes

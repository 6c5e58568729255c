-- One item less is awaited, and then a list's members are; the levels that await nothing are left.
use mathlib.Core.Path.{◌≡◌, sym, ap, ◌∙◌}
use native.Mathlib.Omega.{arith}
use Rattle.levels.specs.Levels.{levels_of, stack, began, opened_of, closed_of}
use Rattle.levels.specs.declared.Levels.{Levels}
use Rattle.levels.proofs.Laws.{stack_few, began_few, begun_clean, opened_levels, closed_levels}
use Rattle.writer.proofs.Judged.{list_room, began_length, behind_none, behind_members}
use Rattle.writer.proofs.levels_behind.Goals as goal

pub returns-then-row-ne0 : goal.returns-then-row-ne0
returns-then-row-ne0 c =
    let l = c.args.l in
    let r = c.args.row in
    let q = c.requires in
    let h = list_room (stack l) r (stack_few l q.clean) (q.in_order c.if-row-eq-L.true) c.if-row-ne0.true in
    let e : c.begun-low.result ≡ levels_of (began (stack l)) = c.begun-low.ensures ∙ begun_clean l q.clean in
    c.opened.ensures ∙ ap (λ (m : Levels). opened_of m r.length) e
    ∙ opened_levels r.length (began (stack l)) (omega (arith, began_length (stack l)))
    ∙ ap levels_of (sym (behind_members (stack l) r c.if-row-eq-L.true c.if-row-ne0.true))

pub returns-else-row-eq-L : goal.returns-else-row-eq-L
returns-else-row-eq-L c =
    let l = c.args.l in
    let r = c.args.row in
    let q = c.requires.clean in
    let e : c.begun-low.result ≡ levels_of (began (stack l)) = c.begun-low.ensures ∙ begun_clean l q in
    c.closed.ensures ∙ ap closed_of e ∙ closed_levels (began (stack l)) (began_few (stack l) (stack_few l q))
    ∙ ap levels_of (sym (behind_none (stack l) r c.else-row-eq-L.either))

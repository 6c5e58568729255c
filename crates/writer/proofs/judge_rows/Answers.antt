-- The rows from here on, judged at the levels, have the number of all rows; the levels are those of a stack.
use Prim.Native.Nat.{ℕ, ◌+◌, ◌≤◌}
use mathlib.Core.Path.{◌≡◌, refl, sym, ap, ◌∙◌, subst}
use mathlib.Core.List.{List, [], ◌∷◌, map}
use native.Mathlib.Omega.{arith}
use lib.ListN.{length, drop}
use Rattle.levels.specs.declared.Levels.{Levels}
use Rattle.levels.specs.Levels.{stack, levels_of, opened_of, Clean}
use Rattle.levels.proofs.Laws.{stack_length, stack_levels, stack_few, opened_levels, levels_are}
use Rattle.rows.specs.Row.{row_of}
use Rattle.std.proofs.lemmas.Result.{err_from_is_err_and}
use Rattle.writer.specs.Writing.{row_number, levels_behind, end_number, judged_from}
use Rattle.writer.proofs.Judged.{rows_next, rows_done, row_list, behind_few, judged_on, judged_refused, judged_end}
use Rattle.writer.proofs.judge_rows.Goals as goal

-- levels that are those of a stack
at_stack : (l : Levels) (st : List ℕ) → l ≡ levels_of st → length st ≤ 16 → Clean l × (stack l ≡ st)
at_stack l st e h = (subst Clean (sym e) (levels_are st h), ap stack e ∙ stack_levels st h)

end_none : (st : List ℕ) → length st ≡ 0 → end_number st ≡ 0
end_none [] e = refl
end_none (m ∷ st) e = absurd (omega arith)

end_some : (st : List ℕ) → (length st ≡ 0 → ⊥) → end_number st ≡ 15
end_some [] n = absurd (n refl)
end_some (m ∷ st) n = refl

pub loop-numbers-init : goal.loop-numbers-init
loop-numbers-init c =
    let a = c.args in
    let e = c.opened-l.ensures ∙ ap (λ (l : Levels). opened_of l 1) c.none.ensures ∙ opened_levels 1 [] (omega arith) in
    let k = at_stack c.opened-l.result (1 ∷ []) e (omega arith) in
    record { clean = k.0; rest = ap (λ (st : List ℕ). judged_from a.content.now st (map row_of a.rows.now)) k.1 }

pub returns-in_err-judge_row : goal.returns-in_err-judge_row
returns-in_err-judge_row c =
    let l = c.loop-numbers in
    let e = rows_next c.args.rows.now l.numbers-index _ _ c.from-row.ensures (omega arith) in
    let p = err_from_is_err_and c.from_residual.result c.from_residual.ensures.1 in
    rw (p.1, p.2) (judged_refused c.args.content.now (stack l.l) c.from-row.result _ _ _ e c.in_err-judge_row.ensures ∙ l.invariant.rest)

pub levels_behind-l-requires-clause-in_order : goal.levels_behind-l-requires-clause-in_order
levels_behind-l-requires-clause-in_order c = row_list c.args.content.now (stack c.loop-numbers.l) c.from-row.result (sym c.in_ok-judge_row.ensures)

pub loop-numbers-preserved : goal.loop-numbers-preserved
loop-numbers-preserved c =
    let l = c.loop-numbers in
    let s = c.args.content.now in
    let r = c.from-row.result in
    let st = stack l.l in
    let z : row_number s st r ≡ 0 = sym c.in_ok-judge_row.ensures in
    let e = rows_next c.args.rows.now l.numbers-index _ _ c.from-row.ensures (omega arith) in
    let k = at_stack _ (levels_behind st r) c.levels_behind-l.ensures (behind_few st r (stack_few l.l l.invariant.clean) (row_list s st r z)) in
    record {
      clean = k.0;
      rest = ap (λ (t : List ℕ). judged_from s t (map row_of (drop (l.numbers-index + 1) c.args.rows.now))) k.1
          ∙ sym (judged_on s st r _ _ e z) ∙ l.invariant.rest;
    }

-- behind the last row: nothing is awaited, or 15
pub returns-then-l-eq0 : goal.returns-then-l-eq0
returns-then-l-eq0 c =
    let l = c.loop-numbers in
    let e = judged_end c.args.content.now (stack l.l) _ (rows_done c.args.rows.now l.numbers-index (omega arith)) in
    sym (sym l.invariant.rest ∙ e ∙ end_none (stack l.l) (stack_length l.l.awaited l.l.level ∙ c.if-l-eq0.true))

pub returns-else-l-eq0 : goal.returns-else-l-eq0
returns-else-l-eq0 c =
    let l = c.loop-numbers in
    let e = judged_end c.args.content.now (stack l.l) _ (rows_done c.args.rows.now l.numbers-index (omega arith)) in
    sym (sym l.invariant.rest ∙ e ∙ end_some (stack l.l) (λ z. c.if-l-eq0.false (sym (stack_length l.l.awaited l.l.level) ∙ z)))

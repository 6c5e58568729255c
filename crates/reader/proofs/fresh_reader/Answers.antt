-- The tests are the definition's; one opened level is the stack of one count.
use mathlib.Core.Path.{◌≡◌, ap, ◌∙◌}
use mathlib.Core.List.{[], ◌∷◌}
use native.Mathlib.Omega.{arith}
use borrow.Author.Tests.{eq-eqb, ne_eqb, lt-ltb, le-ltb}
use Rattle.wire.specs.Longest.{longest}
use Rattle.levels.specs.Levels.{levels_of, opened_of}
use Rattle.levels.specs.declared.Levels.{Levels}
use Rattle.levels.proofs.Laws.{opened_levels}
use Rattle.reader.specs.State.{fresh}
use Rattle.reader.proofs.Bytes.{reader_over}
use Rattle.reader.proofs.fresh_reader.Goals as goal

pub returns-then-n-eq0 : goal.returns-then-n-eq0
unfolding fresh
returns-then-n-eq0 c =
    let a = c.args in
    rw (eq-eqb a.n 0 c.if-n-eq0.true) (reader_over c.reader_in.ensures c.none.ensures)

pub returns-then-n-eq1 : goal.returns-then-n-eq1
unfolding fresh
returns-then-n-eq1 c =
    let n = c.args.n in
    rw (ne_eqb n 0 c.if-n-eq0.false, eq-eqb n 1 c.if-n-eq1.true) c.refused.ensures

pub returns-then-n-gt-LONGEST : goal.returns-then-n-gt-LONGEST
unfolding fresh
returns-then-n-gt-LONGEST c =
    let n = c.args.n in
    rw (ne_eqb n 0 c.if-n-eq0.false, ne_eqb n 1 c.if-n-eq1.false, lt-ltb longest n c.if-n-gt-LONGEST.true)
    c.refused-then-n-gt-LONGEST.ensures

pub returns : goal.returns
unfolding fresh
returns c =
    let b = c in
    let a = b.args in
    let l : c.opened.result ≡ levels_of (1 ∷ []) =
    c.opened.ensures ∙ ap (λ (x : Levels). opened_of x 1) c.none-2.ensures ∙ opened_levels 1 [] (omega arith) in
    rw (ne_eqb a.n 0 b.if-n-eq0.false, ne_eqb a.n 1 b.if-n-eq1.false, le-ltb longest a.n b.if-n-gt-LONGEST.false)
    (reader_over c.reader_in-2.ensures l)

-- Each number is the field at its four bytes; where the numbers or the room end, nothing more is stored.
use mathlib.Core.Path.{sym, ◌∙◌}
use native.Mathlib.Omega.{arith}
use lib.ListN.{length-set}
use Rattle.records.proofs.Words.{turn, behind}
use Rattle.records.proofs.words_in.Goals as goal

pub loop-i-preserved : goal.loop-i-preserved
loop-i-preserved c =
    let s = c.args.s.now in
    let l = c.loop-i in
    record {
      kept = simp length-set l.invariant.kept;
      stored = turn s l.out l.i _ (omega (arith, c.min-i-end.ensures, c.loop-i-test.true)) c.field_at.ensures.number ∙ l.invariant.stored;
    }

pub returns : goal.returns
returns c =
    let l = c.loop-i in
    sym (behind c.args.s.now l.out l.i (omega (arith, c.min-i-end.ensures, l.invariant.kept))) ∙ l.invariant.stored

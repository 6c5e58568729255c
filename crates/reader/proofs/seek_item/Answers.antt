-- The bytes of a piece that are left are searched from the present reader as the whole piece is from the first.
use mathlib.Core.Path.{sym, ap, ◌∙◌}
use native.Mathlib.Omega.{arith}
use Rattle.reader.specs.Answer.{More, Nothing}
use Rattle.reader.specs.State.{state_of}
use Rattle.reader.specs.Items.{reached}
use Rattle.reader.proofs.Eats.{ready, on_holds}
use Rattle.reader.proofs.Turns.{seek_end}
use Rattle.reader.proofs.seek_item.Goals as goal

pub shown_by-shown-requires : goal.shown_by-shown-requires
shown_by-shown-requires c = ready c.loop-i.reader c.loop-i.invariant.on

pub status_in-answer-requires : goal.status_in-answer-requires
status_in-answer-requires c = c.turn-t.ensures.allowed

pub returns : goal.returns
returns c =
    let l = c.loop-i in
    sym (l.invariant.seeks ∙ seek_end (state_of l.reader) l.i l.i c.args.piece.now (omega arith)
    ∙ ap (reached Nothing More l.i) (on_holds l.reader l.invariant.on))

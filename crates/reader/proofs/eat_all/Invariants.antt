-- The bytes of a piece that are left are eaten from the present reader as the whole piece is from the first: a turn is a step of the definition.
use mathlib.Core.Path.{◌≡◌}
use lib.ListN.{drop}
use Rattle.reader.specs.State.{state_of}
use Rattle.reader.specs.Feed.{eat}
use Rattle.reader.specs.Asked.{On}
use Rattle.reader.proofs.eat_all.Given as goal

abbrev pub invariant-loop-i : goal.invariant-loop-i
invariant-loop-i l = record { on : On l.reader; eats : eat (state_of l.initial.reader) 0 l.piece ≡ eat (state_of l.reader) l.i (drop l.i l.piece) }

-- The bytes of the piece that are left are eaten from the present reader as the whole piece is from the first: a turn is a step of the definition.
use mathlib.Core.Path.{◌≡◌}
use lib.ListN.{drop}
use Rattle.frames.specs.Feed.{eat}
use Rattle.frames.specs.Asked.{Held}
use Rattle.frames.proofs.Held.{bytes_in}
use Rattle.frames.proofs.eat_head.Given as goal

abbrev pub invariant-loop-i : goal.invariant-loop-i
invariant-loop-i l = Held l.state × (eat (bytes_in l.initial.state) 0 l.piece ≡ eat (bytes_in l.state) l.i (drop l.i l.piece))

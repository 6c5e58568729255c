-- The rows from here on, judged at the levels, have the number of all rows; the levels are those of a stack.
use mathlib.Core.Path.{◌≡◌}
use mathlib.Core.List.{[], ◌∷◌, map}
use lib.ListN.{drop}
use Rattle.levels.specs.Levels.{stack, Clean}
use Rattle.rows.specs.Row.{row_of}
use Rattle.writer.specs.Writing.{judged_from}
use Rattle.writer.proofs.judge_rows.Given as goal

abbrev pub invariant-loop-numbers : goal.invariant-loop-numbers
invariant-loop-numbers l =
    record {
      clean : Clean l.l;
      rest : judged_from l.content (stack l.l) (map row_of (drop l.numbers-index l.rows)) ≡ judged_from l.content (1 ∷ []) (map row_of l.rows);
    }

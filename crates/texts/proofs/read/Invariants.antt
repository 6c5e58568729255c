-- Behind each number the table's fields so far are printed.
use Rattle.std.proofs.Common.{◌≡◌, ◌++◌, take}
use Rattle.texts.specs.Records.{numbers_fields}
use Rattle.texts.proofs.read.Given as goal

abbrev pub invariant-loop-number : goal.invariant-loop-number
invariant-loop-number l = l.stdout.said ≡ l.initial.stdout.said ++ numbers_fields (take l.number-index l.number-items)

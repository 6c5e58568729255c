-- The counts are sixteen of the numbers behind 26 bytes, and the phase is said behind 13.
use Rattle.std.proofs.Common.{arith, drop}
use lib.ListN.{length-drop}
use Rattle.std.proofs.lemmas.List.{take_rest}
use Rattle.feeds.proofs.Counts.{sixteen}
use Rattle.feeds.proofs.reader_in.Goals as goal

pub returns : goal.returns
returns c =
    let s = c.args.b.now in
    let counts = sixteen (drop 26 s) (omega (arith, c.requires, length-drop 26 s)) in
    rw (c.words_in.ensures, take_rest s 26, counts, c.phase_in.ensures, take_rest s 13, c.form_in.ensures, c.field_at.ensures.number)
    (rw (c.field_at-2.ensures.number, c.field_at-3.ensures.number, c.field_at-4.ensures.number))

-- The first message lies within the used bytes, so the part that is answered is theirs.
use Rattle.std.proofs.Common.{ℕ, take, sym, ap, ◌∙◌, arith}
use lib.Seq.{take-take, length-take-le}
use Rattle.outbox.specs.Outbox.{size_of}
use Rattle.outbox.proofs.Held.{held, first_is}
use Rattle.outbox.proofs.first.Goals as goal

pub slice_bounds-length_in-end : goal.slice_bounds-length_in-end
slice_bounds-length_in-end c = sym (length-take-le c.args.used c.args.s.now (held _ _ c.requires.0).0)

pub slice_bounds-result-end : goal.slice_bounds-result-end
slice_bounds-result-end c =
    let f = first_is _ _ _ c.requires.0 c.requires.1 c.length_in-size.ensures.0 in
    sym (length-take-le _ c.args.s.now (omega (arith, f.within, f.there)))

pub returns : goal.returns
returns c =
    let s = c.args.s.now in
    let f = first_is _ _ _ c.requires.0 c.requires.1 c.length_in-size.ensures.0 in
    ap (λ (k : ℕ). take k s) f.is ∙ sym (take-take (size_of s c.args.used) c.args.used s (omega (arith, f.is, f.within)))

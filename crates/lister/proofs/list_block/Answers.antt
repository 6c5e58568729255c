-- Each turn consumes a byte at least, since the output has room for what one prints, and none behind the block.
use Rattle.std.proofs.Common.{◌∙◌, length, arith}
use Rattle.listing.proofs.Cutting.{rest_within, rest_moves, rest_fits, rest_kept}
use borrow.Author.Rules.{rules}
use Rattle.lister.proofs.list_block.Goals as goal

pub overflow_add-from : goal.overflow_add-from
overflow_add-from c =
    let l = c.loop-from in
    let w = rest_within l.state (length l.out) c.args.block.now l.from _ c.loop-from-test.true c.list-r.ensures.0 in
    search (rules, w)

pub slice_bounds-write_all-end : goal.slice_bounds-write_all-end
slice_bounds-write_all-end c =
    let l = c.loop-from in
    let w = rest_fits l.state (length l.out) c.args.block.now l.from _ c.loop-from-test.true c.list-r.ensures.0 in
    let k = rest_kept l.state (length l.out) c.args.block.now l.from _ c.loop-from-test.true c.list-r.ensures.0 l.out _ c.list-r.ensures.1 in
    omega (arith, w, k)

pub loop-from-smaller : goal.loop-from-smaller
loop-from-smaller c =
    let l = c.loop-from in
    let a = rest_within l.state (length l.out) c.args.block.now l.from _ c.loop-from-test.true c.list-r.ensures.0 in
    let b = rest_moves l.state (length l.out) c.args.block.now l.from _ c.loop-from-test.true c.list-r.ensures.0 (omega (arith, l.invariant.0)) in
    omega (arith, a, b)

pub loop-from-preserved : goal.loop-from-preserved
loop-from-preserved c =
    let l = c.loop-from in (
      rest_kept l.state (length l.out) c.args.block.now l.from _ c.loop-from-test.true c.list-r.ensures.0 l.out _ c.list-r.ensures.1 ∙ l.invariant.0,
      rest_within l.state (length l.out) c.args.block.now l.from _ c.loop-from-test.true c.list-r.ensures.0,
    )

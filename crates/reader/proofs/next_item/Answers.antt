-- The answer before the piece decides, as in the definition.
use mathlib.Core.Path.{◌≡◌, sym, ◌∙◌}
use borrow.Author.Rules.{rules}
use lib.ListN.{length}
use Rattle.std.specs.Prelude.{Ok}
use Rattle.reader.specs.declared.Progress.TheVariants as P
use Rattle.reader.proofs.Answered.{says_more, says_other, opening_on, next_on, next_not}
use Rattle.reader.proofs.next_item.Goals as goal

pub seek_item-requires : goal.seek_item-requires
seek_item-requires c =
    let r = c.args.r in
    let full : length r.awaited ≡ 16 = search rules in
    let m : c.opening-answer.result ≡ Ok P.More = search rules in
    opening_on r c.args.piece.now full (sym c.opening-answer.ensures ∙ says_more _ m)

pub returns-then-eq : goal.returns-then-eq
returns-then-eq c =
    let m : c.opening-answer.result ≡ Ok P.More = search rules in
    c.seek_item.ensures ∙ sym (next_on c.args.r c.args.piece.now (sym c.opening-answer.ensures ∙ says_more _ m))

pub returns : goal.returns
returns c =
    let n : c.opening-answer.result ≡ Ok P.More → ⊥ = search rules in
    sym (next_not c.args.r c.args.piece.now _ (sym c.opening-answer.ensures) (says_other _ n))

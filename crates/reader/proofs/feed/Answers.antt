-- The answer before the piece decides, as in the definition.
use mathlib.Core.Path.{◌≡◌, sym, ◌∙◌}
use borrow.Author.Rules.{rules}
use lib.ListN.{length}
use Rattle.std.specs.Prelude.{Ok}
use Rattle.reader.specs.declared.Progress.TheVariants as P
use Rattle.reader.proofs.Answered.{says_more, says_other, opening_on, fed_on, fed_not}
use Rattle.reader.proofs.feed.Goals as goal

pub eat_all-requires : goal.eat_all-requires
eat_all-requires c =
    let r = c.args.r in
    let full : length r.awaited ≡ 16 = search rules in
    let m : c.opening-answer.result ≡ Ok P.More = search rules in
    opening_on r c.args.piece.now full (sym c.opening-answer.ensures ∙ says_more _ m)

pub returns-then-eq : goal.returns-then-eq
returns-then-eq c =
    let m : c.opening-answer.result ≡ Ok P.More = search rules in
    c.eat_all.ensures ∙ sym (fed_on c.args.r c.args.piece.now (sym c.opening-answer.ensures ∙ says_more _ m))

pub returns : goal.returns
returns c =
    let n : c.opening-answer.result ≡ Ok P.More → ⊥ = search rules in
    sym (fed_not c.args.r c.args.piece.now _ (sym c.opening-answer.ensures) (says_other _ n))

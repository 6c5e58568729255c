-- The bytes of a piece that are left are eaten from the present reader as the whole piece is from the first: a turn is a step of the definition.
use mathlib.Core.Path.{◌≡◌, sym, ap, ◌∙◌}
use native.Mathlib.Omega.{arith}
use borrow.Author.Rules.{rules}
use lib.ListN.{length}
use Rattle.std.specs.Prelude.{ℕ, Ok}
use Rattle.reader.specs.Answer.{More, answer_in}
use Rattle.reader.specs.declared.Progress.TheVariants as P
use Rattle.reader.specs.State.{state_of}
use Rattle.reader.specs.Feed.{fed}
use Rattle.reader.proofs.Answered.{says_other}
use Rattle.reader.proofs.Eats.{ready, on_holds, turned, eat_end, step_allowed, after_more, after_done}
use Rattle.reader.proofs.eat_all.Goals as goal

pub step_byte-reader-requires : goal.step_byte-reader-requires
step_byte-reader-requires c = ready c.loop-i.reader c.loop-i.invariant.on

pub status_in-answer-requires : goal.status_in-answer-requires
status_in-answer-requires c =
    let l = c.loop-i in
    let byte = c.type_inv.piece l.i in
    step_allowed l.reader _ _ (omega (arith, byte)) l.invariant.on c.step_byte-reader.ensures

pub loop-i-preserved : goal.loop-i-preserved
loop-i-preserved c =
    let l = c.loop-i in
    let byte = c.type_inv.piece l.i in
    let t = turned c.args.piece.now (state_of c.args.r) l.reader l.i _ _ (omega arith) (omega (arith, byte)) l.invariant.on l.invariant.eats
    c.step_byte-reader.ensures c.status_in-answer.ensures in
    let m : answer_in c.status_in-answer.result ≡ More = search rules in
    record { on = t.on m; eats = t.eats ∙ after_more _ _ _ _ m }

pub returns-then-ne : goal.returns-then-ne
returns-then-ne c =
    let l = c.loop-i in
    let byte = c.type_inv.piece l.i in
    let t = turned c.args.piece.now (state_of c.args.r) l.reader l.i _ _ (omega arith) (omega (arith, byte)) l.invariant.on l.invariant.eats
    c.step_byte-reader.ensures c.status_in-answer.ensures in
    let n : c.status_in-answer.result ≡ Ok P.More → ⊥ = search rules in
    sym (t.eats ∙ after_done _ _ _ _ (says_other _ n) ∙ ap (fed _ _) t.holds)

pub returns : goal.returns
returns c =
    let l = c.loop-i in
    let p = c.args.piece.now in
    let e : l.i ≡ length p = omega arith in
    sym (l.invariant.eats ∙ eat_end (state_of l.reader) l.i l.i p (omega arith) ∙ ap (fed More l.i) (on_holds l.reader l.invariant.on)
    ∙ ap (λ (n : ℕ). fed More n l.reader) e)

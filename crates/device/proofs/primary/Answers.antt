-- A text that is refused has a number that is not 0.
use Rattle.std.specs.Prelude.{◌≡◌, false, eqb}
use Rattle.std.proofs.Common.{sym, ◌∙◌, arith}
use Rattle.std.proofs.lemmas.Grind.{common_steps}
use Rattle.text.specs.Text.{judged_of}
use Rattle.wire.proofs.Pick.{picks}
use Rattle.device.specs.Rows.{primary_of}
use Rattle.device.proofs.Judged.{refused}
use Rattle.device.proofs.primary.Goals as goal

pub returns-then-is_err : goal.returns-then-is_err
unfolding primary_of
returns-then-is_err c =
    let e : eqb (judged_of c.args.text.now) 0 ≡ false = refused c.judge.result _ c.judge.ensures (sym c.is_err.ensures.value ∙ c.if-is_err.true) in
    grind (arith, common_steps, picks)

-- Where what a record makes is a function, so is what the lines make.
use Rattle.std.proofs.Common.{ℕ, List, []}
use Rattle.std.proofs.lemmas.Result.{IfOk-weaker}
use Rattle.driver.specs.Input.{input_of}
use Rattle.driver.proofs.Walk.{lines_are}
use Rattle.driver.proofs.run_on.Goals as goal

pub returns : goal.returns
returns g c =
    let begun : g.row.P.Denot × List ℕ = (c.args.program.now, []) in
    let one = lines_are g.P.Defined.done begun (input_of c.args.input.now) in
    IfOk-weaker c.run_any.result _ _ (λ stdout m. one (c.run_any.new.program, stdout.said) m) c.run_any.ensures

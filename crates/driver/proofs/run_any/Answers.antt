-- Of too many bytes it is said that they are.
use Rattle.std.proofs.Common.{ℕ, List, [], ◌∙◌, refl, ap, ◌++◌}
use Rattle.driver.specs.Input.{too_much}
use Rattle.driver.proofs.Walk.{too_many}
use Rattle.driver.proofs.run_any.Goals as goal

pub returns-then-input-gt-MOST : goal.returns-then-input-gt-MOST
returns-then-input-gt-MOST g c =
    let said = c.in_ok-write_str.ensures.ok refl ∙ ap (λ (s : List ℕ). s ++ too_much) c.new-stdout.ensures in
    too_many g.P.Program.makes (c.args.program.now, []) c.args.input.now c.write_str.new.self.said c.if-input-gt-MOST.true said

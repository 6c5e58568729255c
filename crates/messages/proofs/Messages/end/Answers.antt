-- The stream's number.
use Rattle.std.proofs.Common.{◌∙◌, ap}
use Rattle.std.proofs.lemmas.Result.{on_ok_weaker}
use Rattle.driver.proofs.Fields.{wrote}
use Rattle.messages.proofs.Messages.end.Goals as goal

pub returns : goal.returns
returns c =
    let number = c.number.ensures ∙ c.end.ensures in
    on_ok_weaker c.writeln.result
    (λ w. ap (λ said. (c.args.self.now, said)) (wrote c.args.stdout.now c.writeln.new.self _ w ∙ rw number)) c.writeln.ensures.writes

-- A stream whose flag is set is written behind those before it.
use Rattle.std.proofs.Common.{arith, refl}
use Rattle.std.specs.Prelude.{codes}
use Rattle.std.proofs.lemmas.Grind.{common_steps}
use Rattle.driver.specs.Printed.{field}
use Rattle.sessions.specs.Records.{flags_first}
use Rattle.sessions.proofs.Printed.{more, no_more}
use Rattle.sessions.proofs.Printing.{flag_more, flag_none}
use Rattle.sessions.proofs.FlagsDisplay.fmt.Goals as goal
use Rattle.sessions.proofs.FlagsDisplay.fmt.Goals.{then-flag+in_ok-write, else-flag}

pub loop-stream-init : goal.loop-stream-init
unfolding flags_first
loop-stream-init g c = grind (arith, common_steps)

pub loop-stream-preserved : goal.loop-stream-preserved
loop-stream-preserved g c =
    let l = c.args.self.now.0.now in
    let k = c.loop-stream.stream-counter in
    elim c.if-flag.branch [
      | then-flag+in_ok-write w ↦ λ p.
          more (c.loop-stream.invariant p) (λ q. w.in_ok-write.ensures.writes q refl) w.f-is (flag_more (field (codes "flags")) l k w.if-flag.true)
      | else-flag w ↦ λ p. no_more (c.loop-stream.invariant p) w.f-is (flag_none (field (codes "flags")) l k w.if-flag.false)
    ]

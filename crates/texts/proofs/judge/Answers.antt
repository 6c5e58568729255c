-- Of a good text the rows and bytes are printed too.
use Rattle.std.proofs.Common.{◌≡◌, ◌∙◌, ◌++◌, rules, List, ℕ, ap, sym, append-nil, append_assoc}
use Rattle.std.proofs.lemmas.Result.{IfOk-equal}
use Rattle.text.specs.Measured.{Measured}
use Rattle.text.specs.Text.{measured_of}
use Rattle.driver.specs.declared.stdout.Stdout.{Stdout}
use Rattle.driver.proofs.Fields.{wrote}
use Rattle.texts.specs.Records.{measured_fields}
use Rattle.texts.proofs.judge.Goals.{in-Ok+in_ok-write-2, in_default}
use Rattle.texts.proofs.judge.Goals as goal

pub returns : goal.returns
returns c =
    let t = c.args.t.now in
    let said : List ℕ = c.write.new.self.said in
    let good = c.number-good.ensures ∙ c.judge.ensures in
    let lean = c.number-lean.ensures ∙ c.judge_as.ensures in
    let first = wrote c.args.stdout.now c.write.new.self _ c.in_ok-write.ensures.writes in
    let more : c.match-measure.stdout.said ≡ said ++ measured_fields (measured_of t) =
    elim c.match-measure.branch [
      | in-Ok+in_ok-write-2 w ↦
          ap (λ (x : Stdout). x.said) w.stdout-is ∙ wrote c.write.new.self w.write-in-Ok.new.self _ w.in_ok-write-2.ensures.writes
          ∙ ap (λ (m : Measured). said ++ measured_fields m) w.in-Ok.ensures
      | in_default w ↦ ap (λ (x : Stdout). x.said) w.stdout-is ∙ sym (append-nil said) ∙ ap (λ (m : Measured). said ++ measured_fields m) w.in_default.ensures
    ] in
    rw (← good, ← lean) (search (rules, IfOk-equal, append_assoc))

-- The word is by the list.
use Rattle.std.proofs.Common.{◌≡◌, ◌∙◌, sym, ap, true, false, cond, List, ℕ, Bor, [], ◌∷◌, ◌++◌}
use Rattle.std.specs.Prelude.{codes}
use Rattle.allowed.specs.States.{allows}
use Rattle.driver.specs.Printed.{field}
use Rattle.sessions.specs.Records.{state_fields}
use Rattle.sessions.proofs.Printed.{printed}
use Rattle.sessions.proofs.Printing.{at_once}
use Rattle.sessions.proofs.Sessions.changed.Goals as goal
use Rattle.sessions.proofs.Sessions.changed.Goals.{then-allows_state, else-allows_state}

pub returns : goal.returns
returns c =
    let s = c.args.self.now.session in
    let word = cond (allows s) (codes "allowed") (codes "broken") in
    let now = λ (b : Bor (List ℕ)). b.now in
    let is : c.if-allows_state.word.now ≡ word = elim c.if-allows_state.branch [
      | then-allows_state w ↦ (let e : allows s ≡ true = sym c.allows_state.ensures ∙ w.if-allows_state.true in rw e (ap now w.word-is))
      | else-allows_state w ↦ (let e : allows s ≡ false = sym c.allows_state.ensures ∙ w.if-allows_state.false in rw e (ap now w.word-is))
    ] in
    let line = ap (λ (l : List ℕ). codes "state" ++ field (l ++ (state_fields s ++ 10 ∷ []))) is in
    printed c.writeln.result _ _ (line ∙ at_once (codes "state") word (state_fields s)) c.writeln.ensures.writes

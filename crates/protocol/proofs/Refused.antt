-- A refusal changes nothing and sends nothing, nor does a drop: every row that changes or sends anything has another number.
use Prim.Native.Nat.{ℕ, ◌<◌}
use mathlib.Core.Bool.{false, false≢true}
use mathlib.Core.List.{List}
use mathlib.Core.Path.{◌≡◌, ap, sym, ◌∙◌}
use native.Mathlib.Omega.{arith}
use borrow.Author.Tests.{ne_eqb}
use Rattle.state.specs.declared.Session.{Session}
use Rattle.session.specs.Table.{told, step_of}
use Rattle.session.specs.Stepped.{Stepped}
use Rattle.session.specs.declared.Event.{Event}
use Rattle.protocol.specs.Protocol.{acts, Unchanged}
use Rattle.protocol.proofs.Rows.{Does, stays, judges, links, carries, by_hearing, answers, step_does}

told_unchanged : (s : Session) (n : ℕ) (r : Stepped) → r ≡ told n s → Unchanged s r
told_unchanged s n r e = record { state = ap (λ (x : Stepped). x.session) e; silent = ap (λ (x : Stepped). x.send) e }

does_unchanged : (s : Session) (e : Event) (text : List ℕ) (r : Stepped) → Does s e text r → acts r.number ≡ false → Unchanged s r
does_unchanged s e text r (stays n z is) idle = told_unchanged s n r is
does_unchanged s e text r (judges z is) idle = told_unchanged s _ r is
does_unchanged s e text r (links a z y) idle = absurd (false≢true (sym idle ∙ a))
does_unchanged s e text r (carries z a y) idle = absurd (false≢true (sym idle ∙ a))
does_unchanged s e text r (by_hearing h i is q) idle = absurd (false≢true (sym idle ∙ ap acts is))
does_unchanged s e text r (answers h a) idle = absurd (false≢true (sym idle ∙ ap acts a.number))

module _ (s : Session) (e : Event) (text : List ℕ) where
  -- Unless the number is 0, 30, 31 or 34 the state is as it was and nothing is sent: so too where a message is dropped, 32 and 33, or closes nothing, 35.
  pub unchanged : acts (step_of s e text).number ≡ false → Unchanged s (step_of s e text)
  unchanged = does_unchanged s e text (step_of s e text) (step_does s e text)

  -- A REFUSAL CHANGES NOTHING: 1 to 6, 14, 20 to 27.
  pub refused : ((step_of s e text).number ≡ 0 → ⊥) → (step_of s e text).number < 30 → Unchanged s (step_of s e text)
  refused some few = unchanged (idle (step_of s e text).number some few)
    where
      idle : (n : ℕ) → (n ≡ 0 → ⊥) → n < 30 → acts n ≡ false
      idle n some few = rw (ne_eqb n 0 some, ne_eqb n 30 (λ w. omega arith), ne_eqb n 31 (λ w. omega arith), ne_eqb n 34 (λ w. omega arith))

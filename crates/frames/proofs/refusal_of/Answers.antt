-- From 10 to 12 each number is a refusal's.
use Rattle.std.specs.Prelude.{◌≡◌, ◌≤◌, ℕ, Bool, true, false, eqb, Result, Ok, Err, IsOk}
use Rattle.std.proofs.Common.{refl, sym, arith}
use borrow.Author.Tests.{eqb-true, eqb-false}
use Rattle.refusal.specs.Number.{number_of, Numbered}
use Rattle.refusal.specs.declared.Refusal.{Refusal}
use Rattle.refusal.specs.declared.Refusal.TheVariants.{ShortFrame, LongFrame, ControlWithText}
use Rattle.refusal.specs.declared.UnknownNumber.{UnknownNumber}
use Rattle.frames.proofs.refusal_of.Goals as goal

named : (n : ℕ) → 10 ≤ n → n ≤ 12 → (refusal : Refusal) × (number_of refusal ≡ n)
named n h k = go (eqb n 10) (eqb n 11) refl refl
  where
    go : (a b : Bool) → eqb n 10 ≡ a → eqb n 11 ≡ b → (refusal : Refusal) × (number_of refusal ≡ n)
    go true b p q = (ShortFrame, sym (eqb-true n 10 p))
    go false true p q = (LongFrame, sym (eqb-true n 11 q))
    go false false p q = (ControlWithText, omega (arith, eqb-false n 10 p, eqb-false n 11 q))

known : (n : ℕ) (r : Result Refusal UnknownNumber) → Numbered n r → 10 ≤ n → n ≤ 12 → IsOk r
known n (Ok refusal) e h k = refl
known n (Err x) e h k =
    let (refusal, q) = named n h k in
    absurd (e.1 refusal q)

pub unwrap-requires : goal.unwrap-requires
unwrap-requires c = known _ c.try_from.result c.try_from.ensures c.requires.0 c.requires.1

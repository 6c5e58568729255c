-- A text byte that is not refused came to a reader that the list allows, whose length bytes so far say a small number.
use Rattle.std.proofs.Common.{◌≡◌, ℕ, ◌-◌, ◌^◌, ◌<◌, Bool, true, false, cond, List, length, sym, refl, subst, arith}
use Rattle.levels.specs.Levels.{stack_of}
use Rattle.reader.specs.State.{state_of}
use Rattle.reader.specs.Feed.{allows, status, fed, start, fed_of}
use Rattle.reader.proofs.Rest.{LiveAt}
use Rattle.reader.specs.Answer.{Answer, More, Complete, Refusal}
use Rattle.reader.specs.Answer.{progress_in}
use Rattle.reader.specs.declared.Progress.{Progress}
use Rattle.reader.specs.declared.Progress.TheVariants as R
use Rattle.reader.specs.declared.Phase.{Phase}
use Rattle.reader.specs.declared.Phase.TheVariants.{Length}
use Rattle.reader.specs.declared.Reader.{Reader}
use Rattle.reader.proofs.Allowed.{Going, allows_held}

-- no refusal
abbrev pub Taken : Answer → Type 0
Taken More = Unit {0}
Taken Complete = Unit {0}
Taken (Refusal e) = ⊥

taken : (p : Progress) → Taken (progress_in p)
taken R.More = tt
taken R.Complete = tt

module _ (r : Reader) (bs : List ℕ) where
  pub taken_allowed : Taken (fed_of r bs).answer → allows r ≡ true
  unfolding fed_of
  taken_allowed h = go (allows r) refl h
    where
      go : (b : Bool) → allows r ≡ b → Taken (cond b (start (status (state_of r)) r bs) (fed (Refusal 14) 0 r)).answer → allows r ≡ true
      go true e t = e
      go false e t = absurd t

  -- a byte of a text that goes on
  pub went_on : (p : Progress) → (fed_of r bs).answer ≡ progress_in p → allows r ≡ true
  went_on p e = taken_allowed (subst (λ (a : Answer). Taken a) (sym e) (taken p))

-- with one length byte to come, those before it say less than 65,536
pub length_small : (r : Reader) (c j v : ℕ) → length r.awaited ≡ 16 → allows r ≡ true → r.phase ≡ Length c j v → j ≡ 1 → v < 65536
length_small r c j v full a e one =
    let g : Going r.phase = subst (λ (p : Phase). Going p) (sym e) tt in
    let live : LiveAt (Length c j v) (stack_of r.awaited r.level) =
    subst (λ (p : Phase). LiveAt p (stack_of r.awaited r.level)) e (allows_held r full g a).live.at in
    let small : v < 256 ^ (3 - 1) = subst (λ (k : ℕ). v < 256 ^ (3 - k)) one live.small in
    omega (arith, small)

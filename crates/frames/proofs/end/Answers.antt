-- The list and then the phase decide, as in the definition; a head of which some bytes came is not empty.
use borrow.Author.Rules.{rules}
use Prim.Native.Nat.{ℕ, zero, suc, ◌<◌, ◌≤◌}
use mathlib.Core.Path.{◌≡◌, refl, sym, ◌∙◌}
use mathlib.Core.Bool.{true, false}
use mathlib.Core.List.{List, [], ◌∷◌}
use native.Mathlib.Omega.{arith}
use borrow.Author.Tests.{eq-eqb, ne_eqb}
use lib.ListN.{length, take}
use Rattle.frames.specs.State.{head, text, state_in}
use Rattle.frames.specs.Feed.{allows, end_in, end_of}
use Rattle.frames.specs.declared.Phase.{Phase}
use Rattle.frames.specs.declared.Phase.TheVariants.{Head, Text, Refused}
use Rattle.frames.specs.declared.FrameReader.{FrameReader}
use Rattle.frames.proofs.Held.{state_in_phase, refused_range}
use Rattle.frames.proofs.end.Goals as goal

-- a state that the list allows, by its phase
allowed : (r : FrameReader) (x : Phase) → allows r ≡ true → r.phase ≡ x → end_in (state_in x r) ≡ end_of r
unfolding end_of
allowed r x e f = rw (e, state_in_phase r x f)

-- of a head none or some bytes came
nothing : (l : List ℕ) (n : ℕ) → n ≤ 0 → 0 ≡ end_in (head (take n l))
nothing l n h =
    let e : n ≡ 0 = omega arith in
    rw e

something : (l : List ℕ) (n : ℕ) → length l ≡ 14 → 0 < n → 13 ≡ end_in (head (take n l))
something l zero e h = absurd (omega arith)
something [] (suc n) e h = absurd (omega arith)
something (b ∷ l) (suc n) e h = refl

inside : (n : ℕ) → 0 < n → 13 ≡ end_in (text n)
inside n h = rw (ne_eqb n 0 (λ e. omega arith))

over : (n : ℕ) → n ≤ 0 → 0 ≡ end_in (text n)
over n h = rw (eq-eqb n 0 (omega arith))

pub returns-then-not-allows_state : goal.returns-then-not-allows_state
unfolding end_of
returns-then-not-allows_state c =
    let e : allows c.args.r ≡ false = sym c.allows_state.ensures ∙ c.if-not-allows_state.true in
    rw e

pub refusal_of-requires : goal.refusal_of-requires
refusal_of-requires c =
    let full : length c.args.r.held ≡ 14 = search rules in
    refused_range c.args.r full _ (sym c.allows_state.ensures ∙ c.if-not-allows_state.false) c.in-Refused.is

pub returns-in-Head : goal.returns-in-Head
returns-in-Head c =
    let r = c.args.r in
    let full : length r.held ≡ 14 = search rules in
    something r.held r.count full c.if-r-gt0.true ∙ allowed r Head (sym c.allows_state.ensures ∙ c.if-not-allows_state.false) c.in-Head.is

pub returns-in-Text : goal.returns-in-Text
returns-in-Text c =
    inside c.args.r.left c.if-r-gt0-2.true ∙ allowed c.args.r Text (sym c.allows_state.ensures ∙ c.if-not-allows_state.false) c.in-Text.is

pub returns-in-Refused : goal.returns-in-Refused
returns-in-Refused c =
    c.refusal_of.ensures ∙ allowed c.args.r (Refused _) (sym c.allows_state.ensures ∙ c.if-not-allows_state.false) c.in-Refused.is

pub returns-in_default : goal.returns-in_default
returns-in_default c =
    let r = c.args.r in
    nothing r.held r.count c.if-r-gt0.false ∙ allowed r Head (sym c.allows_state.ensures ∙ c.if-not-allows_state.false) c.in-Head.is

pub returns-in_default-2 : goal.returns-in_default-2
returns-in_default-2 c =
    over c.args.r.left c.if-r-gt0-2.false ∙ allowed c.args.r Text (sym c.allows_state.ensures ∙ c.if-not-allows_state.false) c.in-Text.is

-- The list and then the phase decide, as in the definition; a state that it allows in a head holds the bytes that came.
use borrow.Author.Rules.{rules}
use Prim.Native.Nat.{ℕ}
use mathlib.Core.Path.{◌≡◌, sym, ap, ◌∙◌}
use mathlib.Core.Bool.{true, false}
use mathlib.Core.List.{List}
use lib.ListN.{length}
use Rattle.frames.specs.State.{state_in}
use Rattle.frames.specs.Feed.{allows, refused_after, start, fed_of}
use Rattle.frames.specs.declared.Phase.{Phase}
use Rattle.frames.specs.declared.Phase.TheVariants.{Head, Text, Refused}
use Rattle.frames.specs.declared.FrameReader.{FrameReader}
use Rattle.frames.proofs.Held.{state_in_phase, allows_held, refused_range}
use Rattle.frames.proofs.feed.Goals as goal

-- a state that the list allows, by its phase
allowed : (r : FrameReader) (p : List ℕ) (x : Phase) → allows r ≡ true → r.phase ≡ x → start (state_in x r) p ≡ fed_of r p
unfolding fed_of
allowed r p x e f = rw (e, state_in_phase r x f)

pub returns-then-not-allows_state : goal.returns-then-not-allows_state
unfolding fed_of
returns-then-not-allows_state c =
    let e : allows c.args.r ≡ false = sym c.allows_state.ensures ∙ c.if-not-allows_state.true in
    rw e

pub eat_head-requires : goal.eat_head-requires
eat_head-requires c =
    let full : length c.args.r.held ≡ 14 = search rules in
    allows_held c.args.r full c.in-Head.is (sym c.allows_state.ensures ∙ c.if-not-allows_state.false)

pub refusal_of-requires : goal.refusal_of-requires
refusal_of-requires c =
    let full : length c.args.r.held ≡ 14 = search rules in
    refused_range c.args.r full _ (sym c.allows_state.ensures ∙ c.if-not-allows_state.false) c.in-Refused.is

pub returns-in-Head : goal.returns-in-Head
returns-in-Head c = c.eat_head.ensures ∙ allowed c.args.r _ Head (sym c.allows_state.ensures ∙ c.if-not-allows_state.false) c.in-Head.is

pub returns-in-Text : goal.returns-in-Text
returns-in-Text c = c.text_fed.ensures ∙ allowed c.args.r _ Text (sym c.allows_state.ensures ∙ c.if-not-allows_state.false) c.in-Text.is

pub returns-in-Refused : goal.returns-in-Refused
returns-in-Refused c =
    c.refused.ensures
    ∙ ap (λ (n : ℕ). refused_after n 0) c.refusal_of.ensures
    ∙ allowed c.args.r _ (Refused _) (sym c.allows_state.ensures ∙ c.if-not-allows_state.false) c.in-Refused.is

-- A feed of no byte ends a frame behind the last byte of its text alone.
use Rattle.std.proofs.Common.{◌≡◌, Bool, true, false, cond, [], refl, ne_eqb}
use Rattle.frames.specs.State.{state_of, state_in}
use Rattle.frames.specs.Feed.{allows, eat, text_fed, start, fed_of}
use Rattle.frames.specs.Event.{Refusal, Fed}
use Rattle.frames.specs.declared.FrameReader.{FrameReader}
use Rattle.frames.specs.declared.Phase.{Phase}
use Rattle.frames.specs.declared.Phase.TheVariants.{Head, Text, Refused}
use Rattle.capture.specs.Capture.{settled, settled_by}
use Rattle.capture.specs.declared.Lister.{Lister}

abbrev after : Fed → Lister → Lister
after f l = settled_by f.event l f.reader

module _ (l : Lister) (r : FrameReader) where
  at : (x : Phase) → (x ≡ Text → r.left ≡ 0 → ⊥) → after (start (state_in x r) []) l ≡ l
  unfolding eat text_fed
  at Head some = refl
  at Text some = rw (ne_eqb r.left 0 (some refl))
  at (Refused e) some = refl

  if_allowed : (b : Bool) (x : Phase) → (x ≡ Text → r.left ≡ 0 → ⊥)
      → after (cond b (start (state_in x r) []) (record { event = Refusal 14; consumed = 0; reader = r })) l ≡ l
  if_allowed true x some = at x some
  if_allowed false x some = refl

pub unended : (l : Lister) → (l.frames.phase ≡ Text → l.frames.left ≡ 0 → ⊥) → settled l ≡ l
unfolding settled fed_of state_of
unended l some = if_allowed l l.frames (allows l.frames) l.frames.phase some

-- What the definitions are given tells what a feed answered.
use Rattle.std.specs.Prelude.{◌≡◌, ℕ, Result, Ok, Err}
use Rattle.std.proofs.Common.{refl, sym, ap, ◌∙◌, arith}
use Rattle.refusal.specs.declared.Refusal as refusal
use Rattle.refusal.proofs.Once.{some_number, one_refusal}
use Rattle.frames.specs.declared.Event as told
use Rattle.frames.specs.declared.Event.TheVariants as T
use Rattle.frames.specs.declared.Fed as answered
use Rattle.frames.specs.declared.FrameReader.{FrameReader}
use Rattle.frames.specs.Event.{Event, More, Header, Text, End, Refusal, Fed, event_of, event_in, fed_in}

-- the event that is no refusal, and the refusal's number; of the other kind, any
abbrev told_at : Event → told.Event
told_at More = T.More
told_at (Header h n) = T.Header h n
told_at (Text n) = T.Text n
told_at End = T.End
told_at (Refusal n) = T.More

abbrev refused_at : Event → ℕ
refused_at More = 0
refused_at (Header h n) = 0
refused_at (Text n) = 0
refused_at End = 0
refused_at (Refusal n) = n

at_told : (x : told.Event) → told_at (event_of x) ≡ x
at_told T.More = refl
at_told (T.Header h n) = refl
at_told (T.Text n) = refl
at_told T.End = refl

none_refused : (x : told.Event) → refused_at (event_of x) ≡ 0
none_refused T.More = refl
none_refused (T.Header h n) = refl
none_refused (T.Text n) = refl
none_refused T.End = refl

one_event : (r s : Result told.Event refusal.Refusal) → event_in r ≡ event_in s → r ≡ s
one_event (Ok x) (Ok y) e = ap Ok (sym (at_told x) ∙ ap told_at e ∙ at_told y)
one_event (Err d) (Err f) e = ap Err (one_refusal d f (ap refused_at e))
one_event (Ok x) (Err f) e = absurd (omega (arith, some_number f, sym (none_refused x) ∙ ap refused_at e))
one_event (Err d) (Ok y) e = absurd (omega (arith, some_number d, ap refused_at e ∙ none_refused y))

made : (r s : Result told.Event refusal.Refusal) (k j : ℕ) (x y : FrameReader) → r ≡ s → k ≡ j → x ≡ y
    → ◌≡◌ {A = answered.Fed} (record { event = r; consumed = k; reader = x }) (record { event = s; consumed = j; reader = y })
made r s k j x y p q t = rw (p, q, t)

pub one_fed : (f g : answered.Fed) → fed_in f ≡ fed_in g → f ≡ g
one_fed f g e =
    made f.event g.event f.consumed g.consumed f.reader g.reader
    (one_event f.event g.event (ap (λ (x : Fed). x.event) e))
    (ap (λ (x : Fed). x.consumed) e)
    (ap (λ (x : Fed). x.reader) e)

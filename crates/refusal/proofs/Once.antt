-- A refusal has one number, and a number at most one refusal; so an answer's number, or what it counts, tells the answer.
use Rattle.std.specs.Prelude.{◌≡◌, ◌<◌, ℕ, cond, eqb, Result, Ok, Err}
use Rattle.std.proofs.Common.{refl, sym, ap, ◌∙◌, arith}
use Rattle.refusal.specs.declared.Refusal.{Refusal}
use Rattle.refusal.specs.declared.Refusal.TheVariants.{UnknownCode, NoLengthBytes, WrongLength, TooDeep, NoSuchText, WrongByte, BehindComplete, NoElement}
use Rattle.refusal.specs.declared.Refusal.TheVariants.{IsList, ShortFrame, LongFrame, ControlWithText, InsideFrame, BrokenState, NotOneItem, OutsideContent}
use Rattle.refusal.specs.declared.Refusal.TheVariants.{ShortOutput, LongText, ShortTable, NotConnected, AlreadyConnected, NotSelected, NoPrimary}
use Rattle.refusal.specs.declared.Refusal.TheVariants.{OwnSlotsFull, NoReceivedSlot, LinktestOpen, TimerStopped, WrongDevice, NoRoom, BothEmpty, NotWholeFrames}
use Rattle.refusal.specs.declared.UnknownNumber.{UnknownNumber}
use Rattle.refusal.specs.Number.{number_of, Numbered}
use Rattle.refusal.specs.Answer.{number_in, Counted, Is, Refused, counted_in}

-- the refusal with a number; of a number that none has, any
abbrev refusal_at : ℕ → Refusal
refusal_at n =
    cond (eqb n 1) UnknownCode (
    cond (eqb n 2) NoLengthBytes (
    cond (eqb n 3) WrongLength (
    cond (eqb n 4) TooDeep (
    cond (eqb n 5) NoSuchText (
    cond (eqb n 6) WrongByte (
    cond (eqb n 7) BehindComplete (
    cond (eqb n 8) NoElement (
    cond (eqb n 9) IsList (
    cond (eqb n 10) ShortFrame (
    cond (eqb n 11) LongFrame (
    cond (eqb n 12) ControlWithText (
    cond (eqb n 13) InsideFrame (
    cond (eqb n 14) BrokenState (
    cond (eqb n 15) NotOneItem (
    cond (eqb n 16) OutsideContent (
    cond (eqb n 17) ShortOutput (
    cond (eqb n 18) LongText (
    cond (eqb n 19) ShortTable (
    cond (eqb n 20) NotConnected (
    cond (eqb n 21) AlreadyConnected (
    cond (eqb n 22) NotSelected (
    cond (eqb n 23) NoPrimary (
    cond (eqb n 24) OwnSlotsFull (
    cond (eqb n 25) NoReceivedSlot (
    cond (eqb n 26) LinktestOpen (
    cond (eqb n 27) TimerStopped (
    cond (eqb n 28) WrongDevice (
    cond (eqb n 40) NoRoom (
    cond (eqb n 41) BothEmpty (
    NotWholeFrames))))))))))))))))))))))))))))))

at_number : (r : Refusal) → refusal_at (number_of r) ≡ r
at_number UnknownCode = refl
at_number NoLengthBytes = refl
at_number WrongLength = refl
at_number TooDeep = refl
at_number NoSuchText = refl
at_number WrongByte = refl
at_number BehindComplete = refl
at_number NoElement = refl
at_number IsList = refl
at_number ShortFrame = refl
at_number LongFrame = refl
at_number ControlWithText = refl
at_number InsideFrame = refl
at_number BrokenState = refl
at_number NotOneItem = refl
at_number OutsideContent = refl
at_number ShortOutput = refl
at_number LongText = refl
at_number ShortTable = refl
at_number NotConnected = refl
at_number AlreadyConnected = refl
at_number NotSelected = refl
at_number NoPrimary = refl
at_number OwnSlotsFull = refl
at_number NoReceivedSlot = refl
at_number LinktestOpen = refl
at_number TimerStopped = refl
at_number WrongDevice = refl
at_number NoRoom = refl
at_number BothEmpty = refl
at_number NotWholeFrames = refl

pub some_number : (r : Refusal) → 0 < number_of r
some_number UnknownCode = omega arith
some_number NoLengthBytes = omega arith
some_number WrongLength = omega arith
some_number TooDeep = omega arith
some_number NoSuchText = omega arith
some_number WrongByte = omega arith
some_number BehindComplete = omega arith
some_number NoElement = omega arith
some_number IsList = omega arith
some_number ShortFrame = omega arith
some_number LongFrame = omega arith
some_number ControlWithText = omega arith
some_number InsideFrame = omega arith
some_number BrokenState = omega arith
some_number NotOneItem = omega arith
some_number OutsideContent = omega arith
some_number ShortOutput = omega arith
some_number LongText = omega arith
some_number ShortTable = omega arith
some_number NotConnected = omega arith
some_number AlreadyConnected = omega arith
some_number NotSelected = omega arith
some_number NoPrimary = omega arith
some_number OwnSlotsFull = omega arith
some_number NoReceivedSlot = omega arith
some_number LinktestOpen = omega arith
some_number TimerStopped = omega arith
some_number WrongDevice = omega arith
some_number NoRoom = omega arith
some_number BothEmpty = omega arith
some_number NotWholeFrames = omega arith

pub one_refusal : (r s : Refusal) → number_of r ≡ number_of s → r ≡ s
one_refusal r s e = sym (at_number r) ∙ ap refusal_at e ∙ at_number s

-- an answer that counts nothing
pub one_answer : (r s : Result Unit Refusal) → number_in r ≡ number_in s → r ≡ s
one_answer (Ok x) (Ok y) e = refl
one_answer (Ok x) (Err f) e = absurd (omega (arith, some_number f))
one_answer (Err f) (Ok y) e = absurd (omega (arith, some_number f))
one_answer (Err f) (Err g) e = ap Err (one_refusal f g e)

abbrev counted_at : Counted → Result ℕ Refusal
counted_at (Is n) = Ok n
counted_at (Refused k) = Err (refusal_at k)

at_counted : (r : Result ℕ Refusal) → counted_at (counted_in r) ≡ r
at_counted (Ok n) = refl
at_counted (Err e) = ap Err (at_number e)

pub one_count : (r s : Result ℕ Refusal) → counted_in r ≡ counted_in s → r ≡ s
one_count r s e = sym (at_counted r) ∙ ap counted_at e ∙ at_counted s

abbrev unknown : ℕ → UnknownNumber
unknown n = record { 0 = n }

-- what a number is read as
pub one_reading : (n : ℕ) (r s : Result Refusal UnknownNumber) → Numbered n r → Numbered n s → r ≡ s
one_reading n (Ok a) (Ok b) p q = ap Ok (one_refusal a b (p ∙ sym q))
one_reading n (Ok a) (Err f) p q = absurd (q.1 a p)
one_reading n (Err f) (Ok b) p q = absurd (p.1 b q)
one_reading n (Err f) (Err g) p q = ap Err (ap unknown (p.0 ∙ sym q.0))

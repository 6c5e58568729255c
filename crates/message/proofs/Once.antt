-- What the definitions are given tells what is sent; a notice has one number, and the number of an answer tells the notice or the refusal.
use Rattle.std.specs.Prelude.{◌≡◌, ℕ, Bool, true, false, cond, eqb, ltb, Option, None, Some, Result, Ok, Err}
use Rattle.std.proofs.Common.{refl, sym, ap, ◌∙◌, true≢false}
use Rattle.refusal.specs.Number.{number_of}
use Rattle.refusal.specs.declared.Refusal.{Refusal}
use Rattle.refusal.specs.declared.Refusal.TheVariants.{UnknownCode, NoLengthBytes, WrongLength, TooDeep, NoSuchText, WrongByte, BehindComplete, NoElement}
use Rattle.refusal.specs.declared.Refusal.TheVariants.{IsList, ShortFrame, LongFrame, ControlWithText, InsideFrame, BrokenState, NotOneItem, OutsideContent}
use Rattle.refusal.specs.declared.Refusal.TheVariants.{ShortOutput, LongText, ShortTable, NotConnected, AlreadyConnected, NotSelected, NoPrimary}
use Rattle.refusal.specs.declared.Refusal.TheVariants.{OwnSlotsFull, NoReceivedSlot, LinktestOpen, TimerStopped, WrongDevice, NoRoom, BothEmpty, NotWholeFrames}
use Rattle.refusal.proofs.Once.{one_refusal}
use Rattle.message.specs.declared.Message as sent
use Rattle.message.specs.declared.Notice.{Notice}
use Rattle.message.specs.declared.Notice.TheVariants.{Done, Delivered, Answered, Dropped, Repeated, Closed, ClosedNothing}
use Rattle.message.specs.Notice.{notice_number, told_in}
use Rattle.message.specs.Send.{Send, Nothing, Message, send_in}

-- ---- what is sent

abbrev sent_at : Send → Option sent.Message
sent_at Nothing = None
sent_at (Message h t) = Some (record { header = h; text = t })

at_send : (m : Option sent.Message) → sent_at (send_in m) ≡ m
at_send None = refl
at_send (Some m) = refl

pub one_send : (m n : Option sent.Message) → send_in m ≡ send_in n → m ≡ n
one_send m n e = sym (at_send m) ∙ ap sent_at e ∙ at_send n

-- ---- a notice's number

-- the notice with a number; of a number that none has, any
abbrev notice_at : ℕ → Notice
notice_at n =
    cond (eqb n 0) Done (
    cond (eqb n 30) Delivered (
    cond (eqb n 31) Answered (
    cond (eqb n 32) Dropped (
    cond (eqb n 33) Repeated (
    cond (eqb n 34) Closed (
    ClosedNothing))))))

at_notice : (n : Notice) → notice_at (notice_number n) ≡ n
at_notice Done = refl
at_notice Delivered = refl
at_notice Answered = refl
at_notice Dropped = refl
at_notice Repeated = refl
at_notice Closed = refl
at_notice ClosedNothing = refl

pub one_notice : (n m : Notice) → notice_number n ≡ notice_number m → n ≡ m
one_notice n m e = sym (at_notice n) ∙ ap notice_at e ∙ at_notice m

-- ---- an answer's number: a notice's is 0 or from 30 to 35, and no refusal's is

-- whether a number is a notice's
abbrev noticed : ℕ → Bool
noticed n = cond (eqb n 0) true (cond (ltb n 30) false (ltb n 36))

is_notice : (n : Notice) → noticed (notice_number n) ≡ true
is_notice Done = refl
is_notice Delivered = refl
is_notice Answered = refl
is_notice Dropped = refl
is_notice Repeated = refl
is_notice Closed = refl
is_notice ClosedNothing = refl

is_refusal : (e : Refusal) → noticed (number_of e) ≡ false
is_refusal UnknownCode = refl
is_refusal NoLengthBytes = refl
is_refusal WrongLength = refl
is_refusal TooDeep = refl
is_refusal NoSuchText = refl
is_refusal WrongByte = refl
is_refusal BehindComplete = refl
is_refusal NoElement = refl
is_refusal IsList = refl
is_refusal ShortFrame = refl
is_refusal LongFrame = refl
is_refusal ControlWithText = refl
is_refusal InsideFrame = refl
is_refusal BrokenState = refl
is_refusal NotOneItem = refl
is_refusal OutsideContent = refl
is_refusal ShortOutput = refl
is_refusal LongText = refl
is_refusal ShortTable = refl
is_refusal NotConnected = refl
is_refusal AlreadyConnected = refl
is_refusal NotSelected = refl
is_refusal NoPrimary = refl
is_refusal OwnSlotsFull = refl
is_refusal NoReceivedSlot = refl
is_refusal LinktestOpen = refl
is_refusal TimerStopped = refl
is_refusal WrongDevice = refl
is_refusal NoRoom = refl
is_refusal BothEmpty = refl
is_refusal NotWholeFrames = refl

pub one_told : (r s : Result Notice Refusal) → told_in r ≡ told_in s → r ≡ s
one_told (Ok n) (Ok m) e = ap Ok (one_notice n m e)
one_told (Err d) (Err f) e = ap Err (one_refusal d f e)
one_told (Ok n) (Err f) e = absurd (true≢false (sym (is_notice n) ∙ ap noticed e ∙ is_refusal f))
one_told (Err d) (Ok m) e = absurd (true≢false (sym (is_notice m) ∙ ap noticed (sym e) ∙ is_refusal d))

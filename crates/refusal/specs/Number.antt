-- The number of each refusal.
use Rattle.std.specs.Prelude.{◌≡◌, ◌≢◌, ℕ, Result, MatchResult}
use Rattle.refusal.specs.declared.Refusal.{Refusal}
use Rattle.refusal.specs.declared.Refusal.TheVariants.{UnknownCode, NoLengthBytes, WrongLength, TooDeep, NoSuchText, WrongByte, BehindComplete, NoElement}
use Rattle.refusal.specs.declared.Refusal.TheVariants.{IsList, ShortFrame, LongFrame, ControlWithText, InsideFrame, BrokenState, NotOneItem, OutsideContent}
use Rattle.refusal.specs.declared.Refusal.TheVariants.{ShortOutput, LongText, ShortTable, NotConnected, AlreadyConnected, NotSelected, NoPrimary}
use Rattle.refusal.specs.declared.Refusal.TheVariants.{OwnSlotsFull, NoReceivedSlot, LinktestOpen, TimerStopped, WrongDevice, NoRoom, BothEmpty, NotWholeFrames}
use Rattle.refusal.specs.declared.UnknownNumber.{UnknownNumber}

abbrev pub number_of : Refusal → ℕ
number_of UnknownCode = 1
number_of NoLengthBytes = 2
number_of WrongLength = 3
number_of TooDeep = 4
number_of NoSuchText = 5
number_of WrongByte = 6
number_of BehindComplete = 7
number_of NoElement = 8
number_of IsList = 9
number_of ShortFrame = 10
number_of LongFrame = 11
number_of ControlWithText = 12
number_of InsideFrame = 13
number_of BrokenState = 14
number_of NotOneItem = 15
number_of OutsideContent = 16
number_of ShortOutput = 17
number_of LongText = 18
number_of ShortTable = 19
number_of NotConnected = 20
number_of AlreadyConnected = 21
number_of NotSelected = 22
number_of NoPrimary = 23
number_of OwnSlotsFull = 24
number_of NoReceivedSlot = 25
number_of LinktestOpen = 26
number_of TimerStopped = 27
number_of WrongDevice = 28
number_of NoRoom = 40
number_of BothEmpty = 41
number_of NotWholeFrames = 42

-- the refusal with this number, or that none has it
abbrev pub Numbered : ℕ → Result Refusal UnknownNumber → Type 0
Numbered n r = MatchResult r (λ refusal. number_of refusal ≡ n) (λ e. (e.0 ≡ n) × ((refusal : Refusal) → number_of refusal ≢ n))

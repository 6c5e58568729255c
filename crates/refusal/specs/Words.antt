-- What is printed of a refusal, and of a number that no refusal has.
use Rattle.std.specs.Prelude.{ℕ, List, ◌++◌, codes, decimal}
use Rattle.refusal.specs.declared.Refusal.{Refusal}
use Rattle.refusal.specs.declared.Refusal.TheVariants.{UnknownCode, NoLengthBytes, WrongLength, TooDeep, NoSuchText, WrongByte, BehindComplete, NoElement}
use Rattle.refusal.specs.declared.Refusal.TheVariants.{IsList, ShortFrame, LongFrame, ControlWithText, InsideFrame, BrokenState, NotOneItem, OutsideContent}
use Rattle.refusal.specs.declared.Refusal.TheVariants.{ShortOutput, LongText, ShortTable, NotConnected, AlreadyConnected, NotSelected, NoPrimary}
use Rattle.refusal.specs.declared.Refusal.TheVariants.{OwnSlotsFull, NoReceivedSlot, LinktestOpen, TimerStopped, WrongDevice, NoRoom, BothEmpty, NotWholeFrames}
use Rattle.refusal.specs.declared.UnknownNumber.{UnknownNumber}

abbrev pub words_of : Refusal → List ℕ
words_of UnknownCode = codes "the code is unknown"
words_of NoLengthBytes = codes "a format byte says no length bytes"
words_of WrongLength = codes "the code does not allow the length"
words_of TooDeep = codes "a list at depth 16 has members"
words_of NoSuchText = codes "no text of this length begins so"
words_of WrongByte = codes "a content byte is above its code's largest"
words_of BehindComplete = codes "fed behind complete"
words_of NoElement = codes "no such element, or not of the code's sort or range"
words_of IsList = codes "the code is a list's"
words_of ShortFrame = codes "the frame's length is below 10"
words_of LongFrame = codes "the frame's length is above 32,010"
words_of ControlWithText = codes "a control message has a text"
words_of InsideFrame = codes "the end is inside a frame, or not a frame's"
words_of BrokenState = codes "the state breaks its list"
words_of NotOneItem = codes "the rows are neither none nor one whole item"
words_of OutsideContent = codes "the place and length are outside the content"
words_of ShortOutput = codes "the output is too short"
words_of LongText = codes "the lean text is above 32,000 bytes"
words_of ShortTable = codes "the row table is too small"
words_of NotConnected = codes "not connected"
words_of AlreadyConnected = codes "already connected"
words_of NotSelected = codes "not selected"
words_of NoPrimary = codes "no stream or function of a primary"
words_of OwnSlotsFull = codes "the own slots are full"
words_of NoReceivedSlot = codes "no received primary has these system bytes"
words_of LinktestOpen = codes "the own linktest is already open"
words_of TimerStopped = codes "the timer is not running"
words_of WrongDevice = codes "the device ID is above 32,767"
words_of NoRoom = codes "the frame is longer than the room left"
words_of BothEmpty = codes "both outboxes are empty"
words_of NotWholeFrames = codes "the used bytes are not whole frames"

abbrev pub unknown_words : UnknownNumber → List ℕ
unknown_words e = codes "no refusal has the number " ++ decimal e.0

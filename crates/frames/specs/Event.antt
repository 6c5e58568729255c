-- What a feed answers, for the definitions: a refusal is one more event, with its number.
use Rattle.std.specs.Prelude.{ℕ, Option, None, Some, Result, Ok, Err}
use Rattle.refusal.specs.Number.{number_of}
use Rattle.refusal.specs.declared.Refusal as refusal
use Rattle.frame.specs.declared.Header as frame
use Rattle.frames.specs.State.{refused, reader_of}
use Rattle.frames.specs.declared.Event as told
use Rattle.frames.specs.declared.Event.TheVariants as T
use Rattle.frames.specs.declared.Fed as answered
use Rattle.frames.specs.declared.FrameReader.{FrameReader}

pub data Event : Type 0 where
  More : Event
  Header : frame.Header → ℕ → Event
  Text : ℕ → Event
  End : Event
  Refusal : ℕ → Event

pub record Fed : Type 0 where
  pub event : Event
  pub consumed : ℕ
  pub reader : FrameReader

abbrev pub event_of : told.Event → Event
event_of T.More = More
event_of (T.Header h n) = Header h n
event_of (T.Text n) = Text n
event_of T.End = End

abbrev pub event_in : Result told.Event refusal.Refusal → Event
event_in (Ok e) = event_of e
event_in (Err e) = Refusal (number_of e)

abbrev pub fed_in : answered.Fed → Fed
fed_in f = record { event = event_in f.event; consumed = f.consumed; reader = f.reader }

-- what a private function answers of one byte: the reader then, and a header with its text's length; a refused byte leaves a refused reader
abbrev pub pushed_in : Result (FrameReader × Option (frame.Header × ℕ)) refusal.Refusal → Fed
pushed_in (Ok (r, None)) = record { event = More; consumed = 1; reader = r }
pushed_in (Ok (r, Some (h, n))) = record { event = Header h n; consumed = 1; reader = r }
pushed_in (Err e) = record { event = Refusal (number_of e); consumed = 1; reader = reader_of (refused (number_of e)) }

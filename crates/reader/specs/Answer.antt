-- What the calls answer, in numbers, and what is said of an answer here.
use Rattle.std.specs.Prelude.{ℕ, Option, Some, None, Result, Ok, Err}
use Rattle.refusal.specs.Number.{number_of}
use Rattle.refusal.specs.declared.Refusal.{Refusal as Cause}
use Rattle.reader.specs.declared.Progress.{Progress}
use Rattle.reader.specs.declared.Progress.TheVariants as P
use Rattle.reader.specs.declared.Reader.{Reader}
use Rattle.reader.specs.declared.Fed.{Fed as WasFed}
use Rattle.reader.specs.declared.Item.{Item as ItemMet}
use Rattle.reader.specs.declared.Reached.{Reached as WasReached}

-- more, complete, or the refusal's number
pub data Answer : Type 0 where
  More : Answer
  Complete : Answer
  Refusal : ℕ → Answer

-- what a feed answers, the bytes of the piece that it consumed, and the reader after it
pub record Fed : Type 0 where
  pub answer : Answer
  pub consumed : ℕ
  pub reader : Reader

-- the item that a byte shows, as the last of its length bytes: its depth, code and length
pub data Found : Type 0 where
  Nothing : Found
  Item : ℕ → ℕ → ℕ → Found

-- what was found, what a feed of the bytes consumed answers, how many they are, and the reader after them
pub record Reached : Type 0 where
  pub found : Found
  pub answer : Answer
  pub consumed : ℕ
  pub reader : Reader

-- ---- each answer of a call says one of these

abbrev pub progress_in : Progress → Answer
progress_in P.More = More
progress_in P.Complete = Complete

abbrev pub answer_in : Result Progress Cause → Answer
answer_in (Ok p) = progress_in p
answer_in (Err e) = Refusal (number_of e)

abbrev pub fed_in : WasFed → Fed
fed_in f = record { answer = answer_in f.answer; consumed = f.consumed; reader = f.reader }

abbrev pub found_in : Option ItemMet → Found
found_in None = Nothing
found_in (Some i) = Item i.depth i.code i.length

abbrev pub reached_in : WasReached → Reached
reached_in r = record { found = found_in r.found; answer = answer_in r.answer; consumed = r.consumed; reader = r.reader }

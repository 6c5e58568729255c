-- The number of each notice, and of what is answered with a notice or refused.
use Rattle.std.specs.Prelude.{ℕ, Result, Ok, Err}
use Rattle.refusal.specs.Number.{number_of}
use Rattle.refusal.specs.declared.Refusal.{Refusal}
use Rattle.message.specs.declared.Notice.{Notice}
use Rattle.message.specs.declared.Notice.TheVariants.{Done, Delivered, Answered, Dropped, Repeated, Closed, ClosedNothing}

abbrev pub notice_number : Notice → ℕ
notice_number Done = 0
notice_number Delivered = 30
notice_number Answered = 31
notice_number Dropped = 32
notice_number Repeated = 33
notice_number Closed = 34
notice_number ClosedNothing = 35

-- what a step answers, as its number
abbrev pub told_in : Result Notice Refusal → ℕ
told_in (Ok n) = notice_number n
told_in (Err e) = number_of e

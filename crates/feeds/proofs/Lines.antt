-- What was handed over in parts is a line, and of an answer its fields are printed.
use Rattle.std.specs.Prelude.{◌≡◌, ℕ, List, ◌∷◌, ◌++◌, Some, Result, Ok, Err}
use Rattle.std.specs.Result.{MatchResult, IsOkAnd, OnOk}
use Rattle.std.specs.Fmt.{WritesInCalls}
use Rattle.std.proofs.Common.{ap}
use Rattle.std.proofs.lemmas.Result.{on_ok_weaker}
use Rattle.refusal.specs.declared.Refusal.{Refusal}
use Rattle.reader.specs.declared.Progress.{Progress}
use Rattle.reader.specs.declared.Progress.TheVariants as P
use Rattle.reader.specs.declared.Reader.{Reader}
use Rattle.reader.specs.Answer.{answer_in}
use Rattle.driver.specs.Printed.{answer_fields}
use Rattle.driver.specs.Input.{keeps}
use Rattle.driver.proofs.Fields.{wrote}
use Rattle.driver.specs.declared.stdout.Stdout.{Stdout}
use Rattle.feeds.specs.declared.Status.{Status}
use Rattle.feeds.specs.declared.Feeds.{Feeds}
use Rattle.feeds.specs.Records.{progress_word, status_fields, of_reader}

-- an answer's progress is printed as a status
abbrev Printed : Result Progress Refusal → Result Status Refusal → Type 0
Printed r m = MatchResult r (λ p. IsOkAnd m (λ s. s.0 ≡ p)) (λ e. m ≡ Err e)

pub shown : (r : Result Progress Refusal) (m : Result Status Refusal) → Printed r m
    → answer_fields (λ s. Some (progress_word s.0)) m ≡ Some (status_fields (answer_in r))
shown (Ok P.More) (Ok s) e = ap (λ p. Some (9 ∷ progress_word p)) e
shown (Ok P.Complete) (Ok s) e = ap (λ p. Some (9 ∷ progress_word p)) e
shown (Ok P.More) (Err x) e = absurd e
shown (Ok P.Complete) (Err x) e = absurd e
shown (Err x) m e = rw e

-- where all parts of a line are handed over, the line is said, and a reader kept
pub kept : {T E : Type 0} (x : Feeds) (k : Reader) (w v : Stdout) (text : List ℕ) (result : Result T E)
    → OnOk result (WritesInCalls (λ s l t. t.said ≡ s.said ++ l) w text v)
    → OnOk result (◌≡◌ {A = Feeds × List ℕ} (record { reader = k }, v.said) (keeps (of_reader k) text (x, w.said)))
kept x k w v text result =
    on_ok_weaker result (λ e. ap (λ (l : List ℕ). (record { reader = k }, l)) (wrote w v text e))

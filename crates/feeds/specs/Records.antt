-- What each record does to the reader that is kept, and what is printed; docs/CALLS.md has it in words.
use Rattle.std.specs.Prelude.{ℕ, Bool, cond, eqb, List, ◌++◌, take, drop, codes, decimal}
use Rattle.records.specs.Fields.{field_of, words_in}
use Rattle.driver.specs.Printed.{field, line, bad_record, refused_fields}
use Rattle.driver.specs.Input.{keeps, says, with_bytes}
use Rattle.item.specs.declared.Form.{Form}
use Rattle.item.specs.declared.Form.TheVariants.{Good, Lean}
use Rattle.reader.specs.declared.Phase.{Phase}
use Rattle.reader.specs.declared.Phase.TheVariants.{Format, Length, Content, Refused}
use Rattle.reader.specs.declared.Progress.{Progress}
use Rattle.reader.specs.declared.Progress.TheVariants as P
use Rattle.reader.specs.declared.Reader.{Reader}
use Rattle.reader.specs.Answer.{Answer, More, Complete, Refusal, Fed}
use Rattle.reader.specs.State.{fresh, reader_of}
use Rattle.reader.specs.Feed.{allows, status_of, fed_of}
use Rattle.feeds.specs.declared.Feeds.{Feeds}

-- ---- a state in a record

-- 0 is good, any other lean
abbrev pub form_in : ℕ → Form
form_in k = cond (eqb k 0) Good Lean

-- by the kind, with a code, what is left, and the number so far
abbrev pub phase_of : ℕ → ℕ → ℕ → ℕ → Phase
phase_of k c l v =
    cond (eqb k 0) Format
    (cond (eqb k 1) (Length c l v)
    (cond (eqb k 2) (Content c l)
    (Refused c)))

-- kind (1), code (4), left (4), value (4)
abbrev pub phase_in : List ℕ → Phase
phase_in s = phase_of (field_of 1 s 0) (field_of 4 s 1) (field_of 4 s 5) (field_of 4 s 9)

-- form (1), N (4), read (4), level (4), a phase (13), sixteen counts (4 each)
abbrev pub reader_in : List ℕ → Reader
reader_in s = record {
  form = form_in (field_of 1 s 0);
  size = field_of 4 s 1;
  read = field_of 4 s 5;
  level = field_of 4 s 9;
  awaited = take 16 (words_in (drop 26 s));
  phase = phase_in (drop 13 s);
}

-- ---- the lines

abbrev pub progress_word : Progress → List ℕ
progress_word P.More = codes "more"
progress_word P.Complete = codes "complete"

abbrev pub status_fields : Answer → List ℕ
status_fields More = field (codes "more")
status_fields Complete = field (codes "complete")
status_fields (Refusal k) = refused_fields k

abbrev pub fresh_line : Reader → List ℕ
fresh_line r = line (codes "fresh") (status_fields (status_of r))

abbrev pub fed_line : Fed → List ℕ
fed_line f = line (codes "fed") (status_fields f.answer ++ field (decimal f.consumed))

abbrev pub state_word : Bool → List ℕ
state_word b = cond b (codes "allowed") (codes "broken")

abbrev pub state_line : Reader → List ℕ
state_line r = line (codes "state") (field (state_word (allows r)) ++ status_fields (status_of r))

-- ---- the records

abbrev pub of_reader : Reader → Feeds
of_reader r = record { reader = r }

-- N (4): a fresh reader of this form, told N
abbrev pub fresh_done : Form → Feeds × List ℕ → List ℕ → Feeds × List ℕ
fresh_done f x s =
    let r = reader_of (fresh f (field_of 4 s 0)) in
    with_bytes 4 s x (keeps (of_reader r) (fresh_line r) x)

-- bytes: a piece fed
abbrev pub piece_done : Feeds × List ℕ → List ℕ → Feeds × List ℕ
piece_done x s = let f = fed_of x.0.reader s in keeps (of_reader f.reader) (fed_line f) x

-- a state in 90 bytes: it is kept, whether the list allows it or not
abbrev pub state_done : Feeds × List ℕ → List ℕ → Feeds × List ℕ
state_done x s =
    let r = reader_in s in
    with_bytes 90 s x (keeps (of_reader r) (state_line r) x)

-- at the beginning: a fresh reader for good texts, told 0
abbrev pub begun : Feeds
begun = of_reader (reader_of (fresh Good 0))

-- f, l, p, s, or another letter
abbrev pub done : Feeds × List ℕ → ℕ → List ℕ → Feeds × List ℕ
done x c s =
    cond (eqb c 0x66) (fresh_done Good x s)
    (cond (eqb c 0x6C) (fresh_done Lean x s)
    (cond (eqb c 0x70) (piece_done x s)
    (cond (eqb c 0x73) (state_done x s)
    (says bad_record x))))

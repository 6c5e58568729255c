-- Document 01's starred byte lines, as one table, lines of ours for document 02's wide characters and for its lean-only links, as others, and what is
-- right of a line.
use Rattle.std.specs.Prelude.{ℕ, zero, suc, ◌≤◌, List, [], ◌∷◌, ◌++◌, ◌≡◌, length, drop}
use Rattle.item.specs.Code.{A, BOOLEAN}
use Rattle.item.specs.Item.{plain, Tree, one, Says, lean_of}
use Rattle.item.specs.declared.Form.{Form}
use Rattle.item.specs.declared.Form.TheVariants.{Good as good}
use Rattle.reader.specs.State.{reader_of, fresh}
use Rattle.reader.specs.Feed.{fed_of}
use Rattle.reader.specs.Answer.{Answer, More, Complete, Refusal}
use Rattle.refusal.specs.Answer.{Is}
use Rattle.demand2.specs.Calls.{write_lean}

-- the lean form of a good text, where the document gives it: the tree that the text spells, and the lean bytes
pub data LeanForm : Type 0 where
  not_given : LeanForm
  given : Tree → List ℕ → LeanForm

-- N, the bytes, the answer, and the byte at which it comes
pub record Line : Type 0 where
  pub size : ℕ
  pub bytes : List ℕ
  pub answer : Answer
  pub at : ℕ
  pub lean : LeanForm

abbrev pub line : ℕ → List ℕ → Answer → ℕ → Line
line n b a k = record { size = n; bytes = b; answer = a; at = k; lean = not_given }

abbrev pub lean_line : ℕ → List ℕ → Tree → List ℕ → Line
lean_line n b w l = record { size = n; bytes = b; answer = Complete; at = n; lean = given w l }

-- the starred lines, in 01's order
abbrev pub table : List Line
table =
    line 0 [] Complete 0
    ∷ line 1 [] (Refusal 5) 0
    ∷ line 2 (0x01 ∷ 0x00 ∷ []) Complete 2
    ∷ line 3 (0x01 ∷ []) (Refusal 5) 1
    ∷ line 3 (0x02 ∷ 0x00 ∷ 0x00 ∷ []) Complete 3
    ∷ line 5 (0x69 ∷ []) (Refusal 5) 1
    ∷ line 4 (0x41 ∷ 0x03 ∷ []) (Refusal 5) 2
    ∷ line 4 (0x41 ∷ 0x02 ∷ 0x41 ∷ 0x80 ∷ []) (Refusal 6) 4
    ∷ line 6 (0x01 ∷ 0x02 ∷ 0x41 ∷ 0x01 ∷ []) (Refusal 5) 4
    ∷ line 8 (0x01 ∷ 0x02 ∷ 0xB1 ∷ 0x02 ∷ []) (Refusal 3) 4
    ∷ line 4 (0x00 ∷ []) (Refusal 2) 1
    ∷ line 4 (0xFD ∷ []) (Refusal 1) 1
    ∷ line 4 (0xFC ∷ []) (Refusal 1) 1
    ∷ lean_line 5 (0x43 ∷ 0x00 ∷ 0x00 ∷ 0x01 ∷ 0x41 ∷ []) (one (plain A (0x41 ∷ []))) (0x41 ∷ 0x01 ∷ 0x41 ∷ [])
    ∷ lean_line 3 (0x25 ∷ 0x01 ∷ 0x07 ∷ []) (one (plain BOOLEAN (0x07 ∷ []))) (0x25 ∷ 0x01 ∷ 0x01 ∷ [])
    ∷ []

-- a C2 of length 1 is refused with 3 at the last length byte, or with 5 earlier where no good text remains; of any other length it is good
abbrev pub wide_lines : List Line
wide_lines =
    line 2 (0x49 ∷ 0x00 ∷ []) Complete 2
    ∷ line 4 (0x49 ∷ 0x02 ∷ 0x00 ∷ 0xFF ∷ []) Complete 4
    ∷ line 6 (0x4A ∷ 0x00 ∷ 0x03 ∷ 0x00 ∷ 0x01 ∷ 0x80 ∷ []) Complete 6
    ∷ line 4 (0x49 ∷ 0x01 ∷ []) (Refusal 3) 2
    ∷ line 3 (0x49 ∷ []) (Refusal 5) 1
    ∷ line 4 (0x4A ∷ []) (Refusal 5) 1
    ∷ line 6 (0x01 ∷ 0x02 ∷ 0x49 ∷ 0x01 ∷ []) (Refusal 3) 4
    ∷ line 7 (0x01 ∷ 0x02 ∷ 0x49 ∷ 0x00 ∷ 0x49 ∷ []) (Refusal 5) 5
    ∷ []

-- so many lists of one member, one in the other, and then b
abbrev pub nested : ℕ → List ℕ → List ℕ
nested zero b = b
nested (suc d) b = 0x01 ∷ 0x01 ∷ nested d b

-- told lean: a length with too many bytes is refused with 5 before its last byte, a BOOLEAN byte above 01 with 6, and 258 bytes left for one item alone,
-- at depth 16, with 5
abbrev pub lean_only_lines : List Line
lean_only_lines =
    line 5 (0x43 ∷ []) (Refusal 5) 1
    ∷ line 263 (0x01 ∷ 0x02 ∷ 0x42 ∷ []) More 3
    ∷ line 263 (0x01 ∷ 0x02 ∷ 0x42 ∷ 0x00 ∷ []) (Refusal 5) 4
    ∷ line 514 (0x02 ∷ []) (Refusal 5) 1
    ∷ line 515 (0x02 ∷ []) More 1
    ∷ line 3 (0x25 ∷ 0x01 ∷ 0x01 ∷ []) Complete 3
    ∷ line 3 (0x25 ∷ 0x01 ∷ 0x02 ∷ []) (Refusal 6) 3
    ∷ line 258 (0x21 ∷ []) (Refusal 5) 1
    ∷ line 258 (0x22 ∷ []) (Refusal 5) 1
    ∷ line 258 (0x01 ∷ []) More 1
    ∷ line 288 (nested 15 []) (Refusal 5) 30
    ∷ line 289 (nested 15 []) More 30
    ∷ line 290 (nested 14 (0x01 ∷ 0x02 ∷ 0x21 ∷ [])) More 31
    ∷ line 290 (nested 14 (0x01 ∷ 0x02 ∷ 0x21 ∷ 0x00 ∷ [])) (Refusal 5) 32
    ∷ line 290 (nested 14 (0x01 ∷ 0x02 ∷ 0x01 ∷ [])) (Refusal 5) 31
    ∷ []

-- the bytes spell this tree, its lean form is the one given, and the call writes it
abbrev pub LeanRight : LeanForm → List ℕ → Type 0
LeanRight not_given b = Unit {0}
LeanRight (given w l) b =
    Says good w b × (lean_of w ≡ l)
    × ((rows out : List ℕ) → 3 ≤ length rows → length l ≤ length out
    → ((write_lean b rows out).0 ≡ Is (length l)) × ((write_lean b rows out).2 ≡ l ++ drop (length l) out))

-- what a fresh reader that is told the form and N and fed the bytes answers, and how many it has consumed
abbrev pub outcome : Form → Line → Answer × ℕ
outcome f l = ((fed_of (reader_of (fresh f l.size)) l.bytes).answer, (fed_of (reader_of (fresh f l.size)) l.bytes).consumed)

-- it answers so, and has consumed them through that byte
abbrev pub Answered : Form → Line → Type 0
Answered f l = outcome f l ≡ (l.answer, l.at)

abbrev pub Right : Line → Type 0
Right l = Answered good l × LeanRight l.lean l.bytes

-- Which lines each byte of a captured stream gives, and its end: what the fed frame reader and the fed text reader answer, as lines.
use Rattle.std.specs.Prelude.{ℕ, ◌+◌, ◌*◌, ◌%◌, ◌^◌, Bool, true, false, cond, [], ◌∷◌, ◌==◌, Option, Some, None}
use Rattle.frame.specs.declared.Header.{Header}
use Rattle.frames.specs.State.{head, reader_of as frame_reader_of}
use Rattle.frames.specs.Feed.{end_of, fed_of as frame_fed}
use Rattle.frames.specs.Event.{Event}
use Rattle.frames.specs.Event as E
use Rattle.frames.specs.declared.FrameReader.{FrameReader}
use Rattle.item.specs.declared.Form.TheVariants.{Good as good}
use Rattle.reader.specs.State.{fresh, reader_of}
use Rattle.reader.specs.Feed.{status, fed_of}
use Rattle.reader.specs.Answer.{Answer}
use Rattle.reader.specs.Answer as A
use Rattle.reader.specs.declared.Phase.{Phase}
use Rattle.reader.specs.declared.Phase.TheVariants as P
use Rattle.reader.specs.declared.Reader.{Reader}
use Rattle.lines.specs.declared.Line.{Line}
use Rattle.lines.specs.declared.Line.TheVariants.{Message, Item, Refusal, End}
use Rattle.capture.specs.declared.Lister.{Lister}
use Rattle.capture.specs.declared.Told.{Told}

-- a lister, and the lines that a byte gives
abbrev pub told : Lister → Option Line → Option Line → Told
told l x y = record { lister = l; first = x; second = y }

-- a line, and behind it that of t
abbrev pub behind : Option Line → Told → Told
behind x t = told t.lister x t.first

-- one more, of 2^64
abbrev pub one_more : ℕ → ℕ
one_more n = (n + 1) % 2 ^ 64

-- ---- a lister with one part changed

abbrev pub with_frames : Lister → FrameReader → ℕ → ℕ → Lister
with_frames l r frames bytes =
    record { frames = r; text = l.text; listed = l.listed; stopped = l.stopped; count = frames; bytes = bytes }

abbrev pub with_text : Lister → Reader → Bool → Lister
with_text l r b = record { frames = l.frames; text = r; listed = b; stopped = l.stopped; count = l.count; bytes = l.bytes }

abbrev pub stopped : Lister → Lister
stopped l = record { frames = l.frames; text = l.text; listed = l.listed; stopped = true; count = l.count; bytes = l.bytes }

-- before the stream: a reader before a frame, and no text
unfoldable pub fresh_lister : Lister
fresh_lister =
    record { frames = frame_reader_of (head []); text = reader_of (fresh good 0); listed = false; stopped = false; count = 0; bytes = 0 }

-- ---- a byte

-- X: refusal number, stream bytes; then it stops
unfoldable pub refused_by : ℕ → Lister → Told
refused_by e l = told (stopped l) (Some (Refusal e l.bytes)) None

-- I is written after the last length byte: v is what the length bytes before it say
abbrev pub item_at : Phase → ℕ → ℕ → Option Line
item_at P.Format depth b = None
item_at (P.Length c j v) depth b = cond (j == 1) (Some (Item depth c (v * 256 + b))) None
item_at (P.Content c l) depth b = None
item_at (P.Refused e) depth b = None

-- unless refused
abbrev pub by_answer : Answer → Option Line → Lister → Told
by_answer A.More x l = told l x None
by_answer A.Complete x l = told l x None
by_answer (A.Refusal e) x l = refused_by e l

-- a text byte is fed to the text reader where the text is listed
unfoldable pub text_byte : Lister → ℕ → Told
text_byte l b =
    cond l.listed
    (let f = fed_of l.text (b ∷ []) in by_answer f.answer (item_at l.text.phase l.text.level b) (with_text l f.reader true))
    (told l None None)

-- items are listed for PType 0 and SType 0
abbrev pub is_data : Header → Bool
is_data h = cond (h.ptype == 0) (h.stype == 0) false

-- M is written after the header; a text that no good one begins with is refused before its first byte
unfoldable pub header_came : Lister → Header → ℕ → Told
header_came l h n =
    behind (Some (Message h n))
    (cond (is_data h) (by_answer (status (fresh good n)) None (with_text l (reader_of (fresh good n)) true)) (told (with_text l l.text false) None None))

abbrev pub by_event : Event → ℕ → Lister → Told
by_event E.More b l = told l None None
by_event (E.Header h n) b l = header_came l h n
by_event (E.Text k) b l = text_byte l b
by_event E.End b l = told l None None
by_event (E.Refusal e) b l = refused_by e l

-- behind a frame's last byte comes its end
abbrev pub settled_by : Event → Lister → FrameReader → Lister
settled_by E.More l r = l
settled_by (E.Header h n) l r = l
settled_by (E.Text k) l r = l
settled_by E.End l r = with_frames l r (one_more l.count) l.bytes
settled_by (E.Refusal e) l r = l

unfoldable pub settled : Lister → Lister
settled l = let f = frame_fed l.frames [] in settled_by f.event l f.reader

-- a byte goes to the frame reader
unfoldable pub fed_byte : Lister → ℕ → Told
fed_byte l b = let f = frame_fed l.frames (b ∷ []) in by_event f.event b (with_frames l f.reader l.count (one_more l.bytes))

unfoldable pub byte_told : Lister → ℕ → Told
byte_told l b = cond l.stopped (told l None None) (fed_byte (settled l) b)

-- ---- the end of the stream

-- at a clean end E; inside a frame X
unfoldable pub ended_by : ℕ → Lister → Line
ended_by number l = cond (number == 0) (End l.count l.bytes) (Refusal number l.bytes)

unfoldable pub last_line : Lister → Option Line
last_line l = cond l.stopped None (Some (ended_by (end_of (settled l).frames) (settled l)))

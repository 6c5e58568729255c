-- What is printed of what is sent, by the bytes used.
use Rattle.std.proofs.Common.{◌≡◌, ◌<◌, ◌≤◌, ℕ, ◌+◌, List, ◌++◌, length, Bool, true, false, cond, leb, eqb, refl, sym, append-nil, ap, arith}
use borrow.Author.Tests.{leb-true}
use Rattle.refusal.specs.Answer.{Counted, Is, Refused}
use Rattle.frame.specs.declared.Header.{Header}
use Rattle.frame.specs.Frame.{kind_number, frame_of, written_of}
use Rattle.message.specs.Send.{Send, Nothing, Message}
use Rattle.message.specs.Written.{text_of, sent_of}
use Rattle.driver.specs.Printed.{refused_fields}
use Rattle.sessions.specs.Records.{written_fields, sent_fields}

by_tests :
    (a b c : Bool) (n k : ℕ) → Is n ≡ cond a (cond b (cond c (Is k) (Refused 17)) (Refused 12)) (Refused 11) → (c ≡ true) × (n ≡ k)
by_tests true true true n k e = (refl, cc)
by_tests true true false n k e = cc
by_tests true false c n k e = cc
by_tests false b c n k e = cc

-- a frame that is written has its bytes, and fits
written_count : (h : Header) (text room n : ℕ) → Is n ≡ written_of h text room → (n ≡ 14 + text) × (14 + text ≤ room)
unfolding written_of
written_count h text room n e =
    let r = by_tests _ (eqb (kind_number h.stype (10 + text)) 0) (leb (14 + text) room) n (14 + text) e in
    (r.1, leb-true (14 + text) room r.0)

-- no bytes are used only where nothing is sent, and never more than there is room for
pub none_sent :
    (said : List ℕ) (m : Send) (wished : List ℕ) (n : ℕ) → (0 < n → 32768 < n) → Is n ≡ sent_of m wished 32768 → said ≡ said ++ sent_fields m wished
none_sent said Nothing wished n h e = sym (append-nil said)
none_sent said (Message x t) wished n h e = let k = written_count x (length (text_of t wished)) 32768 n e in absurd (omega (arith, k.0, k.1))

pub refused : (m : Send) (wished : List ℕ) (k : ℕ) → Refused k ≡ sent_of m wished 32768 → refused_fields k ≡ sent_fields m wished
refused Nothing wished k e = cc
refused (Message x t) wished k e = ap (λ (c : Counted). written_fields c (frame_of x (text_of t wished))) e

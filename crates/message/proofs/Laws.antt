-- Byte 2 of a Reject, by its reason; the item of a header: the format byte of B, one length byte, 10, the header's bytes, in all twelve, a lean text.
use Prim.Native.Nat.{ℕ}
use mathlib.Core.Path.{◌≡◌, refl, ap, ◌∙◌}
use mathlib.Core.List.{◌∷◌}
use native.Mathlib.Omega.{arith}
use borrow.Author.Tests.{ne_eqb}
use lib.ListN.{length}
use Rattle.wire.specs.Number.{bytes_of, AtMost}
use Rattle.item.specs.Item.{plain, one, fewest, Says, told, lean_item}
use Rattle.item.specs.declared.Form.TheVariants.{Lean as lean}
use Rattle.item.proofs.Fewest.{lean_lengths}
use Rattle.item.proofs.Contents.{bytes_content}
use Rattle.frame.specs.Header.{header_bytes}
use Rattle.frame.specs.declared.Header.{Header}
use Rattle.frame.proofs.Laws.{bytes_length}
use Rattle.message.specs.Message.{control, reject}
use Rattle.message.specs.Written.{about_of}

-- ---- byte 2 of a Reject

-- for reason 2 byte 2 of the Reject carries the PType of the rejected message
pub reject_ptype : (h : Header) → reject h 2 ≡ control h.session h.system h.ptype 2 7
reject_ptype h = refl

-- and only otherwise its SType
pub reject_stype : (h : Header) (reason : ℕ) → (reason ≡ 2 → ⊥) → reject h reason ≡ control h.session h.system h.stype reason 7
reject_stype h reason other = rw (ne_eqb reason 2 other)

-- ---- the item of a header

pub about_bytes : (h : Header) → about_of h ≡ 0x21 ∷ 0x0A ∷ header_bytes h
unfolding about_of lean_item told fewest header_bytes bytes_of
about_bytes h = refl

pub about_length : (h : Header) → length (about_of h) ≡ 12
about_length h = ap length (about_bytes h) ∙ rw (bytes_length h)

pub about_lean : (h : Header) → AtMost 0xFF (header_bytes h) → Says lean (one (plain 0o10 (header_bytes h))) (about_of h)
unfolding about_of lean_item told
about_lean h a =
    let n = length (header_bytes h) in
    let lens = lean_lengths n (omega (arith, bytes_length h)) in
    ((bytes_of (fewest n) n, refl, lens, bytes_content lean (header_bytes h) a, omega arith), omega (arith, about_length h))

-- The first two bytes are the session ID, the last four the system bytes, and each of the four between stands for itself.
use Rattle.std.proofs.Common.{◌≡◌, ℕ, List, [], ◌∷◌, length, take, drop, get_or, arith, w16, w32, rules}
use Rattle.std.specs.Int.{from_be_bytes}
use Rattle.wire.specs.Number.{number_of}
use Rattle.frame.specs.Header.{header_of}
use Rattle.frame.proofs.HeaderFromArrayU810.from.Goals as goal

two : (a b : ℕ) → from_be_bytes w16 (a ∷ b ∷ []) ≡ number_of (a ∷ b ∷ [])
unfolding number_of
two a b = omega arith

four : (a b d e : ℕ) → from_be_bytes w32 (a ∷ b ∷ d ∷ e ∷ []) ≡ number_of (a ∷ b ∷ d ∷ e ∷ [])
unfolding number_of
four a b d e = omega arith

-- of ten bytes
session : (t : List ℕ) → length t ≡ 10 → from_be_bytes w16 (get_or t 0 0 ∷ get_or t 1 0 ∷ []) ≡ number_of (take 2 t)
session (a ∷ b ∷ t) h = two a b
session _ h = absurd (omega arith)

system : (t : List ℕ) → length t ≡ 10 → from_be_bytes w32 (get_or t 6 0 ∷ get_or t 7 0 ∷ get_or t 8 0 ∷ get_or t 9 0 ∷ []) ≡ number_of (drop 6 t)
system (_ ∷ _ ∷ _ ∷ _ ∷ _ ∷ _ ∷ a ∷ b ∷ d ∷ e ∷ []) h = four a b d e
system _ h = absurd (omega arith)

pub returns : goal.returns
unfolding header_of
returns c =
    let e : length c.args.bytes ≡ 10 = search rules in
    rw (c.from_be_bytes.ensures, c.from_be_bytes-2.ensures, session c.args.bytes e, system c.args.bytes e)

-- Two's complement at both ends of each width: what the first and the last number of each sign stand for, and the next signed number on either side.
use Rattle.std.specs.Prelude.{ℕ, List, [], ◌∷◌, ◌≡◌, ℤ, pos, neg_ℤ}
use Rattle.wire.specs.Twos.{signed_of, unsigned_of}
use Rattle.wire.specs.declared.Width.{Width}
use Rattle.wire.specs.declared.Width.TheVariants.{One, Two, Four, Eight}
use Rattle.std.specs.Prelude.{Some, None}

abbrev pub minus : ℕ → ℤ
minus n = neg_ℤ (pos n)

-- a width, a number, and what it stands for
abbrev pub ends : List (Width × ℕ × ℤ)
ends =
    (One, 0x00, pos 0)
    ∷ (One, 0x7F, pos 127)
    ∷ (One, 0x80, minus 128)
    ∷ (One, 0xFF, minus 1)
    ∷ (Two, 0x0000, pos 0)
    ∷ (Two, 0x7FFF, pos 32767)
    ∷ (Two, 0x8000, minus 32768)
    ∷ (Two, 0xFFFF, minus 1)
    ∷ (Four, 0x0000_0000, pos 0)
    ∷ (Four, 0x7FFF_FFFF, pos 2147483647)
    ∷ (Four, 0x8000_0000, minus 2147483648)
    ∷ (Four, 0xFFFF_FFFF, minus 1)
    ∷ (Eight, 0x0000_0000_0000_0000, pos 0)
    ∷ (Eight, 0x7FFF_FFFF_FFFF_FFFF, pos 9223372036854775807)
    ∷ (Eight, 0x8000_0000_0000_0000, minus 9223372036854775808)
    ∷ (Eight, 0xFFFF_FFFF_FFFF_FFFF, minus 1)
    ∷ []

-- both ways
abbrev pub Stands : Width × ℕ × ℤ → Type 0
Stands e = (signed_of e.0 e.1 ≡ e.2) × (unsigned_of e.0 e.2 ≡ Some e.1)

-- a width, and the next signed number on either side, which has no bits there; of eight bytes an i64 holds no other
abbrev pub outside : List (Width × ℤ)
outside =
    (One, pos 128)
    ∷ (One, minus 129)
    ∷ (Two, pos 32768)
    ∷ (Two, minus 32769)
    ∷ (Four, pos 2147483648)
    ∷ (Four, minus 2147483649)
    ∷ []

abbrev pub NoBits : Width × ℤ → Type 0
NoBits e = unsigned_of e.0 e.1 ≡ None

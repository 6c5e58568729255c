-- What each record prints; docs/CALLS.md has it in words.
use Rattle.std.specs.Prelude.{ℕ, ℤ, ◌%◌, ◌^◌, ◌-◌, cond, eqb, false, List, ◌++◌, length, drop, replicate, codes, decimal}
use Rattle.std.specs.Option.{unwrap_or}
use Rattle.std.specs.Fmt.{digits}
use Rattle.std.specs.Float.{binary32, binary64}
use Rattle.std.specs.Float.Ieee.{to_bits}
use Rattle.wire.specs.Twos.{signed_of, unsigned_of}
use Rattle.wire.specs.declared.Width.TheVariants.{Eight}
use Rattle.records.specs.Fields.{field_of}
use Rattle.element.specs.declared.Element.{Element}
use Rattle.element.specs.declared.Element.TheVariants as E
use Rattle.element.specs.Element.{got_of, set_of}
use Rattle.element.specs.Got.{Got, Is, Refused}
use Rattle.driver.specs.Input.{says}
use Rattle.driver.specs.Printed.{field, line, bad_record, if_bytes, hex_field, refused_fields}
use Rattle.elements.specs.declared.Elements.{Elements}

-- ---- what is printed of an element: its sort, and its number or its bits

-- a number in so many hex digits, 0 in front
abbrev pub hex_digits : ℕ → ℕ → List ℕ
hex_digits width n = replicate (width - length (digits 16 false n)) 0x30 ++ digits 16 false n

-- the two's complement of a signed value in 64 bits; each i64 has one
abbrev pub bits_of : ℤ → ℕ
bits_of x = unwrap_or (unsigned_of Eight x) 0

abbrev pub element_text : Element → List ℕ
element_text (E.Signed x) = codes "signed" ++ field (hex_digits 16 (bits_of x))
element_text (E.Unsigned n) = codes "unsigned" ++ field (decimal n)
element_text (E.F4 x) = codes "f4" ++ field (hex_digits 8 (to_bits binary32 x))
element_text (E.F8 x) = codes "f8" ++ field (hex_digits 16 (to_bits binary64 x))
element_text (E.Byte b) = codes "byte" ++ field (decimal b)
element_text (E.F4Bits n) = codes "f4" ++ field (hex_digits 8 n)
element_text (E.F8Bits n) = codes "f8" ++ field (hex_digits 16 n)

abbrev pub got_fields : Got → List ℕ
got_fields (Is e) = field (element_text e)
got_fields (Refused k) = refused_fields k

-- code (4), place (4), content
abbrev pub got_line : List ℕ → List ℕ
got_line s = if_bytes 8 s (line (codes "got") (got_fields (got_of (field_of 4 s 0) (drop 8 s) (field_of 4 s 4))))

-- ---- an element set

-- the element of a sort and a value: of the value an F4 is the last four bytes, a byte the last one
unfoldable pub element_of : ℕ → ℕ → Element
element_of sort n =
    cond (eqb sort 0) (E.Signed (signed_of Eight n))
    (cond (eqb sort 1) (E.Unsigned n)
    (cond (eqb sort 2) (E.F4Bits (n % 2 ^ 32))
    (cond (eqb sort 3) (E.F8Bits n)
    (E.Byte (n % 2 ^ 8)))))

-- the number, and the content after it
abbrev pub set_fields : ℕ × List ℕ → List ℕ
set_fields r = field (decimal r.0) ++ hex_field r.1 1048576

-- code (4), place (4), sort (1), value (8), content
abbrev pub set_line : List ℕ → List ℕ
set_line s =
    let e = element_of (field_of 1 s 8) (field_of 8 s 9) in
    if_bytes 17 s (line (codes "set") (set_fields (set_of (field_of 4 s 0) (drop 17 s) (field_of 4 s 4) e)))

-- ---- a record

-- by the letter, g or s
abbrev pub printed : ℕ → List ℕ → List ℕ
printed c s = cond (eqb c 0x67) (got_line s) (cond (eqb c 0x73) (set_line s) bad_record)

-- nothing is kept from record to record
abbrev pub begun : Elements
begun = record {}

abbrev pub done : Elements × List ℕ → ℕ → List ℕ → Elements × List ℕ
done x c s = says (printed c s) x

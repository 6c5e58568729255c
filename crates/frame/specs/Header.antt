-- The header: session ID (2), byte 2, byte 3, PType, SType, system bytes (4).
use Rattle.std.specs.Prelude.{ℕ, ◌+◌, ◌%◌, ◌^◌, ◌<◌, Bool, cond, List, ◌∷◌, ◌++◌, leb, take, drop, get_or}
use Rattle.wire.specs.Number.{number_of, bytes_of}
use Rattle.frame.specs.declared.Header.{Header}

-- one that ten bytes can say
pub record InRange (h : Header) : Type 0 where
  pub session : h.session < 2 ^ 16
  pub system : h.system < 2 ^ 32

-- its ten bytes
unfoldable pub header_bytes : Header → List ℕ
header_bytes h = bytes_of 2 h.session ++ (h.byte2 ∷ h.byte3 ∷ h.ptype ∷ h.stype ∷ bytes_of 4 h.system)

-- the header that ten bytes are
unfoldable pub header_of : List ℕ → Header
header_of t =
    record {
      session = number_of (take 2 t);
      byte2 = get_or t 2 0;
      byte3 = get_or t 3 0;
      ptype = get_or t 4 0;
      stype = get_or t 5 0;
      system = number_of (drop 6 t);
    }

-- for data byte 2 is the W bit (80) plus the stream
abbrev pub w_of : Header → Bool
w_of h = leb 0x80 h.byte2

abbrev pub stream_of : Header → ℕ
stream_of h = h.byte2 % 0x80

-- and byte 3 the function: a data header, PType and SType 0; of a stream above 127 the last seven bits count
unfoldable pub data_header : ℕ → Bool → ℕ → ℕ → ℕ → Header
data_header session w stream function system =
    record { session = session; byte2 = cond w 0x80 0x00 + stream % 0x80; byte3 = function; ptype = 0; stype = 0; system = system }

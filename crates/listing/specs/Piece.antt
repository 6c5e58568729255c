-- A piece is listed into a lent output, while there is room for what one byte may print.
use Rattle.std.specs.Prelude.{ℕ, suc, ◌-◌, cond, List, [], ◌∷◌, ◌++◌, leb, length}
use Rattle.listing.specs.Listing.{Printed, byte_printed}
use Rattle.capture.specs.declared.Lister.{Lister}
use Rattle.listing.specs.declared.Listed.{Listed}

-- the bytes consumed, the lister behind them, and what they print
pub record Run : Type 0 where
  pub lister : Lister
  pub consumed : ℕ
  pub lines : List ℕ

abbrev pub one : Printed → Run → Run
one t r = record { lister = r.lister; consumed = suc r.consumed; lines = t.lines ++ r.lines }

abbrev pub none : Lister → Run
none l = record { lister = l; consumed = 0; lines = [] }

-- a byte prints at most 320 bytes
unfoldable pub run : Lister → ℕ → List ℕ → Run
run l room [] = none l
run l room (b ∷ s) =
    cond (leb 320 room) (one (byte_printed l b) (run (byte_printed l b).lister (room - length (byte_printed l b).lines) s)) (none l)

abbrev pub listed_by : Run → Listed
listed_by r = record { lister = r.lister; consumed = r.consumed; used = length r.lines }

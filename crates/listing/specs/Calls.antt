-- Calls of the lister one behind another, each with any piece and an output of any room; bytes that one leaves may come again in a later one.
use Rattle.std.specs.Prelude.{ℕ, List, [], ◌∷◌, ◌++◌, take}
use Rattle.listing.specs.Listing.{Printed, printed, behind}
use Rattle.listing.specs.Piece.{Run, run}
use Rattle.capture.specs.declared.Lister.{Lister}

pub record Call : Type 0 where
  pub piece : List ℕ
  pub room : ℕ

abbrev pub run_of : Lister → Call → Run
run_of l c = run l c.room c.piece

-- the lister behind the last, and all that they print
unfoldable pub called : Lister → List Call → Printed
called l [] = printed l []
called l (c ∷ cs) = behind (run_of l c).lines (called (run_of l c).lister cs)

-- the bytes that they consume
unfoldable pub eaten : Lister → List Call → List ℕ
eaten l [] = []
eaten l (c ∷ cs) = take (run_of l c).consumed c.piece ++ eaten (run_of l c).lister cs

-- What `run` leaves, whose input no clause can name: where what a record makes is a function, the program is as behind the lines of some input.
use mathlib.Core.Path.{◌≡◌, ap}
use Rattle.std.specs.Prelude.{ℕ, List, [], IsOk}
use Rattle.driver.specs.Input.{input_of, lines_done}
use Rattle.driver.proofs.Determined.{from_ok}
use Rattle.driver.proofs.Walk.{lines_once}
use Rattle.driver.proofs.run.Reads as run_reads

pub run_some :
    (P : _) (l : _) (g : _) (t : _) (κs : _) (a : _) (r : _) (s : _) → run_reads.Post P l g t κs a r s → IsOk r
    → (done : P.Denot × List ℕ → ℕ → List ℕ → P.Denot × List ℕ) → ((x : _) (c : _) (b : _) (y : _) → g.makes x c b y → y ≡ done x c b)
    → (input : List ℕ) × s.0.now ≡ (lines_done done (a.0.now, []) (input_of input)).0
run_some P l g t κs a r s p ok done one =
    let m = from_ok r p ok in
    (m.0, ap (λ (x : P.Denot × List ℕ). x.0) (lines_once g.makes done one (a.0.now, []) (input_of m.0) (s.0.now, m.1) m.2))

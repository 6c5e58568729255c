-- Whether every byte is 00, as the definition asks it and as the library's search does.
use Rattle.std.proofs.Common.{◌≡◌, refl, ℕ, Bool, true, false, cond, eqb, ◌==◌, ◌&&◌, List, [], ◌∷◌}
use Rattle.std.specs.List.{list_all}
use Rattle.frames.specs.Feed.{all_zero}

and_then : (a b d : Bool) → b ≡ d → (a && b) ≡ cond a d false
and_then true b d e = e
and_then false b d e = refl

pub zeros : (l : List ℕ) → list_all (λ byte. byte == 0) l ≡ all_zero l
zeros [] = refl
zeros (b ∷ l) = and_then (eqb b 0) _ _ (zeros l)

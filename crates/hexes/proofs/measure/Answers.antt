-- No character is left: between bytes all was well, elsewhere it was not.
use Prim.Native.Nat.{ℕ, ◌+◌, ◌≤◌}
use mathlib.Core.Path.{◌≡◌, refl, sym, ap, ◌∙◌}
use mathlib.Core.Bool.{cond}
use mathlib.Core.List.{List, []}
use native.Mathlib.Nat.{add-zero}
use native.Mathlib.Omega.{arith}
use borrow.Author.Tests.{eq-eqb, ne_eqb}
use lib.ListN.{length, drop, drop_of_length-le}
use Rattle.std.proofs.Common.{Ok, Err}
use Rattle.hexes.specs.Hex.{place_after, bytes_from, between, is_hex, bytes_in, number_of, IsPlace}
use Rattle.hexes.specs.declared.HexError.TheVariants.{Wrong}
use Rattle.hexes.specs.declared.Place.{Place}
use Rattle.hexes.specs.declared.Place.TheVariants as P
use Rattle.hexes.proofs.measure.Goals as goal

module _ (s : List ℕ) (i n : ℕ) (place : Place) (h : length s ≤ i) (p : place_after (number_of place) (drop i s) ≡ place_after between s) where
  nothing_left : drop i s ≡ []
  nothing_left = drop_of_length-le s {i = i} h

  last_place : place_after between s ≡ number_of place
  last_place = sym p ∙ ap (place_after (number_of place)) nothing_left

  not_good : (number_of place ≡ 16 → ⊥) → Err Wrong ≡ cond (is_hex s) (Ok (length (bytes_in s))) (Err Wrong)
  unfolding is_hex
  not_good e = rw (last_place, ne_eqb (number_of place) 16 e)

  all_good : n + length (bytes_from (number_of place) (drop i s)) ≡ length (bytes_from between s) → number_of place ≡ 16
      → Ok n ≡ cond (is_hex s) (Ok (length (bytes_in s))) (Err Wrong)
  unfolding is_hex bytes_in
  all_good q e =
      let z : length (bytes_from between s) ≡ n = sym q ∙ ap (λ (l : List ℕ). n + length (bytes_from (number_of place) l)) nothing_left ∙ add-zero n in
      rw (last_place, eq-eqb (number_of place) 16 e, z)

elsewhere : (place : Place) → IsPlace place → (place ≡ P.Between → ⊥) → number_of place ≡ 16 → ⊥
elsewhere P.Between h e p = e refl
elsewhere (P.Behind d) h e p = omega arith
elsewhere P.Broken h e p = omega arith

pub returns-in-Between : goal.returns-in-Between
returns-in-Between c =
    let l = c.loop-c in
    all_good c.args.s.now l.c-index l.n l.place (omega arith) l.invariant.place l.invariant.bytes (ap number_of c.in-Between.is)

pub returns-in_default : goal.returns-in_default
returns-in_default c =
    let l = c.loop-c in
    not_good c.args.s.now l.c-index l.n l.place (omega arith) l.invariant.place (elsewhere l.place l.invariant.is_place c.in_default.not-Between)

-- What an answer tells of a line: that its characters say bytes, and how many; or, where there was room for as many bytes as characters, that they say none.
use Rattle.std.proofs.Common.{◌≡◌, ◌≤◌, ◌+◌, ◌*◌, ℕ, suc, Bool, true, false, cond, List, [], ◌∷◌, length, refl, arith, ltb, Ok, Err}
use borrow.Author.Tests.{le-ltb}
use Rattle.hexes.specs.declared.HexError.{HexError}
use Rattle.hexes.specs.declared.HexError.TheVariants.{Wrong, Long}
use Rattle.hexes.specs.Hex.{digit_of, place_on, bytes_from, between, bytes_in, is_hex, said_in, said_of}

one_more : (b : Bool) (x n : ℕ) (l : List ℕ) → length l ≤ n → length (cond b (x ∷ l) l) ≤ suc n
one_more true x n l h = omega arith
one_more false x n l h = omega arith

from_most : (place : ℕ) (s : List ℕ) → length (bytes_from place s) ≤ length s
from_most place [] = omega arith
from_most place (c ∷ s) = one_more (ltb place 16) (place * 16 + digit_of c) (length s) _ (from_most (place_on place c) s)

-- no more bytes than characters
pub bytes_most : (s : List ℕ) → length (bytes_in s) ≤ length s
unfolding bytes_in
bytes_most s = from_most between s

fits : (b : Bool) (l : List ℕ) (n : ℕ) → cond b (Err Long) (Ok (length l)) ≡ Ok n → n ≡ length l
fits true l n e = cc
fits false l n e = cc

ok_in : (b : Bool) (l : List ℕ) (room n : ℕ) → cond b (said_in l room) (Err Wrong) ≡ Ok n → (b ≡ true) × (n ≡ length l)
ok_in true l room n e = (refl, fits (ltb room (length l)) l n e)
ok_in false l room n e = cc

pub told_ok : (s : List ℕ) (room n : ℕ) → said_of s room ≡ Ok n → (is_hex s ≡ true) × (n ≡ length (bytes_in s))
unfolding said_of
told_ok s room n e = ok_in (is_hex s) (bytes_in s) room n e

err_in : (b t : Bool) (n : ℕ) (x : HexError) → t ≡ false → cond b (cond t (Err Long) (Ok n)) (Err Wrong) ≡ Err x → b ≡ false
err_in true true n x h e = absurd cc
err_in true false n x h e = absurd cc
err_in false t n x h e = refl

pub told_err : (s : List ℕ) (room : ℕ) (x : HexError) → length s ≤ room → said_of s room ≡ Err x → is_hex s ≡ false
unfolding said_of
told_err s room x h e =
    err_in (is_hex s) (ltb room (length (bytes_in s))) (length (bytes_in s)) x (le-ltb room (length (bytes_in s)) (omega (arith, h, bytes_most s))) e

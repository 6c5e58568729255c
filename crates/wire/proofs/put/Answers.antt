-- The bytes still to write, in front of those written, stay the bytes of the number.
use Rattle.std.proofs.Common.{◌≡◌, ℕ, suc, ◌-◌, ◌/◌, ◌%◌, ◌<◌, List, ◌∷◌, ◌++◌, append_assoc, length, drop, take, ap, ◌∙◌, arith}
use Rattle.std.proofs.Math.ListN.{set}
use lib.Seq.{set_split, drop_at, length-take-le}
use Rattle.wire.specs.Number.{bytes_of}
use Rattle.wire.proofs.Numbers.{bytes_last}
use Rattle.wire.proofs.put.Goals as goal

-- a store at k, seen from k on
drop_set : (s : List ℕ) (k b : ℕ) → k < length s → drop k (set s k b) ≡ b ∷ drop (suc k) s
drop_set s k b h =
    ap (drop k) (set_split s k b h) ∙ drop_at (take k s) (b ∷ drop (suc k) s) k (length-take-le k s (omega arith))

turn : (s : List ℕ) (k n : ℕ) → k < length s → bytes_of k (n / 256) ++ drop k (set s k (n % 256)) ≡ bytes_of (suc k) n ++ drop (suc k) s
turn s k n h = rw (bytes_last k n, drop_set s k (n % 256) h, append_assoc)

pub loop-i-preserved : goal.loop-i-preserved
loop-i-preserved c =
    let l = c.loop-i in
    let e : suc (l.i - 1) ≡ l.i = omega arith in
    turn l.s (l.i - 1) l.left (omega arith) ∙ rw e l.invariant

pub returns : goal.returns
unfolding bytes_of
returns c =
    let l = c.loop-i in
    let e : l.i ≡ 0 = omega arith in
    rw e at l.invariant

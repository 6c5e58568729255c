-- Counts stored over as many zeros are the first of those counts.
use Rattle.std.specs.Prelude.{◌≡◌, ℕ, suc, ◌≤◌, List, [], ◌∷◌, ◌++◌, length, take, replicate}
use Rattle.std.proofs.Common.{refl, arith}
use mathlib.Core.List.{append-nil}
use lib.ListN.{length-append}
use lib.Seq.{sets, set_at, append_snoc}
use Rattle.records.specs.Fields.{words_in}
use Rattle.records.proofs.Words.{words_length, stored_behind}

sets_over : (p l vs : List ℕ) → length l ≤ length vs → sets (p ++ l) (length p) vs ≡ p ++ take (length l) vs
sets_over p [] vs h = rw append-nil (stored_behind p vs (length p) (omega arith))
sets_over p (y ∷ l) [] h = absurd (omega arith)
sets_over p (y ∷ l) (v ∷ vs) h =
    let n : length (p ++ v ∷ []) ≡ suc (length p) = omega (arith, length-append p (v ∷ [])) in
    rw (set_at p y l v (length p) refl, ← append_snoc p v l, ← n, sets_over (p ++ v ∷ []) l vs (omega arith)) (append_snoc p v (take (length l) vs))

-- a record's sixteen counts
pub sixteen : (s : List ℕ) → 64 ≤ length s → sets (replicate 16 0) 0 (words_in s) ≡ take 16 (words_in s)
sixteen s h = sets_over [] (replicate 16 0) (words_in s) (omega (arith, words_length s))

-- Numbers of four bytes, one at a time: while four bytes are left the next is the field there, and where fewer are left there is none.
use Prim.Native.Nat.{ℕ, suc, ◌+◌, ◌-◌, ◌*◌, ◌/◌, ◌<◌, ◌≤◌, min}
use mathlib.Core.Path.{◌≡◌, refl, ap, ◌∙◌}
use mathlib.Core.List.{List, [], ◌∷◌}
use native.Mathlib.Decide.{dec_lt}
use native.Mathlib.Numerals.{add-one}
use native.Mathlib.Omega.{arith}
use lib.ListN.{length, take, drop, set, length-drop}
use lib.Seq.{sets, set_out, drop-drop}
use Rattle.wire.specs.Number.{number_of}
use Rattle.records.specs.Fields.{field_of, words_in}

four : (t : List ℕ) → 4 ≤ length t → words_in t ≡ number_of (take 4 t) ∷ words_in (drop 4 t)
unfolding words_in
four [] h = absurd (omega arith)
four (a ∷ []) h = absurd (omega arith)
four (a ∷ b ∷ []) h = absurd (omega arith)
four (a ∷ b ∷ c ∷ []) h = absurd (omega arith)
four (a ∷ b ∷ c ∷ d ∷ t) h = refl

few : (t : List ℕ) → length t < 4 → words_in t ≡ []
unfolding words_in
few [] h = refl
few (a ∷ []) h = refl
few (a ∷ b ∷ []) h = refl
few (a ∷ b ∷ c ∷ []) h = refl
few (a ∷ b ∷ c ∷ d ∷ t) h = absurd (omega arith)

words_more : (s : List ℕ) (at : ℕ) → 4 ≤ length s - at → words_in (drop at s) ≡ field_of 4 s at ∷ words_in (drop (at + 4) s)
unfolding field_of
words_more s at h =
    four (drop at s) (omega (arith, length-drop at s)) ∙ ap (λ (t : List ℕ). number_of (take 4 (drop at s)) ∷ words_in t) (drop-drop 4 at s)

-- as many numbers as there are four bytes
pub words_length : (s : List ℕ) → length (words_in s) ≡ length s / 4
unfolding words_in
words_length [] = refl
words_length (a ∷ []) = refl
words_length (a ∷ b ∷ []) = refl
words_length (a ∷ b ∷ c ∷ []) = refl
words_length (a ∷ b ∷ c ∷ d ∷ s) = let e = words_length s in omega (arith, e)

-- one number stored
pub turn : (s out : List ℕ) (i x : ℕ) → i < length s / 4 → x ≡ field_of 4 s (4 * i)
    → sets (set out i x) (i + 1) (words_in (drop (4 * (i + 1)) s)) ≡ sets out i (words_in (drop (4 * i) s))
turn s out i x h e =
    let k : 4 * (i + 1) ≡ 4 * i + 4 = omega arith in
    rw (words_more s (4 * i) (omega arith), k, add-one i, e)

-- what is stored behind the end changes nothing
pub stored_behind : (out vs : List ℕ) (i : ℕ) → length out ≤ i → sets out i vs ≡ out
stored_behind out [] i h = refl
stored_behind out (v ∷ vs) i h = rw (set_out out i v h) (stored_behind out vs (suc i) (omega arith))

-- there is no number more, or no room
pub behind : (s out : List ℕ) (i : ℕ) → min (length out) (length s / 4) ≤ i → sets out i (words_in (drop (4 * i) s)) ≡ out
behind s out i h = go (dec_lt i (length out))
  where
    go : Dec (i < length out) → sets out i (words_in (drop (4 * i) s)) ≡ out
    go (yes k) = ap (sets out i) (few (drop (4 * i) s) (omega (arith, length-drop (4 * i) s)))
    go (no k) = stored_behind out (words_in (drop (4 * i) s)) i (omega arith)

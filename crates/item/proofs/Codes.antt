-- Laws of the table of codes: a rule that a computed test finds in every entry holds of every code; and which lengths a code allows.
use Prim.Native.Nat.{ℕ, zero, suc, ◌*◌, ◌%◌, ◌∣◌, ◌<◌, ◌≤◌}
use native.Mathlib.Nat.{mod-one, zero-lt-suc, dvd_of_mod-eq-zero, mod-eq-zero_of_dvd, dvd-mul_left_of_dvd, le_of_dvd}
use native.Mathlib.Omega.{arith}
use mathlib.Core.Path.{◌≡◌, refl, sym, subst}
use mathlib.Core.Bool.{Bool, true, false, cond, not, ◌&&◌, ◌||◌}
use mathlib.Core.List.{List, [], ◌∷◌}
use lib.Dec.{T, eqb, ltb, leb, eqb→eq, ltb→lt, leb→le}
use borrow.Author.Tests.{eqb-true, eq-eqb, ne_eqb, le-leb}
use Rattle.item.specs.Code.{L, A, C2, sizes, Code, coded, codes, found, letters, name_of, kind_of, is_plain, allowed_by, allowed_in, allowed, largest}
use Rattle.item.specs.declared.Kind.{Kind}
use Rattle.item.specs.declared.Kind.TheVariants.{List as a_list, Plain, Unknown}
use Rattle.item.specs.declared.Sizes.{Sizes}

abbrev pub every : (Code → Bool) → List Code → Bool
every p [] = true
every p (c ∷ cs) = p c && every p cs

pub and_left : (a b : Bool) → T (a && b) → T a
and_left true b t = tt
and_left false b t = t

pub and_right : (a b : Bool) → T (a && b) → T b
and_right true b t = t
and_right false b t = absurd t

-- a rule of every entry, and of an unknown code, is a rule of what is found
pub found_each : (p : Code → Bool) (n : ℕ) (cs : List Code) → T (p (coded n "" Unknown)) → T (every p cs) → T (p (found n cs))
found_each p n [] u t = u
found_each p n (c ∷ cs) u t =
    go (eqb n c.number) (and_left (p c) (every p cs) t) (found_each p n cs u (and_right (p c) (every p cs) t))
  where
    go : (b : Bool) → T (p c) → T (p (found n cs)) → T (p (cond b c (found n cs)))
    go true x y = x
    go false x y = y

pub found_number : (n : ℕ) (cs : List Code) → (found n cs).number ≡ n
found_number n [] = refl
found_number n (c ∷ cs) = go (eqb n c.number) refl (found_number n cs)
  where
    go : (b : Bool) → eqb n c.number ≡ b → (found n cs).number ≡ n → (cond b c (found n cs)).number ≡ n
    go true e y = sym (eqb-true n c.number e)
    go false e y = y

-- the letters of a code, found among the letters of the entries
abbrev spelled : ℕ → List Code → List ℕ
spelled n [] = []
spelled n (c ∷ cs) = cond (eqb n c.number) (letters c.name) (spelled n cs)

letters_found : (n : ℕ) (cs : List Code) → letters (found n cs).name ≡ spelled n cs
letters_found n [] = refl
letters_found n (c ∷ cs) = go (eqb n c.number) (letters_found n cs)
  where
    go : (b : Bool) → letters (found n cs).name ≡ spelled n cs → letters (cond b c (found n cs)).name ≡ cond b (letters c.name) (spelled n cs)
    go true e = refl
    go false e = e

pub name_spelled : (n : ℕ) → name_of n ≡ spelled n codes
unfolding name_of
name_spelled n = letters_found n codes

-- a rule of numbers and kinds that every entry keeps, and that an unknown code keeps, is kept by every code and its kind
pub kept : (p : ℕ → Kind → Bool) (c : ℕ) → T (p c Unknown) → T (every (λ x. p x.number x.kind) codes) → T (p c (kind_of c))
unfolding kind_of
kept p c u t =
    let f : T (p (found c codes).number (found c codes).kind) = found_each (λ x. p x.number x.kind) c codes u t in
    subst (λ (n : ℕ). T (p n (found c codes).kind)) (found_number c codes) f

-- what holds of plain kinds, whatever their sizes, holds of a kind that is plain
pub of_plain : (P : Kind → Type 0) (k : Kind) → is_plain k ≡ true → ((s : Sizes) → P (Plain s)) → P k
of_plain P a_list p f = let z : ◌≡◌ {A = ℕ} 0 1 = cc in absurd (omega arith)
of_plain P (Plain s) p f = f s
of_plain P Unknown p f = let z : ◌≡◌ {A = ℕ} 0 1 = cc in absurd (omega arith)

-- L is no code of plain items
pub plain_not_list : (c : ℕ) → is_plain (kind_of c) ≡ true → c ≡ L → ⊥
unfolding kind_of
plain_not_list c p e =
    let q : is_plain (kind_of L) ≡ true = subst (λ (x : ℕ). is_plain (kind_of x) ≡ true) e p in
    let z : ◌≡◌ {A = ℕ} 0 1 = cc in
    omega arith

-- and no other code is a list's
abbrev listed : ℕ → Kind → Bool
listed n a_list = eqb n L
listed n (Plain s) = true
listed n Unknown = true

pub list_code : (c : ℕ) → kind_of c ≡ a_list → c ≡ L
list_code c e = eqb→eq c L (subst (λ (k : Kind). T (listed c k)) e (kept listed c tt tt))

-- a code of plain items is below 63, so that a format byte is a byte with up to four length bytes too
abbrev small : ℕ → Kind → Bool
small n k = cond (is_plain k) (ltb n 63) true

pub plain_small : (c : ℕ) → is_plain (kind_of c) ≡ true → c < 63
plain_small c p = ltb→lt c 63 (rw p at (kept small c tt tt))

-- ---- lengths

-- sizes that go into eight bytes: the width divides 8, and the least length is at most 8
pub record InEight (s : Sizes) : Type 0 where
  pub some : 0 < s.width
  pub few : s.width ≤ 8
  pub divides : s.width ∣ 8
  pub least : s.least ≤ 8

abbrev in_eight : Kind → Bool
in_eight a_list = true
in_eight (Plain s) = ltb 0 s.width && (eqb (8 % s.width) 0 && leb s.least 8)
in_eight Unknown = true

in_eight_of : (s : Sizes) → T (in_eight (Plain s)) → InEight s
in_eight_of s t =
    let u = and_right (ltb 0 s.width) _ t in
    let d = dvd_of_mod-eq-zero s.width (eqb→eq (8 % s.width) 0 (and_left (eqb (8 % s.width) 0) _ u)) in
    record {
      some = ltb→lt 0 s.width (and_left (ltb 0 s.width) _ t);
      few = le_of_dvd (zero-lt-suc 7) d;
      divides = d;
      least = leb→le s.least 8 (and_right (eqb (8 % s.width) 0) _ u);
    }

pub plain_sizes : (c : ℕ) (s : Sizes) → kind_of c ≡ Plain s → InEight s
plain_sizes c s e = in_eight_of s (subst (λ (k : Kind). T (in_eight k)) e (kept (λ _. in_eight) c tt tt))

eights : (s : Sizes) → InEight s → (n : ℕ) → allowed_by s (n * 8) ≡ true
unfolding allowed_by
eights s f n = rw (eq-eqb (n * 8 % s.width) 0 (mod-eq-zero_of_dvd s.width (dvd-mul_left_of_dvd s.width f.divides n))) (go n)
  where
    go : (n : ℕ) → (eqb (n * 8) 0 || leb s.least (n * 8)) ≡ true
    go zero = refl
    go (suc n) = rw (ne_eqb (suc n * 8) 0 (λ z. omega arith), le-leb s.least (suc n * 8) (omega (arith, f.least)))

-- lengths of 0, 8, 16, .. bytes are allowed
pub allowed_eights : (c n : ℕ) → is_plain (kind_of c) ≡ true → allowed c (n * 8) ≡ true
unfolding allowed
allowed_eights c n p =
    of_plain (λ k. T (in_eight k) → allowed_in k (n * 8) ≡ true) (kind_of c) p (λ s t. eights s (in_eight_of s t) n) (kept (λ _. in_eight) c tt tt)

-- of every code but C2 the least length is the width
abbrev ordinary : ℕ → Kind → Bool
ordinary n a_list = true
ordinary n (Plain s) = eqb n C2 || eqb s.least s.width
ordinary n Unknown = true

multiples : (w n : ℕ) → allowed_by (sizes w w) n ≡ eqb (n % w) 0
unfolding allowed_by
multiples w n = go n (eqb (n % w) 0) refl
  where
    go : (n : ℕ) (b : Bool) → eqb (n % w) 0 ≡ b → (b && (eqb n 0 || leb w n)) ≡ b
    go n false e = refl
    go zero true e = refl
    go (suc n) true e =
        let d : w ∣ suc n = dvd_of_mod-eq-zero w (eqb-true (suc n % w) 0 e) in
        rw (ne_eqb (suc n) 0 (λ z. omega arith), le-leb w (suc n) (le_of_dvd (zero-lt-suc n) d))

-- and so its lengths are the multiples of its width
pub allowed_multiples : (c n : ℕ) (s : Sizes) → kind_of c ≡ Plain s → (c ≡ C2 → ⊥) → allowed c n ≡ eqb (n % s.width) 0
unfolding allowed
allowed_multiples c n s e other =
    let t : T (ordinary c (Plain s)) = subst (λ (k : Kind). T (ordinary c k)) e (kept ordinary c tt tt) in
    let q : s.least ≡ s.width = eqb→eq s.least s.width (rw (ne_eqb c C2 other) at t) in
    rw (e, q) (multiples s.width n)

-- C2 has every length but 1
pub allowed_c2 : (n : ℕ) → allowed C2 n ≡ not (eqb n 1)
unfolding allowed kind_of allowed_by
allowed_c2 n = rw (eq-eqb (n % 1) 0 (mod-one n)) (go n)
  where
    go : (n : ℕ) → (eqb n 0 || leb 2 n) ≡ not (eqb n 1)
    go zero = refl
    go (suc zero) = refl
    go (suc (suc n)) = rw (ne_eqb (suc (suc n)) 0 (λ z. omega arith), ne_eqb (suc (suc n)) 1 (λ z. omega arith), le-leb 2 (suc (suc n)) (omega arith))

pub largest_le : (c : ℕ) → largest c ≤ 0xFF
unfolding largest
largest_le c = go (eqb c A)
  where
    go : (b : Bool) → cond b 0x7F 0xFF ≤ 0xFF
    go true = omega arith
    go false = omega arith

-- What a line is that is a record, or none; what the lines from a place on make, which is one thing where a record makes one.
use Rattle.std.proofs.Common.{◌≡◌, ◌<◌, ◌+◌, ◌-◌, ◌∙◌, ℕ, true, false, eqb, sym, ap, subst, refl, lt-ltb}
use Rattle.std.proofs.Common.{List, [], ◌∷◌, ◌++◌, length, take, drop, map}
use Rattle.hexes.specs.Hex.{is_hex, bytes_in}
use Rattle.records.specs.Fields.{line_end}
use Rattle.records.specs.Lines.{lines_of}
use Rattle.records.proofs.Lines.{lines_from}
use Rattle.driver.specs.Printed.{bad_record}
use Rattle.driver.specs.Input.{Line, Prints, Record, too_much, line_of, input_of, line_makes, lines_make, line_done, lines_done}

-- a line of these bytes, which is no comment
module _ {l : List ℕ} (c : ℕ) (s : List ℕ) (e : l ≡ c ∷ s) (n : eqb c 0x23 ≡ false) where
  pub is_record : is_hex s ≡ true → line_of l ≡ Record c (bytes_in s)
  is_record h = ap line_of e ∙ rw (n, h)

  pub is_bad : is_hex s ≡ false → line_of l ≡ Prints bad_record
  is_bad h = ap line_of e ∙ rw (n, h)

module _ {P : Type 0} (makes : P × List ℕ → ℕ → List ℕ → P × List ℕ → Type 0) (x : P × List ℕ) where
  -- where this is all that a line prints
  pub only_makes : {l : Line} {s t : List ℕ} → l ≡ Prints s → t ≡ x.1 ++ s → line_makes makes x l (x.0, t)
  only_makes {t = t} e w = subst (λ (l : Line). line_makes makes x l (x.0, t)) (sym e) (ap (λ (u : List ℕ). (x.0, u)) w)

  pub record_makes : {l : Line} {c : ℕ} {s t : List ℕ} {y : P × List ℕ} → l ≡ Record c s → t ≡ s → makes x c t y → line_makes makes x l y
  record_makes {c = c} {y = y} e f m = subst (λ (l : Line). line_makes makes x l y) (sym e) (subst (λ (u : List ℕ). makes x c u y) f m)

  -- the line at a place, and then those behind its end
  pub then_makes :
      (s : List ℕ) (at end : ℕ) (y : P × List ℕ) → at < length s → end ≡ line_end s at → line_makes makes x (line_of (take (end - at) (drop at s))) y
      → (z : P × List ℕ) → lines_make makes y (map line_of (lines_of (drop (end + 1) s))) z → lines_make makes x (map line_of (lines_of (drop at s))) z
  then_makes s at end y h f m z n =
      let first = subst (λ (e : ℕ). line_makes makes x (line_of (take (e - at) (drop at s))) y) f m in
      let others = subst (λ (e : ℕ). lines_make makes y (map line_of (lines_of (drop (e + 1) s))) z) f n in
      subst (λ (ls : List (List ℕ)). lines_make makes x (map line_of ls) z) (sym (lines_from s at h)) (y, first, others)

  -- too many bytes are one line
  pub too_many : (s t : List ℕ) → 1048575 < length s → t ≡ x.1 ++ too_much → lines_make makes x (input_of s) (x.0, t)
  too_many s t h e = rw (lt-ltb 1048575 (length s) h) ((x.0, t), ap (λ (u : List ℕ). (x.0, u)) e, refl)

-- where what a record makes is a function, so is what lines make
module _ {P : Type 0} (makes : P × List ℕ → ℕ → List ℕ → P × List ℕ → Type 0) (done : P × List ℕ → ℕ → List ℕ → P × List ℕ)
    (one : (x : P × List ℕ) (c : ℕ) (s : List ℕ) (y : P × List ℕ) → makes x c s y → y ≡ done x c s) where
  line_once : (x : P × List ℕ) (l : Line) (y : P × List ℕ) → line_makes makes x l y → y ≡ line_done done x l
  line_once x (Prints s) y e = e
  line_once x (Record c s) y m = one x c s y m

  pub lines_once : (x : P × List ℕ) (ls : List Line) (y : P × List ℕ) → lines_make makes x ls y → y ≡ lines_done done x ls
  lines_once x [] y e = e
  lines_once x (l ∷ ls) y m = lines_once m.0 ls y m.2 ∙ ap (λ (z : P × List ℕ). lines_done done z ls) (line_once x l m.0 m.1)

-- where no more is said of a record than what the function makes
module _ {P : Type 0} (done : P × List ℕ → ℕ → List ℕ → P × List ℕ) where
  abbrev alone : P × List ℕ → ℕ → List ℕ → P × List ℕ → Type 0
  alone x c s y = y ≡ done x c s

  line_is : (x : P × List ℕ) (l : Line) (y : P × List ℕ) → line_makes alone x l y → y ≡ line_done done x l
  line_is = line_once alone done (λ x c s y e. e)

  pub lines_are : (x : P × List ℕ) (ls : List Line) (y : P × List ℕ) → lines_make alone x ls y → y ≡ lines_done done x ls
  lines_are = lines_once alone done (λ x c s y e. e)

  line_made : (x : P × List ℕ) (l : Line) → line_makes alone x l (line_done done x l)
  line_made x (Prints s) = refl
  line_made x (Record c s) = refl

  lines_made : (x : P × List ℕ) (ls : List Line) → lines_make alone x ls (lines_done done x ls)
  lines_made x [] = refl
  lines_made x (l ∷ ls) = (line_done done x l, line_made x l, lines_made (line_done done x l) ls)

  module _ (x : P × List ℕ) where
    pub only : {l : Line} {s t : List ℕ} → l ≡ Prints s → t ≡ x.1 ++ s → (x.0, t) ≡ line_done done x l
    only {l} {t = t} e w = line_is x l (x.0, t) (only_makes alone x e w)

    pub as_record : {l : Line} {c : ℕ} {s t : List ℕ} {y : P × List ℕ} → l ≡ Record c s → t ≡ s → y ≡ done x c t → y ≡ line_done done x l
    as_record {l} {y = y} e f d = line_is x l y (record_makes alone x e f d)

    pub line_then :
        (s : List ℕ) (at end : ℕ) (y : P × List ℕ) → at < length s → end ≡ line_end s at → y ≡ line_done done x (line_of (take (end - at) (drop at s)))
        → lines_done done y (map line_of (lines_of (drop (end + 1) s))) ≡ lines_done done x (map line_of (lines_of (drop at s)))
    line_then s at end y h f e =
        let l = line_of (take (end - at) (drop at s)) in
        let others = map line_of (lines_of (drop (end + 1) s)) in
        let first = subst (λ (z : P × List ℕ). line_makes alone x l z) (sym e) (line_made x l) in
        let behind = lines_done done y others in
        let all = then_makes alone x s at end y h f first behind (lines_made y others) in
        lines_are x (map line_of (lines_of (drop at s))) behind all

-- Document 01's starred byte lines hold, in one statement, and ours of wide characters and of lean-only links in others: the checker computes each
-- answer, and from the tree that the bytes spell the lean form written.
use Prim.Native.Nat.{ℕ}
use mathlib.Core.Path.{◌≡◌, refl, ap, ◌∙◌}
use mathlib.Core.List.{List, [], ◌∷◌, ◌++◌, map}
use native.Mathlib.Omega.{arith}
use lib.ListN.{length, drop, length-append}
use Rattle.wire.specs.Lists.{Each}
use Rattle.wire.specs.Number.{number_of, bytes_of}
use Rattle.item.specs.Code.{A, BOOLEAN, kind_of, allowed_by, allowed, largest}
use Rattle.item.specs.Item.{plain, one, fewest, Lengths, Content, header, Says, told, lean_item, lean_of}
use Rattle.item.specs.declared.Form.TheVariants.{Good as good, Lean as lean}
use Rattle.levels.specs.Levels.{total, deepest, leaving, stack_of, levels_of, clean_of}
use Rattle.follow.specs.Fits.{alone_at16, gap, fits_items, leads, lowest, holds_members, fits_list, fits_plain, fits_lengths}
use Rattle.reader.specs.State.{fresh}
use Rattle.reader.specs.Step.{known, at_format, at_list, at_plain, at_length, at_content, step_at, step}
use Rattle.reader.specs.Feed.{allows_phase, allows_frame, allows_end, allows, status, eat, fed_of}
use Rattle.rows.specs.Rows.{item_rows}
use Rattle.refusal.specs.Answer.{Counted}
use Rattle.refusal.specs.Answer.{Is}
use Rattle.demand2.specs.Starred.{LeanForm, not_given, given, Line, LeanRight, outcome, Answered, Right, table, wide_lines, lean_only_lines}
use Rattle.demand2.proofs.Demand2.{in_one_call}

-- an item of one content byte, under length bytes that say 1, and its lean form
one_byte : (c b : ℕ) (ls l : List ℕ) → Lengths good ls 1 → Content good c (b ∷ []) → lean_of (one (plain c (b ∷ []))) ≡ l
    → LeanRight (given (one (plain c (b ∷ []))) l) (header c ls ++ (b ∷ []))
unfolding item_rows
one_byte c b ls l lens con e =
    let w = one (plain c (b ∷ [])) in
    let t = header c ls ++ (b ∷ []) in
    let s : Says good w t = ((ls, refl, lens, con, omega arith), omega (arith, lens.few, length-append (header c ls) (b ∷ []))) in (
      s,
      e,
      λ table out room fits.
          let q = in_one_call t w s table out (omega arith) (omega (arith, ap length e)) in
          let number = ap (λ (x : Counted × List ℕ × List ℕ). x.0) q ∙ ap (λ (y : List ℕ). Is (length y)) e in
          let bytes = ap (λ (x : Counted × List ℕ × List ℕ). x.2) q ∙ ap (λ (y : List ℕ). y ++ drop (length y) out) e in
          (number, bytes),
    )

-- where two lists of answers are the same, each answer is
same_each : {A : Type 0} (g h : Line → A) (ls : List Line) → map g ls ≡ map h ls → Each (λ l. g l ≡ h l) ls
same_each g h [] e = tt
same_each g h (l ∷ ls) e = (cc, same_each g h ls cc)

-- what is asked of those lines that give a lean form, and so of all
abbrev GivenAt : LeanForm → List ℕ → Type 0 → Type 0
GivenAt not_given b Rest = Rest
GivenAt (given w l) b Rest = LeanRight (given w l) b × Rest

abbrev Given : List Line → Type 0
Given [] = Unit {0}
Given (l ∷ ls) = GivenAt l.lean l.bytes (Given ls)

given_at : (f : LeanForm) (b : List ℕ) (Rest : Type 0) → GivenAt f b Rest → LeanRight f b × Rest
given_at not_given b Rest r = (tt, r)
given_at (given w l) b Rest r = r

rights : (ls : List Line) → Each (Answered good) ls → Given ls → Each Right ls
rights [] a g = tt
rights (l ∷ ls) a g =
    let r = given_at l.lean l.bytes (Given ls) g in
    ((a.0, r.0), rights ls a.1 r.1)

-- what is looked through to work an answer out
the_reader : Unit {0}
unfolding kind_of allowed_by allowed largest total deepest leaving stack_of levels_of clean_of
    alone_at16 gap fits_items leads lowest holds_members fits_list fits_plain fits_lengths
    fresh known at_format at_list at_plain at_length at_content step_at step allows_phase allows_frame allows_end allows status eat fed_of
the_reader = tt

-- THE STARRED LINES HOLD.
pub starred : Each Right table
unfolding the_reader number_of bytes_of fewest told lean_item
starred =
    rights table (same_each (outcome good) (λ l. (l.answer, l.at)) table refl) (
      one_byte A 0x41 (0x00 ∷ 0x00 ∷ 0x01 ∷ []) (0x41 ∷ 0x01 ∷ 0x41 ∷ [])
          (record { some = omega arith; few = omega arith; bytes = (omega arith, (omega arith, (omega arith, tt))); says = refl; form = tt })
          (record { known = refl; whole = refl; bytes = (omega arith, tt) })
          refl,
      (
        one_byte BOOLEAN 0x07 (0x01 ∷ []) (0x25 ∷ 0x01 ∷ 0x01 ∷ [])
            (record { some = omega arith; few = omega arith; bytes = (omega arith, tt); says = refl; form = tt })
            (record { known = refl; whole = refl; bytes = (omega arith, tt) })
            refl,
        tt,
      ),
    )

-- AND OURS OF WIDE CHARACTERS.
pub wide_lines_right : Each Right wide_lines
unfolding the_reader
wide_lines_right = rights wide_lines (same_each (outcome good) (λ l. (l.answer, l.at)) wide_lines refl) tt

-- AND OURS OF LEAN-ONLY LINKS.
pub lean_only_lines_answered : Each (Answered lean) lean_only_lines
unfolding the_reader
lean_only_lines_answered = same_each (outcome lean) (λ l. (l.answer, l.at)) lean_only_lines refl

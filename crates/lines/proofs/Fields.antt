-- One number more is put: its field, stored behind the place, leaves the rest of the fields to store behind it.
use Prim.Native.Nat.{ℕ, suc, ◌+◌, ◌*◌, ◌≤◌, ◌<◌}
use mathlib.Core.List.{List, [], ◌∷◌, ◌++◌}
use mathlib.Core.Path.{◌≡◌, sym, ap, ◌∙◌}
use native.Mathlib.Omega.{arith}
use lib.ListN.{length, drop, get_or, length-append}
use lib.Seq.{sets, drop-cons, drop-length}
use Rattle.wire.proofs.Stores.{sets_append}
use Rattle.frame.specs.declared.Header.{Header}
use Rattle.lines.specs.Text.{newline, number_field, fields, message_line}
use Rattle.lines.proofs.Digits.{spelled_length}

pub field_short : (n : ℕ) → length (number_field n) ≤ 21
field_short n = omega (arith, spelled_length 20 n)

module _ (ns : List ℕ) (i : ℕ) (h : i < length ns) where
  fields_next : fields (drop i ns) ≡ number_field (get_or ns i 0) ++ fields (drop (suc i) ns)
  unfolding fields
  fields_next = ap fields (drop-cons ns i 0 h)

  pub next_end : (a : ℕ) → a + length (number_field (get_or ns i 0)) + length (fields (drop (suc i) ns)) ≡ a + length (fields (drop i ns))
  next_end a =
      let l = ap length fields_next ∙ length-append (number_field (get_or ns i 0)) (fields (drop (suc i) ns)) in
      omega (arith, l)

  pub next_stored : (s : List ℕ) (a : ℕ)
      → sets (sets s a (number_field (get_or ns i 0))) (a + length (number_field (get_or ns i 0))) (fields (drop (suc i) ns)) ≡ sets s a (fields (drop i ns))
  next_stored s a = sets_append s a (number_field (get_or ns i 0)) (fields (drop (suc i) ns)) ∙ ap (sets s a) (sym fields_next)

-- behind the last there is none
pub no_fields : (ns : List ℕ) (i : ℕ) → i ≡ length ns → fields (drop i ns) ≡ []
unfolding fields
no_fields ns i e = ap (λ (k : ℕ). fields (drop k ns)) e ∙ ap fields (drop-length ns)

pub fields_short : (ns : List ℕ) → length (fields ns) ≤ length ns * 21
unfolding fields
fields_short [] = omega arith
fields_short (n ∷ ns) = rw (length-append (number_field n) (fields ns)) (omega (arith, field_short n, fields_short ns))

pub message_short : (h : Header) (n : ℕ) → length (message_line h n) ≤ 149
unfolding message_line
message_short h n =
    let f = fields (h.session ∷ h.ptype ∷ h.stype ∷ h.byte2 ∷ h.byte3 ∷ h.system ∷ n ∷ []) in
    omega (arith, length-append f (newline ∷ []), fields_short (h.session ∷ h.ptype ∷ h.stype ∷ h.byte2 ∷ h.byte3 ∷ h.system ∷ n ∷ []))

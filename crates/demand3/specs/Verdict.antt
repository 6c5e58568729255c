-- What is right to answer: to bytes that came in pieces, and to a whole text.
use Rattle.std.specs.Prelude.{ℕ, suc, ◌≤◌, ◌<◌, List, [], ◌∷◌, ◌++◌, ◌≡◌, length, take}
use Rattle.item.specs.Item.{Formed}
use Rattle.item.specs.declared.Form.{Form}
use Rattle.reader.specs.Answer.{Answer, More, Complete, Refusal}
use Rattle.demand3.specs.Begins.{Begins, NumberBehind}

-- What the form and N, the bytes w of all pieces, the bytes k consumed in all and the answer have to do with each other. With more the whole of w was
-- consumed, and some text of the form and of N bytes begins with it. When complete, the first N bytes are a text of the form and were consumed. A refusal
-- comes before any byte, with 5, where there is no such text; or at a byte b behind q, with the number of its place, where some such text begins with q
-- and none with q and b. So it comes at the first prefix that no text of the form and of N bytes begins with.
pub data Verdict (f : Form) (n : ℕ) (w : List ℕ) (k : ℕ) : Answer → Type 0 where
  goes_on : k ≡ length w → length w < n → Begins f n w → Verdict f n w k More
  complete : k ≡ n → n ≤ length w → Formed f (take n w) → Verdict f n w k Complete
  before_any : k ≡ 0 → (Begins f n [] → ⊥) → Verdict f n w k (Refusal 5)
  at_byte : (q : List ℕ) (b : ℕ) (r : List ℕ) (e : ℕ) → w ≡ q ++ (b ∷ r) → k ≡ suc (length q) → length q < n
      → Begins f n q → (Begins f n (q ++ (b ∷ [])) → ⊥) → NumberBehind f n q b e → Verdict f n w k (Refusal e)

-- what a whole text is answered: complete where it is of the form, and otherwise refused with a number from 1 to 6
pub data Whole (f : Form) (t : List ℕ) : Answer → Type 0 where
  is_formed : Formed f t → Whole f t Complete
  not_formed : (e : ℕ) → 1 ≤ e → e ≤ 6 → (Formed f t → ⊥) → Whole f t (Refusal e)

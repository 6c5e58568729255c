-- Two answers that say the same are the same.
use mathlib.Core.Path.{◌≡◌, refl, ap}
use Rattle.std.specs.Prelude.{Option, Some, None, Result, Ok, Err}
use Rattle.refusal.specs.declared.Refusal.{Refusal as Cause}
use Rattle.refusal.proofs.Once.{one_refusal}
use Rattle.reader.specs.Answer.{Fed, Reached, answer_in, fed_in, found_in, reached_in}
use Rattle.reader.specs.declared.Progress.{Progress}
use Rattle.reader.specs.declared.Progress.TheVariants as P
use Rattle.reader.specs.declared.Fed.{Fed as WasFed}
use Rattle.reader.specs.declared.Item.{Item as ItemMet}
use Rattle.reader.specs.declared.Reached.{Reached as WasReached}

pub one_answer : (a b : Result Progress Cause) → answer_in a ≡ answer_in b → a ≡ b
one_answer (Ok P.More) (Ok P.More) e = refl
one_answer (Ok P.More) (Ok P.Complete) e = cc
one_answer (Ok P.More) (Err y) e = cc
one_answer (Ok P.Complete) (Ok P.More) e = cc
one_answer (Ok P.Complete) (Ok P.Complete) e = refl
one_answer (Ok P.Complete) (Err y) e = cc
one_answer (Err x) (Ok P.More) e = cc
one_answer (Err x) (Ok P.Complete) e = cc
one_answer (Err x) (Err y) e = ap Err (one_refusal x y cc)

one_item : (x y : ItemMet) → x.depth ≡ y.depth → x.code ≡ y.code → x.length ≡ y.length → x ≡ y
one_item x y d c n =
    let e : ◌≡◌ {A = ItemMet} record { depth = x.depth; code = x.code; length = x.length } record { depth = y.depth; code = y.code; length = y.length } = cc in
    e

one_found : (a b : Option ItemMet) → found_in a ≡ found_in b → a ≡ b
one_found None None e = refl
one_found None (Some y) e = cc
one_found (Some x) None e = cc
one_found (Some x) (Some y) e = ap Some (one_item x y (cc) (cc) (cc))

pub one_fed : (a b : WasFed) → fed_in a ≡ fed_in b → a ≡ b
one_fed a b e =
    let x = one_answer a.answer b.answer (ap (λ (f : Fed). f.answer) e) in
    let k = ap (λ (f : Fed). f.consumed) e in
    let r = ap (λ (f : Fed). f.reader) e in
    let same : ◌≡◌ {A = WasFed} record { answer = a.answer; consumed = a.consumed; reader = a.reader }
    record { answer = b.answer; consumed = b.consumed; reader = b.reader }
    = cc in
    same

pub one_reached : (a b : WasReached) → reached_in a ≡ reached_in b → a ≡ b
one_reached a b e =
    let i = one_found a.found b.found (ap (λ (f : Reached). f.found) e) in
    let x = one_answer a.answer b.answer (ap (λ (f : Reached). f.answer) e) in
    let k = ap (λ (f : Reached). f.consumed) e in
    let r = ap (λ (f : Reached). f.reader) e in
    let same : ◌≡◌ {A = WasReached} record { found = a.found; answer = a.answer; consumed = a.consumed; reader = a.reader }
    record { found = b.found; answer = b.answer; consumed = b.consumed; reader = b.reader }
    = cc in
    same

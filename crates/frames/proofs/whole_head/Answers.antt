-- The header is judged with its length, which was in order; a header that is refused leaves no text, one in order leaves what its length counts behind it.
use borrow.Author.Rules.{rules}
use Prim.Native.Nat.{ℕ}
use mathlib.Core.Path.{◌≡◌, sym, ap, ◌∙◌}
use mathlib.Core.List.{List}
use native.Mathlib.Omega.{arith}
use lib.ListN.{length, get_or, drop, length-drop}
use lib.Seq.{take_all}
use Rattle.std.proofs.lemmas.Result.{err_from_is_err_and, MatchResult-at_ok}
use Rattle.refusal.proofs.Once.{some_number}
use Rattle.frame.specs.Frame.{length_in, kind_number}
use Rattle.frame.proofs.Laws.{length_range}
use Rattle.frames.specs.State.{reader_of}
use Rattle.frames.specs.Feed.{head_number}
use Rattle.frames.proofs.Heads.{number_whole, pushed_refused, pushed_whole}
use Rattle.frames.proofs.whole_head.Goals as goal

-- the number n of the SType and the length x is the head's
judged : (t : List ℕ) {x n : ℕ} → length t ≡ 14 → x ≡ length_in t → n ≡ kind_number (get_or t 9 0) x → n ≡ head_number t
judged t l e f = f ∙ ap (kind_number (get_or t 9 0)) e ∙ sym (number_whole t l)

pub returns-in_err-judge_kind : goal.returns-in_err-judge_kind
returns-in_err-judge_kind c =
    let t = c.args.held in
    let n : length t ≡ 14 = search rules in
    let p = err_from_is_err_and c.from_residual.result c.from_residual.ensures.1 in
    let k = judged t n c.length_in-length.ensures.0 c.in_err-judge_kind.ensures in
    rw (p.1, p.2) (pushed_refused t _ k (λ z. omega (arith, some_number c.in_err-judge_kind.field-0.0)))

pub overflow_sub-left : goal.overflow_sub-left
overflow_sub-left c = omega (arith, c.length_in-length.ensures.0, (length_range _ c.requires).0)

pub returns : goal.returns
unfolding reader_of
returns c =
    let t = c.args.held in
    let n : length t ≡ 14 = search rules in
    let k = judged t n c.length_in-length.ensures.0 c.in_ok-judge_kind.ensures in
    let chunk = MatchResult-at_ok _ _ c.unwrap-header.result c.unwrap-header.ensures c.try_into.ensures.1 in
    let behind : c.unwrap-header.result ≡ drop 4 t = chunk.same ∙ take_all 10 (drop 4 t) (simp length-drop (omega arith)) in
    rw (c.from.ensures, c.bare.ensures, behind, c.length_in-length.ensures.0) (pushed_whole t (sym k) n)

-- The phase decides, as in the definition; a length so far leaves room for a byte more.
use mathlib.Core.Path.{subst}
use native.Mathlib.Omega.{arith}
use Rattle.reader.specs.Step.{step_at}
use Rattle.reader.specs.Asked.{ReadyAt}
use Rattle.reader.specs.declared.Phase.TheVariants.{Format, Length, Content}
use Rattle.reader.proofs.Bytes.{length_small, step_in}
use Rattle.reader.proofs.step_byte.Goals as goal

pub overflow_sub-left : goal.overflow_sub-left
overflow_sub-left c = omega (arith, (length_small c.requires.phase c.in-Length.is c.args.b (omega arith)).0)

pub overflow_mul-value : goal.overflow_mul-value
overflow_mul-value c = omega (arith, (length_small c.requires.phase c.in-Length.is c.args.b (omega arith)).2)

pub overflow_add-value : goal.overflow_add-value
overflow_add-value c = omega (arith, (length_small c.requires.phase c.in-Length.is c.args.b (omega arith)).2)

pub at_length-requires : goal.at_length-requires
at_length-requires c = (length_small c.requires.phase c.in-Length.is c.args.b (omega arith)).2

pub at_content-requires : goal.at_content-requires
at_content-requires c = subst ReadyAt c.in-Content.is c.requires.phase

pub returns-in-Format : goal.returns-in-Format
unfolding step_at
returns-in-Format c =
    let s = c.spot_behind-spot.ensures in
    step_in c.args.r _ _ _ _ Format c.args.b s.same_form s.same_size s.further s.same_levels c.in-Format.is c.at_format.ensures

pub returns-in-Length : goal.returns-in-Length
unfolding step_at
returns-in-Length c =
    let s = c.spot_behind-spot.ensures in
    step_in c.args.r _ _ _ _ (Length _ _ _) c.args.b s.same_form s.same_size s.further s.same_levels c.in-Length.is c.at_length.ensures

pub returns-in-Content : goal.returns-in-Content
unfolding step_at
returns-in-Content c =
    let s = c.spot_behind-spot.ensures in
    step_in c.args.r _ _ _ _ (Content _ _) c.args.b s.same_form s.same_size s.further s.same_levels c.in-Content.is c.at_content.ensures

pub returns-in-Refused : goal.returns-in-Refused
returns-in-Refused c = absurd (subst ReadyAt c.in-Refused.is c.requires.phase)

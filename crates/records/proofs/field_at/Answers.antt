-- The part's number is the field's, and fits.
use Rattle.records.proofs.Fields.{field_is, field_lt}
use Rattle.records.proofs.field_at.Goals as goal

pub returns-clause-number : goal.returns-clause-number
returns-clause-number g c =
    let a = c.args in
    let p = c.part in
    field_is g.row.SIZE a.at c.number.result p.result.now a.s.now p.ensures.bytes p.ensures.most c.number.ensures.0

pub returns-clause-fits : goal.returns-clause-fits
returns-clause-fits g c = field_lt g.row.SIZE c.number.result c.part.result.now c.part.ensures.most c.number.ensures.1

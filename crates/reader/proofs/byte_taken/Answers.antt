-- One byte is a step.
use native.Mathlib.Omega.{arith}
use Rattle.reader.proofs.Eats.{ready}
use Rattle.reader.proofs.Turns.{byte_turned}
use Rattle.reader.proofs.byte_taken.Goals as goal

pub step_byte-requires : goal.step_byte-requires
step_byte-requires c = let b = c in ready b.args.r b.requires.on

pub returns : goal.returns
returns c =
    let b = c in
    let byte = c.type_inv.piece in
    byte_turned b.args.r b.args.piece.now b.args.from c.step_byte.result b.requires.on b.requires.from_in_bounds (omega (arith, byte b.args.from))
    c.step_byte.ensures

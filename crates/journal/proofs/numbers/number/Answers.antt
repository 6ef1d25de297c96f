use Rattle.std.proofs.Common.{arith}
use Rattle.journal.proofs.ByteLaws.{number_part_fits}
use Rattle.journal.proofs.numbers.number.Goals as goal

pub overflow_mul-n : goal.overflow_mul-n
overflow_mul-n c = record { fits = omega (arith, number_part_fits c.args.part.now c.loop-b.b-index c.type_inv.part (omega arith) (omega arith)) }

pub overflow_add-n : goal.overflow_add-n
overflow_add-n c = record { fits = omega (arith, number_part_fits c.args.part.now c.loop-b.b-index c.type_inv.part (omega arith) (omega arith), (c.type_inv.part c.loop-b.b-index).fits) }

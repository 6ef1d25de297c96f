-- `put_clock_and_rate` meets its contract: clock and rate. Assumes nothing.
use borrow.Author.Rules.{rules}
use Rattle.desk_bytes.proofs.OverLaws.{two_parts}
use Rattle.desk_bytes.proofs.desk.put_clock_and_rate.Goals as goal

pub returns : goal.returns
returns c = (search rules, search two_parts)

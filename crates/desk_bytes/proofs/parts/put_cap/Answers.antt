-- `put_cap` meets its contract: the byte of the arm, and then the count or 0. Assumes nothing.
use borrow.Author.Rules.{rules}
use Rattle.desk_bytes.proofs.OverLaws.{two_parts, unlimited_is, count_is}
use Rattle.desk_bytes.proofs.parts.put_cap.Goals as goal

pub returns-in-Unlimited : goal.returns-in-Unlimited
returns-in-Unlimited c = (search rules, search (unlimited_is, two_parts))

pub returns-in-Bytes : goal.returns-in-Bytes
returns-in-Bytes c = (search rules, search (count_is, two_parts))

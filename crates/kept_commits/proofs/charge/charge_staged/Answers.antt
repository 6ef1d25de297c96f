-- `charge::charge_staged` meets its contract: the bytes and the token are those of the rows that are stood for. Assumes nothing.
use Rattle.kept_commits.proofs.KeepLaws.{keeps_charged}
use borrow.Author.Rules.{rules}
use Rattle.kept_commits.proofs.charge.charge_staged.Goals as goal

pub returns : goal.returns
returns c = search (keeps_charged, rules)

-- `revoke::revoke_at` meets its contract: the lists of the numbers, and the rows that go. Assumes nothing.
use Rattle.tokens.proofs.RevokeLaws.{revoke_told}
use borrow.Author.Rules.{rules}
use Rattle.tokens.proofs.revoke.revoke_at.Goals as goal

pub returns : goal.returns
returns c t n i v e l h = search (revoke_told, rules)

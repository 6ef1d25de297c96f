-- `revoke::revoke_at` meets its contract: the lists of the numbers, and the rows that go. Assumes nothing.
use borrow.Author.Rules.{rules}
use Rattle.kept_tokens.proofs.CallLaws.{revoke_kept}
use Rattle.kept_tokens.proofs.revoke.revoke_at.Goals as goal

pub returns : goal.returns
returns c j t n i v e l q = search (revoke_kept, rules)

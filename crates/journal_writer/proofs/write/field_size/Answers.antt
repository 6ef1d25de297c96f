use Rattle.std.proofs.Common.{⊎_elim}
use Rattle.journal_writer.proofs.SizeLaws.{arms}
use Rattle.journal_writer.proofs.write.field_size.Goals as goal

pub returns-in-Account-clause-value : goal.returns-in-Account-clause-value
returns-in-Account-clause-value c = ⊎_elim (λ e. search arms) (λ e. search arms) c.in-Account.is

pub returns-else-text_most-text-clause-value : goal.returns-else-text_most-text-clause-value
returns-else-text_most-text-clause-value c = search arms

pub returns-in-Cap-clause-value : goal.returns-in-Cap-clause-value
returns-in-Cap-clause-value c = search arms

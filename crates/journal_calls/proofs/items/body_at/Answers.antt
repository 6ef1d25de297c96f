-- `items::body_at` meets its contract: the bytes after the length, as far as there are any. Assumes nothing.
use Rattle.journal_calls.proofs.ItemAnswers.{none_past, none_left, all_left, none_before, no_body}
use Rattle.journal_calls.proofs.items.body_at.Goals as goal

pub returns-then-n-p : goal.returns-then-n-p
returns-then-n-p c = search none_past

pub returns-then-n-p-lt2 : goal.returns-then-n-p-lt2
returns-then-n-p-lt2 c = search none_left

pub returns-then-n-after : goal.returns-then-n-after
returns-then-n-after c = search all_left

pub returns-then-after-p : goal.returns-then-after-p
returns-then-after-p c = search none_before

pub returns-then-after-p-lt2 : goal.returns-then-after-p-lt2
returns-then-after-p-lt2 c = search no_body

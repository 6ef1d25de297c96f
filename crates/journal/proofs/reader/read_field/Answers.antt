use Rattle.journal.proofs.reader.read_field.Goals as goal

pub returns-in-Account : goal.returns-in-Account
returns-in-Account c = rw c.in-Account.is (c.read_account.ensures c.args.v)

pub returns-in-Hash : goal.returns-in-Hash
returns-in-Hash c = rw c.in-Hash.is (c.read_hash.ensures c.args.v)

pub returns-in-Mode : goal.returns-in-Mode
returns-in-Mode c = rw c.in-Mode.is (c.read_mode.ensures c.args.v)

pub returns-in-Cap : goal.returns-in-Cap
returns-in-Cap c = rw c.in-Cap.is (c.read_cap.ensures c.args.v)

pub returns-in-Text : goal.returns-in-Text
returns-in-Text c = rw c.in-Text.is c.read_text.ensures

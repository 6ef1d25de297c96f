-- `text_bytes_in` meets its contract: a text has at most 512 bytes. Assumes nothing.
use Rattle.kept.proofs.DecodeLaws.{text_most_lem, text_whole}
use Rattle.kept.proofs.decode.text_bytes_in.Goals as goal

pub returns-then-len-gt512 : goal.returns-then-len-gt512
returns-then-len-gt512 c = search text_most_lem

pub returns : goal.returns
returns c = search text_whole

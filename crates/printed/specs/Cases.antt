-- Document 01, "Journal": its whole case, and short ones beside it, worked out from the definitions by computation. Assumes nothing.
use Rattle.std.specs.Prelude.{◌≡◌, refl, List, [], ◌∷◌, ◌++◌, ℕ}
use Prim.Native.String.{String}
use Rattle.lists.specs.Bytes.{bytes}
use Rattle.lists.specs.Lists.{first_row, no_clash}
use Rattle.amount.specs.Digits.{decimal_within}
use Rattle.rules.specs.Tables.{cleared}
use Rattle.rules.specs.Sound.{sound_volume, same_name, sound_entry, same_entry, sound_token, sound_relay, sound_session, sound_volumes, sound_entries, sound_tokens, sound_relays, sound_tables, sound}
use Rattle.rules.specs.VolumeCalls.{drop_entries}
use Rattle.rules.specs.Relays.{lightened}
use Rattle.rules.specs.Advance.{relays_leave, settled, settle, is_due, is_one_of, collect, at_epoch, advanced, advance_rule}
use Rattle.rules.specs.Calls.{ask_rule, rule, step, answers}
use Rattle.journal.specs.Numbers.{number_of}
use Rattle.journal.specs.Fields.{part, decode_number, decode_text, decode, decode_all}
use Rattle.journal.specs.Records.{kind_among, parse, read_record}
use Rattle.journal.specs.Journal.{records_in, contents}
use Rattle.printed.specs.Transcript.{newline, numeral, record_line, record_lines, last_line, printed, transcript}

-- a line with its newline
abbrev line : String → List ℕ
line s = bytes s ++ (newline ∷ [])

-- "Whole case: bytes 01 00 09 01 00 00 00 00 00 00 0E 10 print"
pub whole_case : transcript (0x01 ∷ 0x00 ∷ 0x09 ∷ 0x01 ∷ 0x00 ∷ 0x00 ∷ 0x00 ∷ 0x00 ∷ 0x00 ∷ 0x00 ∷ 0x0e ∷ 0x10 ∷ [])
    ≡ line "desk 1" ++ line "1 0 3600" ++ line "end 1"
unfolding transcript printed record_lines record_line last_line numeral decimal_within contents records_in read_record parse kind_among decode_all decode decode_text decode_number part number_of answers step rule ask_rule sound sound_tables sound_relays sound_tokens sound_entries sound_volumes sound_session sound_relay sound_token sound_entry sound_volume same_name same_entry first_row no_clash cleared drop_entries lightened relays_leave settled settle is_due is_one_of collect at_epoch advanced advance_rule
whole_case = refl

-- no version byte
pub empty_case : transcript [] ≡ line "desk 1" ++ line "stop 0 28"
unfolding transcript printed record_lines last_line numeral decimal_within contents answers
empty_case = refl

-- a record that is cut
pub cut_case : transcript (0x01 ∷ 0x00 ∷ 0x09 ∷ 0x01 ∷ []) ≡ line "desk 1" ++ line "stop 0 27"
unfolding transcript printed record_lines last_line numeral decimal_within contents records_in decode decode_text decode_number part number_of answers
cut_case = refl

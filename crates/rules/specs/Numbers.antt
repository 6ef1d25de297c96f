-- Document 01, "Refusal numbers": the numbers that the calls give, each under the name that the table gives it. Those of typed amounts and of
-- the journal stand with their readers. Assumes nothing.
use Rattle.std.specs.Prelude.{ℕ, Result, Ok, Err}
use Rattle.rules.specs.declared.refusals.Refusal.{Refusal}
use Rattle.rules.specs.declared.refusals.Refusal.TheVariants as refusal

-- 1: "a field breaks a rule above, from > until, slot > 3"
abbrev pub BAD : ℕ
BAD = 1

-- 2: "number not in the table"
abbrev pub NO_VOLUME : ℕ
NO_VOLUME = 2

-- 3: "account isn't the volume's owner"
abbrev pub NOT_OWNER : ℕ
NOT_OWNER = 3

-- 4: "number not in the table"
abbrev pub NO_TOKEN : ℕ
NO_TOKEN = 4

-- 5: "clock outside the token's window"
abbrev pub WINDOW : ℕ
WINDOW = 5

-- 6: "open without write, look without read"
abbrev pub MODE : ℕ
MODE = 6

-- 7: "path not covered"
abbrev pub PREFIX : ℕ
PREFIX = 7

-- 8: "status doesn't allow the call"
abbrev pub STATE : ℕ
STATE = 8

-- 9: "volume's version isn't the one at opening"
abbrev pub CONFLICT : ℕ
CONFLICT = 9

-- 10: "used + staged sizes would pass the cap, or 2^60, of the token or an ancestor"
abbrev pub QUOTA : ℕ
QUOTA = 10

-- 11: "volume's raw bytes would pass its cap"
abbrev pub SIZE : ℕ
SIZE = 11

-- 12: "create, grant, attenuate, register: no free row; stage: 9th path; commit: 65th entry; writers: output too short"
abbrev pub ROOM : ℕ
ROOM = 12

-- 13: "balance below one epoch's rent of the new content"
abbrev pub RENT : ℕ
RENT = 13

-- 14: "some staged put finds too few eligible relays"
abbrev pub NO_PLACE : ℕ
NO_PLACE = 14

-- 15: "path not in the volume"
abbrev pub NO_ENTRY : ℕ
NO_ENTRY = 15

-- 16: "below the clock, above 2^40, or two or more epoch ends e with old < e ≤ new"
abbrev pub CLOCK : ℕ
CLOCK = 16

-- 17: "child exceeds parent"
abbrev pub WIDENS : ℕ
WIDENS = 17

-- 18: "9th token in a chain"
abbrev pub DEEP : ℕ
DEEP = 18

-- 19: "open: slot busy; else: slot idle"
abbrev pub SESSION : ℕ
SESSION = 19

-- 20: "balance above 10^15, or all deposits ever above 10^18"
abbrev pub TOO_MUCH : ℕ
TOO_MUCH = 20

-- 21: "the number or version has reached its end"
abbrev pub SPENT : ℕ
SPENT = 21

-- 25: "that owner has a volume of that name in the table"
abbrev pub NAME_TAKEN : ℕ
NAME_TAKEN = 25

-- 26: "unknown, or health 0"
abbrev pub NO_RELAY : ℕ
NO_RELAY = 26

-- the number of each
abbrev pub refusal_number : Refusal → ℕ
refusal_number refusal.Bad = BAD
refusal_number refusal.NoVolume = NO_VOLUME
refusal_number refusal.NotOwner = NOT_OWNER
refusal_number refusal.NoToken = NO_TOKEN
refusal_number refusal.Window = WINDOW
refusal_number refusal.Mode = MODE
refusal_number refusal.Prefix = PREFIX
refusal_number refusal.State = STATE
refusal_number refusal.Conflict = CONFLICT
refusal_number refusal.Quota = QUOTA
refusal_number refusal.Size = SIZE
refusal_number refusal.Room = ROOM
refusal_number refusal.Rent = RENT
refusal_number refusal.NoPlace = NO_PLACE
refusal_number refusal.NoEntry = NO_ENTRY
refusal_number refusal.Clock = CLOCK
refusal_number refusal.Widens = WIDENS
refusal_number refusal.Deep = DEEP
refusal_number refusal.Session = SESSION
refusal_number refusal.TooMuch = TOO_MUCH
refusal_number refusal.Spent = SPENT
refusal_number refusal.NameTaken = NAME_TAKEN
refusal_number refusal.NoRelay = NO_RELAY

-- "Answer 0 is success .. A refusal gives its number": the number of what was done, or of why it was not
abbrev pub answer_number : {A : Type 0} → Result A Refusal → ℕ
answer_number (Ok x) = 0
answer_number (Err why) = refusal_number why

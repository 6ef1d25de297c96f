-- Document 01, "Checked by hand (* = one table, one proof from the definitions)": its starred cases. The others are run by the programs, or stand
-- in Cases.antt and Histories.antt. Assumes nothing.
use Rattle.std.specs.Prelude.{◌≡◌, refl, List, [], ◌∷◌, ◌++◌, map, ℕ, Result, Ok, Err}
use Prim.Native.String.{String}
use Rattle.lists.specs.Lists.{total, bit}
use Rattle.lists.specs.Bytes.{bytes, same_bytes}
use Rattle.amount.specs.declared.Cap.{Cap}
use Rattle.amount.specs.declared.Cap.TheVariants.{Unlimited, Bytes}
use Rattle.amount.specs.declared.error.AmountError.{AmountError}
use Rattle.amount.specs.Digits.{leading, following, number_after}
use Rattle.amount.specs.Amount.{read_number, amount_of, parse, after_whole, unit_after, unit_named, counted}
use Rattle.rules.specs.declared.RelayNo.{RelayNo}
use Rattle.rules.specs.Relays.{health, is_eligible, in_order, ranked, taken}
use Rattle.rules.specs.Rent.{effective, rent_of}
use Rattle.rules.specs.Calls.{Call, grant, attenuate, ask}
use Rattle.histories.specs.Cases.{relay, six}
use Rattle.histories.specs.Histories.{history, begin, owner, volume, token, scope, put, a, b}

-- a case: the paper's words, what the definitions give, and what the paper states
pub record Case : Type 0 where
  pub words : String
  pub computed : List ℕ
  pub stated : List ℕ

-- a typed text: the answer's number, then the bytes of a count that is read
abbrev read_bytes : Result Cap AmountError → List ℕ
read_bytes (Ok Unlimited) = []
read_bytes (Ok (Bytes n)) = n ∷ []
read_bytes (Err e) = []

abbrev amount : String → List ℕ
amount text = read_number (amount_of (bytes text)) ∷ read_bytes (amount_of (bytes text))

abbrev relay_numbers : List RelayNo → List ℕ
relay_numbers ns = map (λ n. n.0) ns

-- the number and the value of the last call's answer
abbrev last_answer : List (ℕ × ℕ) → List ℕ
last_answer [] = []
last_answer (p ∷ []) = p.0 ∷ p.1 ∷ []
last_answer (p ∷ q ∷ ps) = last_answer (q ∷ ps)

-- "Cap 1,000 with children of 600 each": 600 by one, then so many by the other
abbrev family : ℕ → List Call
family size =
    begin
    ++ (ask (grant owner (volume 1) (scope [] (Bytes 1000))) ∷ ask (attenuate (token 1) (scope [] (Bytes 600)))
    ∷ ask (attenuate (token 1) (scope [] (Bytes 600)))
    ∷ [])
    ++ put 0 2 a 600
    ++ put 1 3 b size

abbrev pub cases : List Case
cases =
    record { words = "0,5 GiB: 536,870,912"; computed = amount "0,5 GiB"; stated = 0 ∷ 536_870_912 ∷ [] }
    ∷ record { words = "0.5 GiB: 536,870,912"; computed = amount "0.5 GiB"; stated = 0 ∷ 536_870_912 ∷ [] }
    ∷ record { words = "0,5: 22"; computed = amount "0,5"; stated = 22 ∷ [] }
    ∷ record { words = "0,1 KiB: 23"; computed = amount "0,1 KiB"; stated = 23 ∷ [] }
    ∷ record { words = "1,000 KiB: 1,024"; computed = amount "1,000 KiB"; stated = 0 ∷ 1_024 ∷ [] }
    ∷ record { words = "64,5 GiB: 24"; computed = amount "64,5 GiB"; stated = 24 ∷ [] }
    ∷ record { words = "4+2: raw 10 gives 15"; computed = effective 4 2 (10 ∷ []) ∷ []; stated = 15 ∷ [] }
    ∷ record {
      words = "raw 1 gives 2, rent 1 at rate 100";
      computed = effective 4 2 (1 ∷ []) ∷ rent_of 100 (effective 4 2 (1 ∷ [])) ∷ [];
      stated = 2 ∷ 1 ∷ [];
    }
    ∷ record {
      words = "Heartbeat at 1000: health 50 at 1050, eligible";
      computed = health 1050 (relay 1 3) ∷ bit (is_eligible 1050 10 (relay 1 3)) ∷ [];
      stated = 50 ∷ 1 ∷ [];
    }
    ∷ record {
      words = "49 at 1051, not";
      computed = health 1051 (relay 1 3) ∷ bit (is_eligible 1051 10 (relay 1 3)) ∷ [];
      stated = 49 ∷ 0 ∷ [];
    }
    ∷ record {
      words = "Held 3,0,0,2,1,0 by relays 1..6, three wanted: 2, 3, 6";
      computed = relay_numbers (taken 1050 10 3 six);
      stated = 2 ∷ 3 ∷ 6 ∷ [];
    }
    ∷ record { words = "600 by one, then 401 by the other is 10"; computed = last_answer (history (family 401)); stated = 10 ∷ 0 ∷ [] }
    ∷ record { words = "400 passes"; computed = last_answer (history (family 400)); stated = 0 ∷ 2 ∷ [] }
    ∷ []

abbrev pub computed_of : Case → List ℕ
computed_of c = c.computed

abbrev pub stated_of : Case → List ℕ
stated_of c = c.stated

pub starred : map computed_of cases ≡ map stated_of cases
unfolding amount_of parse after_whole unit_after unit_named counted leading following number_after effective total relay six taken ranked in_order history
starred = refl

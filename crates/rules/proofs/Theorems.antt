-- What is proved of the rules, over every list of calls: from a fresh desk at every rate, or from any desk where a statement says so. Each can
-- be read without its proof, which stands in Laws. Assumes nothing.
use Rattle.std.specs.Prelude.{◌≡◌, true, false, List, ℕ, ◌+◌, ◌≤◌, ◌<◌}
use Rattle.std.proofs.Math.Option.{some}
use Rattle.lists.specs.Lists.{miss, hit}
use Rattle.rules.specs.declared.VolumeNo.{VolumeNo}
use Rattle.rules.specs.declared.TokenNo.{TokenNo}
use Rattle.rules.specs.declared.RelayNo.{RelayNo}
use Rattle.rules.specs.declared.Account.{Account}
use Rattle.rules.specs.declared.Token.{Token}
use Rattle.rules.specs.declared.Desk.{Desk}
use Rattle.rules.specs.Fresh.{fresh_desk}
use Rattle.rules.specs.Tables.{volume_of, token_of, relay_of}
use Rattle.rules.specs.Outcome.{is_accepted, desk_refused}
use Rattle.rules.specs.Sound.{sound}
use Rattle.rules.specs.Calls.{Ask, delete, Call, ask, rule, step, run}
use Rattle.rules.specs.Serial.{Demand3}
use Rattle.rules.specs.Numbering.{NumberKind, given_by, last_of, NextNumber, list_gives}
use Rattle.rules.specs.Used.{list_adds}
use Rattle.rules.specs.Coins.{live_balances, coins_in, coins_paid, coins_back, summed}
use Rattle.rules.proofs.Laws.Demand3
use Rattle.rules.proofs.Laws.Reached
use Rattle.rules.proofs.Laws.CoinLaws
use Rattle.rules.proofs.Laws.RefusalLaws
use Rattle.rules.proofs.Laws.GoneLaws
use Rattle.rules.proofs.Laws.GivenLaws
use Rattle.rules.proofs.Laws.UsedLaws

-- "A refusal gives its number, value 0, and the desk is as before, session included.": of every call that is refused, on every desk
pub refused_unchanged : (c : Call) (d : Desk) → is_accepted (step c d).answer ≡ false → step c d ≡ desk_refused d (step c d).answer.number
refused_unchanged = RefusalLaws.refused_kept

-- Demand 3. For every list of calls, the second list, made from the calls and their answers alone, gives every kept call the same
-- answer and ends with the same tables: the claim is `Demand3` in Serial.antt
pub one_after_another : Demand3
one_after_another = Demand3.demand3

module _ (rate : ℕ) (cs : List Call) where
  -- every desk that is reached is sound,
  pub reached_is_sound : sound (run cs (fresh_desk rate)) ≡ true
  reached_is_sound = Reached.reached_sound rate cs

  -- so no call on it is answered 1 for the desk itself
  pub reached_is_answered : (c : Call) → step c (run cs (fresh_desk rate)) ≡ rule c (run cs (fresh_desk rate))
  reached_is_answered = Reached.reached_answers rate cs

  -- "Over any history, deposits equal live balances plus rents paid plus balances sent back, each summed from the calls."
  pub coins_add_up : summed coins_in cs (fresh_desk rate)
      ≡ live_balances (run cs (fresh_desk rate)).tables + summed coins_paid cs (fresh_desk rate) + summed coins_back cs (fresh_desk rate)
  coins_add_up = CoinLaws.coins_balance rate cs

  -- the desk's own sum of deposits is theirs
  pub deposits_add_up : (run cs (fresh_desk rate)).tables.deposits ≡ summed coins_in cs (fresh_desk rate)
  deposits_add_up = CoinLaws.deposits_summed rate cs

  -- "Each kind counts from 1": the last number of each kind is how many of it were given
  pub numbers_counted : (k : NumberKind) → last_of k (run cs (fresh_desk rate)).tables ≡ list_gives k cs (fresh_desk rate)
  numbers_counted = GivenLaws.numbers_summed rate cs

  -- "A commit adds its staged sizes to the token and every ancestor; nothing is given back later.": a token's used bytes are the sum of these
  pub used_adds_up : (n : TokenNo) (i : ℕ) (k : Token) → token_of n (run cs (fresh_desk rate)).tables ≡ hit i k → k.used ≡ list_adds n cs (fresh_desk rate)
  used_adds_up = UsedLaws.used_summed rate cs

-- "Each kind counts from 1, is never given twice": an accepted call that gives a number gives the one after the last, which is then the last
-- and in its table,
pub number_next : (k : NumberKind) (a : Ask) → given_by a ≡ some k → (d : Desk) → is_accepted (step (ask a) d).answer ≡ true
    → NextNumber k d.tables (step (ask a) d).answer.value (step (ask a) d).desk.tables
number_next = GoneLaws.number_next

-- so of two calls that give a number of one kind the later one, whatever calls stand between them, gives the larger
pub number_once : (k : NumberKind) (a b : Ask) → given_by a ≡ some k → given_by b ≡ some k → (d : Desk) (cs : List Call) → is_accepted (step (ask a) d).answer ≡ true
    → is_accepted (step (ask b) (run cs (step (ask a) d).desk)).answer ≡ true
    → (step (ask a) d).answer.value < (step (ask b) (run cs (step (ask a) d).desk)).answer.value
number_once = GoneLaws.number_once

-- and a number that was given and is not in its table is not in it after any calls
pub volume_gone : (cs : List Call) (d : Desk) (n : VolumeNo) → n.0 ≤ d.tables.last_volume → volume_of n d.tables ≡ miss
    → volume_of n (run cs d).tables ≡ miss
volume_gone = GoneLaws.volume_gone

pub token_gone_lem : (cs : List Call) (d : Desk) (n : TokenNo) → n.0 ≤ d.tables.last_token → token_of n d.tables ≡ miss
    → token_of n (run cs d).tables ≡ miss
token_gone_lem = GoneLaws.token_gone_lem

pub relay_gone : (cs : List Call) (d : Desk) (n : RelayNo) → n.0 ≤ d.tables.last_relay → relay_of n d.tables ≡ miss
    → relay_of n (run cs d).tables ≡ miss
relay_gone = GoneLaws.relay_gone

-- "Delete .. drops the volume's tokens for good": a token of the volume before an accepted delete is not in the table after it, nor after any
-- calls that follow
pub delete_drops_tokens : (a : Account) (n : VolumeNo) (d : Desk) → is_accepted (step (ask (delete a n)) d).answer ≡ true
    → (m : TokenNo) (j : ℕ) (k : Token) → token_of m d.tables ≡ hit j k → k.volume ≡ n
    → (cs : List Call) → token_of m (run cs (step (ask (delete a n)) d).desk).tables ≡ miss
delete_drops_tokens = GoneLaws.deleted_gone

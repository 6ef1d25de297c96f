-- A desk that passes its test and, after one accepted call, does not: token 2 of volume 2 has token 1 of volume 1 for its parent, and volume 1
-- is deleted. No call makes such a token (Family.antt), so no desk reached from a fresh one is like it. Assumes nothing.
use Rattle.std.specs.Prelude.{◌≡◌, refl, true, false, [], ◌∷◌, replicate}
use Rattle.amount.specs.declared.Cap.TheVariants.{Unlimited}
use Rattle.lists.specs.Lists.{first_row, no_clash}
use Rattle.text.specs.Text.{is_name, is_prefix}
use Rattle.rules.specs.declared.Volume.{Volume}
use Rattle.rules.specs.declared.Token.{Token}
use Rattle.rules.specs.declared.Desk.{Desk}
use Rattle.rules.specs.Limits.{slot_rows, entry_rows, relay_rows}
use Rattle.rules.specs.Fresh.{fresh_account, fresh_scope, fresh_volume, fresh_entry, fresh_token, fresh_relay, fresh_session}
use Rattle.rules.specs.Tables.{owned_by, volume_of, cleared}
use Rattle.rules.specs.Scope.{chain}
use Rattle.rules.specs.Sound.{sound, sound_tables, sound_volumes, sound_entries, sound_tokens, sound_relays, sound_volume, sound_entry, sound_token, sound_relay, sound_session, same_name, same_entry, volume_there, parent_there}
use Rattle.rules.specs.VolumeCalls.{new_volume, delete_rule, delete_in}
use Rattle.rules.specs.Calls.{ask, delete, ask_rule, rule, step}

-- two volumes of one owner, named "a" and "b"
abbrev first : Volume
first = new_volume 1 fresh_account (97 ∷ []) 2 1 Unlimited

abbrev second : Volume
second = new_volume 2 fresh_account (98 ∷ []) 2 1 Unlimited

-- a root of the first, and a child of it in the second
abbrev root : Token
root = record { no = record { 0 = 1 }; volume = record { 0 = 1 }; parent = record { 0 = 0 }; scope = fresh_scope; used = 0 }

abbrev child : Token
child = record { no = record { 0 = 2 }; volume = record { 0 = 2 }; parent = record { 0 = 1 }; scope = fresh_scope; used = 0 }

abbrev pub stray_desk : Desk
stray_desk = record {
  tables = record {
    clock = 0;
    rate = 1;
    volumes = first ∷ second ∷ replicate 6 fresh_volume;
    entries = replicate entry_rows fresh_entry;
    tokens = root ∷ child ∷ replicate 30 fresh_token;
    relays = replicate relay_rows fresh_relay;
    last_volume = 2;
    last_token = 2;
    last_relay = 0;
    deposits = 0;
  };
  sessions = replicate slot_rows fresh_session;
}

pub stray_before : sound stray_desk ≡ true
unfolding sound sound_tables sound_volumes sound_entries sound_tokens sound_relays sound_volume sound_entry sound_token sound_relay sound_session same_name same_entry no_clash first_row is_name is_prefix volume_there parent_there chain
stray_before = refl

pub stray_accepted : (step (ask (delete fresh_account (record { 0 = 1 }))) stray_desk).answer.number ≡ 0
unfolding step rule ask_rule delete_rule delete_in volume_of owned_by cleared sound sound_tables sound_volumes sound_entries sound_tokens sound_relays sound_volume sound_entry sound_token sound_relay sound_session same_name same_entry no_clash first_row is_name is_prefix volume_there parent_there chain
stray_accepted = refl

pub stray_after : sound (step (ask (delete fresh_account (record { 0 = 1 }))) stray_desk).desk ≡ false
unfolding step rule ask_rule delete_rule delete_in volume_of owned_by cleared sound sound_tables sound_volumes sound_entries sound_tokens sound_relays sound_volume sound_entry sound_token sound_relay sound_session same_name same_entry no_clash first_row is_name is_prefix volume_there parent_there chain
stray_after = refl

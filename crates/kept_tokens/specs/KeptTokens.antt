-- A table of kept tokens, and the tokens that it stands for. j is the bytes of the journal. Assumes nothing.
use Rattle.std.specs.Prelude.{Bool, ◌&&◌, List, map, ℕ, eqb}
use Rattle.lists.specs.Lists.{any_of}
use Rattle.amount.specs.declared.Cap.TheVariants.{Unlimited}
use Rattle.rules.specs.declared.Token.{Token}
use Rattle.rules.specs.declared.TokenNo.{TokenNo}
use Rattle.rules.specs.declared.VolumeNo.{VolumeNo}
use Rattle.rules.specs.declared.Mode.TheVariants.{Read}
use Rattle.rules.specs.Fresh.{no_volume, no_token}
use Rattle.rules.specs.Tables.{given, numbered, used_token}
use Rattle.kept.specs.declared.KeptToken.{KeptToken}
use Rattle.kept.specs.Kept.{token_in}

abbrev pub tokens_in : List ℕ → List KeptToken → List Token
tokens_in j rows = map (token_in j) rows

-- a token of a volume that has one of these numbers
abbrev pub token_gone : List ℕ → Token → Bool
token_gone gone k = used_token k && any_of (numbered k.volume.0) gone

-- what is read of a kept token without the journal
abbrev pub is_kept : TokenNo → KeptToken → Bool
is_kept n k = numbered n.0 k.no.0

abbrev pub free_kept : KeptToken → Bool
free_kept k = eqb k.no.0 0

-- it is volume n's, or one of these volumes'
abbrev pub is_kept_of : VolumeNo → KeptToken → Bool
is_kept_of n k = given k.no.0 && numbered n.0 k.volume.0

abbrev pub kept_gone : List ℕ → KeptToken → Bool
kept_gone gone k = given k.no.0 && any_of (numbered k.volume.0) gone

abbrev pub kept_number : KeptToken → ℕ
kept_number k = k.no.0

abbrev pub kept_parent : KeptToken → ℕ
kept_parent k = k.parent.0

-- what a read past the table's end gives: no code reads there
abbrev pub blank_kept : KeptToken
blank_kept =
    record { no = no_token; volume = no_volume; parent = no_token; at = 0; len = 0; mode = Read; cap = Unlimited; «from» = 0; until = 0; used = 0 }

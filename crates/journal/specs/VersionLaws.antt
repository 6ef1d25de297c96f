-- What holds of every version of a journal. Assumes nothing.
use Rattle.std.specs.Prelude.{◌≡◌, refl, ◌^◌, ◌<◌, ◌≤◌}
use Rattle.std.proofs.Common.{sym, ap, lit<, lit≤}
use Rattle.journal.specs.declared.Version.TheVariants.{V01, V02}
use Rattle.journal.specs.Records.{Version, text_width, text_most, kinds, all_kinds}

-- every version so far has all kinds
pub kinds_all : (v : Version) → kinds v ≡ all_kinds
kinds_all V01 = refl
kinds_all V02 = refl

-- in the arm of a version
pub most_in : (v w : Version) → v ≡ w → text_most w ≡ text_most v
most_in v w e = ap text_most (sym e)

pub width_in_lem : (v w : Version) → v ≡ w → text_width w ≡ text_width v
width_in_lem v w e = ap text_width (sym e)

-- a text's length has at most 2 bytes, and its bytes can count the longest text
pub width_most : (v : Version) → text_width v ≤ 2
width_most V01 = lit≤ tt
width_most V02 = lit≤ tt

pub text_most_lem : (v : Version) → text_most v ≤ 1024
text_most_lem V01 = lit≤ tt
text_most_lem V02 = lit≤ tt

pub text_counted : (v : Version) → text_most v < 256 ^ text_width v
text_counted V01 = lit< tt
text_counted V02 = lit< tt

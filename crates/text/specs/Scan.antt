-- How a path is read, from its last byte to its first: what is known of the parts of the bytes read so far. No rule stands here: PathLaws
-- shows that it comes to the rule of parts. Assumes nothing.
use Rattle.std.specs.Prelude.{Bool, true, false, ◌&&◌, cond, ℕ, eqb}
use Rattle.text.specs.Text.{slash, dot}
use Rattle.text.specs.declared.path.Kind.{Kind}
use Rattle.text.specs.declared.path.Kind.TheVariants.{Empty, Dot, DotDot, Other}
use Rattle.text.specs.declared.path.Scan.{Scan}

-- a part of this kind passes
abbrev pub is_other : Kind → Bool
is_other Empty = false
is_other Dot = false
is_other DotDot = false
is_other Other = true

-- the kind of a part with one more byte at its front, which is a dot or not
abbrev pub longer : Bool → Kind → Kind
longer false k = Other
longer true Empty = Dot
longer true Dot = DotDot
longer true DotDot = Other
longer true Other = Other

-- all parts pass
abbrev pub passes : Scan → Bool
passes k = is_other k.first && k.rest

-- what is known with one more byte at the front
abbrev pub scan_byte : ℕ → Scan → Scan
scan_byte b k =
    cond (eqb b slash)
    (record { first = Empty; rest = passes k })
    (record { first = longer (eqb b dot) k.first; rest = k.rest })

-- Only proofs use this file.
-- Determinizers: what is known of one has at most one proof.
use Rattle.std.specs.Prelude.{ℕ, List}
use Rattle.std.proofs.Props.{props}
use Rattle.rc_pattern.specs.declared.hir.Look.{Look}
use Rattle.rc_pattern.specs.declared.hir.Look.TheVariants.{Start, End, StartLF, EndLF, StartCRLF, EndCRLF, WordAscii, WordAsciiNegate, WordUnicode, WordUnicodeNegate, WordStartAscii, WordEndAscii, WordStartUnicode, WordEndUnicode, WordStartHalfAscii, WordEndHalfAscii, WordStartHalfUnicode, WordEndHalfUnicode}
use Rattle.rc_program.specs.Program.{Place}
use Rattle.rc_determinize.specs.declared.sides.Facts.{Facts}
use Rattle.rc_determinize.specs.declared.sides.Asked.{Asked}
use Rattle.rc_determinize.specs.Sides.{asks, Covers}
use Rattle.rc_determinize.specs.Classes.{TellsAlike}

asks-prop : (l : Look) (s : Facts) → IsProp (asks l s)
asks-prop Start s = hlevel props
asks-prop End s = hlevel props
asks-prop StartLF s = hlevel props
asks-prop EndLF s = hlevel props
asks-prop StartCRLF s = hlevel props
asks-prop EndCRLF s = hlevel props
asks-prop WordAscii s = hlevel props
asks-prop WordAsciiNegate s = hlevel props
asks-prop WordUnicode s = hlevel props
asks-prop WordUnicodeNegate s = hlevel props
asks-prop WordStartAscii s = hlevel props
asks-prop WordEndAscii s = hlevel props
asks-prop WordStartUnicode s = hlevel props
asks-prop WordEndUnicode s = hlevel props
asks-prop WordStartHalfAscii s = hlevel props
asks-prop WordEndHalfAscii s = hlevel props
asks-prop WordStartHalfUnicode s = hlevel props
asks-prop WordEndHalfUnicode s = hlevel props

pub Covers-prop : (needs : Asked) (places : List Place) → IsProp (Covers needs places)
Covers-prop needs places = hlevel (props, asks-prop)

pub TellsAlike-prop : (places : List Place) (needs : Asked) (terminator : ℕ) (classes : List ℕ) → IsProp (TellsAlike places needs terminator classes)
TellsAlike-prop places needs terminator classes = hlevel props

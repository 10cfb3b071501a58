-- POSIX classes: their names, and the ASCII characters that they have.
use Rattle.std.specs.Prelude.{List, [], ◌∷◌, Option, find, codes}
use Rattle.unicode.specs.Rows.{in_ranges}
use Rattle.rc_pattern.specs.Re.{Range}
use Rattle.rc_tokens.specs.Text.{Characters, same_text}
use Rattle.rc_class_sets.specs.Sets.{CodeSet}
use Rattle.rc_class_names.specs.declared.posix.Posix.{Posix}
use Rattle.rc_class_names.specs.declared.posix.Posix.TheVariants.{Alnum, Alpha, Ascii, Blank, Cntrl, Digit, Graph, Lower, Print, Punct, Space, Upper, Word, Xdigit}

abbrev pub posix_name : Posix → Characters
posix_name Alnum = codes "alnum"
posix_name Alpha = codes "alpha"
posix_name Ascii = codes "ascii"
posix_name Blank = codes "blank"
posix_name Cntrl = codes "cntrl"
posix_name Digit = codes "digit"
posix_name Graph = codes "graph"
posix_name Lower = codes "lower"
posix_name Print = codes "print"
posix_name Punct = codes "punct"
posix_name Space = codes "space"
posix_name Upper = codes "upper"
posix_name Word = codes "word"
posix_name Xdigit = codes "xdigit"

abbrev pub posix_classes : List Posix
posix_classes =
    Alnum ∷ Alpha ∷ Ascii ∷ Blank ∷ Cntrl ∷ Digit ∷ Graph ∷ Lower ∷ Print ∷ Punct ∷ Space ∷ Upper ∷ Word ∷ Xdigit ∷ []

-- the class with the name
abbrev pub posix_named : Characters → Option Posix
posix_named name = find (λ class. same_text name (posix_name class)) posix_classes

abbrev pub posix_ranges : Posix → List Range
posix_ranges Alnum = (48, 57) ∷ (65, 90) ∷ (97, 122) ∷ []
posix_ranges Alpha = (65, 90) ∷ (97, 122) ∷ []
posix_ranges Ascii = (0, 127) ∷ []
posix_ranges Blank = (9, 9) ∷ (32, 32) ∷ []
posix_ranges Cntrl = (0, 31) ∷ (127, 127) ∷ []
posix_ranges Digit = (48, 57) ∷ []
posix_ranges Graph = (33, 126) ∷ []
posix_ranges Lower = (97, 122) ∷ []
posix_ranges Print = (32, 126) ∷ []
posix_ranges Punct = (33, 47) ∷ (58, 64) ∷ (91, 96) ∷ (123, 126) ∷ []
posix_ranges Space = (9, 13) ∷ (32, 32) ∷ []
posix_ranges Upper = (65, 90) ∷ []
posix_ranges Word = (48, 57) ∷ (65, 90) ∷ (95, 95) ∷ (97, 122) ∷ []
posix_ranges Xdigit = (48, 57) ∷ (65, 70) ∷ (97, 102) ∷ []

abbrev pub posix_set : Posix → CodeSet
posix_set class = in_ranges (posix_ranges class)

-- What holds of every class.
use Rattle.std.specs.Prelude.{◌≡◌, Bool, List, Some}
use Rattle.rc_pattern.specs.Re.{Range}
use Rattle.rc_pattern.specs.WellFormed.{AreAscending}
use Rattle.rc_tokens.specs.Classes.{class_of, list_ranges, AreCodes}
use Rattle.rc_tokens.specs.declared.tokens.Member.{Member}

-- the ends of a class's ranges are codes, and its ranges ascend
abbrev pub ClassLaw : Type 0
ClassLaw = (u fold negated : Bool) (rs : List Range) → AreCodes u rs → AreCodes u (class_of u fold negated rs) × AreAscending 0 (class_of u fold negated rs)

-- so it is with the ends of what a list has
abbrev pub ListLaw : Type 0
ListLaw = (u bracket : Bool) (ms : List Member) (rs : List Range) → list_ranges u bracket ms ≡ Some rs → AreCodes u rs

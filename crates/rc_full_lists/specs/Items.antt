-- The sets of codes that items of a list have.
use Rattle.std.specs.Prelude.{◌≡◌, Bool, true, false, [], ◌∷◌}
use Rattle.unicode.specs.Rows.{in_ranges}
use Rattle.unicode.specs.Sets.{in_set}
use Rattle.rc_tokens.specs.ClassView.{pair}
use Rattle.rc_tokens.specs.Classes.{AreCodes}
use Rattle.rc_class_sets.specs.Sets.{CodeSet}
use Rattle.rc_class_sets.specs.Folding as folding
use Rattle.rc_class_sets.specs.Perl.{perl_set}
use Rattle.rc_class_names.specs.Posix.{posix_set}
use Rattle.rc_full_lists.specs.declared.items.Item.{Item}
use Rattle.rc_full_lists.specs.declared.items.Item.TheVariants.{Codes, Perl, Property, Posix, NotPosix}

-- the item is one of characters, or if `unicode` is false of bytes
abbrev pub HasCodes : Bool → Item → Type 0
HasCodes unicode (Codes r) = AreCodes unicode (pair r ∷ [])
HasCodes unicode (Property p) = unicode ≡ true
HasCodes unicode (Perl p) = Unit {0}
HasCodes unicode (Posix class) = Unit {0}
HasCodes unicode (NotPosix class) = Unit {0}

abbrev pub is_negated : Item → Bool
is_negated (Codes r) = false
is_negated (Perl p) = p.negated
is_negated (Property p) = p.negated
is_negated (Posix class) = false
is_negated (NotPosix class) = true

-- the set that is named, before the item is folded or negated
abbrev pub named_set : Bool → Item → CodeSet
named_set unicode (Codes r) = in_ranges (pair r ∷ [])
named_set unicode (Perl p) = perl_set unicode p.set
named_set unicode (Property p) = in_set p.set
named_set unicode (Posix class) = posix_set class
named_set unicode (NotPosix class) = posix_set class

-- folded first, and then negated
abbrev pub item_set : Bool → Bool → Item → CodeSet
item_set unicode fold i = folding.item unicode fold (is_negated i) (named_set unicode i)

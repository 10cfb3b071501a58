-- Rows of the grammar.
use Rattle.std.proofs.Common.{◌≡◌, true, false, [], ◌∷◌, Some, None, refl, codes}
use Rattle.rc_pattern.specs.Re.{char_in, look, repeat, capture, alt, none}
use Rattle.rc_pattern.specs.declared.hir.Look.TheVariants.{Start, StartLF}
use Rattle.rc_tokens.specs.Marks.{any, caret, capturing, brackets, plain}
use Rattle.rc_parser.specs.Settings.{Settings, default_settings, first_flags}
use Rattle.rc_parser.specs.Grammar.{ends, bars, sets, piece, group, Level, begin, reads, Reads}

abbrev fresh : Settings → Level
fresh s = begin (first_flags s) 0 []

-- `^*`
star : Reads default_settings (codes "^*") (repeat 0 None true (look Start))
star = record {
  body = piece caret (record { amount = any; lazy = false } ∷ []) ends;
  is_written = (codes "*", refl, refl, ([], refl, refl, refl));
  end = record (fresh default_settings) { items = record { res = repeat 0 None true (look Start) ∷ []; deepest = 1 } };
  is_read = refl;
  depth = 1;
  is_whole = refl;
}

-- `((?m)^|^)^`: the flag holds in the second branch of its group, and not behind it
flags_run : reads default_settings (fresh default_settings) (group capturing (sets (codes "m") (piece caret [] (bars (piece caret [] ends)))) [] (piece caret [] ends))
    ≡ Some (record (fresh default_settings) {
      groups = 1;
      items = record { res = capture 1 None (alt (look StartLF) (alt (look StartLF) none)) ∷ look Start ∷ []; deepest = 3 };
    })
flags_run = refl

-- `[b-da]`
a_list : reads default_settings (fresh default_settings) (piece (brackets false false (plain 98 ∷ plain 45 ∷ plain 100 ∷ plain 97 ∷ [])) [] ends)
    ≡ Some (record (fresh default_settings) { items = record { res = char_in ((97, 100) ∷ []) ∷ []; deepest = 1 } })
a_list = refl

-- `^*` with `nest_limit` 0
too_deep : reads (record default_settings { nest_limit = 0 }) (fresh default_settings) (piece caret (record { amount = any; lazy = false } ∷ []) ends) ≡ None
too_deep = refl

-- Rows of the grammar.
use Rattle.std.proofs.Common.{◌≡◌, ℕ, ⊎_elim, Bool, true, false, [], ◌∷◌, Option, Some, None, refl, sym, ◌∙◌, codes, encode_utf8_all, true≢false}
use Rattle.std.proofs.lemmas.Option.{none-some}
use Rattle.unicode.proofs.PropsComputing.{ucd_props}
use Rattle.unicode.proofs.DerivedComputing.{ucd_derived}
use Rattle.unicode.proofs.CategoryComputing.{ucd_category}
use Rattle.rc_pattern.specs.Re.{Re, empty, look, repeat, capture}
use Rattle.rc_pattern.specs.Meaning.{literal_of, concat_of}
use Rattle.rc_pattern.specs.declared.hir.Look.TheVariants.{WordUnicode}
use Rattle.rc_tokens.specs.Text.{Characters}
use Rattle.rc_tokens.specs.Marks.{bounds}
use Rattle.rc_tokens.specs.Said.{Capturing, Named}
use Rattle.rc_tokens.specs.declared.tokens.Assertion.TheVariants.{Boundary}
use Rattle.rc_parser.specs.Settings.{Settings, default_settings}
use Rattle.rc_parser.specs.Pieces.{Subpattern, leaf}
use Rattle.rc_full_tokens.specs.Gaps.{none}
use Rattle.rc_full_tokens.specs.Flags.{no_change}
use Rattle.rc_full_lists.specs.Read.{passed}
use Rattle.rc_full_parser.specs.declared.marks.Piece.TheVariants as piece
use Rattle.rc_full_parser.specs.Marks.{Mark, closes, sets, opens, repeats, stands}
use Rattle.rc_full_parser.specs.Marked.{read_mark}
use Rattle.rc_full_parser.specs.Pieces.{plain, character, asserts}
use Rattle.rc_full_parser.specs.Grammar.{Place, mark_settings, Items, ends, Reads}
use Rattle.rc_full_parser.proofs.OneLemmas.{Front, Next, next_items, items_next, went}

-- ---- what is read

step : {s : Settings} {g : Bool} {p end : Place} {t u : Characters} (b : Characters) (k : Mark) → Front s p t k b → Next s g p k b end u → Items s g p t end u
step b k h n = next_items _ _ _ _ _ b _ k h n

abbrev itself : ℕ → Re
itself c = literal_of (encode_utf8_all (c ∷ []))

abbrev one : ℕ → Subpattern
one c = leaf (itself c)

abbrev times : ℕ → Option ℕ → Re → Subpattern
times min max re = record { re = repeat min max true re; depth = 1 }

abbrev verbose_on : Mark
verbose_on = sets (record no_change { ignore_whitespace = Some true })

-- `a{ 2 , 3 }`
counted : Reads default_settings (codes "a{ 2 , 3 }") (repeat 2 (Some 3) true (itself 97))
unfolding lib.Utf8.encode ucd_props
counted = record {
  end = _;
  is_read =
      step (codes "{ 2 , 3 }") (stands (piece.Character 97)) refl (
        one 97,
        character 97 (itself 97) (plain 97 refl),
        step [] (repeats (bounds false 2 (Some 3))) refl (
          one 97,
          times 2 (Some 3) (itself 97),
          refl,
          refl,
          ends _ [] refl,
        ),
      );
  depth = 1;
  is_whole = refl;
}

-- `a{,3}`, where that is set
up_to : Reads (record default_settings { empty_min = true }) (codes "a{,3}") (repeat 0 (Some 3) true (itself 97))
unfolding lib.Utf8.encode ucd_props
up_to = record {
  end = _;
  is_read =
      step (codes "{,3}") (stands (piece.Character 97)) refl (
        one 97,
        character 97 (itself 97) (plain 97 refl),
        step [] (repeats (bounds false 0 (Some 3))) refl (
          one 97,
          times 0 (Some 3) (itself 97),
          refl,
          refl,
          ends _ [] refl,
        ),
      );
  depth = 1;
  is_whole = refl;
}

-- `\b{ 2}`
boundaries : Reads default_settings (codes "\\b{ 2}") (repeat 2 (Some 2) true (look WordUnicode))
unfolding lib.Utf8.encode ucd_props
boundaries = record {
  end = _;
  is_read =
      step (codes "{ 2}") (stands (piece.Asserts Boundary)) refl (
        leaf (look WordUnicode),
        asserts Boundary,
        step [] (repeats (bounds false 2 (Some 2))) refl (
          leaf (look WordUnicode),
          times 2 (Some 2) (look WordUnicode),
          refl,
          refl,
          ends _ [] refl,
        ),
      );
  depth = 1;
  is_whole = refl;
}

-- `(?x)a *`
spaced : Reads default_settings (codes "(?x)a *") (concat_of (empty ∷ repeat 0 None true (itself 97) ∷ []))
unfolding lib.Utf8.encode ucd_props
spaced = record {
  end = _;
  is_read =
      step (codes "a *") verbose_on refl (
      step (codes " *") (stands (piece.Character 97)) refl (
        one 97,
        character 97 (itself 97) (plain 97 refl),
        step [] (repeats (bounds false 0 None)) refl (
          one 97,
          times 0 None (itself 97),
          refl,
          refl,
          ends _ [] (none [] refl),
        ),
      ));
  depth = 2;
  is_whole = refl;
}

-- `(?x)a* ?`: the `?` doesn't follow at once
repeated_twice : Reads default_settings (codes "(?x)a* ?") (concat_of (empty ∷ repeat 0 (Some 1) true (repeat 0 None true (itself 97)) ∷ []))
unfolding lib.Utf8.encode ucd_props
repeated_twice = record {
  end = _;
  is_read =
      step (codes "a* ?") verbose_on refl (
      step (codes "* ?") (stands (piece.Character 97)) refl (
        one 97,
        character 97 (itself 97) (plain 97 refl),
        step (codes " ?") (repeats (bounds false 0 None)) refl (
          one 97,
          times 0 None (itself 97),
          refl,
          refl,
          step [] (repeats (bounds false 0 (Some 1))) refl (
            times 0 None (itself 97),
            record { re = repeat 0 (Some 1) true (repeat 0 None true (itself 97)); depth = 2 },
            refl,
            refl,
            ends _ [] (none [] refl),
          ),
        ),
      ));
  depth = 3;
  is_whole = refl;
}

-- `(?x)(a # )`, and behind the end of the line `)`: the comment hides the first `)`
hidden : Reads default_settings (codes "(?x)(a # )\n)") (concat_of (empty ∷ capture 1 None (itself 97) ∷ []))
unfolding lib.Utf8.encode ucd_props
hidden = record {
  end = _;
  is_read =
      step (codes "(a # )\n)") verbose_on refl (
      step (codes "a # )\n)") (opens Capturing None) refl (
        _,
        _,
        [],
        one 97,
        record { re = capture 1 None (itself 97); depth = 1 },
        refl,
        step (codes " # )\n)") (stands (piece.Character 97)) refl (
          one 97,
          character 97 (itself 97) (plain 97 refl),
          step [] closes refl (refl, refl, refl),
        ),
        refl,
        refl,
        ends _ [] (none [] refl),
      ));
  depth = 2;
  is_whole = refl;
}

-- `(?<été>a)`
named : Reads default_settings (40 ∷ 63 ∷ 60 ∷ 233 ∷ 116 ∷ 233 ∷ codes ">a)") (capture 1 (Some (encode_utf8_all (233 ∷ 116 ∷ 233 ∷ []))) (itself 97))
unfolding lib.Utf8.encode ucd_derived ucd_category
named = record {
  end = _;
  is_read =
      step (codes "a)") (opens (Named (encode_utf8_all (233 ∷ 116 ∷ 233 ∷ []))) None) refl (
        _,
        _,
        [],
        one 97,
        record { re = capture 1 (Some (encode_utf8_all (233 ∷ 116 ∷ 233 ∷ []))) (itself 97); depth = 1 },
        refl,
        step (codes ")") (stands (piece.Character 97)) refl (
          one 97,
          character 97 (itself 97) (plain 97 refl),
          step [] closes refl (refl, refl, refl),
        ),
        refl,
        refl,
        ends _ [] refl,
      );
  depth = 1;
  is_whole = refl;
}

-- ---- what isn't

stuck : {s : Settings} {g : Bool} {p end : Place} {t u : Characters} → read_mark (mark_settings s p) (passed p.verbose t) ≡ None → (passed p.verbose t ≡ [] → ⊥) →
    Items s g p t end u → ⊥
stuck h some i = ⊎_elim (λ (e, _, _). some e) (λ (k, b, f, _). none-some (k, b) (sym h ∙ f)) (went _ _ _ _ _ _ i)

-- `)`, which closes nothing
closed : (re : Re) → Reads default_settings (codes ")") re → ⊥
closed re r = true≢false (sym ((items_next default_settings false _ r.end (codes ")") [] [] closes refl r.is_read).0))

-- `*` with nothing before it
bare : (re : Re) → Reads default_settings (codes "*") re → ⊥
bare re r =
    let (q, _, last, _, _) = items_next default_settings false _ r.end (codes "*") [] [] (repeats (bounds false 0 None)) refl r.is_read in none-some q last

-- `{ }`, `(?<1>a)` and `\8` begin with no mark
no_count : (re : Re) → Reads default_settings (codes "{ }") re → ⊥
unfolding ucd_props
no_count re r = stuck refl (λ e. absurd (cc)) r.is_read

no_name : (re : Re) → Reads default_settings (codes "(?<1>a)") re → ⊥
unfolding ucd_derived ucd_category
no_name re r = stuck refl (λ e. absurd (cc)) r.is_read

no_octal : (re : Re) → Reads default_settings (codes "\\8") re → ⊥
no_octal re r = stuck refl (λ e. absurd (cc)) r.is_read

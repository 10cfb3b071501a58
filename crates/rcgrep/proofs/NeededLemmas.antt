-- Only proofs use this file.
-- A line that contains no needle has no match, if each match contains one.
use denote.Struct.Props.{props}
use Rattle.std.proofs.Common.{ℕ, ◌≡◌, ◌<◌, ◌≤◌, ◌+◌, ◌-◌, ◌∙◌, false, List, Option, Some, None, IfSome, All, ap, arith, refl, subst, sym, length, length-drop, length-take-le, drop}
use Rattle.std.specs.List.{slice_get, slice_range}
use Rattle.std.specs.Option.{is_some}
use Rattle.std.proofs.lemmas.List.Elements.{All-weaker}
use Rattle.std.proofs.Math.Logic.{∥∥₁_elim}
use Rattle.rc_text.specs.Found.{Found}
use Rattle.rc_text.specs.declared.types.MatchKind.TheVariants.{LeftmostFirst}
use Rattle.rc_pattern.specs.Re.{Re}
use Rattle.rc_pattern.specs.WellFormed.{HasBounds, IsWellFormed}
use Rattle.rc_program.specs.Answer.{answer}
use Rattle.rc_program.specs.Kinds.{answer_by}
use Rattle.rc_program.specs.Program.{shown}
use Rattle.rc_program.specs.Sought.{search_for}
use Rattle.rc_program.specs.Spells.{Stands}
use Rattle.rc_program.specs.Text.{Text}
use Rattle.rc_program.proofs.GreatestLemmas.{greatest_law, spelled_within}
use Rattle.rc_program.proofs.GroupLemmas.{group_law, shown_all, without_groups_bounded}
use Rattle.rc_needles.specs.Needles.{NoneAt, StandsWithin, find_needle}
use Rattle.rc_needles.specs.Prefilters.{needles_of}
use Rattle.rc_needles.specs.declared.hit.Hit.{Hit}
use Rattle.rc_needles.specs.declared.prefilter.Prefilter.{Prefilter}
use Rattle.rc_needles.proofs.StartLemmas.{needle_law}
use Rattle.rc_literals.specs.Needs.{Holds}
use Rattle.api_meta.specs.Views.{regex_kind, sought}
use Rattle.api_meta.specs.declared.regex.Regex.{Regex}
use Rattle.rcgrep.specs.Needed.{HoldsNeedle, needle_or}
use Rattle.rcgrep.specs.Picked.{has_match}
use Rattle.rcgrep.proofs.LocalLemmas.{piece_same, stands_on}
use Rattle.regex_cursor.specs.Output.{whole}

-- the content has one of the needles
abbrev HasNeedle : List (List ℕ) → List ℕ → Type 0
HasNeedle needles content = (x k : ℕ) × (needle : List ℕ) × (slice_get needles k ≡ Some needle) × StandsWithin content (length content) needle x

module _ (r : Regex) (needles : List (List ℕ)) (is : HoldsNeedle r needles) where
  -- a text with a match has one
  needle_in : (text : List ℕ) (m : Found) → answer (search_for (sought r) (whole text)) ≡ Some m → HasNeedle needles text
  needle_in text m e =
      let q = sought r in
      let s = search_for q (whole text) in
      let spelled = greatest_law.answer_spelled s m e in
      let within = spelled_within s m spelled in
      let bounds = shown_all HasBounds without_groups_bounded q.grouped q.patterns is.bounded in
      let parts = (greatest_law.by_program (shown q.grouped q.patterns) s m bounds refl).0 spelled in
      let by = (group_law.shown_spells s.text q.grouped 0 q.patterns m.pattern m.start m.end).0 parts.3 in
      let held = is.holds s.text m.pattern m.start m.end by in
      (held.0, held.1, held.2, held.3, (omega (arith, held.6, within.2), held.4))

module _ (needles : List (List ℕ)) (page : List ℕ) where
  abbrev first : Option Hit
  first = find_needle needles page 0 (length page)

  none_before : (o : Option Hit) → first ≡ o → (i : ℕ) → i < needle_or (length page) o → NoneAt needles page (length page) i
  none_before None e i near = (needle_law.not_found needles page 0 (length page)).0 e i (omega arith)
  none_before (Some h) e i near = ((needle_law.found needles page 0 (length page) h).0 e).none_before i (omega arith) near

  module _ (r : Regex) (start end : ℕ) (order : start ≤ end) (inside : needle_or (length page) first ≤ length page) (near : end < needle_or (length page) first) where
    abbrev piece : List ℕ
    piece = slice_range page start end

    no_match : HoldsNeedle r needles → (o : Option Found) → answer (search_for (sought r) (whole piece)) ≡ o → is_some o ≡ false
    no_match is None e = refl
    no_match is (Some m) e =
        let held = needle_in r needles is piece m e in
        let ends : end ≤ length page = omega (arith, near, inside) in
        let size : length piece ≡ end - start = length-take-le (end - start) (drop start page) (omega (arith, ends, length-drop start page)) in
        let behind : start + (held.0 + length held.2) ≡ start + held.0 + length held.2 = omega arith in
        let there = subst (λ k. Stands page held.2 (start + held.0) k) behind
        (stands_on piece page start (piece_same page start end order ends) held.2 held.0 (held.0 + length held.2) held.4.1) in
        absurd (none_before first refl (start + held.0) (omega (arith, near, order, size, held.4.0)) held.1 held.2 held.3
        (omega (arith, ends, order, size, held.4.0), there))

    pub without_needle : ∥ HoldsNeedle r needles ∥₁ → has_match r piece ≡ false
    without_needle h = ∥∥₁_elim h (hlevel props) (λ is.
        ap (λ k. is_some (answer_by k (search_for (sought r) (whole piece)))) is.kind ∙ no_match is (answer (search_for (sought r) (whole piece))) refl)

-- the needles were found for the patterns
pub built_held : (r : Regex) (hs : List Re) (found : Option Prefilter) → regex_kind r ≡ LeftmostFirst → (sought r).patterns ≡ hs → All IsWellFormed hs →
    IfSome found (λ p. (t : Text) → Holds t hs (needles_of p)) → IfSome found (λ p. ∥ HoldsNeedle r (needles_of p) ∥₁)
built_held r hs None kind same ok held = held
built_held r hs (Some p) kind same ok held = ∣ record {
  kind = kind;
  bounded = subst (All HasBounds) (sym same) (All-weaker IsWellFormed HasBounds (λ h f. f.bounded) hs ok);
  holds = λ t. subst (λ xs. Holds t xs (needles_of p)) (sym same) (held t);
} ∣₁

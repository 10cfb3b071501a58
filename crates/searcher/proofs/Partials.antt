-- Partial answers to a search of the text in a range.
use Rattle.std.proofs.Common.{ℕ, ◌≤◌, List, ap, arith, length, subst}
use Rattle.rc_text.specs.Text.{Keeps, Searched}
use Rattle.rc_text.specs.declared.types.Span.{Span}
use Rattle.rc_program.specs.Answer.{Search}
use Rattle.rc_program.specs.Sought.{search_for}
use Rattle.rc_reach.specs.Partial.{IsPartial, final, from_place}
use Rattle.api_meta.specs.Partials.{IsOnward, partial_of}
use Rattle.api_meta.specs.Views.{regex_kind, sought}
use Rattle.api_meta.specs.declared.partial.Partial.{Partial}
use Rattle.api_meta.specs.declared.partial.Partial.TheVariants.{Final, From}
use Rattle.api_meta.specs.declared.regex.Regex.{Regex}
use Rattle.searcher.specs.Answers.{IsPartialIn}
use Rattle.searcher.specs.Ranges.{in_range}
use Rattle.searcher.proofs.Filling.{same_search}

-- what is told of an input in a range is told of the text in that range
pub partial_in : (r : Regex) (text : List ℕ) (start : ℕ) (i : Searched) (p : Partial) → Keeps (in_range text start 18446744073709551615) i →
    start ≤ length text → IsPartial (regex_kind r) (search_for (sought r) i) (partial_of p) → IsOnward i p → IsPartialIn r text start p
partial_in r text start i (Final m) k inside told on =
    subst (λ (s : Search). IsPartial (regex_kind r) s (final m)) (same_search (sought r) text start 18446744073709551615 i k) told
partial_in r text start i (From n) k inside told on =
    let begins = ap (λ (s : Span). s.start) k.span in
    let slice = ap (λ (s : Span). s.start) k.slice in
    let size = ap length k.content in (
      subst (λ (s : Search). IsPartial (regex_kind r) s (from_place n)) (same_search (sought r) text start 18446744073709551615 i k) told,
      omega (arith, begins, slice, on.0),
      omega (arith, begins, slice, size, inside, on.0, on.1),
    )

-- The whole text of chunks, and the order of its list.
use Rattle.std.proofs.Common.{◌≡◌, ◌∙◌, ◌+◌, ◌^◌, ◌<◌, ◌≤◌, ℕ, List, [], ◌∷◌, None, ap, ap₂, arith, length, min, subst, sym}
use Rattle.std.specs.Borrow.{Bor}
use Rattle.rc_text.specs.Found.{Found}
use Rattle.rc_text.specs.Joined.{IsTooLong}
use Rattle.rc_text.specs.Text.{Keeps, Searched, high}
use Rattle.rc_text.specs.declared.types.Span.{Span}
use Rattle.rc_program.specs.Answer.{Search}
use Rattle.rc_program.specs.Matches.{AreInOrder, begin_of, end_of, from_on}
use Rattle.rc_program.specs.Sought.{Sought, search_for}
use Rattle.rc_program.proofs.KindLemmas.{kinds_in_order}
use Rattle.api_meta.specs.Views.{regex_kind, sought}
use Rattle.api_meta.specs.declared.regex.Regex.{Regex}
use Rattle.live_matches.specs.Live.{IsLive, IsWhole, Listed, whole}
use Rattle.searcher.specs.Ranges.{IsFault, in_range}
use Rattle.searcher.specs.Searching.{IsInOrder}
use Rattle.searcher.specs.declared.answers.Fault.{Fault}
use Rattle.searcher.specs.declared.answers.Fault.TheVariants.{Outside, TooLong}
use Rattle.searcher.proofs.Filling.{same_search}

abbrev most : ℕ
most = 18446744073709551615

-- a whole text isn't searched from behind its end
pub only_too_long : (chunks : List (Bor (List ℕ))) (e : Fault) → IsFault chunks 0 most e → IsTooLong chunks
only_too_long chunks TooLong f = f.0
only_too_long chunks Outside f = omega (arith, f)

-- the text as an input up to the greatest place is searched as the whole text
same_whole : (q : Sought) (text : List ℕ) → length text + 1 < 2 ^ 64 → search_for q (in_range text 0 most) ≡ from_on (search_for q (whole text)) 0
same_whole q text fits =
    let ends : min (min most most) (length text) ≡ min (min (length text) most) (length text) = omega (arith, fits) in
    ap (λ h. record (search_for q (in_range text 0 most)) { hi = h }) ends

pub whole_in_range : (text : List ℕ) (i : Searched) → length text + 1 < 2 ^ 64 → Keeps (in_range text 0 most) i → IsWhole i
whole_in_range text i fits k = record {
  start = starts;
  over = record {
    same = λ q. same_search q text 0 most i k ∙ same_whole q text fits ∙ sym (ap₂ (λ c p. from_on (search_for q (whole c)) p) k.content starts);
    room = omega (arith, fits, ap length k.content, ap (λ (x : Span). x.end) k.span);
  };
}
  where
    starts : i.span.start ≡ 0
    starts = ap (λ (x : Span). x.start) k.span

pub high_in_range : (text : List ℕ) (i : Searched) → length text + 1 < 2 ^ 64 → Keeps (in_range text 0 most) i → high i ≡ length text
high_in_range text i fits k =
    let end = ap (λ (x : Span). x.end) k.span in
    let slice = ap (λ (x : Span). x.end) k.slice in
    let len = ap length k.content in
    omega (arith, fits, end, slice, len)

-- up to a greater bound
raised : (a b : ℕ) (ms : List Found) → a ≤ b → AreInOrder begin_of end_of a ms → AreInOrder begin_of end_of b ms
raised a b [] le o = tt
raised a b (m ∷ []) le o = (o.0, omega (arith, o.1, le))
raised a b (m ∷ n ∷ ms) le o = (o.0, o.1, o.2, raised a b (n ∷ ms) le o.3)

-- the matches of a list follow one another
pub in_order : (r : Regex) (text : List ℕ) (l : Listed) → IsLive r text l → IsInOrder l
in_order r text l live =
    let s : Search = search_for (sought r) (whole text) in
    let bound : s.hi ≤ most = omega arith in
    subst (λ ms. AreInOrder begin_of end_of most ms) (sym live.matches) (raised s.hi most _ bound (kinds_in_order (regex_kind r) s 0 None tt))

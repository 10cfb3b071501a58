-- A search of a part of the text shows that no match begins in it.
use Rattle.std.proofs.Common.{◌≡◌, ℕ, ◌+◌, ◌<◌, ◌≤◌, List, [], length, min, Option, Some, None, IfSome, refl, sym, ap, ◌∙◌, arith}
use Rattle.rc_text.specs.Found.{Found}
use Rattle.rc_text.specs.Text.{KeepsText, Searched}
use Rattle.rc_pattern.specs.Re.{Re}
use Rattle.rc_program.specs.Answer.{Search}
use Rattle.rc_program.specs.Kinds.{answer_by}
use Rattle.rc_program.specs.Matches.{from_on}
use Rattle.rc_program.specs.Sought.{Sought, search_for}
use Rattle.rc_reach.specs.Fixed.{IsFixed}
use Rattle.rc_reach.specs.Laws.{greatest_len}
use Rattle.rc_reach.specs.Live.{found_by}
use Rattle.api_meta.specs.Reached.{IsNear}
use Rattle.api_meta.specs.Views.{regex_kind, regex_patterns, sought}
use Rattle.api_meta.specs.declared.regex.Regex.{Regex}
use Rattle.api_meta.proofs.Reaching.{regex_bounded}
use Rattle.live_matches.specs.Live.{IsOver, seeks, whole}
use Rattle.live_matches.specs.Quiet.{IsShort}
use Rattle.live_matches.proofs.Bounds.{near, none_until, until}
use Rattle.live_matches.proofs.Searches.{whole_search}

-- the search of an input of which the span goes from one place to another
sought_until : (q : Sought) (s t : Searched) (at stop : ℕ) → IsOver s → length s.content + 1 < 18446744073709551616 → KeepsText s t →
    t.span ≡ record { start = at; end = stop } → t.slice ≡ s.slice → search_for q t ≡ until (search_for q (whole [])) s.content at stop
sought_until q s t at stop over fits keeps span slice =
    cut ∙ ap (λ z. record (from_on z at) { hi = min stop (length s.content) }) (over.same q)
    ∙ ap (λ z. record (from_on z at) { hi = min stop (length s.content) }) (sym (whole_search q s.content fits))
  where
    high : min (min stop s.slice.end) (length s.content) ≡ min stop (length s.content)
    high = let e = ap (λ (z : Search). z.text.slice_end) (over.same q) in omega (arith, e, fits)

    cut : search_for q t ≡ record (from_on (search_for q s) at) { hi = min stop (length s.content) }
    cut =
        rw (keeps.content, keeps.anchored, span, slice)
        (ap (λ h. let z : Search = record (from_on (search_for q s) at) { hi = h } in z) high)

near_by : (hs : List Re) (o : Option Found) (r n : ℕ) → greatest_len hs ≡ Some n →
    IfSome o (λ m. (k : ℕ) → greatest_len hs ≡ Some k → r ≤ m.start + k + 4) → IfSome o (λ m. r ≤ m.start + n + 4)
near_by hs None r n len f = tt
near_by hs (Some m) r n len f = f n len

pub none_by : (r : Regex) (s t : Searched) (at stop reach n : ℕ) (o : Option Found) → IsOver s → length s.content + 1 < 18446744073709551616 →
    KeepsText s t → t.span ≡ record { start = at; end = stop } → t.slice ≡ s.slice → o ≡ answer_by (regex_kind r) (search_for (sought r) t) →
    IsNear (regex_kind r) (regex_patterns r) o reach → IfSome o (λ m. stop < reach) → IsShort r n →
    IfSome (found_by (regex_kind r) (seeks r) s.content at) (λ m. stop < m.start + n + 4)
none_by r s t at stop reach n o over fits keeps span slice is near late short =
    none_until (regex_kind r) (seeks r) (sought r).grouped (regex_patterns r) n refl (regex_bounded r) short.longest short.leftmost s.content at stop reach o
    (is ∙ ap (answer_by (regex_kind r)) (sought_until (sought r) s t at stop over fits keeps span slice))
    (near_by (regex_patterns r) o reach n short.longest (near short.leftmost)) late

pub late_some : (o : Option Found) (m : Found) (stop reach : ℕ) → o ≡ Some m → stop < reach → IfSome o (λ m. stop < reach)
late_some None m stop reach e h = tt
late_some (Some k) m stop reach e h = h

pub late_none : (o : Option Found) (stop reach : ℕ) → o ≡ None → IfSome o (λ m. stop < reach)
late_none o stop reach e = rw e tt

-- a match is settled by so many bytes and four from its start
pub near_all : (r : Regex) (n : ℕ) → IsShort r n → (c : List ℕ) (k : ℕ) (m : Found) → found_by (regex_kind r) (seeks r) c k ≡ Some m →
    IsFixed (regex_kind r) (seeks r) c (m.start + (n + 4)) k
near_all r n short =
    near (regex_kind r) (seeks r) (sought r).grouped (regex_patterns r) n refl (regex_bounded r) short.longest short.leftmost

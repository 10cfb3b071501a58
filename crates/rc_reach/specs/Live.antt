-- Lists under edits: the matches of a whole content, before and after some bytes are replaced.
use Rattle.std.specs.Prelude.{◌≡◌, ◌↔◌, ℕ, ◌+◌, ◌<◌, ◌≤◌, true, false, List, [], ◌∷◌, ◌++◌, length, map, Option, Some, None}
use Rattle.std.specs.Option.{option_map}
use Rattle.rc_text.specs.Found.{Found}
use Rattle.rc_text.specs.declared.types.MatchKind.{MatchKind}
use Rattle.rc_text.specs.declared.types.MatchKind.TheVariants.{LeftmostFirst as leftmost_first}
use Rattle.rc_program.specs.Answer.{Search, IsStart, IsPassed, is_anchored}
use Rattle.rc_program.specs.Kinds.{answer_by_from, matches_by_kind}
use Rattle.rc_program.specs.Matches.{AreMatches, begin_of, end_of, from_on, is_again, next_match}
use Rattle.rc_reach.specs.Settled.{IsSettled}
use Rattle.rc_reach.specs.Edits.{Begins, edited, match_further}

-- The search of a whole content.
abbrev pub over_content : Search → List ℕ → Search
over_content s content = record s {
  text = record {
    content = content;
    slice_start = 0;
    slice_end = length content;
    terminator = s.text.terminator;
  };
  lo = 0;
  hi = length content;
}

-- The match of the content from k on.
abbrev pub found_by : MatchKind → Search → List ℕ → ℕ → Option Found
found_by kind s content = answer_by_from kind (over_content s content)

-- The matches of the content.
abbrev pub list_by : MatchKind → Search → List ℕ → List Found
list_by kind s content = matches_by_kind kind (over_content s content) 0 None

-- The preferred match of the content from k on.
abbrev pub found_in : Search → List ℕ → ℕ → Option Found
found_in = found_by leftmost_first

-- The bytes before r settle which match is next from k on, if the one before ended at `last`. They
-- settle the search from k, and the one from k + 1 if the first gives an empty match again.
pub record IsNextSettled (kind : MatchKind) (s : Search) (content : List ℕ) (r k : ℕ)
    (last : Option ℕ) : Type 0 where
  pub here : IsSettled kind r (from_on (over_content s content) k)
  pub later : (m : Found) → found_by kind s content k ≡ Some m →
      is_again begin_of end_of last m ≡ true →
      IsSettled kind r (from_on (over_content s content) (k + 1))

-- From k on, the list begins with these matches, and the bytes before r settle each. After them it
-- goes on from j, and the match before ended at `after`.
pub data AreSettled (kind : MatchKind) (s : Search) (content : List ℕ) (r : ℕ) : ℕ → Option ℕ →
    List Found → ℕ → Option ℕ → Type 0 where
  here : {k : ℕ} {last : Option ℕ} → AreSettled kind s content r k last [] k last
  goes_on : {k j : ℕ} {last after : Option ℕ} {ms : List Found} (m : Found) →
      next_match begin_of end_of (found_by kind s content) k last ≡ Some m →
      IsNextSettled kind s content r k last →
      AreSettled kind s content r m.end (Some m.end) ms j after →
      AreSettled kind s content r k last (m ∷ ms) j after

-- So many bytes further on.
abbrev pub on : ℕ → Option ℕ → Option ℕ
on d last = option_map (λ p. p + d) last

-- A search from k on finds what one from j on finds.
abbrev pub IsQuiet : Search → List ℕ → ℕ → ℕ → Type 0
IsQuiet s content k j = found_in s content k ≡ found_in s content j

-- The match before, if there is one, ended at k or before.
abbrev pub EndedBy : Option ℕ → ℕ → Type 0
EndedBy None k = Unit {0}
EndedBy (Some last) k = last ≤ k

-- The list after the bytes from a to b are replaced. It has three parts: the old matches that the
-- bytes before a settle; matches that are found anew; and from some place on, at least four bytes
-- after the new bytes, the rest of the old list, moved. No assertion looks back more than four
-- bytes.
pub record LiveLaw : Type 0 where
  -- If the content gets no shorter, but d bytes longer.
  pub longer : (kind : MatchKind) (s : Search) (content bytes : List ℕ) (a b d i k : ℕ)
      (last after : Option ℕ) (kept anew rest : List Found) →
      a ≤ b → b ≤ length content → a + length bytes ≡ b + d →
      AreSettled kind s content a 0 None kept i last →
      Begins begin_of end_of (found_by kind s (edited content a b bytes))
      i last anew (k + d) (on d after) → b + 4 ≤ k →
      AreMatches begin_of end_of (found_by kind s content) k after rest →
      kept ++ (anew ++ map (match_further d) rest) ≡ list_by kind s (edited content a b bytes)
  -- If it gets no longer, but d bytes shorter.
  pub shorter : (kind : MatchKind) (s : Search) (content bytes : List ℕ) (a b d i k : ℕ)
      (last after : Option ℕ) (kept anew rest : List Found) →
      a ≤ b → b ≤ length content → a + length bytes + d ≡ b →
      AreSettled kind s content a 0 None kept i last →
      Begins begin_of end_of (found_by kind s (edited content a b bytes)) i last anew k after →
      a + length bytes + 4 ≤ k →
      AreMatches begin_of end_of (found_by kind s content) (k + d) (on d after) rest →
      (less : List Found) × (rest ≡ map (match_further d) less)
      × (kept ++ (anew ++ less) ≡ list_by kind s (edited content a b bytes))
  -- Four bytes after the new bytes, or later, is found what was found there before, moved.
  pub moved : (kind : MatchKind) (s : Search) (content bytes : List ℕ) (a b d k : ℕ) →
      a ≤ b → b ≤ length content → a + length bytes ≡ b + d → b + 4 ≤ k →
      found_by kind s (edited content a b bytes) (k + d)
      ≡ option_map (match_further d) (found_by kind s content k)
  pub moved_back : (kind : MatchKind) (s : Search) (content bytes : List ℕ) (a b d k : ℕ) →
      a ≤ b → b ≤ length content → a + length bytes + d ≡ b → a + length bytes + 4 ≤ k →
      found_by kind s content (k + d)
      ≡ option_map (match_further d) (found_by kind s (edited content a b bytes) k)

-- Where the list of the preferred matches may be taken up.
pub record TakeUpLaw : Type 0 where
  -- At each place between the end of a match and the start of the next one.
  pub between : (s : Search) (content : List ℕ) (k j : ℕ) (last : Option ℕ) (m : Found)
      (rest : List Found) → is_anchored s.anchoring ≡ false →
      AreMatches begin_of end_of (found_in s content) k last (m ∷ rest) → k < j →
      j ≤ m.start → j < m.end →
      AreMatches begin_of end_of (found_in s content) j (Some j) (m ∷ rest)
  -- At each place after the end of the last match.
  pub none_left : (s : Search) (content : List ℕ) (k j : ℕ) (last : Option ℕ) →
      is_anchored s.anchoring ≡ false →
      AreMatches begin_of end_of (found_in s content) k last [] → k < j →
      AreMatches begin_of end_of (found_in s content) j (Some j) []
  -- At either end of a stretch in which no match begins.
  pub quiet : (s : Search) (content : List ℕ) (k j : ℕ) (last : Option ℕ) (rest : List Found) →
      IsQuiet s content k j → k < j → EndedBy last k →
      AreMatches begin_of end_of (found_in s content) j None rest
      ↔ AreMatches begin_of end_of (found_in s content) k last rest
  pub is_quiet : (s : Search) (content : List ℕ) (k j : ℕ) → is_anchored s.anchoring ≡ false →
      k ≤ j →
      ((y : ℕ) → IsStart (from_on (over_content s content) k) y → y < j →
      IsPassed (over_content s content) y) → IsQuiet s content k j

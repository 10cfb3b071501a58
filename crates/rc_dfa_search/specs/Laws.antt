-- Laws of DFA searches: what runs over the byte program of patterns find of the matches of a
-- search.
use Rattle.std.specs.Prelude.{◌≡◌, ℕ, ◌+◌, ◌<◌, ◌≤◌, ◌⊎◌, ◌↔◌, Bool, true, false, IsTrue, List, Option, Some, None}
use Rattle.rc_pattern.specs.Re.{Re}
use Rattle.rc_text.specs.Found.{Found}
use Rattle.rc_text.specs.declared.types.MatchKind.{MatchKind}
use Rattle.rc_text.specs.declared.types.MatchKind.TheVariants.{All as all_matches}
use Rattle.rc_text.specs.declared.types.Anchored.{Anchored}
use Rattle.rc_text.specs.declared.types.Anchored.TheVariants.{No}
use Rattle.rc_text.specs.Plain.{is_anchored as anchors}
use Rattle.rc_program.specs.Program.{accept, place_at, program, ways}
use Rattle.rc_program.specs.Answer.{Search, answer, anywhere, pattern_at}
use Rattle.rc_program.specs.Greatest.{IsSpelledIn, HasNoSpan, greatest}
use Rattle.rc_utf8.specs.Laws.{by_bytes}
use Rattle.rc_determinize.specs.Sets.{Comes}
use Rattle.rc_determinize.specs.States.{IsInside}
use Rattle.rc_determinize.specs.Laws.{may_end_at}
use Rattle.rc_program.specs.Kinds.{answer_by}
use Rattle.rc_dfa.specs.Laws.{starts_of}
use Rattle.rc_dfa.specs.Machine.{Machine}
use Rattle.rc_dfa.specs.Runs.{met_last, stopped_at, SearchEnds, SearchEndsDown}
use Rattle.rc_dfa_search.specs.Leftmost.{IsLeftmost, IsRaisedBy}
use Rattle.rc_dfa_search.specs.Machines.{IsCase}
use Rattle.rc_dfa_search.specs.Reverse.{EndsAtBound, IsMatchToEnd, IsSpelledToEnd, IsLeastStart, HasNoStart}
use Rattle.rc_dfa_search.specs.Faults.{SpeaksOfUnicode, speaks_of_unicode}

-- The pattern whose match place was reached.
abbrev pub pattern_met : Machine → ℕ → ℕ
pattern_met m q = pattern_at (place_at m.setting.places q)

-- The match of the pattern of this match place, from x to e.
abbrev pub met_from : Machine → ℕ → ℕ → ℕ → Found
met_from m q x e = record { pattern = pattern_met m q; start = x; end = e }

-- The match of the least start: leftmost-first, or leftmost-longest. `from` is where the search
-- begins, after all starts that were passed over.
pub record LeftmostLaw : Type 0 where
  pub begins : (hs : List Re) (kind : MatchKind) (m n : Machine) (anchored : Anchored) (s : Search) → IsCase hs kind m n anchored s → IsRaisedBy kind (by_bytes s) s.lo
  -- The end that is found is the answer's, and so is the pattern.
  pub ends : (hs : List Re) (kind : MatchKind) (m n : Machine) (anchored : Anchored) (s : Search) (from q e : ℕ) → IsLeftmost kind → IsCase hs kind m n anchored s → IsRaisedBy kind (by_bytes s) from →
      SearchEnds m s.text s.hi from anchored false (met_last (Some (q, e))) → may_end_at s e ≡ true →
      (x : ℕ) × (from ≤ x) × (x ≤ e) × (e ≤ s.hi) × (answer_by kind s ≡ Some (met_from m q x e))
  -- If the search is anchored, the start is known.
  pub at_start : (hs : List Re) (kind : MatchKind) (m n : Machine) (anchored : Anchored) (s : Search) (from q e : ℕ) → IsLeftmost kind → IsCase hs kind m n anchored s → IsRaisedBy kind (by_bytes s) from →
      SearchEnds m s.text s.hi from anchored false (met_last (Some (q, e))) → may_end_at s e ≡ true → anchors anchored ≡ true →
      (s.lo ≤ e) × (e ≤ s.hi) × (answer_by kind s ≡ Some (met_from m q s.lo e))
  -- Else it is the least from which an entry leads to that end.
  pub starts : (hs : List Re) (kind : MatchKind) (m n : Machine) (s : Search) (from q e x k : ℕ) → IsLeftmost kind → IsCase hs kind m n No s → IsRaisedBy kind (by_bytes s) from →
      SearchEnds m s.text s.hi from No false (met_last (Some (q, e))) → may_end_at s e ≡ true →
      SearchEndsDown n s.text from e No false (met_last (Some (x, k))) →
      (from ≤ x) × (x ≤ e) × (e ≤ s.hi) × (answer_by kind s ≡ Some (met_from m q x e))
  pub some_start : (hs : List Re) (kind : MatchKind) (m n : Machine) (s : Search) (from q e : ℕ) → IsLeftmost kind → IsCase hs kind m n No s → IsRaisedBy kind (by_bytes s) from →
      SearchEnds m s.text s.hi from No false (met_last (Some (q, e))) → may_end_at s e ≡ true → ¬ SearchEndsDown n s.text from e No false (met_last None)
  -- An end that is passed over.
  pub raises : (hs : List Re) (kind : MatchKind) (m n : Machine) (anchored : Anchored) (s : Search) (from q e : ℕ) → IsLeftmost kind → IsCase hs kind m n anchored s → IsRaisedBy kind (by_bytes s) from →
      SearchEnds m s.text s.hi from anchored false (met_last (Some (q, e))) → may_end_at s e ≡ false →
      (from < s.hi → anchors anchored ≡ false → IsRaisedBy kind (by_bytes s) (from + 1)) × ((s.hi ≤ from) ⊎ (anchors anchored ≡ true) → answer_by kind s ≡ None)
  pub none : (hs : List Re) (kind : MatchKind) (m n : Machine) (anchored : Anchored) (s : Search) (from : ℕ) → IsLeftmost kind → IsCase hs kind m n anchored s → IsRaisedBy kind (by_bytes s) from →
      SearchEnds m s.text s.hi from anchored false (met_last None) → answer_by kind s ≡ None

-- The greatest span.
pub record LastLaw : Type 0 where
  pub starts : (hs : List Re) (m n : Machine) (anchored : Anchored) (s : Search) (q e x k : ℕ) → IsCase hs all_matches m n anchored s →
      SearchEnds m s.text s.hi s.lo anchored false (met_last (Some (q, e))) → SearchEndsDown n s.text s.lo e anchored false (met_last (Some (x, k))) →
      greatest s ≡ Some (record { pattern = k; start = x; end = e })
  -- The end is the greatest span's, whatever its start.
  pub ends : (hs : List Re) (m n : Machine) (anchored : Anchored) (s : Search) (q e : ℕ) → IsCase hs all_matches m n anchored s →
      SearchEnds m s.text s.hi s.lo anchored false (met_last (Some (q, e))) → (f : Found) × (greatest s ≡ Some f) × (f.end ≡ e)

-- For every kind, and whether or not the first match is enough.
pub record MetLaw : Type 0 where
  -- The end that is found is that of a walk of that pattern.
  pub ends : (hs : List Re) (kind : MatchKind) (m n : Machine) (anchored : Anchored) (s : Search) (earliest : Bool) (q e : ℕ) → IsCase hs kind m n anchored s →
      SearchEnds m s.text s.hi s.lo anchored earliest (met_last (Some (q, e))) →
      (x : ℕ) × IsSpelledIn s (met_from m q x e) × (anchors anchored ≡ true → x ≡ s.lo)
  -- From where an entry is reached, a walk of its pattern leads there.
  pub starts : (hs : List Re) (kind : MatchKind) (m n : Machine) (anchored : Anchored) (s : Search) (earliest early : Bool) (q e x k : ℕ) → IsCase hs kind m n anchored s →
      anchors anchored ≡ false → SearchEnds m s.text s.hi s.lo anchored earliest (met_last (Some (q, e))) →
      SearchEndsDown n s.text s.lo e anchored early (met_last (Some (x, k))) → IsSpelledIn s (record { pattern = k; start = x; end = e })
  pub some_start : (hs : List Re) (kind : MatchKind) (m n : Machine) (anchored : Anchored) (s : Search) (earliest early : Bool) (q e : ℕ) → IsCase hs kind m n anchored s →
      SearchEnds m s.text s.hi s.lo anchored earliest (met_last (Some (q, e))) → ¬ SearchEndsDown n s.text s.lo e anchored early (met_last None)
  -- A walk comes to a match place of a pattern exactly where one is spelled that ends there.
  pub comes : (hs : List Re) (kind : MatchKind) (m n : Machine) (anchored : Anchored) (s : Search) (p e : ℕ) → IsCase hs kind m n anchored s →
      ((q : ℕ) × Comes (ways m.setting.places s.text s.hi) (starts_of m anchored s.lo s.hi) (q, e) × (place_at m.setting.places q ≡ accept p))
      ↔ ((x : ℕ) × IsSpelledIn s (record { pattern = p; start = x; end = e }))
  -- If nothing is found, nothing is spelled.
  pub none : (hs : List Re) (kind : MatchKind) (m n : Machine) (anchored : Anchored) (s : Search) (earliest : Bool) → IsCase hs kind m n anchored s →
      SearchEnds m s.text s.hi s.lo anchored earliest (met_last None) → HasNoSpan s × (answer s ≡ None) × (greatest s ≡ None)

-- Backwards from the upper bound.
pub record ReverseLaw : Type 0 where
  pub least : (hs : List Re) (kind : MatchKind) (m n : Machine) (anchored : Anchored) (s : Search) (x k : ℕ) → IsCase hs kind m n anchored s →
      SearchEndsDown n s.text s.lo s.hi anchored false (met_last (Some (x, k))) → IsLeastStart s (record { pattern = k; offset = x })
  pub met : (hs : List Re) (kind : MatchKind) (m n : Machine) (anchored : Anchored) (s : Search) (earliest : Bool) (x k : ℕ) → IsCase hs kind m n anchored s →
      SearchEndsDown n s.text s.lo s.hi anchored earliest (met_last (Some (x, k))) → IsSpelledToEnd s (record { pattern = k; offset = x })
  pub none : (hs : List Re) (kind : MatchKind) (m n : Machine) (anchored : Anchored) (s : Search) (earliest : Bool) → IsCase hs kind m n anchored s →
      SearchEndsDown n s.text s.lo s.hi anchored earliest (met_last None) → HasNoStart s

-- If each span ends at the upper bound, and the search isn't anchored, the match from the least
-- start is both the leftmost-first and the leftmost-longest one.
pub record ReverseEndLaw : Type 0 where
  pub leftmost : (hs : List Re) (kind : MatchKind) (s : Search) (o : Option Found) → IsLeftmost kind → s.places ≡ program hs → s.anchoring ≡ anywhere → EndsAtBound s →
      IsMatchToEnd false s o → o ≡ answer_by kind s

-- Where bytes may not be read.
pub record UnreadLaw : Type 0 where
  -- If some byte may not be read, an assertion of the patterns depends on Unicode's words, and so
  -- does one of the program.
  pub unicode : (hs : List Re) (kind : MatchKind) (m n : Machine) (anchored : Anchored) (s : Search) → IsCase hs kind m n anchored s →
      m.setting.needs.unicode ≡ true → SpeaksOfUnicode hs
  pub placed : (hs : List Re) (kind : MatchKind) (m n : Machine) (anchored : Anchored) (s : Search) → IsCase hs kind m n anchored s →
      m.setting.needs.unicode ≡ true → IsTrue (speaks_of_unicode s.places)
  -- What was read forwards up to an end may be read backwards.
  pub read : (m n : Machine) (s : Search) (from q e p : ℕ) (anchored back : Anchored) (earliest early : Bool) → n.setting ≡ m.setting → n.alphabet ≡ m.alphabet →
      IsInside s.text s.lo s.hi → SearchEnds m s.text s.hi from anchored earliest (met_last (Some (q, e))) → ¬ SearchEndsDown n s.text from e back early (stopped_at p)

-- Prefilters: what runs find that rest while nothing is under way, and begin anew further on.
use Rattle.std.specs.Prelude.{◌≡◌, ℕ, ◌+◌, ◌<◌, ◌≤◌, Bool, true, false, List, Option, Some, None}
use Rattle.rc_pattern.specs.Re.{Re}
use Rattle.rc_text.specs.declared.types.MatchKind.{MatchKind}
use Rattle.rc_text.specs.declared.types.Anchored.TheVariants.{No}
use Rattle.rc_walks.specs.Walks.{Pair}
use Rattle.rc_program.specs.Program.{ways}
use Rattle.rc_program.specs.Answer.{Search, HasNoWalkFrom}
use Rattle.rc_utf8.specs.Laws.{by_bytes}
use Rattle.rc_determinize.specs.States.{Stops}
use Rattle.rc_determinize.specs.Laws.{may_end_at}
use Rattle.rc_program.specs.Kinds.{answer_by}
use Rattle.rc_dfa.specs.Machine.{Machine}
use Rattle.rc_dfa.specs.Runs.{met_last, idle_at, SearchEnds, SearchEndsDown}
use Rattle.rc_dfa.specs.Laws.{starts_of}
use Rattle.rc_dfa_search.specs.Leftmost.{IsLeftmost, GivesBy, IsRaisedBy}
use Rattle.rc_dfa_search.specs.Machines.{IsCase}
use Rattle.rc_dfa_search.specs.Laws.{met_from}

-- The starts from this position on give this: where the walk over the bytes ends that counts.
abbrev pub StartsGive : MatchKind → Machine → Search → ℕ → Option Pair → Type 0
StartsGive kind m s from r = GivesBy kind (ways m.setting.places s.text s.hi) (Stops m.setting.places) (starts_of m No from s.hi) r

-- No walk begins from x on and before y.
abbrev pub HasNoWalkBetween : Search → ℕ → ℕ → Type 0
HasNoWalkBetween s x y = (z : ℕ) → x ≤ z → z < y → HasNoWalkFrom s z

-- The starts from `from` on give all that those from i on give.
abbrev pub GivesToo : MatchKind → Machine → Search → ℕ → ℕ → Type 0
GivesToo kind m s i from = (r : Option Pair) → StartsGive kind m s i r → StartsGive kind m s from r

pub record RestLaw : Type 0 where
  -- The find of a run.
  pub met : (hs : List Re) (kind : MatchKind) (m n : Machine) (s : Search) (from : ℕ) (r : Option Pair) → IsLeftmost kind → IsCase hs kind m n No s → s.lo ≤ from →
      SearchEnds m s.text s.hi from No false (met_last r) → StartsGive kind m s from r
  -- If it rests, no walk that began earlier ends.
  pub rests : (hs : List Re) (kind : MatchKind) (m n : Machine) (s : Search) (from i : ℕ) (earliest : Bool) → IsLeftmost kind → IsCase hs kind m n No s → s.lo ≤ from →
      SearchEnds m s.text s.hi from No earliest (idle_at i) → (from ≤ i) × (i ≤ s.hi) × GivesToo kind m s i from
  -- Starts without a walk may be skipped.
  pub jumps : (hs : List Re) (kind : MatchKind) (m n : Machine) (s : Search) (i x : ℕ) → IsLeftmost kind → IsCase hs kind m n No s → i ≤ x → x ≤ s.hi →
      HasNoWalkBetween s i x → GivesToo kind m s x i
  pub nowhere : (hs : List Re) (kind : MatchKind) (m n : Machine) (s : Search) (i : ℕ) → IsLeftmost kind → IsCase hs kind m n No s → i ≤ s.hi →
      HasNoWalkBetween s i (s.hi + 1) → StartsGive kind m s i None

-- The match of the least start, as in `LeftmostLaw`, by what the starts give from where the search
-- begins, whichever runs found it.
pub record GivenLaw : Type 0 where
  pub ends : (hs : List Re) (kind : MatchKind) (m n : Machine) (s : Search) (from q e : ℕ) → IsLeftmost kind → IsCase hs kind m n No s → IsRaisedBy kind (by_bytes s) from →
      StartsGive kind m s from (Some (q, e)) → may_end_at s e ≡ true →
      (x : ℕ) × (from ≤ x) × (x ≤ e) × (e ≤ s.hi) × (answer_by kind s ≡ Some (met_from m q x e))
  pub starts : (hs : List Re) (kind : MatchKind) (m n : Machine) (s : Search) (from q e x k : ℕ) → IsLeftmost kind → IsCase hs kind m n No s → IsRaisedBy kind (by_bytes s) from →
      StartsGive kind m s from (Some (q, e)) → may_end_at s e ≡ true → SearchEndsDown n s.text from e No false (met_last (Some (x, k))) →
      (from ≤ x) × (x ≤ e) × (e ≤ s.hi) × (answer_by kind s ≡ Some (met_from m q x e))
  pub some_start : (hs : List Re) (kind : MatchKind) (m n : Machine) (s : Search) (from q e : ℕ) → IsLeftmost kind → IsCase hs kind m n No s → IsRaisedBy kind (by_bytes s) from →
      StartsGive kind m s from (Some (q, e)) → may_end_at s e ≡ true → ¬ SearchEndsDown n s.text from e No false (met_last None)
  pub raises : (hs : List Re) (kind : MatchKind) (m n : Machine) (s : Search) (from q e : ℕ) → IsLeftmost kind → IsCase hs kind m n No s → IsRaisedBy kind (by_bytes s) from →
      StartsGive kind m s from (Some (q, e)) → may_end_at s e ≡ false →
      (from < s.hi → IsRaisedBy kind (by_bytes s) (from + 1)) × (s.hi ≤ from → answer_by kind s ≡ None)
  pub none : (hs : List Re) (kind : MatchKind) (m n : Machine) (s : Search) (from : ℕ) → IsLeftmost kind → IsCase hs kind m n No s → IsRaisedBy kind (by_bytes s) from →
      StartsGive kind m s from None → answer_by kind s ≡ None

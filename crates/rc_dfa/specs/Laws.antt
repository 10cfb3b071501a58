-- Laws of determinizers and of their runs.
use Rattle.std.specs.Prelude.{◌≡◌, ℕ, ◌+◌, ◌<◌, ◌≤◌, ◌↔◌, Bool, true, false, List, [], ◌∷◌, length, Option, Some, None, IsTrue, slice_get, slice_index}
use Rattle.std.specs.Option.{option_map}
use Rattle.rc_text.specs.declared.types.MatchKind.{MatchKind}
use Rattle.rc_text.specs.declared.types.MatchKind.TheVariants.{All as all_matches, LeftmostFirst as leftmost_first, LeftmostLongest as leftmost_longest}
use Rattle.rc_text.specs.declared.types.Anchored.{Anchored}
use Rattle.rc_text.specs.declared.types.Anchored.TheVariants.{No, Yes, Pattern}
use Rattle.rc_text.specs.Plain.{only_pattern}
use Rattle.rc_walks.specs.Walks.{Pair}
use Rattle.rc_program.specs.Looks.{Side}
use Rattle.rc_program.specs.Text.{Text, before_at, after_at}
use Rattle.rc_program.specs.Program.{place_at, ways, is_match_place}
use Rattle.rc_determinize.specs.Gives.{Gives}
use Rattle.rc_determinize.specs.LongestLaws.{GivesLongest}
use Rattle.rc_determinize.specs.declared.sides.Seen.{Seen}
use Rattle.rc_determinize.specs.declared.sides.Sides.{Sides}
use Rattle.rc_determinize.specs.Run.{Reaches, IsGoal}
use Rattle.rc_determinize.specs.Steps.{AreBelow}
use Rattle.rc_determinize.specs.Sides.{byte_of, told_side, sides_near}
use Rattle.rc_determinize.specs.Sets.{Comes, ComesHere, ComesOver, EndsHere, EndsOver}
use Rattle.rc_determinize.specs.States.{Setting, State, IsInside, Stops, all_starts}
use Rattle.rc_determinize.specs.Backward.{IsFirstRoot, IsLeastSoFar}
use Rattle.rc_determinize.specs.Spans.{IsLastSoFar}
use Rattle.rc_dfa.specs.Machine.{Alphabet, bytes, symbols, Machine, forwards, backwards, entry_bound, longest_in, IsListIn, Leads, LeadsOver, Begins, BeginsBeside, IsMachine, is_dead}
use Rattle.rc_dfa.specs.Runs.{met_last, stopped_at, MayReadSide, BeginsBy, Runs, SearchEnds, SearchEndsDown}

-- The state has places of the program, each once. So it is no longer than the program, or than
-- twice the program if it has marks.
pub record IsWithin (m : Machine) (s : State) : Type 0 where
  pub places : IsListIn m.direction (length m.setting.places) s.list
  pub below : AreBelow (entry_bound m.direction (length m.setting.places)) s.list
  pub short : length s.list ≤ longest_in m.direction (length m.setting.places)

-- The law of the states of a determinizer: by what is told of the sides, or by bytes alone.
pub record MachineLaw : Type 0 where
  pub begins_beside : (m : Machine) (anchored : Anchored) (facts : Seen) (s : State) → IsMachine m → BeginsBeside m anchored facts s → IsWithin m s
  pub leads_over : (m : Machine) (s t : State) (sides : Sides) → IsMachine m → LeadsOver m s sides t → IsWithin m t
  pub begins : (m : Machine) (anchored : Anchored) (beside : Option ℕ) (s : State) → IsMachine m → Begins m anchored beside s → IsWithin m s
  pub leads : (m : Machine) (s t : State) (beside : Option ℕ) → IsMachine m → Leads m s beside t → IsWithin m t

-- Where a search forwards enters the program.
abbrev pub starts_of : Machine → Anchored → ℕ → ℕ → List Pair
starts_of m No from hi = all_starts false 0 from hi
starts_of m Yes from hi = all_starts true 0 from hi
starts_of m (Pattern p) from hi = (slice_index m.entries p, from) ∷ []

-- The position of what was found.
abbrev pub position_of : Option Pair → Option ℕ
position_of met = option_map (λ (n : Pair). n.1) met

-- A walk leads from the root at i to a match place at `end`; to one of this pattern, if one is
-- asked for.
abbrev pub ReachesMatch : Option ℕ → Setting → Text → ℕ → ℕ → ℕ → ℕ → Type 0
ReachesMatch only g t hi end i root = Reaches (ways g.places t hi) (IsGoal (λ (n : Pair). IsTrue (is_match_place only (place_at g.places n.0))) end) (root, i)

-- The least position so far, as in `IsLeastSoFar`, at which some root reaches a match place of the
-- pattern that is asked for, and the first root that does.
abbrev pub IsLeastOf : Option ℕ → Setting → Text → ℕ → ℕ → List ℕ → ℕ → Option (ℕ × ℕ) → Type 0
IsLeastOf only g t hi end roots i None = (y : ℕ) → i ≤ y → y ≤ end → IsFirstRoot (ReachesMatch only g t hi end y) roots None
IsLeastOf only g t hi end roots i (Some m) =
    (i ≤ m.0) × (m.0 ≤ end) × IsFirstRoot (ReachesMatch only g t hi end m.0) roots (Some m.1)
    × ((y : ℕ) → i ≤ y → y < m.0 → IsFirstRoot (ReachesMatch only g t hi end y) roots None)

-- The slice's byte at p isn't ASCII, and some assertion of the program depends on Unicode's words.
-- Of the bytes that are read it is the first of this kind: those of which `IsRead` holds are ASCII.
pub record IsUnread (m : Machine) (t : Text) (IsRead : ℕ → Type 0) (p : ℕ) : Type 0 where
  pub unicode : IsTrue m.setting.needs.unicode
  pub inside : (t.slice_start ≤ p) × (p < t.slice_end)
  pub byte : (b : ℕ) × (slice_get t.content p ≡ Some b) × (128 ≤ b)
  pub first : (y b : ℕ) → IsRead y → t.slice_start ≤ y → y < t.slice_end → slice_get t.content y ≡ Some b → b < 128

-- The law of what runs find.
pub record RunLaw : Type 0 where
  -- Forwards, for leftmost-first: where the first walk ends.
  pub first : (m : Machine) (t : Text) (hi from : ℕ) (anchored : Anchored) (r : Option Pair) → IsMachine m → m.direction ≡ forwards leftmost_first →
      m.setting.terminator ≡ t.terminator → IsInside t from hi → SearchEnds m t hi from anchored false (met_last r) →
      Gives (ways m.setting.places t hi) (Stops m.setting.places) [] (starts_of m anchored from hi) r
  -- Forwards, for `MatchKind::All`: the last position at which a walk ends.
  pub last : (m : Machine) (t : Text) (hi from : ℕ) (anchored : Anchored) (r : Option Pair) → IsMachine m → m.direction ≡ forwards all_matches →
      m.setting.terminator ≡ t.terminator → IsInside t from hi → SearchEnds m t hi from anchored false (met_last r) →
      IsLastSoFar m.setting t hi (starts_of m anchored from hi) (hi + 1) (position_of r)
  -- Forwards, for leftmost-longest: where the longest walk of the least start ends.
  pub longest : (m : Machine) (t : Text) (hi from : ℕ) (anchored : Anchored) (r : Option Pair) → IsMachine m → m.direction ≡ forwards leftmost_longest →
      m.setting.terminator ≡ t.terminator → IsInside t from hi → SearchEnds m t hi from anchored false (met_last r) →
      GivesLongest (ways m.setting.places t hi) (Stops m.setting.places) (starts_of m anchored from hi) r
  -- Forwards, whether or not the first match is enough: what is found is the end of a walk.
  pub met : (kind : MatchKind) (m : Machine) (t : Text) (hi from : ℕ) (anchored : Anchored) (earliest : Bool) (n : Pair) → IsMachine m →
      m.direction ≡ forwards kind → m.setting.terminator ≡ t.terminator → IsInside t from hi → SearchEnds m t hi from anchored earliest (met_last (Some n)) →
      Comes (ways m.setting.places t hi) (starts_of m anchored from hi) n × Stops m.setting.places n
  -- If nothing is found, no walk ends.
  pub none : (kind : MatchKind) (m : Machine) (t : Text) (hi from : ℕ) (anchored : Anchored) (earliest : Bool) → IsMachine m →
      m.direction ≡ forwards kind → m.setting.terminator ≡ t.terminator → IsInside t from hi → SearchEnds m t hi from anchored earliest (met_last None) →
      (n : Pair) → Comes (ways m.setting.places t hi) (starts_of m anchored from hi) n → ¬ Stops m.setting.places n
  -- Backwards: the least position from which an entry leads to a match place at `end`.
  pub least : (m : Machine) (t : Text) (hi lo end : ℕ) (anchored : Anchored) (r : Option (ℕ × ℕ)) → IsMachine m → m.direction ≡ backwards →
      m.setting.terminator ≡ t.terminator → IsInside t lo hi → end ≤ hi → SearchEndsDown m t lo end anchored false (met_last r) →
      IsLeastOf (only_pattern anchored) m.setting t hi end m.entries lo r
  -- That is the least so far if no pattern is asked for.
  pub of_any : (g : Setting) (t : Text) (hi end : ℕ) (roots : List ℕ) (lo : ℕ) (r : Option (ℕ × ℕ)) → IsLeastOf None g t hi end roots lo r →
      IsLeastSoFar g t hi end roots lo r
  -- Backwards, whether or not the first match is enough.
  pub met_down : (m : Machine) (t : Text) (hi lo end : ℕ) (anchored : Anchored) (earliest : Bool) (x k : ℕ) → IsMachine m → m.direction ≡ backwards →
      m.setting.terminator ≡ t.terminator → IsInside t lo hi → end ≤ hi → SearchEndsDown m t lo end anchored earliest (met_last (Some (x, k))) →
      (lo ≤ x) × (x ≤ end) × IsFirstRoot (ReachesMatch (only_pattern anchored) m.setting t hi end x) m.entries (Some k)
  pub none_down : (m : Machine) (t : Text) (hi lo end : ℕ) (anchored : Anchored) (earliest : Bool) → IsMachine m → m.direction ≡ backwards →
      m.setting.terminator ≡ t.terminator → IsInside t lo hi → end ≤ hi → SearchEndsDown m t lo end anchored earliest (met_last None) →
      IsLeastOf (only_pattern anchored) m.setting t hi end m.entries lo None
  -- Where a search stops. Forwards it reads the byte before its start, if there is one, and those
  -- from there to its bound and at it.
  pub stops : (m : Machine) (t : Text) (hi from : ℕ) (anchored : Anchored) (earliest : Bool) (p : ℕ) → IsInside t from hi → from ≤ hi →
      SearchEnds m t hi from anchored earliest (stopped_at p) →
      (from ≤ p + 1) × (p ≤ hi) × IsUnread m t (λ y. (from ≤ y + 1) × (y < p)) p
  -- Backwards it reads the byte at its end, if there is one, and those from there down to its bound
  -- and before it.
  pub stops_down : (m : Machine) (t : Text) (hi lo end : ℕ) (anchored : Anchored) (earliest : Bool) (p : ℕ) → IsInside t lo hi → lo ≤ end → end ≤ hi →
      SearchEndsDown m t lo end anchored earliest (stopped_at p) →
      (lo ≤ p + 1) × (p ≤ end) × IsUnread m t (λ y. (p < y) × (y ≤ end)) p

-- Some walk comes to the place at the state's position, by what stands ahead.
abbrev pub ComesOn : Alphabet → Machine → Side → State → ℕ → Type 0
ComesOn bytes m side s = ComesHere m.setting s (byte_of side)
ComesOn symbols m side s =
    ComesOver m.setting.places s (sides_near m.setting.needs m.setting.terminator side (told_side m.setting.needs m.setting.terminator side))

-- The law of what runs for `MatchKind::All` tell of walks at each position.
pub record OverlapLaw : Type 0 where
  -- To which places walks come.
  pub comes : (m : Machine) (t : Text) (hi from : ℕ) (anchored : Anchored) (first s : State) (i : ℕ) (met : Option Pair) → IsMachine m →
      m.direction ≡ forwards all_matches → m.setting.terminator ≡ t.terminator → IsInside t from hi → MayReadSide m.alphabet m (before_at t from) →
      BeginsBy m.alphabet m anchored (before_at t from) first → Runs m t hi from first i s met → i ≤ hi → MayReadSide m.alphabet m (after_at t i) →
      (q : ℕ) → ComesOn m.alphabet m (after_at t i) s q ↔ Comes (ways m.setting.places t hi) (starts_of m anchored from hi) (q, i)
  -- From where nothing goes on, none comes to any.
  pub dies : (m : Machine) (t : Text) (hi from : ℕ) (anchored : Anchored) (first s : State) (i : ℕ) (met : Option Pair) → IsMachine m →
      m.direction ≡ forwards all_matches → m.setting.terminator ≡ t.terminator → IsInside t from hi → MayReadSide m.alphabet m (before_at t from) →
      BeginsBy m.alphabet m anchored (before_at t from) first → Runs m t hi from first i s met → is_dead s ≡ true →
      (q y : ℕ) → i ≤ y → ¬ Comes (ways m.setting.places t hi) (starts_of m anchored from hi) (q, y)
  -- None comes to a position outside the bounds.
  pub within : (m : Machine) (t : Text) (hi from : ℕ) (anchored : Anchored) (q y : ℕ) → IsMachine m → from ≤ hi →
      Comes (ways m.setting.places t hi) (starts_of m anchored from hi) (q, y) → (from ≤ y) × (y ≤ hi)
  -- On the way to a state with nothing met, no walk ended.
  pub unmet_over : (m : Machine) (s next : State) (sides : Sides) → m.direction ≡ forwards all_matches → LeadsOver m s sides next → next.matched ≡ None →
      (q : ℕ) → ¬ EndsOver m.setting.places s sides q
  pub unmet : (m : Machine) (s next : State) (beside : Option ℕ) → m.direction ≡ forwards all_matches → Leads m s beside next → next.matched ≡ None →
      (q : ℕ) → ¬ EndsHere m.setting s beside q

-- The law of runs over symbols: they never stop, whatever bytes there are.
pub record SymbolRunLaw : Type 0 where
  pub reads_all : (m : Machine) (t : Text) (hi from : ℕ) (anchored : Anchored) (earliest : Bool) (p : ℕ) → m.alphabet ≡ symbols →
      ¬ SearchEnds m t hi from anchored earliest (stopped_at p)
  pub reads_all_down : (m : Machine) (t : Text) (lo end : ℕ) (anchored : Anchored) (earliest : Bool) (p : ℕ) → m.alphabet ≡ symbols →
      ¬ SearchEndsDown m t lo end anchored earliest (stopped_at p)

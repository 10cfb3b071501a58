-- Laws of parses: they tie the answers of a search to the parses of its patterns.
use Rattle.std.specs.Prelude.{◌≡◌, ◌↔◌, ℕ, ◌+◌, ◌-◌, ◌*◌, ◌<◌, ◌≤◌, ◌⊎◌, All, List, [], ◌∷◌, length, take, Option, Some, None, IsTrue, slice_get}
use Rattle.std.specs.Option.{option_map}
use Rattle.rc_text.specs.Found.{Found}
use Rattle.rc_text.specs.Text.{Searched, high}
use Rattle.rc_pattern.specs.Re.{Re, alt, cat, none}
use Rattle.rc_pattern.specs.WellFormed.{HasBounds, group_count}
use Rattle.rc_walks.specs.Walks.{Pair}
use Rattle.rc_program.specs.Text.{Text}
use Rattle.rc_program.specs.Program.{place_at}
use Rattle.rc_program.specs.Answer.{Search, IsFirstFrom, HasNoWalkFrom, Chosen, chosen, answer, slot_of, last_of, last_visit, pattern_at}
use Rattle.rc_program.specs.Laws.{IsNumbered, all_groups}
use Rattle.rc_program.specs.Sought.{Sought, passes_over, search_for, text_of}
use Rattle.rc_program.specs.Spells.{Spells}
use Rattle.rc_parses.specs.Parses.{Tree, Parse, IsParse, IsParseBy, IsBefore, IsBeforeBy, IsLeastParse, group_of}
use Rattle.rc_parses.specs.Preference.{ArePlain, IsLeastFrom, HasNoParseFrom, IsPreferred, IsPreferredMatch}

-- The patterns are plain, their groups are numbered in order, and each min is at most its max.
pub record SeeksPlain (q : Sought) : Type 0 where
  pub bounded : All HasBounds q.patterns
  pub numbered : All IsNumbered q.patterns
  pub plain : ArePlain q.patterns

-- The slot of the first group of the parse's pattern.
abbrev pub first_slot : List Re → Parse → ℕ
first_slot hs p = 2 * length hs + 2 * all_groups (take p.pattern hs)

-- Where group n of the parse begins, and where it ends.
abbrev pub group_start : ℕ → Parse → Option ℕ
group_start n p = option_map (λ (r : ℕ × ℕ). r.0) (group_of n p.tree)

abbrev pub group_end : ℕ → Parse → Option ℕ
group_end n p = option_map (λ (r : ℕ × ℕ). r.1) (group_of n p.tree)

-- The walk has the pattern and the end of the parse, and its groups if the program has them.
pub record IsAlike (q : Sought) (s : Search) (p : Parse) (w : List Pair) : Type 0 where
  pub pattern : pattern_at (place_at s.places (last_of w).0) ≡ p.pattern
  pub end : (last_of w).1 ≡ p.end
  pub group_starts : IsTrue q.grouped → (n : ℕ) → 1 ≤ n → last_visit s.places (first_slot q.patterns p + 2 * (n - 1)) w ≡ group_start n p
  pub group_ends : IsTrue q.grouped → (n : ℕ) → 1 ≤ n → last_visit s.places (first_slot q.patterns p + 2 * (n - 1) + 1) w ≡ group_end n p
  -- No slot before the pattern's groups, or after them.
  pub no_other : IsTrue q.grouped → (k : ℕ) (h : Re) → slice_get q.patterns p.pattern ≡ Some h →
      (k < first_slot q.patterns p) ⊎ (first_slot q.patterns p + 2 * group_count h ≤ k) → last_visit s.places k w ≡ None

-- The slots of the chosen walk have the parse's groups.
abbrev pub HasGroups : Sought → Search → Parse → Chosen → Type 0
HasGroups q s p c = (n : ℕ) → 1 ≤ n →
    (slot_of s c (first_slot q.patterns p + 2 * (n - 1)) ≡ group_start n p)
    × (slot_of s c (first_slot q.patterns p + 2 * (n - 1) + 1) ≡ group_end n p)

-- Preference is that of the patterns.
pub record PreferenceLaw : Type 0 where
  -- The first walk from a start is the least parse, and without a walk there is no parse.
  pub first : (q : Sought) (s : Searched) → SeeksPlain q → (x : ℕ) → x ≤ high s → (w : List Pair) → IsFirstFrom (search_for q s) x w →
      (p : Parse) × IsLeastFrom q s x p × IsAlike q (search_for q s) p w
  pub none : (q : Sought) (s : Searched) → SeeksPlain q → (x : ℕ) → x ≤ high s → HasNoWalkFrom (search_for q s) x → HasNoParseFrom q s x
  -- There is one least parse if there is a parse.
  pub least : (q : Sought) (s : Searched) → SeeksPlain q → (x : ℕ) → x ≤ high s → HasNoParseFrom q s x ⊎ ((p : Parse) × IsLeastFrom q s x p)
  pub one : (t : Text) (hi : ℕ) (allowed : Option ℕ) (hs : List Re) (x : ℕ) (p r : Parse) → IsLeastParse t hi allowed hs x p → IsLeastParse t hi allowed hs x r →
      p ≡ r
  -- The answer is the preferred match, with its groups.
  pub chosen_some : (q : Sought) (s : Searched) → SeeksPlain q → (c : Chosen) → chosen (search_for q s) ≡ Some c →
      (p : Parse) × IsPreferred q s c.start p × IsAlike q (search_for q s) p c.walk × (IsTrue q.grouped → HasGroups q (search_for q s) p c)
  pub answered : (q : Sought) (s : Searched) → SeeksPlain q → (o : Option Found) → (answer (search_for q s) ≡ o) ↔ IsPreferredMatch q s o

-- The preference of parses by one pattern from one start is a strict total order, and the tree
-- determines the end.
pub record OrderLaw : Type 0 where
  pub asymmetric : (h : Re) (x y : Tree) → IsBefore h x y → ¬ IsBefore h y x
  pub total : (t : Text) (h : Re) (x y : Tree) (i j m : ℕ) → IsParse t h x i j → IsParse t h y i m → (x ≡ y) ⊎ (IsBefore h x y ⊎ IsBefore h y x)
  pub transitive : (h : Re) (x y z : Tree) → IsBefore h x y → IsBefore h y z → IsBefore h x z
  pub one_end : (t : Text) (h : Re) (x : Tree) (i j m : ℕ) → IsParse t h x i j → IsParse t h x i m → j ≡ m
  -- A span is spelled exactly if it has a parse.
  pub spelled : (t : Text) (h : Re) (i j : ℕ) → Spells t h i j ↔ ((x : Tree) × IsParse t h x i j)

-- The patterns hs and gs have the same parses in the same order. To each of hs belongs one of gs,
-- with the same pattern number, end and groups; each of gs belongs to one. If one of hs comes
-- before another, so do those that belong to them.
pub record HaveSameParses (t : Text) (hs gs : List Re) (to from : Parse → Parse) : Type 0 where
  pub parses : (i : ℕ) (p : Parse) → IsParseBy t hs i p → IsParseBy t gs i (to p)
  pub pattern : (i : ℕ) (p : Parse) → IsParseBy t hs i p → (to p).pattern ≡ p.pattern
  pub end : (i : ℕ) (p : Parse) → IsParseBy t hs i p → (to p).end ≡ p.end
  pub groups : (i : ℕ) (p : Parse) → IsParseBy t hs i p → (n : ℕ) → group_of n (to p).tree ≡ group_of n p.tree
  pub all : (i : ℕ) (p : Parse) → IsParseBy t gs i p → IsParseBy t hs i (from p) × (to (from p) ≡ p)
  pub ordered : (i : ℕ) (p r : Parse) → IsParseBy t hs i p → IsParseBy t hs i r → IsBeforeBy hs p r → IsBeforeBy gs (to p) (to r)

-- Two regexes see the same of a text, apart from their patterns.
pub record SeeAlike (q r : Sought) : Type 0 where
  pub terminator : r.terminator ≡ q.terminator
  pub passing : passes_over r ≡ passes_over q

-- Patterns that have the same parses in the same order give the same answers, with the same groups.
pub record SamenessLaw : Type 0 where
  pub answers : (q r : Sought) (s : Searched) (to from : Parse → Parse) → SeeksPlain q → SeeksPlain r → SeeAlike q r →
      HaveSameParses (text_of q.terminator s) q.patterns r.patterns to from → answer (search_for r s) ≡ answer (search_for q s)
  pub preferred : (q r : Sought) (s : Searched) (to from : Parse → Parse) → SeeAlike q r →
      HaveSameParses (text_of q.terminator s) q.patterns r.patterns to from → (x : ℕ) (p : Parse) → IsPreferred q s x p →
      IsPreferred r s x (to p) × ((n : ℕ) → group_of n (to p).tree ≡ group_of n p.tree)
  -- This is so if a choice in front of something becomes a choice of what is spelled with it.
  pub factored : (t : Text) (a b rest : Re) → (to : Parse → Parse) × (from : Parse → Parse)
      × HaveSameParses t (cat (alt a (alt b none)) rest ∷ []) (alt (cat a rest) (alt (cat b rest) none) ∷ []) to from

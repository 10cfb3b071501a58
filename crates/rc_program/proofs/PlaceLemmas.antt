-- The places of parts and programs: how many there are, and which numbers stand in them.
use Rattle.std.proofs.Common.{◌≡◌, ◌≢◌, ℕ, zero, suc, ◌+◌, ◌-◌, ◌*◌, ◌<◌, ◌≤◌, List, [], ◌∷◌, ◌++◌, length, map, ⊎_elim, sym, subst, ap, ◌∙◌, refl, arith, Bool, true, false, Option, Some, None, if◌then◌else◌, length-append}
use Rattle.std.specs.Prelude.{All}
use Rattle.std.specs.List.{AllByRecursion, range_with_len}
use Rattle.std.proofs.lemmas.Bool.{cases_lt}
use Rattle.std.proofs.lemmas.List.Elements.{All-from_recursion, recursion_from_All, All-head, All-tail}
use Rattle.rc_pattern.specs.declared.hir.Look.{Look}
use Rattle.rc_pattern.specs.Re.{Re, Range, empty, literal, byte_in, char_in, look, repeat, capture, cat, alt, none}
use Rattle.rc_pattern.specs.WellFormed.{group_numbers, group_count}
use Rattle.rc_walks.specs.Walks.{Pair, IsIn}
use Rattle.rc_program.specs.Text.{Text, ahead, holds}
use Rattle.rc_program.specs.Scalars.{scalar_at}
use Rattle.rc_program.specs.Program.{Place, choice, byte, branch, scalar, guard, slot, accept, Part, one, pass, dead, then_part, either, optional, plus, body_or_out, copies, up_to, at_least, repeated, bytes_in_order, literal_part, part, pattern_part, choice_of_patterns, program, entry, entry_from, Way, stays, reads, in_ranges, over_scalar, branch_ways, ways_out, pair_at, place_at, ways}
use Rattle.rc_program.specs.Laws.{targets, IsClosed, IsNumbered, all_groups, slot_count}
use Rattle.rc_program.proofs.WayLemmas.{in_map, past_places}

pub each_append : {X : Type 0} (P : X → Type 0) (xs ys : List X) → AllByRecursion P xs → AllByRecursion P ys → AllByRecursion P (xs ++ ys)
each_append P [] ys a b = b
each_append P (x ∷ xs) ys a b = (a.0, each_append P xs ys a.1 b)

pub each_left : {X : Type 0} (P : X → Type 0) (xs ys : List X) → AllByRecursion P (xs ++ ys) → AllByRecursion P xs
each_left P [] ys a = tt
each_left P (x ∷ xs) ys a = (a.0, each_left P xs ys a.1)

pub each_right : {X : Type 0} (P : X → Type 0) (xs ys : List X) → AllByRecursion P (xs ++ ys) → AllByRecursion P ys
each_right P [] ys a = a
each_right P (x ∷ xs) ys a = each_right P xs ys a.1

pub each_weaker : {X : Type 0} (P Q : X → Type 0) → ((x : X) → P x → Q x) → (xs : List X) → AllByRecursion P xs → AllByRecursion Q xs
each_weaker P Q f [] a = tt
each_weaker P Q f (x ∷ xs) a = (f x a.0, each_weaker P Q f xs a.1)

pub each_always : {X : Type 0} (P : X → Type 0) → ((x : X) → P x) → (xs : List X) → AllByRecursion P xs
each_always P f [] = tt
each_always P f (x ∷ xs) = (f x, each_always P f xs)

abbrev pub IsBetween : ℕ → ℕ → ℕ → Type 0
IsBetween lo hi n = (lo ≤ n) × (n < hi)

-- The numbers of places in it lie between lo and hi, its slot is such a one, and so is its pattern. Programs of patterns have no `branch`.
abbrev pub LiesInPart : (ℕ → Type 0) → (ℕ → Type 0) → ℕ → ℕ → Place → Type 0
LiesInPart Names Accepts lo hi (choice ns) = AllByRecursion (IsBetween lo hi) ns
LiesInPart Names Accepts lo hi (byte rs n) = IsBetween lo hi n
LiesInPart Names Accepts lo hi (branch ts) = ⊥
LiesInPart Names Accepts lo hi (scalar rs n) = IsBetween lo hi n
LiesInPart Names Accepts lo hi (guard l n) = IsBetween lo hi n
LiesInPart Names Accepts lo hi (slot k n) = Names k × IsBetween lo hi n
LiesInPart Names Accepts lo hi (accept p) = Accepts p

module _ (s : ℕ) (Names : ℕ → Type 0) where
  -- the slots of group n are such ones, where group 1 has its first at s
  abbrev pub NamesGroup : ℕ → Type 0
  NamesGroup n = Names (s + 2 * (n - 1)) × Names (s + 2 * (n - 1) + 1)

  -- The part has as many places as it says, one at least, no match place, and leads from each to its own or to the place after it.
  pub record IsOwn (a : Part) : Type 0 where
    pub some : 0 < a.size
    pub sized : (start next : ℕ) → length (a.places s start next) ≡ a.size
    pub sound : (start next lo hi : ℕ) → lo ≤ start → start + a.size ≤ hi → IsBetween lo hi next →
        AllByRecursion (LiesInPart Names (λ p. ⊥) lo hi) (a.places s start next)

  one_own : (place : ℕ → ℕ → Place) →
      ((next lo hi : ℕ) → IsBetween lo hi next → LiesInPart Names (λ p. ⊥) lo hi (place s next)) → IsOwn (one place)
  one_own place h = record {
    some = omega arith;
    sized = λ start next. refl;
    sound = λ start next lo hi a b c. (h next lo hi c, tt);
  }

  pass_own : IsOwn pass
  pass_own = one_own (λ s next. choice (next ∷ [])) (λ next lo hi c. (c, tt))

  dead_own : IsOwn dead
  dead_own = one_own (λ s next. choice []) (λ next lo hi c. tt)

  then_own : (a b : Part) → IsOwn a → IsOwn b → IsOwn (then_part a b)
  then_own a b x y = record {
    some = let p = x.some in omega (arith, p);
    sized = λ start next.
        let l = length-append (a.places s start (start + a.size)) (b.places s (start + a.size) next) in
        let h = x.sized start (start + a.size) in let k = y.sized (start + a.size) next in omega (arith, l, h, k);
    sound = λ start next lo hi low high c.
        let p = y.some in
        each_append _ (a.places s start (start + a.size)) (b.places s (start + a.size) next)
        (x.sound start (start + a.size) lo hi low (omega arith) (omega arith, omega (arith, p)))
        (y.sound (start + a.size) next lo hi (omega arith) (omega arith) c);
  }

  either_own : (a b : Part) → IsOwn a → IsOwn b → IsOwn (either a b)
  either_own a b x y = record {
    some = omega arith;
    sized = λ start next.
        let l = length-append (a.places s (start + 1) next) (b.places s (start + 1 + a.size) next) in
        let h = x.sized (start + 1) next in let k = y.sized (start + 1 + a.size) next in omega (arith, l, h, k);
    sound = λ start next lo hi low high c.
        let p = x.some in let q = y.some in (
          ((omega arith, omega (arith, p)), ((omega arith, omega (arith, q)), tt)),
          each_append _ (a.places s (start + 1) next) (b.places s (start + 1 + a.size) next)
              (x.sound (start + 1) next lo hi (omega arith) (omega arith) c)
              (y.sound (start + 1 + a.size) next lo hi (omega arith) (omega arith) c),
        );
  }

  body_or_out_sound : (greedy : Bool) (body out lo hi : ℕ) → IsBetween lo hi body → IsBetween lo hi out →
      LiesInPart Names (λ p. ⊥) lo hi (body_or_out greedy body out)
  body_or_out_sound true body out lo hi h k = (h, (k, tt))
  body_or_out_sound false body out lo hi h k = (k, (h, tt))

  optional_own : (greedy : Bool) (a : Part) → IsOwn a → IsOwn (optional greedy a)
  optional_own greedy a x = record {
    some = omega arith;
    sized = λ start next. let h = x.sized (start + 1) next in omega (arith, h);
    sound = λ start next lo hi low high c.
        let p = x.some in (
          body_or_out_sound greedy (start + 1) next lo hi (omega arith, omega (arith, p)) c,
          x.sound (start + 1) next lo hi (omega arith) (omega arith) c,
        );
  }

  plus_own : (greedy : Bool) (a : Part) → IsOwn a → IsOwn (plus greedy a)
  plus_own greedy a x = record {
    some = omega arith;
    sized = λ start next.
        let l = length-append (a.places s start (start + a.size)) (body_or_out greedy start next ∷ []) in
        let h = x.sized start (start + a.size) in omega (arith, l, h);
    sound = λ start next lo hi low high c.
        each_append _ (a.places s start (start + a.size)) (body_or_out greedy start next ∷ [])
        (x.sound start (start + a.size) lo hi low (omega arith) (omega arith, omega arith))
        (body_or_out_sound greedy start next lo hi (low, omega arith) c, tt);
  }

  copies_own : (n : ℕ) (a b : Part) → IsOwn a → IsOwn b → IsOwn (copies n a b)
  copies_own zero a b x y = y
  copies_own (suc n) a b x y = then_own a (copies n a b) x (copies_own n a b x y)

  up_to_own : (greedy : Bool) (n : ℕ) (a : Part) → IsOwn a → IsOwn (up_to greedy n a)
  up_to_own greedy zero a x = pass_own
  up_to_own greedy (suc n) a x = optional_own greedy (then_part a (up_to greedy n a)) (then_own a (up_to greedy n a) x (up_to_own greedy n a x))

  at_least_own : (min : ℕ) (greedy : Bool) (a : Part) → IsOwn a → IsOwn (at_least min greedy a)
  at_least_own zero greedy a x = optional_own greedy (plus greedy a) (plus_own greedy a x)
  at_least_own (suc n) greedy a x = copies_own n a (plus greedy a) x (plus_own greedy a x)

  repeated_own : (min : ℕ) (max : Option ℕ) (greedy : Bool) (a : Part) → IsOwn a → IsOwn (repeated min max greedy a)
  repeated_own min None greedy a x = at_least_own min greedy a x
  repeated_own min (Some max) greedy a x = copies_own min a (up_to greedy (max - min) a) x (up_to_own greedy (max - min) a x)

  byte_own : (rs : List Range) → IsOwn (one (λ s. byte rs))
  byte_own rs = one_own (λ s. byte rs) (λ next lo hi c. c)

  bytes_own : (b : ℕ) (bs : List ℕ) → IsOwn (bytes_in_order b bs)
  bytes_own b [] = byte_own ((b, b) ∷ [])
  bytes_own b (c ∷ bs) = then_own (one (λ s. byte ((b, b) ∷ []))) (bytes_in_order c bs) (byte_own ((b, b) ∷ [])) (bytes_own c bs)

  literal_own : (bs : List ℕ) → IsOwn (literal_part bs)
  literal_own [] = pass_own
  literal_own (b ∷ bs) = bytes_own b bs

  capture_own : (n : ℕ) (a : Part) → NamesGroup n → IsOwn a →
      IsOwn (then_part (one (λ s. slot (s + 2 * (n - 1)))) (then_part a (one (λ s. slot (s + 2 * (n - 1) + 1)))))
  capture_own n a g x =
      then_own (one (λ s. slot (s + 2 * (n - 1)))) (then_part a (one (λ s. slot (s + 2 * (n - 1) + 1))))
      (one_own (λ s. slot (s + 2 * (n - 1))) (λ next lo hi c. (g.0, c)))
      (then_own a (one (λ s. slot (s + 2 * (n - 1) + 1))) x
      (one_own (λ s. slot (s + 2 * (n - 1) + 1)) (λ next lo hi c. (g.1, c))))

  -- the part of a pattern is such a part
  pub part_own : (h : Re) → AllByRecursion NamesGroup (group_numbers h) → IsOwn (part h)
  part_own empty g = pass_own
  part_own (literal bs) g = literal_own bs
  part_own (byte_in rs) g = byte_own rs
  part_own (char_in rs) g = one_own (λ s. scalar rs) (λ next lo hi c. c)
  part_own (look l) g = one_own (λ s. guard l) (λ next lo hi c. c)
  part_own (repeat min max greedy a) g = repeated_own min max greedy (part a) (part_own a g)
  part_own (capture n name a) g = capture_own n (part a) g.0 (part_own a g.1)
  part_own (cat a rest) g =
      then_own (part a) (part rest) (part_own a (each_left _ (group_numbers a) (group_numbers rest) g))
      (part_own rest (each_right _ (group_numbers a) (group_numbers rest) g))
  part_own (alt a rest) g =
      either_own (part a) (part rest) (part_own a (each_left _ (group_numbers a) (group_numbers rest) g))
      (part_own rest (each_right _ (group_numbers a) (group_numbers rest) g))
  part_own none g = dead_own

abbrev pub AnyNumber : ℕ → Type 0
AnyNumber k = Unit {0}

-- any slots do
pub any_groups : (s : ℕ) (h : Re) → AllByRecursion (NamesGroup s AnyNumber) (group_numbers h)
any_groups s h = each_always (NamesGroup s AnyNumber) (λ n. (tt, tt)) (group_numbers h)

-- the part of a pattern, whatever slots its groups have
pub part_is_own : (s : ℕ) (h : Re) → IsOwn s AnyNumber (part h)
part_is_own s h = part_own s AnyNumber h (any_groups s h)

-- a part has as many places as its size says
pub part_sized : (h : Re) (s start next : ℕ) → length ((part h).places s start next) ≡ (part h).size
part_sized h s start next = (part_is_own s h).sized start next

-- a part has a place
pub part_some : (h : Re) → 0 < (part h).size
part_some h = (part_is_own 0 h).some

-- a pattern's part has one place more, its match place
pub pattern_sized : (p s : ℕ) (h : Re) (slots start next : ℕ) → length ((pattern_part p s h).places slots start next) ≡ (pattern_part p s h).size
pattern_sized p s h slots start next =
    let k = part_sized h s start (start + (part h).size) in
    let l = length-append ((part h).places s start (start + (part h).size)) (accept p ∷ []) in omega (arith, k, l)

-- a choice of patterns has as many places as its size says
pub choice_sized : (p s : ℕ) (hs : List Re) (slots start next : ℕ) →
    length ((choice_of_patterns p s hs).places slots start next) ≡ (choice_of_patterns p s hs).size
choice_sized p s [] slots start next = refl
choice_sized p s (h ∷ hs) slots start next =
    let a = pattern_part p s h in let b = choice_of_patterns (p + 1) (s + 2 * group_count h) hs in
    let l = length-append (a.places slots (start + 1) next) (b.places slots (start + 1 + a.size) next) in
    let k = pattern_sized p s h slots (start + 1) next in
    let r = choice_sized (p + 1) (s + 2 * group_count h) hs slots (start + 1 + a.size) next in omega (arith, l, k, r)

-- a choice of patterns has a place
pub choice_some : (p s : ℕ) (hs : List Re) → 0 < (choice_of_patterns p s hs).size
choice_some p s [] = omega arith
choice_some p s (h ∷ hs) = omega arith

-- how many places a program has
pub length-program : (hs : List Re) → length (program hs) ≡ (choice_of_patterns 0 (2 * length hs) hs).size
length-program hs = choice_sized 0 (2 * length hs) hs 0 0 0

sound_wider : (Names Accepts : ℕ → Type 0) (lo hi : ℕ) (q : Place) → LiesInPart Names (λ p. ⊥) lo hi q → LiesInPart Names Accepts lo hi q
sound_wider Names Accepts lo hi (choice ns) h = h
sound_wider Names Accepts lo hi (byte rs n) h = h
sound_wider Names Accepts lo hi (branch ts) h = h
sound_wider Names Accepts lo hi (scalar rs n) h = h
sound_wider Names Accepts lo hi (guard l n) h = h
sound_wider Names Accepts lo hi (slot k n) h = h
sound_wider Names Accepts lo hi (accept p) h = absurd h

module _ (Names Accepts : ℕ → Type 0) where
  -- each slot that a group of the patterns names is such a one, and so is each of their numbers
  abbrev pub Suit : ℕ → ℕ → List Re → Type 0
  Suit p s [] = Unit {0}
  Suit p s (h ∷ hs) = AllByRecursion (NamesGroup s Names) (group_numbers h) × Accepts p × Suit (p + 1) (s + 2 * group_count h) hs

  -- the places of a pattern's part, with its match place
  pub pattern_sound : (p s : ℕ) (h : Re) → AllByRecursion (NamesGroup s Names) (group_numbers h) → Accepts p → (slots start next lo hi : ℕ) → lo ≤ start →
      start + (pattern_part p s h).size ≤ hi → AllByRecursion (LiesInPart Names Accepts lo hi) ((pattern_part p s h).places slots start next)
  pattern_sound p s h groups ok slots start next lo hi low high =
      let places = (part h).places s start (start + (part h).size) in
      each_append (LiesInPart Names Accepts lo hi) places (accept p ∷ [])
      (each_weaker (LiesInPart Names (λ p. ⊥) lo hi) (LiesInPart Names Accepts lo hi) (λ q x. sound_wider Names Accepts lo hi q x) places
      ((part_own s Names h groups).sound start (start + (part h).size) lo hi low (omega arith) (omega arith, omega arith)))
      (ok, tt)

  -- the places of a choice of patterns
  pub choice_sound : (p s : ℕ) (hs : List Re) → Suit p s hs → (slots start next lo hi : ℕ) → lo ≤ start →
      start + (choice_of_patterns p s hs).size ≤ hi →
      AllByRecursion (LiesInPart Names Accepts lo hi) ((choice_of_patterns p s hs).places slots start next)
  choice_sound p s [] suit slots start next lo hi low high = (tt, tt)
  choice_sound p s (h ∷ hs) suit slots start next lo hi low high =
      let a = pattern_part p s h in
      let b = choice_of_patterns (p + 1) (s + 2 * group_count h) hs in
      let some : 0 < b.size = choice_some (p + 1) (s + 2 * group_count h) hs in (
        ((omega arith, omega arith), ((omega arith, omega (arith, some)), tt)),
        each_append (LiesInPart Names Accepts lo hi) (a.places slots (start + 1) next) (b.places slots (start + 1 + a.size) next)
            (pattern_sound p s h suit.0 suit.1 slots (start + 1) next lo hi (omega arith) (omega arith))
            (choice_sound (p + 1) (s + 2 * group_count h) hs suit.2 slots (start + 1 + a.size) next lo hi (omega arith) (omega arith)),
      )

  -- each place of the program of patterns that suit
  pub program_sound : (hs : List Re) → Suit 0 (2 * length hs) hs → AllByRecursion (LiesInPart Names Accepts 0 (length (program hs))) (program hs)
  program_sound hs suit =
      let e = length-program hs in choice_sound 0 (2 * length hs) hs suit 0 0 0 0 (length (program hs)) (omega arith) (omega (arith, e))

numbers_suit : (count p s : ℕ) (hs : List Re) → p + length hs ≤ count → Suit AnyNumber (λ p. p < count) p s hs
numbers_suit count p s [] h = tt
numbers_suit count p s (a ∷ hs) h = (
  any_groups s a,
  omega arith,
  numbers_suit count (p + 1) (s + 2 * group_count a) hs (omega arith),
)

-- the numbers in a program's places are below its length, and its match places are those of its patterns
pub program_numbers : (hs : List Re) → AllByRecursion (LiesInPart AnyNumber (λ p. p < length hs) 0 (length (program hs))) (program hs)
program_numbers hs = program_sound AnyNumber (λ p. p < length hs) hs (numbers_suit (length hs) 0 (2 * length hs) hs (omega arith))

-- any slot is such a one, and a later pattern's number is above
pub later_suit : (low p s : ℕ) (hs : List Re) → low < p → Suit AnyNumber (λ q. low < q) p s hs
later_suit low p s [] h = tt
later_suit low p s (a ∷ hs) h =
    (any_groups s a, h, later_suit low (p + 1) (s + 2 * group_count a) hs (omega arith))

-- the numbers in a place lie where they should
pub sound_targets : (Names Accepts : ℕ → Type 0) (lo hi : ℕ) (q : Place) → LiesInPart Names Accepts lo hi q → AllByRecursion (IsBetween lo hi) (targets q)
sound_targets Names Accepts lo hi (choice ns) h = h
sound_targets Names Accepts lo hi (byte rs n) h = (h, tt)
sound_targets Names Accepts lo hi (branch ts) h = absurd h
sound_targets Names Accepts lo hi (scalar rs n) h = (h, tt)
sound_targets Names Accepts lo hi (guard l n) h = (h, tt)
sound_targets Names Accepts lo hi (slot k n) h = (h.1, tt)
sound_targets Names Accepts lo hi (accept p) h = tt

-- the program of a list of patterns is closed
pub program_is_closed : (hs : List Re) → IsClosed (program hs)
program_is_closed hs =
    All-from_recursion (λ q. All (λ n. n < length (program hs)) (targets q)) (program hs)
    (each_weaker (LiesInPart AnyNumber (λ p. p < length hs) 0 (length (program hs))) (λ q. All (λ n. n < length (program hs)) (targets q))
    (λ q x. All-from_recursion (λ n. n < length (program hs)) (targets q)
    (each_weaker (IsBetween 0 (length (program hs))) (λ n. n < length (program hs)) (λ n i. i.1) (targets q)
    (sound_targets AnyNumber (λ p. p < length hs) 0 (length (program hs)) q x)))
    (program hs) (program_numbers hs))

-- the place to which a way leads
abbrev pub goal_of : Way → ℕ
goal_of (stays n) = n
goal_of (reads count n) = n

module _ (P : ℕ → Type 0) where
  stays_to : (ns : List ℕ) → AllByRecursion P ns → AllByRecursion (λ w. P (goal_of w)) (map stays ns)
  stays_to [] h = tt
  stays_to (n ∷ ns) h = (h.0, stays_to ns h.1)

  to_if : (b : Bool) (w : Way) → P (goal_of w) → AllByRecursion (λ w. P (goal_of w)) (if b then w ∷ [] else [])
  to_if true w h = (h, tt)
  to_if false w h = tt

  to_more : (b : Bool) (w : Way) (ws : List Way) → P (goal_of w) → AllByRecursion (λ w. P (goal_of w)) ws →
      AllByRecursion (λ w. P (goal_of w)) (if b then w ∷ ws else ws)
  to_more true w ws h k = (h, k)
  to_more false w ws h k = k

  branch_to : (b : ℕ) (ts : List (Range × ℕ)) → AllByRecursion P (map (λ (t : Range × ℕ). t.1) ts) →
      AllByRecursion (λ w. P (goal_of w)) (branch_ways b ts)
  branch_to b [] h = tt
  branch_to b (t ∷ ts) h = to_more _ (reads 1 t.1) (branch_ways b ts) h.0 (branch_to b ts h.1)

  scalar_to : (rs : List Range) (n : ℕ) (o : Option (ℕ × ℕ)) → P n → AllByRecursion (λ w. P (goal_of w)) (over_scalar rs n o)
  scalar_to rs n None h = tt
  scalar_to rs n (Some s) h = to_if (in_ranges rs s.0) (reads s.1 n) h

  -- each way out leads to a place whose number stands in the place
  pub ways_out_to : (test : Look → Bool) (bytes : List ℕ) (q : Place) → AllByRecursion P (targets q) →
      AllByRecursion (λ w. P (goal_of w)) (ways_out test bytes q)
  ways_out_to test bytes (choice ns) h = stays_to ns h
  ways_out_to test [] (byte rs n) h = tt
  ways_out_to test (b ∷ bs) (byte rs n) h = to_if (in_ranges rs b) (reads 1 n) h.0
  ways_out_to test [] (branch ts) h = tt
  ways_out_to test (b ∷ bs) (branch ts) h = branch_to b ts h
  ways_out_to test bytes (scalar rs n) h = scalar_to rs n (scalar_at bytes) h.0
  ways_out_to test bytes (guard l n) h = to_if (test l) (stays n) h.0
  ways_out_to test bytes (slot k n) h = (h.0, tt)
  ways_out_to test bytes (accept p) h = tt

goal_at : (i : ℕ) (w : Way) → (pair_at i w).0 ≡ goal_of w
goal_at i (stays n) = refl
goal_at i (reads count n) = refl

-- what holds of each number in a place holds of the place to which a way out leads
pub way_to : (P : ℕ → Type 0) (places : List Place) (t : Text) (hi : ℕ) (n m : Pair) →
    AllByRecursion P (targets (place_at places n.0)) → IsIn m (ways places t hi n) → P m.0
way_to P places t hi n m h i =
    let r = in_map (λ w. P (goal_of w)) (ways_out (λ l. holds t l n.1) (ahead t hi n.1) (place_at places n.0)) n.1 m
    (ways_out_to P (λ l. holds t l n.1) (ahead t hi n.1) (place_at places n.0) h) i in
    subst P (sym (goal_at n.1 r.0) ∙ ap (λ (k : Pair). k.0) r.2) r.1

-- a way out of a closed program's pair leads to one of its places
pub ways_closed : (places : List Place) → IsClosed places → (t : Text) (hi : ℕ) (n m : Pair) → IsIn m (ways places t hi n) → m.0 < length places
ways_closed places closed t hi n m i =
    ⊎_elim
    (λ l. way_to (λ k. k < length places) places t hi n m
    (recursion_from_All (λ k. k < length places) (targets (place_at places n.0)) (closed n.0 (choice []) l)) i)
    (λ ge. absurd (way_to (λ k. ⊥) places t hi n m
    (subst (λ q. AllByRecursion (λ k. ⊥) (targets q)) (sym (past_places places n.0 ge)) tt) i))
    (cases_lt n.0 (length places))

accepts_of : (count lo hi : ℕ) (q : Place) (p : ℕ) → LiesInPart AnyNumber (λ p. p < count) lo hi q → q ≡ accept p → p < count
accepts_of count lo hi q p h e = subst (LiesInPart AnyNumber (λ p. p < count) lo hi) e h

no_choice : (p : ℕ) → choice [] ≢ accept p
no_choice p e = cc

-- a match place of a program is that of one of its patterns
pub accept_below : (hs : List Re) (n p : ℕ) → place_at (program hs) n ≡ accept p → p < length hs
accept_below hs n p e =
    ⊎_elim
    (λ l. accepts_of (length hs) 0 (length (program hs)) (place_at (program hs) n) p
    (All-from_recursion (LiesInPart AnyNumber (λ p. p < length hs) 0 (length (program hs))) (program hs) (program_numbers hs) n (choice []) l) e)
    (λ ge. absurd (no_choice p (sym (past_places (program hs) n ge) ∙ e)))
    (cases_lt n (length (program hs)))

-- a program has a place
pub program_some : (hs : List Re) → 0 < length (program hs)
program_some hs = let e = length-program hs in let k = choice_some 0 (2 * length hs) hs in omega (arith, e, k)

entry_within : (hs : List Re) (p q s start : ℕ) → entry_from start hs p < start + (choice_of_patterns q s hs).size
entry_within [] p q s start = omega arith
entry_within (h ∷ hs) zero q s start = omega arith
entry_within (h ∷ hs) (suc p) q s start =
    let r = entry_within hs p (q + 1) (s + 2 * group_count h) (start + 1 + ((part h).size + 1)) in omega (arith, r)

-- a pattern is entered at one of the places
pub entry_below : (hs : List Re) (p : ℕ) → entry hs p < length (program hs)
entry_below hs p = let e = length-program hs in let r = entry_within hs p 0 (2 * length hs) 0 in omega (arith, e, r)

each_up_to : (s hi n count : ℕ) → 1 ≤ n → s + 2 * (n - 1 + count) ≤ hi →
    AllByRecursion (NamesGroup s (λ k. IsBetween s hi k)) (range_with_len n count)
each_up_to s hi n zero h k = tt
each_up_to s hi n (suc count) h k =
    (((omega arith, omega arith), (omega arith, omega arith)), each_up_to s hi (n + 1) count (omega arith) (omega arith))

slots_suit : (lo hi p s : ℕ) (hs : List Re) → All IsNumbered hs → lo ≤ s → s + 2 * all_groups hs ≤ hi → Suit (IsBetween lo hi) AnyNumber p s hs
slots_suit lo hi p s [] ok low high = tt
slots_suit lo hi p s (h ∷ hs) ok low high = (
  each_weaker (NamesGroup s (λ k. IsBetween s hi k)) (NamesGroup s (IsBetween lo hi))
      (λ n x. ((omega (arith, x.0.0), x.0.1), (omega (arith, x.1.0), x.1.1))) (group_numbers h)
      (subst (λ ns. AllByRecursion (NamesGroup s (λ k. IsBetween s hi k)) ns) (sym (All-head IsNumbered h hs ok))
      (each_up_to s hi 1 (group_count h) (omega arith) (omega arith))),
  tt,
  slots_suit lo hi (p + 1) (s + 2 * group_count h) hs (All-tail IsNumbered h hs ok) (omega arith) (omega arith),
)

slot_of_sound : (lo hi a b : ℕ) (q : Place) (k m : ℕ) → LiesInPart (IsBetween lo hi) AnyNumber a b q → q ≡ slot k m → IsBetween lo hi k
slot_of_sound lo hi a b q k m h e = (subst (LiesInPart (IsBetween lo hi) AnyNumber a b) e h).0

no_slot : (k m : ℕ) → choice [] ≢ slot k m
no_slot k m e = cc

-- the slots of the groups stand behind two for each pattern, and there are two for each group
pub slot_between : (hs : List Re) → All IsNumbered hs → (n k m : ℕ) → place_at (program hs) n ≡ slot k m →
    (2 * length hs ≤ k) × (k < slot_count hs)
slot_between hs ok n k m e =
    let all = program_sound (IsBetween (2 * length hs) (slot_count hs)) AnyNumber hs
    (slots_suit (2 * length hs) (slot_count hs) 0 (2 * length hs) hs ok (omega arith) (omega arith)) in
    ⊎_elim
    (λ l. slot_of_sound (2 * length hs) (slot_count hs) 0 (length (program hs)) (place_at (program hs) n) k m
    (All-from_recursion (LiesInPart (IsBetween (2 * length hs) (slot_count hs)) AnyNumber 0 (length (program hs))) (program hs) all n (choice []) l) e)
    (λ ge. absurd (no_slot k m (sym (past_places (program hs) n ge) ∙ e)))
    (cases_lt n (length (program hs)))

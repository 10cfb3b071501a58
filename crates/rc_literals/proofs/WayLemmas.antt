-- The first walk of a literal, of an alternation of literals, and of a list of such patterns.
use Rattle.std.proofs.Common.{◌≡◌, ℕ, suc, ◌+◌, ◌<◌, ◌≤◌, List, [], ◌∷◌, length, map, Bool, true, false, true≢false, IsTrue, Option, Some, None, sym, ap, subst, ◌∙◌, refl, arith, inl, inr, ⊎_elim, nat_eq, nat_le, ◌&&◌, ◌||◌, slice_range, if◌then◌else◌}
use Rattle.std.specs.Option.{option_or}
use Rattle.std.proofs.lemmas.Bool.{cases_Bool, cases_eq}
use Rattle.std.proofs.lemmas.Bool.Decides.{nat_tests}
use Rattle.rc_walks.specs.Walks.{Pair, IsIn, IsFirstWalk, HasNoWalk}
use Rattle.rc_walks.proofs.WalkLemmas.{drop_way, first_after, first_stops, first_goes}
use Rattle.rc_walks.proofs.StackLemmas.{dead_if_tried, no_ways}
use Rattle.rc_walks.proofs.TryLemmas.{first_way}
use Rattle.rc_pattern.specs.Re.{Re, literal, alt, none}
use Rattle.rc_program.specs.Text.{Text, holds, ahead}
use Rattle.rc_program.specs.Program.{Place, choice, byte, accept, reads as Reads, in_ranges, over_byte, ways, ways_out, pair_at, place_at, is_match_place, Part, bytes_in_order, part}
use Rattle.rc_program.specs.Answer.{last_of}
use Rattle.rc_program.proofs.WayLemmas.{same_pair, no_match, no_way_from}
use Rattle.rc_program.proofs.AnswerLemmas.{last_of_more}
use Rattle.rc_program.proofs.PlaceLemmas.{part_sized}
use Rattle.rc_program.proofs.PartLemmas.{Stand, Stand-first, Stand-second}
use Rattle.rc_needles.proofs.ReadLemmas.{first_is}

-- the alternation of these literals
abbrev pub alternation : List (List ℕ) → Re
alternation [] = none
alternation (w ∷ ws) = alt (literal w) (alternation ws)

-- the end of a walk of pattern p at position i, if the pattern is allowed
abbrev pub ended : Option ℕ → ℕ → ℕ → Option (ℕ × ℕ)
ended only p i = if is_match_place only (accept p) then Some (p, i) else None

-- where pattern p ends that reads these bytes
abbrev pub reads_for : Option ℕ → List ℕ → ℕ → ℕ → List ℕ → ℕ → Option (ℕ × ℕ)
reads_for only content hi p [] i = ended only p i
reads_for only content hi p (b ∷ bs) i = if first_is b (slice_range content i hi) then reads_for only content hi p bs (i + 1) else None

-- where the first of its needles ends that is read
abbrev pub reads_any : Option ℕ → List ℕ → ℕ → ℕ → List (List ℕ) → ℕ → Option (ℕ × ℕ)
reads_any only content hi p [] i = None
reads_any only content hi p (w ∷ ws) i = option_or (reads_for only content hi p w i) (reads_any only content hi p ws i)

-- no needle is empty
abbrev pub AllSome : List (List ℕ) → Type 0
AllSome [] = Unit {0}
AllSome (w ∷ ws) = (0 < length w) × AllSome ws

no_byte : (only : Option ℕ) (rs : List (ℕ × ℕ)) (n : ℕ) → is_match_place only (byte rs n) ≡ false
no_byte None rs n = refl
no_byte (Some p) rs n = refl

-- the ways over one byte
byte_ways : (b next i : ℕ) (xs : List ℕ) →
    map (pair_at i) (over_byte (λ c. if in_ranges ((b, b) ∷ []) c then Reads 1 next ∷ [] else []) xs) ≡ (if first_is b xs then (next, i + 1) ∷ [] else [])
byte_ways b next i [] = refl
byte_ways b next i (c ∷ cs) =
    let e : ((nat_le b c && nat_le c b) || false) ≡ nat_eq c b =
    elim (cases_eq c b) [ inl h ↦ grind (arith, nat_tests) | inr h ↦ grind (arith, nat_tests) ] in
    rw e (by_test (nat_eq c b))
  where
    by_test : (t : Bool) → map (pair_at i) (if t then Reads 1 next ∷ [] else []) ≡ (if t then (next, i + 1) ∷ [] else [])
    by_test true = refl
    by_test false = refl

module _ (prog : List Place) (t : Text) (hi : ℕ) (only : Option ℕ) where
  abbrev W : Pair → List Pair
  W = ways prog t hi

  abbrev E : Pair → Type 0
  E n = IsTrue (is_match_place only (place_at prog n.0))

  last_way : (n m : Pair) → E n → ¬ IsIn m (W n)
  last_way n m e = no_way_from only (λ l. holds t l n.1) (ahead t hi n.1) (place_at prog n.0) n.1 m e

  -- each pair passed is at an earlier place
  abbrev pub AreBefore : ℕ → List Pair → Type 0
  AreBefore start passed = (k : Pair) → IsIn k passed → k.0 < start

  fresh : (start i : ℕ) (passed : List Pair) → AreBefore start passed → ¬ IsIn (start, i) passed
  fresh start i passed before h = let l = before (start, i) h in omega (arith, l)

  more_before : (start later i : ℕ) (passed : List Pair) → start < later → AreBefore start passed → AreBefore later ((start, i) ∷ passed)
  more_before start later i passed l before k h =
      ⊎_elim (λ e. let f : start ≡ k.0 = ap (λ (m : Pair). m.0) e in omega (arith, f, l)) (λ q. let m = before k q in omega (arith, m, l)) h

  -- the walk ends at a match place of the pattern, at the position
  abbrev pub Ends : List Pair → ℕ × ℕ → Type 0
  Ends w e = (place_at prog (last_of w).0 ≡ accept e.0) × ((last_of w).1 ≡ e.1)

  -- the first walk is of this pattern and ends at this position, or there is none
  abbrev pub Gives : List Pair → List Pair → Option (ℕ × ℕ) → Type 0
  Gives passed from None = HasNoWalk W E passed from
  Gives passed from (Some e) = (w : List Pair) × IsFirstWalk W E passed from w × Ends w e

  -- the pair leads on by its ways
  onward : (start i : ℕ) (passed ms : List Pair) (o : Option (ℕ × ℕ)) → AreBefore start passed → ¬ E (start, i) → W (start, i) ≡ ms →
      Gives ((start, i) ∷ passed) ms o → Gives passed ((start, i) ∷ []) o
  onward start i passed ms None before on out missing =
      λ v walk. dead_if_tried W E on (subst (λ ns. HasNoWalk W E ((start, i) ∷ passed) ns) (sym out) missing) walk
  onward start i passed ms (Some e) before on out g =
      let f = subst (λ ns. IsFirstWalk W E ((start, i) ∷ passed) ns g.0) (sym out) g.1 in
      let same = last_of_more W E (start, i) f.is_walk in (
        (start, i) ∷ g.0,
        first_goes W E same_pair last_way (start, i) passed [] g.0 (fresh start i passed before) on f,
        (ap (λ (n : Pair). place_at prog n.0) same ∙ g.2.0, ap (λ (n : Pair). n.1) same ∙ g.2.1),
      )

  -- no way leads on
  nowhere : (passed : List Pair) → Gives passed [] None
  nowhere passed v walk = no_ways W E walk

  -- one of two ways
  first_of_two : (n : Pair) (passed from : List Pair) (a b : Option (ℕ × ℕ)) → Gives passed (n ∷ []) a → Gives passed from b →
      Gives passed (n ∷ from) (option_or a b)
  first_of_two n passed from None None x y = λ v walk. y v (drop_way W E n x walk)
  first_of_two n passed from None (Some e) x y = (y.0, first_after W E n x y.1, y.2)
  first_of_two n passed from (Some e) b x y = (x.0, first_way W E same_pair n x.1, x.2)

  one_byte : (start after b i : ℕ) (passed : List Pair) (o : Option (ℕ × ℕ)) → place_at prog start ≡ byte ((b, b) ∷ []) after → AreBefore start passed →
      Gives ((start, i) ∷ passed) ((after, i + 1) ∷ []) o →
      Gives passed ((start, i) ∷ []) (if first_is b (slice_range t.content i hi) then o else None)
  one_byte start after b i passed o at before g =
      let on : ¬ E (start, i) = λ e. true≢false (sym e ∙ ap (is_match_place only) at ∙ no_byte only ((b, b) ∷ []) after) in
      let out : W (start, i) ≡ (if first_is b (slice_range t.content i hi) then (after, i + 1) ∷ [] else []) =
      ap (λ q. map (pair_at i) (ways_out (λ l. holds t l i) (ahead t hi i) q)) at ∙ byte_ways b after i (slice_range t.content i hi) in
      elim (cases_Bool (first_is b (slice_range t.content i hi))) [
        | inl y ↦
            rw y (onward start i passed ((after, i + 1) ∷ []) o before on (out ∙ ap (λ z. if z then (after, i + 1) ∷ [] else []) y) g)
        | inr n ↦
            rw n (onward start i passed [] None before on (out ∙ ap (λ z. if z then (after, i + 1) ∷ [] else []) n) (nowhere ((start, i) ∷ passed)))
      ]

  -- a match place, of a pattern that is allowed or not
  at_end : (p next i : ℕ) (passed : List Pair) → place_at prog next ≡ accept p → AreBefore next passed → Gives passed ((next, i) ∷ []) (ended only p i)
  at_end p next i passed at before =
      elim (cases_Bool (is_match_place only (accept p))) [
        | inl y ↦
            rw y ((next, i) ∷ [], first_stops W E same_pair last_way (next, i) passed [] (fresh next i passed before) (ap (is_match_place only) at ∙ y), (at, refl))
        | inr n ↦
            rw n (onward next i passed [] None before (λ e. true≢false (sym e ∙ ap (is_match_place only) at ∙ n))
            (ap (λ q. map (pair_at i) (ways_out (λ l. holds t l i) (ahead t hi i) q)) at) (nowhere ((next, i) ∷ passed)))
      ]

  -- the bytes of a literal in order
  pub bytes_give : (b : ℕ) (bs : List ℕ) (slots start next p i : ℕ) (passed : List Pair) →
      Stand prog start ((bytes_in_order b bs).places slots start next) → place_at prog next ≡ accept p →
      start + suc (length bs) ≤ next → AreBefore start passed → Gives passed ((start, i) ∷ []) (reads_for only t.content hi p (b ∷ bs) i)
  bytes_give b [] slots start next p i passed st end le before =
      one_byte start next b i passed (ended only p (i + 1)) st.0 before
      (at_end p next (i + 1) ((start, i) ∷ passed) end (more_before start next i passed (omega (arith, le)) before))
  bytes_give b (c ∷ bs) slots start next p i passed st end le before =
      let s : suc start ≡ start + 1 = omega arith in
      one_byte start (start + 1) b i passed (reads_for only t.content hi p (c ∷ bs) (i + 1)) st.0 before
      (bytes_give c bs slots (start + 1) next p (i + 1) ((start, i) ∷ passed)
      (subst (λ n. Stand prog n ((bytes_in_order c bs).places slots (start + 1) next)) s st.1) end (omega (arith, le))
      (more_before start (start + 1) i passed (omega arith) before))

  bytes_size : (b : ℕ) (bs : List ℕ) → (bytes_in_order b bs).size ≡ suc (length bs)
  bytes_size b [] = refl
  bytes_size b (c ∷ bs) = let e = bytes_size c bs in omega (arith, e)

  pub literal_gives : (w : List ℕ) (slots start next p i : ℕ) (passed : List Pair) → 0 < length w →
      Stand prog start ((part (literal w)).places slots start next) → place_at prog next ≡ accept p →
      start + (part (literal w)).size ≤ next → AreBefore start passed → Gives passed ((start, i) ∷ []) (reads_for only t.content hi p w i)
  literal_gives [] slots start next p i passed some st end le before = absurd (omega (arith, some))
  literal_gives (b ∷ bs) slots start next p i passed some st end le before =
      bytes_give b bs slots start next p i passed st end (let e = bytes_size b bs in omega (arith, e, le)) before

  not_choice : (ns : List ℕ) (start i : ℕ) → place_at prog start ≡ choice ns → ¬ E (start, i)
  not_choice ns start i at e = true≢false (sym e ∙ ap (is_match_place only) at ∙ no_match only ns)

  choice_ways : (ns : List ℕ) (start i : ℕ) → place_at prog start ≡ choice ns →
      W (start, i) ≡ map (pair_at i) (ways_out (λ l. holds t l i) (ahead t hi i) (choice ns))
  choice_ways ns start i at = ap (λ q. map (pair_at i) (ways_out (λ l. holds t l i) (ahead t hi i) q)) at

  -- a choice of two parts
  pub either_gives : (a b : Part) (start i : ℕ) (passed : List Pair) (x y : Option (ℕ × ℕ)) →
      place_at prog start ≡ choice ((start + 1) ∷ (start + 1 + a.size) ∷ []) → AreBefore start passed →
      (((passed : List Pair) → AreBefore (start + 1) passed → Gives passed ((start + 1, i) ∷ []) x)) →
      (((passed : List Pair) → AreBefore (start + 1 + a.size) passed → Gives passed ((start + 1 + a.size, i) ∷ []) y)) →
      Gives passed ((start, i) ∷ []) (option_or x y)
  either_gives a b start i passed x y at before left right =
      onward start i passed ((start + 1, i) ∷ (start + 1 + a.size, i) ∷ []) (option_or x y) before
      (not_choice ((start + 1) ∷ (start + 1 + a.size) ∷ []) start i at) (choice_ways ((start + 1) ∷ (start + 1 + a.size) ∷ []) start i at)
      (first_of_two (start + 1, i) ((start, i) ∷ passed) ((start + 1 + a.size, i) ∷ []) x y
      (left ((start, i) ∷ passed) (more_before start (start + 1) i passed (omega arith) before))
      (right ((start, i) ∷ passed) (more_before start (start + 1 + a.size) i passed (omega arith) before)))

  pub dead_gives : (start i : ℕ) (passed : List Pair) → place_at prog start ≡ choice [] → AreBefore start passed → Gives passed ((start, i) ∷ []) None
  dead_gives start i passed at before =
      onward start i passed [] None before (not_choice [] start i at) (choice_ways [] start i at) (nowhere ((start, i) ∷ passed))

  -- an alternation of literals
  pub alternation_gives : (ws : List (List ℕ)) (slots start next p i : ℕ) (passed : List Pair) → AllSome ws →
      Stand prog start ((part (alternation ws)).places slots start next) → place_at prog next ≡ accept p →
      start + (part (alternation ws)).size ≤ next → AreBefore start passed → Gives passed ((start, i) ∷ []) (reads_any only t.content hi p ws i)
  alternation_gives [] slots start next p i passed some st end le before = dead_gives start i passed st.0 before
  alternation_gives (w ∷ ws) slots start next p i passed some st end le before =
      let a = part (literal w) in
      let b = part (alternation ws) in
      either_gives a b start i passed (reads_for only t.content hi p w i) (reads_any only t.content hi p ws i) st.0 before
      (λ q r. literal_gives w slots (start + 1) next p i q some.0 (Stand-first prog a b slots start next st) end (omega (arith, le)) r)
      (λ q r. alternation_gives ws slots (start + 1 + a.size) next p i q some.1
      (Stand-second prog a b slots start next (part_sized (literal w) slots (start + 1) next) st) end (omega (arith, le)) r)

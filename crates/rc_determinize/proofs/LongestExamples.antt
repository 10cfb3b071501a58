-- The step for the longest match, run on worked rows.
use Rattle.std.proofs.Common.{◌≡◌, ◌≢◌, ℕ, zero, suc, ◌+◌, ◌⊎◌, List, [], ◌∷◌, ◌++◌, length, map, Option, Some, None, Bool, true, false, true≢false, is_none, nat_eq, eqb-true, ◌&&◌, IsTrue, inl, inr, ⊎_elim, sym, subst, ◌∙◌, append_assoc, refl, codes}
use Rattle.std.specs.Option.{option_or, option_map}
use Rattle.std.proofs.lemmas.Bool.{eqb-false}
use Rattle.std.proofs.lemmas.List.{append-nil}
use Rattle.rc_walks.specs.Walks.{Pair}
use Rattle.rc_pattern.specs.Re.{Re, empty, literal, byte_in, repeat}
use Rattle.rc_pattern.specs.Meaning.{cat_all, alt_all}
use Rattle.rc_program.specs.Program.{Way, stays, reads, program}
use Rattle.rc_program.specs.Answer.{pattern_at}
use Rattle.rc_program.specs.Program.{place_at}
use Rattle.rc_determinize.specs.Steps.{HasPlace, Adds, all_added, adds_one, leaves_out}
use Rattle.rc_determinize.specs.Sides.{told, out_seen}
use Rattle.rc_determinize.specs.States.{Setting, State, is_match, best_at}
use Rattle.rc_determinize.specs.Longest.{groups_of, parted, Closes, GroupSteps, AddsGroups, root_group, IsNextOfLongest}
use Rattle.rc_determinize.specs.Longest as longest
use Rattle.rc_determinize.specs.declared.sides.Seen.{Seen}
use Rattle.rc_determinize.specs.declared.sides.Asked.{Asked}

-- The step, with the proof that it is one; nothing where so many turns aren't enough.

abbrev true_or_false : (b : Bool) → (b ≡ true) ⊎ (b ≡ false)
true_or_false true = inl refl
true_or_false false = inr refl

abbrev same_by : (p q : ℕ) → ((nat_eq p q ≡ true) ⊎ (nat_eq p q ≡ false)) → (p ≡ q) ⊎ (p ≢ q)
same_by p q (inl e) = inl (eqb-true p q e)
same_by p q (inr e) = inr (eqb-false p q e)

abbrev same_or_not : (p q : ℕ) → (p ≡ q) ⊎ (p ≢ q)
same_or_not p q = same_by p q (true_or_false (nat_eq p q))

abbrev has_or_not : (q : ℕ) (list : List ℕ) → HasPlace q list ⊎ (¬ HasPlace q list)
has_or_not q [] = inr (λ h. h)
has_or_not q (p ∷ ps) =
    ⊎_elim (λ e. inl (inl e)) (λ ne. ⊎_elim (λ h. inl (inr h)) (λ no. inr (λ h. ⊎_elim ne no h)) (has_or_not q ps)) (same_or_not p q)

module _ (out : ℕ → List Way) (ends : ℕ → Bool) where
  abbrev Closed : List ℕ → List Way → Type 0
  Closed visited from = (onward : List ℕ) × (matched : Option ℕ) × (visited2 : List ℕ) × Closes out ends visited from onward matched visited2

  abbrev Closer : Type 0
  Closer = (visited : List ℕ) (from : List Way) → Option (Closed visited from)

  abbrev close_both : Closer → (visited : List ℕ) (from : List Way) (q : ℕ) → ¬ HasPlace q visited → ¬ IsTrue (ends q) → Option (Closed (q ∷ visited) (out q)) →
      Option (Closed visited (stays q ∷ from))
  close_both closer visited from q fresh on None = None
  close_both closer visited from q fresh on (Some a) =
      option_map (λ (r : Closed a.2 from). (a.0 ++ r.0, option_or a.1 r.1, r.2, longest.comes_back q fresh on a.3 r.3)) (closer a.2 from)

  abbrev close_new : Closer → (visited : List ℕ) (from : List Way) (q : ℕ) → ¬ HasPlace q visited → ((ends q ≡ true) ⊎ (ends q ≡ false)) →
      Option (Closed visited (stays q ∷ from))
  close_new closer visited from q fresh (inl e) =
      option_map (λ (r : Closed (q ∷ visited) from). (r.0, Some q, r.2, longest.arrives q fresh e r.3)) (closer (q ∷ visited) from)
  close_new closer visited from q fresh (inr e) =
      close_both closer visited from q fresh (λ t. true≢false (sym t ∙ e)) (closer (q ∷ visited) (out q))

  abbrev close : ℕ → Closer
  close zero visited from = None
  close (suc n) visited [] = Some ([], None, visited, longest.out_of_ways)
  close (suc n) visited (reads zero q ∷ from) = None
  close (suc n) visited (reads (suc zero) q ∷ from) =
      option_map (λ (r : Closed visited from). (q ∷ r.0, r.1, r.2, longest.hands_on q r.3)) (close n visited from)
  close (suc n) visited (reads (suc (suc k)) q ∷ from) = None
  close (suc n) visited (stays q ∷ from) =
      ⊎_elim (λ h. option_map (λ (r : Closed visited from). (r.0, r.1, r.2, longest.skips q h r.3)) (close n visited from))
      (λ no. close_new (close n) visited from q no (true_or_false (ends q))) (has_or_not q visited)

  abbrev Grouped : List ℕ → List (List ℕ) → Type 0
  Grouped visited groups = (onward : List (List ℕ)) × (matched : Option ℕ) × GroupSteps out ends visited groups onward matched

  -- of a group that is closed over, what comes of it and of those behind
  abbrev group_met : (visited group : List ℕ) (groups : List (List ℕ)) (onward visited2 : List ℕ) (matched : Option ℕ) →
      Closes out ends visited (map stays group) onward matched visited2 → Option (Grouped visited2 groups) → Option (Grouped visited (group ∷ groups))
  group_met visited group groups onward visited2 None c rest =
      option_map (λ (r : Grouped visited2 groups). (onward ∷ r.0, r.1, longest.goes c r.2)) rest
  group_met visited group groups onward visited2 (Some e) c rest = Some (onward ∷ [], Some e, longest.stops c)

  abbrev close_first : (visited group : List ℕ) (groups : List (List ℕ)) → ((visited2 : List ℕ) → Option (Grouped visited2 groups)) →
      Option (Closed visited (map stays group)) → Option (Grouped visited (group ∷ groups))
  close_first visited group groups rest None = None
  close_first visited group groups rest (Some c) = group_met visited group groups c.0 c.2 c.1 c.3 (rest c.2)

  abbrev close_groups : ℕ → (visited : List ℕ) (groups : List (List ℕ)) → Option (Grouped visited groups)
  close_groups n visited [] = Some ([], None, longest.over)
  close_groups n visited (group ∷ groups) =
      close_first visited group groups (λ v. close_groups n v groups) (close n visited (map stays group))

abbrev Added : List ℕ → List ℕ → Type 0
Added list qs = (own : List ℕ) × Adds list qs (list ++ own)

abbrev added : (list qs : List ℕ) → Added list qs
added list [] = ([], subst (λ x. Adds list [] x) (sym (append-nil list)) all_added)
added list (q ∷ qs) =
    ⊎_elim (λ old. let r = added list qs in (r.0, leaves_out q old r.1))
    (λ fresh. let r = added (list ++ q ∷ []) qs in
    (q ∷ r.0, adds_one q fresh (subst (λ x. Adds (list ++ q ∷ []) qs x) (append_assoc list (q ∷ []) r.0) r.1)))
    (has_or_not q list)

abbrev added_groups : (listed : List ℕ) (groups : List (List ℕ)) → (new : List (List ℕ)) × AddsGroups listed groups new
added_groups listed [] = ([], longest.all_added)
added_groups listed (group ∷ groups) =
    let r = added listed group in let rest = added_groups (listed ++ r.0) groups in (r.0 ∷ rest.0, longest.adds r.1 rest.1)

abbrev Next : Setting → State → Option ℕ → Type 0
Next g s after = (t : State) × IsNextOfLongest g 0 s after t

abbrev Made : Setting → State → Option ℕ → Type 0
Made g s after = Grouped (out_seen g.places g.needs g.terminator s.beside after) (is_match g.places) [] (groups_of (length g.places) s.list)

abbrev made : (g : Setting) (s : State) (after : Option ℕ) → Made g s after → Next g s after
made g s after r =
    let on = s.goes_on && is_none r.1 in
    let new = added_groups [] (r.0 ++ root_group on 0) in (
      record { list = parted (length g.places) new.0; beside = told g.needs g.terminator after; goes_on = on; matched = r.1 },
      record { onward = r.0; groups = new.0; steps = r.2; goes_on = refl; once = new.1; list = refl; beside = refl },
    )

abbrev next : ℕ → (g : Setting) (s : State) (after : Option ℕ) → Option (Next g s after)
next n g s after = option_map (made g s after) (close_groups (out_seen g.places g.needs g.terminator s.beside after) (is_match g.places) n [] (groups_of (length g.places) s.list))

abbrev nothing : Asked
nothing = record { facts = record { edge = false; terminator = false; line_feed = false; carriage_return = false; word = false }; unicode = false }

abbrev unseen : Seen
unseen = record { edge = false; terminator = false; line_feed = false; carriage_return = false; word = false; letter = false; broken = false }

-- the lists of the states on the way, and what was met last, with the number of its pattern
abbrev Ran : Type 0
Ran = List (List ℕ) × Option (ℕ × ℕ)

abbrev ran_out : Setting → ℕ → Option Pair → Option State → Ran
ran_out g i best None = ([], None)
ran_out g i best (Some s) = ([], option_map (λ (n : Pair). (pattern_at (place_at g.places n.0), n.1)) (best_at i s.matched best))

abbrev ran_on : ℕ → Option Pair → (State → Option Pair → Ran) → Option State → Ran
ran_on i best rest None = ([], None)
ran_on i best rest (Some s) = let r = rest s (best_at i s.matched best) in (s.list ∷ r.0, r.1)

abbrev run : Setting → List ℕ → ℕ → State → Option Pair → Ran
run g [] i s best = ran_out g i best (option_map (λ (r : Next g s None). r.0) (next 40 g s None))
run g (b ∷ bs) i s best = ran_on i best (run g bs (i + 1)) (option_map (λ (r : Next g s (Some b)). r.0) (next 40 g s (Some b)))

-- a search for the patterns, at any position or at the first alone
abbrev over : Bool → List Re → List ℕ → Ran
over goes_on hs text =
    run (record { places = program hs; needs = nothing; terminator = 10 }) text 0 (record { list = 0 ∷ []; beside = unseen; goes_on = goes_on; matched = None }) None

abbrev a : Re
a = literal (codes "a")

abbrev ab : Re
ab = literal (codes "ab")

abbrev bcd : Re
bcd = literal (codes "bcd")

abbrev d : Re
d = literal (codes "d")

abbrev word : Re
word = repeat 1 None true (byte_in ((97, 122) ∷ []))

-- `a|ab` on `xab`: the longer match takes the place of the shorter
longer : (over true (alt_all (a ∷ ab ∷ []) ∷ []) (codes "xab")).1 ≡ Some (0, 3)
longer = refl

-- `a|bcd` on `abcd`: the least start comes before the length
leftmost : (over true (alt_all (a ∷ bcd ∷ []) ∷ []) (codes "abcd")).1 ≡ Some (0, 1)
leftmost = refl

-- `abcd|bc` on `abcd` and `abce`: a later match of a lesser start takes the place of one that was met before
lesser_start : (over true (alt_all (literal (codes "abcd") ∷ literal (codes "bc") ∷ []) ∷ []) (codes "abcd")).1 ≡ Some (0, 4)
lesser_start = refl

greater_start : (over true (alt_all (literal (codes "abcd") ∷ literal (codes "bc") ∷ []) ∷ []) (codes "abce")).1 ≡ Some (0, 3)
greater_start = refl

-- `(a|ab)(c|bcd)(d*)` on `abcd`
parts : (over true (cat_all (alt_all (a ∷ ab ∷ []) ∷ alt_all (literal (codes "c") ∷ bcd ∷ []) ∷ repeat 0 None true d ∷ []) ∷ []) (codes "abcd")).1 ≡ Some (0, 4)
parts = refl

-- `(|a)+` on `aaa`: the empty turn doesn't keep the others back
empty_turns : (over true (repeat 1 None true (alt_all (empty ∷ a ∷ [])) ∷ []) (codes "aaa")).1 ≡ Some (0, 3)
empty_turns = refl

-- `a`, `ab`, `ab` on `ab`: of two patterns with the same longest end the first
two_patterns : (over true (a ∷ ab ∷ ab ∷ []) (codes "ab")).1 ≡ Some (1, 2)
two_patterns = refl

-- `if` and `\w+` on `if` and on `iffy`
keyword : (over true (literal (codes "if") ∷ word ∷ []) (codes "if")).1 ≡ Some (0, 2)
keyword = refl

name : (over true (literal (codes "if") ∷ word ∷ []) (codes "iffy")).1 ≡ Some (1, 4)
name = refl

-- `\w+`, `if` and `else` on `else`
word_first : (over true (word ∷ literal (codes "if") ∷ literal (codes "else") ∷ []) (codes "else")).1 ≡ Some (0, 4)
word_first = refl

-- anchored, no later start is tried
anchored : (over false (a ∷ []) (codes "ba")).1 ≡ None
anchored = refl

-- `ab|b` on `aab`: the lists of the states, with the mark between starts
marked : (over true (alt_all (ab ∷ literal (codes "b") ∷ []) ∷ []) (codes "aab")).0 ≡ (3 ∷ 9 ∷ 0 ∷ []) ∷ (3 ∷ 9 ∷ 0 ∷ []) ∷ (7 ∷ 9 ∷ 0 ∷ []) ∷ []
marked = refl

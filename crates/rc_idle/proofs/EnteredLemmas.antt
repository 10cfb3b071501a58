-- No place of a program, or of its byte program, leads to the one at which it is entered.
use Rattle.std.proofs.Common.{ℕ, zero, suc, ◌+◌, ◌*◌, ◌<◌, List, [], ◌∷◌, length, ⊎_elim, subst, sym, arith}
use Rattle.std.specs.Prelude.{All}
use Rattle.std.specs.List.{AllByRecursion}
use Rattle.std.proofs.lemmas.Bool.{cases_lt}
use Rattle.std.proofs.lemmas.List.Elements.{All-from_recursion, recursion_from_All}
use Rattle.rc_pattern.specs.Re.{Re}
use Rattle.rc_pattern.specs.WellFormed.{group_count}
use Rattle.rc_walks.specs.Walks.{Pair, IsIn}
use Rattle.rc_program.specs.Text.{Text}
use Rattle.rc_program.specs.Laws.{targets}
use Rattle.rc_program.specs.Program.{Place, choice, byte, branch, scalar, guard, slot, accept, pattern_part, choice_of_patterns, program, place_at, ways}
use Rattle.rc_program.proofs.WayLemmas.{past_places}
use Rattle.rc_program.proofs.PlaceLemmas.{each_append, each_weaker, IsBetween, LiesInPart, AnyNumber, any_groups, pattern_sound, choice_sound, later_suit, sound_targets, way_to}
use Rattle.rc_utf8.specs.Bytes.{Tree, none, ends, goes, class_tree, depth, size, rest_of, tails, tree_ways, tree_block, byte_place, block, byte_places, blocks, bytes_of}
use Rattle.rc_idle.specs.Idle.{LeadOn}

-- the places that it names come after place 0
abbrev Leads : Place → Type 0
Leads q = AllByRecursion (λ n. 0 < n) (targets q)

lead_on : (places : List Place) → AllByRecursion Leads places → LeadOn places
lead_on places each =
    All-from_recursion (λ q. All (λ n. 0 < n) (targets q)) places
    (each_weaker Leads (λ q. All (λ n. 0 < n) (targets q)) (λ q h. All-from_recursion (λ n. 0 < n) (targets q) h) places each)

each_leads : (places : List Place) → LeadOn places → AllByRecursion Leads places
each_leads places all =
    each_weaker (λ q. All (λ n. 0 < n) (targets q)) Leads (λ q h. recursion_from_All (λ n. 0 < n) (targets q) h) places
    (recursion_from_All (λ q. All (λ n. 0 < n) (targets q)) places all)

-- Programs.

-- places of parts that begin after place 0
part_leads : (Accepts : ℕ → Type 0) (hi : ℕ) (places : List Place) → AllByRecursion (LiesInPart AnyNumber Accepts 1 hi) places → AllByRecursion Leads places
part_leads Accepts hi =
    each_weaker (LiesInPart AnyNumber Accepts 1 hi) Leads
    (λ q h. each_weaker (IsBetween 1 hi) (λ n. 0 < n) (λ n i. i.0) (targets q) (sound_targets AnyNumber Accepts 1 hi q h))

pub program_leads_on : (hs : List Re) → LeadOn (program hs)
program_leads_on [] = lead_on (program []) (tt, tt)
program_leads_on (h ∷ hs) =
    let s = 2 * length (h ∷ hs) in
    let a = pattern_part 0 s h in
    let b = choice_of_patterns 1 (s + 2 * group_count h) hs in
    let hi = 1 + (a.size + b.size) in
    lead_on (program (h ∷ hs)) (
      (omega arith, (omega arith, tt)),
      each_append Leads (a.places 0 1 0) (b.places 0 (1 + a.size) 0)
          (part_leads AnyNumber hi (a.places 0 1 0)
          (pattern_sound AnyNumber AnyNumber 0 s h (any_groups s h) tt 0 1 0 1 hi (omega arith) (omega arith)))
          (part_leads (λ p. 0 < p) hi (b.places 0 (1 + a.size) 0)
          (choice_sound AnyNumber (λ p. 0 < p) 1 (s + 2 * group_count h) hs (later_suit 0 1 (s + 2 * group_count h) hs (omega arith))
          0 (1 + a.size) 0 1 hi (omega arith) (omega arith))),
    )

-- Byte programs: the blocks begin after the places of the program.

module _ (count tail next : ℕ) (tail_some : 0 < tail) (next_some : 0 < next) where
  rest_leads : (n : ℕ) → 0 < rest_of count tail next n
  rest_leads zero = next_some
  rest_leads (suc n) = omega (arith, tail_some)

  ways_lead : (tree : Tree) (start : ℕ) → 0 < start → Leads (branch (tree_ways count tail next tree start))
  ways_lead none start some = tt
  ways_lead (ends a b n others) start some = (rest_leads n, ways_lead others start some)
  ways_lead (goes a b below others) start some = (omega (arith, some), ways_lead others (start + size below + 1) (omega arith))

  tree_leads : (tree : Tree) (start : ℕ) → 0 < start → AllByRecursion Leads (tree_block count tail next tree start)
  tree_leads none start some = tt
  tree_leads (ends a b n others) start some = tree_leads others start some
  tree_leads (goes a b below others) start some =
      each_append Leads (tree_block count tail next below start) (branch (tree_ways count tail next below start) ∷ tree_block count tail next others (start + size below + 1))
      (tree_leads below start some) (ways_lead below start some, tree_leads others (start + size below + 1) (omega arith))

tails_lead : (next : ℕ) → 0 < next → (count tail : ℕ) → 0 < tail → AllByRecursion Leads (tails count tail next)
tails_lead next h zero tail some = tt
tails_lead next h (suc count) tail some =
    ((rest_leads count (tail + 1) next (omega arith) h count, tt), tails_lead next h count (tail + 1) (omega arith))

place_leads : (start : ℕ) (q : Place) → 0 < start → Leads q → Leads (byte_place start q)
place_leads start (choice ns) some h = h
place_leads start (byte rs n) some h = h
place_leads start (branch ts) some h = h
place_leads start (scalar rs n) some h =
    let t = class_tree rs in ways_lead (depth t) start n some h.0 t (start + depth t) (omega (arith, some))
place_leads start (guard l n) some h = h
place_leads start (slot k n) some h = h
place_leads start (accept p) some h = h

block_leads : (start : ℕ) (q : Place) → 0 < start → Leads q → AllByRecursion Leads (block start q)
block_leads start (choice ns) some h = tt
block_leads start (byte rs n) some h = tt
block_leads start (branch ts) some h = tt
block_leads start (scalar rs n) some h =
    let t = class_tree rs in
    each_append Leads (tails (depth t) start n) (tree_block (depth t) start n t (start + depth t))
    (tails_lead n h.0 (depth t) start some) (tree_leads (depth t) start n some h.0 t (start + depth t) (omega (arith, some)))
block_leads start (guard l n) some h = tt
block_leads start (slot k n) some h = tt
block_leads start (accept p) some h = tt

places_lead : (start : ℕ) (qs : List Place) → 0 < start → AllByRecursion Leads qs → AllByRecursion Leads (byte_places start qs)
places_lead start [] some each = tt
places_lead start (q ∷ qs) some each =
    (place_leads start q some each.0, places_lead (start + length (block start q)) qs (omega (arith, some)) each.1)

blocks_lead : (start : ℕ) (qs : List Place) → 0 < start → AllByRecursion Leads qs → AllByRecursion Leads (blocks start qs)
blocks_lead start [] some each = tt
blocks_lead start (q ∷ qs) some each =
    let behind = start + length (block start q) in
    each_append Leads (block start q) (blocks behind qs) (block_leads start q some each.0)
    (blocks_lead behind qs (omega (arith, some)) each.1)

pub bytes_lead_on : (places : List Place) → 0 < length places → LeadOn places → LeadOn (bytes_of places)
bytes_lead_on places some all =
    let n = length places in
    let each = each_leads places all in
    lead_on (bytes_of places)
    (each_append Leads (byte_places n places) (blocks n places) (places_lead n places some each) (blocks_lead n places some each))

-- no way leads to place 0
pub leads_on : (places : List Place) → LeadOn places → (t : Text) (hi : ℕ) (n m : Pair) → IsIn m (ways places t hi n) → 0 < m.0
leads_on places all t hi n m i =
    way_to (λ k. 0 < k) places t hi n m
    (⊎_elim
    (λ l. recursion_from_All (λ k. 0 < k) (targets (place_at places n.0)) (all n.0 (choice []) l))
    (λ ge. subst Leads (sym (past_places places n.0 ge)) tt)
    (cases_lt n.0 (length places))) i

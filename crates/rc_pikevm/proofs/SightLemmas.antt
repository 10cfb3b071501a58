-- What a pass sees of a search.
use Rattle.std.proofs.Common.{◌≡◌, ℕ, ◌+◌, ◌≤◌, ◌∙◌, [], length, Bool, IsTrue, true, false, true≢false, ◌||◌, if◌then◌else◌, Option, Some, None, ⊎_elim, ap, ap₂, refl, subst, sym}
use Rattle.std.proofs.lemmas.Bool.{cases_Bool, le-ltb}
use Rattle.rc_walks.specs.Walks.{Pair, IsIn}
use Rattle.rc_walks.proofs.TryLemmas.{IsBounded}
use Rattle.rc_program.specs.Text.{holds, ahead}
use Rattle.rc_program.specs.Program.{place_at}
use Rattle.rc_program.specs.Answer.{Search, only}
use Rattle.rc_program.proofs.WayLemmas.{no_way_from, ways_onward}
use Rattle.rc_program.proofs.AnswerLemmas as answers
use Rattle.rc_pikevm.specs.Sights.{Sight, IsUpTo, ends, ends_to, is_past, next_of, next_to}

pub last_pair : (s : Sight) (n m : Pair) → IsTrue (ends s n) → ¬ IsIn m (next_of s n)
last_pair s n m e =
    no_way_from (only s.anchoring) (λ l. holds s.text l n.1) (ahead s.text s.hi n.1) (place_at s.places n.0) n.1 m e

search_in : Sight → Search
search_in s = record { places = s.places; text = s.text; lo = 0; hi = s.hi; anchoring = s.anchoring; passes_over = false }

pub is_bounded : (s : Sight) → IsBounded (next_of s) (ends s) (length s.places) (s.hi + 1)
unfolding search_in
is_bounded s =
    let b = answers.is_bounded (search_in s) in record {
      place_of_end = b.place_of_end;
      place_of_way = b.place_of_way;
      position = b.position;
    }

-- Up to a limit a graph is what it is without one.

pub next_at : (limit : Option ℕ) (s : Sight) (n : Pair) → IsUpTo n.1 limit → next_to limit s n ≡ next_of s n
next_at None s n le = refl
next_at (Some l) s n le = ap (λ b. if b then [] else next_of s n) (le-ltb l n.1 le)

or_false : (b : Bool) → (b || false) ≡ b
or_false true = refl
or_false false = refl

pub ends_at : (limit : Option ℕ) (s : Sight) (n : Pair) → IsUpTo n.1 limit → ends_to limit s n ≡ ends s n
ends_at None s n le = refl
ends_at (Some l) s n le = ap (λ b. ends s n || b) (le-ltb l n.1 le) ∙ or_false (ends s n)

-- a way of the limited graph is one of the whole graph
pub way_to : (limit : Option ℕ) (s : Sight) (n m : Pair) → IsIn m (next_to limit s n) → IsIn m (next_of s n)
way_to None s n m i = i
way_to (Some l) s n m i =
    ⊎_elim (λ past. absurd (subst (λ b. IsIn m (if b then [] else next_of s n)) past i))
    (λ inside. subst (λ b. IsIn m (if b then [] else next_of s n)) inside i) (cases_Bool (is_past l n))

-- and none leads out of a pair at which a walk may end
pub last_to : (limit : Option ℕ) (s : Sight) (n m : Pair) → IsTrue (ends_to limit s n) → ¬ IsIn m (next_to limit s n)
last_to None s n m e i = last_pair s n m e i
last_to (Some l) s n m e i =
    ⊎_elim (λ past. subst (λ b. IsIn m (if b then [] else next_of s n)) past i)
    (λ inside. ⊎_elim (λ ends_here. last_pair s n m ends_here (way_to (Some l) s n m i))
    (λ on. true≢false (sym e ∙ ap₂ ◌||◌ on inside)) (cases_Bool (ends s n))) (cases_Bool (is_past l n))

pub onward_to : (limit : Option ℕ) (s : Sight) (n m : Pair) → IsIn m (next_to limit s n) → n.1 ≤ m.1
onward_to limit s n m i = ways_onward s.places s.text s.hi n m (way_to limit s n m i)

-- Where a program is entered for one of its patterns alone.
use Rattle.std.proofs.Common.{◌≡◌, ℕ, suc, ◌+◌, ◌*◌, ◌<◌, ◌≤◌, List, [], ◌∷◌, length, drop, get_or, Option, Some, None, sym, subst, ap, ◌∙◌, arith}
use Rattle.std.proofs.Math.Logic.{∥∥₁_elim}
use Rattle.std.proofs.Math.Seq.{drop-cons}
use Rattle.std.proofs.lemmas.List.{length-map}
use Rattle.std.proofs.lemmas.Option.{none-some, same_Some}
use denote.Struct.Props.{props}
use Rattle.rc_pattern.specs.Re.{Re, empty}
use Rattle.rc_pattern.specs.WellFormed.{group_count}
use Rattle.rc_text.specs.Found.{Found}
use Rattle.rc_program.specs.Program.{choice, choice_of_patterns, entry, entry_from, part, pattern_part, place_at, program}
use Rattle.rc_program.specs.Places.{place_of, places_of}
use Rattle.rc_program.specs.Answer.{Search, answer}
use Rattle.rc_program.specs.declared.place.Place as code
use Rattle.rc_program.proofs.AnswerLemmas.{answer_pattern}
use Rattle.rc_program.proofs.EntryLemmas.{entry_law}
use Rattle.rc_program.proofs.PartLemmas.{Stand, Stand-second}
use Rattle.rc_program.proofs.PlaceLemmas.{entry_below, pattern_sized}
use Rattle.rc_program.proofs.WholeLemmas.{stand_all}
use Rattle.rc_pikevm.specs.Roots.{StandsIn}
use Rattle.rc_strategy.specs.Narrow.{narrowed}
use Rattle.rc_strategy.specs.Slots.{IsOfPatterns}

-- The choice of the patterns from number k on, the rest, stands here.
pub record IsLeft (hs rest : List Re) (k at : ℕ) : Type 0 where
  pub number : ℕ
  pub slots : ℕ
  pub stands : Stand (program hs) at ((choice_of_patterns number slots rest).places 0 at 0)
  pub entered : (n : ℕ) → entry_from at rest n ≡ entry hs (k + n)

-- so it is in the program in code, if that is one of some patterns which has this pattern
abbrev pub IsAt : List code.Place → ℕ → ℕ → ℕ → Type 0
IsAt places pattern k at = (hs : List Re) → places_of places ≡ program hs → pattern < length hs → IsLeft hs (drop k hs) k at

pub first_at : (places : List code.Place) (pattern : ℕ) → IsAt places pattern 0 0
first_at places pattern hs e lt = record {
  number = 0;
  slots = 2 * length hs;
  stands = stand_all [] (program hs);
  entered = λ n. let same : n ≡ 0 + n = omega arith in ap (λ m. entry hs m) same;
}

-- Its ways lead to the entry of pattern k, and to the choice of those behind it.
record Ways (hs : List Re) (k at : ℕ) : Type 0 where
  first : ℕ
  next : ℕ
  there : place_at (program hs) at ≡ choice (first ∷ next ∷ [])
  here : first ≡ entry hs k
  later : IsLeft hs (drop (k + 1) hs) (k + 1) next

ways_of : (hs rest : List Re) (h : Re) (k at : ℕ) → rest ≡ drop (k + 1) hs → IsLeft hs (h ∷ rest) k at → Ways hs k at
ways_of hs rest h k at e c =
    let own : k ≡ k + 0 = omega arith in
    record {
      first = at + 1;
      next = at + 1 + ((part h).size + 1);
      there = c.stands.0;
      here = c.entered 0 ∙ sym (ap (λ m. entry hs m) own);
      later = subst (λ left. IsLeft hs left (k + 1) (at + 1 + ((part h).size + 1))) e (record {
        number = c.number + 1;
        slots = c.slots + 2 * group_count h;
        stands = Stand-second (program hs) (pattern_part c.number c.slots h) (choice_of_patterns (c.number + 1) (c.slots + 2 * group_count h) rest) 0 at 0
            (pattern_sized c.number c.slots h 0 (at + 1) 0) c.stands;
        entered = λ n. let same : k + suc n ≡ k + 1 + n = omega arith in c.entered (suc n) ∙ ap (λ m. entry hs m) same;
      });
    }

ways_at : (hs : List Re) (k at : ℕ) → k < length hs → IsLeft hs (drop k hs) k at → Ways hs k at
ways_at hs k at lt c =
    let e = drop-cons hs k empty lt in
    let one : suc k ≡ k + 1 = omega arith in
    ways_of hs (drop (suc k) hs) (get_or hs k empty) k at (ap (λ n. drop n hs) one) (subst (λ left. IsLeft hs left k at) e c)

-- IN CODE

-- what is told of the ways of the choice at a place
abbrev pub TellsWays : List code.Place → ℕ → Option (ℕ × ℕ) → Type 0
TellsWays places at o = (first next : ℕ) → place_at (places_of places) at ≡ choice (first ∷ next ∷ []) → o ≡ Some (first, next)

ways_told : (places : List code.Place) (pattern k at : ℕ) (o : Option (ℕ × ℕ)) → TellsWays places at o → k ≤ pattern → IsAt places pattern k at →
    (hs : List Re) → places_of places ≡ program hs → pattern < length hs → (w : Ways hs k at) × (o ≡ Some (w.first, w.next))
ways_told places pattern k at o tells le is hs e lt =
    let w = ways_at hs k at (omega (arith, le, lt)) (is hs e lt) in
    (w, tells w.first w.next (ap (λ ps. place_at ps at) e ∙ w.there))

same_pair : (a b c d : ℕ) (o : Option (ℕ × ℕ)) → o ≡ Some (a, b) → o ≡ Some (c, d) → (a ≡ c) × (b ≡ d)
same_pair a b c d o e f = let same = same_Some (a, b) (c, d) (sym e ∙ f) in (ap (λ (q : ℕ × ℕ). q.0) same, ap (λ (q : ℕ × ℕ). q.1) same)

-- where the pattern is there, a choice is told
pub some_told : (places : List code.Place) (pattern k at : ℕ) (o : Option (ℕ × ℕ)) → TellsWays places at o → k ≤ pattern → IsAt places pattern k at →
    o ≡ None → (hs : List Re) → places_of places ≡ program hs → pattern < length hs → ⊥
some_told places pattern k at o tells le is none hs e lt =
    let w = ways_told places pattern k at o tells le is hs e lt in none-some (w.0.first, w.0.next) (sym none ∙ w.1)

-- its second way leads on
pub later_at : (places : List code.Place) (pattern k at a b : ℕ) (o : Option (ℕ × ℕ)) → TellsWays places at o → k ≤ pattern → IsAt places pattern k at →
    o ≡ Some (a, b) → IsAt places pattern (k + 1) b
later_at places pattern k at a b o tells le is some hs e lt =
    let w = ways_told places pattern k at o tells le is hs e lt in
    subst (λ n. IsLeft hs (drop (k + 1) hs) (k + 1) n) (same_pair w.0.first w.0.next a b o w.1 some).1 w.0.later

-- and its first to the pattern
pub entered_at : (places : List code.Place) (pattern k at a b : ℕ) (o : Option (ℕ × ℕ)) → TellsWays places at o → k ≡ pattern → IsAt places pattern k at →
    o ≡ Some (a, b) → (hs : List Re) → places_of places ≡ program hs → pattern < length hs → a ≡ entry hs pattern
entered_at places pattern k at a b o tells same is some hs e lt =
    let w = ways_told places pattern k at o tells (omega (arith, same)) is hs e lt in
    sym (same_pair w.0.first w.0.next a b o w.1 some).0 ∙ w.0.here ∙ ap (entry hs) same

-- THE SEARCH

stands_narrowed : (hs : List Re) (s : Search) (m : Found) → s.places ≡ program hs → m.pattern < length hs → StandsIn (narrowed s m) (entry hs m.pattern)
stands_narrowed hs s m e lt =
    subst (λ places. StandsIn (record (narrowed s m) { places = places }) (entry hs m.pattern)) (sym e)
    (λ x. (
      λ v f. ∣ entry_law.first hs s.text m.end m.pattern x v lt f ∣₁,
      entry_law.none hs s.text m.end m.pattern x lt,
    ))

-- The entry of a match's pattern is one of the places, and stands for place 0 in the search over the match's span.
pub root_stands : (places : List code.Place) (s : Search) (m : Found) (root : ℕ) → IsOfPatterns (places_of places) → s.places ≡ places_of places →
    answer s ≡ Some m → ((hs : List Re) → places_of places ≡ program hs → m.pattern < length hs → root ≡ entry hs m.pattern) →
    (root < length places) × StandsIn (narrowed s m) root
root_stands places s m root of same found entered =
    ∥∥₁_elim of (hlevel props)
    (λ r. let lt = answer_pattern r.0 s m (same ∙ r.1) found in
    let is = entered r.0 r.1 lt in
    let below = entry_below r.0 m.pattern in
    let long = ap length r.1 in
    let mapped = length-map places place_of in (
      omega (arith, is, below, long, mapped),
      subst (λ n. StandsIn (narrowed s m) n) (sym is) (stands_narrowed r.0 s m (same ∙ r.1) lt),
    ))

-- From choice to choice a program's patterns are entered in their order.
use Rattle.std.proofs.Common.{◌≡◌, ℕ, suc, ◌+◌, ◌*◌, ◌<◌, ◌≤◌, List, [], ◌∷◌, ◌++◌, length, drop, get_or, append-nil, sym, subst, ap, ◌∙◌, refl, arith, append_assoc, ⊎_elim}
use Rattle.std.proofs.Math.Seq.{drop-cons}
use Rattle.std.proofs.lemmas.Bool.{cases_lt}
use Rattle.std.proofs.lemmas.List.{drop_all, get_or-map, length-map}
use Rattle.rc_pattern.specs.Re.{Re, empty}
use Rattle.rc_pattern.specs.WellFormed.{group_count}
use Rattle.rc_program.specs.Program.{Place, choice, place_at, part, pattern_part, choice_of_patterns, program}
use Rattle.rc_program.specs.Places.{place_of, places_of}
use Rattle.rc_program.specs.declared.place.Place as code
use Rattle.rc_program.specs.declared.place.Place.TheVariants as code_variants
use Rattle.rc_program.proofs.PlaceLemmas.{pattern_sized}
use Rattle.rc_program.proofs.PartLemmas.{Stand, Stand-second}
use Rattle.rc_program.proofs.WholeLemmas.{stand_all}
use Rattle.rc_program.proofs.WayLemmas.{past_places}
use Rattle.rc_dfa_search.specs.Machines.{entries_from, entries_of}

-- The choice of the patterns that are left stands here, and the entries of those before it are known.
pub record IsChoice (hs rest : List Re) (at : ℕ) (entries : List ℕ) : Type 0 where
  pub number : ℕ
  pub slots : ℕ
  pub stands : Stand (program hs) at ((choice_of_patterns number slots rest).places 0 at 0)
  pub entered : entries ++ entries_from at rest ≡ entries_of hs

pub first_choice : (hs : List Re) → IsChoice hs hs 0 []
first_choice hs = record { number = 0; slots = 2 * length hs; stands = stand_all [] (program hs); entered = refl }

pub no_choice : (hs : List Re) (at : ℕ) (entries : List ℕ) → IsChoice hs [] at entries → entries ≡ entries_of hs
no_choice hs at entries c = sym (append-nil entries) ∙ c.entered

-- its two ways
abbrev pub behind : ℕ → Re → ℕ
behind at h = at + 1 + ((part h).size + 1)

pub choice_there : (hs rest : List Re) (h : Re) (at : ℕ) (entries : List ℕ) → IsChoice hs (h ∷ rest) at entries →
    place_at (program hs) at ≡ choice ((at + 1) ∷ behind at h ∷ [])
choice_there hs rest h at entries c = c.stands.0

pub next_choice : (hs rest : List Re) (h : Re) (at : ℕ) (entries : List ℕ) → IsChoice hs (h ∷ rest) at entries →
    IsChoice hs rest (behind at h) (entries ++ (at + 1) ∷ [])
next_choice hs rest h at entries c = record {
  number = c.number + 1;
  slots = c.slots + 2 * group_count h;
  stands = Stand-second (program hs) (pattern_part c.number c.slots h) (choice_of_patterns (c.number + 1) (c.slots + 2 * group_count h) rest) 0 at 0
      (pattern_sized c.number c.slots h 0 (at + 1) 0) c.stands;
  entered = append_assoc entries ((at + 1) ∷ []) (entries_from (behind at h) rest) ∙ c.entered;
}

-- The choice of the patterns from number k on: its ways lead to the entry of that pattern, and to the choice of those behind it.
pub record Parts (hs : List Re) (k at : ℕ) (entries : List ℕ) : Type 0 where
  pub first : ℕ
  pub next : ℕ
  pub there : place_at (program hs) at ≡ choice (first ∷ next ∷ [])
  pub later : IsChoice hs (drop (k + 1) hs) next (entries ++ first ∷ [])

parts_of : (hs rest : List Re) (h : Re) (k at : ℕ) (entries : List ℕ) → rest ≡ drop (k + 1) hs → IsChoice hs (h ∷ rest) at entries → Parts hs k at entries
parts_of hs rest h k at entries e c = record {
  first = at + 1;
  next = behind at h;
  there = choice_there hs rest h at entries c;
  later = subst (λ left. IsChoice hs left (behind at h) (entries ++ (at + 1) ∷ [])) e (next_choice hs rest h at entries c);
}

pub parts : (hs : List Re) (k at : ℕ) (entries : List ℕ) → k < length hs → IsChoice hs (drop k hs) at entries → Parts hs k at entries
parts hs k at entries lt c =
    let e = drop-cons hs k empty lt in
    let one : suc k ≡ k + 1 = omega arith in
    parts_of hs (drop (suc k) hs) (get_or hs k empty) k at entries (ap (λ n. drop n hs) one) (subst (λ left. IsChoice hs left at entries) e c)

choice_within : (places : List Place) (at a b : ℕ) → place_at places at ≡ choice (a ∷ b ∷ []) → at < length places
choice_within places at a b e =
    ⊎_elim (λ lt. lt) (λ ge. let none = past_places places at ge in absurd (let same : choice [] ≡ choice (a ∷ b ∷ []) = sym none ∙ e in cc)) (cases_lt at (length places))

-- IN CODE

pub place_within : (hs : List Re) (program_now : List code.Place) (k at : ℕ) (entries : List ℕ) → places_of program_now ≡ program hs →
    Parts hs k at entries → at < length program_now
place_within hs places k at entries e p =
    let lt = choice_within (program hs) at p.first p.next p.there in
    let len = ap length e in let same = length-map places place_of in omega (arith, lt, len, same)

pub place_there : (hs : List Re) (places : List code.Place) (k at : ℕ) (entries : List ℕ) (place : code.Place) → places_of places ≡ program hs →
    (p : Parts hs k at entries) → place ≡ get_or places at place → place_of place ≡ choice (p.first ∷ p.next ∷ [])
place_there hs places k at entries place e p is =
    ap place_of is ∙ sym (get_or-map place_of places at place (choice []) (place_within hs places k at entries e p)) ∙ ap (λ ps. place_at ps at) e ∙ p.there

pub other_place : (place : code.Place) (a b : ℕ) → ((x y : ℕ) → place ≡ code_variants.Choice x y → ⊥) → place_of place ≡ choice (a ∷ b ∷ []) → ⊥
other_place (code_variants.Choice first second) a b h e = h first second refl
other_place (code_variants.Pass next) a b h e = cc
other_place code_variants.Dead a b h e = cc
other_place (code_variants.Byte c next) a b h e = cc
other_place (code_variants.Bytes rs next) a b h e = cc
other_place (code_variants.Scalar rs next) a b h e = cc
other_place (code_variants.Guard l next) a b h e = cc
other_place (code_variants.Slot k next) a b h e = cc
other_place (code_variants.Accept p) a b h e = cc

same_first : (a b c d : ℕ) → choice (a ∷ b ∷ []) ≡ choice (c ∷ d ∷ []) → a ≡ c
same_first a b c d e = cc

same_next : (a b c d : ℕ) → choice (a ∷ b ∷ []) ≡ choice (c ∷ d ∷ []) → b ≡ d
same_next a b c d e = cc

pub later_choice : (hs : List Re) (k at : ℕ) (entries more : List ℕ) (place : code.Place) (a b : ℕ) → (p : Parts hs k at entries) → place ≡ code_variants.Choice a b →
    place_of place ≡ choice (p.first ∷ p.next ∷ []) → more ≡ entries ++ a ∷ [] → IsChoice hs (drop (k + 1) hs) b more
later_choice hs k at entries more place a b p is e pushed =
    let same : choice (a ∷ b ∷ []) ≡ choice (p.first ∷ p.next ∷ []) = ap place_of (sym is) ∙ e in
    let one = same_first a b p.first p.next same in
    subst (λ n. IsChoice hs (drop (k + 1) hs) n more) (sym (same_next a b p.first p.next same))
    (subst (λ es. IsChoice hs (drop (k + 1) hs) p.next es) (ap (λ n. entries ++ n ∷ []) (sym one) ∙ sym pushed) p.later)

pub all_left : (hs : List Re) (k at : ℕ) (entries : List ℕ) → length hs ≤ k → IsChoice hs (drop k hs) at entries → entries ≡ entries_of hs
all_left hs k at entries le c = no_choice hs at entries (subst (λ left. IsChoice hs left at entries) (drop_all k hs le) c)

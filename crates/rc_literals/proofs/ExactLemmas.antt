-- What a search of patterns finds that are exactly a list of needles.
use Rattle.std.proofs.Common.{◌≡◌, ℕ, zero, suc, ◌+◌, ◌*◌, ◌<◌, ◌≤◌, List, [], ◌∷◌, ◌++◌, length, replicate, Bool, true, false, Option, Some, None, sym, ap, subst, ◌∙◌, refl, arith, inl, inr, nat_eq, slice_get, slice_index, slice_range, option_map, if◌then◌else◌}
use Rattle.std.specs.Option.{option_or}
use Rattle.std.proofs.lemmas.Bool.{cases_Bool}
use Rattle.std.proofs.lemmas.Bool.Decides.{nat_tests}
use Rattle.std.proofs.lemmas.Option.{none-some, same_Some}
use Rattle.rc_walks.specs.Walks.{Pair}
use Rattle.rc_pattern.specs.Re.{Re, empty, literal, byte_in, char_in, look, repeat, capture, cat, alt, none}
use Rattle.rc_pattern.specs.WellFormed.{group_count}
use Rattle.rc_program.specs.Text.{Text}
use Rattle.rc_program.specs.Spells.{Stands, Spells, SpelledBy}
use Rattle.rc_program.specs.Program.{Place, accept, place_at, is_match_place, part, pattern_part, choice_of_patterns, program}
use Rattle.rc_program.specs.Answer.{Search, only}
use Rattle.rc_program.proofs.PlaceLemmas.{pattern_sized}
use Rattle.rc_program.proofs.PartLemmas.{Stand, Stand-first, Stand-second}
use Rattle.rc_program.proofs.WholeLemmas.{stand_all, pattern_stands, pattern_ends}
use Rattle.rc_needles.specs.declared.hit.Hit.{Hit}
use Rattle.rc_needles.specs.Needles.{StandsAt, stands_within, first_from, needle_at}
use Rattle.rc_literals.specs.Answers.{Owned, own_needles, needles_for, owner_for}
use Rattle.rc_literals.specs.Literals.{Covers, IsExact, before, before_owned, exact_needles, literal_bytes, member_literals, literals_of, owned_from}
use Rattle.rc_needles.specs.Tables.{AreSome, IsUsable}
use Rattle.rc_needles.proofs.ReadLemmas.{first_is, reads, reads_is, end_if}
use Rattle.rc_literals.proofs.WayLemmas.{alternation, reads_for, reads_any, AllSome, Gives, AreBefore, literal_gives, alternation_gives, either_gives, dead_gives}
use Rattle.rc_needles.proofs.RelationLemmas.{range_of, first_of, none_of}

-- Which patterns they are.

pub data IsList : Re → List (List ℕ) → Type 0 where
  one : {w : List ℕ} → 0 < length w → IsList (literal w) (w ∷ [])
  many : {ws : List (List ℕ)} → AllSome ws → IsList (alternation ws) ws

pub record IsMembers (h : Re) (ws : List (List ℕ)) : Type 0 where
  pub is : h ≡ alternation ws
  pub some : AllSome ws

more_members : (b : ℕ) (bs : List ℕ) (rest : Re) (o : Option (List (List ℕ))) (ws : List (List ℕ)) →
    ((vs : List (List ℕ)) → o ≡ Some vs → IsMembers rest vs) → option_map (λ needles. (b ∷ bs) ∷ needles) o ≡ Some ws →
    IsMembers (alt (literal (b ∷ bs)) rest) ws
more_members b bs rest None ws h e = absurd (none-some ws e)
more_members b bs rest (Some vs) ws h e =
    let r = h vs refl in
    let s : (b ∷ bs) ∷ vs ≡ ws = same_Some _ ws e in
    subst (λ z. IsMembers (alt (literal (b ∷ bs)) rest) z) s
    (record { is = ap (λ z. alt (literal (b ∷ bs)) z) r.is; some = (omega arith, r.some) })

pub members_are : (h : Re) (ws : List (List ℕ)) → member_literals h ≡ Some ws → IsMembers h ws
members_are none ws e =
    let s : [] ≡ ws = same_Some [] ws e in subst (λ z. IsMembers none z) s (record { is = refl; some = tt })
members_are (alt (literal (b ∷ bs)) rest) ws e = more_members b bs rest (member_literals rest) ws (λ vs f. members_are rest vs f) e
members_are (alt (literal []) rest) ws e = absurd (none-some ws e)
members_are (alt empty rest) ws e = absurd (none-some ws e)
members_are (alt (byte_in rs) rest) ws e = absurd (none-some ws e)
members_are (alt (char_in rs) rest) ws e = absurd (none-some ws e)
members_are (alt (look l) rest) ws e = absurd (none-some ws e)
members_are (alt (repeat m n g a) rest) ws e = absurd (none-some ws e)
members_are (alt (capture n m a) rest) ws e = absurd (none-some ws e)
members_are (alt (cat a b) rest) ws e = absurd (none-some ws e)
members_are (alt (alt a b) rest) ws e = absurd (none-some ws e)
members_are (alt none rest) ws e = absurd (none-some ws e)
members_are empty ws e = absurd (none-some ws e)
members_are (literal bs) ws e = absurd (none-some ws e)
members_are (byte_in rs) ws e = absurd (none-some ws e)
members_are (char_in rs) ws e = absurd (none-some ws e)
members_are (look l) ws e = absurd (none-some ws e)
members_are (repeat m n g a) ws e = absurd (none-some ws e)
members_are (capture n m a) ws e = absurd (none-some ws e)
members_are (cat a b) ws e = absurd (none-some ws e)

pub literals_are : (h : Re) (ws : List (List ℕ)) → literals_of h ≡ Some ws → IsList h ws
literals_are (literal (b ∷ bs)) ws e =
    let s : (b ∷ bs) ∷ [] ≡ ws = same_Some _ ws e in subst (λ z. IsList (literal (b ∷ bs)) z) s (one (omega arith))
literals_are (alt a rest) ws e =
    let r = members_are (alt a rest) ws e in subst (λ z. IsList z ws) (sym r.is) (many r.some)
literals_are (literal []) ws e = absurd (none-some ws e)
literals_are empty ws e = absurd (none-some ws e)
literals_are (byte_in rs) ws e = absurd (none-some ws e)
literals_are (char_in rs) ws e = absurd (none-some ws e)
literals_are (look l) ws e = absurd (none-some ws e)
literals_are (repeat m n g a) ws e = absurd (none-some ws e)
literals_are (capture n m a) ws e = absurd (none-some ws e)
literals_are (cat a b) ws e = absurd (none-some ws e)
literals_are none ws e = absurd (none-some ws e)

-- There is one, and none is empty.

before_some : (o : Option (List ℕ)) (p : Option (List (List ℕ))) (ws : List (List ℕ)) → before o p ≡ Some ws → 0 < length ws
before_some None p ws e = absurd (none-some ws e)
before_some (Some w) None ws e = absurd (none-some ws e)
before_some (Some w) (Some vs) ws e =
    let s : w ∷ vs ≡ ws = same_Some _ ws e in subst (λ z. 0 < length z) s (omega arith)

all_are_some : (ws : List (List ℕ)) → AllSome ws → AreSome ws
all_are_some [] all k below = absurd (omega (arith, below))
all_are_some (w ∷ ws) all zero below = all.0
all_are_some (w ∷ ws) all (suc k) below = all_are_some ws all.1 k (omega (arith, below))

list_is_some : (h : Re) (ws : List (List ℕ)) → IsList h ws → AreSome ws
list_is_some _ _ (one {w} long) = all_are_some (w ∷ []) (long, tt)
list_is_some _ _ (many {ws} some) = all_are_some ws some

at_least_one : (h : Re) (ws : List (List ℕ)) → literals_of h ≡ Some ws → 0 < length ws
at_least_one (literal (b ∷ bs)) ws e =
    let s : (b ∷ bs) ∷ [] ≡ ws = same_Some _ ws e in subst (λ z. 0 < length z) s (omega arith)
at_least_one (alt a rest) ws e = before_some (literal_bytes a) (member_literals rest) ws e
at_least_one (literal []) ws e = absurd (none-some ws e)
at_least_one empty ws e = absurd (none-some ws e)
at_least_one (byte_in rs) ws e = absurd (none-some ws e)
at_least_one (char_in rs) ws e = absurd (none-some ws e)
at_least_one (look l) ws e = absurd (none-some ws e)
at_least_one (repeat m n g a) ws e = absurd (none-some ws e)
at_least_one (capture n m a) ws e = absurd (none-some ws e)
at_least_one (cat a b) ws e = absurd (none-some ws e)
at_least_one none ws e = absurd (none-some ws e)

or_none : {A : Type 0} (o : Option A) → option_or o None ≡ o
or_none None = refl
or_none (Some x) = refl

or_or : {A : Type 0} (a b c : Option A) → option_or (option_or a b) c ≡ option_or a (option_or b c)
or_or None b c = refl
or_or (Some x) b c = refl

-- The needles of a list of patterns.

-- those of pattern p before others
abbrev pub joined : ℕ → List (List ℕ) → Owned → Owned
joined p ws rest = record { needles = ws ++ rest.needles; owners = replicate (length ws) p ++ rest.owners }

-- each pattern is a list of needles
abbrev pub AreListed : ℕ → List Re → Owned → Type 0
AreListed p [] o = o ≡ (let empty : Owned = record { needles = []; owners = [] } in empty)
AreListed p (h ∷ hs) o = (ws : List (List ℕ)) × (rest : Owned) × IsList h ws × (o ≡ joined p ws rest) × AreListed (p + 1) hs rest

listed_before : (p : ℕ) (h : Re) (hs : List Re) (a : Option (List (List ℕ))) (b : Option Owned) (o : Owned) → literals_of h ≡ a →
    ((rest : Owned) → b ≡ Some rest → AreListed (p + 1) hs rest) → before_owned p a b ≡ Some o → AreListed p (h ∷ hs) o
listed_before p h hs None b o a more e = absurd (none-some o e)
listed_before p h hs (Some ws) None o a more e = absurd (none-some o e)
listed_before p h hs (Some ws) (Some rest) o a more e = (ws, rest, literals_are h ws a, sym (same_Some (joined p ws rest) o e), more rest refl)

pub are_listed : (p : ℕ) (hs : List Re) (o : Owned) → owned_from p hs ≡ Some o → AreListed p hs o
are_listed p [] o e = sym (same_Some _ o e)
are_listed p (h ∷ hs) o e = listed_before p h hs (literals_of h) (owned_from (p + 1) hs) o refl (λ rest f. are_listed (p + 1) hs rest f) e

pub exact_listed : (hs : List Re) (o : Owned) → exact_needles hs ≡ Some o → AreListed 0 hs o
exact_listed [] o e = absurd (none-some o e)
exact_listed (h ∷ hs) o e = are_listed 0 (h ∷ hs) o e

joined_length : (p : ℕ) (ws : List (List ℕ)) (rest : Owned) → length rest.owners ≡ length rest.needles →
    length (joined p ws rest).owners ≡ length (joined p ws rest).needles
joined_length p [] rest e = e
joined_length p (w ∷ ws) rest e = ap suc (joined_length p ws rest e)

-- each needle has an owner
pub each_owned : (p : ℕ) (hs : List Re) (o : Owned) → AreListed p hs o → length o.owners ≡ length o.needles
each_owned p [] o e = ap (λ (x : Owned). length x.owners) e ∙ ap (λ (x : Owned). length x.needles) (sym e)
each_owned p (h ∷ hs) o l =
    subst (λ (x : Owned). length x.owners ≡ length x.needles) (sym l.3) (joined_length p l.0 l.1 (each_owned (p + 1) hs l.1 l.4))

joined_some : (p : ℕ) (ws : List (List ℕ)) (rest : Owned) → AreSome ws → AreSome rest.needles → AreSome (joined p ws rest).needles
joined_some p [] rest a b k l = b k l
joined_some p (w ∷ ws) rest a b zero l = a 0 (omega arith)
joined_some p (w ∷ ws) rest a b (suc k) l = joined_some p ws rest (λ j m. a (suc j) (omega (arith, m))) b k (omega (arith, l))

all_owned_some : (p : ℕ) (hs : List Re) (o : Owned) → AreListed p hs o → AreSome o.needles
all_owned_some p [] o e k l = absurd (let m : length o.needles ≡ 0 = ap (λ (x : Owned). length x.needles) e in omega (arith, l, m))
all_owned_some p (h ∷ hs) o l k below =
    subst (λ (x : Owned). AreSome x.needles) (sym l.3) (joined_some p l.0 l.1 (list_is_some h l.0 l.2) (all_owned_some (p + 1) hs l.1 l.4)) k below

first_some : (p : ℕ) (a : Option (List (List ℕ))) (b : Option Owned) (o : Owned) → ((ws : List (List ℕ)) → a ≡ Some ws → 0 < length ws) →
    before_owned p a b ≡ Some o → 0 < length o.needles
first_some p None b o some e = absurd (none-some o e)
first_some p (Some ws) None o some e = absurd (none-some o e)
first_some p (Some []) (Some rest) o some e = absurd (let l = some [] refl in omega (arith, l))
first_some p (Some (w ∷ ws)) (Some rest) o some e = subst (λ (x : Owned). 0 < length x.needles) (same_Some (joined p (w ∷ ws) rest) o e) (omega arith)

-- there is one, and none is empty
pub exact_usable : (hs : List Re) (o : Owned) → exact_needles hs ≡ Some o → IsUsable o.needles
exact_usable [] o e = absurd (none-some o e)
exact_usable (h ∷ hs) o e = (
  first_some 0 (literals_of h) (owned_from (0 + 1) hs) o (λ ws f. at_least_one h ws f) e,
  all_owned_some 0 (h ∷ hs) o (are_listed 0 (h ∷ hs) o e),
)

-- The walks of their program.

-- where the first of the needles ends that is read, and its owner
abbrev pub reads_owned : Option ℕ → List ℕ → ℕ → List ℕ → List (List ℕ) → ℕ → Option (ℕ × ℕ)
reads_owned allowed content hi [] needles i = None
reads_owned allowed content hi (q ∷ owners) [] i = None
reads_owned allowed content hi (q ∷ owners) (w ∷ needles) i =
    option_or (reads_for allowed content hi q w i) (reads_owned allowed content hi owners needles i)

reads_joined : (allowed : Option ℕ) (content : List ℕ) (hi p : ℕ) (ws : List (List ℕ)) (rest : Owned) (i : ℕ) →
    option_or (reads_any allowed content hi p ws i) (reads_owned allowed content hi rest.owners rest.needles i)
    ≡ reads_owned allowed content hi (joined p ws rest).owners (joined p ws rest).needles i
reads_joined allowed content hi p [] rest i = refl
reads_joined allowed content hi p (w ∷ ws) rest i =
    or_or (reads_for allowed content hi p w i) (reads_any allowed content hi p ws i) (reads_owned allowed content hi rest.owners rest.needles i)
    ∙ ap (option_or (reads_for allowed content hi p w i)) (reads_joined allowed content hi p ws rest i)

module _ (t : Text) (hi : ℕ) (allowed : Option ℕ) where
  -- the part gives what the needles give, wherever it stands
  pub part_gives : (h : Re) (ws : List (List ℕ)) → IsList h ws → (prog : List Place) (slots start next p i : ℕ) (passed : List Pair) →
      Stand prog start ((part h).places slots start next) → place_at prog next ≡ accept p →
      start + (part h).size ≤ next → AreBefore prog t hi allowed start passed →
      Gives prog t hi allowed passed ((start, i) ∷ []) (reads_any allowed t.content hi p ws i)
  part_gives h ws (one {w = w} some) prog slots start next p i passed st end le before =
      subst (λ o. Gives prog t hi allowed passed ((start, i) ∷ []) o) (sym (or_none (reads_for allowed t.content hi p w i)))
      (literal_gives prog t hi allowed w slots start next p i passed some st end le before)
  part_gives h ws (many some) prog slots start next p i passed st end le before =
      alternation_gives prog t hi allowed ws slots start next p i passed some st end le before

  -- and so does the choice of patterns
  pub patterns_give : (hs : List Re) (o : Owned) (p s : ℕ) → AreListed p hs o → (prog : List Place) (slots start next i : ℕ) (passed : List Pair) →
      Stand prog start ((choice_of_patterns p s hs).places slots start next) → AreBefore prog t hi allowed start passed →
      Gives prog t hi allowed passed ((start, i) ∷ []) (reads_owned allowed t.content hi o.owners o.needles i)
  patterns_give [] o p s l prog slots start next i passed st before =
      subst (λ (x : Owned). Gives prog t hi allowed passed ((start, i) ∷ []) (reads_owned allowed t.content hi x.owners x.needles i)) (sym l)
      (dead_gives prog t hi allowed start i passed st.0 before)
  patterns_give (h ∷ hs) o p s l prog slots start next i passed st before =
      let a = pattern_part p s h in
      let b = choice_of_patterns (p + 1) (s + 2 * group_count h) hs in
      let first = Stand-first prog a b slots start next st in
      let second = Stand-second prog a b slots start next (pattern_sized p s h slots (start + 1) next) st in
      let whole : reads_owned allowed t.content hi (joined p l.0 l.1).owners (joined p l.0 l.1).needles i
      ≡ reads_owned allowed t.content hi o.owners o.needles i =
      ap (λ (x : Owned). reads_owned allowed t.content hi x.owners x.needles i) (sym l.3) in
      subst (λ r. Gives prog t hi allowed passed ((start, i) ∷ []) r) (reads_joined allowed t.content hi p l.0 l.1 i ∙ whole)
      (either_gives prog t hi allowed a b start i passed (reads_any allowed t.content hi p l.0 i)
      (reads_owned allowed t.content hi l.1.owners l.1.needles i) st.0 before
      (λ q r. part_gives h l.0 l.2 prog s (start + 1) (start + 1 + (part h).size) p i q (pattern_stands prog p s h slots (start + 1) next first)
      (pattern_ends prog p s h slots (start + 1) next first) (omega arith) r)
      (λ q r. patterns_give hs l.1 (p + 1) (s + 2 * group_count h) l.4 prog slots (start + 1 + a.size) next i q second r))

  pub program_gives : (hs : List Re) (o : Owned) → AreListed 0 hs o → (i : ℕ) →
      Gives (program hs) t hi allowed [] ((0, i) ∷ []) (reads_owned allowed t.content hi o.owners o.needles i)
  program_gives hs o l i =
      patterns_give hs o 0 (2 * length hs) l (program hs) 0 0 0 i [] (stand_all [] (program hs)) (λ k never. absurd never)

-- Reading the needles tells which stands first.

nothing : {A : Type 0} (b : Bool) (n : Option A) → n ≡ None → n ≡ (if b then n else n)
nothing true n e = refl
nothing false n e = refl

reads_if : (allowed : Option ℕ) (content : List ℕ) (hi p : ℕ) (w : List ℕ) (i : ℕ) →
    reads_for allowed content hi p w i ≡ (if is_match_place allowed (accept p) then option_map (λ j. (p, j)) (reads content hi w i) else None)
reads_if allowed content hi p [] i = refl
reads_if allowed content hi p (b ∷ bs) i =
    elim (cases_Bool (first_is b (slice_range content i hi))) [
      | inl y ↦ rw y (reads_if allowed content hi p bs (i + 1))
      | inr n ↦ rw n (nothing (is_match_place allowed (accept p)) None refl)
    ]

-- the end of the needle that stands
abbrev ends_for : ℕ → Bool → ℕ → Option (ℕ × ℕ)
ends_for p stands end = option_map (λ j. (p, j)) (end_if stands end)

reads_allowed : (allowed : Option ℕ) (content : List ℕ) (hi p : ℕ) (w : List ℕ) (i : ℕ) → i ≤ hi → is_match_place allowed (accept p) ≡ true →
    reads_for allowed content hi p w i ≡ ends_for p (stands_within content hi i w) (i + length w)
reads_allowed allowed content hi p w i le ok =
    reads_if allowed content hi p w i
    ∙ ap (λ b. if b then option_map (λ j. (p, j)) (reads content hi w i) else None) ok
    ∙ ap (option_map (λ j. (p, j))) (reads_is content hi w i le)

reads_barred : (allowed : Option ℕ) (content : List ℕ) (hi p : ℕ) (w : List ℕ) (i : ℕ) → is_match_place allowed (accept p) ≡ false →
    reads_for allowed content hi p w i ≡ None
reads_barred allowed content hi p w i barred =
    reads_if allowed content hi p w i ∙ ap (λ b. if b then option_map (λ j. (p, j)) (reads content hi w i) else None) barred

-- all needles are allowed
reads_all : (content : List ℕ) (hi : ℕ) (owner : ℕ → ℕ) (owners : List ℕ) (needles : List (List ℕ)) (i n : ℕ) → i ≤ hi →
    length owners ≡ length needles → ((k : ℕ) → k < length owners → slice_index owners k ≡ owner (n + k)) →
    reads_owned None content hi owners needles i ≡ option_map (λ (h : Hit). (owner h.number, h.end)) (first_from content hi i n needles)
reads_all content hi owner [] [] i n le same of = refl
reads_all content hi owner [] (w ∷ ws) i n le same of = absurd (omega (arith, same))
reads_all content hi owner (q ∷ qs) [] i n le same of = absurd (omega (arith, same))
reads_all content hi owner (q ∷ qs) (w ∷ ws) i n le same of =
    let here : q ≡ owner n = let z : n + 0 ≡ n = omega arith in of 0 (omega arith) ∙ ap owner z in
    let there = reads_all content hi owner qs ws i (n + 1) le (omega (arith, same))
    (λ k l. let z : n + suc k ≡ n + 1 + k = omega arith in of (suc k) (omega (arith, l)) ∙ ap owner z) in
    let e = reads_allowed None content hi q w i le refl in
    elim (cases_Bool (stands_within content hi i w)) [
      | inl y ↦ rw (e, y) (ap (λ p. Some (p, i + length w)) here)
      | inr f ↦ rw (e, f) there
    ]

-- those of one pattern are
reads_own : (content : List ℕ) (hi p : ℕ) (owners : List ℕ) (needles : List (List ℕ)) (i n : ℕ) → i ≤ hi →
    reads_owned (Some p) content hi owners needles i
    ≡ option_map (λ (h : Hit). (p, h.end)) (first_from content hi i n (own_needles p owners needles))
reads_own content hi p [] needles i n le = refl
reads_own content hi p (q ∷ qs) [] i n le = refl
reads_own content hi p (q ∷ qs) (w ∷ ws) i n le =
    elim (cases_Bool (nat_eq q p)) [
      | inl own ↦
          let e = reads_allowed (Some p) content hi q w i le own in
          let is : q ≡ p = grind (arith, nat_tests) in
          elim (cases_Bool (stands_within content hi i w)) [
            | inl y ↦ rw (own, e, y) (ap (λ z. Some (z, i + length w)) is)
            | inr f ↦ rw (own, e, f) (reads_own content hi p qs ws i (n + 1) le)
          ]
      | inr other ↦
          let e = reads_barred (Some p) content hi q w i other in
          rw (other, e) (reads_own content hi p qs ws i n le)
    ]

-- what a needle tells of the walks from its start
abbrev pub told : Option ℕ → Owned → Option Hit → Option (ℕ × ℕ)
told allowed o = option_map (λ (h : Hit). (owner_for allowed o h.number, h.end))

reads_are : (allowed : Option ℕ) (content : List ℕ) (hi : ℕ) (o : Owned) (i : ℕ) → i ≤ hi → length o.owners ≡ length o.needles →
    reads_owned allowed content hi o.owners o.needles i ≡ told allowed o (needle_at (needles_for allowed o) content hi i)
reads_are None content hi o i le same =
    reads_all content hi (slice_index o.owners) o.owners o.needles i 0 le same (λ k l. let z : k ≡ 0 + k = omega arith in ap (slice_index o.owners) z)
reads_are (Some p) content hi o i le same = reads_own content hi p o.owners o.needles i 0 le

-- the first walk from a start of a search
abbrev pub GivesFrom : Search → ℕ → Option (ℕ × ℕ) → Type 0
GivesFrom s x = Gives s.places s.text s.hi (only s.anchoring) [] ((0, x) ∷ [])

pub start_gives : (hs : List Re) (o : Owned) (s : Search) (x : ℕ) → AreListed 0 hs o → s.places ≡ program hs → x ≤ s.hi →
    GivesFrom s x (told (only s.anchoring) o (needle_at (needles_for (only s.anchoring) o) s.text.content s.hi x))
start_gives hs o s x l places le =
    subst (λ r. GivesFrom s x r) (reads_are (only s.anchoring) s.text.content s.hi o x le (each_owned 0 hs o l))
    (subst (λ ps. Gives ps s.text s.hi (only s.anchoring) [] ((0, x) ∷ []) (reads_owned (only s.anchoring) s.text.content s.hi o.owners o.needles x))
    (sym places) (program_gives s.text s.hi (only s.anchoring) hs o l x))

-- The list is exact.

pub exact_of : (hs : List Re) (o : Owned) (s : Search) → AreListed 0 hs o → s.places ≡ program hs → IsExact s o
exact_of hs o s l places = record {
  first = λ x hit le f.
      let g = subst (λ h. GivesFrom s x (told (only s.anchoring) o h)) (first_of (needles_for (only s.anchoring) o) s.text.content s.hi x hit f)
      (start_gives hs o s x l places le) in
      (g.0, g.1, g.2.1, g.2.0);
  none = λ x le none.
      subst (λ h. GivesFrom s x (told (only s.anchoring) o h)) (none_of (needles_for (only s.anchoring) o) s.text.content s.hi x none)
      (start_gives hs o s x l places le);
}

-- It covers the patterns.

-- a needle of pattern p is the content from i to j
pub record IsOwn (content : List ℕ) (o : Owned) (p i j : ℕ) : Type 0 where
  pub number : ℕ
  pub needle : List ℕ
  pub is : slice_get o.needles number ≡ Some needle
  pub owned : slice_get o.owners number ≡ Some p
  pub stands : StandsAt content needle i
  pub end : j ≡ i + length needle

-- one of the needles is
record IsOne (content : List ℕ) (ws : List (List ℕ)) (i j : ℕ) : Type 0 where
  number : ℕ
  needle : List ℕ
  is : slice_get ws number ≡ Some needle
  stands : StandsAt content needle i
  end : j ≡ i + length needle

first_one : (content w : List ℕ) (ws : List (List ℕ)) (i j : ℕ) → Stands content w i j → IsOne content (w ∷ ws) i j
first_one content w ws i j s =
    let r = range_of content w i j s in
    record { number = 0; needle = w; is = refl; stands = subst (λ z. Stands content w i z) r.0 s; end = r.0 }

later_one : (content w : List ℕ) (ws : List (List ℕ)) (i j : ℕ) → IsOne content ws i j → IsOne content (w ∷ ws) i j
later_one content w ws i j r = record { number = suc r.number; needle = r.needle; is = r.is; stands = r.stands; end = r.end }

one_member : (t : Text) (ws : List (List ℕ)) (i j : ℕ) → Spells t (alternation ws) i j → IsOne t.content ws i j
one_member t [] i j never = absurd never
one_member t (w ∷ ws) i j (inl s) = first_one t.content w ws i j s
one_member t (w ∷ ws) i j (inr s) = later_one t.content w ws i j (one_member t ws i j s)

one_of_pattern : (t : Text) (h : Re) (ws : List (List ℕ)) (i j : ℕ) → IsList h ws → Spells t h i j → IsOne t.content ws i j
one_of_pattern t h ws i j (one {w = w} some) s = first_one t.content w [] i j s
one_of_pattern t h ws i j (many some) s = one_member t ws i j s

-- a needle of the first pattern
own_first : (content : List ℕ) (p : ℕ) (ws : List (List ℕ)) (rest : Owned) (i j : ℕ) → IsOne content ws i j → IsOwn content (joined p ws rest) p i j
own_first content p ws rest i j r = record {
  number = r.number;
  needle = r.needle;
  is = in_front ws rest.needles r.number r.needle r.is;
  owned = owner_in_front ws rest.owners r.number r.needle r.is;
  stands = r.stands;
  end = r.end;
}
  where
    in_front : (ws others : List (List ℕ)) (k : ℕ) (w : List ℕ) → slice_get ws k ≡ Some w → slice_get (ws ++ others) k ≡ Some w
    in_front [] others k w e = absurd (none-some w e)
    in_front (v ∷ ws) others zero w e = e
    in_front (v ∷ ws) others (suc k) w e = in_front ws others k w e

    owner_in_front : (ws : List (List ℕ)) (others : List ℕ) (k : ℕ) (w : List ℕ) → slice_get ws k ≡ Some w →
        slice_get (replicate (length ws) p ++ others) k ≡ Some p
    owner_in_front [] others k w e = absurd (none-some w e)
    owner_in_front (v ∷ ws) others zero w e = refl
    owner_in_front (v ∷ ws) others (suc k) w e = owner_in_front ws others k w e

-- a needle of a later one
own_later : (content : List ℕ) (p : ℕ) (ws : List (List ℕ)) (rest : Owned) (q i j : ℕ) → IsOwn content rest q i j → IsOwn content (joined p ws rest) q i j
own_later content p [] rest q i j r = r
own_later content p (w ∷ ws) rest q i j r =
    let m = own_later content p ws rest q i j r in
    record { number = suc m.number; needle = m.needle; is = m.is; owned = m.owned; stands = m.stands; end = m.end }

pub spelled_own : (t : Text) (n : ℕ) (hs : List Re) (o : Owned) → AreListed n hs o → (p i j : ℕ) → SpelledBy t n hs p i j → IsOwn t.content o p i j
spelled_own t n [] o l p i j never = absurd never
spelled_own t n (h ∷ hs) o l p i j (inl s) =
    subst (λ x. IsOwn t.content x p i j) (sym l.3)
    (subst (λ q. IsOwn t.content (joined n l.0 l.1) q i j) (sym s.0) (own_first t.content n l.0 l.1 i j (one_of_pattern t h l.0 i j l.2 s.1)))
spelled_own t n (h ∷ hs) o l p i j (inr s) =
    subst (λ x. IsOwn t.content x p i j) (sym l.3) (own_later t.content n l.0 l.1 p i j (spelled_own t (n + 1) hs l.1 l.4 p i j s))

pub covers_of : (t : Text) (hs : List Re) (o : Owned) → AreListed 0 hs o → Covers t hs o.needles
covers_of t hs o l p i j s =
    let r = spelled_own t 0 hs o l p i j s in (r.number, r.needle, r.is, r.stands, omega (arith, r.end))

-- Walks that are chosen, and the text in which they are replaced.
use Rattle.std.proofs.Common.{◌≡◌, ◌∙◌, ◌+◌, ◌-◌, ◌*◌, ◌≤◌, ℕ, zero, suc, Bool, true, false, List, [], ◌∷◌, ◌++◌, Option, Some, None, if◌then◌else◌, ap, ap₂, append_assoc, append-nil, arith, drop, length, map, refl, slice_range, subst, sym}
use Rattle.std.specs.Option.{option_and_then, option_or}
use Rattle.std.proofs.lemmas.List.{drop-drop, map-append, take-append-drop}
use Rattle.std.proofs.lemmas.Option.{none-some, same_Some}
use Rattle.rc_text.specs.Found.{Found}
use Rattle.rc_text.specs.declared.types.MatchKind.TheVariants.{LeftmostFirst as leftmost_first}
use Rattle.rc_text.proofs.Ranges.{slice_range-append}
use Rattle.rc_walks.specs.Walks.{Pair}
use Rattle.rc_walks.specs.Tries.{walk_by}
use Rattle.rc_program.specs.Answer.{Chosen, Search, allowed_only, chosen, ends, first_given, found, from_start, is_allowed, last_of, next_of, start_count}
use Rattle.rc_program.specs.Matches
use Rattle.rc_program.specs.Matches.{from_on, matches_by, next_match}
use Rattle.rc_pikevm_search.specs.Walks.{chosen_from, next_start, walk_end, walk_start, walks_left}
use Rattle.rc_pikevm_search.proofs.Walked.{next_started, walks_law}
use Rattle.rc_reach.specs.Live.{list_by}
use Rattle.api_meta.specs.declared.regex.Regex.{Regex}
use Rattle.chunk_replace.specs.Replaced.{replaced_from}
use Rattle.chunk_replace.specs.Template.{Item}
use Rattle.stream_search.specs.Searches.{seeks}
use Rattle.rcsub.specs.Streamed.{AreChosen, BeginAt, Replaces, put_for, search_of}

-- ---- a walk is the one that is chosen from where it begins

here_or_on : {A : Type 0} (gives : ℕ → Option A) (x : ℕ) (a : A) (o rest : Option A) → gives x ≡ o → option_or o rest ≡ Some a →
    (rest ≡ Some a → (y : ℕ) × (gives y ≡ Some a)) → (y : ℕ) × (gives y ≡ Some a)
here_or_on gives x a None rest is e on = on e
here_or_on gives x a (Some b) rest is e on = (x, is ∙ e)

some_given : {A : Type 0} (gives : ℕ → Option A) (n x : ℕ) (a : A) → first_given gives n x ≡ Some a → (y : ℕ) × (gives y ≡ Some a)
some_given gives zero x a e = absurd (none-some a e)
some_given gives (suc n) x a e = here_or_on gives x a (gives x) (first_given gives n (x + 1)) refl e (some_given gives n (x + 1) a)

abbrev walked : ℕ → List Pair → Chosen
walked x w = record { start = x; walk = w }

begins_there : (s : Search) (x : ℕ) (c : Chosen) → from_start s x ≡ Some c → c.start ≡ x
begins_there s x c e = by_walk (walk_by (next_of s) (ends s) (length s.places * (s.hi + 1)) [] (0, x)) e
  where
    by_test : (w : List Pair) (b : Bool) → (if b then Some (walked x w) else None) ≡ Some c → c.start ≡ x
    by_test w true f = sym (ap (λ (d : Chosen). d.start) (same_Some (walked x w) c f))
    by_test w false f = absurd (none-some c f)

    by_walk : (o : Option (List Pair)) → option_and_then (allowed_only s x) o ≡ Some c → c.start ≡ x
    by_walk None f = absurd (none-some c f)
    by_walk (Some w) f = by_test w (is_allowed s w) f

pub chosen_there : (s : Search) (c : Chosen) → chosen s ≡ Some c → from_start s c.start ≡ Some c
unfolding chosen
chosen_there s c e =
    let (y, is) = some_given (from_start s) (start_count s) s.lo c e in subst (λ x. from_start s x ≡ Some c) (sym (begins_there s y c is)) is

one_more : (s : Search) (find : ℕ → Option Chosen) (rest : Chosen → List Chosen) (o : Option Chosen) → ((c : Chosen) → o ≡ Some c → from_start s c.start ≡ Some c) →
    ((c : Chosen) → AreChosen s (rest c)) → AreChosen s (Matches.and_on walk_start walk_end find rest o)
one_more s find rest None is more = tt
one_more s find rest (Some c) is more = (is c refl, more c)

all_chosen_by : (s : Search) (n k : ℕ) (last : Option ℕ) → AreChosen s (matches_by walk_start walk_end (chosen_from leftmost_first s) n k last)
all_chosen_by s zero k last = tt
all_chosen_by s (suc n) k last =
    one_more s (chosen_from leftmost_first s) (λ c. matches_by walk_start walk_end (chosen_from leftmost_first s) n (walk_end c) (Some (walk_end c)))
    (next_match walk_start walk_end (chosen_from leftmost_first s) k last)
    (λ c e. chosen_there (from_on s (next_start leftmost_first s k last)) c (sym (next_started leftmost_first s k last (λ x. cc)) ∙ e))
    (λ c. all_chosen_by s n (walk_end c) (Some (walk_end c)))

all_chosen : (s : Search) (k : ℕ) (last : Option ℕ) → AreChosen s (walks_left leftmost_first s k last)
unfolding walks_left
all_chosen s k last = all_chosen_by s (s.hi + 1 - k) k last

-- walks of the same matches are the same
one_walk : (s : Search) (c d : Chosen) → from_start s c.start ≡ Some c → from_start s d.start ≡ Some d → found s c ≡ found s d → c ≡ d
one_walk s c d p q e = same_Some c d (sym p ∙ ap (from_start s) (ap (λ (m : Found). m.start) e) ∙ q)

heads : (m n : Found) (ms ns : List Found) → m ∷ ms ≡ n ∷ ns → m ≡ n
heads m n ms ns e = cc

tails : (m n : Found) (ms ns : List Found) → m ∷ ms ≡ n ∷ ns → ms ≡ ns
tails m n ms ns e = cc

none_same : (m : Found) (ms : List Found) → [] ≡ m ∷ ms → ⊥
none_same m ms e = cc

same_walks : (s : Search) (xs ys : List Chosen) → AreChosen s xs → AreChosen s ys → map (found s) xs ≡ map (found s) ys → xs ≡ ys
same_walks s [] [] p q e = refl
same_walks s [] (d ∷ ys) p q e = absurd (none_same (found s d) (map (found s) ys) e)
same_walks s (c ∷ xs) [] p q e = absurd (none_same (found s c) (map (found s) xs) (sym e))
same_walks s (c ∷ xs) (d ∷ ys) p q e =
    ap₂ (λ x l. x ∷ l) (one_walk s c d p.0 q.0 (heads (found s c) (found s d) (map (found s) xs) (map (found s) ys) e))
    (same_walks s xs ys p.1 q.1 (tails (found s c) (found s d) (map (found s) xs) (map (found s) ys) e))

-- ---- the text, piece by piece

gap : (content : List ℕ) (by : Chosen → List ℕ) (from to : ℕ) (cs : List Chosen) → from ≤ to → BeginAt to cs →
    replaced_from content by from cs ≡ slice_range content from to ++ replaced_from content by to cs
gap content by from to [] order at =
    let there : from + (to - from) ≡ to = omega (arith, order) in
    sym (take-append-drop (to - from) (drop from content))
    ∙ ap (λ l. slice_range content from to ++ l) (drop-drop (to - from) from content ∙ ap (λ n. drop n content) there)
gap content by from to (c ∷ cs) order at =
    ap (λ l. l ++ (by c ++ replaced_from content by (last_of c.walk).1 cs)) (sym (slice_range-append content from to c.start order at))
    ∙ append_assoc (slice_range content from to) (slice_range content to c.start) (by c ++ replaced_from content by (last_of c.walk).1 cs)

later : (from to : ℕ) (cs : List Chosen) → from ≤ to → BeginAt to cs → BeginAt from cs
later from to [] order at = tt
later from to (c ∷ cs) order at = omega (arith, order, at)

chosen_more : (s : Search) (cs : List Chosen) (c : Chosen) → AreChosen s cs → from_start s c.start ≡ Some c → AreChosen s (cs ++ c ∷ [])
chosen_more s [] c p q = (q, tt)
chosen_more s (d ∷ cs) c p q = (p.0, chosen_more s cs c p.1 q)

module _ (r : Regex) (items : List Item) (content : List ℕ) where
  abbrev s : Search
  s = search_of r content

  abbrev by : Chosen → List ℕ
  by = put_for r items content

  -- before the first match
  pub replaces_none : Replaces r items content [] 0 []
  replaces_none = record { walks = []; matched = refl; picked = tt; split = λ rest at. refl }

  -- the bytes up to a place before which no match begins
  pub replaces_gap : (told : List Found) (from to : ℕ) (put : List ℕ) → from ≤ to → Replaces r items content told from put →
      Replaces r items content told to (put ++ slice_range content from to)
  replaces_gap told from to put order p = record {
    walks = p.walks;
    matched = p.matched;
    picked = p.picked;
    split = λ rest at.
        p.split rest (later from to rest order at) ∙ ap (λ l. put ++ l) (gap content by from to rest order at)
        ∙ sym (append_assoc put (slice_range content from to) (replaced_from content by to rest));
  }

  -- one match more
  pub replaces_match : (told : List Found) (from : ℕ) (put : List ℕ) (c : Chosen) (m : Found) → Replaces r items content told from put →
      from_start s c.start ≡ Some c → found s c ≡ m → from ≤ m.start →
      Replaces r items content (told ++ m ∷ []) m.end (put ++ (slice_range content from m.start ++ by c))
  replaces_match told from put c m p is same order =
      let start : c.start ≡ m.start = ap (λ (x : Found). x.start) same in
      let end : (last_of c.walk).1 ≡ m.end = ap (λ (x : Found). x.end) same in
      record {
        walks = p.walks ++ c ∷ [];
        matched = map-append (found s) p.walks (c ∷ []) ∙ ap₂ (λ l x. l ++ x ∷ []) p.matched same;
        picked = chosen_more s p.walks c p.picked is;
        split = λ rest at.
            ap (replaced_from content by 0) (append_assoc p.walks (c ∷ []) rest) ∙ p.split (c ∷ rest) (omega (arith, order, start))
            ∙ ap₂ (λ x y. put ++ (slice_range content from x ++ (by c ++ replaced_from content by y rest))) start end
            ∙ ap (λ l. put ++ l) (sym (append_assoc (slice_range content from m.start) (by c) (replaced_from content by m.end rest)))
            ∙ sym (append_assoc put (slice_range content from m.start ++ by c) (replaced_from content by m.end rest));
      }

  -- all matches, and the bytes after them
  pub replaces_all : (told : List Found) (to : ℕ) (put : List ℕ) → Replaces r items content told to put → told ≡ list_by leftmost_first (seeks r) content →
      replaced_from content by 0 (walks_left leftmost_first s 0 None) ≡ put ++ drop to content
  replaces_all told to put p all =
      let walks : walks_left leftmost_first s 0 None ≡ p.walks =
      same_walks s (walks_left leftmost_first s 0 None) p.walks (all_chosen s 0 None) p.picked
      (walks_law leftmost_first s 0 None (λ x. cc) ∙ sym all ∙ sym p.matched) in
      ap (replaced_from content by 0) (walks ∙ sym (append-nil p.walks)) ∙ p.split [] tt

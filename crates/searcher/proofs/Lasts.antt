-- The last match before a place, by matches one after another.
use Rattle.std.proofs.Common.{◌≡◌, ◌∙◌, ◌<◌, ◌≤◌, ℕ, List, [], ◌∷◌, ◌++◌, Option, Some, None, ap, arith, refl, subst, sym}
use Rattle.std.specs.Option.{option_or}
use Rattle.std.specs.Iterator.{Yields}
use Rattle.rc_text.specs.Found.{Found}
use Rattle.api_meta.specs.Lent.{FindNextWith, find_with_left}
use Rattle.api_meta.specs.declared.lists.FindMatchesWith.{FindMatchesWith}
use Rattle.rc_text.specs.declared.types.MatchKind.{MatchKind}
use Rattle.rc_program.specs.Answer.{Search}
use Rattle.rc_program.specs.Kinds.{matches_by_kind}
use Rattle.rc_program.specs.Matches.{AreInOrder, begin_of, end_of}
use Rattle.rc_program.proofs.KindLemmas.{kinds_in_order}
use Rattle.searcher.specs.Last.{if_before, last_before}

abbrev pub Rises : ℕ → List Found → Type 0
Rises high ms = AreInOrder begin_of end_of high ms

rest_rises : (high : ℕ) (m : Found) (ms : List Found) → Rises high (m ∷ ms) → Rises high ms
rest_rises high m [] o = tt
rest_rises high m (n ∷ ms) o = o.3

-- the matches behind some rise too
pub later_rise : (high : ℕ) (xs ys : List Found) → Rises high (xs ++ ys) → Rises high ys
later_rise high [] ys o = o
later_rise high (x ∷ xs) ys o = later_rise high xs ys (rest_rises high x (xs ++ ys) o)

if_not : (place : ℕ) (m : Found) → place ≤ m.start → if_before place m ≡ None
if_not place m over = grind arith

if_so : (place : ℕ) (m : Found) → m.start < place → if_before place m ≡ Some m
if_so place m below = grind arith

-- where one begins at the place or behind it, none from it on begins before
pub none_before : (place high : ℕ) (m : Found) (ms : List Found) → Rises high (m ∷ ms) → place ≤ m.start → last_before place (m ∷ ms) ≡ None
none_before place high m [] o over = ap (option_or None) (if_not place m over)
none_before place high m (n ∷ ms) o over =
    let next : place ≤ n.start = omega (arith, o.0, o.1) in
    ap (λ x. option_or x (if_before place m)) (none_before place high n ms o.3 next) ∙ ap (option_or None) (if_not place m over)

or_none : {X : Type 0} (o : Option X) → option_or o None ≡ o
or_none None = refl
or_none (Some x) = refl

or_or : {X : Type 0} (a b c : Option X) → option_or a (option_or b c) ≡ option_or (option_or a b) c
or_or None b c = refl
or_or (Some x) b c = refl

-- of two lists it is that of the second, or else that of the first
pub last_append : (place : ℕ) (xs ys : List Found) → last_before place (xs ++ ys) ≡ option_or (last_before place ys) (last_before place xs)
last_append place [] ys = sym (or_none (last_before place ys))
last_append place (x ∷ xs) ys =
    ap (λ o. option_or o (if_before place x)) (last_append place xs ys)
    ∙ sym (or_or (last_before place ys) (last_before place xs) (if_before place x))

-- one more that begins before the place is the last
pub last_more : (place : ℕ) (xs : List Found) (m : Found) → m.start < place → last_before place (xs ++ m ∷ []) ≡ Some m
last_more place xs m below =
    last_append place xs (m ∷ []) ∙ ap (λ o. option_or o (last_before place xs)) (if_so place m below)

-- what was left is what was given, and what is left behind it
pub given_and_left : {C : Type 0} (s : FindMatchesWith C) (items : List Found) (t : FindMatchesWith C) → Yields FindNextWith s items t →
    find_with_left s ≡ items ++ find_with_left t
given_and_left s [] t y = ap find_with_left y
given_and_left s (x ∷ xs) t y = y.1.0.0 ∙ ap (λ l. x ∷ l) (given_and_left y.0 xs t y.2)

-- where one that comes next begins at the place or behind it, the last of those that came is the last of all
pub last_is : {C : Type 0} (kind : MatchKind) (s : Search) (k place : ℕ) (i t u : FindMatchesWith C) (items : List Found) (m : Found) (last : Option Found) →
    find_with_left i ≡ matches_by_kind kind s k None → Yields FindNextWith i items t → FindNextWith t (Some m) u → place ≤ m.start →
    last ≡ last_before place items → last ≡ last_before place (matches_by_kind kind s k None)
last_is kind s k place i t u items m last left yields next over is =
    let all = matches_by_kind kind s k None in
    let rest = find_with_left u in
    let listed : all ≡ items ++ (m ∷ rest) = sym left ∙ given_and_left i items t yields ∙ ap (λ l. items ++ l) next.0.0 in
    let rise : Rises s.hi (m ∷ rest) = later_rise s.hi items (m ∷ rest) (subst (λ l. Rises s.hi l) listed (kinds_in_order kind s k None tt)) in
    is ∙ sym (ap (last_before place) listed ∙ last_append place items (m ∷ rest)
    ∙ ap (λ o. option_or o (last_before place items)) (none_before place s.hi m rest rise over))

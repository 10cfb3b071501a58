-- What each match of patterns holds, and the loops that gather it.
use Rattle.std.proofs.Common.{◌≡◌, ℕ, zero, suc, ◌+◌, ◌-◌, ◌<◌, ◌≤◌, List, [], ◌∷◌, ◌++◌, length, map, min, take, drop, get_or, Bool, true, false, Option, Some, None, is_some, not, true≢false, option_map, ◌&&◌, take-append-drop, append_assoc, nat_le, nat_lt, sym, ap, ap₂, subst, ◌∙◌, refl, arith, inl, inr, ⊎_elim, slice_get}
use Rattle.std.proofs.lemmas.Bool.{cases_Bool, and_parts, false≢true}
use Rattle.std.proofs.lemmas.Bool.Decides.{nat_tests}
use Rattle.std.specs.Bool.{◌==◌}
use Rattle.std.specs.Prelude.{if◌then◌else◌}
use Rattle.std.proofs.lemmas.Option.{none-some, same_Some, slice_get-map}
use Rattle.std.proofs.lemmas.List.{at_drop_more}
use Rattle.std.proofs.Math.Nat.{min-le_left}
use Rattle.rc_pattern.specs.Re.{Re, empty, literal, byte_in, char_in, look, repeat, capture, cat, alt, none}
use Rattle.rc_pattern.specs.Meaning.{meaning, alt_all, cat_all}
use Rattle.rc_pattern.specs.declared.hir.Hir.{Hir}
use Rattle.rc_program.specs.Text.{Text}
use Rattle.rc_program.specs.Spells.{Stands, Turns, Spells, SpelledBy}
use Rattle.rc_needles.specs.Needles.{StandsAt}
use Rattle.rc_literals.specs.Extraction.{are_too_many, both, first_bytes, greatest_copies, greatest_few, greatest_length, has_short}
use Rattle.rc_literals.specs.Literals.{literal_bytes}
use Rattle.rc_literals.specs.Prefixes.{ArePrefixes}
use Rattle.rc_needles.specs.Tables.{AreSome, IsUsable}
use Rattle.rc_literals.proofs.ExtractionLemmas.{IsBegun, first_hold, holds_literal, literal_prefix, spells_on, stands_joined, turns_on}
use Rattle.rc_literals.specs.Needs.{Holds}
use Rattle.rc_literals.specs.Required.{better, copies_of, few, greatest_needed, greatest_rest, joined, literal_needle, needed, next_bytes, only_byte, shortest, with_copies, with_each, with_rest}

-- a needle stands in the content from i to j
abbrev pub HasOne : List (List ℕ) → List ℕ → ℕ → ℕ → Type 0
HasOne needles content i j =
    (x k : ℕ) × (needle : List ℕ) × (slice_get needles k ≡ Some needle) × StandsAt content needle x × (i ≤ x) × (x + length needle ≤ j)

-- each text that the pattern spells holds a needle
abbrev pub AreHeld : List (List ℕ) → Re → Type 0
AreHeld needles h = (t : Text) (i j : ℕ) → Spells t h i j → HasOne needles t.content i j

-- between places further apart it stands, too
has_wider : (ws : List (List ℕ)) (content : List ℕ) (i j k l : ℕ) → k ≤ i → j ≤ l → HasOne ws content i j → HasOne ws content k l
has_wider ws content i j k l low high a = (a.0, a.1, a.2, a.3, a.4, omega (arith, low, a.5), omega (arith, high, a.6))

-- Two lists of needles.

has_left : (ws vs : List (List ℕ)) (content : List ℕ) (i j : ℕ) → HasOne ws content i j → HasOne (ws ++ vs) content i j
has_left ws vs content i j a = (a.0, a.1, a.2, get_more ws a.1 a.3, a.4, a.5, a.6)
  where
    get_more : (xs : List (List ℕ)) (k : ℕ) → slice_get xs k ≡ Some a.2 → slice_get (xs ++ vs) k ≡ Some a.2
    get_more [] k e = absurd (none-some a.2 e)
    get_more (x ∷ xs) zero e = e
    get_more (x ∷ xs) (suc k) e = get_more xs k e

has_right : (ws vs : List (List ℕ)) (content : List ℕ) (i j : ℕ) → HasOne vs content i j → HasOne (ws ++ vs) content i j
has_right [] vs content i j a = a
has_right (w ∷ ws) vs content i j a = let b = has_right ws vs content i j a in (b.0, suc b.1, b.2, b.3, b.4, b.5, b.6)

-- Pattern by pattern.

held_literal : (b : ℕ) (bs : List ℕ) → AreHeld (take greatest_length (b ∷ bs) ∷ []) (literal (b ∷ bs))
held_literal b bs t i j s =
    let w = take greatest_length (b ∷ bs) in
    let a = holds_literal (w ∷ []) (b ∷ bs) w (drop greatest_length (b ∷ bs)) (sym (take-append-drop greatest_length (b ∷ bs))) (0, refl) t i j s in
    (i, a.0, a.1, a.2, a.3, omega arith, a.4)

held_repeat : (ws : List (List ℕ)) (min : ℕ) (max : Option ℕ) (greedy : Bool) (a : Re) → 0 < min → AreHeld ws a → AreHeld ws (repeat min max greedy a)
held_repeat ws min max greedy a some held t i j s = by_turns s.0 s.1 s.3
  where
    by_turns : (n : ℕ) → min ≤ n → Turns (Spells t a) n i j → HasOne ws t.content i j
    by_turns zero le turns = absurd (omega (arith, some, le))
    by_turns (suc n) le turns =
        has_wider ws t.content i turns.0 i j (omega arith) (spells_on t (repeat 0 None true a) turns.0 j (n, omega arith, tt, turns.2))
        (held t i turns.0 turns.1)

held_first : (ws : List (List ℕ)) (a rest : Re) → AreHeld ws a → AreHeld ws (cat a rest)
held_first ws a rest held t i j s = has_wider ws t.content i s.0 i j (omega arith) (spells_on t rest s.0 j s.2) (held t i s.0 s.1)

held_rest : (ws : List (List ℕ)) (a rest : Re) → AreHeld ws rest → AreHeld ws (cat a rest)
held_rest ws a rest held t i j s = has_wider ws t.content s.0 j i j (spells_on t a i s.0 s.1) (omega arith) (held t s.0 j s.2)

held_either : (ws vs : List (List ℕ)) (a rest : Re) → AreHeld ws a → AreHeld vs rest → AreHeld (ws ++ vs) (alt a rest)
held_either ws vs a rest one other t i j (inl s) = has_left ws vs t.content i j (one t i j s)
held_either ws vs a rest one other t i j (inr s) = has_right ws vs t.content i j (other t i j s)

-- Copies of a literal.

literal_is : (a : Re) (bs : List ℕ) → literal_bytes a ≡ Some bs → a ≡ literal bs
literal_is (literal (b ∷ bs)) cs e = ap literal (same_Some (b ∷ bs) cs e)
literal_is (literal []) cs e = absurd (none-some cs e)
literal_is empty cs e = absurd (none-some cs e)
literal_is (byte_in rs) cs e = absurd (none-some cs e)
literal_is (char_in rs) cs e = absurd (none-some cs e)
literal_is (look l) cs e = absurd (none-some cs e)
literal_is (repeat min max greedy a) cs e = absurd (none-some cs e)
literal_is (capture n name a) cs e = absurd (none-some cs e)
literal_is (cat a rest) cs e = absurd (none-some cs e)
literal_is (alt a rest) cs e = absurd (none-some cs e)
literal_is none cs e = absurd (none-some cs e)

-- turns of a literal begin with so many copies of it
copies_stand : (k n : ℕ) (bs : List ℕ) (t : Text) (i j : ℕ) → k ≤ n → Turns (Spells t (literal bs)) n i j →
    (x : ℕ) × Stands t.content (copies_of k bs) i x × (x ≤ j)
copies_stand zero n bs t i j le turns = (i, refl, turns_on (Spells t (literal bs)) (λ x y r. spells_on t (literal bs) x y r) n i j turns)
copies_stand (suc k) zero bs t i j le turns = absurd (omega (arith, le))
copies_stand (suc k) (suc n) bs t i j le turns =
    let r = copies_stand k n bs t turns.0 j (omega (arith, le)) turns.2 in
    (r.0, stands_joined t.content bs (copies_of k bs) i turns.0 r.0 turns.1 r.1, r.2)

-- one copy more
pub copy_added : (xs bs whole : List ℕ) (n k : ℕ) → k < n → xs ++ copies_of (n - k) bs ≡ whole → (xs ++ bs) ++ copies_of (n - (k + 1)) bs ≡ whole
copy_added xs bs whole n k inside e =
    let left : n - k ≡ suc (n - (k + 1)) = omega (arith, inside) in
    append_assoc xs bs (copies_of (n - (k + 1)) bs) ∙ ap (λ m. xs ++ copies_of m bs) (sym left) ∙ e

held_copies : (bs : List ℕ) (more : ℕ) (max : Option ℕ) (greedy : Bool) →
    AreHeld (take greatest_length (copies_of (suc (min more greatest_copies)) bs) ∷ []) (repeat (suc more) max greedy (literal bs))
held_copies bs more max greedy t i j s =
    let less = min-le_left more greatest_copies in
    let some = s.1 in
    let whole = copies_of (suc (min more greatest_copies)) bs in
    let r = copies_stand (suc (min more greatest_copies)) s.0 bs t i j (omega (arith, less, some)) s.3 in
    let w = take greatest_length whole in
    let a = holds_literal (w ∷ []) whole w (drop greatest_length whole) (sym (take-append-drop greatest_length whole)) (0, refl) t i r.0 r.1 in
    let on = r.2 in
    let end = a.4 in
    (i, a.0, a.1, a.2, a.3, omega arith, omega (arith, end, on))

-- A byte with what is read behind it.

-- a literal of one byte spells that byte
only_stands : (b : ℕ) (a : Re) → only_byte (literal_bytes a) ≡ Some b → (t : Text) (i j : ℕ) → Spells t a i j →
    (slice_get t.content i ≡ Some b) × (i + 1 ≡ j)
only_stands b (literal (c ∷ [])) e t i j s = (s.0 ∙ e, s.1)
only_stands b (literal []) e t i j s = absurd (none-some b e)
only_stands b (literal (c ∷ d ∷ bs)) e t i j s = absurd (none-some b e)
only_stands b _ e t i j s = absurd (none-some b e)

few_are : (o : Option (List (List ℕ))) (ws : List (List ℕ)) → few o ≡ Some ws → o ≡ Some ws
few_are None ws e = e
few_are (Some us) ws e =
    ⊎_elim (λ y. rw y at e) (λ f. absurd (none-some ws (rw f at e)))
    (cases_Bool (nat_lt 0 (length us) && nat_le (length us) greatest_rest && nat_lt 0 (shortest us)))

-- what is spelled behind begins with one of the prefixes
next_begins : (rest : Re) (ws : List (List ℕ)) → next_bytes rest ≡ Some ws → (t : Text) (i j : ℕ) → Spells t rest i j →
    IsBegun ws t.content i j
next_begins (cat a rest) ws e t i j s =
    let b = first_hold a ws (few_are (first_bytes a) ws e) t i s.0 s.1 in
    let on = spells_on t rest s.0 j s.2 in
    (b.0, b.1, b.2, b.3, omega (arith, on, b.4))
next_begins _ ws e t i j s = absurd (none-some ws e)

held_each : (b : ℕ) (ws : List (List ℕ)) (a rest : Re) → only_byte (literal_bytes a) ≡ Some b → next_bytes rest ≡ Some ws →
    AreHeld (map (λ w. b ∷ w) ws) (cat a rest)
held_each b ws a rest is next t i j s =
    let one = only_stands b a is t i s.0 s.1 in
    let behind = next_begins rest ws next t s.0 j s.2 in
    let w = behind.1 in
    let end : s.0 + length w ≡ i + length (b ∷ w) = omega (arith, one.1) in (
      i,
      behind.0,
      b ∷ w,
      slice_get-map (λ u. b ∷ u) ws behind.0 ∙ ap (option_map (λ u. b ∷ u)) behind.2,
      (one.0, subst (λ z. Stands t.content w (i + 1) z) end (subst (λ z. Stands t.content w z (s.0 + length w)) (sym one.1) behind.3)),
      omega arith,
      omega (arith, one.1, behind.4),
    )

held_with : (longer : Bool) (a rest : Re) (n : Option (List (List ℕ))) → ((vs : List (List ℕ)) → n ≡ Some vs → AreHeld vs a) →
    (vs : List (List ℕ)) → (if longer then with_rest a rest n else n) ≡ Some vs → AreHeld vs (cat a rest)
held_with false a rest n held vs e = held_first vs a rest (held vs e)
held_with true a rest n held vs e = by_each (only_byte (literal_bytes a)) (next_bytes rest) refl refl e
  where
    by_each : (o : Option ℕ) (p : Option (List (List ℕ))) → only_byte (literal_bytes a) ≡ o → next_bytes rest ≡ p →
        with_each o p n ≡ Some vs → AreHeld vs (cat a rest)
    by_each None p is next e = held_first vs a rest (held vs e)
    by_each (Some b) None is next e = held_first vs a rest (held vs e)
    by_each (Some b) (Some ws) is next e =
        subst (λ z. AreHeld z (cat a rest)) (same_Some (map (λ w. b ∷ w) ws) vs e) (held_each b ws a rest is next)

-- the needles of a pattern stand in each text that it spells
pub needed_held : (longer : Bool) (h : Re) (ws : List (List ℕ)) → needed longer h ≡ Some ws → AreHeld ws h
needed_held longer empty ws e = absurd (none-some ws e)
needed_held longer (literal []) ws e = absurd (none-some ws e)
needed_held longer (literal (b ∷ bs)) ws e =
    subst (λ z. AreHeld z (literal (b ∷ bs))) (same_Some (take greatest_length (b ∷ bs) ∷ []) ws e) (held_literal b bs)
needed_held longer (byte_in rs) ws e = absurd (none-some ws e)
needed_held longer (char_in rs) ws e = absurd (none-some ws e)
needed_held longer (look l) ws e = absurd (none-some ws e)
needed_held longer (repeat zero max greedy a) ws e = absurd (none-some ws e)
needed_held longer (repeat (suc more) max greedy a) ws e = by_literal (literal_bytes a) refl (λ once. needed_held longer a ws once) e
  where
    by_literal : (o : Option (List ℕ)) → literal_bytes a ≡ o → (needed longer a ≡ Some ws → AreHeld ws a) →
        with_copies o more (needed longer a) ≡ Some ws → AreHeld ws (repeat (suc more) max greedy a)
    by_literal None is once needs = held_repeat ws (suc more) max greedy a (omega arith) (once needs)
    by_literal (Some bs) is once needs =
        ⊎_elim
        (λ y.
        subst (λ z. AreHeld ws (repeat (suc more) max greedy z)) (sym (literal_is a bs is))
        (subst (λ z. AreHeld z (repeat (suc more) max greedy (literal bs)))
        (same_Some (take greatest_length (copies_of (suc (min more greatest_copies)) bs) ∷ []) ws (rw y at needs)) (held_copies bs more max greedy)))
        (λ f. held_repeat ws (suc more) max greedy a (omega arith) (once (rw f at needs)))
        (cases_Bool (nat_le (length bs) greatest_length))
needed_held longer (capture n name a) ws e = needed_held longer a ws e
needed_held longer (cat a rest) ws e =
    by_better (if longer then with_rest a rest (needed longer a) else needed longer a) (needed longer rest)
    (held_with longer a rest (needed longer a) (λ vs. needed_held longer a vs)) (λ vs. needed_held longer rest vs) e
  where
    by_better : (o p : Option (List (List ℕ))) → ((vs : List (List ℕ)) → o ≡ Some vs → AreHeld vs (cat a rest)) →
        ((vs : List (List ℕ)) → p ≡ Some vs → AreHeld vs rest) → better o p ≡ Some ws → AreHeld ws (cat a rest)
    by_better None p one other is = held_rest ws a rest (other ws is)
    by_better (Some us) None one other is = one ws is
    by_better (Some us) (Some vs) one other is =
        ⊎_elim (λ y. held_rest ws a rest (other ws (rw y at is))) (λ f. one ws (rw f at is)) (cases_Bool (nat_lt (shortest us) (shortest vs)))
needed_held longer (alt a rest) ws e =
    by_joined (needed longer a) (needed longer rest) (λ vs. needed_held longer a vs) (λ vs. needed_held longer rest vs) e
  where
    by_joined : (o p : Option (List (List ℕ))) → ((vs : List (List ℕ)) → o ≡ Some vs → AreHeld vs a) →
        ((vs : List (List ℕ)) → p ≡ Some vs → AreHeld vs rest) → joined o p ≡ Some ws → AreHeld ws (alt a rest)
    by_joined None p one other is = absurd (none-some ws is)
    by_joined (Some us) None one other is = absurd (none-some ws is)
    by_joined (Some us) (Some vs) one other is =
        ⊎_elim
        (λ y.
        subst (λ z. AreHeld z (alt a rest)) (same_Some (us ++ vs) ws (rw y at is)) (held_either us vs a rest (one us refl) (other vs refl)))
        (λ f. absurd (none-some ws (rw f at is)))
        (cases_Bool (nat_le (length (us ++ vs)) greatest_needed))
needed_held longer none ws e = λ t i j never. absurd never

spelled_alt : (t : Text) (n : ℕ) (hs : List Re) (p i j : ℕ) → SpelledBy t n hs p i j → Spells t (alt_all hs) i j
spelled_alt t n [] p i j never = absurd never
spelled_alt t n (h ∷ hs) p i j (inl s) = inl s.1
spelled_alt t n (h ∷ hs) p i j (inr s) = inr (spelled_alt t (n + 1) hs p i j s)

-- each match of one of the patterns holds a needle
pub all_held : (longer : Bool) (hs : List Re) (ws : List (List ℕ)) → needed longer (alt_all hs) ≡ Some ws → (t : Text) → Holds t hs ws
all_held longer hs ws e t p i j s = needed_held longer (alt_all hs) ws e t i j (spelled_alt t 0 hs p i j s)

-- The loops over members, from the last to the first.

joined_none : (o : Option (List (List ℕ))) → joined o None ≡ None
joined_none None = refl
joined_none (Some vs) = refl

module _ (longer : Bool) where
  -- the needles of a concatenation, and of an alternation
  abbrev pub of_one : List Hir → Option (List (List ℕ))
  of_one hs = needed longer (cat_all (map meaning hs))

  abbrev pub of_each : List Hir → Option (List (List ℕ))
  of_each hs = needed longer (alt_all (map meaning hs))

  each_more : (hs : List Hir) (i : ℕ) (d : Hir) → i < length hs →
      of_each (drop i hs) ≡ joined (needed longer (meaning (get_or hs i d))) (of_each (drop (i + 1) hs))
  each_more hs i d inside = at_drop_more of_each hs i d inside

  -- where the members from a place on have none, the alternation has none
  none_before : (hs : List Hir) (i : ℕ) → of_each (drop i hs) ≡ None → of_each hs ≡ None
  none_before hs zero e = e
  none_before [] (suc i) e = e
  none_before (h ∷ hs) (suc i) e = ap (joined (needed longer (meaning h))) (none_before hs i e) ∙ joined_none (needed longer (meaning h))

  -- where a member and those behind it have none together, the alternation has none
  pub none_from : (hs : List Hir) (i n : ℕ) (x d : Hir) (vs ws all : Option (List (List ℕ))) → i < length hs → n ≡ i + 1 → x ≡ get_or hs i d →
      vs ≡ needed longer (meaning x) → ws ≡ of_each (drop n hs) → all ≡ joined vs ws → all ≡ None → all ≡ of_each hs
  none_from hs i n x d vs ws all inside next is one others e nil =
      nil ∙ sym (none_before hs i (each_more hs i d inside ∙ ap (λ y. joined (needed longer (meaning y)) (of_each (drop (i + 1) hs))) (sym is)
      ∙ ap (λ m. joined (needed longer (meaning x)) (of_each (drop m hs))) (sym next) ∙ ap₂ joined (sym one) (sym others) ∙ sym e ∙ nil))

-- what isn't there has no image
pub no_image : {A B : Type 0} (f : A → B) (o : Option A) (b : Bool) → is_some o ≡ not b → b ≡ true → option_map f o ≡ None
no_image f None b e t = refl
no_image f (Some x) b e t = absurd (true≢false (e ∙ ap not t))

-- The prefixes of the next member.

-- where no needle is empty
some_shortest : (ws : List (List ℕ)) → AreSome ws → 0 < shortest ws
some_shortest [] some = omega arith
some_shortest (w ∷ ws) some =
    let a : 0 < length w = some 0 (omega arith) in
    let b = some_shortest ws (λ k l. some (suc k) (omega (arith, l))) in
    omega (arith, a, b)

shortest_some : (ws : List (List ℕ)) → 0 < shortest ws → AreSome ws
shortest_some [] low k inside = absurd (omega (arith, inside))
shortest_some (w ∷ ws) low zero inside = omega (arith, low)
shortest_some (w ∷ ws) low (suc k) inside = shortest_some ws (omega (arith, low)) k (omega (arith, inside))

-- they are few, and none of them is empty
abbrev is_few : List (List ℕ) → Bool
is_few ws = nat_lt 0 (length ws) && nat_le (length ws) greatest_rest && nat_lt 0 (shortest ws)

few_usable : (ws : List (List ℕ)) → is_few ws ≡ true → IsUsable ws × (length ws ≤ greatest_rest)
few_usable ws e =
    let p = and_parts (nat_lt 0 (length ws) && nat_le (length ws) greatest_rest) (nat_lt 0 (shortest ws)) e in
    let q = and_parts (nat_lt 0 (length ws)) (nat_le (length ws) greatest_rest) p.0 in
    let some : 0 < length ws = let r = q.0 in grind (arith, nat_tests) in
    let low : 0 < shortest ws = let r = p.1 in grind (arith, nat_tests) in
    let le : length ws ≤ greatest_rest = let r = q.1 in grind (arith, nat_tests) in
    ((some, shortest_some ws low), le)

usable_few : (ws : List (List ℕ)) → IsUsable ws → length ws ≤ greatest_rest → is_few ws ≡ true
usable_few ws usable le =
    let low = some_shortest ws usable.1 in
    let a : nat_lt 0 (length ws) ≡ true = let r = usable.0 in grind (arith, nat_tests) in
    let b : nat_le (length ws) greatest_rest ≡ true = grind (arith, nat_tests) in
    let c : nat_lt 0 (shortest ws) ≡ true = grind (arith, nat_tests) in
    rw a (rw b c)

no_more : (xs : List (List ℕ)) → xs ≡ xs ++ []
no_more [] = refl
no_more (x ∷ xs) = ap (λ zs. x ∷ zs) (no_more xs)

both_one : (o : Option (List (List ℕ))) (ws : List (List ℕ)) → both o (Some []) ≡ Some ws → o ≡ Some ws
both_one None ws e = e
both_one (Some us) ws e = ap Some (no_more us) ∙ e

few_kept : (ws : List (List ℕ)) → length ws ≤ greatest_rest → are_too_many ws ≡ false
few_kept ws le =
    let f : nat_lt greatest_few (length ws) ≡ false = grind (arith, nat_tests) in
    ap (λ b. b && has_short ws) f

-- the next member has no prefixes
pub next_none : (hs : List Hir) → ((ws : List (List ℕ)) → ¬ ArePrefixes (map meaning (take 1 hs)) ws) → None ≡ next_bytes (cat_all (map meaning hs))
next_none [] never = refl
next_none (h ∷ hs) never = by_first (first_bytes (meaning h)) refl
  where
    by_first : (o : Option (List (List ℕ))) → first_bytes (meaning h) ≡ o → None ≡ few o
    by_first None e = refl
    by_first (Some ws) e =
        ⊎_elim
        (λ y.
        let u = few_usable ws y in
        absurd (never ws (record { are = ap (λ o. both o (Some [])) e ∙ ap Some (sym (no_more ws)); usable = u.0; few = omega (arith, u.1); kept = few_kept ws u.1 })))
        (λ f. rw f refl)
        (cases_Bool (is_few ws))

-- it has these, and they are few
pub next_some : (hs : List Hir) (ws : List (List ℕ)) → (length hs == 0) ≡ false → ArePrefixes (map meaning (take 1 hs)) ws →
    length ws ≤ greatest_rest → Some ws ≡ next_bytes (cat_all (map meaning hs))
next_some [] ws some are le = absurd (false≢true (sym some))
next_some (h ∷ hs) ws some are le =
    let y = usable_few ws are.usable le in
    sym (ap few (both_one (first_bytes (meaning h)) ws are.are) ∙ rw y refl)

-- it has too many
pub next_many : (hs : List Hir) (ws : List (List ℕ)) → ArePrefixes (map meaning (take 1 hs)) ws →
    greatest_rest < length ws → None ≡ next_bytes (cat_all (map meaning hs))
next_many [] ws are many = refl
next_many (h ∷ hs) ws are many =
    sym (ap few (both_one (first_bytes (meaning h)) ws are.are)
    ∙ ⊎_elim (λ y. let u = few_usable ws y in absurd (omega (arith, many, u.1))) (λ f. rw f refl) (cases_Bool (is_few ws)))

-- the needle of a literal
pub literal_has : (bs : List ℕ) (n : ℕ) → (length bs == 0) ≡ false → n ≡ min (length bs) greatest_length → literal_needle bs ≡ Some (take n bs ∷ [])
literal_has [] n some is = absurd (false≢true (sym some))
literal_has (b ∷ bs) n some is = ap (λ w. Some (w ∷ [])) (sym (literal_prefix (b ∷ bs) n is))

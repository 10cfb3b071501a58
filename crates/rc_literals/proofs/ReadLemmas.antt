-- Which bytes a pattern reads, and what sets of bytes leave.
use Rattle.std.proofs.Common.{◌≡◌, ℕ, zero, suc, ◌+◌, ◌<◌, ◌≤◌, List, [], ◌∷◌, Bool, true, false, ◌&&◌, ◌||◌, not, Some, slice_get, sym, ap, subst, ◌∙◌, refl, arith, inl, inr, ⊎_elim}
use Rattle.std.specs.Prelude.{if◌then◌else◌, nat_eq, nat_le, nat_lt}
use Rattle.std.specs.Char.{encode_utf8}
use Rattle.std.proofs.lemmas.Bool.{cases_Bool, cases_lt, and_parts, lt-ltb, le-ltb, false≢true}
use Rattle.std.proofs.lemmas.Bool.Decides.{nat_tests}
use Rattle.std.proofs.lemmas.Option.{same_Some}
use Rattle.rc_pattern.specs.Re.{Re, Range, empty, literal, byte_in, char_in, look, repeat, capture, cat, alt, none}
use Rattle.rc_pattern.specs.Meaning.{alt_all}
use Rattle.rc_program.specs.Text.{Text}
use Rattle.rc_program.specs.Program.{in_ranges}
use Rattle.rc_program.specs.Spells.{Stands, Turns, Spells, SpelledBy}
use Rattle.rc_literals.specs.Needs.{LeavesOut, is_stop}
use Rattle.rc_literals.specs.Stops.{among, reach_far, reads}

-- What is spelled has no byte but those that the pattern reads.

or_left : (a b : Bool) → a ≡ true → (a || b) ≡ true
or_left true b e = refl
or_left false b e = absurd (false≢true e)

or_right : (a b : Bool) → b ≡ true → (a || b) ≡ true
or_right true b e = refl
or_right false b e = e

same_byte : (content : List ℕ) (i x b c : ℕ) → slice_get content i ≡ Some b → slice_get content x ≡ Some c → x ≡ i → b ≡ c
same_byte content i x b c e f same = same_Some b c (sym e ∙ ap (slice_get content) (sym same) ∙ f)

stood_among : (content bs : List ℕ) (i j x b : ℕ) → Stands content bs i j → i ≤ x → x < j → slice_get content x ≡ Some b → among bs b ≡ true
stood_among content [] i j x b s low high e = absurd (omega (arith, s, low, high))
stood_among content (c ∷ cs) i j x b s low high e =
    elim (cases_lt i x) [
      | inl l ↦ or_right (nat_eq c b) (among cs b) (stood_among content cs (i + 1) j x b s.1 (omega (arith, l)) high e)
      | inr l ↦
          or_left (nat_eq c b) (among cs b)
          (let same : c ≡ b = same_byte content i x c b s.0 e (omega (arith, l, low)) in grind (arith, nat_tests))
    ]

-- each of these bytes is 128 or more
abbrev AreFar : List ℕ → Type 0
AreFar [] = Unit {0}
AreFar (b ∷ bs) = (128 ≤ b) × AreFar bs

stood_far : (content bs : List ℕ) (i j x b : ℕ) → AreFar bs → Stands content bs i j → i ≤ x → x < j → slice_get content x ≡ Some b → 128 ≤ b
stood_far content [] i j x b far s low high e = absurd (omega (arith, s, low, high))
stood_far content (c ∷ cs) i j x b far s low high e =
    elim (cases_lt i x) [
      | inl l ↦ stood_far content cs (i + 1) j x b far.1 s.1 (omega (arith, l)) high e
      | inr l ↦ let same : c ≡ b = same_byte content i x c b s.0 e (omega (arith, l, low)) in omega (arith, same, far.0)
    ]

encode_one : (c : ℕ) → c < 128 → encode_utf8 c ≡ c ∷ []
unfolding encode_utf8
encode_one c near = rw (lt-ltb c 128 near) refl

encode_far : (c : ℕ) → 128 ≤ c → AreFar (encode_utf8 c)
unfolding encode_utf8
encode_far c far =
    elim (cases_lt c 2048) [
      | inl l ↦ rw (le-ltb c 128 far, lt-ltb c 2048 l) (omega arith, (omega arith, tt))
      | inr l ↦
          elim (cases_lt c 65536) [
            | inl m ↦ rw (le-ltb c 128 far, le-ltb c 2048 l, lt-ltb c 65536 m) (omega arith, (omega arith, (omega arith, tt)))
            | inr m ↦ rw (le-ltb c 128 far, le-ltb c 2048 l, le-ltb c 65536 m) (omega arith, (omega arith, (omega arith, (omega arith, tt))))
          ]
    ]

reach_there : (rs : List Range) (c : ℕ) → 128 ≤ c → in_ranges rs c ≡ true → reach_far rs ≡ true
reach_there [] c far is = absurd (false≢true is)
reach_there (r ∷ rs) c far is =
    elim (cases_Bool (nat_le r.0 c && nat_le c r.1)) [
      | inl y ↦
          let p = and_parts (nat_le r.0 c) (nat_le c r.1) y in
          let high : c ≤ r.1 = let e = p.1 in grind (arith, nat_tests) in
          or_left (nat_le 128 r.1) (reach_far rs) (let past : 128 ≤ r.1 = omega (arith, far, high) in grind (arith, nat_tests))
      | inr f ↦ or_right (nat_le 128 r.1) (reach_far rs) (reach_there rs c far (subst (λ z. (z || in_ranges rs c) ≡ true) f is))
    ]

char_read : (content : List ℕ) (rs : List Range) (c i j x b : ℕ) → in_ranges rs c ≡ true → Stands content (encode_utf8 c) i j → i ≤ x → x < j →
    slice_get content x ≡ Some b → (if nat_lt b 128 then in_ranges rs b else reach_far rs) ≡ true
char_read content rs c i j x b is s low high e =
    elim (cases_lt c 128) [
      | inl l ↦
          let t = subst (λ bs. Stands content bs i j) (encode_one c l) s in
          let same : c ≡ b = same_byte content i x c b t.0 e (let end = t.1 in omega (arith, end, low, high)) in
          let near : nat_lt b 128 ≡ true = grind (arith, nat_tests) in
          rw near (subst (λ z. in_ranges rs z ≡ true) same is)
      | inr l ↦
          let far = stood_far content (encode_utf8 c) i j x b (encode_far c l) s low high e in
          let past : nat_lt b 128 ≡ false = grind (arith, nat_tests) in
          rw past (reach_there rs c l is)
    ]

turns_read : (R : ℕ → ℕ → Type 0) (P : Type 0) (x : ℕ) → ((i j : ℕ) → R i j → i ≤ x → x < j → P) →
    (n i j : ℕ) → Turns R n i j → i ≤ x → x < j → P
turns_read R P x read zero i j s low high = absurd (omega (arith, s, low, high))
turns_read R P x read (suc n) i j s low high =
    ⊎_elim (λ (l : x < s.0). read i s.0 s.1 low l) (λ (l : s.0 ≤ x). turns_read R P x read n s.0 j s.2 l high) (cases_lt x s.0)

pub spells_read : (t : Text) (h : Re) (i j x b : ℕ) → Spells t h i j → i ≤ x → x < j → slice_get t.content x ≡ Some b → reads h b ≡ true
spells_read t empty i j x b s low high e = absurd (omega (arith, s, low, high))
spells_read t (literal bs) i j x b s low high e = stood_among t.content bs i j x b s low high e
spells_read t (byte_in rs) i j x b s low high e =
    let end = s.3 in
    let same : s.0 ≡ b = same_byte t.content i x s.0 b s.1 e (omega (arith, end, low, high)) in
    subst (λ z. in_ranges rs z ≡ true) same s.2
spells_read t (char_in rs) i j x b s low high e = char_read t.content rs s.0 i j x b s.2 s.3 low high e
spells_read t (look l) i j x b s low high e = let end = s.1 in absurd (omega (arith, end, low, high))
spells_read t (repeat min max greedy a) i j x b s low high e =
    turns_read (Spells t a) (reads a b ≡ true) x (λ k l r m n. spells_read t a k l x b r m n e) s.0 i j s.3 low high
spells_read t (capture n name a) i j x b s low high e = spells_read t a i j x b s low high e
spells_read t (cat a rest) i j x b s low high e =
    ⊎_elim (λ (l : x < s.0). or_left (reads a b) (reads rest b) (spells_read t a i s.0 x b s.1 low l e))
    (λ (l : s.0 ≤ x). or_right (reads a b) (reads rest b) (spells_read t rest s.0 j x b s.2 l high e)) (cases_lt x s.0)
spells_read t (alt a rest) i j x b (inl s) low high e = or_left (reads a b) (reads rest b) (spells_read t a i j x b s low high e)
spells_read t (alt a rest) i j x b (inr s) low high e = or_right (reads a b) (reads rest b) (spells_read t rest i j x b s low high e)
spells_read t none i j x b never low high e = absurd never

spelled_read : (t : Text) (n : ℕ) (hs : List Re) (p i j x b : ℕ) → SpelledBy t n hs p i j → i ≤ x → x < j → slice_get t.content x ≡ Some b →
    reads (alt_all hs) b ≡ true
spelled_read t n [] p i j x b never low high e = absurd never
spelled_read t n (h ∷ hs) p i j x b (inl s) low high e = or_left (reads h b) (reads (alt_all hs) b) (spells_read t h i j x b s.1 low high e)
spelled_read t n (h ∷ hs) p i j x b (inr s) low high e =
    or_right (reads h b) (reads (alt_all hs) b) (spelled_read t (n + 1) hs p i j x b s low high e)

not_read : (a r : Bool) → r ≡ true → (a && not r) ≡ false
not_read a false e = absurd (false≢true e)
not_read false true e = refl
not_read true true e = refl

pub leaves_out : (hs : List Re) (stops : List Bool) (within : ℕ → Bool) → ((b : ℕ) → is_stop stops b ≡ (within b && not (reads (alt_all hs) b))) →
    (t : Text) → LeavesOut t hs stops
leaves_out hs stops within value t p i j x b s low high e =
    value b ∙ not_read (within b) (reads (alt_all hs) b) (spelled_read t 0 hs p i j x b s low high e)

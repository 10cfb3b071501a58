-- What the assertions of a program ask for.
use Rattle.std.proofs.Common.{◌≡◌, ℕ, ◌+◌, ◌<◌, ◌≤◌, List, length, Some, None, true, false, true≢false, IsTrue, ⊎_elim, sym, subst, ap, ◌∙◌, refl, arith}
use Rattle.std.proofs.lemmas.Bool.{cases_lt, cases_eq}
use Rattle.std.proofs.lemmas.Option.{none-some, same_Some}
use Rattle.rc_pattern.specs.declared.hir.Look.{Look}
use Rattle.rc_pattern.specs.declared.hir.Look.TheVariants.{Start, End, StartLF, EndLF, StartCRLF, EndCRLF, WordAscii, WordAsciiNegate, WordUnicode, WordUnicodeNegate, WordStartAscii, WordEndAscii, WordStartUnicode, WordEndUnicode, WordStartHalfAscii, WordEndHalfAscii, WordStartHalfUnicode, WordEndHalfUnicode}
use Rattle.rc_program.specs.Program.{Place, choice, byte, branch, scalar, guard, slot, accept, place_at}
use Rattle.rc_program.proofs.WayLemmas.{past_places}
use Rattle.rc_determinize.specs.declared.sides.Asked.{Asked}
use Rattle.rc_determinize.specs.Sides.{asks, is_unicode, HasLook, Covers, AsksNoMore, AreAsked, asking, guarded}

-- the assertion's demands are met
abbrev pub Meets : Look → Asked → Type 0
Meets l n = asks l n.facts × (IsTrue (is_unicode l) → IsTrue n.unicode)

pub asking_more : (k : Look) (n : Asked) → AsksNoMore n (asking k n)
asking_more Start n = record { edge = λ h. refl; terminator = λ h. h; line_feed = λ h. h; carriage_return = λ h. h; word = λ h. h; unicode = λ h. h }
asking_more End n = record { edge = λ h. refl; terminator = λ h. h; line_feed = λ h. h; carriage_return = λ h. h; word = λ h. h; unicode = λ h. h }
asking_more StartLF n = record { edge = λ h. refl; terminator = λ h. refl; line_feed = λ h. h; carriage_return = λ h. h; word = λ h. h; unicode = λ h. h }
asking_more EndLF n = record { edge = λ h. refl; terminator = λ h. refl; line_feed = λ h. h; carriage_return = λ h. h; word = λ h. h; unicode = λ h. h }
asking_more StartCRLF n = record { edge = λ h. refl; terminator = λ h. h; line_feed = λ h. refl; carriage_return = λ h. refl; word = λ h. h; unicode = λ h. h }
asking_more EndCRLF n = record { edge = λ h. refl; terminator = λ h. h; line_feed = λ h. refl; carriage_return = λ h. refl; word = λ h. h; unicode = λ h. h }
asking_more WordAscii n = record { edge = λ h. h; terminator = λ h. h; line_feed = λ h. h; carriage_return = λ h. h; word = λ h. refl; unicode = λ h. h }
asking_more WordAsciiNegate n = record { edge = λ h. h; terminator = λ h. h; line_feed = λ h. h; carriage_return = λ h. h; word = λ h. refl; unicode = λ h. h }
asking_more WordStartAscii n = record { edge = λ h. h; terminator = λ h. h; line_feed = λ h. h; carriage_return = λ h. h; word = λ h. refl; unicode = λ h. h }
asking_more WordEndAscii n = record { edge = λ h. h; terminator = λ h. h; line_feed = λ h. h; carriage_return = λ h. h; word = λ h. refl; unicode = λ h. h }
asking_more WordStartHalfAscii n = record { edge = λ h. h; terminator = λ h. h; line_feed = λ h. h; carriage_return = λ h. h; word = λ h. refl; unicode = λ h. h }
asking_more WordEndHalfAscii n = record { edge = λ h. h; terminator = λ h. h; line_feed = λ h. h; carriage_return = λ h. h; word = λ h. refl; unicode = λ h. h }
asking_more _ n = record { edge = λ h. h; terminator = λ h. h; line_feed = λ h. h; carriage_return = λ h. h; word = λ h. h; unicode = λ h. refl }

pub asking_meets : (l : Look) (n : Asked) → Meets l (asking l n)
asking_meets Start n = (refl, λ h. absurd (true≢false (sym h)))
asking_meets End n = (refl, λ h. absurd (true≢false (sym h)))
asking_meets StartLF n = ((refl, refl), λ h. absurd (true≢false (sym h)))
asking_meets EndLF n = ((refl, refl), λ h. absurd (true≢false (sym h)))
asking_meets StartCRLF n = ((refl, refl, refl), λ h. absurd (true≢false (sym h)))
asking_meets EndCRLF n = ((refl, refl, refl), λ h. absurd (true≢false (sym h)))
asking_meets WordAscii n = (refl, λ h. absurd (true≢false (sym h)))
asking_meets WordAsciiNegate n = (refl, λ h. absurd (true≢false (sym h)))
asking_meets WordStartAscii n = (refl, λ h. absurd (true≢false (sym h)))
asking_meets WordEndAscii n = (refl, λ h. absurd (true≢false (sym h)))
asking_meets WordStartHalfAscii n = (refl, λ h. absurd (true≢false (sym h)))
asking_meets WordEndHalfAscii n = (refl, λ h. absurd (true≢false (sym h)))
asking_meets WordUnicode n = (tt, λ h. refl)
asking_meets WordUnicodeNegate n = (tt, λ h. refl)
asking_meets WordStartUnicode n = (tt, λ h. refl)
asking_meets WordEndUnicode n = (tt, λ h. refl)
asking_meets WordStartHalfUnicode n = (tt, λ h. refl)
asking_meets WordEndHalfUnicode n = (tt, λ h. refl)

pub meets_more : (l : Look) (n m : Asked) → AsksNoMore n m → Meets l n → Meets l m
meets_more Start n m a h = (a.edge h.0, λ u. a.unicode (h.1 u))
meets_more End n m a h = (a.edge h.0, λ u. a.unicode (h.1 u))
meets_more StartLF n m a h = ((a.edge h.0.0, a.terminator h.0.1), λ u. a.unicode (h.1 u))
meets_more EndLF n m a h = ((a.edge h.0.0, a.terminator h.0.1), λ u. a.unicode (h.1 u))
meets_more StartCRLF n m a h = ((a.edge h.0.0, a.line_feed h.0.1, a.carriage_return h.0.2), λ u. a.unicode (h.1 u))
meets_more EndCRLF n m a h = ((a.edge h.0.0, a.line_feed h.0.1, a.carriage_return h.0.2), λ u. a.unicode (h.1 u))
meets_more WordAscii n m a h = (a.word h.0, λ u. a.unicode (h.1 u))
meets_more WordAsciiNegate n m a h = (a.word h.0, λ u. a.unicode (h.1 u))
meets_more WordStartAscii n m a h = (a.word h.0, λ u. a.unicode (h.1 u))
meets_more WordEndAscii n m a h = (a.word h.0, λ u. a.unicode (h.1 u))
meets_more WordStartHalfAscii n m a h = (a.word h.0, λ u. a.unicode (h.1 u))
meets_more WordEndHalfAscii n m a h = (a.word h.0, λ u. a.unicode (h.1 u))
meets_more WordUnicode n m a h = (tt, λ u. a.unicode (h.1 u))
meets_more WordUnicodeNegate n m a h = (tt, λ u. a.unicode (h.1 u))
meets_more WordStartUnicode n m a h = (tt, λ u. a.unicode (h.1 u))
meets_more WordEndUnicode n m a h = (tt, λ u. a.unicode (h.1 u))
meets_more WordStartHalfUnicode n m a h = (tt, λ u. a.unicode (h.1 u))
meets_more WordEndHalfUnicode n m a h = (tt, λ u. a.unicode (h.1 u))

word_least : (n other : Asked) → AsksNoMore n other → IsTrue other.facts.word → AsksNoMore (record n { facts = record n.facts { word = true } }) other
word_least n other a h = record {
  edge = a.edge;
  terminator = a.terminator;
  line_feed = a.line_feed;
  carriage_return = a.carriage_return;
  word = λ t. h;
  unicode = a.unicode;
}

unicode_least : (n other : Asked) → AsksNoMore n other → IsTrue other.unicode → AsksNoMore (record n { unicode = true }) other
unicode_least n other a h = record {
  edge = a.edge;
  terminator = a.terminator;
  line_feed = a.line_feed;
  carriage_return = a.carriage_return;
  word = a.word;
  unicode = λ t. h;
}

pub asking_least : (k : Look) (n other : Asked) → AsksNoMore n other → Meets k other → AsksNoMore (asking k n) other
asking_least Start n other a h = record { edge = λ t. h.0; terminator = a.terminator; line_feed = a.line_feed; carriage_return = a.carriage_return; word = a.word; unicode = a.unicode }
asking_least End n other a h = record { edge = λ t. h.0; terminator = a.terminator; line_feed = a.line_feed; carriage_return = a.carriage_return; word = a.word; unicode = a.unicode }
asking_least StartLF n other a h = record { edge = λ t. h.0.0; terminator = λ t. h.0.1; line_feed = a.line_feed; carriage_return = a.carriage_return; word = a.word; unicode = a.unicode }
asking_least EndLF n other a h = record { edge = λ t. h.0.0; terminator = λ t. h.0.1; line_feed = a.line_feed; carriage_return = a.carriage_return; word = a.word; unicode = a.unicode }
asking_least StartCRLF n other a h = record { edge = λ t. h.0.0; terminator = a.terminator; line_feed = λ t. h.0.1; carriage_return = λ t. h.0.2; word = a.word; unicode = a.unicode }
asking_least EndCRLF n other a h = record { edge = λ t. h.0.0; terminator = a.terminator; line_feed = λ t. h.0.1; carriage_return = λ t. h.0.2; word = a.word; unicode = a.unicode }
asking_least WordAscii n other a h = word_least n other a h.0
asking_least WordAsciiNegate n other a h = word_least n other a h.0
asking_least WordStartAscii n other a h = word_least n other a h.0
asking_least WordEndAscii n other a h = word_least n other a h.0
asking_least WordStartHalfAscii n other a h = word_least n other a h.0
asking_least WordEndHalfAscii n other a h = word_least n other a h.0
asking_least WordUnicode n other a h = unicode_least n other a (h.1 refl)
asking_least WordUnicodeNegate n other a h = unicode_least n other a (h.1 refl)
asking_least WordStartUnicode n other a h = unicode_least n other a (h.1 refl)
asking_least WordEndUnicode n other a h = unicode_least n other a (h.1 refl)
asking_least WordStartHalfUnicode n other a h = unicode_least n other a (h.1 refl)
asking_least WordEndHalfUnicode n other a h = unicode_least n other a (h.1 refl)

-- of the places before number i
pub record AreNeedsSoFar (needs : Asked) (places : List Place) (i : ℕ) : Type 0 where
  pub covers : (q : ℕ) → q < i → (l : Look) → HasLook l (place_at places q) → Meets l needs
  pub least : (other : Asked) → Covers other places → AsksNoMore needs other

abbrev none_asked : Asked
none_asked = record { facts = record { edge = false; terminator = false; line_feed = false; carriage_return = false; word = false }; unicode = false }

pub nothing_asked : (places : List Place) → AreNeedsSoFar none_asked places 0
nothing_asked places = record {
  covers = λ q h. absurd (omega (arith, h));
  least = λ other c. record {
    edge = λ h. absurd (true≢false (sym h));
    terminator = λ h. absurd (true≢false (sym h));
    line_feed = λ h. absurd (true≢false (sym h));
    carriage_return = λ h. absurd (true≢false (sym h));
    word = λ h. absurd (true≢false (sym h));
    unicode = λ h. absurd (true≢false (sym h));
  };
}

guard_of : (place : Place) (l : Look) → guarded place ≡ Some l → (n : ℕ) × (place ≡ guard l n)
guard_of (guard k n) l e = (n, ap (λ x. guard x n) (same_Some k l e))
guard_of (choice ns) l e = absurd (none-some l e)
guard_of (byte rs n) l e = absurd (none-some l e)
guard_of (branch ts) l e = absurd (none-some l e)
guard_of (scalar rs n) l e = absurd (none-some l e)
guard_of (slot k n) l e = absurd (none-some l e)
guard_of (accept p) l e = absurd (none-some l e)

no_guard : (place : Place) (l : Look) → guarded place ≡ None → ¬ HasLook l place
no_guard (guard k n) l e h = none-some k (sym e)
no_guard (choice ns) l e h = h
no_guard (byte rs n) l e h = h
no_guard (branch ts) l e h = h
no_guard (scalar rs n) l e h = h
no_guard (slot k n) l e h = h
no_guard (accept p) l e h = h

pub asks_for : (needs : Asked) (places : List Place) (i : ℕ) (k : Look) → guarded (place_at places i) ≡ Some k → AreNeedsSoFar needs places i →
    AreNeedsSoFar (asking k needs) places (i + 1)
asks_for needs places i k g s = let n = (guard_of (place_at places i) k g).0 in let e = (guard_of (place_at places i) k g).1 in record {
  covers = λ q h l has.
      ⊎_elim
      (λ same. let is : k ≡ l = subst (λ p. HasLook l p) (ap (place_at places) (sym same) ∙ e) has in
      subst (λ x. Meets x (asking k needs)) is (asking_meets k needs))
      (λ ne. meets_more l needs (asking k needs) (asking_more k needs) (s.covers q (omega (arith, h, ne)) l has))
      (cases_eq i q);
  least = λ other c. let here : HasLook k (place_at places i) = subst (λ p. HasLook k p) (sym e) refl in
      asking_least k needs other (s.least other c) (c.facts i k here, c.unicode i k here);
}

pub asks_nothing : (needs : Asked) (places : List Place) (i : ℕ) → guarded (place_at places i) ≡ None → AreNeedsSoFar needs places i →
    AreNeedsSoFar needs places (i + 1)
asks_nothing needs places i none s = record {
  covers = λ q h l has.
      ⊎_elim (λ same. absurd (no_guard (place_at places i) l none (subst (λ x. HasLook l (place_at places x)) (sym same) has)))
      (λ ne. s.covers q (omega (arith, h, ne)) l has) (cases_eq i q);
  least = s.least;
}

pub all_asked : (needs : Asked) (places : List Place) (i : ℕ) → length places ≤ i → AreNeedsSoFar needs places i → AreAsked needs places
all_asked needs places i past s = record {
  covers = record { facts = λ q l h. (here q l h).0; unicode = λ q l h. (here q l h).1 };
  least = s.least;
}
  where
    here : (q : ℕ) (l : Look) → HasLook l (place_at places q) → Meets l needs
    here q l h =
        ⊎_elim (λ lt. s.covers q (omega (arith, lt, past)) l h)
        (λ ge. absurd (subst (λ p. HasLook l p) (past_places places q ge) h)) (cases_lt q (length places))

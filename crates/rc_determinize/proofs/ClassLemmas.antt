-- Classes of bytes.
use Rattle.std.proofs.Common.{◌≡◌, ◌≢◌, ◌↔◌, ℕ, zero, suc, ◌+◌, ◌<◌, ◌≤◌, List, [], ◌∷◌, ◌++◌, map, length, Some, Bool, true, false, true≢false, ◌&&◌, ◌||◌, nat_eq, eq-eqb, if◌then◌else◌, get_or, ⊎_elim, sym, subst, ap, ◌∙◌, refl, arith}
use Rattle.std.specs.List.{AllByRecursion, list_any}
use Rattle.std.proofs.lemmas.Bool.{cases_lt, cases_eq, cases_Bool}
use Rattle.std.proofs.lemmas.List.{length-append, get_or_push, get_or_append_left}
use Rattle.rc_pattern.specs.Re.{Range}
use Rattle.rc_program.specs.Looks.{differ}
use Rattle.rc_program.specs.Program.{Place, branch, place_at, ways_out}
use Rattle.rc_utf8.specs.declared.place.ByteWay.{ByteWay}
use Rattle.rc_utf8.specs.Places.{way_of}
use Rattle.rc_determinize.specs.declared.sides.Seen.{Seen}
use Rattle.rc_determinize.specs.declared.sides.Asked.{Asked}
use Rattle.rc_determinize.specs.Steps.{IsByBytes}
use Rattle.rc_determinize.specs.Sides.{told, ranges_of, holds_both, IsReadable, AreAlike}
use Rattle.rc_determinize.specs.Classes.{parts, are_parted, is_other_line, is_other_word, is_other, is_border, AreClasses, TellsAlike, ClassLaw}
use Rattle.rc_determinize.proofs.SidesLemmas.{uncut}

-- WHAT A BORDER IS

same_if : (x y : Bool) → differ x y ≡ false → x ≡ y
same_if true true h = refl
same_if true false h = absurd (true≢false h)
same_if false true h = absurd (true≢false h)
same_if false false h = refl

none_left : (x y : Bool) → (x || y) ≡ false → x ≡ false
none_left true y h = absurd (true≢false h)
none_left false y h = refl

none_right : (x y : Bool) → (x || y) ≡ false → y ≡ false
none_right true y h = absurd (true≢false h)
none_right false y h = h

all_whole : (b : ℕ) (rs : List Range) → list_any (parts b) rs ≡ false → AllByRecursion (holds_both b (b + 1)) rs
all_whole b [] h = tt
all_whole b (r ∷ rs) h = (same_if _ _ (none_left _ _ h), all_whole b rs (none_right (parts b r) _ h))

not_parted : (places : List Place) (b q : ℕ) → are_parted places b ≡ false → AllByRecursion (holds_both b (b + 1)) (ranges_of (place_at places q))
not_parted [] b q h = tt
not_parted (p ∷ ps) b zero h = all_whole b (ranges_of p) (none_left _ _ h)
not_parted (p ∷ ps) b (suc q) h = not_parted ps b q (none_right (list_any (parts b) (ranges_of p)) _ h)

same_told : (x y : Seen) → is_other x y ≡ false → x ≡ y
same_told x y h =
    let line = none_left (is_other_line x y) (is_other_word x y) h in
    let line2 = none_right (differ x.edge y.edge) _ line in
    let line3 = none_right (differ x.terminator y.terminator) _ line2 in
    let words = none_right (is_other_line x y) (is_other_word x y) h in
    let words2 = none_right (differ x.word y.word) _ words in
    let edge = same_if x.edge y.edge (none_left _ _ line) in
    let terminator = same_if x.terminator y.terminator (none_left _ _ line2) in
    let line_feed = same_if x.line_feed y.line_feed (none_left _ _ line3) in
    let carriage_return = same_if x.carriage_return y.carriage_return (none_right (differ x.line_feed y.line_feed) _ line3) in
    let word = same_if x.word y.word (none_left _ _ words) in
    let letter = same_if x.letter y.letter (none_left _ _ words2) in
    let broken = same_if x.broken y.broken (none_right (differ x.letter y.letter) _ words2) in
    λ i. record {
      edge = edge i;
      terminator = terminator i;
      line_feed = line_feed i;
      carriage_return = carriage_return i;
      word = word i;
      letter = letter i;
      broken = broken i;
    }

-- a byte of ASCII with no border behind it stands before one
both_readable : (needs : Asked) (b : ℕ) → (needs.unicode && nat_eq b 127) ≡ false → IsReadable needs (Some b) ↔ IsReadable needs (Some (b + 1))
both_readable needs b h = (
  (λ below u. let lt = below u in
      let ne : b ≢ 127 = λ e. true≢false (sym (ap (λ v. v && nat_eq b 127) u ∙ eq-eqb b 127 e) ∙ h) in
      omega (arith, lt, ne)),
  (λ below u. let lt = below u in omega (arith, lt)),
)

-- bytes without a border between are alike
neighbours : (places : List Place) (needs : Asked) (terminator b : ℕ) → IsByBytes places → is_border places needs terminator b ≡ false →
    AreAlike places needs terminator b (b + 1)
neighbours places needs terminator b by_bytes h = record {
  told_same = same_told _ _ (none_right (are_parted places b) _ (none_left _ _ h));
  read_same = λ q test. uncut test b (b + 1) (place_at places q) (by_bytes q) (not_parted places b q (none_left (are_parted places b) _ (none_left _ _ h)));
  readable = both_readable needs b (none_right (are_parted places b || is_other (told needs terminator (Some b)) (told needs terminator (Some (b + 1)))) _ h);
}

same_alike : (places : List Place) (needs : Asked) (terminator b c : ℕ) → b ≡ c → AreAlike places needs terminator b c
same_alike places needs terminator b c e = record {
  told_same = ap (λ x. told needs terminator (Some x)) e;
  read_same = λ q test. ap (λ x. ways_out test (x ∷ []) (place_at places q)) e;
  readable = (subst (λ x. IsReadable needs (Some x)) e, subst (λ x. IsReadable needs (Some x)) (sym e));
}

then_alike : (places : List Place) (needs : Asked) (terminator b c d : ℕ) → AreAlike places needs terminator b c → AreAlike places needs terminator c d →
    AreAlike places needs terminator b d
then_alike places needs terminator b c d x y = record {
  told_same = x.told_same ∙ y.told_same;
  read_same = λ q test. x.read_same q test ∙ y.read_same q test;
  readable = (λ h. y.readable.0 (x.readable.0 h), λ h. x.readable.1 (y.readable.1 h));
}

back_alike : (places : List Place) (needs : Asked) (terminator b c : ℕ) → AreAlike places needs terminator b c → AreAlike places needs terminator c b
back_alike places needs terminator b c x = record {
  told_same = sym x.told_same;
  read_same = λ q test. sym (x.read_same q test);
  readable = (x.readable.1, x.readable.0);
}

module _ (places : List Place) (needs : Asked) (terminator : ℕ) (classes : List ℕ) (by_bytes : IsByBytes places)
    (are : AreClasses places needs terminator classes) where
  abbrev class : ℕ → ℕ
  class b = get_or classes b 0

  step : (b : ℕ) → b < 255 → (class b ≤ class (b + 1)) × (class (b + 1) ≡ class b → AreAlike places needs terminator b (b + 1))
  step b lt =
      ⊎_elim
      (λ t. let e : class (b + 1) ≡ class b + 1 = are.next b lt ∙ ap (λ v. if v then class b + 1 else class b) t in
      (omega (arith, e), λ f. absurd (omega (arith, e, f))))
      (λ n. let e : class (b + 1) ≡ class b = are.next b lt ∙ ap (λ v. if v then class b + 1 else class b) n in
      (omega (arith, e), λ f. neighbours places needs terminator b by_bytes n))
      (cases_Bool (is_border places needs terminator b))

  rises : (b n : ℕ) → b + n < 256 → (class b ≤ class (b + n)) × (class (b + n) ≡ class b → AreAlike places needs terminator b (b + n))
  rises b zero h =
      let e : b ≡ b + 0 = omega arith in
      (subst (λ k. class b ≤ class k) e (omega arith), λ f. same_alike places needs terminator b (b + 0) e)
  rises b (suc n) h =
      let r = rises b n (omega (arith, h)) in
      let s = step (b + n) (omega (arith, h)) in
      let e : b + n + 1 ≡ b + suc n = omega arith in
      let low = r.0 in let high = s.0 in
      subst (λ k. (class b ≤ class k) × (class k ≡ class b → AreAlike places needs terminator b k)) e (
        omega (arith, low, high),
        λ f. then_alike places needs terminator b (b + n) (b + n + 1) (r.1 (omega (arith, low, high, f))) (s.1 (omega (arith, low, high, f))),
      )

  pub tells_alike : TellsAlike places needs terminator classes
  tells_alike b c hb hc same =
      ⊎_elim
      (λ lt. back_alike places needs terminator c b (from c b (omega (arith, lt)) hb same))
      (λ ge. from b c ge hc (sym same))
      (cases_lt c b)
    where
      from : (b c : ℕ) → b ≤ c → c < 256 → class c ≡ class b → AreAlike places needs terminator b c
      from b c le hc e =
          let d = distance b c le in
          subst (λ k. AreAlike places needs terminator b k) d.1 ((rises b d.0 (subst (λ k. k < 256) (sym d.1) hc)).1 (subst (λ k. class k ≡ class b) (sym d.1) e))
        where
          distance : (b c : ℕ) → b ≤ c → (n : ℕ) × (b + n ≡ c)
          distance zero c le = (c, omega arith)
          distance (suc b) zero le = absurd (omega (arith, le))
          distance (suc b) (suc c) le = let r = distance b c (omega (arith, le)) in let e = r.1 in (r.0, omega (arith, e))

pub class_law : ClassLaw
class_law = record {
  alike = λ places needs terminator classes by_bytes are. tells_alike places needs terminator classes by_bytes are;
  single = λ places needs terminator classes one b c hb hc same. same_alike places needs terminator b c (sym (one.own b hb) ∙ same ∙ one.own c hc);
}

pub same_ranges : (ws : List ByteWay) → map (λ (w : ByteWay). (w.first, w.last)) ws ≡ ranges_of (branch (map way_of ws))
same_ranges [] = refl
same_ranges (w ∷ ws) = ap (λ rs. (w.first, w.last) ∷ rs) (same_ranges ws)

-- THE LOOP

pub record AreClassesSoFar (places : List Place) (needs : Asked) (terminator : ℕ) (classes : List ℕ) (last i : ℕ) : Type 0 where
  pub size : length classes ≡ i + 1
  pub first : get_or classes 0 0 ≡ 0
  pub at_last : get_or classes i 0 ≡ last
  pub few : last ≤ i
  pub next : (b : ℕ) → b < i → get_or classes (b + 1) 0 ≡ (if is_border places needs terminator b then get_or classes b 0 + 1 else get_or classes b 0)

pub begins : (places : List Place) (needs : Asked) (terminator : ℕ) (classes : List ℕ) → classes ≡ 0 ∷ [] → AreClassesSoFar places needs terminator classes 0 0
begins places needs terminator classes e = rw e (record { size = refl; first = refl; at_last = refl; few = omega arith; next = λ b h. absurd (omega (arith, h)) })

pub goes_on : (places : List Place) (needs : Asked) (terminator : ℕ) (classes classes2 : List ℕ) (last last2 i : ℕ) →
    last2 ≡ (if is_border places needs terminator i then last + 1 else last) → classes2 ≡ classes ++ last2 ∷ [] →
    AreClassesSoFar places needs terminator classes last i → AreClassesSoFar places needs terminator classes2 last2 (i + 1)
goes_on places needs terminator classes classes2 last last2 i is grown v =
    let size = v.size in
    rw grown (record {
      size = length-append classes (last2 ∷ []) ∙ ap (λ n. n + 1) size;
      first = get_or_append_left classes (last2 ∷ []) 0 0 (omega (arith, size)) ∙ v.first;
      at_last = get_or_push classes last2 0 (i + 1) size;
      few = ⊎_elim
          (λ t. let e : last2 ≡ last + 1 = is ∙ ap (λ b. if b then last + 1 else last) t in let f = v.few in omega (arith, e, f))
          (λ n. let e : last2 ≡ last = is ∙ ap (λ b. if b then last + 1 else last) n in let f = v.few in omega (arith, e, f))
          (cases_Bool (is_border places needs terminator i));
      next = λ b h. ⊎_elim
          (λ same. subst (λ k. get_or (classes ++ last2 ∷ []) (k + 1) 0
          ≡ (if is_border places needs terminator k then get_or (classes ++ last2 ∷ []) k 0 + 1 else get_or (classes ++ last2 ∷ []) k 0)) same
          (get_or_push classes last2 0 (i + 1) size ∙ is
          ∙ ap (λ x. if is_border places needs terminator i then x + 1 else x)
          (sym v.at_last ∙ sym (get_or_append_left classes (last2 ∷ []) 0 i (omega (arith, size))))))
          (λ ne. let lt : b < i = omega (arith, h, ne) in
          get_or_append_left classes (last2 ∷ []) 0 (b + 1) (omega (arith, size, lt)) ∙ v.next b lt
          ∙ ap (λ x. if is_border places needs terminator b then x + 1 else x) (sym (get_or_append_left classes (last2 ∷ []) 0 b (omega (arith, size, lt)))))
          (cases_eq i b);
    })

pub all_classes : (places : List Place) (needs : Asked) (terminator : ℕ) (classes : List ℕ) (last i : ℕ) → i ≡ 255 →
    AreClassesSoFar places needs terminator classes last i → AreClasses places needs terminator classes
all_classes places needs terminator classes last i e v = record {
  size = let s = v.size in omega (arith, s, e);
  first = v.first;
  next = λ b h. v.next b (omega (arith, e, h));
}

pub record AreOwnSoFar (classes : List ℕ) (i : ℕ) : Type 0 where
  pub size : length classes ≡ i
  pub own : (b : ℕ) → b < i → get_or classes b 0 ≡ b

pub none_own : (classes : List ℕ) → classes ≡ [] → AreOwnSoFar classes 0
none_own classes e = rw e (record { size = refl; own = λ b h. absurd (omega (arith, h)) })

pub one_own : (classes classes2 : List ℕ) (i x : ℕ) → x ≡ i → classes2 ≡ classes ++ x ∷ [] → AreOwnSoFar classes i → AreOwnSoFar classes2 (i + 1)
one_own classes classes2 i x is grown v =
    let size = v.size in
    rw grown (record {
      size = length-append classes (x ∷ []) ∙ ap (λ n. n + 1) size;
      own = λ b h. ⊎_elim
          (λ same. subst (λ k. get_or (classes ++ x ∷ []) k 0 ≡ k) same (get_or_push classes x 0 i size ∙ is))
          (λ ne. let lt : b < i = omega (arith, h, ne) in get_or_append_left classes (x ∷ []) 0 b (omega (arith, size, lt)) ∙ v.own b lt)
          (cases_eq i b);
    })

-- The loops that take bytes out of a set.
use Rattle.std.proofs.Common.{◌≡◌, ℕ, ◌+◌, ◌<◌, ◌≤◌, List, [], ◌∷◌, map, drop, length, min, Bool, true, false, ◌&&◌, ◌||◌, not, get_or, set, replicate, Vec, Global, ◌⊎◌, get_or-set_same, get_or-set_other, eqb-true, eq-eqb, true≢false, sym, ap, subst, ◌∙◌, refl, arith, inl, inr}
use Rattle.std.specs.Prelude.{if◌then◌else◌, nat_eq, nat_le, nat_lt}
use Rattle.std.proofs.lemmas.Bool.{cases_Bool, cases_lt, lt-ltb, le-ltb}
use Rattle.std.proofs.lemmas.Bool.Decides.{nat_tests}
use Rattle.std.proofs.lemmas.List.{at_drop_more, drop_all, get_or_past, get_or-replicate, length-replicate}
use Rattle.rc_pattern.specs.Re.{Re}
use Rattle.rc_pattern.specs.Meaning.{meaning, kind_meaning, alt_all, cat_all, byte_range, char_range}
use Rattle.rc_pattern.specs.declared.hir.Hir.{Hir}
use Rattle.rc_pattern.specs.declared.hir.HirKind.{HirKind}
use Rattle.rc_pattern.specs.declared.hir.HirKind.TheVariants as HirKind
use Rattle.rc_pattern.specs.declared.hir.ClassBytesRange.{ClassBytesRange}
use Rattle.rc_pattern.specs.declared.hir.ClassUnicodeRange.{ClassUnicodeRange}
use Rattle.rc_pattern.proofs.FoldLemmas.{kind_Concat, kind_Alternation}
use Rattle.rc_program.specs.Program.{in_ranges}
use Rattle.rc_literals.specs.Needs.{is_stop}
use Rattle.rc_literals.specs.Stops.{among, reach_far, reads, Leaves}

and_true : (a : Bool) → (a && true) ≡ a
and_true true = refl
and_true false = refl

and_false : (a : Bool) → (a && false) ≡ false
and_false true = refl
and_false false = refl

-- first the one is taken out, then the other
both_out : (a r s : Bool) → ((a && not r) && not s) ≡ (a && not (r || s))
both_out true true s = refl
both_out true false s = refl
both_out false r s = refl

-- one byte is taken out
pub one_out : (table : List Bool) (k b : ℕ) → k < length table → is_stop (set table k false) b ≡ (is_stop table b && not (nat_eq k b))
one_out table k b inside =
    elim (cases_Bool (nat_eq k b)) [
      | inl t ↦
          let same : b ≡ k = sym (eqb-true k b t) in
          rw t (subst (λ x. is_stop (set table k false) x ≡ (is_stop table x && false)) (sym same)
          (get_or-set_same table k false false inside ∙ sym (and_false (is_stop table k))))
      | inr f ↦
          rw f (get_or-set_other table k b false false (λ e. true≢false (sym (eq-eqb k b (sym e)) ∙ f)) ∙ sym (and_true (is_stop table b)))
    ]

one_more : (from byte b : ℕ) → from ≤ byte → ((nat_le from b && nat_lt b byte) || nat_eq byte b) ≡ (nat_le from b && nat_lt b (byte + 1))
one_more from byte b le = grind (arith, nat_tests)

pub span_more : (old table : List Bool) (from byte : ℕ) → from ≤ byte → byte < length table →
    Leaves old table (λ b. nat_le from b && nat_lt b byte) → Leaves old (set table byte false) (λ b. nat_le from b && nat_lt b (byte + 1))
span_more old table from byte le inside leaves b =
    one_out table byte b inside ∙ ap (λ z. z && not (nat_eq byte b)) (leaves b)
    ∙ both_out (is_stop old b) (nat_le from b && nat_lt b byte) (nat_eq byte b) ∙ ap (λ z. is_stop old b && not z) (one_more from byte b le)

nothing_between : (from to b : ℕ) → to ≤ from → (nat_le from b && nat_lt b to) ≡ false
nothing_between from to b le = grind (arith, nat_tests)

pub span_begun : (old : List Bool) (from to : ℕ) → to ≤ from → Leaves old old (λ b. nat_le from b && nat_lt b to)
span_begun old from to le b = sym (ap (λ z. is_stop old b && not z) (nothing_between from to b le) ∙ and_true (is_stop old b))

pub span_done : (old table : List Bool) (from byte to : ℕ) → to ≤ byte → (from ≤ to → byte ≤ to) → (to < from → byte ≡ from) →
    Leaves old table (λ b. nat_le from b && nat_lt b byte) → Leaves old table (λ b. nat_le from b && nat_lt b to)
span_done old table from byte to past high none leaves b =
    leaves b ∙ ap (λ z. is_stop old b && not z)
    (elim (cases_lt to from) [
      | inl l ↦ nothing_between from byte b (omega (arith, none l)) ∙ sym (nothing_between from to b (omega (arith, l)))
      | inr l ↦ let same : byte ≡ to = omega (arith, high l, past) in ap (λ z. nat_le from b && nat_lt b z) same
    ])

module _ {X : Type 0} (f : X → ℕ → Bool) where
  -- what is read by one of them
  abbrev pub any_reads : List X → ℕ → Bool
  any_reads [] b = false
  any_reads (x ∷ xs) b = f x b || any_reads xs b

  -- some are taken out, and those from a place on are left
  abbrev pub IsLeft : List Bool → List Bool → List X → ℕ → Type 0
  IsLeft old table xs i = (b : ℕ) → (is_stop old b && not (any_reads xs b)) ≡ (is_stop table b && not (any_reads (drop i xs) b))

  pub turn_done : (old table new : List Bool) (xs : List X) (i : ℕ) (x d : X) → i < length xs → x ≡ get_or xs i d → IsLeft old table xs i →
      Leaves table new (f x) → IsLeft old new xs (i + 1)
  turn_done old table new xs i x d inside is left leaves b =
      left b ∙ ap (λ z. is_stop table b && not z) (at_drop_more (λ ys. any_reads ys b) xs i d inside ∙ ap (λ z. f z b || any_reads (drop (i + 1) xs) b) (sym is))
      ∙ sym (both_out (is_stop table b) (f x b) (any_reads (drop (i + 1) xs) b)) ∙ ap (λ z. z && not (any_reads (drop (i + 1) xs) b)) (sym (leaves b))

  pub turns_end : (old table : List Bool) (xs : List X) (i : ℕ) → length xs ≤ i → IsLeft old table xs i → Leaves old table (any_reads xs)
  turns_end old table xs i le left b =
      sym (left b ∙ ap (λ ys. is_stop table b && not (any_reads ys b)) (drop_all i xs le) ∙ and_true (is_stop table b))

pub leaves_alike : (old new : List Bool) (f g : ℕ → Bool) → ((b : ℕ) → f b ≡ g b) → Leaves old new f → Leaves old new g
leaves_alike old new f g same leaves b = leaves b ∙ ap (λ z. is_stop old b && not z) (same b)

pub each_alt : (hs : List Hir) (b : ℕ) → any_reads (λ h. reads (meaning h)) hs b ≡ reads (alt_all (map meaning hs)) b
each_alt [] b = refl
each_alt (h ∷ hs) b = ap (λ z. reads (meaning h) b || z) (each_alt hs b)

-- the members of a concatenation read what those of an alternation do
pub cat_reads : (hs : List Re) (b : ℕ) → reads (alt_all hs) b ≡ reads (cat_all hs) b
cat_reads [] b = refl
cat_reads (h ∷ hs) b = ap (λ z. reads h b || z) (cat_reads hs b)

-- and both read what the node reads
pub members_read : (h : Hir) (k : HirKind) (subs : Vec Hir Global) (xs : List Hir) → kind_meaning k ≡ meaning h →
    (k ≡ HirKind.Concat subs) ⊎ (k ≡ HirKind.Alternation subs) → xs ≡ subs.items → (b : ℕ) → reads (alt_all (map meaning xs)) b ≡ reads (meaning h) b
members_read h k subs xs value (inl e) same b =
    ap (λ (ys : List Hir). reads (alt_all (map meaning ys)) b) same ∙ cat_reads (map meaning subs.items) b
    ∙ ap (λ z. reads z b) (sym (kind_Concat subs) ∙ ap kind_meaning (sym e) ∙ value)
members_read h k subs xs value (inr e) same b =
    ap (λ (ys : List Hir). reads (alt_all (map meaning ys)) b) same ∙ ap (λ z. reads z b) (sym (kind_Alternation subs) ∙ ap kind_meaning (sym e) ∙ value)

pub all_stops : (b : ℕ) → is_stop (replicate 256 true) b ≡ nat_lt b 256
all_stops b =
    elim (cases_lt b 256) [
      | inl l ↦ get_or-replicate 256 b true false l ∙ sym (lt-ltb b 256 l)
      | inr l ↦ get_or_past (replicate 256 true) b false (omega (arith, l, length-replicate 256 true)) ∙ sym (le-ltb b 256 l)
    ]

pub each_byte : (bs : List ℕ) (b : ℕ) → any_reads nat_eq bs b ≡ among bs b
each_byte [] b = refl
each_byte (c ∷ bs) b = ap (λ z. nat_eq c b || z) (each_byte bs b)

-- the bytes of a range
abbrev pub range_reads : ClassBytesRange → ℕ → Bool
range_reads r b = nat_le r.start b && nat_lt b (r.end + 1)

up_to_end : (from to b : ℕ) → (nat_le from b && nat_lt b (to + 1)) ≡ (nat_le from b && nat_le b to)
up_to_end from to b = grind (arith, nat_tests)

pub each_range : (rs : List ClassBytesRange) (b : ℕ) → any_reads range_reads rs b ≡ in_ranges (map byte_range rs) b
each_range [] b = refl
each_range (r ∷ rs) b = ap (λ z. z || any_reads range_reads rs b) (up_to_end r.start r.end b) ∙ ap (λ z. (nat_le r.start b && nat_le b r.end) || z) (each_range rs b)

-- the scalars of a range that are one byte
abbrev pub near_reads : ClassUnicodeRange → ℕ → Bool
near_reads r b = nat_le r.start b && nat_lt b (min (r.end + 1) 128)

near_here : (from to b : ℕ) → b < 128 → (nat_le from b && nat_lt b (min (to + 1) 128)) ≡ (nat_le from b && nat_le b to)
near_here from to b near = grind (arith, nat_tests)

near_not : (from to b : ℕ) → 128 ≤ b → (nat_le from b && nat_lt b (min (to + 1) 128)) ≡ false
near_not from to b far = grind (arith, nat_tests)

each_near : (rs : List ClassUnicodeRange) (b : ℕ) → b < 128 → any_reads near_reads rs b ≡ in_ranges (map char_range rs) b
each_near [] b near = refl
each_near (r ∷ rs) b near =
    ap (λ z. z || any_reads near_reads rs b) (near_here r.start r.end b near) ∙ ap (λ z. (nat_le r.start b && nat_le b r.end) || z) (each_near rs b near)

none_near : (rs : List ClassUnicodeRange) (b : ℕ) → 128 ≤ b → any_reads near_reads rs b ≡ false
none_near [] b far = refl
none_near (r ∷ rs) b far = rw (near_not r.start r.end b far) (none_near rs b far)

-- whether a range before a place reaches far, or one from there on
abbrev pub IsFar : Bool → List ClassUnicodeRange → ℕ → Type 0
IsFar far rs i = reach_far (map char_range rs) ≡ (far || reach_far (map char_range (drop i rs)))

or_joined : (a b c : Bool) → (a || (b || c)) ≡ ((a || b) || c)
or_joined true b c = refl
or_joined false b c = refl

pub ends_far : (far : Bool) (end : ℕ) → (far || nat_lt 128 (end + 1)) ≡ (far || nat_le 128 end)
ends_far far end = let e : nat_lt 128 (end + 1) ≡ nat_le 128 end = grind (arith, nat_tests) in ap (λ z. far || z) e

pub far_more : (far next : Bool) (rs : List ClassUnicodeRange) (i : ℕ) (r d : ClassUnicodeRange) → i < length rs → r ≡ get_or rs i d → IsFar far rs i →
    next ≡ (far || nat_le 128 r.end) → IsFar next rs (i + 1)
far_more far next rs i r d inside is before e =
    let rest = reach_far (map char_range (drop (i + 1) rs)) in
    before ∙ ap (λ z. far || z) (at_drop_more (λ (ys : List ClassUnicodeRange). reach_far (map char_range ys)) rs i d inside
    ∙ ap (λ (z : ClassUnicodeRange). nat_le 128 z.end || rest) (sym is))
    ∙ or_joined far (nat_le 128 r.end) rest ∙ ap (λ z. z || rest) (sym e)

or_false : (a : Bool) → (a || false) ≡ a
or_false true = refl
or_false false = refl

far_end : (far : Bool) (rs : List ClassUnicodeRange) (i : ℕ) → length rs ≤ i → IsFar far rs i → reach_far (map char_range rs) ≡ far
far_end far rs i le is = is ∙ ap (λ ys. far || reach_far (map char_range ys)) (drop_all i rs le) ∙ or_false far

-- the bytes below 128 of the ranges are taken out, and where a range reaches far, those from 128 on
module _ (old table : List Bool) (rs : List ClassUnicodeRange) (i : ℕ) (far : Bool) (done : length rs ≤ i) (is : IsFar far rs i)
    (left : IsLeft near_reads old table rs i) where
  below : (b : ℕ) → b < 128 → is_stop table b ≡ (is_stop old b && not (in_ranges (map char_range rs) b))
  below b near = turns_end near_reads old table rs i done left b ∙ ap (λ z. is_stop old b && not z) (each_near rs b near)

  above : (b : ℕ) → 128 ≤ b → is_stop table b ≡ is_stop old b
  above b past = turns_end near_reads old table rs i done left b ∙ ap (λ z. is_stop old b && not z) (none_near rs b past) ∙ and_true (is_stop old b)

  pub chars_near : far ≡ false → Leaves old table (λ b. if nat_lt b 128 then in_ranges (map char_range rs) b else reach_far (map char_range rs))
  chars_near none b =
      elim (cases_lt b 128) [
        | inl l ↦ let near : nat_lt b 128 ≡ true = grind (arith, nat_tests) in rw near (below b l)
        | inr l ↦
            let past : nat_lt b 128 ≡ false = grind (arith, nat_tests) in
            rw past (above b l ∙ sym (ap (λ z. is_stop old b && not z) (far_end far rs i done is ∙ none) ∙ and_true (is_stop old b)))
      ]

  pub chars_far : (new : List Bool) → length old ≡ 256 → far ≡ true → Leaves table new (λ b. nat_le 128 b && nat_lt b 256) →
      Leaves old new (λ b. if nat_lt b 128 then in_ranges (map char_range rs) b else reach_far (map char_range rs))
  chars_far new long some leaves b =
      elim (cases_lt b 128) [
        | inl l ↦
            let near : nat_lt b 128 ≡ true = grind (arith, nat_tests) in
            let out : (nat_le 128 b && nat_lt b 256) ≡ false = grind (arith, nat_tests) in
            rw near (leaves b ∙ ap (λ z. is_stop table b && not z) out ∙ and_true (is_stop table b) ∙ below b l)
        | inr l ↦
            let past : nat_lt b 128 ≡ false = grind (arith, nat_tests) in
            rw past (all_out b l ∙ sym (ap (λ z. is_stop old b && not z) (far_end far rs i done is ∙ some) ∙ and_false (is_stop old b)))
      ]
    where
      all_out : (c : ℕ) → 128 ≤ c → is_stop new c ≡ false
      all_out c past =
          elim (cases_lt c 256) [
            | inl l ↦
                let in_span : (nat_le 128 c && nat_lt c 256) ≡ true = grind (arith, nat_tests) in
                leaves c ∙ ap (λ z. is_stop table c && not z) in_span ∙ and_false (is_stop table c)
            | inr l ↦
                leaves c ∙ ap (λ z. z && not (nat_le 128 c && nat_lt c 256)) (above c past ∙ get_or_past old c false (omega (arith, long, l)))
          ]

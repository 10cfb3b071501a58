-- Lists of the stated grammar, which the full one reads alike.
use Rattle.std.proofs.Common.{◌≡◌, ℕ, ◌≤◌, drop, Bool, true, false, not, ◌&&◌, ◌||◌, ◌==◌, nat_le, nat_lt, List, [], ◌∷◌, ◌++◌, Option, Some, None, is_none, ⊎_elim, refl, ap, sym, subst, ◌∙◌, arith, true≢false, append_assoc, append-nil, if◌then◌else◌}
use Rattle.std.proofs.lemmas.Bool.{eqb-true}
use Rattle.std.proofs.lemmas.Option.{none-some, same_Some}
use Rattle.unicode.specs.Rows.{in_ranges}
use Rattle.rc_pattern.specs.Re.{Range}
use Rattle.rc_tokens.specs.Text.{Characters, ◌>>=◌, ◌>>◌, is_at, is_empty, has_twice}
use Rattle.rc_tokens.specs.Marks.{Atom, plain, escaped, Escape, short, fixed, braced, written_atom, written_atoms, written_if, written_escape, plain_member, member_of, members_of, escape_says, escaped_member, is_list}
use Rattle.rc_tokens.specs.Classes.{class_of, is_code, code_of, items, led_items, list_ranges}
use Rattle.rc_tokens.specs.declared.tokens.Perl.{Perl}
use Rattle.rc_tokens.specs.declared.tokens.Member.{Member}
use Rattle.rc_tokens.specs.declared.tokens.Member.TheVariants as member
use Rattle.rc_tokens.specs.declared.tokens.Escape as escapes
use Rattle.rc_tokens.specs.declared.tokens.Escape.TheVariants as says
use Rattle.rc_tokens.specs.declared.tokens.Assertion.TheVariants.{Boundary}
use Rattle.rc_tokens.proofs.StepLemmas.{some_parts, guard_parts, and_parts}
use Rattle.rc_tokens.proofs.ClassLemmas.{le_true, codes_append}
use Rattle.rc_class_sets.specs.Sets.{CodeSet, Denote, AreRangesOf, union}
use Rattle.rc_class_sets.proofs.SetLemmas.{ordered_is, complement_is, union_denoted, ranges_denote, has_left, has_either}
use Rattle.rc_full_escapes.specs.Escapes.{takes_name, opens_name}
use Rattle.rc_full_escapes.specs.Escapes as escape
use Rattle.rc_full_escapes.specs.declared.escapes.FullEscape.TheVariants.{Stated}
use Rattle.rc_full_lists.specs.declared.parts.Settings.{Settings}
use Rattle.rc_full_lists.specs.declared.parts.Atom.TheVariants.{Code}
use Rattle.rc_full_lists.specs.declared.parts.Part.TheVariants as part
use Rattle.rc_full_lists.specs.declared.items.Item.TheVariants.{Codes}
use Rattle.rc_full_lists.specs.Parts as parts
use Rattle.rc_full_lists.specs.Parts.{operator_at, begins_atom, IsAtom, GoesOn, StandsAlone, IsPart}
use Rattle.rc_full_lists.specs.Openings as openings
use Rattle.rc_full_lists.specs.Openings.{Hyphens, Sign, Lead, IsOpening}
use Rattle.rc_full_lists.specs.Sides.{no_codes}
use Rattle.rc_full_lists.specs.Lists as lists
use Rattle.rc_full_lists.specs.Lists.{Progress, begun, lead_set, list_set, Inside, IsList}
use Rattle.rc_full_lists.proofs.SideLemmas.{no_ranges}
use Rattle.rc_full_parser.specs.Laws.{is_no_class, is_plain, are_plain}

not_so : (b : Bool) → not b ≡ true → b ≡ false
not_so true h = absurd (true≢false (sym h))
not_so false h = refl

or_none : (a b : Bool) → (a || b) ≡ false → (a ≡ false) × (b ≡ false)
or_none true b h = absurd (true≢false h)
or_none false b h = (refl, h)

turned : (a b : Bool) → (a || b) ≡ false → (b || a) ≡ false
turned true b h = absurd (true≢false h)
turned false true h = absurd (true≢false h)
turned false false h = refl

-- ---- what is written

-- some atoms, the bracket that ends the list, and the rest
abbrev pub tail : List Atom → Characters → Characters
tail [] rest = 93 ∷ rest
tail (x ∷ xs) rest = written_atom x ++ tail xs rest

pub tail_is : (xs : List Atom) (rest : Characters) → written_atoms xs ++ 93 ∷ rest ≡ tail xs rest
tail_is [] rest = refl
tail_is (x ∷ xs) rest = append_assoc (written_atom x) (written_atoms xs) (93 ∷ rest) ∙ ap (λ t. written_atom x ++ t) (tail_is xs rest)

-- neither `&&` nor `~~` stands in the text
abbrev Single : Characters → Type 0
Single t = (has_twice 38 t ≡ false) × (has_twice 126 t ≡ false)

twice_behind : (d : ℕ) (a t : Characters) → has_twice d (a ++ t) ≡ false → has_twice d t ≡ false
twice_behind d [] t h = h
twice_behind d (c ∷ a) t h = twice_behind d a t ((or_none (c == d && is_at d (a ++ t)) (has_twice d (a ++ t)) h).1)

single_behind : (a t : Characters) → Single (a ++ t) → Single t
single_behind a t (h, g) = (twice_behind 38 a t h, twice_behind 126 a t g)

at_end : (d : ℕ) (t rest : Characters) → (93 == d) ≡ false → is_at d (t ++ 93 ∷ rest) ≡ is_at d t
at_end d [] rest h = h
at_end d (c ∷ t) rest h = refl

at_tail : (d : ℕ) (xs : List Atom) (rest : Characters) → (93 == d) ≡ false → is_at d (tail xs rest) ≡ is_at d (written_atoms xs)
at_tail d xs rest h = sym (ap (is_at d) (tail_is xs rest)) ∙ at_end d (written_atoms xs) rest h

-- no operator begins the text
no_operator : (c : ℕ) (xs : List Atom) (rest : Characters) → Single (c ∷ written_atoms xs) → (c == 45 && is_at 45 (tail xs rest)) ≡ false →
    operator_at (c ∷ tail xs rest) ≡ None
no_operator c xs rest (h, g) hyphens =
    rw (ap (λ x. c == 38 && x) (at_tail 38 xs rest refl) ∙ (or_none (c == 38 && is_at 38 (written_atoms xs)) (has_twice 38 (written_atoms xs)) h).0) (rw hyphens
    (rw (ap (λ x. c == 126 && x) (at_tail 126 xs rest refl) ∙ (or_none (c == 126 && is_at 126 (written_atoms xs)) (has_twice 126 (written_atoms xs)) g).0) refl))

-- ---- members

-- a member that is no hyphen and no set
abbrev IsCode : Member → Type 0
IsCode (member.Character c) = Unit {0}
IsCode (member.Byte b) = Unit {0}
IsCode member.Hyphen = ⊥
IsCode (member.Perl p) = ⊥

abbrev pub NoSets : List Member → Type 0
NoSets [] = Unit {0}
NoSets (member.Character c ∷ ms) = NoSets ms
NoSets (member.Byte b ∷ ms) = NoSets ms
NoSets (member.Hyphen ∷ ms) = NoSets ms
NoSets (member.Perl p ∷ ms) = ⊥

-- the members of atoms, one by one
abbrev pub Are : List Atom → List Member → Type 0
Are [] [] = Unit {0}
Are [] (m ∷ ms) = ⊥
Are (x ∷ xs) [] = ⊥
Are (x ∷ xs) (m ∷ ms) = (member_of x ≡ Some m) × Are xs ms

pub members_are : (xs : List Atom) (ms : List Member) → members_of xs ≡ Some ms → Are xs ms
members_are [] [] h = tt
members_are [] (m ∷ ms) h = absurd (clash (same_Some [] (m ∷ ms) h))
  where
    clash : ◌≡◌ {A = List Member} [] (m ∷ ms) → ⊥
    clash e = cc
members_are (x ∷ xs) [] h =
    let (m, _, next) = some_parts (member_of x) (λ m. members_of xs >>= λ ms. Some (m ∷ ms)) [] h in
    let (ns, _, same) = some_parts (members_of xs) (λ ms. Some (m ∷ ms)) [] next in
    absurd (clash m ns (same_Some (m ∷ ns) [] same))
  where
    clash : (m : Member) (ns : List Member) → ◌≡◌ {A = List Member} (m ∷ ns) [] → ⊥
    clash m ns e = cc
members_are (x ∷ xs) (n ∷ ns) h =
    let (m, is, next) = some_parts (member_of x) (λ m. members_of xs >>= λ ms. Some (m ∷ ms)) (n ∷ ns) h in
    let (ms, are, same) = some_parts (members_of xs) (λ ms. Some (m ∷ ms)) (n ∷ ns) next in
    let e = same_Some (m ∷ ms) (n ∷ ns) same in
    (is ∙ ap Some (head m n ms ns e), members_are xs ns (are ∙ ap Some (rest m n ms ns e)))
  where
    head : (m n : Member) (ms ns : List Member) → ◌≡◌ {A = List Member} (m ∷ ms) (n ∷ ns) → m ≡ n
    head m n ms ns e = cc

    rest : (m n : Member) (ms ns : List Member) → ◌≡◌ {A = List Member} (m ∷ ms) (n ∷ ns) → ms ≡ ns
    rest m n ms ns e = cc

-- a character that stands for itself in a list
plain_parts : (c : ℕ) (m : Member) → plain_member c ≡ Some m → IsCode m →
    ((c == 45) ≡ false) × ((c == 91) ≡ false) × ((c == 92) ≡ false) × ((c == 93) ≡ false) × (member.Character c ≡ m)
plain_parts c m h code = go (c == 45) refl h
  where
    go : (b : Bool) → (c == 45) ≡ b → (if b then Some member.Hyphen else (not (c == 91 || c == 92 || c == 93) >> Some (member.Character c))) ≡ Some m →
        ((c == 45) ≡ false) × ((c == 91) ≡ false) × ((c == 92) ≡ false) × ((c == 93) ≡ false) × (member.Character c ≡ m)
    go true e g = absurd (let none : IsCode member.Hyphen = subst IsCode (sym (same_Some member.Hyphen m g)) code in none)
    go false e g =
        let (others, same) = guard_parts (not (c == 91 || c == 92 || c == 93)) (Some (member.Character c)) m g in
        let (two, three) = or_none (c == 91 || c == 92) (c == 93) (not_so (c == 91 || c == 92 || c == 93) others) in
        let (one, second) = or_none (c == 91) (c == 92) two in
        (e, one, second, three, same_Some (member.Character c) m same)

-- a hyphen is written as one
hyphen_is : (x : Atom) → member_of x ≡ Some member.Hyphen → written_atom x ≡ 45 ∷ []
hyphen_is (plain c) h = go (c == 45) refl h
  where
    clash : ◌≡◌ {A = Member} (member.Character c) member.Hyphen → ⊥
    clash e = cc

    go : (b : Bool) → (c == 45) ≡ b → (if b then Some member.Hyphen else (not (c == 91 || c == 92 || c == 93) >> Some (member.Character c))) ≡ Some member.Hyphen → c ∷ [] ≡ 45 ∷ []
    go true e g = ap (λ x. x ∷ []) (eqb-true c 45 e)
    go false e g =
        let (_, same) = guard_parts (not (c == 91 || c == 92 || c == 93)) (Some (member.Character c)) member.Hyphen g in
        absurd (clash (same_Some (member.Character c) member.Hyphen same))
hyphen_is (escaped e) h = let (s, _, is) = some_parts (escape_says e) escaped_member member.Hyphen h in absurd (never s is)
  where
    never : (s : escapes.Escape) → escaped_member s ≡ Some member.Hyphen → ⊥
    never (says.Character c) g = none (same_Some (member.Character c) member.Hyphen g)
      where
        none : ◌≡◌ {A = Member} (member.Character c) member.Hyphen → ⊥
        none e = cc
    never (says.Byte b) g = none (same_Some (member.Byte b) member.Hyphen g)
      where
        none : ◌≡◌ {A = Member} (member.Byte b) member.Hyphen → ⊥
        none e = cc
    never (says.Perl p) g = none (same_Some (member.Perl p) member.Hyphen g)
      where
        none : ◌≡◌ {A = Member} (member.Perl p) member.Hyphen → ⊥
        none e = cc
    never (says.Assertion a) g = none-some member.Hyphen g

-- what is written begins with no hyphen, no bracket and no operator
not_at : (x : Atom) (m : Member) (t : Characters) → member_of x ≡ Some m → IsCode m → (is_at 93 (written_atom x ++ t) || is_at 45 (written_atom x ++ t)) ≡ false
not_at (plain c) m t is code = let (a, _, _, d, _) = plain_parts c m is code in rw d (rw a refl)
not_at (escaped (short c)) m t is code = refl
not_at (escaped (fixed c ds)) m t is code = refl
not_at (escaped (braced c text)) m t is code = refl

begins : (x : Atom) (m : Member) (xs : List Atom) (rest : Characters) → member_of x ≡ Some m → IsCode m → Single (written_atom x ++ written_atoms xs) →
    begins_atom (written_atom x ++ tail xs rest) ≡ true
begins (plain c) m xs rest is code single =
    let (a, b, _, d, _) = plain_parts c m is code in
    rw b (rw d (ap is_none (no_operator c xs rest single (ap (λ x. x && is_at 45 (tail xs rest)) a))))
begins (escaped (short c)) m xs rest is code single = refl
begins (escaped (fixed c ds)) m xs rest is code single = refl
begins (escaped (braced c text)) m xs rest is code single = refl

-- an escape that stands for a code is no `\b`
code_alone : (e : Escape) (s : escapes.Escape) (m : Member) (t : Characters) → escape_says e ≡ Some s → escaped_member s ≡ Some m → takes_name e t ≡ false
code_alone (short c) s m t h is = go (c == 98) refl
  where
    assertion : (s : escapes.Escape) → Some (says.Assertion Boundary) ≡ Some s → escaped_member s ≡ Some m → ⊥
    assertion s e g = none-some m (ap escaped_member (same_Some _ s e) ∙ g)

    go : (b : Bool) → (c == 98) ≡ b → (b && opens_name t) ≡ false
    go true e = absurd (assertion s (sym (ap (λ x. escape_says (short x)) (eqb-true c 98 e)) ∙ h) is)
    go false e = refl
code_alone (fixed c ds) s m t h is = refl
code_alone (braced c text) s m t h is = refl

module _ (u octal : Bool) where
  abbrev pub settings : Settings
  settings = record { unicode = u; verbose = false; octal = octal }

  code_fine : (m : Member) (n : ℕ) → code_of u m ≡ Some n → (is_code u n ≡ true) × IsCode m
  code_fine (member.Character c) n h =
      let (both, same) = guard_parts ((u || nat_lt c 128) && is_code u c) (Some c) n h in
      let (_, fine) = and_parts (u || nat_lt c 128) (is_code u c) both in
      (subst (λ x. is_code u x ≡ true) (same_Some c n same) fine, tt)
  code_fine (member.Byte b) n h =
      let (fine, same) = guard_parts (is_code u b) (Some b) n h in (subst (λ x. is_code u x ≡ true) (same_Some b n same) fine, tt)
  code_fine member.Hyphen n h = absurd (none-some n h)
  code_fine (member.Perl p) n h = absurd (none-some n h)

  atom : (x : Atom) (m : Member) (n : ℕ) (t : Characters) → member_of x ≡ Some m → code_of u m ≡ Some n → IsAtom settings (written_atom x ++ t) (Code n) t
  atom (plain c) m n t is code =
      let (_, _, slash, _, same) = plain_parts c m is ((code_fine m n code).1) in
      parts.plain c n t slash (ap (code_of u) same ∙ code)
  atom (escaped e) m n t is code =
      let (s, meant, known) = some_parts (escape_says e) escaped_member m is in
      parts.escaped (written_escape e ++ t) t (Stated s) (Code n) (escape.stated e s t meant (code_alone e s m t meant known)) (of s known)
    where
      of : (s : escapes.Escape) → escaped_member s ≡ Some m → parts.atom_of u (Stated s) ≡ Some (Code n)
      of (says.Character c) g = ap (λ o. o >>= λ k. Some (Code k)) (ap (code_of u) (same_Some (member.Character c) m g) ∙ code)
      of (says.Byte b) g = ap (λ o. o >>= λ k. Some (Code k)) (ap (code_of u) (same_Some (member.Byte b) m g) ∙ code)
      of (says.Perl p) g = absurd (none-some n (ap (code_of u) (same_Some (member.Perl p) m g) ∙ code))
      of (says.Assertion a) g = absurd (none-some m g)

  -- ---- ranges

  one_range : (low high : ℕ) → is_code u low ≡ true → is_code u high ≡ true → low ≤ high → Denote u (in_ranges ((low, high) ∷ [])) ((low, high) ∷ [])
  one_range low high a b least = ranges_denote u ((low, high) ∷ []) (a, b, least, tt)

  hyphen_fine : (u : Bool) → is_code u 45 ≡ true
  hyphen_fine true = refl
  hyphen_fine false = refl

  bracket_fine : (u : Bool) → is_code u 93 ≡ true
  bracket_fine true = refl
  bracket_fine false = refl

  hyphen_code : (u : Bool) → code_of u (member.Character 45) ≡ Some 45
  hyphen_code true = refl
  hyphen_code false = refl

  -- ---- inside the brackets

  alone : (t : Characters) → is_at 45 t ≡ false → StandsAlone settings t
  alone t h v on = true≢false (sym (ap (is_at 45) on.sign) ∙ h)

  alone_last : (rest : Characters) → StandsAlone settings (45 ∷ 93 ∷ rest)
  alone_last rest v on = true≢false (ap (λ t. is_at 93 t || is_at 45 t) (behind (45 ∷ 93 ∷ rest) (45 ∷ on.at) on.sign ∙ on.behind) ∙ on.high)
    where
      behind : (a b : Characters) → a ≡ b → drop 1 a ≡ drop 1 b
      behind a b e = ap (drop 1) e

  -- what is read behind items with the codes of p
  abbrev Result : CodeSet → Characters → Characters → List Range → Type 0
  Result p t rest rs = (q : CodeSet) × Inside settings false (begun p) t (begun q) rest × Denote u q rs

  ended : (p : CodeSet) (qs : List Range) (rest : Characters) → Denote u p qs → Result p (93 ∷ rest) rest (qs ++ [])
  ended p qs rest d = (p, lists.closes (begun p) (93 ∷ rest) (93 ∷ rest) rest refl (parts.closes rest), subst (λ x. Denote u p x) (sym (append-nil qs)) d)

  -- one item more
  item_read : (low high : ℕ) (t b rest : Characters) (p : CodeSet) (qs rs : List Range) → Denote u (in_ranges ((low, high) ∷ [])) ((low, high) ∷ []) →
      IsPart settings t (part.Has (Codes (record { start = low; end = high }))) b → Denote u p qs →
      ((p' : CodeSet) (qs' : List Range) → Denote u p' qs' → Result p' b rest (qs' ++ rs)) → Result p t rest (qs ++ (low, high) ∷ rs)
  item_read low high t b rest p qs rs fine is d go =
      let next = union p (in_ranges ((low, high) ∷ [])) in
      let (q, i, e) = go next (qs ++ (low, high) ∷ []) (union_denoted u p (in_ranges ((low, high) ∷ [])) qs ((low, high) ∷ []) d fine) in (
        q,
        lists.item (begun p) (begun q) t t b rest (Codes (record { start = low; end = high })) refl is i,
        subst (λ x. Denote u q x) (append_assoc qs ((low, high) ∷ []) rs) e,
      )

  -- a hyphen for itself
  hyphen_read : (b rest : Characters) (p : CodeSet) (qs rs : List Range) → is_at 45 b ≡ false → Denote u p qs →
      ((p' : CodeSet) (qs' : List Range) → Denote u p' qs' → Result p' b rest (qs' ++ rs)) → Result p (45 ∷ b) rest (qs ++ (45, 45) ∷ rs)
  hyphen_read b rest p qs rs other d go =
      item_read 45 45 (45 ∷ b) b rest p qs rs (one_range 45 45 (hyphen_fine u) (hyphen_fine u) (omega arith))
      (parts.single (45 ∷ b) b 45 (rw other refl) (parts.plain 45 45 b refl (hyphen_code u)) (alone b other)) d go

  -- a code that no range begins
  code_read : (x : Atom) (xs : List Atom) (a : Member) (ms : List Member) (rs qs : List Range) (p : CodeSet) (rest : Characters) → member_of x ≡ Some a →
      Single (written_atom x ++ written_atoms xs) → StandsAlone settings (tail xs rest) →
      (code_of u a >>= λ c. items u false ms >>= λ rs. Some ((c, c) ∷ rs)) ≡ Some rs → Denote u p qs →
      ((rs' : List Range) (p' : CodeSet) (qs' : List Range) → items u false ms ≡ Some rs' → Denote u p' qs' → Result p' (tail xs rest) rest (qs' ++ rs')) →
      Result p (tail (x ∷ xs) rest) rest (qs ++ rs)
  code_read x xs a ms rs qs p rest is single lone h d go =
      let (n, code, next) = some_parts (code_of u a) (λ c. items u false ms >>= λ rs. Some ((c, c) ∷ rs)) rs h in
      let (rs', more, same) = some_parts (items u false ms) (λ rs. Some ((n, n) ∷ rs)) rs next in
      let (fine, kind) = code_fine a n code in
      subst (λ y. Result p (tail (x ∷ xs) rest) rest (qs ++ y)) (same_Some ((n, n) ∷ rs') rs same)
      (item_read n n (written_atom x ++ tail xs rest) (tail xs rest) rest p qs rs' (one_range n n fine fine (omega arith))
      (parts.single (written_atom x ++ tail xs rest) (tail xs rest) n (begins x a xs rest is kind single) (atom x a n (tail xs rest) is code) lone) d
      (λ p' qs' d'. go rs' p' qs' more d'))

  -- a range
  range_read : (x y z : Atom) (xs : List Atom) (a b : Member) (ms : List Member) (rs qs : List Range) (p : CodeSet) (rest : Characters) → member_of x ≡ Some a →
      member_of y ≡ Some member.Hyphen → member_of z ≡ Some b → Single (written_atom x ++ written_atoms (y ∷ z ∷ xs)) →
      (code_of u a >>= λ low. code_of u b >>= λ high. nat_le low high >> (items u true ms >>= λ rs. Some ((low, high) ∷ rs))) ≡ Some rs → Denote u p qs →
      ((rs' : List Range) (p' : CodeSet) (qs' : List Range) → items u true ms ≡ Some rs' → Denote u p' qs' → Result p' (tail xs rest) rest (qs' ++ rs')) →
      Result p (tail (x ∷ y ∷ z ∷ xs) rest) rest (qs ++ rs)
  range_read x y z xs a b ms rs qs p rest is sign is_high single h d go =
      let (low, first, next) = some_parts (code_of u a) (λ low. code_of u b >>= λ high. nat_le low high >> (items u true ms >>= λ rs. Some ((low, high) ∷ rs))) rs h in
      let (high, second, ordered) = some_parts (code_of u b) (λ high. nat_le low high >> (items u true ms >>= λ rs. Some ((low, high) ∷ rs))) rs next in
      let (least, last) = guard_parts (nat_le low high) (items u true ms >>= λ rs. Some ((low, high) ∷ rs)) rs ordered in
      let (rs', more, same) = some_parts (items u true ms) (λ rs. Some ((low, high) ∷ rs)) rs last in
      let (fine, kind) = code_fine a low first in
      let (fine_high, kind_high) = code_fine b high second in
      let v = written_atom z ++ tail xs rest in
      let t = written_atom x ++ tail (y ∷ z ∷ xs) rest in
      let on : GoesOn settings (tail (y ∷ z ∷ xs) rest) v = record {
        at = v;
        sign = ap (λ w. w ++ v) (hyphen_is y sign);
        behind = refl;
        high = not_at z b (tail xs rest) is_high kind_high;
      } in
      subst (λ w. Result p t rest (qs ++ w)) (same_Some ((low, high) ∷ rs') rs same)
      (item_read low high t (tail xs rest) rest p qs rs' (one_range low high fine fine_high (le_true low high least))
      (parts.range t (tail (y ∷ z ∷ xs) rest) v (tail xs rest) low high (begins x a (y ∷ z ∷ xs) rest is kind single)
      (atom x a low (tail (y ∷ z ∷ xs) rest) is first) on (atom z b high (tail xs rest) is_high second) (le_true low high least)) d
      (λ p' qs' d'. go rs' p' qs' more d'))

  -- what items of the stated grammar leave
  inside_of : (after : Bool) (xs : List Atom) (ms : List Member) (rs qs : List Range) (p : CodeSet) (rest : Characters) → Are xs ms → NoSets ms → Single (written_atoms xs) →
      items u after ms ≡ Some rs → Denote u p qs → Result p (tail xs rest) rest (qs ++ rs)
  inside_of after [] [] rs qs p rest are none single h d = subst (λ y. Result p (93 ∷ rest) rest (qs ++ y)) (same_Some [] rs h) (ended p qs rest d)
  inside_of after [] (m ∷ ms) rs qs p rest are none single h d = absurd are
  inside_of after (x ∷ xs) [] rs qs p rest are none single h d = absurd are
  inside_of after (x ∷ []) (member.Hyphen ∷ []) rs qs p rest (is, _) none single h d =
      subst (λ t. Result p (t ++ 93 ∷ rest) rest (qs ++ rs)) (sym (hyphen_is x is))
      (subst (λ y. Result p (45 ∷ 93 ∷ rest) rest (qs ++ y)) (same_Some ((45, 45) ∷ []) rs h)
      (hyphen_read (93 ∷ rest) rest p qs [] refl d (λ p' qs' d'. ended p' qs' rest d')))
  inside_of after (x ∷ []) (member.Hyphen ∷ m ∷ ms) rs qs p rest (_, are) none single h d = absurd are
  inside_of after (x ∷ y ∷ xs) (member.Hyphen ∷ []) rs qs p rest (_, are) none single h d = absurd are
  inside_of false (x ∷ y ∷ xs) (member.Hyphen ∷ member.Hyphen ∷ ms) rs qs p rest are none single h d = absurd (none-some rs h)
  inside_of true (x ∷ y ∷ xs) (member.Hyphen ∷ member.Hyphen ∷ ms) rs qs p rest are none single h d = absurd (none-some rs h)
  inside_of false (x ∷ y ∷ xs) (member.Hyphen ∷ member.Character c ∷ ms) rs qs p rest are none single h d = absurd (none-some rs h)
  inside_of false (x ∷ y ∷ xs) (member.Hyphen ∷ member.Byte b ∷ ms) rs qs p rest are none single h d = absurd (none-some rs h)
  inside_of false (x ∷ y ∷ xs) (member.Hyphen ∷ member.Perl q ∷ ms) rs qs p rest are none single h d = absurd none
  inside_of true (x ∷ y ∷ xs) (member.Hyphen ∷ member.Perl q ∷ ms) rs qs p rest are none single h d = absurd none
  inside_of true (x ∷ y ∷ xs) (member.Hyphen ∷ member.Character c ∷ ms) rs qs p rest (is, are) none single h d =
      let (rs', more, same) = some_parts (items u false (member.Character c ∷ ms)) (λ rs. Some ((45, 45) ∷ rs)) rs h in
      subst (λ t. Result p (t ++ tail (y ∷ xs) rest) rest (qs ++ rs)) (sym (hyphen_is x is))
      (subst (λ w. Result p (45 ∷ tail (y ∷ xs) rest) rest (qs ++ w)) (same_Some ((45, 45) ∷ rs') rs same)
      (hyphen_read (tail (y ∷ xs) rest) rest p qs rs' ((or_none _ _ (not_at y (member.Character c) (tail xs rest) (are.0) tt)).1) d
      (λ p' qs' d'. inside_of false (y ∷ xs) (member.Character c ∷ ms) rs' qs' p' rest are none (single_behind (written_atom x) (written_atoms (y ∷ xs)) single) more d')))
  inside_of true (x ∷ y ∷ xs) (member.Hyphen ∷ member.Byte b ∷ ms) rs qs p rest (is, are) none single h d =
      let (rs', more, same) = some_parts (items u false (member.Byte b ∷ ms)) (λ rs. Some ((45, 45) ∷ rs)) rs h in
      subst (λ t. Result p (t ++ tail (y ∷ xs) rest) rest (qs ++ rs)) (sym (hyphen_is x is))
      (subst (λ w. Result p (45 ∷ tail (y ∷ xs) rest) rest (qs ++ w)) (same_Some ((45, 45) ∷ rs') rs same)
      (hyphen_read (tail (y ∷ xs) rest) rest p qs rs' ((or_none _ _ (not_at y (member.Byte b) (tail xs rest) (are.0) tt)).1) d
      (λ p' qs' d'. inside_of false (y ∷ xs) (member.Byte b ∷ ms) rs' qs' p' rest are none (single_behind (written_atom x) (written_atoms (y ∷ xs)) single) more d')))
  inside_of after (x ∷ xs) (member.Perl q ∷ ms) rs qs p rest are none single h d = absurd none
  inside_of after (x ∷ []) (member.Character c ∷ []) rs qs p rest (is, are) none single h d =
      code_read x [] (member.Character c) [] rs qs p rest is single (alone (93 ∷ rest) refl) h d
      (λ rs' p' qs' more d'. inside_of false [] [] rs' qs' p' rest tt tt (refl, refl) more d')
  inside_of after (x ∷ []) (member.Character c ∷ m ∷ ms) rs qs p rest (_, are) none single h d = absurd are
  inside_of after (x ∷ y ∷ xs) (member.Character c ∷ []) rs qs p rest (_, are) none single h d = absurd are
  inside_of after (x ∷ y ∷ []) (member.Character c ∷ member.Hyphen ∷ []) rs qs p rest (is, are) none single h d =
      code_read x (y ∷ []) (member.Character c) (member.Hyphen ∷ []) rs qs p rest is single
      (subst (λ t. StandsAlone settings (t ++ 93 ∷ rest)) (sym (hyphen_is y (are.0))) (alone_last rest)) h d
      (λ rs' p' qs' more d'. inside_of false (y ∷ []) (member.Hyphen ∷ []) rs' qs' p' rest are tt (single_behind (written_atom x) (written_atoms (y ∷ [])) single) more d')
  inside_of after (x ∷ y ∷ []) (member.Character c ∷ member.Hyphen ∷ b ∷ ms) rs qs p rest (_, (_, are)) none single h d = absurd are
  inside_of after (x ∷ y ∷ z ∷ xs) (member.Character c ∷ member.Hyphen ∷ []) rs qs p rest (_, (_, are)) none single h d = absurd are
  inside_of after (x ∷ y ∷ z ∷ xs) (member.Character c ∷ member.Hyphen ∷ member.Character b ∷ ms) rs qs p rest (is, (sign, (high, are))) none single h d =
      range_read x y z xs (member.Character c) (member.Character b) ms rs qs p rest is sign high single h d
      (λ rs' p' qs' more d'. inside_of true xs ms rs' qs' p' rest are none (single_behind (written_atom z) (written_atoms xs)
      (single_behind (written_atom y) (written_atoms (z ∷ xs)) (single_behind (written_atom x) (written_atoms (y ∷ z ∷ xs)) single))) more d')
  inside_of after (x ∷ y ∷ z ∷ xs) (member.Character c ∷ member.Hyphen ∷ member.Byte b ∷ ms) rs qs p rest (is, (sign, (high, are))) none single h d =
      range_read x y z xs (member.Character c) (member.Byte b) ms rs qs p rest is sign high single h d
      (λ rs' p' qs' more d'. inside_of true xs ms rs' qs' p' rest are none (single_behind (written_atom z) (written_atoms xs)
      (single_behind (written_atom y) (written_atoms (z ∷ xs)) (single_behind (written_atom x) (written_atoms (y ∷ z ∷ xs)) single))) more d')
  inside_of after (x ∷ y ∷ z ∷ xs) (member.Character c ∷ member.Hyphen ∷ member.Hyphen ∷ ms) rs qs p rest (is, (sign, (high, are))) none single h d =
      range_read x y z xs (member.Character c) (member.Hyphen) ms rs qs p rest is sign high single h d
      (λ rs' p' qs' more d'. inside_of true xs ms rs' qs' p' rest are none (single_behind (written_atom z) (written_atoms xs)
      (single_behind (written_atom y) (written_atoms (z ∷ xs)) (single_behind (written_atom x) (written_atoms (y ∷ z ∷ xs)) single))) more d')
  inside_of after (x ∷ y ∷ z ∷ xs) (member.Character c ∷ member.Hyphen ∷ member.Perl b ∷ ms) rs qs p rest are none single h d = absurd none
  inside_of after (x ∷ y ∷ xs) (member.Character c ∷ member.Character b ∷ ms) rs qs p rest (is, are) none single h d =
      code_read x (y ∷ xs) (member.Character c) (member.Character b ∷ ms) rs qs p rest is single
      (alone (tail (y ∷ xs) rest) ((or_none _ _ (not_at y (member.Character b) (tail xs rest) (are.0) tt)).1)) h d
      (λ rs' p' qs' more d'. inside_of false (y ∷ xs) (member.Character b ∷ ms) rs' qs' p' rest are none (single_behind (written_atom x) (written_atoms (y ∷ xs)) single) more d')
  inside_of after (x ∷ y ∷ xs) (member.Character c ∷ member.Byte b ∷ ms) rs qs p rest (is, are) none single h d =
      code_read x (y ∷ xs) (member.Character c) (member.Byte b ∷ ms) rs qs p rest is single
      (alone (tail (y ∷ xs) rest) ((or_none _ _ (not_at y (member.Byte b) (tail xs rest) (are.0) tt)).1)) h d
      (λ rs' p' qs' more d'. inside_of false (y ∷ xs) (member.Byte b ∷ ms) rs' qs' p' rest are none (single_behind (written_atom x) (written_atoms (y ∷ xs)) single) more d')
  inside_of after (x ∷ y ∷ xs) (member.Character c ∷ member.Perl b ∷ ms) rs qs p rest are none single h d = absurd none
  inside_of after (x ∷ []) (member.Byte c ∷ []) rs qs p rest (is, are) none single h d =
      code_read x [] (member.Byte c) [] rs qs p rest is single (alone (93 ∷ rest) refl) h d
      (λ rs' p' qs' more d'. inside_of false [] [] rs' qs' p' rest tt tt (refl, refl) more d')
  inside_of after (x ∷ []) (member.Byte c ∷ m ∷ ms) rs qs p rest (_, are) none single h d = absurd are
  inside_of after (x ∷ y ∷ xs) (member.Byte c ∷ []) rs qs p rest (_, are) none single h d = absurd are
  inside_of after (x ∷ y ∷ []) (member.Byte c ∷ member.Hyphen ∷ []) rs qs p rest (is, are) none single h d =
      code_read x (y ∷ []) (member.Byte c) (member.Hyphen ∷ []) rs qs p rest is single
      (subst (λ t. StandsAlone settings (t ++ 93 ∷ rest)) (sym (hyphen_is y (are.0))) (alone_last rest)) h d
      (λ rs' p' qs' more d'. inside_of false (y ∷ []) (member.Hyphen ∷ []) rs' qs' p' rest are tt (single_behind (written_atom x) (written_atoms (y ∷ [])) single) more d')
  inside_of after (x ∷ y ∷ []) (member.Byte c ∷ member.Hyphen ∷ b ∷ ms) rs qs p rest (_, (_, are)) none single h d = absurd are
  inside_of after (x ∷ y ∷ z ∷ xs) (member.Byte c ∷ member.Hyphen ∷ []) rs qs p rest (_, (_, are)) none single h d = absurd are
  inside_of after (x ∷ y ∷ z ∷ xs) (member.Byte c ∷ member.Hyphen ∷ member.Character b ∷ ms) rs qs p rest (is, (sign, (high, are))) none single h d =
      range_read x y z xs (member.Byte c) (member.Character b) ms rs qs p rest is sign high single h d
      (λ rs' p' qs' more d'. inside_of true xs ms rs' qs' p' rest are none (single_behind (written_atom z) (written_atoms xs)
      (single_behind (written_atom y) (written_atoms (z ∷ xs)) (single_behind (written_atom x) (written_atoms (y ∷ z ∷ xs)) single))) more d')
  inside_of after (x ∷ y ∷ z ∷ xs) (member.Byte c ∷ member.Hyphen ∷ member.Byte b ∷ ms) rs qs p rest (is, (sign, (high, are))) none single h d =
      range_read x y z xs (member.Byte c) (member.Byte b) ms rs qs p rest is sign high single h d
      (λ rs' p' qs' more d'. inside_of true xs ms rs' qs' p' rest are none (single_behind (written_atom z) (written_atoms xs)
      (single_behind (written_atom y) (written_atoms (z ∷ xs)) (single_behind (written_atom x) (written_atoms (y ∷ z ∷ xs)) single))) more d')
  inside_of after (x ∷ y ∷ z ∷ xs) (member.Byte c ∷ member.Hyphen ∷ member.Hyphen ∷ ms) rs qs p rest (is, (sign, (high, are))) none single h d =
      range_read x y z xs (member.Byte c) (member.Hyphen) ms rs qs p rest is sign high single h d
      (λ rs' p' qs' more d'. inside_of true xs ms rs' qs' p' rest are none (single_behind (written_atom z) (written_atoms xs)
      (single_behind (written_atom y) (written_atoms (z ∷ xs)) (single_behind (written_atom x) (written_atoms (y ∷ z ∷ xs)) single))) more d')
  inside_of after (x ∷ y ∷ z ∷ xs) (member.Byte c ∷ member.Hyphen ∷ member.Perl b ∷ ms) rs qs p rest are none single h d = absurd none
  inside_of after (x ∷ y ∷ xs) (member.Byte c ∷ member.Character b ∷ ms) rs qs p rest (is, are) none single h d =
      code_read x (y ∷ xs) (member.Byte c) (member.Character b ∷ ms) rs qs p rest is single
      (alone (tail (y ∷ xs) rest) ((or_none _ _ (not_at y (member.Character b) (tail xs rest) (are.0) tt)).1)) h d
      (λ rs' p' qs' more d'. inside_of false (y ∷ xs) (member.Character b ∷ ms) rs' qs' p' rest are none (single_behind (written_atom x) (written_atoms (y ∷ xs)) single) more d')
  inside_of after (x ∷ y ∷ xs) (member.Byte c ∷ member.Byte b ∷ ms) rs qs p rest (is, are) none single h d =
      code_read x (y ∷ xs) (member.Byte c) (member.Byte b ∷ ms) rs qs p rest is single
      (alone (tail (y ∷ xs) rest) ((or_none _ _ (not_at y (member.Byte b) (tail xs rest) (are.0) tt)).1)) h d
      (λ rs' p' qs' more d'. inside_of false (y ∷ xs) (member.Byte b ∷ ms) rs' qs' p' rest are none (single_behind (written_atom x) (written_atoms (y ∷ xs)) single) more d')
  inside_of after (x ∷ y ∷ xs) (member.Byte c ∷ member.Perl b ∷ ms) rs qs p rest are none single h d = absurd none

  -- ---- what comes first

  abbrev hyphens : CodeSet
  hyphens = in_ranges ((45, 45) ∷ [])

  -- one hyphen more
  again : (qs : List Range) → Denote u hyphens qs → Denote u hyphens (qs ++ (45, 45) ∷ [])
  again qs d =
      let one = one_range 45 45 (hyphen_fine u) (hyphen_fine u) (omega arith) in
      record {
        codes = codes_append u qs ((45, 45) ∷ []) d.codes one.codes;
        members = λ c k. (
          λ h. ⊎_elim (λ a. (d.members c k).0 a) (λ b. (one.members c k).0 b) (has_either qs ((45, 45) ∷ []) c h),
          λ i. has_left qs ((45, 45) ∷ []) c ((d.members c k).1 i),
        );
      }

  -- behind the hyphens that lead
  led : (xs : List Atom) (ms : List Member) (rs qs : List Range) (rest : Characters) → Are xs ms → NoSets ms → Single (written_atoms xs) → led_items u ms ≡ Some rs →
      Denote u hyphens qs → (v : Characters) × Hyphens false (tail xs rest) v × Result hyphens v rest (qs ++ rs)
  led [] [] rs qs rest are none single h d = (93 ∷ rest, openings.none (93 ∷ rest) refl, inside_of false [] [] rs qs hyphens rest tt tt single h d)
  led [] (m ∷ ms) rs qs rest are none single h d = absurd are
  led (x ∷ xs) [] rs qs rest are none single h d = absurd are
  led (x ∷ xs) (member.Hyphen ∷ ms) rs qs rest (is, are) none single h d =
      let (rs', more, same) = some_parts (led_items u ms) (λ rs. Some ((45, 45) ∷ rs)) rs h in
      let (v, run, (q, i, e)) = led xs ms rs' (qs ++ (45, 45) ∷ []) rest are none (single_behind (written_atom x) (written_atoms xs) single) more (again qs d) in (
        v,
        subst (λ t. Hyphens false (t ++ tail xs rest) v) (sym (hyphen_is x is)) (openings.more (tail xs rest) (tail xs rest) v refl run),
        (q, i, subst (λ w. Denote u q w) (append_assoc qs ((45, 45) ∷ []) rs' ∙ ap (λ w. qs ++ w) (same_Some ((45, 45) ∷ rs') rs same)) e),
      )
  led (x ∷ xs) (member.Character c ∷ ms) rs qs rest (is, are) none single h d = (
    tail (x ∷ xs) rest,
    openings.none (tail (x ∷ xs) rest) ((or_none _ _ (not_at x (member.Character c) (tail xs rest) is tt)).1),
    inside_of false (x ∷ xs) (member.Character c ∷ ms) rs qs hyphens rest (is, are) none single h d,
  )
  led (x ∷ xs) (member.Byte c ∷ ms) rs qs rest (is, are) none single h d = (
    tail (x ∷ xs) rest,
    openings.none (tail (x ∷ xs) rest) ((or_none _ _ (not_at x (member.Byte c) (tail xs rest) is tt)).1),
    inside_of false (x ∷ xs) (member.Byte c ∷ ms) rs qs hyphens rest (is, are) none single h d,
  )
  led (x ∷ xs) (member.Perl q ∷ ms) rs qs rest are none single h d = absurd none

  -- what leads, and the inside
  abbrev Opened : Characters → Characters → List Range → Type 0
  Opened t rest rs = (lead : Option ℕ) × (v : Characters) × (q : CodeSet) × Lead false t lead v
      × Inside settings false (begun (lead_set u false lead)) v (begun q) rest × Denote u q rs

  opened : (xs : List Atom) (ms : List Member) (rs : List Range) (rest : Characters) → is_empty (written_atoms xs) ≡ false → Are xs ms → NoSets ms → Single (written_atoms xs) →
      led_items u ms ≡ Some rs → Opened (tail xs rest) rest rs
  opened [] ms rs rest some are none single h = absurd (true≢false some)
  opened (x ∷ xs) [] rs rest some are none single h = absurd are
  opened (x ∷ xs) (member.Hyphen ∷ ms) rs rest some (is, are) none single h =
      let (rs', more, same) = some_parts (led_items u ms) (λ rs. Some ((45, 45) ∷ rs)) rs h in
      let one = one_range 45 45 (hyphen_fine u) (hyphen_fine u) (omega arith) in
      let (v, run, (q, i, e)) = led xs ms rs' ((45, 45) ∷ []) rest are none (single_behind (written_atom x) (written_atoms xs) single) more one in (
        Some 45,
        v,
        q,
        subst (λ t. Lead false (t ++ tail xs rest) (Some 45) v) (sym (hyphen_is x is)) (openings.hyphens (tail xs rest) (tail xs rest) v refl run),
        i,
        subst (λ w. Denote u q w) (same_Some ((45, 45) ∷ rs') rs same) e,
      )
  opened (x ∷ xs) (member.Character c ∷ ms) rs rest some (is, are) none single h =
      let (q, i, e) = inside_of false (x ∷ xs) (member.Character c ∷ ms) rs [] no_codes rest (is, are) none single h (no_ranges u) in
      (None, tail (x ∷ xs) rest, q, openings.nothing (tail (x ∷ xs) rest) (turned (is_at 93 (tail (x ∷ xs) rest)) (is_at 45 (tail (x ∷ xs) rest)) (not_at x (member.Character c) (tail xs rest) is tt)), i, e)
  opened (x ∷ xs) (member.Byte c ∷ ms) rs rest some (is, are) none single h =
      let (q, i, e) = inside_of false (x ∷ xs) (member.Byte c ∷ ms) rs [] no_codes rest (is, are) none single h (no_ranges u) in
      (None, tail (x ∷ xs) rest, q, openings.nothing (tail (x ∷ xs) rest) (turned (is_at 93 (tail (x ∷ xs) rest)) (is_at 45 (tail (x ∷ xs) rest)) (not_at x (member.Byte c) (tail xs rest) is tt)), i, e)
  opened (x ∷ xs) (member.Perl q ∷ ms) rs rest some are none single h = absurd none

  lead_of : (bracket : Bool) (xs : List Atom) (ms : List Member) (rs : List Range) (rest : Characters) → (bracket || not (is_empty (written_atoms xs))) ≡ true → Are xs ms → NoSets ms →
      Single (written_atoms xs) → list_ranges u bracket ms ≡ Some rs → Opened (written_if bracket 93 ++ tail xs rest) rest rs
  lead_of false xs ms rs rest some are none single h = opened xs ms rs rest (not_so (is_empty (written_atoms xs)) some) are none single h
  lead_of true xs ms rs rest some are none single h =
      let (rs', more, same) = some_parts (items u true ms) (λ rs. Some ((93, 93) ∷ rs)) rs h in
      let one = one_range 93 93 (bracket_fine u) (bracket_fine u) (omega arith) in
      let (q, i, e) = inside_of true xs ms rs' ((93, 93) ∷ []) (in_ranges ((93, 93) ∷ [])) rest are none single more one in
      (Some 93, tail xs rest, q, openings.bracket (tail xs rest) (tail xs rest) refl, i, subst (λ w. Denote u q w) (same_Some ((93, 93) ∷ rs') rs same) e)

  sign_of : (negated bracket : Bool) (xs : List Atom) (rest : Characters) → (negated || bracket || not (is_at 94 (written_atoms xs))) ≡ true →
      Sign false (written_if negated 94 ++ (written_if bracket 93 ++ tail xs rest)) negated (written_if bracket 93 ++ tail xs rest)
  sign_of true bracket xs rest h = openings.caret (written_if bracket 93 ++ tail xs rest) (written_if bracket 93 ++ tail xs rest) refl
  sign_of false true xs rest h = openings.without_caret (93 ∷ tail xs rest) refl
  sign_of false false xs rest h = openings.without_caret (tail xs rest) (at_tail 94 xs rest refl ∙ not_so (is_at 94 (written_atoms xs)) h)

  class_is : (negated : Bool) (q : CodeSet) (rs : List Range) → Denote u q rs → AreRangesOf u (list_set negated (begun q)) (class_of u false negated rs)
  class_is true q rs d = complement_is u q rs d
  class_is false q rs d = ordered_is u q rs d

  -- a list of the stated grammar without sets is a list here, with the same codes
  pub list_is : (negated bracket : Bool) (xs : List Atom) (ms : List Member) (rs : List Range) (rest : Characters) → is_list negated bracket (written_atoms xs) ≡ true →
      members_of xs ≡ Some ms → NoSets ms → list_ranges u bracket ms ≡ Some rs →
      (p : CodeSet) × IsList settings false (written_if negated 94 ++ (written_if bracket 93 ++ tail xs rest)) p 1 rest × AreRangesOf u p (class_of u false negated rs)
  list_is negated bracket xs ms rs rest is are none h =
      let t = written_atoms xs in
      let (front, tildes) = and_parts ((bracket || not (is_empty t)) && (negated || bracket || not (is_at 94 t)) && not (has_twice 38 t)) (not (has_twice 126 t)) is in
      let (both, signs) = and_parts ((bracket || not (is_empty t)) && (negated || bracket || not (is_at 94 t))) (not (has_twice 38 t)) front in
      let (some, caret) = and_parts (bracket || not (is_empty t)) (negated || bracket || not (is_at 94 t)) both in
      let (lead, v, q, leads, i, d) = lead_of bracket xs ms rs rest some (members_are xs ms are) none (not_so (has_twice 38 t) signs, not_so (has_twice 126 t) tildes) h in
      let front = written_if negated 94 ++ (written_if bracket 93 ++ tail xs rest) in (
        list_set negated (begun q),
        lists.brackets front v rest negated lead (begun q)
            (openings.opening front front (written_if bracket 93 ++ tail xs rest) v negated lead refl (sign_of negated bracket xs rest caret) leads) i,
        class_is negated q rs d,
      )

-- ---- lists without Perl classes

no_set : (s : escapes.Escape) (p : Perl) → is_no_class (Some s) ≡ true → escaped_member s ≡ Some (member.Perl p) → ⊥
no_set (says.Character c) p h g = clash (same_Some (member.Character c) (member.Perl p) g)
  where
    clash : ◌≡◌ {A = Member} (member.Character c) (member.Perl p) → ⊥
    clash e = cc
no_set (says.Byte b) p h g = clash (same_Some (member.Byte b) (member.Perl p) g)
  where
    clash : ◌≡◌ {A = Member} (member.Byte b) (member.Perl p) → ⊥
    clash e = cc
no_set (says.Perl q) p h g = true≢false (sym h)
no_set (says.Assertion a) p h g = none-some (member.Perl p) g

no_perl : (x : Atom) (p : Perl) → is_plain x ≡ true → member_of x ≡ Some (member.Perl p) → ⊥
no_perl (plain c) p shared h = go (c == 45) h
  where
    hyphen : ◌≡◌ {A = Member} member.Hyphen (member.Perl p) → ⊥
    hyphen e = cc

    clash : ◌≡◌ {A = Member} (member.Character c) (member.Perl p) → ⊥
    clash e = cc

    go : (b : Bool) → (if b then Some member.Hyphen else (not (c == 91 || c == 92 || c == 93) >> Some (member.Character c))) ≡ Some (member.Perl p) → ⊥
    go true g = hyphen (same_Some member.Hyphen (member.Perl p) g)
    go false g =
        let (_, same) = guard_parts (not (c == 91 || c == 92 || c == 93)) (Some (member.Character c)) (member.Perl p) g in
        clash (same_Some (member.Character c) (member.Perl p) same)
no_perl (escaped e) p shared h =
    let (s, meant, is) = some_parts (escape_says e) escaped_member (member.Perl p) h in
    no_set s p (subst (λ o. is_no_class o ≡ true) meant shared) is

pub no_sets : (xs : List Atom) (ms : List Member) → are_plain xs ≡ true → Are xs ms → NoSets ms
no_sets [] [] shared are = tt
no_sets [] (m ∷ ms) shared are = absurd are
no_sets (x ∷ xs) [] shared are = absurd are
no_sets (x ∷ xs) (member.Character c ∷ ms) shared (is, are) = no_sets xs ms ((and_parts (is_plain x) (are_plain xs) shared).1) are
no_sets (x ∷ xs) (member.Byte b ∷ ms) shared (is, are) = no_sets xs ms ((and_parts (is_plain x) (are_plain xs) shared).1) are
no_sets (x ∷ xs) (member.Hyphen ∷ ms) shared (is, are) = no_sets xs ms ((and_parts (is_plain x) (are_plain xs) shared).1) are
no_sets (x ∷ xs) (member.Perl p ∷ ms) shared (is, are) = absurd (no_perl x p ((and_parts (is_plain x) (are_plain xs) shared).0) is)

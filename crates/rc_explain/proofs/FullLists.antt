-- Atoms and ranges of a list of the full grammar, and its brackets.
use Rattle.std.proofs.Common.{◌≡◌, ◌≢◌, ◌∙◌, ◌+◌, ◌-◌, ◌<◌, ◌≤◌, ◌⊎◌, ◌||◌, ◌++◌, ℕ, zero, suc, Bool, true, false, true≢false, MatchOption, Option, Some, None, is_none, [], ◌∷◌, ap, arith, drop, inl, inr, length, refl, subst, sym, take}
use Rattle.std.proofs.lemmas.Bool.{ne_eqb}
use Rattle.std.proofs.lemmas.List.{drop-drop, length-drop, take-append-drop}
use Rattle.std.proofs.lemmas.Option.{none-some, same_Some}
use Rattle.rc_tokens.specs.Text.{Characters, ◌>>=◌, is_at}
use Rattle.rc_tokens.specs.Classes.{code_of}
use Rattle.rc_tokens.specs.declared.tokens.Escape.TheVariants as says
use Rattle.rc_tokens.specs.declared.tokens.Member.TheVariants as member
use Rattle.rc_tokens.specs.declared.tokens.Perl.{Perl}
use Rattle.rc_tokens.proofs.StepLemmas.{at_splits}
use Rattle.rc_parser.specs.declared.config.Grammar.TheVariants.{Full}
use Rattle.rc_class_names.specs.declared.properties.Property as properties
use Rattle.rc_full_escapes.specs.Escapes.{IsEscape}
use Rattle.rc_full_escapes.specs.Escaped.{read_escape}
use Rattle.rc_full_escapes.specs.declared.escapes.FullEscape.{FullEscape}
use Rattle.rc_full_escapes.specs.declared.escapes.FullEscape.TheVariants.{Property, Stated}
use Rattle.rc_full_escapes.proofs.EscapeLemmas.{all_sound}
use Rattle.rc_full_lists.specs.Parts.{GoesOn, IsAtom, IsPart, Passes, atom_of, closes, escaped, names, opens, operates, plain, range, set, single}
use Rattle.rc_full_lists.specs.Read.{passed, read_part}
use Rattle.rc_full_lists.specs.declared.parts.Atom.{Atom}
use Rattle.rc_full_lists.specs.declared.parts.Atom.TheVariants.{Code, Set}
use Rattle.rc_full_lists.specs.declared.items.Item.TheVariants as item
use Rattle.rc_full_lists.specs.declared.parts.Part.{Part}
use Rattle.rc_full_lists.specs.declared.parts.Part.TheVariants as part
use Rattle.rc_full_lists.specs.declared.parts.Settings.{Settings}
use Rattle.rc_full_lists.proofs.PartLemmas.{part_sound, passed_passes}
use Rattle.rc_explain.specs.Full.{AreBrackets, HasSetAtom, IsCodeAbove, ReadsRange}
use Rattle.rc_explain.specs.Reading.{BeginsAtom, IsCoded}
use Rattle.rc_explain.specs.Shown.{HasShape, Stands}
use Rattle.rc_explain.specs.declared.faults.FaultKind.{FaultKind}
use Rattle.rc_explain.specs.declared.faults.FaultKind.TheVariants.{ClassInRange, MemberPastAscii, RangeOutOfOrder}
use Rattle.rc_explain.specs.declared.full_lists.Atom as code
use Rattle.rc_explain.proofs.Shapes.{stands_shifted}
use Rattle.rc_explain.proofs.Tokens.{alike}
use Rattle.rc_explain.proofs.Rests.{Ends, behind_ends, behind_shorter, drops, escape_behind, more, passes_end, within}

-- the escape that is read, by the number of its characters
pub escape_read : (octal : Bool) (t u : Characters) (e : FullEscape) (n : ℕ) → read_escape octal t ≡ Some (e, u) → n ≡ length t - length u →
    (0 < n) × (n ≤ length t) × IsEscape octal t e (drop n t)
escape_read octal t u e n read is =
    let escape = all_sound octal t e u read in
    let behind = escape_behind octal t u e escape in
    let less = behind_shorter u t behind in
    let rest : drop n t ≡ u = subst (λ k. drop k t ≡ u) (sym is) (drops u t (behind_ends u t behind)) in
    (omega (arith, is, less), omega (arith, is, less), subst (IsEscape octal t e) (sym rest) escape)

-- what is so of the first n characters is so of that span
pub first_shown : (kind k : FaultKind) (t : Characters) (s e n : ℕ) → k ≡ kind → s ≡ 0 → e ≡ n → HasShape Full kind t 0 n → HasShape Full k t s e
first_shown kind k t s e n is starts ends h =
    subst (λ k. HasShape Full k t s e) (sym is) (subst (λ s. HasShape Full kind t s e) (sym starts) (subst (λ e. HasShape Full kind t 0 e) (sym ends) h))

-- ---- atoms

-- the code of an atom that has one
abbrev pub IsCodeOf : Bool → ℕ → Option ℕ → Type 0
IsCodeOf unicode c o = MatchOption o (128 ≤ c) (λ n. code_of unicode (member.Character c) ≡ Some n)

-- an atom of so many characters begins the text
abbrev pub IsAtomThere : Settings → Characters → ℕ → Option ℕ → Type 0
IsAtomThere s t n o = (0 < n) × (n ≤ length t) × BeginsAtom s t (record { count = n; code = o })

module _ (s : Settings) (t : Characters) (e : FullEscape) (n : ℕ) (some : 0 < n) (fits : n ≤ length t) (escape : IsEscape s.octal t e (drop n t)) where
  escaped_there : (a : Atom) (o : Option ℕ) → atom_of s.unicode e ≡ Some a → IsCoded o a → IsAtomThere s t n o
  escaped_there a o is coded = (some, fits, record { value = a; reads = escaped t (drop n t) e a escape is; coded = coded })

  pub character_there : (c : ℕ) (o : Option ℕ) → e ≡ Stated (says.Character c) → IsCodeOf s.unicode c o → is_none o ≡ false → IsAtomThere s t n o
  character_there c None is code has = absurd (true≢false has)
  character_there c (Some k) is code has =
      escaped_there (Code k) (Some k) (ap (atom_of s.unicode) is ∙ ap (λ o. o >>= λ n. Some (Code n)) code) refl

  pub byte_there : (b k : ℕ) → e ≡ Stated (says.Byte b) → code_of s.unicode (member.Byte b) ≡ Some k → IsAtomThere s t n (Some k)
  byte_there b k is code = escaped_there (Code k) (Some k) (ap (atom_of s.unicode) is ∙ ap (λ o. o >>= λ n. Some (Code n)) code) refl

  pub perl_there : (p : Perl) → e ≡ Stated (says.Perl p) → IsAtomThere s t n None
  perl_there p is = escaped_there (Set (item.Perl p)) None (ap (atom_of s.unicode) is) tt

  pub property_there : (p : properties.Property) → e ≡ Property p → s.unicode ≡ true → IsAtomThere s t n None
  property_there p is unicode =
      let found : atom_of true (Property p) ≡ Some (Set (item.Property p)) = refl in
      escaped_there (Set (item.Property p)) None (ap (atom_of s.unicode) is ∙ subst (λ b. atom_of b (Property p) ≡ Some (Set (item.Property p))) (sym unicode) found) tt

starts_some : (c : ℕ) (t : Characters) → t ≡ c ∷ drop 1 t → 1 ≤ length t
starts_some c t e = let long = ap length e in omega (arith, long)

pub plain_there : (s : Settings) (t : Characters) (c : ℕ) (o : Option ℕ) → t ≡ c ∷ drop 1 t → c ≢ 92 → IsCodeOf s.unicode c o → is_none o ≡ false → IsAtomThere s t 1 o
plain_there s t c None begins other code has = absurd (true≢false has)
plain_there s t c (Some k) begins other code has = (
  omega arith,
  starts_some c t begins,
  record {
    value = Code k;
    reads = subst (λ x. IsAtom s x (Code k) (drop 1 t)) (sym begins) (plain c k (drop 1 t) (ne_eqb c 92 other) code);
    coded = refl;
  },
)

pub plain_past : (unicode : Bool) (t : Characters) (c : ℕ) (o : Option ℕ) → t ≡ c ∷ drop 1 t → IsCodeOf unicode c o → is_none o ≡ true → HasShape Full MemberPastAscii t 0 1
plain_past unicode t c (Some k) begins code none = absurd (true≢false (sym none))
plain_past unicode t c None begins code none = (omega arith, starts_some c t begins, record { c = c; past = code; written = inl begins })

-- ---- ranges

either_none : (a b : Bool) → a ≡ false → b ≡ false → (a || b) ≡ false
either_none a b e f = rw e f

pub goes_there : (verbose : Bool) (t sign behind high : Characters) (a k : ℕ) → sign ≡ passed verbose (drop a t) → is_at 45 sign ≡ true → behind ≡ drop 1 sign →
    high ≡ passed verbose behind → is_at 93 high ≡ false → is_at 45 high ≡ false → k ≡ length t - length high → (s : Settings) → s.verbose ≡ verbose →
    GoesOn s (drop a t) (drop k t)
goes_there verbose t sign behind high a k first hyphen next last closer other many s same =
    let splits : sign ≡ 45 ∷ behind = at_splits 45 sign hyphen ∙ ap (λ u. 45 ∷ u) (sym next) in
    let one : Passes verbose (drop a t) (45 ∷ behind) = subst (Passes verbose (drop a t)) (sym first ∙ splits) (passed_passes verbose (drop a t)) in
    let two : Passes verbose behind high = subst (Passes verbose behind) (sym last) (passed_passes verbose behind) in
    let whole : Ends (drop a t) t = (take a t, sym (take-append-drop a t)) in
    let ends : Ends high t =
    within high behind t (passes_end verbose behind high two)
    (within behind (drop a t) t (within behind (45 ∷ behind) (drop a t) (more 45 behind behind ([], refl)) (passes_end verbose (drop a t) (45 ∷ behind) one)) whole) in
    let rest : drop k t ≡ high = subst (λ n. drop n t ≡ high) (sym many) (drops high t ends) in
    record {
      at = behind;
      sign = subst (λ x. Passes x (drop a t) (45 ∷ behind)) (sym same) one;
      behind = subst (λ x. Passes x behind (drop k t)) (sym same) (subst (Passes verbose behind) (sym rest) two);
      high = subst (λ v. (is_at 93 v || is_at 45 v) ≡ false) (sym rest) (either_none (is_at 93 high) (is_at 45 high) closer other);
    }

-- the range from one atom to another
pub range_shown : (s : Settings) (t : Characters) (low high : code.Atom) (start n : ℕ) (kind : FaultKind) (a : BeginsAtom s t low) (b : BeginsAtom s (drop start t) high) →
    start < length t → 0 < high.count → high.count ≤ length (drop start t) → GoesOn s (drop low.count t) (drop start t) → n ≡ start + high.count →
    ((kind ≡ ClassInRange) × HasSetAtom a.value b.value) ⊎ ((kind ≡ RangeOutOfOrder) × IsCodeAbove a.value b.value) → HasShape Full kind t 0 n
range_shown s t low high start n kind a b inside some fits goes is told = go told
  where
    reads : (Related : Atom → Atom → Type 0) → Related a.value b.value → (0 < n) × (n ≤ length t) × ReadsRange Related (drop 0 t) (drop n t)
    reads Related related =
        let long = length-drop start t in (
          omega (arith, is, some),
          omega (arith, is, fits, long, inside),
          record {
            settings = s;
            low = a.value;
            high = b.value;
            behind = drop low.count t;
            from = drop start t;
            reads_low = a.reads;
            goes_on = goes;
            reads_high = subst (IsAtom s (drop start t) b.value) (drop-drop high.count start t ∙ ap (λ k. drop k t) (sym is)) b.reads;
            related = related;
          },
        )

    go : ((kind ≡ ClassInRange) × HasSetAtom a.value b.value) ⊎ ((kind ≡ RangeOutOfOrder) × IsCodeAbove a.value b.value) → HasShape Full kind t 0 n
    go (inl (class, has)) = subst (λ k. HasShape Full k t 0 n) (sym class) (reads HasSetAtom has)
    go (inr (order, above)) = subst (λ k. HasShape Full k t 0 n) (sym order) (reads IsCodeAbove above)

-- ---- brackets

-- a part that closes a list begins with `]`
pub closes_first : (s : Settings) (t u : Characters) (p : Part) → read_part s t ≡ Some (p, u) → p ≡ part.Closes → Stands t 0 93
closes_first s t u p read is = go t p u is (part_sound s t p u read)
  where
    go : (t : Characters) (p : Part) (u : Characters) → p ≡ part.Closes → IsPart s t p u → Stands t 0 93
    go _ _ _ is (closes t) = refl
    go _ _ _ is (operates t o at) = absurd (cc)
    go _ _ _ is (names t u i posix) = absurd (cc)
    go _ _ _ is (opens t none) = absurd (cc)
    go _ _ _ is (range t a b u low high begins first goes last le) = absurd (cc)
    go _ _ _ is (single t u c begins first alone) = absurd (cc)
    go _ _ _ is (set t u i begins first alone) = absurd (cc)

parted : (t : Characters) (m c : ℕ) → Stands t m c → t ≡ take m t ++ c ∷ drop (suc m) t
parted [] m c h = absurd (none-some c h)
parted (d ∷ t) zero c h = ap (λ x. x ∷ t) (same_Some d c h)
parted (d ∷ t) (suc m) c h = ap (λ u. d ∷ u) (parted t m c h)

pub brackets_there : (t : Characters) (n : ℕ) → Stands t 0 91 → Stands t n 93 → n < length t → (0 < n + 1) × (n + 1 ≤ length t) × AreBrackets t (drop (n + 1) t)
brackets_there t n first last inside = (omega arith, omega (arith, inside), go t n first last)
  where
    go : (t : Characters) (n : ℕ) → Stands t 0 91 → Stands t n 93 → AreBrackets t (drop (n + 1) t)
    go t zero first last = absurd (let same = alike t 0 91 93 first last in omega (arith, same))
    go [] (suc m) first last = absurd (none-some 91 first)
    go (d ∷ t) (suc m) first last =
        let next : suc m ≡ m + 1 = omega arith in
        let more : suc (suc m) ≡ suc m + 1 = omega arith in
        record {
          inside = take m t;
          written = subst (λ k. d ∷ t ≡ 91 ∷ (take m t ++ 93 ∷ drop k (d ∷ t))) more
              (ap (λ x. x ∷ t) (same_Some d 91 first) ∙ ap (λ u. 91 ∷ u) (parted t m 93 last));
        }

-- the `]` at a place of a text
pub closes_there : (s : Settings) (t u : Characters) (n : ℕ) (p : Part) → Stands t 0 91 → read_part s (drop n t) ≡ Some (p, u) → p ≡ part.Closes → n < length t →
    (0 < n + 1) × (n + 1 ≤ length t) × AreBrackets t (drop (n + 1) t)
closes_there s t u n p first read is inside =
    let same : 0 + n ≡ n = omega arith in
    brackets_there t n first (subst (λ k. Stands t k 93) same (stands_shifted n t 0 93 (closes_first s (drop n t) u p read is))) inside

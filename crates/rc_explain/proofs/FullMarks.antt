-- With which characters the marks of the full grammar begin, and what they are.
use Rattle.std.proofs.Common.{◌≡◌, ◌≢◌, ◌∙◌, ◌+◌, ◌-◌, ◌<◌, ◌≤◌, ◌⊎◌, ℕ, Bool, true, false, List, Option, Some, [], ◌∷◌, ◌++◌, ap, append_assoc, arith, drop, inl, inr, length, length-append, refl, subst, sym}
use Rattle.std.proofs.lemmas.List.{length-drop}
use Rattle.std.proofs.lemmas.Option.{slice_get-get_or}
use Rattle.rc_tokens.specs.Said.{Named, Start}
use Rattle.rc_tokens.specs.Text.{Characters}
use Rattle.rc_full_tokens.specs.Names.{is_group_name}
use Rattle.rc_full_parser.specs.declared.marks.MarkSettings.{MarkSettings}
use Rattle.rc_full_parser.specs.declared.marks.Piece.{Piece}
use Rattle.rc_full_parser.specs.Marks.{Mark, bar, closes, sets, opens, repeats, brackets, stands, IsMark, branch, close, setting, capturing, naming, flagging, repeating, bracket, escaped, dot, caret, dollar, character}
use Rattle.rc_full_parser.specs.Marked.{read_mark}
use Rattle.rc_full_parser.proofs.MarkLemmas.{mark_sound}
use Rattle.rc_explain.specs.Full.{AreBrackets, IsSetPiece, ReadsSet}
use Rattle.rc_explain.specs.Reading.{BeginsMark, OpensNamed}
use Rattle.rc_explain.specs.Shown.{AreAt, IsNamed, Stands}
use Rattle.rc_explain.proofs.Rests.{behind_ends, behind_shorter, drops, mark_behind}
use Rattle.rc_explain.proofs.Tokens.{alike, at_behind, at_front}

abbrev Begins : Mark → Characters → Type 0
Begins bar t = Unit {0}
Begins closes t = Unit {0}
Begins (sets to) t = Unit {0}
Begins (opens k x) t = Stands t 0 40
Begins (repeats b) t = Unit {0}
Begins brackets t = Unit {0}
Begins (stands k) t = Unit {0}

first : (t : Characters) → Stands (40 ∷ t) 0 40
first t = slice_get-get_or (40 ∷ t) 0 40 (omega arith)

begins : (s : MarkSettings) (t : Characters) (m : Mark) (u : Characters) → IsMark s t m u → Begins m t
begins s _ _ _ (branch t) = tt
begins s _ _ _ (close t) = tt
begins s _ _ _ (setting f t to word full changes) = tt
begins s _ _ _ (capturing t other) = first t
begins s _ _ _ (naming true name t word known) = first (63 ∷ 80 ∷ 60 ∷ (name ++ 62 ∷ t))
begins s _ _ _ (naming false name t word known) = first (63 ∷ 60 ∷ (name ++ 62 ∷ t))
begins s _ _ _ (flagging f t to word changes) = first (63 ∷ (f ++ 58 ∷ t))
begins s _ _ _ (repeating t u min max amount) = tt
begins s _ _ _ (bracket t) = tt
begins s _ _ _ (escaped t u e k is says) = tt
begins s _ _ _ (dot t) = tt
begins s _ _ _ (caret t) = tt
begins s _ _ _ (dollar t) = tt
begins s _ _ _ (character c t ordinary) = tt

-- a mark that opens a group begins with `(`
pub opens_first : (t : Characters) (m : Mark) (n : ℕ) (k : Start) (x : Option Bool) → BeginsMark m t n → m ≡ opens k x → Stands t 0 40
opens_first t m n k x h is =
    let (s, read) = h.marked (λ e. let same = sym e ∙ is in cc) in
    subst (λ m. Begins m t) is (begins s t m (drop n t) read)

-- the mark that is read, by the number of its characters
pub mark_read : (s : MarkSettings) (t u : Characters) (m : Mark) (n : ℕ) → m ≢ brackets → read_mark s t ≡ Some (m, u) → n ≡ length t - length u →
    (0 < n) × (n ≤ length t) × BeginsMark m t n
mark_read s t u m n other read is =
    let mark = mark_sound s t m u read in
    let behind = mark_behind s t u m mark in
    let less = behind_shorter u t behind in
    let rest : drop n t ≡ u = subst (λ k. drop k t ≡ u) (sym is) (drops u t (behind_ends u t behind)) in (
      omega (arith, is, less),
      omega (arith, is, less),
      record { listed = λ e. absurd (other e); marked = λ _. (s, subst (IsMark s t m) (sym rest) mark) },
    )

-- ---- names

name_stands : (f name t : Characters) → AreAt (f ++ (60 ∷ (name ++ 62 ∷ t))) (length f) (60 ∷ (name ++ 62 ∷ []))
name_stands [] name t = subst (λ s. AreAt (60 ∷ s) 0 (60 ∷ (name ++ 62 ∷ []))) (append_assoc name (62 ∷ []) t) (at_front (60 ∷ (name ++ 62 ∷ [])) t)
name_stands (c ∷ f) name t = at_behind (60 ∷ (name ++ 62 ∷ [])) (f ++ (60 ∷ (name ++ 62 ∷ t))) c (length f) (name_stands f name t)

-- the number of characters of an opening, by the rest
opening_long : (f name t : Characters) (n : ℕ) → n ≤ length (f ++ (60 ∷ (name ++ 62 ∷ t))) → drop n (f ++ (60 ∷ (name ++ 62 ∷ t))) ≡ t →
    n ≡ length f + (2 + length name)
opening_long f name t n within is =
    let whole = length-append f (60 ∷ (name ++ 62 ∷ t)) in
    let long = length-append name (62 ∷ t) in
    let rest = sym (length-drop n (f ++ (60 ∷ (name ++ 62 ∷ t)))) ∙ ap length is in
    omega (arith, whole, long, rest, within)

-- the place of the name
pub named_at : (t : Characters) (name : List ℕ) (n e a : ℕ) → n ≤ length t → e ≡ n - 1 → OpensNamed name t (drop n t) →
    ((Stands t 2 80) × (a ≡ 4)) ⊎ ((Stands t 2 80 → ⊥) × (a ≡ 3)) → IsNamed is_group_name t a e
named_at t name n e a fits to (s, x, mark) place = go t (opens (Named name) x) (drop n t) refl mark refl fits place
  where
    go : (t : Characters) (m : Mark) (u : Characters) → m ≡ opens (Named name) x → IsMark s t m u → drop n t ≡ u → n ≤ length t →
        ((Stands t 2 80) × (a ≡ 4)) ⊎ ((Stands t 2 80 → ⊥) × (a ≡ 3)) → IsNamed is_group_name t a e
    go _ _ _ is (naming true word u ok known) rest within (inl (p, four)) =
        let long = opening_long (40 ∷ 63 ∷ 80 ∷ []) word u n within rest in record {
          opener = 3;
          name = word;
          named = known;
          here = name_stands (40 ∷ 63 ∷ 80 ∷ []) word u;
          starts = four;
          ends = omega (arith, long, to, four);
        }
    go _ _ _ is (naming true word u ok known) rest within (inr (lacks, three)) = absurd (lacks refl)
    go _ _ _ is (naming false word u ok known) rest within (inl (p, four)) =
        absurd (let same = alike (40 ∷ 63 ∷ 60 ∷ (word ++ 62 ∷ u)) 2 60 80 refl p in omega (arith, same))
    go _ _ _ is (naming false word u ok known) rest within (inr (lacks, three)) =
        let long = opening_long (40 ∷ 63 ∷ []) word u n within rest in record {
          opener = 2;
          name = word;
          named = known;
          here = name_stands (40 ∷ 63 ∷ []) word u;
          starts = three;
          ends = omega (arith, long, to, three);
        }
    go _ _ _ is (branch t) rest within w = absurd (cc)
    go _ _ _ is (close t) rest within w = absurd (cc)
    go _ _ _ is (setting f t to word full changes) rest within w = absurd (cc)
    go _ _ _ is (capturing t other) rest within w = absurd (cc)
    go _ _ _ is (flagging f t to word changes) rest within w = absurd (cc)
    go _ _ _ is (repeating t u min max amount) rest within w = absurd (cc)
    go _ _ _ is (bracket t) rest within w = absurd (cc)
    go _ _ _ is (escaped t u e k read says) rest within w = absurd (cc)
    go _ _ _ is (dot t) rest within w = absurd (cc)
    go _ _ _ is (caret t) rest within w = absurd (cc)
    go _ _ _ is (dollar t) rest within w = absurd (cc)
    go _ _ _ is (character c t ordinary) rest within w = absurd (cc)

pub opens_named : (t : Characters) (m : Mark) (name : List ℕ) (x : Option Bool) (n : ℕ) → m ≡ opens (Named name) x → BeginsMark m t n → OpensNamed name t (drop n t)
opens_named t m name x n is h =
    let (s, mark) = h.marked (λ e. let same = sym e ∙ is in cc) in
    (s, x, subst (λ m. IsMark s t m (drop n t)) is mark)

-- ---- sets

-- the brackets of a list are one of bytes or of characters, and so is this piece
pub list_read : (t : Characters) (m : Mark) (n : ℕ) → m ≡ brackets → BeginsMark m t n → ReadsSet t (drop n t)
list_read t m n is h = inr (h.listed is)

pub piece_read : (t : Characters) (m : Mark) (k : Piece) (n : ℕ) → m ≡ stands k → IsSetPiece k → BeginsMark m t n → ReadsSet t (drop n t)
piece_read t m k n is set h =
    let (s, mark) = h.marked (λ e. let same = sym e ∙ is in cc) in
    inl (record { settings = s; piece = k; is_set = set; reads = subst (λ m. IsMark s t m (drop n t)) is mark })

-- the list that begins with `[` begins so
pub list_begins : (t : Characters) (n : ℕ) → AreBrackets t (drop n t) → BeginsMark brackets t n
list_begins t n h = record { listed = λ _. h; marked = λ no. absurd (no refl) }

-- a list is told by its first character
pub bracket_first : (s : MarkSettings) (t u : Characters) (m : Mark) → read_mark s t ≡ Some (m, u) → m ≡ brackets → Stands t 0 91
bracket_first s t u m read is = go t m u is (mark_sound s t m u read)
  where
    go : (t : Characters) (m : Mark) (u : Characters) → m ≡ brackets → IsMark s t m u → Stands t 0 91
    go _ _ _ is (bracket t) = refl
    go _ _ _ is (branch t) = absurd (cc)
    go _ _ _ is (close t) = absurd (cc)
    go _ _ _ is (setting f t to word full changes) = absurd (cc)
    go _ _ _ is (capturing t other) = absurd (cc)
    go _ _ _ is (naming p word t ok known) = absurd (cc)
    go _ _ _ is (flagging f t to word changes) = absurd (cc)
    go _ _ _ is (repeating t u min max amount) = absurd (cc)
    go _ _ _ is (escaped t u e k read says) = absurd (cc)
    go _ _ _ is (dot t) = absurd (cc)
    go _ _ _ is (caret t) = absurd (cc)
    go _ _ _ is (dollar t) = absurd (cc)
    go _ _ _ is (character c t ordinary) = absurd (cc)

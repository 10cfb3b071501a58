-- Nodes that are no literal, and nodes that may read.
use Rattle.std.proofs.Common.{◌≡◌, ℕ, ◌⊎◌, List, [], ◌∷◌, length, map, false, Option, None, ap, sym, ◌∙◌, refl, inl, inr, ⊎_elim, arith, Vec, Global}
use Rattle.std.proofs.lemmas.Bool.{cases_Bool}
use Rattle.std.proofs.lemmas.Bool.Decides.{Decides-eqb}
use Rattle.std.specs.Bool.{◌==◌}
use Rattle.rc_pattern.specs.Re.{Re}
use Rattle.rc_pattern.specs.Meaning.{meaning, kind_meaning, class_meaning, cat_all, alt_all}
use Rattle.rc_pattern.specs.declared.hir.Look.{Look}
use Rattle.rc_pattern.specs.declared.hir.Class.{Class}
use Rattle.rc_pattern.specs.declared.hir.Class.TheVariants.{Unicode, Bytes}
use Rattle.rc_pattern.specs.declared.hir.Hir.{Hir}
use Rattle.rc_pattern.specs.declared.hir.HirKind.{HirKind}
use Rattle.rc_pattern.specs.declared.hir.HirKind.TheVariants as HirKind
use Rattle.rc_pattern.specs.declared.hir.Repetition.{Repetition}
use Rattle.rc_pattern.specs.declared.hir.Capture.{Capture}
use Rattle.rc_pattern.proofs.FoldLemmas.{kind_Empty, kind_Literal, kind_Class, kind_Look, kind_Repetition, kind_Capture, kind_Concat, kind_Alternation, meaning_of_repetition, meaning_of_capture}
use Rattle.rc_literals.specs.Extraction.{is_still, spelled_bytes}
use Rattle.rc_literals.specs.Literals.{literal_bytes, literals_of}

class_bytes : (c : Class) → literal_bytes (class_meaning c) ≡ None
class_bytes (Unicode rs) = refl
class_bytes (Bytes rs) = refl

class_literals : (c : Class) → literals_of (class_meaning c) ≡ None
class_literals (Unicode rs) = refl
class_literals (Bytes rs) = refl

cat_bytes : (hs : List Re) → literal_bytes (cat_all hs) ≡ None
cat_bytes [] = refl
cat_bytes (h ∷ hs) = refl

cat_literals : (hs : List Re) → literals_of (cat_all hs) ≡ None
cat_literals [] = refl
cat_literals (h ∷ hs) = refl

alt_bytes : (hs : List Re) → literal_bytes (alt_all hs) ≡ None
alt_bytes [] = refl
alt_bytes (h ∷ hs) = refl

-- a node that is neither a literal nor an alternation
abbrev pub IsOther : HirKind → Type 0 → Type 0
IsOther k More =
    (k ≡ HirKind.Empty) ⊎ (((c : Class) × (k ≡ HirKind.Class c)) ⊎ (((l : Look) × (k ≡ HirKind.Look l)) ⊎ (((r : Repetition) × (k ≡ HirKind.Repetition r))
    ⊎ (((c : Capture) × (k ≡ HirKind.Capture c)) ⊎ More))))

-- or a concatenation
abbrev pub IsConcat : HirKind → Type 0
IsConcat k = (subs : Vec Hir Global) × (k ≡ HirKind.Concat subs)

abbrev pub IsAlternation : HirKind → Type 0
IsAlternation k = (subs : Vec Hir Global) × (k ≡ HirKind.Alternation subs)

module _ (X : Type 0) (f : Re → Option X) (k : HirKind) where
  of_kind : (j : HirKind) (h : Re) → k ≡ j → kind_meaning j ≡ h → f h ≡ None → f (kind_meaning k) ≡ None
  of_kind j h e m n = ap (λ z. f (kind_meaning z)) e ∙ ap f m ∙ n

pub no_bytes : (k : HirKind) → IsOther k (IsConcat k ⊎ IsAlternation k) → literal_bytes (kind_meaning k) ≡ None
no_bytes k (inl e) = of_kind (List ℕ) literal_bytes k HirKind.Empty _ e kind_Empty refl
no_bytes k (inr (inl (c, e))) = of_kind (List ℕ) literal_bytes k (HirKind.Class c) _ e (kind_Class c) (class_bytes c)
no_bytes k (inr (inr (inl (l, e)))) = of_kind (List ℕ) literal_bytes k (HirKind.Look l) _ e (kind_Look l) refl
no_bytes k (inr (inr (inr (inl (r, e))))) = of_kind (List ℕ) literal_bytes k (HirKind.Repetition r) _ e (kind_Repetition r ∙ meaning_of_repetition r) refl
no_bytes k (inr (inr (inr (inr (inl (c, e)))))) = of_kind (List ℕ) literal_bytes k (HirKind.Capture c) _ e (kind_Capture c ∙ meaning_of_capture c) refl
no_bytes k (inr (inr (inr (inr (inr (inl (s, e))))))) = of_kind (List ℕ) literal_bytes k (HirKind.Concat s) _ e (kind_Concat s) (cat_bytes (map meaning s.items))
no_bytes k (inr (inr (inr (inr (inr (inr (s, e))))))) =
    of_kind (List ℕ) literal_bytes k (HirKind.Alternation s) _ e (kind_Alternation s) (alt_bytes (map meaning s.items))

pub no_literals : (k : HirKind) → IsOther k (IsConcat k) → literals_of (kind_meaning k) ≡ None
no_literals k (inl e) = of_kind (List (List ℕ)) literals_of k HirKind.Empty _ e kind_Empty refl
no_literals k (inr (inl (c, e))) = of_kind (List (List ℕ)) literals_of k (HirKind.Class c) _ e (kind_Class c) (class_literals c)
no_literals k (inr (inr (inl (l, e)))) = of_kind (List (List ℕ)) literals_of k (HirKind.Look l) _ e (kind_Look l) refl
no_literals k (inr (inr (inr (inl (r, e))))) = of_kind (List (List ℕ)) literals_of k (HirKind.Repetition r) _ e (kind_Repetition r ∙ meaning_of_repetition r) refl
no_literals k (inr (inr (inr (inr (inl (c, e)))))) = of_kind (List (List ℕ)) literals_of k (HirKind.Capture c) _ e (kind_Capture c ∙ meaning_of_capture c) refl
no_literals k (inr (inr (inr (inr (inr (s, e)))))) =
    of_kind (List (List ℕ)) literals_of k (HirKind.Concat s) _ e (kind_Concat s) (cat_literals (map meaning s.items))

-- a node that is no assertion, not empty and no concatenation
abbrev pub IsReader : HirKind → Type 0
IsReader k =
    ((bytes : Vec ℕ Global) × (k ≡ HirKind.Literal bytes)) ⊎ (((c : Class) × (k ≡ HirKind.Class c)) ⊎ (((r : Repetition) × (k ≡ HirKind.Repetition r))
    ⊎ (((c : Capture) × (k ≡ HirKind.Capture c)) ⊎ IsAlternation k)))

class_reads : (c : Class) → is_still (class_meaning c) ≡ false
class_reads (Unicode rs) = refl
class_reads (Bytes rs) = refl

alt_reads : (hs : List Re) → is_still (alt_all hs) ≡ false
alt_reads [] = refl
alt_reads (h ∷ hs) = refl

reader_of : (k j : HirKind) (h : Re) → k ≡ j → kind_meaning j ≡ h → is_still h ≡ false → is_still (kind_meaning k) ≡ false
reader_of k j h e m n = ap (λ z. is_still (kind_meaning z)) e ∙ ap is_still m ∙ n

pub not_still : (k : HirKind) → IsReader k → is_still (kind_meaning k) ≡ false
not_still k (inl (b, e)) = reader_of k (HirKind.Literal b) _ e (kind_Literal b) refl
not_still k (inr (inl (c, e))) = reader_of k (HirKind.Class c) _ e (kind_Class c) (class_reads c)
not_still k (inr (inr (inl (r, e)))) = reader_of k (HirKind.Repetition r) _ e (kind_Repetition r ∙ meaning_of_repetition r) refl
not_still k (inr (inr (inr (inl (c, e))))) = reader_of k (HirKind.Capture c) _ e (kind_Capture c ∙ meaning_of_capture c) refl
not_still k (inr (inr (inr (inr (s, e))))) = reader_of k (HirKind.Alternation s) _ e (kind_Alternation s) (alt_reads (map meaning s.items))

no_member : (hs : List Hir) → (length hs == 0) ≡ is_still (cat_all (map meaning hs))
no_member [] = refl
no_member (h ∷ hs) =
    ⊎_elim (λ t. let e : length (h ∷ hs) ≡ 0 = (Decides-eqb (length (h ∷ hs)) 0).0 t in absurd (omega (arith, e))) (λ f. f)
    (cases_Bool (length (h ∷ hs) == 0))

-- a concatenation reads nothing where it has no member
pub still_concat : (h : Re) (k : HirKind) (subs : Vec Hir Global) (xs : List Hir) → kind_meaning k ≡ h → k ≡ HirKind.Concat subs → xs ≡ subs.items →
    (length xs == 0) ≡ is_still h
still_concat h k subs xs value is same =
    ap (λ (ys : List Hir). length ys == 0) same ∙ no_member subs.items ∙ ap is_still (sym (kind_Concat subs) ∙ ap kind_meaning (sym is) ∙ value)

-- a node of whose texts nothing is known
abbrev pub IsUnread : HirKind → Type 0
IsUnread k = (k ≡ HirKind.Empty) ⊎ (((l : Look) × (k ≡ HirKind.Look l)) ⊎ (((r : Repetition) × (k ≡ HirKind.Repetition r)) ⊎ IsConcat k))

cat_spelled : (hs : List Re) → spelled_bytes (cat_all hs) ≡ None
cat_spelled [] = refl
cat_spelled (h ∷ hs) = refl

pub none_spelled : (k : HirKind) → IsUnread k → spelled_bytes (kind_meaning k) ≡ None
none_spelled k (inl e) = of_kind (List (List ℕ)) spelled_bytes k HirKind.Empty _ e kind_Empty refl
none_spelled k (inr (inl (l, e))) = of_kind (List (List ℕ)) spelled_bytes k (HirKind.Look l) _ e (kind_Look l) refl
none_spelled k (inr (inr (inl (r, e)))) =
    of_kind (List (List ℕ)) spelled_bytes k (HirKind.Repetition r) _ e (kind_Repetition r ∙ meaning_of_repetition r) refl
none_spelled k (inr (inr (inr (s, e)))) = of_kind (List (List ℕ)) spelled_bytes k (HirKind.Concat s) _ e (kind_Concat s) (cat_spelled (map meaning s.items))

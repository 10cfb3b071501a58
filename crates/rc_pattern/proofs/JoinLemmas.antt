-- How the members of a concatenation are joined, one after another.
use Rattle.std.proofs.Common.{◌≡◌, ◌≢◌, ℕ, List, [], ◌∷◌, ◌++◌, map, sym, ap, ◌∙◌, refl, append_assoc, Vec, Global}
use Rattle.std.specs.List.{flat_map}
use Rattle.std.proofs.lemmas.List.{map-append, append-nil}
use Rattle.std.proofs.lemmas.Grind.{flat_map-append}
use Rattle.rc_pattern.specs.Re.{Re, literal}
use Rattle.rc_pattern.specs.Meaning.{meaning, kind_meaning, class_meaning, cat_all, alt_all, cat_members, alt_members, cat_rest, alt_rest, joins, joined}
use Rattle.rc_pattern.specs.declared.hir.Hir.{Hir}
use Rattle.rc_pattern.specs.declared.hir.Class.{Class}
use Rattle.rc_pattern.specs.declared.hir.Class.TheVariants.{Unicode, Bytes}
use Rattle.rc_pattern.specs.declared.hir.HirKind.{HirKind}
use Rattle.rc_pattern.specs.declared.hir.HirKind.TheVariants as HirKind
use Rattle.rc_pattern.proofs.FoldLemmas.{meaning_of_repetition, meaning_of_capture, kind_Empty, kind_Literal, kind_Class, kind_Look, kind_Repetition, kind_Capture, kind_Concat, kind_Alternation, IsNode, is_Empty, is_Literal, is_Class, is_Look, is_Repetition, is_Capture, is_Concat, is_Alternation, is_node}

-- it is no literal
abbrev pub IsOther : Re → Type 0
IsOther a = (bs : List ℕ) → a ≢ literal bs

-- a member behind others
abbrev appended : List Re → Re → List Re
appended [] m = m ∷ []
appended (a ∷ []) m = joins a (m ∷ [])
appended (a ∷ b ∷ xs) m = a ∷ appended (b ∷ xs) m

joins_nothing : (a : Re) → joins a [] ≡ a ∷ []
joins_nothing (literal bs) = refl
joins_nothing a = refl

joins_pair : (a b m : Re) → joins a (joins b (m ∷ [])) ≡ appended (joins a (b ∷ [])) m
joins_pair (literal bs) (literal cs) (literal ds) = ap (λ es. literal es ∷ []) (sym (append_assoc bs cs ds))
joins_pair (literal bs) (literal cs) m = refl
joins_pair (literal bs) b m = refl
joins_pair a b m = refl

joins_more : (a b c m : Re) (xs : List Re) → joins a (b ∷ appended (c ∷ xs) m) ≡ appended (joins a (b ∷ c ∷ xs)) m
joins_more (literal bs) (literal cs) c m xs = refl
joins_more (literal bs) b c m xs = refl
joins_more a b c m xs = refl

joins_appended : (a m : Re) (xs : List Re) → joins a (appended xs m) ≡ appended (joins a xs) m
joins_appended a m [] = ap (λ ys. appended ys m) (sym (joins_nothing a))
joins_appended a m (b ∷ []) = joins_pair a b m
joins_appended a m (b ∷ c ∷ xs) = joins_more a b c m xs

-- one more member
joined_push : (xs : List Re) (m : Re) → joined (xs ++ m ∷ []) ≡ appended (joined xs) m
joined_push [] m = joins_nothing m
joined_push (a ∷ xs) m = ap (joins a) (joined_push xs m) ∙ joins_appended a m (joined xs)

appended_last : (xs : List Re) (a m : Re) → appended (xs ++ a ∷ []) m ≡ xs ++ joins a (m ∷ [])
appended_last [] a m = refl
appended_last (b ∷ []) a m = refl
appended_last (b ∷ c ∷ xs) a m = ap (λ ys. b ∷ ys) (appended_last (c ∷ xs) a m)

joins_to_other : (a m : Re) → IsOther m → joins a (m ∷ []) ≡ a ∷ m ∷ []
joins_to_other (literal bs) (literal cs) h = absurd (h cs refl)
joins_to_other (literal bs) m h = refl
joins_to_other a m h = refl

joins_other : (a : Re) (xs : List Re) → IsOther a → joins a xs ≡ a ∷ xs
joins_other (literal bs) xs h = absurd (h bs refl)
joins_other a xs h = refl

appended_other : (xs : List Re) (m : Re) → IsOther m → appended xs m ≡ xs ++ m ∷ []
appended_other [] m h = refl
appended_other (a ∷ []) m h = joins_to_other a m h
appended_other (a ∷ b ∷ xs) m h = ap (λ ys. a ∷ ys) (appended_other (b ∷ xs) m h)

-- the first member
pub join_first : (xs : List Re) (m : Re) → [] ≡ joined xs → m ∷ [] ≡ joined (xs ++ m ∷ [])
join_first xs m e = ap (λ ys. appended ys m) e ∙ sym (joined_push xs m)

-- a literal behind a literal
pub join_literals : (xs ys : List Re) (bs cs : List ℕ) → ys ++ literal bs ∷ [] ≡ joined xs →
    ys ++ literal (bs ++ cs) ∷ [] ≡ joined (xs ++ literal cs ∷ [])
join_literals xs ys bs cs e =
    sym (appended_last ys (literal bs) (literal cs)) ∙ ap (λ zs. appended zs (literal cs)) e ∙ sym (joined_push xs (literal cs))

-- a member behind one that is no literal
pub join_behind_other : (xs ys : List Re) (a m : Re) → IsOther a → ys ++ a ∷ [] ≡ joined xs →
    (ys ++ a ∷ []) ++ m ∷ [] ≡ joined (xs ++ m ∷ [])
join_behind_other xs ys a m h e =
    append_assoc ys (a ∷ []) (m ∷ []) ∙ ap (λ zs. ys ++ zs) (sym (joins_other a (m ∷ []) h)) ∙ sym (appended_last ys a m)
    ∙ ap (λ zs. appended zs m) e ∙ sym (joined_push xs m)

-- a member that is no literal
pub join_other : (xs ys : List Re) (m : Re) → IsOther m → ys ≡ joined xs → ys ++ m ∷ [] ≡ joined (xs ++ m ∷ [])
join_other xs ys m h e = sym (appended_other ys m h) ∙ ap (λ zs. appended zs m) e ∙ sym (joined_push xs m)

class_other : (c : Class) → IsOther (class_meaning c)
class_other (Unicode rs) = λ bs e. cc
class_other (Bytes rs) = λ bs e. cc

cat_other : (xs : List Re) → IsOther (cat_all xs)
cat_other [] = λ bs e. cc
cat_other (x ∷ xs) = λ bs e. cc

alt_other : (xs : List Re) → IsOther (alt_all xs)
alt_other [] = λ bs e. cc
alt_other (x ∷ xs) = λ bs e. cc

other : (k : HirKind) → IsNode k → ((bytes : Vec ℕ Global) → k ≢ HirKind.Literal bytes) → IsOther (kind_meaning k)
other k is_Empty h = λ bs e. let f = sym kind_Empty ∙ e in cc
other k (is_Literal bytes) h = absurd (h bytes refl)
other k (is_Class c) h = λ bs e. class_other c bs (sym (kind_Class c) ∙ e)
other k (is_Look l) h = λ bs e. let f = sym (kind_Look l) ∙ e in cc
other k (is_Repetition r) h = λ bs e. let f = sym (meaning_of_repetition r) ∙ sym (kind_Repetition r) ∙ e in cc
other k (is_Capture c) h = λ bs e. let f = sym (meaning_of_capture c) ∙ sym (kind_Capture c) ∙ e in cc
other k (is_Concat subs) h = λ bs e. cat_other (map meaning subs.items) bs (sym (kind_Concat subs) ∙ e)
other k (is_Alternation subs) h = λ bs e. alt_other (map meaning subs.items) bs (sym (kind_Alternation subs) ∙ e)

-- a node that is no literal means none
pub node_other : (k : HirKind) → ((bytes : Vec ℕ Global) → k ≢ HirKind.Literal bytes) → IsOther (kind_meaning k)
node_other k h = other k (is_node k) h

rest_of_cat : (xs : List Re) → cat_rest (cat_all xs) ≡ xs
rest_of_cat [] = refl
rest_of_cat (x ∷ xs) = ap (λ ys. x ∷ ys) (rest_of_cat xs)

-- a concatenation gives its members
pub members_of_cat : (xs : List Re) → cat_members (cat_all xs) ≡ xs
members_of_cat [] = refl
members_of_cat (x ∷ xs) = ap (λ ys. x ∷ ys) (rest_of_cat xs)

class_alone : (c : Class) → cat_members (class_meaning c) ≡ class_meaning c ∷ []
class_alone (Unicode rs) = refl
class_alone (Bytes rs) = refl

alt_alone : (xs : List Re) → cat_members (alt_all xs) ≡ alt_all xs ∷ []
alt_alone [] = refl
alt_alone (x ∷ xs) = refl

alone : (k : HirKind) → IsNode k → (k ≢ HirKind.Empty) → ((subs : Vec Hir Global) → k ≢ HirKind.Concat subs) →
    cat_members (kind_meaning k) ≡ kind_meaning k ∷ []
alone k is_Empty h g = absurd (h refl)
alone k (is_Literal bytes) h g = rw (kind_Literal bytes) refl
alone k (is_Class c) h g = rw (kind_Class c) (class_alone c)
alone k (is_Look l) h g = rw (kind_Look l) refl
alone k (is_Repetition r) h g = rw (kind_Repetition r, meaning_of_repetition r) refl
alone k (is_Capture c) h g = rw (kind_Capture c, meaning_of_capture c) refl
alone k (is_Concat subs) h g = absurd (g subs refl)
alone k (is_Alternation subs) h g = rw (kind_Alternation subs) (alt_alone (map meaning subs.items))

-- any other node stands for itself
pub node_alone : (k : HirKind) → (k ≢ HirKind.Empty) → ((subs : Vec Hir Global) → k ≢ HirKind.Concat subs) →
    cat_members (kind_meaning k) ≡ kind_meaning k ∷ []
node_alone k h g = alone k (is_node k) h g

rest_of_alt : (xs : List Re) → alt_rest (alt_all xs) ≡ xs
rest_of_alt [] = refl
rest_of_alt (x ∷ xs) = ap (λ ys. x ∷ ys) (rest_of_alt xs)

-- an alternation gives its members
pub members_of_alt : (xs : List Re) → alt_members (alt_all xs) ≡ xs
members_of_alt [] = refl
members_of_alt (x ∷ xs) = ap (λ ys. x ∷ ys) (rest_of_alt xs)

class_single : (c : Class) → alt_members (class_meaning c) ≡ class_meaning c ∷ []
class_single (Unicode rs) = refl
class_single (Bytes rs) = refl

cat_single : (xs : List Re) → alt_members (cat_all xs) ≡ cat_all xs ∷ []
cat_single [] = refl
cat_single (x ∷ xs) = refl

single : (k : HirKind) → IsNode k → ((subs : Vec Hir Global) → k ≢ HirKind.Alternation subs) → alt_members (kind_meaning k) ≡ kind_meaning k ∷ []
single k is_Empty h = rw kind_Empty refl
single k (is_Literal bytes) h = rw (kind_Literal bytes) refl
single k (is_Class c) h = rw (kind_Class c) (class_single c)
single k (is_Look l) h = rw (kind_Look l) refl
single k (is_Repetition r) h = rw (kind_Repetition r, meaning_of_repetition r) refl
single k (is_Capture c) h = rw (kind_Capture c, meaning_of_capture c) refl
single k (is_Concat subs) h = rw (kind_Concat subs) (cat_single (map meaning subs.items))
single k (is_Alternation subs) h = absurd (h subs refl)

-- any other node stands for itself
pub node_single : (k : HirKind) → ((subs : Vec Hir Global) → k ≢ HirKind.Alternation subs) → alt_members (kind_meaning k) ≡ kind_meaning k ∷ []
node_single k h = single k (is_node k) h

-- what one pattern more stands for
pub flat_push : (f : Re → List Re) (hs : List Hir) (h : Hir) (old new : List Re) → new ≡ old ++ f (meaning h) → old ≡ flat_map f (map meaning hs) →
    new ≡ flat_map f (map meaning (hs ++ h ∷ []))
flat_push f hs h old new e g =
    e ∙ ap (λ xs. xs ++ f (meaning h)) g
    ∙ ap (λ xs. flat_map f (map meaning hs) ++ xs) (sym (append-nil (f (meaning h))))
    ∙ sym (ap (flat_map f) (map-append meaning hs (h ∷ [])) ∙ flat_map-append f (map meaning hs) (meaning h ∷ []))

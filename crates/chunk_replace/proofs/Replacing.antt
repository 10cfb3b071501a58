-- The bytes for the items of a template.
use Rattle.std.proofs.Common.{◌≡◌, ◌∙◌, ℕ, ◌+◌, ◌<◌, List, [], ◌∷◌, ◌++◌, length, map, take, drop, Option, ap, subst, sym, refl, append-nil, get_or, add-one, take-append-drop}
use Rattle.std.specs.Borrow.{Bor}
use Rattle.std.specs.List.{flat_map}
use Rattle.std.specs.Io.KnownBytes.{Appends}
use Rattle.std.proofs.Math.Seq.{take-suc}
use Rattle.std.proofs.lemmas.Grind.{flat_map-append}
use Rattle.rc_text.specs.declared.types.Span.{Span}
use Rattle.rc_captures.specs.Captures.{group_span, named_span}
use Rattle.rc_captures.specs.declared.captures.Captures.{Captures}
use Rattle.chunk_replace.specs.declared.template.Part.{Part}
use Rattle.chunk_replace.specs.declared.template.Part.TheVariants.{Literal, Group, Name}
use Rattle.chunk_replace.specs.Template.{byte, items_of}
use Rattle.regex_cursor.specs.Put.{AppendsBeginning}
use Rattle.chunk_replace.specs.Spans.{bytes_in}
use Rattle.chunk_replace.specs.Told.{told, told_part, told_parts}
use Rattle.regex_cursor.proofs.Grown.{Appends-trans}
use Rattle.regex_cursor.proofs.Puts.{begun_less, begun_more}

told_bytes : (content : List ℕ) (caps : Captures) (text : List ℕ) → text ≡ flat_map (told content caps) (map byte text)
told_bytes content caps [] = refl
told_bytes content caps (b ∷ text) = ap (λ l. b ∷ l) (told_bytes content caps text)

-- text stands for itself
pub told_literal : (content : List ℕ) (caps : Captures) (p : Part) (text : Bor (List ℕ)) (bytes : List ℕ) → p ≡ Literal text → bytes ≡ text.now →
    bytes ≡ told_part content caps p
told_literal content caps p text bytes is e = e ∙ told_bytes content caps text.now ∙ ap (told_part content caps) (sym is)

-- a group for its bytes
pub told_group : (content : List ℕ) (caps : Captures) (p : Part) (n : ℕ) (o : Option Span) → p ≡ Group n → o ≡ group_span caps n →
    bytes_in content o ≡ told_part content caps p
told_group content caps p n o is e =
    ap (bytes_in content) e ∙ sym (append-nil (bytes_in content (group_span caps n))) ∙ ap (told_part content caps) (sym is)

pub told_name : (content : List ℕ) (caps : Captures) (p : Part) (name : Bor (List ℕ)) (o : Option Span) → p ≡ Name name → o ≡ named_span caps name.now →
    bytes_in content o ≡ told_part content caps p
told_name content caps p name o is e =
    ap (bytes_in content) e ∙ sym (append-nil (bytes_in content (named_span caps name.now))) ∙ ap (told_part content caps) (sym is)

told_append : (content : List ℕ) (caps : Captures) (ps qs : List Part) → told_parts content caps (ps ++ qs) ≡ told_parts content caps ps ++ told_parts content caps qs
told_append content caps ps qs =
    ap (flat_map (told content caps)) (flat_map-append items_of ps qs) ∙ flat_map-append (told content caps) (flat_map items_of ps) (flat_map items_of qs)

told_one : (content : List ℕ) (caps : Captures) (p : Part) → told_parts content caps (p ∷ []) ≡ told_part content caps p
told_one content caps p = ap (flat_map (told content caps)) (append-nil (items_of p))

told_more : (content : List ℕ) (caps : Captures) (ps : List Part) (i : ℕ) (p : Part) → i < length ps →
    told_parts content caps (take (i + 1) ps) ≡ told_parts content caps (take i ps) ++ told_part content caps (get_or ps i p)
told_more content caps ps i p l =
    ap (told_parts content caps) (ap (λ n. take n ps) (add-one i) ∙ take-suc ps i p l)
    ∙ told_append content caps (take i ps) (get_or ps i p ∷ [])
    ∙ ap (λ l. told_parts content caps (take i ps) ++ l) (told_one content caps (get_or ps i p))

-- one part more was put
pub parts_more : (content other : List ℕ) (caps : Captures) (ps : List Part) (i : ℕ) (p : Part) (a b c : Option (List ℕ)) → i < length ps → other ≡ content →
    Appends a b (told_parts content caps (take i ps)) → Appends b c (told_part other caps (get_or ps i p)) → Appends a c (told_parts content caps (take (i + 1) ps))
parts_more content other caps ps i p a b c l o f q =
    subst (Appends a c) (sym (told_more content caps ps i p l))
    (Appends-trans a b c (told_parts content caps (take i ps)) (told_part content caps (get_or ps i p)) f
    (subst (λ x. Appends b c (told_part x caps (get_or ps i p))) o q))

-- a beginning of one
pub parts_begun : (content other : List ℕ) (caps : Captures) (ps : List Part) (i : ℕ) (p : Part) (a b c : Option (List ℕ)) → i < length ps → other ≡ content →
    Appends a b (told_parts content caps (take i ps)) → AppendsBeginning b c (told_part other caps (get_or ps i p)) →
    AppendsBeginning a c (told_parts content caps ps)
parts_begun content other caps ps i p a b c l o f q =
    let upto = told_parts content caps (take i ps) in
    let one = told_part content caps (get_or ps i p) in
    let rest = told_parts content caps (drop (i + 1) ps) in
    let whole : (upto ++ one) ++ rest ≡ told_parts content caps ps =
    ap (λ l. l ++ rest) (sym (told_more content caps ps i p l)) ∙ sym (told_append content caps (take (i + 1) ps) (drop (i + 1) ps))
    ∙ ap (told_parts content caps) (take-append-drop (i + 1) ps) in
    subst (AppendsBeginning a c) whole
    (begun_less a c (upto ++ one) rest (begun_more a b c upto one f (subst (λ x. AppendsBeginning b c (told_part x caps (get_or ps i p))) o q)))

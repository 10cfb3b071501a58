-- The slots that links name.
use Rattle.std.proofs.Common.{◌≡◌, ℕ, zero, suc, ◌-◌, ◌<◌, Bool, true, false, ◌||◌, List, [], ◌∷◌, ◌++◌, length, Option, Some, None, slice_get, slice_set, slice_index_or, if◌then◌else◌, get_or-set_same, get_or-set_other, length-set, eq-eqb, ne_eqb, sym, subst, ap, ◌∙◌, refl, arith, ⊎_elim}
use Rattle.std.proofs.lemmas.Bool.{cases_eq}
use Rattle.std.proofs.lemmas.Option.{none-some, same_Some, slice_get_within}
use Rattle.rc_onepass.specs.Rows.{GrowsLinks, Names, none, one}
use Rattle.rc_onepass.specs.Walked.{Marks, has}
use Rattle.rc_onepass.specs.declared.row.Link.{Link}

pub get_pushed : {X : Type 0} (xs : List X) (x : X) → slice_get (xs ++ x ∷ []) (length xs) ≡ Some x
get_pushed [] x = refl
get_pushed (y ∷ xs) x = get_pushed xs x

pub names_grow : (xs ys : List Link) → GrowsLinks xs ys → {j : ℕ} {ks : List ℕ} → Names xs j ks → Names ys j ks
names_grow xs ys grows none = none
names_grow xs ys grows (one i link at lt rest) = one i link (grows i link at) lt (names_grow xs ys grows rest)

names_within : (xs : List Link) {j : ℕ} {ks : List ℕ} → Names xs j ks → j < suc (length xs)
names_within xs none = omega arith
names_within xs (one i link at lt rest) = let l = slice_get_within xs i link at in omega (arith, l)

pub get_kept : {X : Type 0} (xs ys : List X) (i : ℕ) (x : X) → slice_get xs i ≡ Some x → slice_get (xs ++ ys) i ≡ Some x
get_kept [] ys i x e = absurd (none-some x e)
get_kept (y ∷ xs) ys zero x e = e
get_kept (y ∷ xs) ys (suc i) x e = get_kept xs ys i x e

length_pushed : {X : Type 0} (xs : List X) (x : X) → length (xs ++ x ∷ []) ≡ suc (length xs)
length_pushed [] x = refl
length_pushed (y ∷ xs) x = ap suc (length_pushed xs x)

-- one more link in front
pub link_named : (xs ys : List Link) (link : Link) (len : ℕ) (ks : List ℕ) → ys ≡ xs ++ link ∷ [] → len ≡ length ys →
    Names xs link.before ks → Names ys len (link.slot ∷ ks)
link_named xs ys link len ks e long names =
    let l = names_within xs names in
    let grows : GrowsLinks xs ys = λ i k at. subst (λ zs. slice_get zs i ≡ Some k) (sym e) (get_kept xs (link ∷ []) i k at) in
    subst (λ n. Names ys n (link.slot ∷ ks)) (sym (long ∙ ap (λ zs. length zs) e ∙ length_pushed xs link))
    (one (length xs) link (ap (λ zs. slice_get zs (length xs)) e ∙ get_pushed xs link) l (names_grow xs ys grows names))

-- What is left to set, where the slots from this link on are.
pub record Left (links : List Link) (number at : ℕ) (ks : List ℕ) (before now : List (Option ℕ)) : Type 0 where
  pub slots : List ℕ
  pub names : Names links number slots
  pub marks : (after : List (Option ℕ)) → Marks slots at now after → Marks ks at before after

pub left_all : (links : List Link) (number at : ℕ) (ks : List ℕ) (before : List (Option ℕ)) → Names links number ks → Left links number at ks before before
left_all links number at ks before names = record { slots = ks; names = names; marks = λ after m. m }

marks_same : (at : ℕ) (now : List (Option ℕ)) → Marks [] at now now
marks_same at now = record { long = refl; marked = λ k l. refl }

end_named : (links : List Link) (number : ℕ) (ks : List ℕ) → number ≡ 0 → Names links number ks → ks ≡ []
end_named links number ks e none = refl
end_named links number ks e (one i link at lt rest) = absurd (omega (arith, e))

-- nothing is left
pub left_none : (links : List Link) (number at : ℕ) (ks : List ℕ) (before now : List (Option ℕ)) → number ≡ 0 → Left links number at ks before now →
    Marks ks at before now
left_none links number at ks before now e l =
    l.marks now (subst (λ js. Marks js at now now) (sym (end_named links number l.slots e l.names)) (marks_same at now))

-- the link of a number that isn't 0
pub left_there : (links : List Link) (number at : ℕ) (ks : List ℕ) (before now : List (Option ℕ)) → 0 < number → Left links number at ks before now →
    (link : Link) × (slice_get links (number - 1) ≡ Some link) × (link.before < number)
left_there links number at ks before now pos l = there number l.slots pos l.names
  where
    there : (number : ℕ) (js : List ℕ) → 0 < number → Names links number js → (link : Link) × (slice_get links (number - 1) ≡ Some link) × (link.before < number)
    there number js pos none = absurd (omega (arith, pos))
    there number js pos (one i link at lt rest) = let same : i ≡ suc i - 1 = omega arith in (link, subst (λ k. slice_get links k ≡ Some link) same at, lt)

same_branches : {X : Type 0} (c : Bool) (x y : X) → y ≡ x → (if c then x else y) ≡ x
same_branches true x y e = refl
same_branches false x y e = e

set_or_past : (xs : List (Option ℕ)) (j : ℕ) (x : Option ℕ) → j < length xs → slice_index_or (slice_set xs j x) j None ≡ x
set_or_past xs j x l = get_or-set_same xs j x None l

-- the slot in front is set
marks_more : (j : ℕ) (ks : List ℕ) (at : ℕ) (now after final : List (Option ℕ)) → after ≡ slice_set now j (Some at) → Marks ks at after final →
    Marks (j ∷ ks) at now final
marks_more j ks at now after final e m =
    let wide : length after ≡ length now = ap (λ xs. length xs) e ∙ length-set now j (Some at) in
    record {
      long = m.long ∙ wide;
      marked = λ k l. ⊎_elim
          (λ q. m.marked k (omega (arith, l, wide))
          ∙ same_branches (has ks k) (Some at) (slice_index_or after k None)
          (ap (λ xs. slice_index_or xs k None) e ∙ subst (λ i. slice_index_or (slice_set now j (Some at)) i None ≡ Some at) q (set_or_past now j (Some at) (omega (arith, q, l))))
          ∙ ap (λ b. if b || has ks k then Some at else slice_index_or now k None) (sym (eq-eqb j k q)))
          (λ ne. m.marked k (omega (arith, l, wide))
          ∙ ap (λ y. if has ks k then Some at else y) (ap (λ xs. slice_index_or xs k None) e ∙ get_or-set_other now j k (Some at) None (λ q. ne (sym q)))
          ∙ ap (λ b. if b || has ks k then Some at else slice_index_or now k None) (sym (ne_eqb j k ne)))
          (cases_eq j k);
    }

-- one slot is set
pub left_turn : (links : List Link) (number at : ℕ) (ks : List ℕ) (before now after : List (Option ℕ)) (link : Link) → 0 < number →
    slice_get links (number - 1) ≡ Some link → after ≡ slice_set now link.slot (Some at) → Left links number at ks before now → Left links link.before at ks before after
left_turn links number at ks before now after link pos there e l = turn number l.slots pos there l.names l.marks
  where
    turn : (number : ℕ) (js : List ℕ) → 0 < number → slice_get links (number - 1) ≡ Some link → Names links number js →
        ((after : List (Option ℕ)) → Marks js at now after → Marks ks at before after) → Left links link.before at ks before after
    turn number js pos there none marks = absurd (omega (arith, pos))
    turn number js pos there (one {ks = rest} i first here lt names) marks =
        let back : suc i - 1 ≡ i = omega arith in
        let same : first ≡ link = same_Some first link (sym here ∙ subst (λ k. slice_get links k ≡ Some link) back there) in
        record {
          slots = rest;
          names = subst (λ (f : Link). Names links f.before rest) same names;
          marks = λ final m. marks final (subst (λ (f : Link). Marks (f.slot ∷ rest) at now final) (sym same) (marks_more link.slot rest at now after final e m));
        }

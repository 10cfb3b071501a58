-- Groups, and lists of groups with marks between them.
use Rattle.std.proofs.Common.{◌≡◌, ◌≢◌, ℕ, zero, suc, ◌+◌, ◌-◌, ◌<◌, ◌≤◌, Some, drop, get_or, slice_get, slice_range, List, [], ◌∷◌, ◌++◌, length, inl, inr, ⊎_elim, sym, subst, ap, ◌∙◌, refl, arith, append_assoc, ne_eqb, eq-eqb}
use Rattle.std.proofs.lemmas.List.{append-nil, take-append-drop, drop-drop, drop_more, take_rest, drop_all}
use Rattle.rc_text.proofs.Ranges.{slice_range-add_one}
use Rattle.rc_determinize.specs.Steps.{HasPlace, AreBelow}
use Rattle.rc_determinize.specs.Longest.{put, groups_of, joined, parted, flat, AddsGroups, all_added, adds}
use Rattle.rc_determinize.specs.Machine.{with_group}
use Rattle.rc_determinize.proofs.MachineLemmas.{has_parts}
use Rattle.rc_determinize.specs.LongestLaws.{Held, held, AreHeldBelow}

-- those that hold places
abbrev pub full : List (List ℕ) → List (List ℕ)
full [] = []
full ([] ∷ gs) = full gs
full ((q ∷ g) ∷ gs) = (q ∷ g) ∷ full gs

pub full_append : (xs ys : List (List ℕ)) → full (xs ++ ys) ≡ full xs ++ full ys
full_append [] ys = refl
full_append ([] ∷ xs) ys = full_append xs ys
full_append ((q ∷ g) ∷ xs) ys = ap (λ z. (q ∷ g) ∷ z) (full_append xs ys)

pub parted_full : (mark : ℕ) (gs : List (List ℕ)) → parted mark gs ≡ parted mark (full gs)
parted_full mark [] = refl
parted_full mark ([] ∷ gs) = parted_full mark gs
parted_full mark ((q ∷ g) ∷ gs) = ap (λ z. joined mark (q ∷ g) z) (parted_full mark gs)

-- the list tells the groups that hold places alone
pub parted_same : (mark : ℕ) (xs ys : List (List ℕ)) → full xs ≡ full ys → parted mark xs ≡ parted mark ys
parted_same mark xs ys e = parted_full mark xs ∙ ap (λ z. parted mark z) e ∙ sym (parted_full mark ys)

-- none of them is the mark
abbrev pub AreOther : ℕ → List ℕ → Type 0
AreOther mark qs = (q : ℕ) → HasPlace q qs → q ≢ mark

others : (mark : ℕ) (qs : List ℕ) → AreBelow mark qs → AreOther mark qs
others mark qs b q h = λ e. let l = b q h in omega (arith, l, e)

one_place : (mark q : ℕ) (qs : List ℕ) → q ≢ mark → groups_of mark (q ∷ qs) ≡ put q (groups_of mark qs)
one_place mark q qs ne = rw (ne_eqb q mark ne) refl

one_mark : (mark : ℕ) (qs : List ℕ) → groups_of mark (mark ∷ qs) ≡ [] ∷ groups_of mark qs
one_mark mark qs = rw (eq-eqb mark mark refl) refl

alone : (mark q : ℕ) (g : List ℕ) → AreOther mark (q ∷ g) → groups_of mark (q ∷ g) ≡ (q ∷ g) ∷ []
alone mark q [] b = one_place mark q [] (b q (inl refl))
alone mark q (p ∷ g) b =
    one_place mark q (p ∷ g) (b q (inl refl)) ∙ ap (λ z. put q z) (alone mark p g (λ k h. b k (inr h)))

before_mark : (mark : ℕ) (g rest : List ℕ) → AreOther mark g → groups_of mark (g ++ mark ∷ rest) ≡ g ∷ groups_of mark rest
before_mark mark [] rest b = one_mark mark rest
before_mark mark (q ∷ g) rest b =
    one_place mark q (g ++ mark ∷ rest) (b q (inl refl)) ∙ ap (λ z. put q z) (before_mark mark g rest (λ k h. b k (inr h)))

-- where a group ends
pub group_before : (mark : ℕ) (list : List ℕ) (from end d : ℕ) → from ≤ end → end < length list → AreOther mark (slice_range list from end) →
    get_or list end d ≡ mark → groups_of mark (drop from list) ≡ slice_range list from end ∷ groups_of mark (drop (end + 1) list)
group_before mark list from end d le lt other is =
    let split : drop from list ≡ slice_range list from end ++ drop (end - from) (drop from list) = sym (take-append-drop (end - from) (drop from list)) in
    let e : from + (end - from) ≡ end = omega (arith, le) in
    let behind : drop (end - from) (drop from list) ≡ mark ∷ drop (end + 1) list =
    drop-drop (end - from) from list ∙ ap (λ k. drop k list) e ∙ drop_more list end d lt ∙ ap (λ k. k ∷ drop (end + 1) list) is in
    ap (λ z. groups_of mark z) (split ∙ ap (λ z. slice_range list from end ++ z) behind)
    ∙ before_mark mark (slice_range list from end) (drop (end + 1) list) other

pub last_group : (mark : ℕ) (list : List ℕ) (from : ℕ) → from < length list → AreOther mark (slice_range list from (length list)) →
    groups_of mark (drop from list) ≡ slice_range list from (length list) ∷ groups_of mark (drop (length list + 1) list)
last_group mark list from lt other =
    let all : slice_range list from (length list) ≡ drop from list = take_rest list from in
    let first = drop_more list from 0 lt in
    ap (λ z. groups_of mark z) first
    ∙ alone mark (get_or list from 0) (drop (from + 1) list) (λ q h. other q (subst (λ z. HasPlace q z) (sym (all ∙ first)) h))
    ∙ ap (λ z. z ∷ []) (sym (all ∙ first))
    ∙ ap (λ z. slice_range list from (length list) ∷ groups_of mark z) (sym (drop_all (length list + 1) list (omega arith)))

-- one entry more that isn't the mark
pub other_more : (mark : ℕ) (list : List ℕ) (from i : ℕ) → from ≤ i → i < length list → get_or list i 0 ≢ mark → AreOther mark (slice_range list from i) →
    AreOther mark (slice_range list from (i + 1))
other_more mark list from i le lt ne other q h =
    ⊎_elim (λ a. other q a) (λ z. ⊎_elim (λ e. subst (λ x. x ≢ mark) e ne) (λ never. absurd never) z)
    (has_parts q (slice_range list from i) (get_or list i 0 ∷ []) (subst (λ z. HasPlace q z) (slice_range-add_one list from i (get_or list i 0) le (at list i lt)) h))
  where
    at : (list : List ℕ) (i : ℕ) → i < length list → slice_get list i ≡ Some (get_or list i 0)
    at [] i lt = absurd (omega (arith, lt))
    at (x ∷ list) zero lt = refl
    at (x ∷ list) (suc i) lt = at list i (omega (arith, lt))

join_tells : (mark q : ℕ) (g rest : List ℕ) (more : List (List ℕ)) → AreBelow mark (q ∷ g) → groups_of mark rest ≡ more →
    groups_of mark (joined mark (q ∷ g) rest) ≡ (q ∷ g) ∷ more
join_tells mark q g [] more b e = alone mark q g (others mark (q ∷ g) b) ∙ ap (λ z. (q ∷ g) ∷ z) e
join_tells mark q g (p ∷ rest) more b e = before_mark mark (q ∷ g) (p ∷ rest) (others mark (q ∷ g) b) ∙ ap (λ z. (q ∷ g) ∷ z) e

-- what lies between the marks are the groups
pub groups_parted : (mark : ℕ) (hs : List Held) → AreHeldBelow mark hs → groups_of mark (parted mark (held hs)) ≡ full (held hs)
groups_parted mark [] b = refl
groups_parted mark ((n, []) ∷ hs) b = groups_parted mark hs b.1
groups_parted mark ((n, q ∷ g) ∷ hs) b = join_tells mark q g (parted mark (held hs)) (full (held hs)) b.0 (groups_parted mark hs b.1)

pub nothing_held : (mark : ℕ) (gs : List (List ℕ)) → parted mark gs ≡ [] → flat gs ≡ []
nothing_held mark [] e = refl
nothing_held mark ([] ∷ gs) e = nothing_held mark gs e
nothing_held mark ((q ∷ g) ∷ gs) e = absurd (some q g (parted mark gs) e)
  where
    some : (q : ℕ) (g rest : List ℕ) → joined mark (q ∷ g) rest ≡ [] → ⊥
    some q g [] e = let l : length (q ∷ g) ≡ 0 = ap (λ z. length z) e in omega (arith, l)
    some q g (p ∷ rest) e = let l : length (q ∷ (g ++ mark ∷ p ∷ rest)) ≡ 0 = ap (λ z. length z) e in omega (arith, l)

-- a list of one place
pub one_held : (mark root : ℕ) (gs : List (List ℕ)) → parted mark gs ≡ root ∷ [] → flat gs ≡ root ∷ []
one_held mark root [] e = e
one_held mark root ([] ∷ gs) e = one_held mark root gs e
one_held mark root ((q ∷ g) ∷ gs) e = first (parted mark gs) refl e
  where
    first : (rest : List ℕ) → parted mark gs ≡ rest → joined mark (q ∷ g) rest ≡ root ∷ [] → (q ∷ g) ++ flat gs ≡ root ∷ []
    first [] d e = ap (λ z. (q ∷ g) ++ z) (nothing_held mark gs d) ∙ append-nil (q ∷ g) ∙ e
    first (p ∷ rest) d e = absurd (long g (ap (λ z. length z) e))
      where
        long : (g : List ℕ) → length (q ∷ (g ++ mark ∷ p ∷ rest)) ≡ 1 → ⊥
        long [] l = omega (arith, l)
        long (x ∷ g) l = omega (arith, l)

-- of groups one behind the other, what is added to the one and then to the other
pub adds_parts : {listed : List ℕ} (xs : List (List ℕ)) {ys new : List (List ℕ)} → AddsGroups listed (xs ++ ys) new →
    (first : List (List ℕ)) × (second : List (List ℕ)) × (new ≡ first ++ second) × AddsGroups listed xs first × AddsGroups (listed ++ flat first) ys second
adds_parts {listed} [] {ys} {new} a = ([], new, refl, all_added, subst (λ z. AddsGroups z ys new) (sym (append-nil listed)) a)
adds_parts {listed} (x ∷ xs) {ys} (adds {own = own} {new = new} one a) =
    let r = adds_parts xs a in (
      own ∷ r.0,
      r.1,
      ap (λ z. own ∷ z) r.2,
      adds one r.3,
      subst (λ z. AddsGroups z ys r.1) (append_assoc listed own (flat r.0)) r.4,
    )

-- the last group is put behind the others
pub parted_more : (mark : ℕ) (gs : List (List ℕ)) (g : List ℕ) → parted mark (gs ++ g ∷ []) ≡ with_group mark (parted mark gs) g
parted_more mark [] [] = refl
parted_more mark [] (q ∷ g) = refl
parted_more mark ([] ∷ gs) g = parted_more mark gs g
parted_more mark ((x ∷ xs) ∷ gs) g = ap (λ z. joined mark (x ∷ xs) z) (parted_more mark gs g) ∙ behind (parted mark gs) g
  where
    behind : (rest g : List ℕ) → joined mark (x ∷ xs) (with_group mark rest g) ≡ with_group mark (joined mark (x ∷ xs) rest) g
    behind [] [] = refl
    behind [] (q ∷ g) = refl
    behind (p ∷ rest) [] = refl
    behind (p ∷ rest) (q ∷ g) = ap (λ z. x ∷ z) (sym (append_assoc xs (mark ∷ p ∷ rest) (mark ∷ q ∷ g)))

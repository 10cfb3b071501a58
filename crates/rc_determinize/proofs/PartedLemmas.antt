-- The loop that closes over the groups of a list in turn.
use Rattle.std.proofs.Common.{◌≡◌, ℕ, zero, suc, ◌+◌, ◌≤◌, List, [], ◌∷◌, ◌++◌, map, length, drop, Option, Some, None, is_some, is_none, ◌&&◌, Bool, true, false, true≢false, ⊎_elim, inl, inr, take, slice_range, ◌≢◌, ◌-◌, sym, subst, ap, ap₂, ◌∙◌, refl, arith, append_assoc}
use Rattle.std.proofs.lemmas.List.{append-nil, length-append, drop_at, drop_all}
use Rattle.rc_program.specs.Program.{Place, Way, stays}
use Rattle.rc_determinize.specs.Sparse.{Members}
use Rattle.rc_determinize.specs.Steps.{HasPlace, AreBelow, Adds, all_added, adds_one, leaves_out}
use Rattle.rc_determinize.specs.declared.sides.Sides.{Sides}
use Rattle.rc_determinize.specs.Sides.{out_over}
use Rattle.rc_determinize.specs.States.{State, is_match, root_if}
use Rattle.rc_determinize.specs.Longest.{groups_of, parted, flat, Closes, GroupSteps, over, goes, stops, AddsGroups, all_added as none_added, adds, root_group, IsNextOfLongestOver}
use Rattle.rc_determinize.specs.Machine.{add_all, HaveSame, IsShut, with_group, IsParted}
use Rattle.rc_determinize.proofs.OpenLemmas.{add_adds}
use Rattle.rc_determinize.proofs.GroupLemmas.{parted_more}
use Rattle.rc_determinize.proofs.LongestLemmas.{flat_append}

-- what is added stands behind the list
adds_behind : {list qs new : List ℕ} → Adds list qs new → (own : List ℕ) × (new ≡ list ++ own)
adds_behind {list} all_added = ([], sym (append-nil list))
adds_behind (adds_one {list} q fresh a) =
    let r = adds_behind a in (q ∷ r.0, r.1 ∙ append_assoc list (q ∷ []) r.0)
adds_behind (leaves_out q old a) = adds_behind a

groups_then : {listed : List ℕ} {xs new : List (List ℕ)} → AddsGroups listed xs new → {ys more : List (List ℕ)} → AddsGroups (listed ++ flat new) ys more →
    AddsGroups listed (xs ++ ys) (new ++ more)
groups_then {listed} none_added {ys} {more} b = subst (λ z. AddsGroups z ys more) (append-nil listed) b
groups_then {listed} (adds {own = own} {new = new} one a) {ys} {more} b =
    adds one (groups_then a (subst (λ z. AddsGroups z ys more) (sym (append_assoc listed own (flat new))) b))

take_has : (q k : ℕ) (xs : List ℕ) → HasPlace q (take k xs) → HasPlace q xs
take_has q zero xs h = absurd h
take_has q (suc k) [] h = h
take_has q (suc k) (x ∷ xs) h = ⊎_elim (λ e. inl e) (λ z. inr (take_has q k xs z)) h

drop_has : (q k : ℕ) (xs : List ℕ) → HasPlace q (drop k xs) → HasPlace q xs
drop_has q zero xs h = h
drop_has q (suc k) [] h = h
drop_has q (suc k) (x ∷ xs) h = inr (drop_has q k xs h)

-- what lies before a mark are places
pub places_alone : (mark : ℕ) (list : List ℕ) (from end : ℕ) → AreBelow (mark + 1) list → ((q : ℕ) → HasPlace q (slice_range list from end) → q ≢ mark) →
    AreBelow mark (slice_range list from end)
places_alone mark list from end below other q h =
    let a = below q (drop_has q from list (take_has q (end - from) (drop from list) h)) in
    let b = other q h in
    omega (arith, a, b)

module _ (out : ℕ → List Way) (ends : ℕ → Bool) (mark : ℕ) (list : List ℕ) where
  -- Between two groups.
  pub record IsParting (entered listed : Members) (to : List ℕ) (from : ℕ) : Type 0 where
    pub entered_size : entered.capacity ≡ mark
    pub listed_size : listed.capacity ≡ mark
    pub few : length entered.items ≤ mark
    pub visited : List ℕ
    pub same : HaveSame visited entered.items
    pub onward : List (List ℕ)
    pub new : List (List ℕ)
    pub steps : (rest : List (List ℕ)) (matched : Option ℕ) → GroupSteps out ends visited (groups_of mark (drop from list)) rest matched →
        GroupSteps out ends [] (groups_of mark list) (onward ++ rest) matched
    pub once : AddsGroups [] onward new
    pub all : listed.items ≡ flat new
    pub is_list : to ≡ parted mark new

  pub parts_out : (entered listed : Members) (to : List ℕ) → entered ≡ record { capacity = mark; items = [] } → listed ≡ record { capacity = mark; items = [] } →
      to ≡ [] → IsParting entered listed to 0
  parts_out entered listed to e f t = record {
    entered_size = ap (λ (m : Members). m.capacity) e;
    listed_size = ap (λ (m : Members). m.capacity) f;
    few = let z : length entered.items ≡ 0 = ap (λ (m : Members). length m.items) e in omega (arith, z);
    visited = [];
    same = subst (λ z. HaveSame [] z) (sym (ap (λ (m : Members). m.items) e)) (λ q. ((λ h. h), (λ h. h)));
    onward = [];
    new = [];
    steps = λ rest matched g. g;
    once = none_added;
    all = ap (λ (m : Members). m.items) f;
    is_list = t;
  }

  -- no group is left
  pub parted_all : (entered listed : Members) (to : List ℕ) (from : ℕ) → length list ≤ from → IsParting entered listed to from →
      IsParted out ends mark (groups_of mark list) listed.items to None
  parted_all entered listed to from le v =
      let none : groups_of mark (drop from list) ≡ [] = ap (λ z. groups_of mark z) (drop_all from list le) in
      record {
        onward = v.onward ++ [];
        new = v.new;
        steps = v.steps [] None (subst (λ z. GroupSteps out ends v.visited z [] None) (sym none) over);
        once = subst (λ z. AddsGroups [] z v.new) (sym (append-nil v.onward)) v.once;
        all = v.all;
        is_list = v.is_list;
      }

  module _ (entered entered2 listed listed2 : Members) (to to2 : List ℕ) (from end before : ℕ) (group : List ℕ) (matched : Option ℕ)
      (v : IsParting entered listed to from) (split : groups_of mark (drop from list) ≡ group ∷ groups_of mark (drop (end + 1) list))
      (shut : IsShut out ends group entered.items entered2.items listed.items listed2.items matched)
      (count : before ≡ length listed.items) (grown : to2 ≡ with_group mark to (drop before listed2.items)) where
    -- what the group hands on, and which of it is new
    shut_so : (onward : List ℕ) × (own : List ℕ) × (AddsGroups [] (v.onward ++ onward ∷ []) (v.new ++ own ∷ []))
        × (listed2.items ≡ flat (v.new ++ own ∷ [])) × (to2 ≡ parted mark (v.new ++ own ∷ []))
    shut_so =
        let c = shut v.visited v.same in
        let r = adds_behind c.4 in
        let own = r.0 in
        let added : Adds (flat v.new) c.0 (flat v.new ++ own) = subst (λ z. Adds z c.0 (z ++ own)) v.all (subst (λ z. Adds listed.items c.0 z) r.1 c.4) in
        let behind : drop before listed2.items ≡ own = ap (λ z. drop before z) r.1 ∙ drop_at listed.items own before (sym count) in (
          c.0,
          own,
          groups_then v.once (adds added none_added),
          r.1 ∙ ap₂ (λ z w. z ++ w) v.all (sym (append-nil own)) ∙ sym (flat_append v.new (own ∷ [])),
          grown ∙ ap₂ (λ z w. with_group mark z w) v.is_list behind ∙ sym (parted_more mark v.new own),
        )

    -- a match drops the groups behind it
    meets : (e : ℕ) → matched ≡ Some e → IsParted out ends mark (groups_of mark list) listed2.items to2 (Some e)
    unfolding shut_so
    meets e is =
        let c = shut v.visited v.same in
        let s = shut_so in
        record {
          onward = v.onward ++ s.0 ∷ [];
          new = v.new ++ s.1 ∷ [];
          steps = v.steps (c.0 ∷ []) (Some e) (subst (λ z. GroupSteps out ends v.visited z (c.0 ∷ []) (Some e)) (sym split)
              (stops {visited2 = c.1} (subst (λ z. Closes out ends v.visited (map stays group) c.0 z c.1) is c.2)));
          once = s.2;
          all = s.3;
          is_list = s.4;
        }

    pub meets_some : is_some matched ≡ true → IsParted out ends mark (groups_of mark list) listed2.items to2 matched
    meets_some is = by matched refl is
      where
        by : (o : Option ℕ) → matched ≡ o → is_some o ≡ true → IsParted out ends mark (groups_of mark list) listed2.items to2 o
        by None e h = absurd (true≢false (sym h))
        by (Some k) e h = meets k e

    -- what is listed only grows
    pub longer : before ≤ length listed2.items
    longer =
        let c = shut v.visited v.same in
        let r = adds_behind c.4 in
        let l : length listed2.items ≡ length listed.items + length r.0 = ap (λ z. length z) r.1 ∙ length-append listed.items r.0 in
        omega (arith, l, count)

    -- without one the next group follows
    pub parts_on : entered2.capacity ≡ mark → listed2.capacity ≡ mark → length entered2.items ≤ mark → matched ≡ None → IsParting entered2 listed2 to2 (end + 1)
    unfolding shut_so
    parts_on size size2 few is =
        let c = shut v.visited v.same in
        let s = shut_so in
        record {
          entered_size = size;
          listed_size = size2;
          few = few;
          visited = c.1;
          same = c.3;
          onward = v.onward ++ s.0 ∷ [];
          new = v.new ++ s.1 ∷ [];
          steps = λ rest last g. subst (λ z. GroupSteps out ends [] (groups_of mark list) z last) (sym (append_assoc v.onward (c.0 ∷ []) rest))
              (v.steps (c.0 ∷ rest) last (subst (λ z. GroupSteps out ends v.visited z (c.0 ∷ rest) last) (sym split)
              (goes (subst (λ z. Closes out ends v.visited (map stays group) c.0 z c.1) is c.2) g)));
          once = s.2;
          all = s.3;
          is_list = s.4;
        }

-- the start that may join
pub root_joins : (mark root : ℕ) (goes_on : Bool) (onward new : List (List ℕ)) (listed listed2 list list2 : List ℕ) (before : ℕ) → AddsGroups [] onward new →
    listed ≡ flat new → list ≡ parted mark new → listed2 ≡ add_all listed (root_if goes_on root) → before ≡ length listed →
    list2 ≡ with_group mark list (drop before listed2) →
    (groups : List (List ℕ)) × AddsGroups [] (onward ++ root_group goes_on root) groups × (list2 ≡ parted mark groups)
root_joins mark root false onward new listed listed2 list list2 before once all is_list more count grown = (
  new,
  subst (λ z. AddsGroups [] z new) (sym (append-nil onward)) once,
  grown ∙ ap (λ z. with_group mark list z) (drop_all before listed2 (let l : length listed2 ≡ length listed = ap (λ z. length z) more in omega (arith, l, count))) ∙ is_list,
)
root_joins mark root true onward new listed listed2 list list2 before once all is_list more count grown =
    let added : Adds listed (root ∷ []) listed2 = subst (λ z. Adds listed (root ∷ []) z) (sym more) (add_adds listed (root ∷ [])) in
    let r = adds_behind added in
    let own = r.0 in
    let behind : drop before listed2 ≡ own = ap (λ z. drop before z) r.1 ∙ drop_at listed own before (sym count) in (
      new ++ own ∷ [],
      groups_then once (adds (subst (λ z. Adds z (root ∷ []) (z ++ own)) all (subst (λ z. Adds listed (root ∷ []) z) r.1 added)) none_added),
      grown ∙ ap₂ (λ z w. with_group mark z w) is_list behind ∙ sym (parted_more mark new own),
    )

pub not_some : (o : Option ℕ) → is_some o ≡ false → o ≡ None
not_some None e = refl
not_some (Some k) e = absurd (true≢false e)

-- what was closed over, with the start that may join, is the step
pub made : (places : List Place) (root : ℕ) (s : State) (sides : Sides) (t : State) (mark : ℕ) (listed listed2 list : List ℕ) (before : ℕ) → length places ≡ mark →
    IsParted (out_over places s.beside sides) (is_match places) mark (groups_of mark s.list) listed list t.matched →
    t.goes_on ≡ (s.goes_on && is_none t.matched) → listed2 ≡ add_all listed (root_if t.goes_on root) → before ≡ length listed →
    t.list ≡ with_group mark list (drop before listed2) → t.beside ≡ sides.far → IsNextOfLongestOver places root s sides t
made places root s sides t mark listed listed2 list before size p goes_on more count grown beside =
    let back : mark ≡ length places = sym size in
    let joined = root_joins mark root t.goes_on p.onward p.new listed listed2 list t.list before p.once p.all p.is_list more count grown in
    record {
      onward = p.onward;
      groups = joined.0;
      steps = subst (λ m. GroupSteps (out_over places s.beside sides) (is_match places) [] (groups_of m s.list) p.onward t.matched) back p.steps;
      goes_on = goes_on;
      once = joined.1;
      list = joined.2 ∙ ap (λ m. parted m joined.0) back;
      beside = beside;
    }

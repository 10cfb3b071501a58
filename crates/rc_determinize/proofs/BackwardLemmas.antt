-- From a position to the one before.
use Rattle.std.proofs.Common.{◌≡◌, ℕ, zero, suc, ◌+◌, ◌<◌, ◌≤◌, ◌⊎◌, ◌↔◌, List, [], ◌∷◌, map, length, Option, Some, None, Bool, true, false, nat_le, ◌&&◌, if◌then◌else◌, slice_get, inl, inr, ⊎_elim, sym, subst, ap, ap₂, ◌∙◌, refl, arith}
use Rattle.std.proofs.lemmas.Bool.{cases_lt, cases_eq}
use Rattle.std.proofs.lemmas.Option.{same_Some}
use Rattle.rc_walks.specs.Walks.{Pair, IsIn}
use Rattle.rc_pattern.specs.declared.hir.Look.{Look}
use Rattle.rc_program.specs.Text.{Text, holds, before_at, after_at}
use Rattle.rc_program.specs.Program.{Place, choice, byte, branch, scalar, guard, slot, accept, Way, stays, reads, ways_out, in_ranges, branch_ways, pair_at, place_at, ways}
use Rattle.rc_program.proofs.WayLemmas.{same_pair}
use Rattle.rc_utf8.specs.Laws.{IsBytePlace}
use Rattle.rc_determinize.specs.Steps.{HasPlace, ahead_of, still}
use Rattle.rc_determinize.specs.declared.sides.Seen.{Seen}
use Rattle.rc_determinize.specs.Sides.{holds_by, told_side, sides_near, byte_of}
use Rattle.rc_determinize.proofs.Leads as run
use Rattle.rc_determinize.specs.Run as reach
use Rattle.rc_determinize.specs.Run.{IsBackState, IsGoal, Reaches}
use Rattle.rc_determinize.proofs.Leads.{IsLeastStart, Leads}
use Rattle.rc_determinize.specs.States.{Setting, IsSetting, State, Stops, sides_behind}
use Rattle.rc_determinize.specs.Steps.{HasWay}
use Rattle.rc_determinize.specs.Backward.{listed, leads, still_out, LeadsOver, ReadsTo, IsFirstRoot, IsPriorOver, IsLastBeside, IsComing, ReachesEnd, IsLeastSoFar, least_at}
use Rattle.rc_determinize.proofs.SidesLemmas.{still_are, one_byte}
use Rattle.rc_determinize.proofs.RunLemmas.{back_begins, back_decides, back_steps}
use Rattle.rc_determinize.proofs.TextLemmas.{get_some, begins_with, byte_behind, out_here, same_below, same_at_end, near, last}

pub from_map : (i : ℕ) (m : Pair) (ws : List Way) → IsIn m (map (pair_at i) ws) → (w : Way) × HasWay w ws × (pair_at i w ≡ m)
from_map i m [] h = absurd h
from_map i m (w ∷ ws) h =
    ⊎_elim (λ e. (w, inl refl, e)) (λ z. let r = from_map i m ws z in (r.0, inr r.1, r.2)) h

pub to_map : (i : ℕ) (w : Way) (ws : List Way) → HasWay w ws → IsIn (pair_at i w) (map (pair_at i) ws)
to_map i w [] h = absurd h
to_map i w (v ∷ vs) h = ⊎_elim (λ e. inl (ap (λ x. pair_at i x) e)) (λ z. inr (to_map i w vs z)) h

pub still_has : (p : ℕ) (ws : List Way) → HasWay (stays p) (still ws) → HasWay (stays p) ws
still_has p [] h = h
still_has p (stays q ∷ ws) h = ⊎_elim (λ e. inl e) (λ z. inr (still_has p ws z)) h
still_has p (reads n q ∷ ws) h = inr (still_has p ws h)

abbrev stay_of : Way → ℕ
stay_of (stays q) = suc q
stay_of (reads n q) = 0

pub has_still : (p : ℕ) (ws : List Way) → HasWay (stays p) ws → HasWay (stays p) (still ws)
has_still p [] h = h
has_still p (stays q ∷ ws) h = ⊎_elim (λ e. inl e) (λ z. inr (has_still p ws z)) h
has_still p (reads n q ∷ ws) h = ⊎_elim (λ e. let f : 0 ≡ suc p = ap (λ w. stay_of w) e in absurd (omega (arith, f))) (λ z. has_still p ws z) h

-- only ways that read nothing lead to the same position
abbrev pub IsStay : Way → Type 0
IsStay w = (q : ℕ) × (w ≡ stays q)

pub same_position : (i p : ℕ) (ws : List Way) → ((w : Way) → HasWay w ws → IsStay w ⊎ ((q : ℕ) × (w ≡ reads 1 q))) →
    IsIn (p, i) (map (pair_at i) ws) → HasWay (stays p) ws
same_position i p ws each h =
    let r = from_map i (p, i) ws h in
    ⊎_elim
    (λ s. let e : (s.0, i) ≡ (p, i) = subst (λ (w : Way). pair_at i w ≡ (p, i)) s.1 r.2 in
    subst (λ k. HasWay (stays k) ws) (ap (λ (x : Pair). x.0) e) (subst (λ w. HasWay w ws) s.1 r.1))
    (λ s. let e : (s.0, i + 1) ≡ (p, i) = subst (λ (w : Way). pair_at i w ≡ (p, i)) s.1 r.2 in
    let f : i + 1 ≡ i = ap (λ (x : Pair). x.1) e in absurd (omega (arith, f)))
    (each r.0 r.1)

pub next_position : (i p : ℕ) (ws : List Way) → ((w : Way) → HasWay w ws → IsStay w ⊎ ((q : ℕ) × (w ≡ reads 1 q))) →
    IsIn (p, i + 1) (map (pair_at i) ws) → HasWay (reads 1 p) ws
next_position i p ws each h =
    let r = from_map i (p, i + 1) ws h in
    ⊎_elim
    (λ s. let e : (s.0, i) ≡ (p, i + 1) = subst (λ (w : Way). pair_at i w ≡ (p, i + 1)) s.1 r.2 in
    let f : i ≡ i + 1 = ap (λ (x : Pair). x.1) e in absurd (omega (arith, f)))
    (λ s. let e : (s.0, i + 1) ≡ (p, i + 1) = subst (λ (w : Way). pair_at i w ≡ (p, i + 1)) s.1 r.2 in
    subst (λ k. HasWay (reads 1 k) ws) (ap (λ (x : Pair). x.0) e) (subst (λ w. HasWay w ws) s.1 r.1))
    (each r.0 r.1)

-- each way of a byte place stays, or reads one byte

choice_each : (ns : List ℕ) (w : Way) → HasWay w (map stays ns) → IsStay w ⊎ ((q : ℕ) × (w ≡ reads 1 q))
choice_each [] w h = absurd h
choice_each (n ∷ ns) w h = ⊎_elim (λ e. inl (n, sym e)) (λ z. choice_each ns w z) h

if_each : (v : Bool) (n : ℕ) (ws : List Way) (w : Way) → (HasWay w ws → IsStay w ⊎ ((q : ℕ) × (w ≡ reads 1 q))) →
    HasWay w (if v then reads 1 n ∷ ws else ws) → IsStay w ⊎ ((q : ℕ) × (w ≡ reads 1 q))
if_each true n ws w k h = ⊎_elim (λ e. inr (n, sym e)) k h
if_each false n ws w k h = k h

branch_each : (b : ℕ) (ts : List ((ℕ × ℕ) × ℕ)) (w : Way) → HasWay w (branch_ways b ts) → IsStay w ⊎ ((q : ℕ) × (w ≡ reads 1 q))
branch_each b [] w h = absurd h
branch_each b (t ∷ ts) w h = if_each (nat_le t.0.0 b && nat_le b t.0.1) t.1 (branch_ways b ts) w (branch_each b ts w) h

guard_each : (v : Bool) (n : ℕ) (w : Way) → HasWay w (if v then stays n ∷ [] else []) → IsStay w ⊎ ((q : ℕ) × (w ≡ reads 1 q))
guard_each true n w h = ⊎_elim (λ e. inl (n, sym e)) (λ never. absurd never) h
guard_each false n w h = absurd h

pub each_way : (test : Look → Bool) (after : Option ℕ) (place : Place) → IsBytePlace place → (w : Way) →
    HasWay w (ways_out test (ahead_of after) place) → IsStay w ⊎ ((q : ℕ) × (w ≡ reads 1 q))
each_way test after (choice ns) b w h = choice_each ns w h
each_way test None (byte rs n) b w h = absurd h
each_way test (Some c) (byte rs n) b w h = if_each (in_ranges rs c) n [] w (λ never. absurd never) h
each_way test None (branch ts) b w h = absurd h
each_way test (Some c) (branch ts) b w h = branch_each c ts w h
each_way test after (scalar rs n) b w h = absurd b
each_way test after (guard l n) b w h = guard_each (test l) n w h
each_way test after (slot k n) b w h = ⊎_elim (λ e. inl (n, sym e)) (λ never. absurd never) h
each_way test after (accept p) b w h = absurd h

-- a way that reads needs no assertion
abbrev read_of : Way → ℕ
read_of (stays q) = 0
read_of (reads n q) = suc q

no_read_choice : (p : ℕ) (ns : List ℕ) → HasWay (reads 1 p) (map stays ns) → ⊥
no_read_choice p [] h = h
no_read_choice p (n ∷ ns) h = ⊎_elim (λ e. let f : 0 ≡ suc p = ap (λ w. read_of w) e in omega (arith, f)) (λ z. no_read_choice p ns z) h

no_read_if : (p : ℕ) (v : Bool) (n : ℕ) → HasWay (reads 1 p) (if v then stays n ∷ [] else []) → ⊥
no_read_if p true n h = ⊎_elim (λ e. let f : 0 ≡ suc p = ap (λ w. read_of w) e in omega (arith, f)) (λ z. z) h
no_read_if p false n h = h

pub read_anyhow : (test other : Look → Bool) (bytes : List ℕ) (place : Place) (p : ℕ) →
    HasWay (reads 1 p) (ways_out test bytes place) → HasWay (reads 1 p) (ways_out other bytes place)
read_anyhow test other bytes (choice ns) p h = h
read_anyhow test other bytes (byte rs n) p h = h
read_anyhow test other bytes (branch ts) p h = h
read_anyhow test other bytes (scalar rs n) p h = h
read_anyhow test other bytes (guard l n) p h = absurd (no_read_if p (test l) n h)
read_anyhow test other bytes (slot k n) p h = h
read_anyhow test other bytes (accept q) p h = h

same_first : (A B : ℕ → Type 0) → ((q : ℕ) → A q ↔ B q) → (roots : List ℕ) (o : Option ℕ) → IsFirstRoot A roots o → IsFirstRoot B roots o
same_first A B same [] None h = h
same_first A B same [] (Some k) h = h
same_first A B same (root ∷ roots) None h = ((λ b. h.0 ((same root).1 b)), same_first A B same roots None h.1)
same_first A B same (root ∷ roots) (Some zero) h = (same root).0 h
same_first A B same (root ∷ roots) (Some (suc k)) h = ((λ b. h.0 ((same root).1 b)), same_first A B same roots (Some k) h.1)

module _ (g : Setting) (ok : IsSetting g) (t : Text) (terminator : g.terminator ≡ t.terminator) (hi end : ℕ) (within : end ≤ hi) where
  last_here : (n m : Pair) → Stops g.places n → ¬ IsIn m (ways g.places t hi n)
  last_here = last g.places t hi None

  near_here : (n m : Pair) → IsIn m (ways g.places t hi n) → (m.1 ≡ n.1) ⊎ (m.1 ≡ n.1 + 1)
  near_here = near g.places t hi ok.by_bytes

  module _ (i : ℕ) (low : t.slice_start ≤ i) (here : i ≤ hi) (high : hi ≤ t.slice_end) (bounded : t.slice_end ≤ length t.content)
      (s : State) (c : IsComing g t hi end i s) where
    abbrev out : ℕ → List Way
    out = out_here g.places g.needs ok.by_bytes ok.covers t i

    each : (q : ℕ) (w : Way) → HasWay w (out q) → IsStay w ⊎ ((k : ℕ) × (w ≡ reads 1 k))
    each q w h = each_way _ (byte_of (after_at t i)) (place_at g.places q) (ok.by_bytes q) w h

    -- the ways that read nothing are those that are told
    still_is : (q : ℕ) → still_out g.places (told_side g.needs g.terminator (before_at t i)) s.beside q ≡ still (out q)
    still_is q =
        ap₂ (λ x y. ways_out (holds_by (told_side g.needs x (before_at t i)) y) [] (place_at g.places q)) terminator c.beside
        ∙ still_are _ (byte_of (after_at t i)) (place_at g.places q) (ok.by_bytes q)

    stay_in : (q p : ℕ) → HasWay (stays p) (still (out q)) → IsIn (p, i) (ways g.places t hi (q, i))
    stay_in q p h =
        ⊎_elim
        (λ lt. subst (λ ms. IsIn (p, i) ms) (sym (same_below g.places g.needs ok.by_bytes ok.covers t i hi lt high bounded q))
        (to_map i (stays p) (out q) (still_has p (out q) h)))
        (λ ge. let e : i ≡ hi = omega (arith, ge, here) in
        subst (λ k. IsIn (p, i) (ways g.places t k (q, i))) e
        (subst (λ ms. IsIn (p, i) ms) (sym (same_at_end g.places g.needs ok.by_bytes ok.covers t i q))
        (to_map i (stays p) (still (out q)) h)))
        (cases_lt i hi)

    in_stay : (q p : ℕ) → IsIn (p, i) (ways g.places t hi (q, i)) → HasWay (stays p) (still (out q))
    in_stay q p h =
        ⊎_elim
        (λ lt. has_still p (out q) (same_position i p (out q) (each q)
        (subst (λ ms. IsIn (p, i) ms) (same_below g.places g.needs ok.by_bytes ok.covers t i hi lt high bounded q) h)))
        (λ ge. let e : i ≡ hi = omega (arith, ge, here) in
        let k : IsIn (p, i) (ways g.places t i (q, i)) = subst (λ k. IsIn (p, i) (ways g.places t k (q, i))) (sym e) h in
        let m = subst (λ ms. IsIn (p, i) ms) (same_at_end g.places g.needs ok.by_bytes ok.covers t i q) k in
        same_position i p (still (out q)) (λ w z. inl (still_stays (out q) w z)) m)
        (cases_lt i hi)
      where
        still_stays : (ws : List Way) (w : Way) → HasWay w (still ws) → IsStay w
        still_stays [] w z = absurd z
        still_stays (stays k ∷ ws) w z = ⊎_elim (λ e. (k, sym e)) (λ y. still_stays ws w y) z
        still_stays (reads n k ∷ ws) w z = still_stays ws w z

    to_leads : {q : ℕ} → LeadsOver g.places s (told_side g.needs g.terminator (before_at t i)) q → Leads (ways g.places t hi) i s.list q
    to_leads (listed q h) = run.listed q h
    to_leads (leads q p h l) = run.leads q p (stay_in q p (subst (λ ws. HasWay (stays p) ws) (still_is q) h)) (to_leads l)

    from_leads : {q : ℕ} → Leads (ways g.places t hi) i s.list q → LeadsOver g.places s (told_side g.needs g.terminator (before_at t i)) q
    from_leads (run.listed q h) = listed q h
    from_leads (run.leads q p h l) = leads q p (subst (λ ws. HasWay (stays p) ws) (sym (still_is q)) (in_stay q p h)) (from_leads l)

    -- THE STATE AND THE BYTE BEFORE DECIDE
    pub decides : (q : ℕ) → LeadsOver g.places s (told_side g.needs g.terminator (before_at t i)) q ↔ ReachesEnd g t hi end i q
    decides q =
        let r = back_decides (ways g.places t hi) (Stops g.places) same_pair last_here near_here end i s.list c.list q in
        ((λ l. r.0 (to_leads l)), (λ z. from_leads (r.1 z)))

    -- which root reaches the end from here
    pub tells : (roots : List ℕ) (s2 : State) (far : Seen) → IsPriorOver g.places roots s (sides_near g.needs g.terminator (before_at t i) far) s2 →
        IsFirstRoot (ReachesEnd g t hi end i) roots s2.matched
    tells roots s2 far p = same_first _ _ decides roots s2.matched p.matched

  -- the state at the end
  pub comes : (s : State) → IsLastBeside g.places (told_side g.needs g.terminator (after_at t end)) s → IsComing g t hi end end s
  comes s l = record {
    list = back_begins (ways g.places t hi) (Stops g.places) same_pair last_here near_here end s.list l.list;
    beside = l.beside ∙ ap (λ x. told_side g.needs x (after_at t end)) terminator;
  }

  module _ (i : ℕ) (low : t.slice_start ≤ i) (below : i < end) (high : hi ≤ t.slice_end) (bounded : t.slice_end ≤ length t.content)
      (roots : List ℕ) (s s2 : State) (c : IsComing g t hi end (i + 1) s) (p : IsPriorOver g.places roots s (sides_behind g t i) s2) where
    byte_here : (b : ℕ) × (slice_get t.content i ≡ Some b)
    byte_here = get_some t.content i (omega (arith, below, within, high, bounded))

    stands_behind : byte_of (before_at t (i + 1)) ≡ Some byte_here.0
    stands_behind = byte_behind t i byte_here.0 low byte_here.1

    over_one : (q : ℕ) → ways g.places t hi (q, i)
        ≡ map (pair_at i) (ways_out (λ l. holds t l i) (byte_here.0 ∷ []) (place_at g.places q))
    over_one q =
        let first = begins_with t.content i hi byte_here.0 (omega (arith, below, within)) byte_here.1 in
        ap (λ ws. map (pair_at i) ws)
        (ap (λ bs. ways_out (λ l. holds t l i) bs (place_at g.places q)) first.1
        ∙ one_byte (λ l. holds t l i) byte_here.0 first.0 (place_at g.places q) (ok.by_bytes q))

    reads_to : (q k : ℕ) → IsIn (k, i + 1) (ways g.places t hi (q, i)) → ReadsTo g.places byte_here.0 q k
    reads_to q k h =
        read_anyhow (λ l. holds t l i) (λ l. false) (byte_here.0 ∷ []) (place_at g.places q) k
        (next_position i k (ways_out (λ l. holds t l i) (byte_here.0 ∷ []) (place_at g.places q))
        (each_way (λ l. holds t l i) (Some byte_here.0) (place_at g.places q) (ok.by_bytes q))
        (subst (λ ms. IsIn (k, i + 1) ms) (over_one q) h))

    reads_from : (q k : ℕ) → ReadsTo g.places byte_here.0 q k → IsIn (k, i + 1) (ways g.places t hi (q, i))
    reads_from q k h =
        subst (λ ms. IsIn (k, i + 1) ms) (sym (over_one q))
        (to_map i (reads 1 k) (ways_out (λ l. holds t l i) (byte_here.0 ∷ []) (place_at g.places q))
        (read_anyhow (λ l. false) (λ l. holds t l i) (byte_here.0 ∷ []) (place_at g.places q) k h))

    -- THE STEP
    pub descends : IsComing g t hi end i s2
    descends = record {
      list = back_steps (ways g.places t hi) (Stops g.places) same_pair last_here near_here end i s.list s2.list below c.list
          (λ q. let l = p.list q in (
            (λ h. let x = l.0 h in
                let is : x.0 ≡ byte_here.0 = same_Some x.0 byte_here.0 (sym x.1 ∙ stands_behind) in (
                  x.2,
                  reads_from q x.2 (subst (λ b. ReadsTo g.places b q x.2) is x.3),
                  to_leads (i + 1) (omega (arith, low)) (omega (arith, below, within)) high bounded s c x.4,
                )),
            (λ x. l.1 (
              byte_here.0,
              stands_behind,
              x.0,
              reads_to q x.0 x.1,
              from_leads (i + 1) (omega (arith, low)) (omega (arith, below, within)) high bounded s c x.2,
            )),
          ));
      beside = p.beside ∙ ap (λ x. told_side g.needs x (after_at t i)) terminator;
    }

-- what is found on the way down
pub lowers : (g : Setting) (t : Text) (hi end : ℕ) (roots : List ℕ) (i : ℕ) (matched : Option ℕ) (least : Option (ℕ × ℕ)) → i ≤ end →
    IsFirstRoot (ReachesEnd g t hi end i) roots matched → IsLeastSoFar g t hi end roots (i + 1) least →
    IsLeastSoFar g t hi end roots i (least_at i matched least)
lowers g t hi end roots i None None le f l = λ y a b.
    ⊎_elim (λ e. subst (λ k. IsFirstRoot (ReachesEnd g t hi end k) roots None) e f) (λ ne. l y (omega (arith, a, ne)) b) (cases_eq i y)
lowers g t hi end roots i None (Some m) le f l = (
  let a = l.0 in omega (arith, a),
  l.1,
  l.2,
  λ y a b.
      ⊎_elim (λ e. subst (λ k. IsFirstRoot (ReachesEnd g t hi end k) roots None) e f) (λ ne. l.3 y (omega (arith, a, ne)) b) (cases_eq i y),
)
lowers g t hi end roots i (Some k) least le f l = (omega arith, le, f, λ y a b. absurd (omega (arith, a, b)))

no_leads : (W : Pair → List Pair) (i : ℕ) {list : List ℕ} {q : ℕ} → list ≡ [] → Leads W i list q → ⊥
no_leads W i empty (run.listed q h) = subst (λ l. HasPlace q l) empty h
no_leads W i empty (run.leads q p h l) = no_leads W i empty l

-- where nothing reaches the end, nothing before does
pub nothing_before : (g : Setting) → IsSetting g → (t : Text) (hi end i : ℕ) (s : State) → IsComing g t hi end i s → s.list ≡ [] → i ≤ end →
    (n : Pair) → n.1 < i → ¬ Reaches (ways g.places t hi) (IsGoal (Stops g.places) end) n
nothing_before g ok t hi end i s c empty le n lt r = crosses r lt
  where
    near_here : (n m : Pair) → IsIn m (ways g.places t hi n) → (m.1 ≡ n.1) ⊎ (m.1 ≡ n.1 + 1)
    near_here = near g.places t hi ok.by_bytes

    none_here : (q : ℕ) → ¬ Reaches (ways g.places t hi) (IsGoal (Stops g.places) end) (q, i)
    none_here q z = no_leads (ways g.places t hi) i empty
        ((back_decides (ways g.places t hi) (Stops g.places) same_pair (last g.places t hi None) near_here end i s.list c.list q).1 z)

    crosses : {m : Pair} → Reaches (ways g.places t hi) (IsGoal (Stops g.places) end) m → m.1 < i → ⊥
    crosses (reach.arrived m goal) below = let e = goal.1 in omega (arith, e, below, le)
    crosses (reach.goes_on m k edge more) below =
        ⊎_elim (λ lower. crosses more lower)
        (λ ge. ⊎_elim (λ e. absurd (omega (arith, e, below, ge)))
        (λ e. let here : k.1 ≡ i = omega (arith, e, below, ge) in
        none_here k.0 (subst (λ x. Reaches (ways g.places t hi) (IsGoal (Stops g.places) end) (k.0, x)) here more))
        (near_here m k edge))
        (cases_lt k.1 i)

-- the least start, where the one root is the program's
pub least_start : (g : Setting) (t : Text) (hi end root lo x k : ℕ) → IsLeastSoFar g t hi end (root ∷ []) lo (Some (x, k)) →
    IsLeastStart (ways g.places t hi) (Stops g.places) root lo end x
least_start g t hi end root lo x zero l = record { at_least = l.0; at_most = l.1; reaches = l.2; least = λ y a b. (l.3 y a b).0 }
least_start g t hi end root lo x (suc k) l = absurd l.2.1

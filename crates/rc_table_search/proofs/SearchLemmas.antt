-- What cells mean to a search.
use Rattle.std.proofs.Common.{◌≡◌, ◌≢◌, ◌⊎◌, ℕ, ◌+◌, ◌-◌, ◌<◌, ◌≤◌, Bool, true, false, true≢false, not, is_some, List, length, Option, Some, None, slice_range, slice_index_or, inl, inr, refl, sym, subst, ap, ◌∙◌, arith}
use Rattle.std.proofs.lemmas.Bool.{le-leb, lt-leb}
use Rattle.std.proofs.lemmas.Option.{none-some, same_Some}
use Rattle.rc_program.specs.Looks.{Side}
use Rattle.rc_program.specs.Sought.{text_of}
use Rattle.rc_determinize.specs.States.{State, best_at}
use Rattle.rc_dfa.specs.Machine.{Machine, Leads, IsAsked, is_idle}
use Rattle.rc_dfa.specs.Runs.{MayRead, MayReadSide, LeadsAcross, BeginsBy, RunEnd, met_last}
use Rattle.rc_dfa.specs.Ended.{gave_up}
use Rattle.rc_dfa.specs.declared.ended.Ended.{Ended}
use Rattle.rc_dfa.specs.declared.ended.Ended.TheVariants.{Found, Idle, Quit, GaveUp}
use Rattle.rc_table_search.specs.Walks.{HasByte, Reaches, Walk, byte_at, cell_by, cell_of, dead, first_of, has_died, left_of, met, next_of, quit, row_of, skip, begun, plain, leapt, found}
use Rattle.rc_table_search.specs.Ways.{EndsFrom, HasEndedBy, HasEndedFrom, IsBeside, IsBounded, IsOn, LiesWithin, RunsBy, beside_at, far_at, offset_of, side_at, span}
use Rattle.rc_table_search.specs.Views.{View, IsEnd, IsFound, IsLawful, IsNoted, IsRun, IsSame, Knows, KnowsSide, LeadsTo}
use Rattle.rc_table_search.specs.Searches.{BeginsAt, HasBegun, HasRun, IsAt, IsOver, LeadsAt, Origin, Outset, Says, all_spent, course_of, run_spent, text_in}
use Rattle.rc_table_search.specs.declared.run.Stand.{Stand}
use Rattle.rc_table_search.specs.declared.search.Request.{Request}
use Rattle.rc_table_search.proofs.SpanLemmas.{beside_same, inside_here, next_here, on_both, on_first, on_here, place_next, span_here, span_next, span_within}
use Rattle.rc_table_search.proofs.WayLemmas as ways

-- where a cell leads, if the byte may be read
pub leads_to : (C : Type 0) (v : View C) (c : C) (m : Machine) (beside : Option ℕ) (To : State → Type 0) (cell : ℕ) → Knows v c m beside To cell → cell ≢ quit →
    MayRead m beside × ((t : State) × To t × LeadsTo (v.HasState c m) v.leaps cell t)
leads_to C v c m beside To cell (inl h) ne = absurd (ne h.0)
leads_to C v c m beside To cell (inr h) ne = h

-- the same of what stands on a side
pub leads_by : (C : Type 0) (v : View C) (c : C) (m : Machine) (side : Side) (To : State → Type 0) (cell : ℕ) → KnowsSide v c m side To cell → cell ≢ quit →
    MayReadSide m.alphabet m side × ((t : State) × To t × LeadsTo (v.HasState c m) v.leaps cell t)
leads_by C v c m side To cell (inl h) ne = absurd (ne h.0)
leads_by C v c m side To cell (inr h) ne = h

pub unread : (C : Type 0) (v : View C) (c : C) (m : Machine) (side : Side) (To : State → Type 0) (cell : ℕ) → KnowsSide v c m side To cell → cell ≡ quit →
    ¬ MayReadSide m.alphabet m side
unread C v c m side To cell (inl h) e = h.1
unread C v c m side To cell (inr h) e = absurd (h.1.2.is_read e)

some_of : (o : Option ℕ) → is_some o ≡ true → (k : ℕ) × (o ≡ Some k)
some_of None e = cc e
some_of (Some n) e = (n, refl)

module _ (HasRow : ℕ → State → Type 0) (leaps : Bool) (cell : ℕ) (t : State) (x : LeadsTo HasRow leaps cell t) where
  pub row_going : has_died cell ≡ false → HasRow (row_of cell) t
  row_going alive = x.in_row (inr (λ is. true≢false (sym (ap has_died is) ∙ alive)))

  pub row_found : met ≤ cell → HasRow (row_of cell) t × ((k : ℕ) × (t.matched ≡ Some k))
  row_found le = (x.in_row (inr (λ is. omega (arith, is, le))), some_of t.matched (sym x.found ∙ le-leb met cell le))

  pub none_found : cell < met → t.matched ≡ None
  none_found lt = ways.none_of t.matched (sym x.found ∙ lt-leb met cell lt)

-- a note of what was found there
pub noted_on : (C : Type 0) (v : View C) (c : C) (m : Machine) (cell at note : ℕ) (t : State) (found : Option (ℕ × ℕ)) → LeadsTo (v.HasState c m) v.leaps cell t → met ≤ cell →
    ((s : State) (k : ℕ) → v.HasState c m (row_of cell) s → s.matched ≡ Some k → v.IsNote m note k) → IsNoted v m (Some (note, at)) (best_at at t.matched found)
noted_on C v c m cell at note t last x le is =
    let r = row_found (v.HasState c m) v.leaps cell t x le in
    (r.1.0, is t r.1.0 r.0 r.1.1, ap (λ o. best_at at o last) r.1.1)

module _ (C : Type 0) (v : View C) (laws : IsLawful v) (backwards : Bool) (o : Outset C) (q : Request) where
  -- where a run goes on from
  pub stands_first : (c : C) (stand : Stand) → v.IsCache c → v.IsRow c stand.row → o.begun ≡ c → o.row ≡ stand.row → stand.noted ≡ None → IsAt v backwards o q c q.from stand
  stands_first c stand cache row same same_row unmet = record {
    cache = cache;
    is_row = row;
    on = on_here backwards q.from;
    spends = subst (λ n. v.Spends o.begun c n) (sym (span_here backwards q.from)) (subst (λ k. v.Spends k c 0) (sym same) (laws.spends_nothing c 0));
    stands = λ m of first has. record {
      state = first;
      in_row = subst (λ r. v.HasState c m r first) same_row (subst (λ k. v.HasState k m o.row first) same has);
      found = None;
      tells = subst (λ n. IsNoted v m n None) (sym unmet) refl;
      standing = ways.begins m (text_in m o.seen) (course_of q) backwards first;
    };
  }

  -- HOW A RUN ENDS

  pub over_done : (c : C) (n r : ℕ) (e : Ended) → v.IsCache c → v.Spends o.begun c n → n ≤ run_spent backwards q →
      ((m : Machine) → v.IsOf m → (first : State) → v.HasState o.begun m o.row first →
      HasEndedFrom backwards m (text_in m o.seen) (course_of q) first q.extent.may_rest r e) → gave_up e ≡ None → HasRun v backwards o q c r e
  over_done c n r e cache spends le ended done = record {
    cache = cache;
    spends = laws.spends_within o.begun c n (run_spent backwards q) le spends;
    ended = ended;
    gives_up = λ memory k. absurd (none-some memory (sym done ∙ k));
  }

  pub over_refused : (b c : C) (n at r : ℕ) (memory : Bool) → v.IsCache c → v.Spends o.begun b n → v.Spends b c 1 → v.GivesUp b c 1 memory →
      n + 1 ≤ run_spent backwards q → IsOn backwards q.from at → IsOn backwards at q.end → HasRun v backwards o q c r (GaveUp at memory)
  over_refused b c n at r memory cache before spends refused le low high = record {
    cache = cache;
    spends = laws.spends_within o.begun c (n + 1) (run_spent backwards q) le (laws.spends_both o.begun b c n 1 before spends);
    ended = λ m of first has. (low, high);
    gives_up = λ k e.
        laws.gives_up_within o.begun c (n + 1) (run_spent backwards q) k le
        (laws.gives_up_later o.begun b c n 1 k before (subst (λ x. v.GivesUp b c 1 x) (same_Some memory k e) refused));
  }

  abbrev Ends : Machine → State → ℕ → RunEnd → Type 0
  Ends m first = EndsFrom backwards m (text_in m o.seen) (course_of q) first

  -- with what was found last
  pub over_says : (IsLast : Machine → Option (ℕ × ℕ) → Type 0) (c : C) (n r : ℕ) (e : Ended) → Says v backwards IsLast e → v.IsCache c → v.Spends o.begun c n →
      n ≤ run_spent backwards q →
      ((m : Machine) → v.IsOf m → (first : State) → v.HasState o.begun m o.row first → (last : Option (ℕ × ℕ)) × IsLast m last × Ends m first r (met_last last)) →
      HasRun v backwards o q c r e
  over_says IsLast c n r e said cache spends le ends =
      over_done c n r e cache spends le
      (λ m of first has. let x = ends m of first has in said.says m of x.0 x.1 (text_in m o.seen) (course_of q) first q.extent.may_rest r x.2) said.done

  pub few_spent : (i : ℕ) → IsOn backwards q.from i → IsOn backwards i q.end → span backwards q.from i + 1 ≤ run_spent backwards q
  few_spent i on within = let le = span_within backwards q.from i q.end on within in omega (arith, le)

  -- where it stands nothing was found, and nothing is under way
  pub rests_here : (c : C) (i : ℕ) (stand : Stand) → IsAt v backwards o q c i stand → IsOn backwards i q.end → backwards ≡ false → q.extent.may_rest ≡ true →
      is_some stand.noted ≡ false → ((m : Machine) (s : State) → v.HasState c m stand.row s → is_idle s ≡ true) → HasRun v backwards o q c i (Idle i)
  rests_here c i stand here within forwards may none idle =
      let few = few_spent i here.on within in
      over_done c (span backwards q.from i) i (Idle i) here.cache here.spends (omega (arith, few))
      (λ m of first has.
      let x = here.stands m of first has in
      let nothing = subst (λ n. IsNoted v m n x.found) (ways.none_of stand.noted none) x.tells in (
        forwards,
        may,
        ways.rests m (text_in m o.seen) (course_of q) backwards forwards first i x.state x.found x.standing within (ap is_some nothing) (idle m x.state x.in_row),
      )) refl

  -- ONE STEP, WHATEVER ITS CELL

  module _ (c0 c : C) (i : ℕ) (stand : Stand) (b cell : ℕ) (here : IsAt v backwards o q c0 i stand) (cache : v.IsCache c) (spends : v.Spends c0 c 1)
      (step : LeadsAt v backwards o.seen c0 c i stand.row cell) (within : IsOn backwards i q.end) where
    pub spent : v.Spends o.begun c (span backwards q.from i + 1)
    spent = laws.spends_both o.begun c0 c (span backwards q.from i) 1 here.spends spends

    pub few : span backwards q.from i + 1 ≤ run_spent backwards q
    few = few_spent i here.on within

    abbrev To : Machine → State → State → Type 0
    To m s = LeadsAcross m.alphabet m (side_at backwards (text_in m o.seen) i) (far_at backwards (text_in m o.seen) i) s

    pub step_quits : (r p : ℕ) → (backwards ≡ false → r ≡ i + 1) → cell ≡ quit → IsBeside backwards o.seen.content i b → p ≡ offset_of backwards i →
        HasRun v backwards o q c r (Quit b p)
    step_quits r p far e there at =
        over_done c (span backwards q.from i + 1) r (Quit b p) cache spent few
        (λ m of first has.
        let x = here.stands m of first has in
        subst (λ k. HasEndedFrom backwards m (text_in m o.seen) (course_of q) first q.extent.may_rest r (Quit b k)) (sym at) (
          ways.there_of backwards o.seen.content i b there,
          ways.quits m (text_in m o.seen) (course_of q) backwards i r far first x.state x.found x.standing within (ways.some_before backwards o.seen.content i b there)
              (unread C v c m (side_at backwards (text_in m o.seen) i) (To m x.state) cell (step.leads m of x.state x.in_row) e),
        )) refl

    -- what was found last, by the way to the next state
    module _ (ne : cell ≢ quit) (noted : Option (ℕ × ℕ))
        (notes : (m : Machine) (t : State) (found : Option (ℕ × ℕ)) → LeadsTo (v.HasState c m) v.leaps cell t → IsNoted v m stand.noted found →
        IsNoted v m noted (best_at i t.matched found)) where
      -- the next state, to which the byte leads
      record IsNextState (m : Machine) (first : State) : Type 0 where
        state : State
        there : LeadsTo (v.HasState c m) v.leaps cell state
        before : State
        found : Option (ℕ × ℕ)
        standing : RunsBy backwards m (text_in m o.seen) (course_of q) first i before found
        tells : IsNoted v m noted (best_at i state.matched found)
        read : MayReadSide m.alphabet m (side_at backwards (text_in m o.seen) i)
        leads : To m before state

      next_state : (m : Machine) → v.IsOf m → (first : State) → v.HasState o.begun m o.row first → IsNextState m first
      next_state m of first has =
          let x = here.stands m of first has in
          let l = leads_by C v c m (side_at backwards (text_in m o.seen) i) (To m x.state) cell (step.leads m of x.state x.in_row) ne in record {
            state = l.1.0;
            there = l.1.2;
            before = x.state;
            found = x.found;
            standing = x.standing;
            tells = notes m l.1.0 x.found l.1.2 x.tells;
            read = l.0;
            leads = l.1.1;
          }

      -- at the bound
      pub step_bounded : (e : Ended) → i ≡ q.end → Says v backwards (λ m last. IsNoted v m noted last) e → HasRun v backwards o q c (q.end + 1) e
      step_bounded e at said =
          over_says (λ m last. IsNoted v m noted last) c (span backwards q.from i + 1) (q.end + 1) e said cache spent few
          (λ m of first has.
          let n = next_state m of first has in
          let B : ℕ → Type 0 = λ k. RunsBy backwards m (text_in m o.seen) (course_of q) first k n.before n.found → MayReadSide m.alphabet m (side_at backwards (text_in m o.seen) k) →
          LeadsAcross m.alphabet m (side_at backwards (text_in m o.seen) k) (far_at backwards (text_in m o.seen) k) n.before n.state →
          Ends m first (q.end + 1) (met_last (best_at k n.state.matched n.found)) in (
            best_at i n.state.matched n.found,
            n.tells,
            subst B (sym at)
                (λ x read leads. ways.bounded m (text_in m o.seen) (course_of q) backwards first n.before n.state n.found x read
                (ways.bound_at m (text_in m o.seen) (side_at backwards (text_in m o.seen) q.end) (far_at backwards (text_in m o.seen) q.end) n.before n.state leads))
                n.standing n.read n.leads,
          ))

      module _ (left : 0 < span backwards i q.end) where
        stands_on : (m : Machine) (first : State) (n : IsNextState m first) →
            RunsBy backwards m (text_in m o.seen) (course_of q) first (next_of backwards i) n.state (best_at i n.state.matched n.found)
        stands_on m first n = ways.runs_on m (text_in m o.seen) (course_of q) backwards first i n.before n.state n.found n.standing left n.read n.leads

        pub step_dies : (e : Ended) → has_died cell ≡ true → Says v backwards (λ m last. IsNoted v m noted last) e → HasRun v backwards o q c (next_of backwards i) e
        step_dies e died said =
            over_says (λ m last. IsNoted v m noted last) c (span backwards q.from i + 1) (next_of backwards i) e said cache spent few
            (λ m of first has.
            let n = next_state m of first has in (
              best_at i n.state.matched n.found,
              n.tells,
              ways.dies m (text_in m o.seen) (course_of q) backwards first (next_of backwards i) n.state (best_at i n.state.matched n.found) (stands_on m first n)
                  (sym n.there.died ∙ died),
            ))

        pub step_early : (e : Ended) → q.extent.earliest ≡ true → is_some noted ≡ true → Says v backwards (λ m last. IsNoted v m noted last) e →
            HasRun v backwards o q c (next_of backwards i) e
        step_early e early some said =
            over_says (λ m last. IsNoted v m noted last) c (span backwards q.from i + 1) (next_of backwards i) e said cache spent few
            (λ m of first has.
            let n = next_state m of first has in (
              best_at i n.state.matched n.found,
              n.tells,
              ways.stops_early m (text_in m o.seen) (course_of q) backwards first (next_of backwards i) n.state (best_at i n.state.matched n.found) (stands_on m first n) early
                  (some_noted m noted (best_at i n.state.matched n.found) n.tells some),
            ))
          where
            some_noted : (m : Machine) (noted last : Option (ℕ × ℕ)) → IsNoted v m noted last → is_some noted ≡ true → is_some last ≡ true
            some_noted m None last x never = cc never
            some_noted m (Some n) last x some = ap is_some x.2

        pub step_goes : has_died cell ≡ false → IsAt v backwards o q c (next_of backwards i) (record { row = row_of cell; noted = noted })
        step_goes alive =
            let n = span_next backwards q.from i q.end here.on left in record {
              cache = cache;
              is_row = step.is_row alive;
              on = n.0;
              spends = subst (λ k. v.Spends o.begun c k) (sym n.2) spent;
              stands = λ m of first has. let x = next_state m of first has in record {
                state = x.state;
                in_row = row_going (v.HasState c m) v.leaps cell x.state x.there alive;
                found = best_at i x.state.matched x.found;
                tells = x.tells;
                standing = stands_on m first x;
              };
            }

        pub step_rests : backwards ≡ false → q.extent.may_rest ≡ true → has_died cell ≡ false → is_some noted ≡ false →
            ((m : Machine) (s : State) → v.HasState c m (row_of cell) s → is_idle s ≡ true) → HasRun v backwards o q c (next_of backwards i) (Idle (next_of backwards i))
        step_rests forwards may alive none idle =
            rests_here c (next_of backwards i) (record { row = row_of cell; noted = noted }) (step_goes alive) (span_next backwards q.from i q.end here.on left).1 forwards may none idle

  -- at the end of what the search sees
  module _ (c0 c : C) (stand : Stand) (here : IsAt v backwards o q c0 q.end stand) (cache : v.IsCache c) (spends : v.Spends c0 c 1)
      (beside : beside_at backwards (text_of 0 o.seen) q.end ≡ None) (last : Option ℕ) (end : IsEnd v c0 stand.row last) where
    end_says : (IsLast : Machine → Option (ℕ × ℕ) → Type 0) (e : Ended) → Says v backwards IsLast e →
        ((m : Machine) (found : Option (ℕ × ℕ)) → IsNoted v m stand.noted found → IsLast m (best_at q.end last found)) → HasRun v backwards o q c (q.end + 1) e
    end_says IsLast e said is =
        over_says IsLast c (span backwards q.from q.end + 1) (q.end + 1) e said cache
        (laws.spends_both o.begun c0 c (span backwards q.from q.end) 1 here.spends spends) (few_spent q.end here.on (on_here backwards q.end))
        (λ m of first has.
        let x = here.stands m of first has in
        let l = end m x.state x.in_row in
        let none = beside_same backwards m.setting.terminator 0 o.seen q.end ∙ beside in (
          best_at q.end last x.found,
          is m x.found x.tells,
          subst (λ k. Ends m first (q.end + 1) (met_last (best_at q.end k x.found))) (sym l.2)
              (ways.bounded m (text_in m o.seen) (course_of q) backwards first x.state l.0 x.found x.standing
              (ways.may_at m (text_in m o.seen) (side_at backwards (text_in m o.seen) q.end) None (ways.byte_side m (text_in m o.seen) backwards q.end ∙ none) tt)
              (ways.end_at m (text_in m o.seen) backwards q.end x.state l.0 none l.1)),
        ))

    pub end_met : (found : ℕ) (e : Ended) → last ≡ Some found → Says v backwards (λ m k. k ≡ Some (found, q.end)) e → HasRun v backwards o q c (q.end + 1) e
    end_met place e is said =
        end_says (λ m k. k ≡ Some (place, q.end)) e said (λ m before tells. ap (λ k. best_at q.end k before) is)

    pub end_told : (e : Ended) → last ≡ None → Says v backwards (λ m k. IsNoted v m stand.noted k) e → HasRun v backwards o q c (q.end + 1) e
    end_told e is said =
        end_says (λ m k. IsNoted v m stand.noted k) e said (λ m before tells. subst (λ k. IsNoted v m stand.noted (best_at q.end k before)) (sym is) tells)

  -- OVER A PIECE

  -- the cells and classes of a walk over a piece of what is searched
  module _ (c : C) (w : Walk) (way : w.backwards ≡ backwards) (leaping : w.leaps ≡ v.leaps) (inside : IsBounded backwards o.seen q.end)
      (began : IsBounded (not backwards) o.seen q.from) (further : IsOn backwards q.from (w.start + first_of backwards (length w.piece)))
      (piece : w.piece ≡ slice_range o.seen.content w.start (w.start + length w.piece)) (lies : LiesWithin backwards w.start (length w.piece) q.end)
      (bytes : (k : ℕ) → slice_index_or w.piece k 0 < 256) (m : Machine) (of : v.IsOf m)
      (told : (r b : ℕ) (s : State) → v.HasState c m r s → b < 256 → (v.leaps ≡ false → cell_by w.cells w.classes r b ≢ skip) →
      Knows v c m (Some b) (Leads m s (Some b)) (cell_by w.cells w.classes r b)) (before : Option (ℕ × ℕ)) (first : State) where
    -- the run came to the state of the row
    pub record ComesTo (i row : ℕ) (noted : Option (ℕ × ℕ)) : Type 0 where
      pub state : State
      pub in_row : v.HasState c m row state
      pub found : Option (ℕ × ℕ)
      pub tells : IsFound v c m noted before found
      pub standing : RunsBy backwards m (text_in m o.seen) (course_of q) first i state found

    -- over the byte that is read next
    module _ (place row : ℕ) (noted : Option (ℕ × ℕ)) (x : ComesTo (w.start + place) row noted) (byte : HasByte w place) where
      abbrev here : ℕ
      here = cell_of w place row

      small : (way : Bool) → byte_at way w.piece place < 256
      small false = bytes place
      small true = bytes (place - 1)

      on : (v.leaps ≡ false → here ≢ skip) → here ≢ quit → (t : State) × LeadsTo (v.HasState c m) v.leaps here t
          × RunsBy backwards m (text_in m o.seen) (course_of q) first (w.start + next_of w.backwards place) t (best_at (w.start + place) t.matched x.found)
      on known ne =
          let b = byte_at w.backwards w.piece place in
          let some = subst (λ k. 0 < left_of k (length w.piece) place) way byte.some in
          let next = next_here backwards o.seen q.end w.start place w.piece inside piece lies byte.within some in
          let beside = next.beside m.setting.terminator ∙ ap (λ k. Some (byte_at k w.piece place)) (sym way) in
          let l = leads_to C v c m (Some b) (Leads m x.state (Some b)) here (told row b x.state x.in_row (small w.backwards) known) ne in
          let t = l.1.0 in
          let within = ways.inside_of backwards m.setting.terminator o.seen (w.start + place)
          (inside_here backwards o.seen q.from q.end w.start place (length w.piece) inside began further lies byte.within some) in
          let to = place_next backwards (length w.piece) w.start place some ∙ ap (λ k. w.start + next_of k place) (sym way) in (
            t,
            l.1.2,
            subst (λ i. RunsBy backwards m (text_in m o.seen) (course_of q) first i t (best_at (w.start + place) t.matched x.found)) to
                (ways.runs_on m (text_in m o.seen) (course_of q) backwards first (w.start + place) x.state t x.found x.standing next.left
                (ways.may_at m (text_in m o.seen) (side_at backwards (text_in m o.seen) (w.start + place)) (Some b)
                (ways.byte_side m (text_in m o.seen) backwards (w.start + place) ∙ beside) l.0)
                (ways.leads_at m (text_in m o.seen) backwards (w.start + place) (Some b) x.state t beside within l.0 l.1.1)),
          )

      -- to a row before which nothing was found
      on_plain : (v.leaps ≡ false → here ≢ skip) → here < met → (v.leaps ≡ true) ⊎ (here ≢ dead) → (to : ℕ) → to ≡ row_of here →
          ComesTo (w.start + next_of w.backwards place) to noted
      on_plain known lt has to is =
          let l = on known (λ e. omega (arith, e, lt)) in record {
            state = l.0;
            in_row = subst (λ r. v.HasState c m r l.0) (sym is) (l.1.in_row has);
            found = x.found;
            tells = x.tells;
            standing = subst (λ k. RunsBy backwards m (text_in m o.seen) (course_of q) first (w.start + next_of w.backwards place) l.0 (best_at (w.start + place) k x.found))
                (none_found (v.HasState c m) v.leaps here l.0 l.1 lt) l.2;
          }

      on_found : met ≤ here → here - met < skip → ComesTo (w.start + next_of w.backwards place) (here - met) (Some (here - met, w.start + place))
      on_found le lt =
          let l = on (λ _ e. omega (arith, e, le)) (λ e. omega (arith, e, lt)) in
          let f = row_found (v.HasState c m) v.leaps here l.0 l.1 le in
          let is : row_of here ≡ here - met = omega (arith, le, lt) in
          let in_row = subst (λ r. v.HasState c m r l.0) is f.0 in record {
            state = l.0;
            in_row = in_row;
            found = Some (f.1.0, w.start + place);
            tells = (l.0, f.1.0, in_row, f.1.1, refl);
            standing = subst (λ k. RunsBy backwards m (text_in m o.seen) (course_of q) first (w.start + next_of w.backwards place) l.0 (best_at (w.start + place) k x.found))
                f.1.1 l.2;
          }

    -- and over all bytes of a walk
    pub over : ComesTo (w.start + w.from) w.first w.before → (place row : ℕ) (noted : Option (ℕ × ℕ)) → Reaches w place row noted → ComesTo (w.start + place) row noted
    over x place row noted begun = x
    over x place row noted (plain p r y byte lt) =
        on_plain p r noted (over x p r noted y) byte (λ _ e. omega (arith, e, lt)) (omega (arith, lt)) (inr (λ e. omega (arith, e, lt))) (cell_of w p r) (omega (arith, lt))
    over x place row noted (leapt p r to y byte leaps lt is) =
        let all : v.leaps ≡ true = sym leaping ∙ leaps in
        on_plain p r noted (over x p r noted y) byte (λ never. absurd (true≢false (sym all ∙ never))) lt (inl all) to is
    over x place row noted (found p r y byte le lt) = on_found p r _ (over x p r _ y) byte le lt

  found_same : (c0 c : C) (m : Machine) (last before found : Option (ℕ × ℕ)) → IsSame v c0 c → IsFound v c0 m last before found → IsFound v c m last before found
  found_same c0 c m None before last same x = x
  found_same c0 c m (Some n) before last same x = (x.0, x.1, same.has_state m n.0 x.0 x.2, x.3, x.4)

  -- bytes of a piece were read by cells that needed no look
  pub at_moved : (c0 c : C) (piece : List ℕ) (start place to : ℕ) (stand : Stand) (last noted : Option (ℕ × ℕ)) →
      IsAt v backwards o q c0 (start + first_of backwards (length piece)) stand → IsBounded (not backwards) o.seen q.from → IsBounded backwards o.seen q.end →
      piece ≡ slice_range o.seen.content start (start + length piece) → LiesWithin backwards start (length piece) q.end →
      ((k : ℕ) → slice_index_or piece k 0 < 256) → place ≤ length piece → IsSame v c0 c → v.IsRow c to → IsRun v backwards c0 piece start stand.row place to last →
      ((m : Machine) (before found : Option (ℕ × ℕ)) → IsFound v c m last before found → IsNoted v m stand.noted before → IsNoted v m noted found) →
      IsAt v backwards o q c (start + place) (record { row = to; noted = noted })
  at_moved c0 c piece start place to stand last noted here began inside is lies bytes le same row run notes =
      let further = on_first backwards (length piece) start place le in
      let more = span_within backwards q.from (start + first_of backwards (length piece)) (start + place) here.on further in record {
        cache = same.cache here.cache;
        is_row = row;
        on = on_both backwards q.from (start + first_of backwards (length piece)) (start + place) here.on further;
        spends = laws.spends_within o.begun c (span backwards q.from (start + first_of backwards (length piece))) (span backwards q.from (start + place))
            more (same.spends o.begun (span backwards q.from (start + first_of backwards (length piece))) here.spends);
        stands = λ m of first has.
            let x = here.stands m of first has in
            let w : Walk = record {
              backwards = backwards;
              leaps = v.leaps;
              cells = run.cells;
              classes = run.classes;
              piece = piece;
              start = start;
              from = first_of backwards (length piece);
              first = stand.row;
              before = None;
            } in
            let y = over c0 w refl refl inside began here.on is lies bytes m of (run.told m) x.found first
            (record { state = x.state; in_row = x.in_row; found = x.found; tells = refl; standing = x.standing }) place to last (run.reaches m x.state x.in_row) in record {
              state = y.state;
              in_row = same.has_state m to y.state y.in_row;
              found = y.found;
              tells = notes m x.found y.found (found_same c0 c m last x.found y.found same y.tells) x.tells;
              standing = y.standing;
            };
      }

module _ (C : Type 0) (v : View C) (laws : IsLawful v) (backwards : Bool) (o : Origin C) (q : Request) where
  -- WHERE A SEARCH BEGINS

  begin_over : (c : C) (e : Ended) → v.IsCache c → v.Spends o.begun c 1 →
      ((m : Machine) → v.IsOf m → IsAsked m q.anchored → HasEndedBy backwards m (text_in m o.seen) (course_of q) q.extent.may_rest q.from e) → gave_up e ≡ None →
      IsOver v backwards o q c q.from e
  begin_over c e cache spends ended done = record {
    cache = cache;
    spends = laws.spends_within o.begun c 1 (all_spent backwards q) (omega arith) spends;
    ended = ended;
    gives_up = λ memory k. absurd (none-some memory (sym done ∙ k));
  }

  pub begin_refused : (c : C) (memory : Bool) → v.IsCache c → v.Spends o.begun c 1 → v.GivesUp o.begun c 1 memory → IsOn backwards q.from q.end →
      IsOver v backwards o q c q.from (GaveUp q.from memory)
  begin_refused c memory cache spends refused on = record {
    cache = cache;
    spends = laws.spends_within o.begun c 1 (all_spent backwards q) (omega arith) spends;
    ended = λ m of asked. ways.gave_so m (text_in m o.seen) (course_of q) backwards q.extent.may_rest q.from q.from memory (on_here backwards q.from) on;
    gives_up = λ k e.
        laws.gives_up_within o.begun c 1 (all_spent backwards q) k (omega arith) (subst (λ x. v.GivesUp o.begun c 1 x) (same_Some memory k e) refused);
  }

  module _ (c : C) (cell : ℕ) (cache : v.IsCache c) (spends : v.Spends o.begun c 1) (start : BeginsAt v backwards o.seen c q.anchored q.from cell) where
    abbrev side : Machine → Side
    side m = side_at (not backwards) (text_in m o.seen) q.from

    unread_here : cell ≡ quit → (m : Machine) → v.IsOf m → IsAsked m q.anchored → ¬ MayReadSide m.alphabet m (side m)
    unread_here e m of asked = unread C v c m (side m) (BeginsBy m.alphabet m q.anchored (side m)) cell (start.begins m of asked) e

    pub begin_quits : (b p : ℕ) → cell ≡ quit → IsBeside (not backwards) o.seen.content q.from b → p ≡ offset_of (not backwards) q.from →
        IsOver v backwards o q c q.from (Quit b p)
    begin_quits b p e there at =
        begin_over c (Quit b p) cache spends
        (λ m of asked. subst (λ k. HasEndedBy backwards m (text_in m o.seen) (course_of q) q.extent.may_rest q.from (Quit b k)) (sym at)
        (ways.quit_so m (text_in m o.seen) (course_of q) backwards q.extent.may_rest b (offset_of (not backwards) q.from) q.from
        (ways.there_of (not backwards) o.seen.content q.from b there)
        (ways.never_begins m (text_in m o.seen) (course_of q) backwards (λ k. ways.some_before (not backwards) o.seen.content q.from b there (ap not k))
        (unread_here e m of asked)))) refl

    -- the end is always read
    pub begin_at_edge : cell ≡ quit → beside_at (not backwards) (text_of 0 o.seen) q.from ≡ None → IsOver v backwards o q c q.from (Found None)
    begin_at_edge e none =
        begin_over c (Found None) cache spends
        (λ m of asked.
        let same = beside_same (not backwards) m.setting.terminator 0 o.seen q.from ∙ none in
        absurd (unread_here e m of asked
        (ways.may_at m (text_in m o.seen) (side m) None (ways.byte_side m (text_in m o.seen) (not backwards) q.from ∙ same) tt))) refl

    module _ (ne : cell ≢ quit) where
      first_state : (m : Machine) → v.IsOf m → IsAsked m q.anchored → (s : State) × LeadsTo (v.HasState c m) v.leaps cell s
          × MayReadSide m.alphabet m (side m) × BeginsBy m.alphabet m q.anchored (side m) s
      first_state m of asked =
          let l = leads_by C v c m (side m) (BeginsBy m.alphabet m q.anchored (side m)) cell (start.begins m of asked) ne in (l.1.0, l.1.2, l.0, l.1.1)

      pub begin_dies : has_died cell ≡ true → IsOver v backwards o q c q.from (Found None)
      begin_dies e =
          begin_over c (Found None) cache spends
          (λ m of asked.
          let s = first_state m of asked in
          ways.dies_first m (text_in m o.seen) (course_of q) backwards q.extent.may_rest s.0 s.2 s.3 (sym s.1.died ∙ e)) refl

      pub begin_goes : has_died cell ≡ false → HasBegun v backwards o q c (record { row = row_of cell; noted = None })
      begin_goes alive = record {
        cache = cache;
        is_row = start.is_row alive;
        spends = spends;
        unmet = refl;
        begins = λ m of asked. let s = first_state m of asked in (s.0, row_going (v.HasState c m) v.leaps cell s.0 s.1 alive, s.2, s.3);
      }

  -- from there on
  pub over_run : (b c : C) (stand : Stand) (r : ℕ) (e : Ended) → HasBegun v backwards o q b stand →
      HasRun v backwards (record { seen = o.seen; begun = b; row = stand.row }) q c r e → IsOver v backwards o q c r e
  over_run b c stand r e there run =
      let le : 1 + run_spent backwards q ≤ all_spent backwards q = omega arith in record {
        cache = run.cache;
        spends = laws.spends_within o.begun c (1 + run_spent backwards q) (all_spent backwards q) le (laws.spends_both o.begun b c 1 (run_spent backwards q) there.spends run.spends);
        ended = λ m of asked.
            let s = there.begins m of asked in
            ways.whole m (text_in m o.seen) (course_of q) backwards q.extent.may_rest s.0 s.2 s.3 r e (run.ended m of s.0 s.1);
        gives_up = λ memory k.
            laws.gives_up_within o.begun c (1 + run_spent backwards q) (all_spent backwards q) memory le
            (laws.gives_up_later o.begun b c 1 (run_spent backwards q) memory there.spends (run.gives_up memory k));
      }

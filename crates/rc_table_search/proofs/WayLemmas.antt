-- Runs and their ends in either direction.
use Rattle.std.proofs.Common.{◌≡◌, ◌⊎◌, ℕ, ◌+◌, ◌-◌, ◌<◌, ◌≤◌, Bool, true, false, not, is_some, List, Option, Some, None, slice_get, inl, inr, refl, sym, subst, arith}
use Rattle.rc_text.specs.Text.{Searched}
use Rattle.rc_text.specs.declared.types.Anchored.{Anchored}
use Rattle.rc_program.specs.Looks.{Side}
use Rattle.rc_program.specs.Text.{Text, before_at, after_at}
use Rattle.rc_program.specs.Sought.{text_of}
use Rattle.rc_symbols.specs.Symbols.{IsSymbolAt}
use Rattle.rc_determinize.specs.Sides.{byte_of, told_side}
use Rattle.rc_determinize.specs.States.{State, IsInside, best_at}
use Rattle.rc_determinize.specs.Backward.{least_at}
use Rattle.rc_dfa.specs.Machine.{Alphabet, bytes, symbols, Machine, Leads, Begins, is_dead, is_idle}
use Rattle.rc_dfa.specs.Runs.{MayRead, behind_at, MayReadSide, LeadsAcross, LeadsBy, BeginsBy, RunsOver, Runs, RunsDownOver, RunsDown, met_last, stopped_at, idle_at, EndsDownOver, EndsDown, SearchEndsDownOver}
use Rattle.rc_dfa.specs.Reads.{EndsBelowOver, EndsBelow, SearchEndsBelowOver}
use Rattle.rc_dfa.specs.Symbols.{symbol_of, LeadsTagged, BeginsTagged}
use Rattle.rc_dfa.specs.declared.symbols.Symbol.{Symbol}
use Rattle.rc_dfa.specs.declared.ended.Ended.{Ended}
use Rattle.rc_dfa.specs.declared.ended.Ended.TheVariants.{Found, Idle, Quit, GaveUp}
use Rattle.rc_dfa.proofs.TableLemmas.{table_law}
use Rattle.rc_table_search.specs.Walks.{next_of}
use Rattle.rc_table_search.specs.Ways.{Course, EndsBy, EndsFrom, HasEndedBy, HasEndedFrom, IsBeside, IsInSlice, IsOn, RunsBy, beside_at, far_at, offset_of, side_at, span, swapped}

pub none_of : {A : Type 0} (o : Option A) → is_some o ≡ false → o ≡ None
none_of None e = refl
none_of (Some n) e = cc e

-- what was found here, on the way down
least_as_best : (i : ℕ) (matched : Option ℕ) (found : Option (ℕ × ℕ)) → least_at i matched (swapped found) ≡ swapped (best_at i matched found)
least_as_best i None found = refl
least_as_best i (Some k) found = refl

-- WHAT STANDS BESIDE A POSITION

-- the slice has a byte there
abbrev pub IsByteInside : Bool → Text → ℕ → Type 0
IsByteInside false t i = IsInside t i (i + 1)
IsByteInside true t i = (0 < i) × IsInside t (i - 1) i

pub inside_of : (backwards : Bool) (terminator : ℕ) (seen : Searched) (i : ℕ) → IsInSlice backwards seen i → IsByteInside backwards (text_of terminator seen) i
inside_of false terminator seen i h = let low = h.0 in let high = h.1 in record { low = low; high = omega (arith, high); bounded = omega arith }
inside_of true terminator seen i h =
    let low = h.0 in let high = h.1 in (omega (arith, low), record { low = omega (arith, low); high = high; bounded = omega arith })

module _ (m : Machine) (t : Text) where
  pub byte_side : (backwards : Bool) (i : ℕ) → byte_of (side_at backwards t i) ≡ beside_at backwards t i
  byte_side false i = refl
  byte_side true i = refl

  -- what may be read if it is known alone
  pub may_at : (side : Side) (beside : Option ℕ) → byte_of side ≡ beside → MayRead m beside → MayReadSide m.alphabet m side
  may_at side beside is read = table_law.may m.alphabet m side (subst (MayRead m) (sym is) read)

  -- and what may not
  pub never_at : (side : Side) (beside : Option ℕ) → byte_of side ≡ beside → (m.alphabet ≡ bytes) ⊎ MayRead m beside → ¬ MayRead m beside → ¬ MayReadSide m.alphabet m side
  never_at side beside is (inr read) unread may = unread read
  never_at side beside is (inl plain) unread may = unread (subst (MayRead m) is (subst (λ a. MayReadSide a m side) plain may))

  pub leads_at : (backwards : Bool) (i : ℕ) (beside : Option ℕ) (s next : State) → beside_at backwards t i ≡ beside → IsByteInside backwards t i → MayRead m beside →
      Leads m s beside next → LeadsAcross m.alphabet m (side_at backwards t i) (far_at backwards t i) s next
  leads_at false i beside s next is inside read leads =
      table_law.ahead m.alphabet m t (i + 1) i s next (omega arith) inside (subst (MayRead m) (sym is) read) (subst (λ k. Leads m s k next) (sym is) leads)
  leads_at true i beside s next is inside read leads =
      let some = inside.0 in
      let e : i - 1 + 1 ≡ i = omega (arith, some) in
      subst (λ k. LeadsAcross m.alphabet m (before_at t k) (after_at t (i - 1)) s next) e
      (table_law.behind m.alphabet m t i (i - 1) s next (omega (arith, some)) inside.1
      (subst (λ k. MayRead m (behind_at t k)) (sym e) (subst (MayRead m) (sym is) read))
      (subst (λ k. Leads m s (behind_at t k) next) (sym e) (subst (λ k. Leads m s k next) (sym is) leads)))

  pub begins_at : (backwards : Bool) (anchored : Anchored) (i : ℕ) (beside : Option ℕ) (s : State) → beside_at backwards t i ≡ beside → MayRead m beside →
      Begins m anchored beside s → BeginsBy m.alphabet m anchored (side_at backwards t i) s
  begins_at false anchored i beside s is read begun =
      table_law.begins_back m.alphabet m anchored t i s (subst (MayRead m) (sym is) read) (subst (λ k. Begins m anchored k s) (sym is) begun)
  begins_at true anchored i beside s is read begun =
      table_law.begins m.alphabet m anchored t i s (subst (MayRead m) (sym is) read) (subst (λ k. Begins m anchored k s) (sym is) begun)

  -- at a bound, the side on which it stands decides alone
  bound_by : (a : Alphabet) (near far : Side) (s next : State) → LeadsAcross a m near far s next → LeadsBy a m near s next
  bound_by bytes near far s next h = h
  bound_by symbols near far s next h = (told_side m.setting.needs m.setting.terminator far, h)

  pub bound_at : (near far : Side) (s next : State) → LeadsAcross m.alphabet m near far s next → LeadsBy m.alphabet m near s next
  bound_at = bound_by m.alphabet

  pub end_at : (backwards : Bool) (i : ℕ) (s next : State) → beside_at backwards t i ≡ None → Leads m s None next →
      LeadsBy m.alphabet m (side_at backwards t i) s next
  end_at false i s next is leads =
      table_law.bound_ahead m.alphabet m t i s next (subst (MayRead m) (sym is) tt) (subst (λ k. Leads m s k next) (sym is) leads)
  end_at true i s next is leads =
      table_law.bound_behind m.alphabet m t i s next (subst (MayRead m) (sym is) tt) (subst (λ k. Leads m s k next) (sym is) leads)

  -- a symbol
  module _ (over : m.alphabet ≡ symbols) (y : Symbol) where
    pub all_read : (side : Side) → MayReadSide m.alphabet m side
    all_read side = subst (λ a. MayReadSide a m side) (sym over) tt

    pub leads_over : (backwards : Bool) (i : ℕ) (s next : State) → (backwards ≡ true → 0 < i) → IsSymbolAt t (offset_of backwards i) (symbol_of y) →
        LeadsTagged backwards m s y next → LeadsAcross m.alphabet m (side_at backwards t i) (far_at backwards t i) s next
    leads_over false i s next some is leads =
        subst (λ a. LeadsAcross a m (after_at t i) (before_at t (i + 1)) s next) (sym over) (table_law.symbol_ahead m t i (symbol_of y) s next is leads)
    leads_over true i s next some is leads =
        let lt = some refl in
        let e : i - 1 + 1 ≡ i = omega (arith, lt) in
        subst (λ a. LeadsAcross a m (before_at t i) (after_at t (i - 1)) s next) (sym over)
        (subst (λ k. LeadsAcross symbols m (before_at t k) (after_at t (i - 1)) s next) e (table_law.symbol_behind m t (i - 1) (symbol_of y) s next is leads))

    -- where a search begins in the other direction
    pub begins_over : (backwards : Bool) (anchored : Anchored) (i : ℕ) (s : State) → (backwards ≡ false → 0 < i) →
        IsSymbolAt t (offset_of (not backwards) i) (symbol_of y) → BeginsTagged backwards m anchored y s →
        BeginsBy m.alphabet m anchored (side_at (not backwards) t i) s
    begins_over false anchored i s some is begun =
        let lt = some refl in
        let e : i - 1 + 1 ≡ i = omega (arith, lt) in
        subst (λ a. BeginsBy a m anchored (before_at t i) s) (sym over)
        (subst (λ k. BeginsBy symbols m anchored (before_at t k) s) e (table_law.begins_after m anchored t (i - 1) (symbol_of y) s is begun))
    begins_over true anchored i s some is begun =
        subst (λ a. BeginsBy a m anchored (after_at t i) s) (sym over) (table_law.begins_before m anchored t i (symbol_of y) s is begun)

-- RUNS

module _ (m : Machine) (t : Text) (c : Course) where
  -- over what is read next
  pub runs_on : (backwards : Bool) (first : State) (i : ℕ) (s next : State) (found : Option (ℕ × ℕ)) → RunsBy backwards m t c first i s found → 0 < span backwards i c.bound →
      MayReadSide m.alphabet m (side_at backwards t i) → LeadsAcross m.alphabet m (side_at backwards t i) (far_at backwards t i) s next →
      RunsBy backwards m t c first (next_of backwards i) next (best_at i next.matched found)
  runs_on false first i s next found x left read leads = RunsOver.goes_on i s next x (omega (arith, left)) read leads
  runs_on true first i s next found x left read leads =
      let e : i ≡ i - 1 + 1 = omega (arith, left) in
      let B : ℕ → Type 0 = λ k. RunsDown m t c.bound c.from first k s (swapped found) → MayReadSide m.alphabet m (before_at t k) →
      LeadsAcross m.alphabet m (before_at t k) (after_at t (i - 1)) s next → RunsDown m t c.bound c.from first (i - 1) next (swapped (best_at k next.matched found)) in
      subst B (sym e)
      (λ y r l. subst (λ o. RunsDown m t c.bound c.from first (i - 1) next o) (least_as_best (i - 1 + 1) next.matched found)
      (RunsDownOver.goes_down (i - 1) s next y (omega (arith, left)) r l)) x read leads

  -- at the bound, where what stands beyond decides what is found
  pub bounded : (backwards : Bool) (first s next : State) (found : Option (ℕ × ℕ)) → RunsBy backwards m t c first c.bound s found →
      MayReadSide m.alphabet m (side_at backwards t c.bound) → LeadsBy m.alphabet m (side_at backwards t c.bound) s next →
      EndsFrom backwards m t c first (c.bound + 1) (met_last (best_at c.bound next.matched found))
  bounded false first s next found x read leads = EndsBelowOver.at_bound s next x read leads
  bounded true first s next found x read leads =
      subst (λ o. EndsDown m t c.bound c.from first c.earliest (met_last o)) (least_as_best c.bound next.matched found)
      (EndsDownOver.at_bound s next x read leads)

  -- where nothing goes on
  pub dies : (backwards : Bool) (first : State) (i : ℕ) (s : State) (found : Option (ℕ × ℕ)) → RunsBy backwards m t c first i s found → is_dead s ≡ true →
      EndsFrom backwards m t c first i (met_last found)
  dies false first i s found x e = EndsBelowOver.dead i s x e
  dies true first i s found x e = EndsDownOver.dead i s x e

  -- where the first find is enough
  pub stops_early : (backwards : Bool) (first : State) (i : ℕ) (s : State) (found : Option (ℕ × ℕ)) → RunsBy backwards m t c first i s found → c.earliest ≡ true → is_some found ≡ true →
      EndsFrom backwards m t c first i (met_last found)
  stops_early backwards first i s None x e never = cc never
  stops_early false first i s (Some n) x e some = EndsBelowOver.early i s e x
  stops_early true first i s (Some n) x e some = EndsDownOver.early i s e x

  -- at what may not be read
  pub quits : (backwards : Bool) (i r : ℕ) → (backwards ≡ false → r ≡ i + 1) → (first s : State) (found : Option (ℕ × ℕ)) → RunsBy backwards m t c first i s found →
      IsOn backwards i c.bound → (backwards ≡ true → 0 < i) → ¬ MayReadSide m.alphabet m (side_at backwards t i) →
      EndsFrom backwards m t c first r (stopped_at (offset_of backwards i))
  quits false i r far first s found x within some unread =
      subst (λ k. EndsBelow m t c.bound c.from first c.earliest (stopped_at i) k) (sym (far refl)) (EndsBelowOver.quit i s x within unread)
  quits true i r far first s found x within some unread =
      let lt = some refl in
      let e : i ≡ i - 1 + 1 = omega (arith, lt) in
      let B : ℕ → Type 0 = λ k. RunsDown m t c.bound c.from first k s (swapped found) → ¬ MayReadSide m.alphabet m (before_at t k) → c.bound ≤ k →
      EndsDown m t c.bound c.from first c.earliest (stopped_at (i - 1)) in
      subst B (sym e) (λ y u l. EndsDownOver.quit (i - 1) s y l u) x unread within

  -- where nothing was found, and nothing is under way
  pub rests : (backwards : Bool) → backwards ≡ false → (first : State) (i : ℕ) (s : State) (found : Option (ℕ × ℕ)) → RunsBy backwards m t c first i s found →
      IsOn backwards i c.bound → is_some found ≡ false → is_idle s ≡ true → EndsFrom backwards m t c first i (idle_at i)
  rests true never first i s found x le none idle = cc never
  rests false forwards first i s found x le none idle =
      EndsBelowOver.rests i s (subst (λ o. Runs m t c.bound c.from first i s o) (none_of found none) x) le idle

  -- where a run begins
  pub begins : (backwards : Bool) (s : State) → RunsBy backwards m t c s c.from s None
  begins false s = RunsOver.begun
  begins true s = RunsDownOver.begun

  pub never_begins : (backwards : Bool) → (backwards ≡ false → 0 < c.from) → ¬ MayReadSide m.alphabet m (side_at (not backwards) t c.from) →
      EndsBy backwards m t c c.from (stopped_at (offset_of (not backwards) c.from))
  never_begins false some unread = let lt = some refl in SearchEndsBelowOver.unread (c.from - 1) (omega (arith, lt)) unread
  never_begins true some unread = SearchEndsDownOver.unread unread

  -- HOW A SEARCH ENDS

  -- one that dies where it begins
  pub dies_first : (backwards may_rest : Bool) (s : State) → MayReadSide m.alphabet m (side_at (not backwards) t c.from) →
      BeginsBy m.alphabet m c.anchored (side_at (not backwards) t c.from) s → is_dead s ≡ true → HasEndedBy backwards m t c may_rest c.from (Found None)
  dies_first false may_rest s read begun e = SearchEndsBelowOver.ran s read begun (dies false s c.from s None RunsOver.begun e)
  dies_first true may_rest s read begun e = SearchEndsDownOver.ran s read begun (EndsDownOver.dead c.from s RunsDownOver.begun e)

  -- and one that goes on from the state in which it begins
  pub whole : (backwards may_rest : Bool) (first : State) → MayReadSide m.alphabet m (side_at (not backwards) t c.from) →
      BeginsBy m.alphabet m c.anchored (side_at (not backwards) t c.from) first → (r : ℕ) (e : Ended) → HasEndedFrom backwards m t c first may_rest r e →
      HasEndedBy backwards m t c may_rest r e
  whole false may_rest first read begun r (Found None) h = SearchEndsBelowOver.ran first read begun h
  whole false may_rest first read begun r (Found (Some n)) h = (h.0, h.1, SearchEndsBelowOver.ran first read begun h.2)
  whole false may_rest first read begun r (Idle i) h = (h.1, SearchEndsBelowOver.ran first read begun h.2)
  whole false may_rest first read begun r (Quit b p) h = (h.0, SearchEndsBelowOver.ran first read begun h.1)
  whole false may_rest first read begun r (GaveUp p memory) h = h
  whole true may_rest first read begun r (Found None) h = SearchEndsDownOver.ran first read begun h
  whole true may_rest first read begun r (Found (Some n)) h =
      subst (λ k. EndsBy true m t c r (met_last (Some (k, n.at)))) h.1 (SearchEndsDownOver.ran first read begun h.2)
  whole true may_rest first read begun r (Idle i) h = let never = h.0 in cc never
  whole true may_rest first read begun r (Quit b p) h = (h.0, SearchEndsDownOver.ran first read begun h.1)
  whole true may_rest first read begun r (GaveUp p memory) h = (h.1, h.0)

  pub quit_so : (backwards may_rest : Bool) (b p r : ℕ) → slice_get t.content p ≡ Some b → EndsBy backwards m t c r (stopped_at p) → HasEndedBy backwards m t c may_rest r (Quit b p)
  quit_so false may_rest b p r there e = (there, e)
  quit_so true may_rest b p r there e = (there, e)

  pub gave_so : (backwards may_rest : Bool) (p r : ℕ) (memory : Bool) → IsOn backwards c.from p → IsOn backwards p c.bound →
      HasEndedBy backwards m t c may_rest r (GaveUp p memory)
  gave_so false may_rest p r memory on within = (on, within)
  gave_so true may_rest p r memory on within = (within, on)

-- the offset of the byte beside a position
pub there_of : (backwards : Bool) (content : List ℕ) (i b : ℕ) → IsBeside backwards content i b → slice_get content (offset_of backwards i) ≡ Some b
there_of false content i b x = x
there_of true content i b x = x.1

pub some_before : (backwards : Bool) (content : List ℕ) (i b : ℕ) → IsBeside backwards content i b → backwards ≡ true → 0 < i
some_before false content i b x never = cc never
some_before true content i b x e = let lt = x.0 in omega (arith, lt)

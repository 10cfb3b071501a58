-- Runs that go on from a mark, and what marks say.
use Rattle.std.proofs.Common.{◌≡◌, ◌⊎◌, ℕ, ◌+◌, ◌-◌, ◌<◌, ◌≤◌, Bool, true, false, Option, Some, None, ◌≢◌, is_some, true≢false, inl, inr, refl, sym, subst, ap, ◌∙◌, arith}
use Rattle.std.proofs.lemmas.Option.{none-some}
use Rattle.std.specs.Option.{option_or}
use Rattle.rc_text.specs.Text.{Keeps, Searched}
use Rattle.rc_program.specs.Text.{Text}
use Rattle.rc_determinize.specs.States.{State, best_at}
use Rattle.rc_dfa.specs.Machine.{Machine}
use Rattle.rc_dfa.specs.Runs.{RunsOver, Runs, RunEnd, met_last, stopped_at, idle_at, begun, goes_on}
use Rattle.rc_dfa.specs.Reads.{EndsBelowOver, EndsBelow, at_bound, dead, early, quit, rests}
use Rattle.rc_dfa.specs.declared.ended.Ended.{Ended}
use Rattle.rc_dfa.specs.declared.ended.Ended.TheVariants.{Found, Idle, Quit, GaveUp}
use Rattle.rc_dfa.specs.declared.ended.Met.{Met}
use Rattle.rc_dfa.specs.declared.ended.Reading.{Reading}
use Rattle.rc_dfa.specs.Ended.{gave_up}
use Rattle.rc_dfa.specs.declared.memo.Mark.{Mark}
use Rattle.rc_dfa.specs.declared.memo.Memo.{Memo}
use Rattle.rc_table_search.specs.Views.{View, Holds, IsLawful, IsNoted}
use Rattle.rc_table_search.specs.Ways.{Course, HasEndedFrom}
use Rattle.rc_table_search.specs.Searches.{HasRun, IsAt, Says, course_of, run_spent, text_in}
use Rattle.rc_table_search.specs.Memos.{FindsBelow, IsMark, IsMemo, Joins}
use Rattle.rc_table_search.specs.MemoLaws.{kept_text}
use Rattle.rc_table_search.specs.declared.run.Stand.{Stand}
use Rattle.rc_table_search.specs.declared.search.Request.{Request}
use Rattle.rc_table_search.proofs.WayLemmas.{none_of}

-- ONE RUN AFTER ANOTHER

or_none : (o : Option (ℕ × ℕ)) → option_or o None ≡ o
or_none None = refl
or_none (Some n) = refl

best_or : (i : ℕ) (matched : Option ℕ) (a b : Option (ℕ × ℕ)) → option_or (best_at i matched a) b ≡ best_at i matched (option_or a b)
best_or i None a b = refl
best_or i (Some k) a b = refl

module _ (m : Machine) (t : Text) (hi from : ℕ) (first : State) (mid : ℕ) (s : State) (found : Option (ℕ × ℕ)) (before : Runs m t hi from first mid s found) where
  runs_both : (i : ℕ) (next : State) (met : Option (ℕ × ℕ)) → Runs m t hi mid s i next met → Runs m t hi from first i next (option_or met found)
  runs_both i next met begun = before
  runs_both i next met (goes_on {met = last} k u w x lt read leads) =
      subst (λ o. Runs m t hi from first (k + 1) next o) (sym (best_or k next.matched last found))
      (RunsOver.goes_on k u next (runs_both k u last x) lt read leads)

  abbrev with_found : RunEnd → RunEnd
  with_found (met_last o) = met_last (option_or o found)
  with_found (stopped_at p) = stopped_at p
  with_found (idle_at i) = idle_at i

  abbrev IsNoRest : RunEnd → Type 0
  IsNoRest (idle_at i) = ⊥
  IsNoRest _ = Unit {0}

  pub ends_both : (enough : Bool) (e : RunEnd) (r : ℕ) → IsNoRest e → EndsBelow m t hi mid s enough e r → EndsBelow m t hi from first enough (with_found e) r
  ends_both enough e r some (at_bound {met = last} u next x read leads) =
      subst (λ o. EndsBelow m t hi from first enough (met_last o) (hi + 1)) (sym (best_or hi next.matched last found))
      (EndsBelowOver.at_bound u next (runs_both hi u last x) read leads)
  ends_both enough e r some (dead {met = last} i u x is) = EndsBelowOver.dead i u (runs_both i u last x) is
  ends_both enough e r some (early {met = last} i u is x) = EndsBelowOver.early i u is (runs_both i u (Some last) x)
  ends_both enough e r some (quit {met = last} i u x le unread) = EndsBelowOver.quit i u (runs_both i u last x) le unread
  ends_both enough e r never (rests i u x le idle) = absurd never

module _ (C : Type 0) (v : View C) (noted : Option (ℕ × ℕ)) (rest : Reading) where
  -- the rest found nothing
  pub joins_none : (whole : Reading) → Says v false (λ m last. IsNoted v m noted last) whole.ended → whole.read ≡ rest.read → rest.ended ≡ Found None → Joins v noted rest whole
  joins_none whole said read is = record {
    refused = said.done ∙ sym (ap gave_up is);
    says = λ m of found tells t c d first s bound enough le before h.
        let none = subst (λ e. HasEndedFrom false m t d s false rest.read e) is h in
        let there = subst (λ hi. EndsBelow m t hi d.from s d.earliest (met_last None) rest.read) bound none in
        let so = subst (λ b. EndsBelow m t c.bound d.from s b (met_last None) rest.read) enough there in
        said.says m of found tells t c first false whole.read
        (subst (λ r. EndsBelow m t c.bound c.from first c.earliest (met_last found) r) (sym read)
        (ends_both m t c.bound c.from first d.from s found before c.earliest (met_last None) rest.read tt so));
  }

  found_still : (ended : Ended) → ended ≢ Found None → (m : Machine) (found : Option (ℕ × ℕ)) (t : Text) (c d : Course) (first s : State) (r : ℕ) → d.bound ≡ c.bound →
      d.earliest ≡ c.earliest → c.from ≤ d.from → Runs m t c.bound c.from first d.from s found → HasEndedFrom false m t d s false r ended →
      HasEndedFrom false m t c first false r ended
  found_still (Found None) ne m found t c d first s r bound enough le before h = absurd (ne refl)
  found_still (Found (Some n)) ne m found t c d first s r bound enough le before h = (
    h.0,
    h.1,
    ends_both m t c.bound c.from first d.from s found before c.earliest (met_last (Some (h.0, n.at))) r tt
        (subst (λ b. EndsBelow m t c.bound d.from s b (met_last (Some (h.0, n.at))) r) enough
        (subst (λ hi. EndsBelow m t hi d.from s d.earliest (met_last (Some (h.0, n.at))) r) bound h.2)),
  )
  found_still (Idle i) ne m found t c d first s r bound enough le before h = let never = h.1 in cc never
  found_still (Quit b p) ne m found t c d first s r bound enough le before h = (
    h.0,
    ends_both m t c.bound c.from first d.from s found before c.earliest (stopped_at p) r tt
        (subst (λ b. EndsBelow m t c.bound d.from s b (stopped_at p) r) enough (subst (λ hi. EndsBelow m t hi d.from s d.earliest (stopped_at p) r) bound h.1)),
  )
  found_still (GaveUp p memory) ne m found t c d first s r bound enough le before h =
      let low = h.0 in let high = h.1 in (omega (arith, low, le), omega (arith, high, bound))

  -- the rest found something, or has no answer
  pub joins_same : rest.ended ≢ Found None → Joins v noted rest rest
  joins_same ne = record {
    refused = refl;
    says = λ m of found tells t c d first s bound enough le before h. found_still rest.ended ne m found t c d first s rest.read bound enough le before h;
  }

-- how the rest ended
pub is_none : (ended : Ended) (o : Option Met) (some : Bool) → ended ≡ Found o → some ≡ is_some o → some ≡ false → ended ≡ Found None
is_none ended o some is same none = is ∙ ap Found (none_of o (sym same ∙ none))

pub not_none : (ended : Ended) (o : Option Met) (some : Bool) → ended ≡ Found o → some ≡ is_some o → some ≡ true → ended ≢ Found None
not_none ended None some is same so e = true≢false (sym so ∙ same)
not_none ended (Some n) some is same so e = let both = sym is ∙ e in cc both

pub not_found : (ended : Ended) → ((i : ℕ) × (ended ≡ Idle i)) ⊎ (((b p : ℕ) × (ended ≡ Quit b p)) ⊎ ((p : ℕ) × (memory : Bool) × (ended ≡ GaveUp p memory))) → ended ≢ Found None
not_found ended (inl x) e = let both = sym x.1 ∙ e in cc both
not_found ended (inr (inl x)) e = let both = sym x.2 ∙ e in cc both
not_found ended (inr (inr x)) e = let both = sym x.2 ∙ e in cc both

-- WHAT MARKS SAY

pub finds_so : (m : Machine) (t : Text) (d : Course) (s : State) (may_rest : Bool) (r : ℕ) (o : Option Met) → FindsBelow m t d.bound d.from s d.earliest o r →
    HasEndedFrom false m t d s may_rest r (Found o)
finds_so m t d s may_rest r None h = h
finds_so m t d s may_rest r (Some n) h = h

pub so_finds : (m : Machine) (t : Text) (d : Course) (s : State) (may_rest : Bool) (r : ℕ) (o : Option Met) → HasEndedFrom false m t d s may_rest r (Found o) →
    FindsBelow m t d.bound d.from s d.earliest o r
so_finds m t d s may_rest r None h = h
so_finds m t d s may_rest r (Some n) h = h

pub kept_same : (s : Searched) → Keeps s s
kept_same s = record { content = refl; span = refl; slice = refl; anchored = refl; earliest = refl }

module _ (C : Type 0) (v : View C) (laws : IsLawful v) where
  mark_on : (a b : C) (seen : Searched) (bound : ℕ) (enough : Bool) (k : Mark) → Holds v a b → IsMark v a seen bound enough k → IsMark v b seen bound enough k
  mark_on a b seen bound enough k h x = record {
    is_row = h.is_row k.row x.is_row;
    ends = λ m of s has. x.ends m of s (h.has_state m k.row s x.is_row has);
  }

  -- a memo stays true while states are added
  pub memo_on : (a b : C) (n : ℕ) (seen : Searched) (bound : ℕ) (enough : Bool) (t : Memo) → v.IsCache a → v.Spends a b n → IsMemo v a seen bound enough t →
      IsMemo v b seen bound enough t
  memo_on a b n seen bound enough t cache spends x =
      let past = x.past in
      let rises = laws.era_rises a b n spends in record {
        past = omega (arith, past, rises);
        marks = λ same below k has.
            let still : v.era a ≡ t.era = omega (arith, same, past, rises) in
            mark_on a b seen bound enough k (laws.holds a b n spends cache (same ∙ sym still) (omega (arith, still, below))) (x.marks still below k has);
      }

  -- of what is shown of the input a run doesn't speak
  pub run_kept : (s b : Searched) → Keeps s b → (q : Request) (c0 c : C) (row r : ℕ) (e : Ended) → HasRun v false (record { seen = b; begun = c0; row = row }) q c r e →
      HasRun v false (record { seen = s; begun = c0; row = row }) q c r e
  run_kept s b kept q c0 c row r e run = record {
    cache = run.cache;
    spends = run.spends;
    ended = λ m of first has. subst (λ text. HasEndedFrom false m text (course_of q) first q.extent.may_rest r e) (kept_text m.setting.terminator s b kept) (run.ended m of first has);
    gives_up = run.gives_up;
  }

  -- AFTER A LEG

  module _ (seen now : Searched) (kept : Keeps seen now) (q : Request) (c0 c1 : C) (row until : ℕ) (stand : Stand)
      (leg : IsAt v false (record { seen = seen; begun = c0; row = row }) q c1 until stand) (within : until ≤ q.end) (rests : q.extent.may_rest ≡ false) where
    abbrev course : Course
    course = record { from = until; bound = q.end; anchored = q.anchored; earliest = q.extent.earliest }

    -- the leg ended at a mark
    pub run_marked : (k : Mark) (whole : Reading) → k.at ≡ until → k.row ≡ stand.row → IsMark v c1 seen q.end q.extent.earliest k →
        Joins v stand.noted (record { ended = Found k.found; read = k.read }) whole →
        HasRun v false (record { seen = seen; begun = c0; row = row }) q c1 whole.read whole.ended
    run_marked k whole at same x joins =
        let on = leg.on in record {
          cache = leg.cache;
          spends = laws.spends_within c0 c1 (until - q.from) (run_spent false q) (omega (arith, on, within)) leg.spends;
          ended = λ m of first has.
              let y = leg.stands m of first has in
              let finds = subst (λ i. FindsBelow m (text_in m seen) q.end i y.state q.extent.earliest k.found k.read) at
              (x.ends m of y.state (subst (λ r. v.HasState c1 m r y.state) (sym same) y.in_row)) in
              subst (λ b. HasEndedFrom false m (text_in m seen) (course_of q) first b whole.read whole.ended) (sym rests)
              (joins.says m of y.found y.tells (text_in m seen) (course_of q) course first y.state refl refl on y.standing
              (finds_so m (text_in m seen) course y.state false k.read k.found finds));
          gives_up = λ memory e. absurd (none-some memory (sym joins.refused ∙ e));
        }

    module _ (c2 : C) (rest : Reading) (run : HasRun v false (record { seen = now; begun = c1; row = stand.row })
        (record { anchored = q.anchored; from = until; end = q.end; extent = q.extent }) c2 rest.read rest.ended) where
      -- the rest was run
      pub run_joined : (whole : Reading) → Joins v stand.noted rest whole → HasRun v false (record { seen = seen; begun = c0; row = row }) q c2 whole.read whole.ended
      run_joined whole joins =
          let on = leg.on in
          let le : until - q.from + (q.end - until + 1) ≤ run_spent false q = omega (arith, on, within) in record {
            cache = run.cache;
            spends = laws.spends_within c0 c2 (until - q.from + (q.end - until + 1)) (run_spent false q) le
                (laws.spends_both c0 c1 c2 (until - q.from) (q.end - until + 1) leg.spends run.spends);
            ended = λ m of first has.
                let y = leg.stands m of first has in
                let z = run.ended m of y.state y.in_row in
                let there = subst (λ text. HasEndedFrom false m text course y.state q.extent.may_rest rest.read rest.ended) (kept_text m.setting.terminator seen now kept) z in
                subst (λ b. HasEndedFrom false m (text_in m seen) (course_of q) first b whole.read whole.ended) (sym rests)
                (joins.says m of y.found y.tells (text_in m seen) (course_of q) course first y.state refl refl on y.standing
                (subst (λ b. HasEndedFrom false m (text_in m seen) course y.state b rest.read rest.ended) rests there));
            gives_up = λ memory e.
                laws.gives_up_within c0 c2 (until - q.from + (q.end - until + 1)) (run_spent false q) memory le
                (laws.gives_up_later c0 c1 c2 (until - q.from) (q.end - until + 1) memory leg.spends (run.gives_up memory (sym joins.refused ∙ e)));
          }

      -- and left a mark
      pub mark_left : (last : Searched) → Keeps now last → (k : Mark) → v.era c2 ≡ v.era c1 → v.era c1 < 18446744073709551615 → k.at ≡ until → k.row ≡ stand.row →
          k.read ≡ rest.read → rest.ended ≡ Found k.found → IsMark v c2 last q.end q.extent.earliest k
      mark_left last still k same below at in_row read is =
          let h = laws.holds c1 c2 (q.end - until + 1) run.spends leg.cache same below in
          let there = subst (λ r. v.IsRow c1 r) (sym in_row) leg.is_row in record {
            is_row = h.is_row k.row there;
            ends = λ m of s has.
                let z = run.ended m of s (subst (λ r. v.HasState c1 m r s) in_row (h.has_state m k.row s there has)) in
                let found = subst (λ e. HasEndedFrom false m (text_in m now) course s q.extent.may_rest rest.read e) is z in
                let finds = so_finds m (text_in m now) course s q.extent.may_rest rest.read k.found found in
                subst (λ text. FindsBelow m text q.end k.at s q.extent.earliest k.found k.read) (sym (kept_text m.setting.terminator now last still))
                (subst (λ i. FindsBelow m (text_in m now) q.end i s q.extent.earliest k.found k.read) (sym at)
                (subst (λ r. FindsBelow m (text_in m now) q.end until s q.extent.earliest k.found r) (sym read) finds));
          }

-- What stands of a text that is written as it comes in, step by step.
use Rattle.std.proofs.Common.{◌≡◌, ◌∙◌, ◌↔◌, ◌+◌, ◌-◌, ◌<◌, ◌≤◌, ℕ, Bool, true, false, List, [], ◌∷◌, ◌++◌, Option, Some, None, IsTrue, ap, ap₂, append-nil, append_assoc, arith, drop, length, length-append, length-drop, min, option_and_then, refl, slice_range, subst, sym, true≢false}
use Rattle.std.specs.Io.KnownBytes.{Appends}
use Rattle.std.specs.Option.{option_map}
use Rattle.std.proofs.Math.Seq.{drop-length}
use Rattle.std.proofs.lemmas.List.{length-map}
use Rattle.std.proofs.lemmas.Option.{none-some, same_Some}
use Rattle.rc_text.specs.Found.{Found}
use Rattle.rc_text.specs.declared.types.MatchKind.TheVariants.{LeftmostFirst as leftmost_first}
use Rattle.rc_pattern.specs.WellFormed.{group_names}
use Rattle.rc_captures.specs.Captures.{HasMatch, IsCapturesFor, captures_pattern, captures_slots, group_span, match_at, match_of}
use Rattle.rc_captures.specs.Names.{Names}
use Rattle.rc_captures.specs.declared.captures.Captures.{Captures}
use Rattle.rc_program.specs.Answer.{Chosen, Search, answer, chosen, found, from_start, pattern_of, slot_of}
use Rattle.rc_program.specs.Matches.{from_on}
use Rattle.rc_program.specs.Program.{shown}
use Rattle.rc_program.specs.Sought.{Sought, search_for}
use Rattle.rc_program.proofs.AnswerLemmas.{answer_law}
use Rattle.rc_pikevm_search.specs.Tells.{KeepsAll, TellsBy, TellsOf}
use Rattle.rc_pikevm_search.specs.Walks.{next_start, walks_left}
use Rattle.rc_reach.specs.Edits.{match_further}
use Rattle.rc_reach.specs.Live.{list_by, over_content}
use Rattle.rc_program.specs.Kinds.{matches_by_kind}
use Rattle.rc_settings.specs.Settings.{which_captures_of}
use Rattle.rc_settings.specs.Which.{is_grouped}
use Rattle.rc_build.proofs.Matched.{keeps_is_for, tells_match_by}
use Rattle.api_meta.specs.Caches.{IsCacheFor}
use Rattle.api_meta.specs.Views.{regex_kind, regex_names, regex_patterns, regex_settings, sought}
use Rattle.api_meta.specs.declared.regex.Regex.{Regex}
use Rattle.regex_cursor.specs.Output.{whole}
use Rattle.regex_cursor.proofs.Grown.{Appends-nil, Appends-trans}
use Rattle.chunk_replace.specs.Replaced.{matches_of, replaced_by, replaced_from, replacement}
use Rattle.chunk_replace.specs.Template.{Item}
use Rattle.stream_search.specs.Groups.{AreOf, TellsKept, TellsNext, captures_further}
use Rattle.stream_search.specs.Searches.{seeks}
use Rattle.stream_search.specs.Searches
use Rattle.stream_search.specs.Searching.{Streaming, Takes, WasFed}
use Rattle.stream_search.specs.Streams.{MayBecome}
use Rattle.rcsub.specs.Streamed.{IsDone, IsReady, PutsFor, Replaces, Stands, put_for, search_of}
use Rattle.rcsub.specs.declared.streamed.Streamed.{Streamed}
use Rattle.rcsub.proofs.Moved.{keeps_further, kept_range, match_of_further, same_replacement}
use Rattle.rcsub.proofs.Walks.{chosen_there, replaces_all, replaces_gap, replaces_match, replaces_none}

-- ---- the walk that captures tell

no_match : (caps : Captures) (p : Option ℕ) (m : Found) → p ≡ None → option_and_then (λ q. option_and_then (match_at q) (group_span caps 0)) p ≡ Some m → ⊥
no_match caps None m e f = none-some m f
no_match caps (Some q) m e f = none-some q (sym e)

-- The walk that a search chooses, of a match whose groups the captures hold.
pub record Told (x : Search) (caps : Captures) (m : Found) : Type 0 where
  pub walk : Chosen
  pub is : chosen x ≡ Some walk
  pub matched : found x walk ≡ m
  pub has : HasMatch caps (pattern_of x walk) (slot_of x walk)

answered : (x : Search) (o : Option Found) → o ≡ answer x → (c : Chosen) → chosen x ≡ Some c → o ≡ Some (found x c)
unfolding answer
answered x o e c is = e ∙ ap (option_map (found x)) is

told_walk : (r : Regex) (content : List ℕ) (k : ℕ) (caps : Captures) (m : Found) → regex_kind r ≡ leftmost_first → KeepsAll (regex_names r) caps →
    TellsBy (regex_kind r) (from_on (search_of r content) k) caps → match_of caps ≡ Some m → Told (from_on (search_of r content) k) caps m
told_walk r content k caps m first kept tells some =
    by_walk (chosen x) refl (subst (λ y. TellsBy y x caps) first tells)
  where
    x : Search
    x = from_on (search_of r content) k

    by_walk : (o : Option Chosen) → chosen x ≡ o → TellsOf x (chosen x) caps → Told x caps m
    by_walk None is t = absurd (no_match caps (captures_pattern caps) m (subst (λ p. TellsOf x p caps) is t) some)
    by_walk (Some c) is t =
        let shows = shown (is_grouped (which_captures_of (regex_settings r))) (regex_patterns r) in
        record {
          walk = c;
          is = is;
          matched =
              same_Some (found x c) m
              (sym (answered x (match_of caps)
              (tells_match_by leftmost_first shows x (regex_names r) caps refl (length-map shows group_names) (keeps_is_for (regex_names r) caps kept) t) c is)
              ∙ some);
          has = subst (λ p. TellsOf x p caps) is t;
        }

-- what the text may become goes on from what was fed
goes_on : (f : Bool) (fed content : List ℕ) → MayBecome f fed content → (more : List ℕ) × (content ≡ fed ++ more)
goes_on false fed content b = b
goes_on true fed content b = ([], b ∙ sym (append-nil fed))

some_of : (d : ℕ) (o : Option Found) (m : Found) → option_map (match_further d) o ≡ Some m → (n : Found) × (o ≡ Some n)
some_of d None m e = absurd (none-some m e)
some_of d (Some n) m e = (n, refl)

-- ---- one match

-- What was put for a match, in each content that the stream may become.
pub record PutFor (items : List Item) (s : Streaming) (fed : List ℕ) (from : ℕ) (m : Found) (old new : Option (List ℕ)) : Type 0 where
  pub put : List ℕ
  pub appended : Appends old new put
  pub walk : (content : List ℕ) → MayBecome s.is_finished fed content → (c : Chosen)
      × (from_start (search_of s.regex content) c.start ≡ Some c) × (found (search_of s.regex content) c ≡ m)
      × (put ≡ slice_range content from m.start ++ put_for s.regex items content c)

module _ (items : List Item) (s : Streaming) (fed : List ℕ) (first : regex_kind s.regex ≡ leftmost_first) (kept_is : s.kept ≡ drop s.gone fed)
    (inside : s.gone ≤ length fed) where
  put_one : (caps : Captures) (m : Found) (from : ℕ) (old new : Option (List ℕ)) → KeepsAll (regex_names s.regex) caps → TellsNext s fed caps → TellsKept s caps →
      AreOf s caps m → s.gone ≤ from → from ≤ m.start → m.start ≤ s.gone + length s.kept →
      PutsFor (slice_range s.kept (from - s.gone) (m.start - s.gone)) items s.kept caps old new → PutFor items s fed from m old new
  put_one caps m from old new kept next here of low order high put =
      let r = s.regex in
      let (n, some) = some_of s.gone (match_of caps) m of in
      let near = told_walk r s.kept here.0 caps n first kept here.1 some in
      let y = from_on (search_of r s.kept) here.0 in
      let bytes = slice_range s.kept (from - s.gone) (m.start - s.gone) ++ replacement s.kept (regex_names r) y items near.walk in
      record {
        put = bytes;
        appended = put (regex_names r) y near.walk kept near.has;
        walk = λ content b.
            let (more, is) = goes_on s.is_finished fed content b in
            let k = next_start (regex_kind r) (search_of r content) s.from s.last in
            let far = told_walk r content k (captures_further s.gone caps) m first (keeps_further s.gone caps (regex_names r) kept) (next content b)
            (match_of_further s.gone caps ∙ of) in
            let room = ap length kept_is in
            let gap : slice_range s.kept (from - s.gone) (m.start - s.gone) ≡ slice_range content from m.start =
            ap (λ l. slice_range l (from - s.gone) (m.start - s.gone)) kept_is
            ∙ kept_range fed more s.gone (from - s.gone) (m.start - s.gone) inside (omega (arith, high, room))
            ∙ ap₂ (λ a b. slice_range (fed ++ more) a b) (let e : (from - s.gone) + s.gone ≡ from = omega (arith, low) in e)
            (let e : (m.start - s.gone) + s.gone ≡ m.start = omega (arith, low, order) in e)
            ∙ ap (λ l. slice_range l from m.start) (sym is) in
            let by : replacement s.kept (regex_names r) y items near.walk ≡ put_for r items content far.walk =
            ap (λ l. replacement l (regex_names r) y items near.walk) kept_is
            ∙ same_replacement fed more s.gone inside (regex_names r) caps y near.walk kept near.has ((answer_law.chosen_some y near.walk).0 near.is)
            (let e : length s.kept ≤ length (drop s.gone fed) = omega (arith, room) in e) (search_of r content) far.walk items far.has
            ∙ ap (λ l. replacement l (regex_names r) (search_of r content) items far.walk) (sym is) in (
              far.walk,
              chosen_there (from_on (search_of r content) k) far.walk far.is,
              far.matched,
              ap₂ (λ a b. a ++ b) gap by,
            );
      }

some_more : (ms : List Found) (m : Found) → 0 < length (ms ++ m ∷ [])
some_more ms m = let l = length-append ms (m ∷ []) in omega (arith, l)

-- ---- what a text that comes in holds

-- after bytes came
pub ready_fed : (chunk : List ℕ) (s t : Streamed) → IsReady s → s.stream.from - 4 ≤ s.written → Takes chunk s.stream t.stream → t.cache ≡ s.cache →
    t.captures ≡ s.captures → t.written ≡ s.written → IsReady t
ready_fed chunk s t ready close takes cache captures at =
    let same = ap (λ (x : Streaming). x.regex) takes.taken in
    let gone = ap (λ (x : Streaming). x.gone) takes.taken in
    let from = ap (λ (x : Streaming). x.from) takes.taken in
    let long = ap (λ (x : Streaming). length x.kept) takes.taken in
    let drops = length-drop (s.stream.from - 4 - s.stream.gone) s.stream.kept in
    let both = length-append (drop (s.stream.from - 4 - s.stream.gone) s.stream.kept) chunk in
    let a = ready.margin in
    let b = ready.kept in
    let d = ready.inside in
    let e = ready.ahead in
    record {
      cache =
          subst (λ x. IsCacheFor (regex_patterns x) (regex_settings x) t.cache) (sym same)
          (subst (IsCacheFor (regex_patterns s.stream.regex) (regex_settings s.stream.regex)) (sym cache) ready.cache);
      captures =
          subst (λ x. KeepsAll (regex_names x) t.captures) (sym same) (subst (KeepsAll (regex_names s.stream.regex)) (sym captures) ready.captures);
      margin = omega (arith, gone, from);
      kept = omega (arith, gone, at, close);
      inside = omega (arith, gone, at, long, drops, both, a, b, d, close);
      ahead = omega (arith, from, at, e);
    }

-- after the search went on, or ended
pub ready_on : (s t : Streamed) → IsReady s → t.stream.regex ≡ s.stream.regex → t.stream.gone ≡ s.stream.gone → t.stream.kept ≡ s.stream.kept →
    s.stream.from ≤ t.stream.from → t.written ≡ s.written → IsCacheFor (regex_patterns s.stream.regex) (regex_settings s.stream.regex) t.cache →
    KeepsAll (regex_names s.stream.regex) t.captures → IsReady t
ready_on s t ready same gone kept onward at made keeps =
    let long = ap length kept in
    let a = ready.margin in
    let b = ready.kept in
    let d = ready.inside in
    let e = ready.ahead in
    record {
      cache = subst (λ x. IsCacheFor (regex_patterns x) (regex_settings x) t.cache) (sym same) made;
      captures = subst (λ x. KeepsAll (regex_names x) t.captures) (sym same) keeps;
      margin = omega (arith, a, gone, onward);
      kept = omega (arith, b, gone, at);
      inside = omega (arith, d, gone, long, at);
      ahead = omega (arith, e, onward, at);
    }

-- after a match was put
pub ready_match : (s t : Streamed) (m : Found) → IsReady s → t.stream.regex ≡ s.stream.regex → t.stream.gone ≡ s.stream.gone → t.stream.kept ≡ s.stream.kept →
    s.stream.from ≤ t.stream.from → t.stream.from ≡ m.end → m.start ≤ m.end → s.stream.from ≤ m.start → m.end ≤ s.stream.gone + length s.stream.kept →
    t.written ≡ m.end → IsCacheFor (regex_patterns s.stream.regex) (regex_settings s.stream.regex) t.cache → KeepsAll (regex_names s.stream.regex) t.captures → IsReady t
ready_match s t m ready same gone kept onward ends order behind high at made keeps =
    let long = ap length kept in
    let a = ready.margin in
    let b = ready.kept in
    let e = ready.ahead in
    record {
      cache = subst (λ x. IsCacheFor (regex_patterns x) (regex_settings x) t.cache) (sym same) made;
      captures = subst (λ x. KeepsAll (regex_names x) t.captures) (sym same) keeps;
      margin = omega (arith, a, gone, onward);
      kept = omega (arith, b, e, gone, at, order, behind);
      inside = omega (arith, gone, long, at, high);
      ahead = omega (arith, at, ends);
    }

-- ---- what stands

-- nothing yet
pub stands_none : (items : List Item) (s : Streamed) (old : Option (List ℕ)) → WasFed [] [] s.stream → s.written ≡ 0 → s.any ≡ false → Stands items [] [] s old old
stands_none items s old was at none = record {
  was = was;
  any = ((λ x. absurd (true≢false (sym x ∙ none))), (λ x. absurd (omega (arith, x))));
  put = [];
  appended = Appends-nil old;
  replaces = λ content b. subst (λ n. Replaces s.stream.regex items content [] n []) (sym at) (replaces_none s.stream.regex items content);
}

-- a match, and what was put for it
pub stands_match : (items : List Item) (fed : List ℕ) (told : List Found) (s t : Streamed) (m : Found) (caps : Captures) (old now new : Option (List ℕ)) →
    regex_kind s.stream.regex ≡ leftmost_first → Stands items fed told s old now → WasFed fed (told ++ m ∷ []) t.stream →
    t.stream.regex ≡ s.stream.regex → t.stream.is_finished ≡ s.stream.is_finished → t.written ≡ m.end → t.any ≡ true →
    KeepsAll (regex_names s.stream.regex) caps → TellsNext s.stream fed caps → TellsKept s.stream caps → AreOf s.stream caps m →
    s.stream.gone ≤ s.written → s.written ≤ m.start → m.start ≤ s.stream.gone + length s.stream.kept →
    PutsFor (slice_range s.stream.kept (s.written - s.stream.gone) (m.start - s.stream.gone)) items s.stream.kept caps now new →
    Stands items fed (told ++ m ∷ []) t old new
stands_match items fed told s t m caps old now new first st was same fin at any kept next here of low order high put =
    let p = put_one items s.stream fed first st.was.kept_is st.was.inside caps m s.written now new kept next here of low order high put in
    record {
      was = was;
      any = ((λ x. some_more told m), (λ x. any));
      put = st.put ++ p.put;
      appended = Appends-trans old now new st.put p.put st.appended p.appended;
      replaces = λ content b.
          let c = subst (λ f. MayBecome f fed content) fin b in
          let w = p.walk content c in
          subst (λ x. Replaces x items content (told ++ m ∷ []) t.written (st.put ++ p.put)) (sym same)
          (subst (λ n. Replaces s.stream.regex items content (told ++ m ∷ []) n (st.put ++ p.put)) (sym at)
          (subst (λ l. Replaces s.stream.regex items content (told ++ m ∷ []) m.end (st.put ++ l)) (sym w.3)
          (replaces_match s.stream.regex items content told s.written st.put w.0 m (st.replaces content c) w.1 w.2 order)));
    }

-- the bytes up to a place
pub stands_gap : (items : List Item) (fed : List ℕ) (told : List Found) (s : Streamed) (to : ℕ) (old now new : Option (List ℕ)) →
    Stands items fed told s old now → s.stream.gone ≤ s.written → s.written ≤ to → to ≤ s.stream.gone + length s.stream.kept →
    Appends now new (slice_range s.stream.kept (s.written - s.stream.gone) (to - s.stream.gone)) →
    Stands items fed told (record s { written = to }) old new
stands_gap items fed told s to old now new st low order high put =
    let bytes = slice_range s.stream.kept (s.written - s.stream.gone) (to - s.stream.gone) in
    record {
      was = st.was;
      any = st.any;
      put = st.put ++ bytes;
      appended = Appends-trans old now new st.put bytes st.appended put;
      replaces = λ content b.
          subst (λ l. Replaces s.stream.regex items content told to (st.put ++ l)) (sym (range content b))
          (replaces_gap s.stream.regex items content told s.written to st.put order (st.replaces content b));
    }
  where
    range : (content : List ℕ) → MayBecome s.stream.is_finished fed content →
        slice_range s.stream.kept (s.written - s.stream.gone) (to - s.stream.gone) ≡ slice_range content s.written to
    range content b =
        let (more, is) = goes_on s.stream.is_finished fed content b in
        let room = ap length st.was.kept_is in
        ap (λ l. slice_range l (s.written - s.stream.gone) (to - s.stream.gone)) st.was.kept_is
        ∙ kept_range fed more s.stream.gone (s.written - s.stream.gone) (to - s.stream.gone) st.was.inside (omega (arith, high, room))
        ∙ ap₂ (λ a b. slice_range (fed ++ more) a b) (let e : (s.written - s.stream.gone) + s.stream.gone ≡ s.written = omega (arith, low) in e)
        (let e : (to - s.stream.gone) + s.stream.gone ≡ to = omega (arith, low, order) in e)
        ∙ ap (λ l. slice_range l s.written to) (sym is)

-- the search went on
pub stands_on : (items : List Item) (fed : List ℕ) (told : List Found) (s t : Streamed) (old new : Option (List ℕ)) → Stands items fed told s old new →
    WasFed fed told t.stream → t.stream.regex ≡ s.stream.regex → t.stream.is_finished ≡ s.stream.is_finished → t.written ≡ s.written → t.any ≡ s.any →
    Stands items fed told t old new
stands_on items fed told s t old new st was same fin at any = record {
  was = was;
  any = subst (λ x. IsTrue x ↔ (0 < length told)) (sym any) st.any;
  put = st.put;
  appended = st.appended;
  replaces = λ content b.
      subst (λ x. Replaces x items content told t.written st.put) (sym same)
      (subst (λ n. Replaces s.stream.regex items content told n st.put) (sym at)
      (st.replaces content (subst (λ f. MayBecome f fed content) fin b)));
}

-- more bytes came
pub stands_fed : (items : List Item) (fed chunk : List ℕ) (told : List Found) (s t : Streamed) (old new : Option (List ℕ)) → Stands items fed told s old new →
    WasFed (fed ++ chunk) told t.stream → Takes chunk s.stream t.stream → t.written ≡ s.written → t.any ≡ s.any → Stands items (fed ++ chunk) told t old new
stands_fed items fed chunk told s t old new st was takes at any = record {
  was = was;
  any = subst (λ x. IsTrue x ↔ (0 < length told)) (sym any) st.any;
  put = st.put;
  appended = st.appended;
  replaces = λ content b.
      let same : t.stream.regex ≡ s.stream.regex = ap (λ (x : Streaming). x.regex) takes.taken in
      let going : t.stream.is_finished ≡ false = ap (λ (x : Streaming). x.is_finished) takes.taken ∙ takes.going in
      subst (λ x. Replaces x items content told t.written st.put) (sym same)
      (subst (λ n. Replaces s.stream.regex items content told n st.put) (sym at)
      (st.replaces content (subst (λ f. MayBecome f fed content) (sym takes.going)
      (before content (subst (λ f. MayBecome f (fed ++ chunk) content) going b)))));
}
  where
    before : (content : List ℕ) → MayBecome false (fed ++ chunk) content → MayBecome false fed content
    before content b = (chunk ++ b.0, b.1 ∙ append_assoc fed chunk b.0)

-- no more comes
pub stands_finished : (items : List Item) (fed : List ℕ) (told : List Found) (s : Streamed) (stream : Streaming) (old new : Option (List ℕ)) →
    Stands items fed told s old new → stream ≡ record s.stream { is_finished = true } → WasFed fed told stream →
    Stands items fed told (record s { stream = stream }) old new
stands_finished items fed told s stream old new st is was = record {
  was = was;
  any = st.any;
  put = st.put;
  appended = st.appended;
  replaces = λ content b.
      subst (λ (x : Streaming). Replaces x.regex items content told s.written st.put) (sym is)
      (st.replaces content (ended s.stream.is_finished content (subst (λ (x : Streaming). MayBecome x.is_finished fed content) is b)));
}
  where
    ended : (f : Bool) (content : List ℕ) → MayBecome true fed content → MayBecome f fed content
    ended false content b = ([], b ∙ sym (append-nil fed))
    ended true content b = b

-- ---- the whole

-- the search of a whole content is that of its input
whole_search : (q : Sought) (content : List ℕ) → length content < 18446744073709551616 → over_content (search_for q (whole [])) content ≡ search_for q (whole content)
whole_search q content fits =
    let a : length content ≡ min 18446744073709551615 (length content) = omega (arith, fits) in
    let b : length content ≡ min (min (length content) 18446744073709551615) (length content) = omega (arith, fits) in
    ap₂ (λ e h. record (search_for q (whole content)) {
      text = record (search_for q (whole content)).text { slice_end = e };
      hi = h;
    }) a b

module _ (items : List Item) (fed : List ℕ) (r : Regex) (first : regex_kind r ≡ leftmost_first) (fits : length fed < 18446744073709551616) where
  whole_is : search_of r fed ≡ search_for (sought r) (whole fed)
  whole_is = whole_search (sought r) fed fits

  replaced_is : replaced_from fed (put_for r items fed) 0 (walks_left leftmost_first (search_of r fed) 0 None) ≡ replaced_by r items fed
  replaced_is =
      ap (λ x. replaced_from fed (replacement fed (regex_names r) x items) 0 (walks_left leftmost_first x 0 None)) whole_is
      ∙ ap (λ k. replaced_from fed (replacement fed (regex_names r) (search_for (sought r) (whole fed)) items) 0 (walks_left k (search_for (sought r) (whole fed)) 0 None)) (sym first)

  matches_are : Searches.matches_of r fed ≡ matches_of r fed
  matches_are = ap (λ x. matches_by_kind (regex_kind r) x 0 None) whole_is

-- all was told and written
pub is_done : (items : List Item) (fed : List ℕ) (told : List Found) (s : Streamed) (r : Regex) (old new : Option (List ℕ)) → s.stream.regex ≡ r →
    regex_kind r ≡ leftmost_first → Stands items fed told s old new → s.stream.is_finished ≡ true → told ≡ Searches.matches_of r fed →
    s.written ≡ length fed → length fed < 18446744073709551616 → IsDone r items fed old new s.any
is_done items fed told s r old new same first st fin all at fits =
    let p : Replaces r items fed told s.written st.put =
    subst (λ x. Replaces x items fed told s.written st.put) same (st.replaces fed (subst (λ f. MayBecome f fed fed) (sym fin) refl)) in
    let over : drop s.written fed ≡ [] = ap (λ n. drop n fed) at ∙ drop-length fed in
    let list : told ≡ list_by leftmost_first (seeks r) fed = all ∙ ap (λ k. list_by k (seeks r) fed) first in
    let put : st.put ≡ replaced_by r items fed =
    sym (append-nil st.put) ∙ ap (λ l. st.put ++ l) (sym over) ∙ sym (replaces_all r items fed told s.written st.put p list) ∙ replaced_is items fed r first fits in
    record {
      put = subst (Appends old new) put st.appended;
      told = subst (λ (ms : List Found). IsTrue s.any ↔ (0 < length ms)) (all ∙ matches_are items fed r first fits) st.any;
    }

-- ---- step by step, as the code goes

module _ (items : List Item) (s t : Streamed) (stream : Streaming) (stays : stream ≡ record s.stream { from = stream.from; last = stream.last })
    (ready : IsReady s) (onward : s.stream.from ≤ stream.from) (holds : t.stream ≡ stream)
    (made : IsCacheFor (regex_patterns s.stream.regex) (regex_settings s.stream.regex) t.cache) (keeps : KeepsAll (regex_names s.stream.regex) t.captures) where
  regex_stays : t.stream.regex ≡ s.stream.regex
  regex_stays = ap (λ (x : Streaming). x.regex) (holds ∙ stays)

  gone_stays : t.stream.gone ≡ s.stream.gone
  gone_stays = ap (λ (x : Streaming). x.gone) (holds ∙ stays)

  kept_stays : t.stream.kept ≡ s.stream.kept
  kept_stays = ap (λ (x : Streaming). x.kept) (holds ∙ stays)

  end_stays : t.stream.is_finished ≡ s.stream.is_finished
  end_stays = ap (λ (x : Streaming). x.is_finished) (holds ∙ stays)

  onward_there : s.stream.from ≤ t.stream.from
  onward_there = subst (λ (x : Streaming). s.stream.from ≤ x.from) (sym holds) onward

  -- a match was told and put
  module _ (m : Found) (caps : Captures) (now new : Option (List ℕ)) (first : regex_kind s.stream.regex ≡ leftmost_first) (ends : stream.from ≡ m.end)
      (lies : (s.stream.from ≤ m.start) × (m.start ≤ m.end) × (m.end ≤ s.stream.gone + length s.stream.kept)) (caps_are : t.captures ≡ caps)
      (at : t.written ≡ m.end) (any : t.any ≡ true) where
    pub match_ready : IsReady t
    match_ready =
        ready_match s t m ready regex_stays gone_stays kept_stays onward_there (ap (λ (x : Streaming). x.from) holds ∙ ends) lies.1 lies.0 lies.2 at made keeps

    pub match_stands : ((fed : List ℕ) (told : List Found) → WasFed fed told s.stream → WasFed fed (told ++ m ∷ []) stream) →
        ((fed : List ℕ) (told : List Found) → WasFed fed told s.stream → TellsNext s.stream fed caps × AreOf s.stream caps m) → TellsKept s.stream caps →
        PutsFor (slice_range stream.kept (s.written - stream.gone) (m.start - stream.gone)) items stream.kept caps now new →
        (fed : List ℕ) (told : List Found) (old : Option (List ℕ)) → Stands items fed told s old now → Stands items fed (told ++ m ∷ []) t old new
    match_stands tells groups here put fed told old st =
        let g = groups fed told st.was in
        let a = ready.ahead in
        stands_match items fed told s t m caps old now new first st (subst (λ (x : Streaming). WasFed fed (told ++ m ∷ []) x) (sym holds) (tells fed told st.was))
        regex_stays end_stays at any (subst (KeepsAll (regex_names s.stream.regex)) caps_are keeps) g.0 here g.1 ready.kept (omega (arith, a, lies.0))
        (let l = lies.1 in let h = lies.2 in omega (arith, l, h))
        (subst (λ (x : Streaming). PutsFor (slice_range x.kept (s.written - x.gone) (m.start - x.gone)) items x.kept caps now new) stays put)

  -- none was told
  module _ (at : t.written ≡ s.written) (any : t.any ≡ s.any) where
    pub none_ready : IsReady t
    none_ready = ready_on s t ready regex_stays gone_stays kept_stays onward_there at made keeps

    pub none_stands : (now : Option (List ℕ)) → ((fed : List ℕ) (told : List Found) → WasFed fed told s.stream → WasFed fed told stream) →
        (fed : List ℕ) (told : List Found) (old : Option (List ℕ)) → Stands items fed told s old now → Stands items fed told t old now
    none_stands now tells fed told old st =
        stands_on items fed told s t old now st (subst (λ (x : Streaming). WasFed fed told x) (sym holds) (tells fed told st.was)) regex_stays end_stays at any

-- the bytes up to a place were put
pub gap_ready : (s t : Streamed) (to : ℕ) → IsReady s → t.stream ≡ s.stream → t.cache ≡ s.cache → t.captures ≡ s.captures → t.written ≡ to → s.written ≤ to →
    to ≤ s.stream.gone + length s.stream.kept → to ≤ s.stream.from → IsReady t
gap_ready s t to ready holds cache captures at order high ahead =
    let gone = ap (λ (x : Streaming). x.gone) holds in
    let from = ap (λ (x : Streaming). x.from) holds in
    let long = ap (λ (x : Streaming). length x.kept) holds in
    let a = ready.kept in
    let b = ready.margin in
    record {
      cache =
          subst (λ (x : Streaming). IsCacheFor (regex_patterns x.regex) (regex_settings x.regex) t.cache) (sym holds)
          (subst (IsCacheFor (regex_patterns s.stream.regex) (regex_settings s.stream.regex)) (sym cache) ready.cache);
      captures =
          subst (λ (x : Streaming). KeepsAll (regex_names x.regex) t.captures) (sym holds)
          (subst (KeepsAll (regex_names s.stream.regex)) (sym captures) ready.captures);
      margin = omega (arith, b, gone, from);
      kept = omega (arith, a, order, gone, at);
      inside = omega (arith, high, gone, long, at);
      ahead = omega (arith, ahead, from, at);
    }

pub gap_stands : (items : List Item) (s t : Streamed) (to : ℕ) (now new : Option (List ℕ)) → IsReady s → t.stream ≡ s.stream → t.written ≡ to → t.any ≡ s.any →
    s.written ≤ to → to ≤ s.stream.gone + length s.stream.kept →
    Appends now new (slice_range s.stream.kept (s.written - s.stream.gone) (to - s.stream.gone)) →
    (fed : List ℕ) (told : List Found) (old : Option (List ℕ)) → Stands items fed told s old now → Stands items fed told t old new
gap_stands items s t to now new ready holds at any order high put fed told old st =
    stands_on items fed told (record s { written = to }) t old new (stands_gap items fed told s to old now new st ready.kept order high put)
    (subst (WasFed fed told) (sym holds) st.was) (ap (λ (x : Streaming). x.regex) holds) (ap (λ (x : Streaming). x.is_finished) holds) at any

-- the end was told
pub end_ready : (s : Streamed) (stream : Streaming) → IsReady s → stream ≡ record s.stream { is_finished = true } → IsReady (record s { stream = stream })
end_ready s stream ready is =
    ready_on s (record s { stream = stream }) ready (ap (λ (x : Streaming). x.regex) is) (ap (λ (x : Streaming). x.gone) is) (ap (λ (x : Streaming). x.kept) is)
    (let e = ap (λ (x : Streaming). x.from) is in omega (arith, e)) refl ready.cache ready.captures

-- after a search the captures still keep all groups
pub captures_kept : (names : Names) (caps new : Captures) → KeepsAll names caps → IsCapturesFor names new → length (captures_slots new) ≡ length (captures_slots caps) →
    KeepsAll names new
captures_kept names caps new kept is long = record { named = is.named; sized = long ∙ kept.sized }

-- the end was told, and all was put
pub last_done : (items : List Item) (s t : Streamed) (stream : Streaming) (n : ℕ) (now mid new : Option (List ℕ)) → regex_kind s.stream.regex ≡ leftmost_first →
    stream ≡ record s.stream { is_finished = true } → t.stream.regex ≡ stream.regex → t.stream.is_finished ≡ stream.is_finished → IsReady t →
    n ≡ t.stream.gone + length t.stream.kept → n < 18446744073709551616 →
    Appends mid new (slice_range t.stream.kept (t.written - t.stream.gone) (n - t.stream.gone)) →
    ((fed : List ℕ) (told : List Found) → WasFed fed told s.stream → WasFed fed told stream) →
    ((fed : List ℕ) (told : List Found) (old : Option (List ℕ)) → Stands items fed told (record s { stream = stream }) old now →
    (more : List Found) × Stands items fed more t old mid × (stream.is_finished ≡ true → more ≡ Searches.matches_of stream.regex fed)) →
    ((fed : List ℕ) (told : List Found) → WasFed fed told t.stream → n ≡ length fed) →
    (fed : List ℕ) (told : List Found) (old : Option (List ℕ)) → Stands items fed told s old now → IsDone s.stream.regex items fed old new t.any
last_done items s t stream n now mid new first is same end ready long fits put goes matches counts fed told old st =
    let fin : stream.is_finished ≡ true = ap (λ (x : Streaming). x.is_finished) is in
    let regex : stream.regex ≡ s.stream.regex = ap (λ (x : Streaming). x.regex) is in
    let (more, x, all) = matches fed told old (stands_finished items fed told s stream old now st is (goes fed told st.was)) in
    let count = counts fed more x.was in
    let a = ready.inside in
    is_done items fed more (record t { written = n }) s.stream.regex old new (same ∙ regex) first
    (stands_gap items fed more t n old mid new x ready.kept (omega (arith, a, long)) (omega (arith, long)) put) (end ∙ fin)
    (all fin ∙ ap (λ r. Searches.matches_of r fed) regex) count (omega (arith, count, fits))

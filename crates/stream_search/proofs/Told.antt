-- What a search of the kept bytes tells of the stream.
use Rattle.std.proofs.Common.{◌≡◌, ℕ, ◌+◌, ◌-◌, ◌≤◌, true, false, List, [], ◌∷◌, ◌++◌, length, drop, Option, Some, None, refl, sym, ap, subst, ◌∙◌, arith, length-drop}
use Rattle.std.specs.Option.{option_map}
use Rattle.std.specs.Prelude.{IfSome, MatchOption}
use Rattle.std.proofs.lemmas.List.{append-nil}
use Rattle.rc_text.specs.Found.{Found}
use Rattle.rc_text.specs.declared.types.MatchKind.{MatchKind}
use Rattle.rc_program.specs.Answer.{Search}
use Rattle.rc_program.specs.Matches.{begin_of, end_of, is_again}
use Rattle.rc_reach.specs.Edits.{match_further}
use Rattle.rc_reach.specs.Live.{EndedBy, found_by}
use Rattle.rc_reach.specs.Partial.{final, from_place}
use Rattle.api_meta.specs.Views.{regex_kind}
use Rattle.stream_search.specs.Searches.{matches_of, seeks}
use Rattle.stream_search.specs.Searching.{Finds, IsPlaced, Streaming, WasFed, let_go}
use Rattle.stream_search.specs.Streams.{IsStream, IsTold, MayBecome}
use Rattle.stream_search.proofs.Contents.{as_long, becomes, forgets}
use Rattle.stream_search.proofs.Kept.{none_past}
use Rattle.stream_search.proofs.Nexts.{ends_after, none_taken, quiet, skipped, taken}
use Rattle.stream_search.proofs.Streaming.{all_told, fed_more, finished, moved_on, told_one}

module _ (s : Streaming) (fed : List ℕ) (told : List Found) (was : WasFed fed told s) where
  abbrev kind : MatchKind
  kind = regex_kind s.regex

  abbrev sought : Search
  sought = seeks s.regex

  pub fed_len : s.gone + length s.kept ≡ length fed
  fed_len = let a = ap length was.kept_is in let b = length-drop s.gone fed in let i = was.inside in omega (arith, a, b, i)

  -- ---- a search of the kept bytes

  module _ (placed : IsPlaced s.gone (length s.kept) s.from s.last) (at : ℕ) (at_is : at ≡ s.from - s.gone) where
    there : at + s.gone ≡ s.from
    there = let m = placed.margin in omega (arith, at_is, m)

    -- what a content that the stream may become has of the kept bytes
    kept_become : (content : List ℕ) → MayBecome s.is_finished fed content → MayBecome s.is_finished s.kept (drop s.gone content)
    kept_become content b =
        subst (λ k. MayBecome s.is_finished k (drop s.gone content)) (sym was.kept_is) (becomes s.is_finished fed content s.gone was.inside b)

    room : (content : List ℕ) → MayBecome s.is_finished fed content → s.gone ≤ length content
    room content b = let l = as_long s.is_finished fed content b in let i = was.inside in omega (arith, l, i)

    from_kept : (content : List ℕ) → MayBecome s.is_finished fed content → (k : ℕ) → at ≤ k →
        found_by kind sought content (k + s.gone) ≡ option_map (match_further s.gone) (found_by kind sought (drop s.gone content) k)
    from_kept content b k far =
        forgets kind sought content s.gone k (room content b) (let m = placed.margin in let t = there in omega (arith, m, t, far))

    pub finds : (m : Found) → IsTold kind sought s.is_finished s.kept at (final m) → Finds s fed (Some (match_further s.gone m))
    finds m tells content b =
        ap (found_by kind sought content) (sym there) ∙ from_kept content b at (omega arith)
        ∙ ap (option_map (match_further s.gone)) (tells (drop s.gone content) (kept_become content b))

    same_there : (k : ℕ) → at ≤ k → IsTold kind sought s.is_finished s.kept at (from_place k) → (content : List ℕ) →
        MayBecome s.is_finished fed content → found_by kind sought content s.from ≡ found_by kind sought content (s.gone + k)
    same_there k far tells content b =
        ap (found_by kind sought content) (sym there) ∙ from_kept content b at (omega arith)
        ∙ ap (option_map (match_further s.gone)) (tells (drop s.gone content) (kept_become content b))
        ∙ sym (from_kept content b k far) ∙ ap (found_by kind sought content) (let e : k + s.gone ≡ s.gone + k = omega arith in e)

    pub goes : (k : ℕ) → at ≤ k → IsTold kind sought s.is_finished s.kept at (from_place k) → WasFed fed told (record s { from = s.gone + k })
    goes k far tells =
        moved_on kind sought fed told s.is_finished s.kept s.gone s.from s.last was (s.gone + k)
        (λ content b. quiet kind sought content s.from (s.gone + k) s.last placed.ended (let t = there in omega (arith, t, far))
        (same_there k far tells content b))

    -- if no more follows
    pub none : (k : ℕ) → at ≤ k → k ≡ length s.kept + 1 → s.is_finished ≡ true → IsTold kind sought s.is_finished s.kept at (from_place k) →
        Finds s fed None
    none k far past fin tells content b =
        let same : content ≡ fed = subst (λ f. MayBecome f fed content) fin b in
        same_there k far tells content b
        ∙ none_past kind sought content (s.gone + k) (let l = ap length same in let f = fed_len in omega (arith, past, l, f))

  -- ---- the next match

  pub took : (m : Found) → is_again begin_of end_of s.last m ≡ false → Finds s fed (Some m) →
      WasFed fed (told ++ m ∷ []) (record s { from = m.end; last = Some m.end })
  took m fresh finds =
      told_one kind sought fed told s.is_finished s.kept s.gone s.from s.last was m
      (λ content b. taken kind sought content s.from s.last m (finds content b) fresh)

  -- the search from the next byte counts
  pub skips : (m : Found) → EndedBy s.last s.from → is_again begin_of end_of s.last m ≡ true → Finds s fed (Some m) →
      WasFed fed told (record s { from = s.from + 1 })
  skips m ended again finds =
      moved_on kind sought fed told s.is_finished s.kept s.gone s.from s.last was (s.from + 1)
      (λ content b. skipped kind sought content s.from s.last m ended (finds content b) again)

  pub all_came : s.is_finished ≡ true → Finds s fed None → told ≡ matches_of s.regex fed
  all_came fin finds =
      all_told kind sought fed told s.kept s.gone s.from s.last
      (subst (λ f. IsStream kind sought fed told f s.kept s.gone s.from s.last) fin was)
      (none_taken kind sought fed s.from s.last (finds fed (subst (λ f. MayBecome f fed fed) (sym fin) refl)))

  -- ---- more bytes

  pub feeds : (chunk : List ℕ) → IsPlaced s.gone (length s.kept) s.from s.last → s.is_finished ≡ false →
      WasFed (fed ++ chunk) told (record s { kept = drop (s.from - 4 - s.gone) s.kept ++ chunk; gone = s.from - 4 })
  feeds chunk placed going =
      let less = s.from - 4 - s.gone in
      let i = placed.inside in
      let m = placed.margin in
      let e : s.gone + less ≡ s.from - 4 = omega (arith, m) in
      let now = drop less s.kept ++ chunk in
      subst (λ g. IsStream kind sought (fed ++ chunk) told s.is_finished now g s.from s.last) e
      (subst (λ f. IsStream kind sought (fed ++ chunk) told f now (s.gone + less) s.from s.last) (sym going)
      (fed_more kind sought fed chunk told s.kept now s.gone less s.from s.last
      (subst (λ f. IsStream kind sought fed told f s.kept s.gone s.from s.last) going was) (omega (arith, i)) refl))

  -- bytes are let go, and none come
  pub goes_light : IsPlaced s.gone (length s.kept) s.from s.last → s.is_finished ≡ false → WasFed fed told (let_go s)
  goes_light placed going =
      let now = drop (s.from - 4 - s.gone) s.kept in
      subst (λ xs. IsStream kind sought xs told s.is_finished now (s.from - 4) s.from s.last) (append-nil fed)
      (subst (λ xs. IsStream kind sought (fed ++ []) told s.is_finished xs (s.from - 4) s.from s.last) (append-nil now) (feeds [] placed going))

  -- no more follows
  pub finishes : WasFed fed told (record s { is_finished = true })
  finishes = finished kind sought fed told s.is_finished s.kept s.gone s.from s.last was

-- ---- the same, of what a searcher holds: `s` as it is inside, `now` as contracts see it

module _ {s now : Streaming} (same : s ≡ now) (fed : List ℕ) (told : List Found) (was : WasFed fed told now) where
  was_inside : WasFed fed told s
  was_inside = subst (WasFed fed told) (sym same) was

  pub finds_now : IsPlaced s.gone (length s.kept) s.from s.last → (bytes : List ℕ) → bytes ≡ s.kept → (m n : Found) → n ≡ match_further s.gone m →
      IsTold (regex_kind s.regex) (seeks s.regex) s.is_finished bytes (s.from - s.gone) (final m) → Finds now fed (Some n)
  finds_now placed bytes is m n moved tells =
      subst (λ x. Finds x fed (Some n)) same
      (subst (λ o. Finds s fed (Some o)) (sym moved)
      (finds s fed told was_inside placed (s.from - s.gone) refl m
      (subst (λ k. IsTold (regex_kind s.regex) (seeks s.regex) s.is_finished k (s.from - s.gone) (final m)) is tells)))

  pub goes_now : IsPlaced s.gone (length s.kept) s.from s.last → (bytes : List ℕ) → bytes ≡ s.kept → (k : ℕ) → s.from - s.gone ≤ k →
      IsTold (regex_kind s.regex) (seeks s.regex) s.is_finished bytes (s.from - s.gone) (from_place k) →
      WasFed fed told (record s { from = s.gone + k })
  goes_now placed bytes is k far tells =
      goes s fed told was_inside placed (s.from - s.gone) refl k far
      (subst (λ x. IsTold (regex_kind s.regex) (seeks s.regex) s.is_finished x (s.from - s.gone) (from_place k)) is tells)

  pub none_now : IsPlaced s.gone (length s.kept) s.from s.last → (bytes : List ℕ) → bytes ≡ s.kept → (k : ℕ) → s.from - s.gone ≤ k →
      (s.is_finished ≡ true → k ≡ length bytes + 1) → now.is_finished ≡ true →
      IsTold (regex_kind s.regex) (seeks s.regex) s.is_finished bytes (s.from - s.gone) (from_place k) → Finds now fed None
  none_now placed bytes is k far past fin tells =
      let done = ap (λ (x : Streaming). x.is_finished) same ∙ fin in
      let l = ap length is in
      let p = past done in
      subst (λ x. Finds x fed None) same
      (none s fed told was_inside placed (s.from - s.gone) refl k far (omega (arith, p, l)) done
      (subst (λ x. IsTold (regex_kind s.regex) (seeks s.regex) s.is_finished x (s.from - s.gone) (from_place k)) is tells))

  pub took_now : (m : Found) → is_again begin_of end_of s.last m ≡ false → Finds now fed (Some m) →
      WasFed fed (told ++ m ∷ []) (record s { from = m.end; last = Some m.end })
  took_now m fresh found = took s fed told was_inside m fresh (subst (λ x. Finds x fed (Some m)) (sym same) found)

  pub skips_now : (m : Found) → EndedBy s.last s.from → is_again begin_of end_of s.last m ≡ true → Finds now fed (Some m) →
      WasFed fed told (record s { from = s.from + 1 })
  skips_now m ended again found = skips s fed told was_inside m ended again (subst (λ x. Finds x fed (Some m)) (sym same) found)

  pub feeds_now : (chunk : List ℕ) → IsPlaced s.gone (length s.kept) s.from s.last → s.is_finished ≡ false →
      WasFed (fed ++ chunk) told (record (let_go now) { kept = (let_go now).kept ++ chunk })
  feeds_now chunk placed going =
      subst (λ x. WasFed (fed ++ chunk) told (record (let_go x) { kept = (let_go x).kept ++ chunk })) same (feeds s fed told was_inside chunk placed going)

  pub light_now : IsPlaced s.gone (length s.kept) s.from s.last → s.is_finished ≡ false → WasFed fed told (let_go now)
  light_now placed going = subst (λ x. WasFed fed told (let_go x)) same (goes_light s fed told was_inside placed going)

  pub finishes_now : WasFed fed told (record s { is_finished = true })
  finishes_now = finishes s fed told was_inside

-- the chunk is there
pub taken_now : {s now : Streaming} → s ≡ now → (fed chunk bytes : List ℕ) (told : List Found) → bytes ≡ s.kept ++ chunk →
    WasFed fed told (record now { kept = now.kept ++ chunk }) → WasFed fed told (record s { kept = bytes })
taken_now {s} same fed chunk bytes told is was =
    subst (λ k. WasFed fed told (record s { kept = k })) (sym is) (subst (λ x. WasFed fed told (record x { kept = x.kept ++ chunk })) (sym same) was)

-- the search from the next byte finds another match
pub not_twice : (last : Option ℕ) (from : ℕ) (m : Found) → EndedBy last from → from + 1 ≤ m.start → m.start ≤ m.end →
    is_again begin_of end_of last m ≡ false
not_twice last from m ended far order = ends_after last from m ended (omega (arith, far, order))

-- a search that found a match left the searcher as it was
pub stood : {s t : Streaming} → t ≡ record s { from = t.from } → t.from ≡ s.from → t ≡ s
stood {s} stays same = stays ∙ ap (λ f. record s { from = f }) same

-- what the search from the next byte tells
pub second_told : (s t : Streaming) (fed : List ℕ) (told : List Found) (from : ℕ) → WasFed fed told s → EndedBy s.last from → s.from ≡ from + 1 →
    t ≡ record s { from = t.from } → (o : Option Found) →
    IfSome o (λ m. (t.from ≡ s.from) × (s.from ≤ m.start) × (m.start ≤ m.end) × (m.end ≤ s.gone + length s.kept)) →
    MatchOption o (WasFed fed told t) (λ m. Finds s fed (Some m)) →
    MatchOption o (WasFed fed told t) (λ m. WasFed fed (told ++ m ∷ []) (record t { from = m.end; last = Some m.end }))
second_told s t fed told from was ended next stays None lies tells = tells
second_told s t fed told from was ended next stays (Some m) lies tells =
    subst (λ x. WasFed fed (told ++ m ∷ []) (record x { from = m.end; last = Some m.end })) (sym (stood stays lies.0))
    (took s fed told was m (not_twice s.last from m ended (let far = lies.1 in omega (arith, next, far)) lies.2) tells)

-- its places after a match is told
pub placed_after : {s now : Streaming} → s ≡ now → IsPlaced s.gone (length s.kept) s.from s.last → (m : Found) (p q : ℕ) → p ≡ m.end → q ≡ m.end →
    (now.from ≤ m.start) × (m.start ≤ m.end) × (m.end ≤ now.gone + length now.kept) → IsPlaced s.gone (length s.kept) p (Some q)
placed_after same placed m p q there last lies =
    let a = ap (λ (x : Streaming). x.from) same in
    let b = ap (λ (x : Streaming). x.gone + length x.kept) same in
    let margin = placed.margin in
    record {
      room = placed.room;
      margin = omega (arith, margin, a, there, lies.0, lies.1);
      inside = omega (arith, there, b, lies.2);
      ended = omega (arith, there, last);
    }

-- What a part of a text tells of a search in the whole of it.
use Rattle.std.proofs.Common.{◌≡◌, ◌∙◌, ◌+◌, ◌-◌, ◌<◌, ◌≤◌, ◌^◌, ℕ, List, [], ◌++◌, Option, Some, inl, inr, ⊎_elim, ap, ap₂, arith, drop, take, length, min, max, refl, subst, sym, length-append, take-take}
use Rattle.std.specs.Option.{option_map}
use Rattle.std.proofs.Math.Seq.{drop-append_seam, take-append_seam, take-length}
use Rattle.std.proofs.lemmas.Bool.{cases_lt}
use Rattle.std.proofs.lemmas.List.{append-nil, take-append-le}
use Rattle.rc_text.specs.Found.{Found}
use Rattle.rc_text.specs.declared.types.MatchKind.{MatchKind}
use Rattle.rc_text.specs.declared.types.MatchKind.TheVariants.{All as all_matches, LeftmostFirst as leftmost_first, LeftmostLongest as leftmost_longest}
use Rattle.rc_text.specs.Text.{Keeps, Searched}
use Rattle.rc_text.specs.declared.types.Span.{Span}
use Rattle.rc_program.specs.Answer.{Search}
use Rattle.rc_program.specs.Kinds.{answer_by}
use Rattle.rc_program.specs.Sought.{Sought, search_for}
use Rattle.rc_program.proofs.KindLemmas.{kinds_law}
use Rattle.rc_reach.specs.Edits.{match_further}
use Rattle.rc_reach.specs.Live.{over_content}
use Rattle.rc_reach.specs.Partial.{GoesOnFrom, IsPartial, Partial, final, from_place}
use Rattle.rc_reach.specs.Settled.{IsInside, IsWalkSettled}
use Rattle.rc_reach.proofs.KnownLemmas.{all_known, longest_known, whole_known}
use Rattle.rc_reach.proofs.LawLemmas.{reach_law}
use Rattle.api_meta.specs.Partials.{IsOnward}
use Rattle.api_meta.specs.declared.partial.Partial.TheVariants.{From}
use Rattle.api_meta.specs.Views.{regex_kind, sought}
use Rattle.api_meta.specs.declared.regex.Regex.{Regex}
use Rattle.regex_cursor.specs.Output.{whole}
use Rattle.stream_search.specs.Searches.{seeks}
use Rattle.stream_search.proofs.Onward.{onward}
use Rattle.stream_search.proofs.Without.{ranged, without}
use Rattle.searcher.specs.Answers.{answer_in, search_in}
use Rattle.searcher.specs.Ranges.{in_range}
use Rattle.searcher.specs.Windows.{Finds, FindsSame, HasAfter, HasBefore, IsPart, IsSearched, IsTold}
use Rattle.searcher.specs.declared.answers.Window.{Window}
use Rattle.searcher.specs.declared.answers.WindowAnswer.TheVariants.{MoreAfter}
use Rattle.searcher.proofs.Filling.{same_search}

in_range_is : (q : Sought) (text : List ℕ) (at end : ℕ) → length text + 1 < 2 ^ 64 →
    search_for q (in_range text at end) ≡ ranged (search_for q (whole [])) text at end
in_range_is q text at end fits =
    let a : min 18446744073709551615 (length text) ≡ length text = omega (arith, fits) in
    let b : min (min end 18446744073709551615) (length text) ≡ min end (length text) = omega (arith, fits) in
    let x = ranged (search_for q (whole [])) text at end in
    ap₂ (λ e h. record x { text = record x.text { slice_end = e }; hi = h }) a b

-- ---- a text that goes on

module _ (s : Search) (bytes after : List ℕ) (at end : ℕ) where
  abbrev here : Search
  here = ranged s bytes at end

  abbrev there : Search
  there = ranged s (bytes ++ after) at end

  same_read : take (length bytes) (take there.hi (bytes ++ after)) ≡ take (length bytes) (take here.hi bytes)
  same_read =
      let n = length bytes in
      let l = length-append bytes after in
      ⊎_elim
      (λ less. let a : there.hi ≡ end = omega (arith, l, less) in
      let b : here.hi ≡ end = omega (arith, less) in
      ap (λ h. take n (take h (bytes ++ after))) a ∙ ap (take n) (take-append-le end bytes after (omega (arith, less)))
      ∙ sym (ap (λ h. take n (take h bytes)) b))
      (λ more. let b : here.hi ≡ n = omega (arith, more) in
      take-take n there.hi (bytes ++ after) (omega (arith, l, more)) ∙ take-append_seam bytes after
      ∙ sym (ap (λ h. take n (take h bytes)) b ∙ take-take n n bytes (omega arith) ∙ take-length bytes))
      (cases_lt end n)

  is_inside : (content : List ℕ) → IsInside (ranged s content at end)
  is_inside content = record { lo = omega arith; hi = omega arith; slice_end = omega arith }

  goes : GoesOnFrom here there
  goes =
      let same = take-append_seam bytes after ∙ sym (take-length bytes) in
      let seen = ap (take (length bytes)) (take-length (bytes ++ after)) ∙ same ∙ sym (ap (take (length bytes)) (take-length bytes)) in (
        is_inside (bytes ++ after),
        record {
          places = refl;
          terminator = refl;
          slice_start = refl;
          lo = refl;
          anchoring = refl;
          passes_over = refl;
          read = same_read;
          seen = seen;
          content = same;
        },
      )

  settled : here.hi + 5 ≤ length bytes → (kind : MatchKind) → IsWalkSettled kind (length bytes) here
  settled past leftmost_first = reach_law.preferred here (length bytes) (is_inside bytes) (all_known here (length bytes) past)
  settled past leftmost_longest = reach_law.longest here (length bytes) (is_inside bytes) (longest_known here (length bytes) past)
  settled past all_matches = reach_law.greatest here (length bytes) (is_inside bytes) (whole_known here (length bytes) past)

  -- five bytes after the range settle it
  same_there : end + 5 ≤ length bytes → (kind : MatchKind) → answer_by kind there ≡ answer_by kind here
  same_there past kind = reach_law.match kind here (length bytes) (settled (omega (arith, past)) kind) there goes.0 goes.1

-- ---- a window of a text

module _ (r : Regex) (w : Window) (bytes : List ℕ) (from end at to : ℕ) (before : HasBefore w from) (at_is : at + w.start ≡ from) (to_is : to + w.start ≡ end) where
  abbrev kind : MatchKind
  kind = regex_kind r

  abbrev s : Search
  s = seeks r

  module _ (text : List ℕ) (part : IsPart w bytes text) where
    rest_is : drop w.start text ≡ bytes ++ part.after
    rest_is = ap₂ drop (sym part.start) part.is ∙ drop-append_seam part.before (bytes ++ part.after)

    within : w.start ≤ length text
    within =
        let a = ap length part.is in
        let b = length-append part.before (bytes ++ part.after) in
        let c = part.start in omega (arith, a, b, c)

    -- what is found in the text is found from the window's start on
    further : (k : ℕ) → at ≤ k → answer_in r text (k + w.start) end ≡ option_map (match_further w.start) (answer_by kind (ranged s (bytes ++ part.after) k to))
    further k far =
        ap (answer_by kind) (in_range_is (sought r) text (k + w.start) end part.fits)
        ∙ ap (λ e. answer_by kind (ranged s text (k + w.start) e)) (sym to_is)
        ∙ without kind s text w.start k to within (omega (arith, before, at_is, far))
        ∙ ap (λ c. option_map (match_further w.start) (answer_by kind (ranged s c k to))) rest_is

    from_here : answer_in r text from end ≡ option_map (match_further w.start) (answer_by kind (ranged s (bytes ++ part.after) at to))
    from_here = ap (λ p. answer_in r text p end) (sym at_is) ∙ further at (omega arith)

  module _ (fits : length bytes + 1 < 2 ^ 64) where
    search_is : search_in r bytes at to ≡ ranged s bytes at to
    search_is = in_range_is (sought r) bytes at to fits

    -- a final match
    pub final_told : (m : Found) → IsPartial kind (search_in r bytes at to) (final m) → Finds r w bytes from end (Some (match_further w.start m))
    final_told m told text part =
        from_here text part
        ∙ ap (option_map (match_further w.start))
        (subst (λ x. IsPartial kind x (final m)) search_is told (ranged s (bytes ++ part.after) at to) (goes s bytes part.after at to))

    -- a place to go on from
    pub onward_told : (k : ℕ) → at ≤ k → IsPartial kind (search_in r bytes at to) (from_place k) → FindsSame r w bytes from (k + w.start) end
    onward_told k far told text part =
        from_here text part
        ∙ ap (option_map (match_further w.start))
        (sym (onward kind (ranged s bytes at to) (ranged s (bytes ++ part.after) at to) k refl (omega (arith, far))
        (subst (λ x. IsPartial kind x (from_place k)) search_is told) (goes s bytes part.after at to)))
        ∙ sym (further text part k far)

    -- a window that is the last, or goes on for five bytes after the range
    pub told_all : (o : Option Found) → HasAfter w bytes end → o ≡ answer_in r bytes at to → Finds r w bytes from end (option_map (match_further w.start) o)
    told_all o has found text part =
        from_here text part
        ∙ ap (option_map (match_further w.start)) (⊎_elim
        (λ last. ap (λ c. answer_by kind (ranged s c at to)) (ap (λ a. bytes ++ a) (part.last last) ∙ append-nil bytes))
        (λ past. same_there s bytes part.after at to (omega (arith, past, to_is)) kind)
        has ∙ sym (ap (answer_by kind) search_is) ∙ sym found)

    -- where a final match lies
    pub final_lies : (m : Found) → IsPartial kind (search_in r bytes at to) (final m) → m.end ≤ length bytes
    final_lies m told =
        let c = bytes ++ [] in
        let h = kinds_law.within kind (record (over_content s c) { hi = min to (length c) }) at m
        (subst (λ x. IsPartial kind x (final m)) search_is told (ranged s c at to) (goes s bytes [] at to)) in
        let l = ap length (append-nil bytes) in omega (arith, h.3, l)

-- it can be searched if none of the tests applied
pub searched : (w : Window) (bytes : List ℕ) (from end len : ℕ) → from ≤ end → w.start ≤ from - 4 → from - w.start ≤ min (end - w.start) (length bytes) →
    len ≡ length bytes → w.start < 18446744073709551615 - len → IsSearched w bytes from end
searched w bytes from end len order before inside is fits = record {
  order = order;
  before = before;
  inside = λ last. omega (arith, before, inside);
  fits = omega (arith, is, fits);
}

-- ---- what an input of the window's range tells

module _ (r : Regex) (w : Window) (bytes : List ℕ) (from end : ℕ) (can : IsSearched w bytes from end) (i : Searched)
    (keeps : Keeps (in_range bytes (from - w.start) (end - w.start)) i) where
  at_there : from - w.start + w.start ≡ from
  at_there = let b = can.before in omega (arith, b)

  to_there : end - w.start + w.start ≡ end
  to_there = let b = can.before in let o = can.order in omega (arith, b, o)

  bytes_fit : length bytes + 1 < 2 ^ 64
  bytes_fit = let f = can.fits in omega (arith, f)

  same : search_for (sought r) i ≡ search_in r bytes (from - w.start) (end - w.start)
  same = same_search (sought r) bytes (from - w.start) (end - w.start) i keeps

  pub answers_all : (o : Option Found) → HasAfter w bytes end → o ≡ answer_by (regex_kind r) (search_for (sought r) i) →
      Finds r w bytes from end (option_map (match_further w.start) o)
  answers_all o has found =
      told_all r w bytes from end (from - w.start) (end - w.start) can.before at_there to_there bytes_fit o has (found ∙ ap (answer_by (regex_kind r)) same)

  partial_here : (p : Partial) → IsPartial (regex_kind r) (search_for (sought r) i) p →
      IsPartial (regex_kind r) (search_in r bytes (from - w.start) (end - w.start)) p
  partial_here p told = subst (λ (x : Search). IsPartial (regex_kind r) x p) same told

  pub answers_final : (m : Found) → IsPartial (regex_kind r) (search_for (sought r) i) (final m) → Finds r w bytes from end (Some (match_further w.start m))
  answers_final m told =
      final_told r w bytes from end (from - w.start) (end - w.start) can.before at_there to_there bytes_fit m (partial_here (final m) told)

  pub final_fits : (m : Found) → IsPartial (regex_kind r) (search_for (sought r) i) (final m) → m.end + w.start < 2 ^ 64
  final_fits m told =
      let h = final_lies r w bytes from end (from - w.start) (end - w.start) can.before at_there to_there bytes_fit m (partial_here (final m) told) in
      let f = can.fits in omega (arith, h, f)

  pub answers_onward : (k : ℕ) → ¬ HasAfter w bytes end → IsPartial (regex_kind r) (search_for (sought r) i) (from_place k) → IsOnward i (From k) →
      IsTold r w bytes from end (MoreAfter (k + w.start))
  answers_onward k more told on =
      let b = can.before in
      let o = can.order in
      let begins = ap (λ (s : Span). s.start) keeps.span in
      let ends = ap (λ (s : Span). s.end) keeps.span in
      let first = ap (λ (s : Span). s.start) keeps.slice in
      let size = ap length keeps.content in
      let far : from - w.start ≤ k = omega (arith, begins, first, on.0) in
      let near : k ≤ max (from - w.start) (min (end - w.start) (length bytes)) = omega (arith, begins, first, ends, size, on.1) in (
        can,
        more,
        omega (arith, far, b),
        omega (arith, near, b, o),
        ⊎_elim (λ less. inr (omega (arith, near, less, b))) (λ le. inl (omega (arith, le, b))) (cases_lt (from - w.start) k),
        onward_told r w bytes from end (from - w.start) (end - w.start) can.before at_there to_there bytes_fit k far (partial_here (from_place k) told),
      )

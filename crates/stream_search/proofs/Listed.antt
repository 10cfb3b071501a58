-- The steps of a list in slices: matches are told, the search goes on.
use Rattle.std.proofs.Common.{◌≡◌, ◌∙◌, ℕ, ◌+◌, ◌<◌, ◌≤◌, true, false, List, [], ◌∷◌, ◌++◌, Option, Some, None, ap, ap₂, append_assoc, arith, drop, length, max, refl, subst, sym, take}
use Rattle.std.proofs.lemmas.List.{take-append-drop}
use Rattle.rc_text.specs.Found.{Found}
use Rattle.rc_text.specs.Text.{Searched}
use Rattle.rc_text.specs.declared.types.MatchKind.{MatchKind}
use Rattle.rc_program.specs.Answer.{Search}
use Rattle.rc_program.specs.Kinds.{answer_by_from}
use Rattle.rc_program.specs.Matches.{begin_of, end_of, from_on, is_again, next_match}
use Rattle.rc_program.specs.Sought.{search_for}
use Rattle.rc_reach.specs.Live.{EndedBy, found_by, over_content}
use Rattle.rc_reach.specs.Partial.{IsPartial, final, from_place}
use Rattle.api_meta.specs.Ahead.{AddsNext}
use Rattle.api_meta.specs.Partials.{IsOnward}
use Rattle.api_meta.specs.Views.{regex_kind, sought}
use Rattle.api_meta.specs.declared.partial.Partial.TheVariants.{Final, From}
use Rattle.api_meta.specs.declared.regex.Regex.{Regex}
use Rattle.stream_search.specs.Listing.{Adds, HasTold, Listing}
use Rattle.stream_search.specs.Searches.{IsOver, matches_of, seeks}
use Rattle.stream_search.specs.Searching.{IsAfter}
use Rattle.stream_search.specs.Stepping.{found_from}
use Rattle.stream_search.specs.Streams.{MayBecome}
use Rattle.stream_search.proofs.Along.{Told, told_along}
use Rattle.stream_search.proofs.Kept.{lies_open, seen, told_open}
use Rattle.stream_search.proofs.Nexts.{ends_after, quiet, skipped, taken}
use Rattle.stream_search.proofs.Streaming.{all_told, fed_more, finished, first, moved_on, told_one}

-- before any slice
pub none_told : (r : Regex) (content : List ℕ) → Told r content [] 0 None
none_told r content =
    finished (regex_kind r) (seeks r) content [] false content 0 0 None
    (fed_more (regex_kind r) (seeks r) [] content [] [] content 0 0 0 None (first (regex_kind r) (seeks r)) (omega arith) refl)

module _ (r : Regex) (content : List ℕ) (told : List Found) (from : ℕ) (last : Option ℕ) (was : Told r content told from last) where
  abbrev kind : MatchKind
  kind = regex_kind r

  abbrev seek : Search
  seek = seeks r

  pub told_next : (m : Found) → is_again begin_of end_of last m ≡ false → found_from r content from ≡ Some m →
      Told r content (told ++ m ∷ []) m.end (Some m.end)
  told_next m fresh found =
      told_one kind seek content told true content 0 from last was m
      (λ c b. taken kind seek c from last m (subst (λ x. found_by kind seek x from ≡ Some m) (sym b) found) fresh)

  -- the search from the next byte counts
  pub goes_by : (m : Found) → EndedBy last from → is_again begin_of end_of last m ≡ true → found_from r content from ≡ Some m →
      Told r content told (from + 1) last
  goes_by m ended again found =
      moved_on kind seek content told true content 0 from last was (from + 1)
      (λ c b. skipped kind seek c from last m ended (subst (λ x. found_by kind seek x from ≡ Some m) (sym b) found) again)

  pub goes_to : (k : ℕ) → EndedBy last from → from ≤ k → found_from r content from ≡ found_from r content k → Told r content told k last
  goes_to k ended far same =
      moved_on kind seek content told true content 0 from last was k
      (λ c b. quiet kind seek c from k last ended far (subst (λ x. found_by kind seek x from ≡ found_by kind seek x k) (sym b) same))

  pub told_all : next_match begin_of end_of (found_from r content) from last ≡ None → told ≡ matches_of r content
  told_all none = all_told kind seek content told content 0 from last was none

-- a text goes on from its first bytes
pub goes_on : (content shown : List ℕ) (end : ℕ) → shown ≡ take end content → MayBecome false shown content
goes_on content shown end same = (drop end content, sym (take-append-drop end content) ∙ ap (λ x. x ++ drop end content) (sym same))

-- a match that ends after the last one isn't that one again
pub after_last : (last : Option ℕ) (m : Found) → IsAfter last m → is_again begin_of end_of last m ≡ false
after_last None m far = refl
after_last (Some l) m far = ends_after (Some l) l m (omega arith) far

-- ---- a search of an input, of what a list stepper holds: `s` as it is inside, `now` as contracts see it, and `r` the regex after it

module _ {s now : Listing} (same : s ≡ now) (r : Regex) (of : r ≡ s.regex) where
  pub stands : (content : List ℕ) (told : List Found) → HasTold content told now → Told r content told s.from s.last
  stands content told was = subst (λ x. Told x content told s.from s.last) (sym of) (subst (HasTold content told) (sym same) was)

  module _ (i : Searched) (over : IsOver i) (fits : length i.content + 1 < 18446744073709551616) (start : i.span.start ≡ now.from) where
    at_from : i.span.start ≡ s.from
    at_from = start ∙ sym (ap (λ (x : Listing). x.from) same)

    sought_there : search_for (sought s.regex) i ≡ from_on (over_content (seeks s.regex) i.content) s.from
    sought_there = seen (sought s.regex) i i.content s.from over refl fits at_from

    by_regex : (content : List ℕ) (o : Option Found) → found_from s.regex content s.from ≡ o → found_from r content s.from ≡ o
    by_regex content o found = ap (λ x. found_from x content s.from) of ∙ found

    -- matches of the list
    pub adds_here : (b : ℕ) (before after : List Found) (j : ℕ) (l : Option ℕ) →
        AddsNext (answer_by_from (regex_kind s.regex) (search_for (sought s.regex) i)) b i.span.start s.last before j l after →
        AddsNext (found_from now.regex i.content) b now.from now.last before j l after
    adds_here b before after j l adds =
        subst (λ (x : Listing). AddsNext (found_from x.regex i.content) b x.from x.last before j l after) same
        (subst (λ k. AddsNext (found_from s.regex i.content) b k s.last before j l after) at_from
        (subst (λ x. AddsNext (answer_by_from (regex_kind s.regex) x) b i.span.start s.last before j l after) sought_there adds))

    pub same_next : (j : ℕ) (l : Option ℕ) →
        next_match begin_of end_of (answer_by_from (regex_kind s.regex) (search_for (sought s.regex) i)) j l
        ≡ next_match begin_of end_of (found_from now.regex i.content) j l
    same_next j l =
        ap (λ x. next_match begin_of end_of (answer_by_from (regex_kind s.regex) x) j l) sought_there
        ∙ ap (λ (x : Listing). next_match begin_of end_of (found_from x.regex i.content) j l) same

    -- a match that is final
    module _ (m : Found) (onward : IsOnward i (Final m)) (told : IsPartial (regex_kind s.regex) (search_for (sought s.regex) i) (final m)) where
      pub finds_final : (content : List ℕ) → MayBecome false i.content content → found_from r content s.from ≡ Some m
      finds_final content b = by_regex content (Some m) (told_open s.regex i i.content s.from sought_there (Final m) onward told content b)

      pub final_lies : (s.from ≤ m.start) × (m.start ≤ m.end) × (m.end ≤ length i.content)
      final_lies = lies_open s.regex i i.content s.from sought_there (Final m) onward told

    -- a place to go on from
    module _ (k : ℕ) (onward : IsOnward i (From k)) (told : IsPartial (regex_kind s.regex) (search_for (sought s.regex) i) (from_place k)) where
      pub place_lies : (s.from ≤ k) × (k ≤ max s.from (length i.content))
      place_lies = lies_open s.regex i i.content s.from sought_there (From k) onward told

      pub goes_place : EndedBy s.last s.from → (content : List ℕ) → MayBecome false i.content content → (before : List Found) →
          HasTold content before now → Told r content before k s.last
      goes_place ended content b before was =
          subst (λ x. Told x content before k s.last) (sym of)
          (goes_to s.regex content before s.from s.last (subst (HasTold content before) (sym same) was) k ended place_lies.0
          (told_open s.regex i i.content s.from sought_there (From k) onward told content b))

-- the search from the next byte counts if it finds the last one again
pub passes : {s now : Listing} → s ≡ now → (content : List ℕ) (told : List Found) → HasTold content told now → (m : Found) →
    EndedBy s.last s.from → is_again begin_of end_of s.last m ≡ true → found_from now.regex content now.from ≡ Some m →
    Told s.regex content told (s.from + 1) s.last
passes {s} {now} same content told was m ended again found =
    goes_by s.regex content told s.from s.last (subst (HasTold content told) (sym same) was) m ended again
    (ap (λ (x : Listing). found_from x.regex content x.from) same ∙ found)

-- what a match that is taken leaves as it was
pub stays_on : (a b t u : Listing) → b ≡ record a { from = b.from; last = b.last } → t ≡ record b { from = t.from } →
    (p : ℕ) (q : Option ℕ) → u ≡ record t { from = p; last = q } → u ≡ record a { from = u.from; last = u.last }
stays_on a b t u first second p q third =
    ap₂ (λ r n. let x : Listing = record { regex = r; from = u.from; last = u.last; position = n } in x)
    (ap (λ (x : Listing). x.regex) third ∙ ap (λ (x : Listing). x.regex) second ∙ ap (λ (x : Listing). x.regex) first)
    (ap (λ (x : Listing). x.position) third ∙ ap (λ (x : Listing). x.position) second ∙ ap (λ (x : Listing). x.position) first)

-- ---- matches that are added

-- one more
pub one_more : {content : List ℕ} {s t u : Listing} {before after : List Found} → Adds content s before t after → (now : List Found) (m : Found) →
    now ≡ after ++ m ∷ [] → ((told : List Found) → HasTold content told t → HasTold content (told ++ m ∷ []) u) → Adds content s before u now
one_more {content} {s} {t} {u} {before} {after} a now m is one = record {
  more = a.more ++ m ∷ [];
  added = is ∙ ap (λ x. x ++ m ∷ []) a.added ∙ append_assoc before a.more (m ∷ []);
  told = λ told was. subst (λ x. HasTold content x u) (append_assoc told a.more (m ∷ [])) (one (told ++ a.more) (a.told told was));
}

-- some, and then others
pub both : {content : List ℕ} {s t u : Listing} {before between after : List Found} → Adds content s before t between →
    Adds content t between u after → Adds content s before u after
both {content} {s} {t} {u} {before} a z = record {
  more = a.more ++ z.more;
  added = z.added ∙ ap (λ x. x ++ z.more) a.added ∙ append_assoc before a.more z.more;
  told = λ told was. subst (λ x. HasTold content x u) (append_assoc told a.more z.more) (z.told (told ++ a.more) (a.told told was));
}

-- the next ones of a list
pub adds_along : (s t : Listing) (content : List ℕ) (find : ℕ → Option Found) (b : ℕ) →
    ((k : ℕ) (last : Option ℕ) (m : Found) → EndedBy last k → next_match begin_of end_of find k last ≡ Some m → m.start < b →
    next_match begin_of end_of (found_from s.regex content) k last ≡ Some m) →
    EndedBy s.last s.from → t ≡ record s { from = t.from; last = t.last } → (before after : List Found) →
    AddsNext find b s.from s.last before t.from t.last after → Adds content s before t after
adds_along s t content find b step ended stays before after adds = record {
  more = adds.more;
  added = adds.added;
  told = λ told was.
      subst (λ r. Told r content (told ++ adds.more) t.from t.last) (sym (ap (λ (x : Listing). x.regex) stays))
      (told_along s.regex content find b step adds.more s.from s.last t.from t.last ended adds.next told was);
}

-- none, and the search goes on
pub no_more : {content : List ℕ} {s t u : Listing} {before after : List Found} → Adds content s before t after → (now : List Found) → now ≡ after →
    ((told : List Found) → HasTold content told t → HasTold content told u) → Adds content s before u now
no_more {content} {s} {t} {u} {before} {after} a now is on = record {
  more = a.more;
  added = is ∙ a.added;
  told = λ told was. on (told ++ a.more) (a.told told was);
}

-- the match that is found comes next
pub takes : (t u : Listing) (content : List ℕ) (told : List Found) (m : Found) → u ≡ record t { from = m.end; last = Some m.end } → IsAfter t.last m →
    found_from t.regex content t.from ≡ Some m → HasTold content told t → HasTold content (told ++ m ∷ []) u
takes t u content told m is far found was =
    subst (HasTold content (told ++ m ∷ [])) (sym is) (told_next t.regex content told t.from t.last was m (after_last t.last m far) found)

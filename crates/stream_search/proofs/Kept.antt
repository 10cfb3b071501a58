-- A search of kept bytes is one of their content, from a place on.
use Rattle.std.proofs.Common.{◌≡◌, ℕ, ◌+◌, ◌<◌, ◌≤◌, Bool, true, false, List, [], length, min, Option, Some, None, refl, sym, ap, ap₂, subst, ◌∙◌, arith}
use Rattle.std.specs.Prelude.{IfSome}
use Rattle.std.proofs.lemmas.List.{append-nil}
use Rattle.rc_text.specs.Found.{Found}
use Rattle.rc_text.specs.Text.{Keeps, KeepsText, Searched}
use Rattle.rc_text.specs.declared.types.MatchKind.{MatchKind}
use Rattle.rc_text.specs.declared.types.Span.{Span}
use Rattle.rc_program.specs.Answer.{Search}
use Rattle.rc_program.specs.Kinds.{answer_by, is_early}
use Rattle.rc_program.specs.Matches.{from_on}
use Rattle.rc_program.specs.Sought.{Sought, search_for}
use Rattle.rc_reach.specs.Live.{found_by, over_content}
use Rattle.rc_reach.specs.Partial as partial
use Rattle.rc_reach.specs.Partial.{IsPartial, final, from_place}
use Rattle.api_meta.specs.Partials.{IsOnward, partial_of}
use Rattle.api_meta.specs.Views.{regex_kind, sought}
use Rattle.api_meta.specs.declared.partial.Partial.{Partial}
use Rattle.api_meta.specs.declared.partial.Partial.TheVariants.{Final, From}
use Rattle.api_meta.specs.declared.regex.Regex.{Regex}
use Rattle.regex_cursor.specs.Output.{whole}
use Rattle.stream_search.specs.Searches.{IsOver, IsWithin, LiesIn, TellsBefore, seeks}
use Rattle.stream_search.specs.Stepping.{GoesTo}
use Rattle.stream_search.specs.Streams.{IsTold, MayBecome}
use Rattle.stream_search.proofs.Contents.{final_there, onward_there}
use Rattle.stream_search.proofs.Nexts.{lies}

-- what an input keeps where its span begins elsewhere
pub begins_at : (i t : Searched) → IsOver i → KeepsText i t → t.span.end ≡ i.span.end → t.slice ≡ i.slice → IsOver t
begins_at i t over keeps end slice =
    let l = ap length keeps.content in
    let e = over.end in
    record {
      end = omega (arith, l, e, end);
      slice_start = ap (λ (x : Span). x.start) slice ∙ over.slice_start;
      slice_end = ap (λ (x : Span). x.end) slice ∙ over.slice_end;
      anchored = keeps.anchored ∙ over.anchored;
      late = keeps.earliest ∙ over.late;
    }

pub stays_over : (i t : Searched) → IsOver i → Keeps i t → IsOver t
stays_over i t over keeps =
    let l = ap length keeps.content in
    let e = over.end in
    let span = ap (λ (x : Span). x.end) keeps.span in
    record {
      end = omega (arith, l, e, span);
      slice_start = ap (λ (x : Span). x.start) keeps.slice ∙ over.slice_start;
      slice_end = ap (λ (x : Span). x.end) keeps.slice ∙ over.slice_end;
      anchored = keeps.anchored ∙ over.anchored;
      late = keeps.earliest ∙ over.late;
    }

pub seen : (q : Sought) (i : Searched) (bytes : List ℕ) (at : ℕ) → IsOver i → i.content ≡ bytes → length i.content + 1 < 18446744073709551616 →
    i.span.start ≡ at → search_for q i ≡ from_on (over_content (search_for q (whole [])) bytes) at
seen q i bytes at over content fits start =
    let l = ap length content in
    let long = over.end in
    let a : min 18446744073709551615 (length bytes) ≡ length bytes = omega (arith, fits, l) in
    let b : min (min i.span.end 18446744073709551615) (length bytes) ≡ length bytes = omega (arith, fits, l, long) in
    let x = from_on (over_content (search_for q (whole [])) bytes) at in
    rw (content, over.anchored, start, over.slice_start, over.slice_end)
    (ap₂ (λ e h. record x { text = record x.text { slice_end = e }; hi = h }) a b)

module _ (kind : MatchKind) (s : Search) where
  -- nothing is found after the end
  pub none_past : (content : List ℕ) (k : ℕ) → length content < k → found_by kind s content k ≡ None
  none_past content k far = by_found (found_by kind s content k) refl
    where
      by_found : (o : Option Found) → found_by kind s content k ≡ o → o ≡ None
      by_found None e = refl
      by_found (Some m) e = absurd (let h = lies kind s content k m e in omega (arith, far, h.0, h.1, h.2))

  -- if no more bytes follow
  pub told_none : (is_finished : Bool) (bytes content : List ℕ) (at : ℕ) → is_finished ≡ true → found_by kind s bytes at ≡ None →
      MayBecome is_finished bytes content → found_by kind s content at ≡ found_by kind s content (length bytes + 1)
  told_none is_finished bytes content at fin none b =
      let same : content ≡ bytes = subst (λ f. MayBecome f bytes content) fin b in
      ap (λ x. found_by kind s x at) same ∙ none
      ∙ sym (none_past content (length bytes + 1) (let l = ap length same in omega (arith, l)))

  pub told_some : (is_finished : Bool) (bytes content : List ℕ) (at : ℕ) (m : Found) → is_finished ≡ true → found_by kind s bytes at ≡ Some m →
      MayBecome is_finished bytes content → found_by kind s content at ≡ Some m
  told_some is_finished bytes content at m fin some b =
      let same : content ≡ bytes = subst (λ f. MayBecome f bytes content) fin b in ap (λ x. found_by kind s x at) same ∙ some

module _ (r : Regex) (t : Searched) (bytes : List ℕ) (at : ℕ) (same : search_for (sought r) t ≡ from_on (over_content (seeks r) bytes) at) where
  -- what `find` finds
  pub found_all : (o : Option Found) → t.earliest ≡ false →
      (is_early t.earliest (search_for (sought r) t) ≡ false → o ≡ answer_by (regex_kind r) (search_for (sought r) t)) →
      found_by (regex_kind r) (seeks r) bytes at ≡ o
  found_all o late found =
      ap (answer_by (regex_kind r)) (sym same) ∙ sym (found (ap (λ e. is_early e (search_for (sought r) t)) late))

  partial_there : (p : Partial) → IsPartial (regex_kind r) (search_for (sought r) t) (partial_of p) →
      IsPartial (regex_kind r) (from_on (over_content (seeks r) bytes) at) (partial_of p)
  partial_there p told = subst (λ x. IsPartial (regex_kind r) x (partial_of p)) same told

  pub lies_open : (p : Partial) → IsOnward t p → IsPartial (regex_kind r) (search_for (sought r) t) (partial_of p) →
      IsWithin at (length bytes) p
  lies_open (Final m) onward told =
      lies (regex_kind r) (seeks r) bytes at m
      (ap (λ x. found_by (regex_kind r) (seeks r) x at) (sym (append-nil bytes))
      ∙ final_there (regex_kind r) (seeks r) bytes [] at m (partial_there (Final m) told))
  lies_open (From k) onward told =
      let a = ap (λ (x : Search). x.lo) same in
      let b = ap (λ (x : Search). x.hi) same in
      let low = onward.0 in
      let high = onward.1 in
      (omega (arith, a, low), omega (arith, a, b, high))

  pub goes_open : (p : Partial) → at ≤ length bytes → IsOnward t p → GoesTo at (length bytes) p
  goes_open (Final m) inside onward = tt
  goes_open (From k) inside onward =
      let a = ap (λ (x : Search). x.lo) same in
      let b = ap (λ (x : Search). x.hi) same in
      let low = onward.0 in
      let high = onward.1 in
      (omega (arith, a, low), omega (arith, a, b, high, inside))

  pub told_open : (p : Partial) → IsOnward t p → IsPartial (regex_kind r) (search_for (sought r) t) (partial_of p) →
      IsTold (regex_kind r) (seeks r) false bytes at (partial_of p)
  told_open (Final m) onward told = λ content b.
      ap (λ x. found_by (regex_kind r) (seeks r) x at) b.1
      ∙ final_there (regex_kind r) (seeks r) bytes b.0 at m (partial_there (Final m) told)
  told_open (From k) onward told = λ content b.
      let a = ap (λ (x : Search). x.lo) same in
      let low = onward.0 in
      ap (λ x. found_by (regex_kind r) (seeks r) x at) b.1
      ∙ onward_there (regex_kind r) (seeks r) refl bytes b.0 at k (omega (arith, a, low)) (partial_there (From k) told)
      ∙ ap (λ x. found_by (regex_kind r) (seeks r) x k) (sym b.1)

-- ---- bytes that tell all before a place

module _ (r : Regex) (bytes : List ℕ) (k : ℕ) (known : TellsBefore r bytes k) (at : ℕ) where
  -- a match that begins before the place
  pub told_before : (m : Found) → found_by (regex_kind r) (seeks r) bytes at ≡ Some m → m.start < k →
      IsTold (regex_kind r) (seeks r) false bytes at (final m)
  told_before m found early = λ content b.
      ap (λ x. found_by (regex_kind r) (seeks r) x at) b.1
      ∙ final_there (regex_kind r) (seeks r) bytes b.0 at m (known.final at m found early)

  -- none
  pub told_behind : (o : Option Found) → found_by (regex_kind r) (seeks r) bytes at ≡ o → IfSome o (λ m. k ≤ m.start) → at ≤ k →
      IsTold (regex_kind r) (seeks r) false bytes at (from_place k)
  told_behind o found late far = λ content b.
      ap (λ x. found_by (regex_kind r) (seeks r) x at) b.1
      ∙ onward_there (regex_kind r) (seeks r) refl bytes b.0 at k far (known.onward at o found late)
      ∙ ap (λ x. found_by (regex_kind r) (seeks r) x k) (sym b.1)

-- from a place at the end at the latest
pub lies_within : (at len : ℕ) (p : Partial) → at ≤ len + 1 → IsWithin at len p → LiesIn at len p
lies_within at len (Final m) inside within = within
lies_within at len (From k) inside within = (within.0, let b = within.1 in omega (arith, b, inside))

-- The next matches of a list, one after another.
use Rattle.std.proofs.Common.{◌≡◌, ◌≢◌, ◌∙◌, ◌+◌, ◌-◌, ◌*◌, ◌≤◌, ◌<◌, ◌++◌, ℕ, true, false, true≢false, List, [], ◌∷◌, Option, Some, None, nat_eq, if◌then◌else◌, ⊎_elim, ap, sym, refl, arith, append_assoc, subst}
use Rattle.std.proofs.lemmas.Bool.{and_cases, cases_Bool, cases_lt, eqb-false}
use Rattle.std.proofs.lemmas.Bool.Decides.{nat_tests}
use Rattle.std.proofs.lemmas.Option.{none-some, same_Some}
use Rattle.rc_text.specs.Found.{Found}
use Rattle.rc_text.specs.Text.{Searched, high}
use Rattle.rc_program.specs.Kinds.{answer_by, answer_by_from}
use Rattle.rc_program.specs.Matches.{LiesWithin, begin_of, end_of, is_again, next_match, unless_again}
use Rattle.rc_program.specs.Sought.{search_for}
use Rattle.rc_program.proofs.KindLemmas.{kinds_lie_within}
use Rattle.rc_pikevm_search.specs.Moved.{IsMoved}
use Rattle.rc_pikevm_search.specs.Engine.{engine_search}
use Rattle.rc_pikevm_search.specs.Walks.{again, next_start}
use Rattle.rc_strategy.specs.Lists.{IsListMemo}
use Rattle.rc_strategy.specs.declared.list.ListMemo.{ListMemo}
use Rattle.rc_build.proofs.Fitted.{Finds, finds_same}
use Rattle.api_meta.specs.Ahead.{AddsNext, AreNext, ComesBehind}
use Rattle.api_meta.specs.Caches.{HasSameRoom, IsCacheFor}
use Rattle.api_meta.specs.Views.{regex_kind, regex_patterns, regex_settings, sought}
use Rattle.api_meta.specs.declared.cache.Cache.{Cache}
use Rattle.api_meta.specs.declared.regex.Regex.{Regex}
use Rattle.api_meta.proofs.Going.{moved}

-- how a regex looks for matches in an input
abbrev pub find_by : Regex → Searched → ℕ → Option Found
find_by r i = answer_by_from (regex_kind r) (search_for (sought r) i)

-- an empty match may come at k
abbrev pub slack : Option ℕ → ℕ → ℕ
slack None k = 1
slack (Some last) k = if nat_eq last k then 0 else 1

-- at most so many matches are left
abbrev pub left_at_most : ℕ → ℕ → Option ℕ → ℕ
left_at_most hi k last = 2 * (hi + 1 - k) + slack last k

-- What a loop keeps that adds the next matches.
pub record Adds (r : Regex) (c d : Cache) (i j : Searched) (memo : ListMemo) (b : ℕ) (last l : Option ℕ) (before after : List Found) (from : ℕ) : Type 0 where
  pub made : IsCacheFor (regex_patterns r) (regex_settings r) d
  pub room : HasSameRoom c d
  pub moves : IsMoved i j
  pub start : j.span.start ≡ from
  pub kept : IsListMemo r.engines j memo
  pub adds : AddsNext (find_by r i) b i.span.start last before from l after

-- one more match
next_too : (find : ℕ → Option Found) (b : ℕ) (ms : List Found) (k : ℕ) (last : Option ℕ) (j : ℕ) (l : Option ℕ) (m : Found) → AreNext find b ms k last j l →
    next_match begin_of end_of find j l ≡ Some m → m.start < b → AreNext find b (ms ++ m ∷ []) k last m.end (Some m.end)
next_too find b [] k last j l m are next low =
    (ap (λ x. next_match begin_of end_of find x last) (sym are.0) ∙ ap (λ x. next_match begin_of end_of find j x) (sym are.1) ∙ next, low, (refl, refl))
next_too find b (x ∷ ms) k last j l m are next low = (are.0, are.1, next_too find b ms x.end (Some x.end) j l m are.2 next low)

pub adds_one : (find : ℕ → Option Found) (b k : ℕ) (last : Option ℕ) (before : List Found) (j : ℕ) (l : Option ℕ) (after : List Found) (m : Found) →
    AddsNext find b k last before j l after → next_match begin_of end_of find j l ≡ Some m → m.start < b →
    AddsNext find b k last before m.end (Some m.end) (after ++ m ∷ [])
adds_one find b k last before j l after m a next low = record {
  more = a.more ++ m ∷ [];
  added = ap (λ ms. ms ++ m ∷ []) a.added ∙ append_assoc before a.more (m ∷ []);
  next = next_too find b a.more k last j l m a.next next low;
}

-- from the same place on, in the same list
pub adds_same : (find : ℕ → Option Found) (b k : ℕ) (last : Option ℕ) (before : List Found) (i j : ℕ) (l : Option ℕ) (items after : List Found) →
    j ≡ i → after ≡ items → AddsNext find b k last before i l items → AddsNext find b k last before j l after
adds_same find b k last before i j l items after at is a =
    subst (λ x. AddsNext find b k last before x l after) (sym at) (subst (λ ms. AddsNext find b k last before i l ms) (sym is) a)

pub none_behind : (b : ℕ) (o : Option Found) → o ≡ None → ComesBehind b o false
none_behind b None e = record { none = λ _. refl; some = λ yes. absurd (true≢false (sym yes)); far = tt }
none_behind b (Some m) e = absurd (none-some m (sym e))

pub some_behind : (b : ℕ) (o : Option Found) (m : Found) → o ≡ Some m → b ≤ m.start → ComesBehind b o true
some_behind b None m e after = absurd (none-some m e)
some_behind b (Some n) m e after = record {
  none = λ no. absurd (true≢false no);
  some = λ _ gone. none-some n (sym gone);
  far = let q : n ≡ m = same_Some n m e in rw q after;
}

-- the next match of an input that was moved is one of the input
pub found_on : (r : Regex) (i j : Searched) (k : ℕ) (last : Option ℕ) (o : Option Found) → IsMoved i j → j.span.start ≡ k → Finds r.engines.engine j last o →
    o ≡ next_match begin_of end_of (find_by r i) k last
found_on r i j k last o m at f =
    finds_same r.fits j last o f
    ∙ ap (λ s. next_match begin_of end_of (answer_by_from (regex_kind r) s) j.span.start last) (moved r i j m)
    ∙ ap (λ x. next_match begin_of end_of (find_by r i) x last) at

slack_ends : (k : ℕ) → slack (Some k) k ≡ 0
slack_ends k = grind (arith, nat_tests)

slack_other : (last k : ℕ) → (last ≡ k → ⊥) → slack (Some last) k ≡ 1
slack_other last k other = grind (arith, nat_tests, other)

module _ (find : ℕ → Option Found) (low hi : ℕ) (within : LiesWithin begin_of end_of find low hi) where
  falls_unless : (k : ℕ) (last : Option ℕ) (o : Option Found) (m : Found) → find k ≡ o → unless_again begin_of end_of find k last o ≡ Some m →
      left_at_most hi m.end (Some m.end) < left_at_most hi k last
  falls_unless k last None m was e = absurd (none-some m e)
  falls_unless k None (Some n) m was e = let h = within k m (was ∙ e) in omega (arith, h.0, h.2, h.3, slack_ends m.end)
  falls_unless k (Some last) (Some n) m was e =
      ⊎_elim
      (λ t. let f : find (k + 1) ≡ Some m = rw t at e in
      let h = within (k + 1) m f in
      omega (arith, h.0, h.2, h.3, slack_ends m.end))
      (λ f. let g : Some n ≡ Some m = rw f at e in
      let h = within k m (was ∙ g) in
      let q : n ≡ m = same_Some n m g in
      ⊎_elim
      (λ on. omega (arith, h.0, h.2, h.3, on, slack_ends m.end))
      (λ at. let same : begin_of m ≡ end_of m = omega (arith, h.0, h.2, at) in
      ⊎_elim
      (λ x. absurd (eqb-false (begin_of n) (end_of n) x (rw q same)))
      (λ x. let other : last ≡ k → ⊥ = λ l. let ends : m.end ≡ last = omega (arith, h.0, h.2, at, l) in eqb-false (end_of n) last x (rw q ends) in
      omega (arith, h.0, h.2, h.3, slack_ends m.end, slack_other last k other))
      (and_cases (nat_eq (begin_of n) (end_of n)) (nat_eq (end_of n) last) f))
      (cases_lt k m.end))
      (cases_Bool (is_again begin_of end_of (Some last) n))

  pub falls : (k : ℕ) (last : Option ℕ) (m : Found) → next_match begin_of end_of find k last ≡ Some m →
      left_at_most hi m.end (Some m.end) < left_at_most hi k last
  falls k last m e = falls_unless k last (find k) m refl e

-- fewer are left behind the next match
pub fewer_left : (r : Regex) (i : Searched) (k : ℕ) (last : Option ℕ) (m : Found) → next_match begin_of end_of (find_by r i) k last ≡ Some m →
    left_at_most (high i) m.end (Some m.end) < left_at_most (high i) k last
fewer_left r i k last m e =
    let s = search_for (sought r) i in falls (find_by r i) s.text.slice_start s.hi (kinds_lie_within (regex_kind r) s) k last m e

-- where the next match is looked for a byte later, its search has a match
moved_within : (r : Regex) (i : Searched) (last : Option ℕ) (o : Option Found) (e : answer_by r.engines.engine.kind (engine_search r.engines.engine i) ≡ o) →
    (if again last o then i.span.start + 1 else i.span.start) ≢ i.span.start → i.span.start ≤ high i
moved_within r i None None e other = absurd (other refl)
moved_within r i (Some last) None e other = absurd (other refl)
moved_within r i last (Some m) e other =
    let h = kinds_lie_within r.engines.engine.kind (engine_search r.engines.engine i) i.span.start m e in omega (arith, h.0, h.2, h.3)

pub moved_near : (r : Regex) (i : Searched) (last : Option ℕ) (start : ℕ) →
    start ≡ next_start r.engines.engine.kind (engine_search r.engines.engine i) i.span.start last → start ≢ i.span.start → i.span.start ≤ high i
moved_near r i last start at other = moved_within r i last (answer_by_from r.engines.engine.kind (engine_search r.engines.engine i) i.span.start) refl (λ x. other (at ∙ x))

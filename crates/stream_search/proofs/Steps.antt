-- What the first bytes of a content tell of the whole.
use Rattle.std.proofs.Common.{◌≡◌, ◌∙◌, ◌++◌, ℕ, false, List, drop, take, Some, sym, ap, subst}
use Rattle.std.proofs.lemmas.List.{take-append-drop}
use Rattle.rc_text.specs.Found.{Found}
use Rattle.rc_reach.specs.Partial.{final, from_place}
use Rattle.api_meta.specs.Views.{regex_kind}
use Rattle.api_meta.specs.declared.regex.Regex.{Regex}
use Rattle.stream_search.specs.Searches.{seeks}
use Rattle.stream_search.specs.Stepping.{IsUnderWay, Settles, Stepping, found_from}
use Rattle.stream_search.specs.Streams.{IsTold, MayBecome}

module _ (r : Regex) (content : List ℕ) (at end : ℕ) where
  opened : MayBecome false (take end content) content
  opened = (drop end content, sym (take-append-drop end content))

  pub final_in : (m : Found) → IsTold (regex_kind r) (seeks r) false (take end content) at (final m) → found_from r content at ≡ Some m
  final_in m told = told content opened

  pub onward_in : (k : ℕ) → IsTold (regex_kind r) (seeks r) false (take end content) at (from_place k) → found_from r content at ≡ found_from r content k
  onward_in k told = told content opened

-- ---- of what a stepper holds: `s` as it is inside, `now` as contracts see it

module _ {s now : Stepping} (same : s ≡ now) (content shown : List ℕ) (is : shown ≡ content) (end start : ℕ) (way : IsUnderWay content start now) where
  on_way : found_from now.regex content start ≡ found_from s.regex content s.from
  on_way = way ∙ ap (λ (x : Stepping). found_from x.regex content x.from) (sym same)

  pub done_in : (m : Found) → IsTold (regex_kind s.regex) (seeks s.regex) false (take end shown) s.from (final m) → Some m ≡ found_from now.regex content start
  done_in m told =
      sym (on_way ∙ final_in s.regex content s.from end m
      (subst (λ c. IsTold (regex_kind s.regex) (seeks s.regex) false (take end c) s.from (final m)) is told))

  pub on_in : (k : ℕ) (r : Regex) → r ≡ s.regex → IsTold (regex_kind s.regex) (seeks s.regex) false (take end shown) s.from (from_place k) →
      found_from r content start ≡ found_from r content k
  on_in k r of told =
      ap (λ x. found_from x content start) (of ∙ ap (λ (x : Stepping). x.regex) same) ∙ on_way
      ∙ onward_in s.regex content s.from end k
      (subst (λ c. IsTold (regex_kind s.regex) (seeks s.regex) false (take end c) s.from (from_place k)) is told)
      ∙ ap (λ x. found_from x content k) (sym of)

-- a match that the first bytes settle
pub settled_in : {s now : Stepping} → s ≡ now → (content shown : List ℕ) → shown ≡ content → (end at : ℕ) → end ≡ at → (m : Found) →
    IsTold (regex_kind s.regex) (seeks s.regex) false (take end shown) s.from (final m) → Settles now (take at content) (Some m)
settled_in {s} {now} same content shown is end at ends m told = λ more.
    sym (ap (λ (x : Stepping). found_from x.regex (take at content ++ more) x.from) same)
    ∙ told (take at content ++ more) (more, ap (λ c. take at c ++ more) (sym is) ∙ ap (λ n. take n shown ++ more) (sym ends))

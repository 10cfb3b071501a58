-- Lists of ranges, and where they meet.
use Rattle.std.proofs.Common.{◌≡◌, ℕ, ◌<◌, ◌≤◌, true, false, List, [], ◌∷◌, ◌++◌, ◌⊎◌, length, inl, inr, Option, Some, None, refl, sym, ap, subst, ◌∙◌, arith, ⊎_elim}
use Rattle.std.proofs.lemmas.Bool.{lt-ltb, true≢false}
use Rattle.std.proofs.lemmas.List.{append-nil}
use Rattle.std.proofs.lemmas.Option.{none-some}
use Rattle.rc_text.specs.declared.types.MatchKind.{MatchKind}
use Rattle.rc_program.specs.Answer.{Search}
use Rattle.live_matches.specs.Entry.{Entry}
use Rattle.live_matches.specs.Entries.{AreBelow, Gapped, IsSettledTo, IsSkipped, all_of, is_before, last_end}
use Rattle.live_matches.specs.Lists.{AreEntries, AreFirst, IsEntry, next_after, place_of}
use Rattle.live_matches.specs.Ranges.{AreUpTo, MeetsUpTo}
use Rattle.live_matches.proofs.Gaps.{end_push}
use Rattle.live_matches.proofs.Listed.{end_append, first_append, first_split}
use Rattle.live_matches.proofs.Moves.{lies}
use Rattle.live_matches.proofs.Nexts.{ends_inside, none_of_none}

-- ---- where the last entry ends

some_end : (p : ℕ) (es : List Entry) → (q : ℕ) × (last_end (Some p) es ≡ Some q)
some_end p [] = (p, refl)
some_end p (e ∷ es) = some_end e.found.end es

pub end_some : (start : Option ℕ) (es : List Entry) (q : ℕ) → last_end None es ≡ Some q → last_end start es ≡ Some q
end_some start [] q h = absurd (none-some q h)
end_some start (e ∷ es) q h = h

pub end_none : (start : Option ℕ) (es : List Entry) → last_end None es ≡ None → last_end start es ≡ start
end_none start [] h = refl
end_none start (e ∷ es) h = let r = some_end e.found.end es in absurd (none-some r.0 (sym h ∙ r.1))

module _ (kind : MatchKind) (s : Search) where
  -- ---- the rest of a list

  rest_of : (c : List ℕ) (stop : ℕ) (last : Option ℕ) (gone rest : List Entry) → AreUpTo kind s c stop last (gone ++ rest) →
      AreUpTo kind s c stop (last_end last gone) rest
  rest_of c stop last gone rest are = record {
    first = (first_split kind s c last gone rest are.first).1;
    done = subst (λ l. (is_before l stop ≡ false) ⊎ (next_after kind s c l ≡ None)) (end_append kind s last gone rest) are.done;
  }

  pub skipped_to : (c : List ℕ) (stop : ℕ) (mark now : Option ℕ) (es gone rest : List Entry) → MeetsUpTo kind s c stop mark es → es ≡ gone ++ rest →
      now ≡ last_end mark gone → MeetsUpTo kind s c stop now rest
  skipped_to c stop None now es gone rest meets split e =
      let r = none_of_none kind s gone rest (sym split ∙ meets) in
      subst (λ m. MeetsUpTo kind s c stop m rest) (sym (e ∙ ap (last_end None) r.0)) r.1
  skipped_to c stop (Some p) now es gone rest meets split e =
      let r = some_end p gone in
      subst (λ m. MeetsUpTo kind s c stop m rest) (sym (e ∙ r.1))
      (subst (λ l. AreUpTo kind s c stop l rest) r.1 (rest_of c stop (Some p) gone rest (subst (AreUpTo kind s c stop (Some p)) split meets)))

  -- ---- one more entry

  module _ (c : List ℕ) (stop : ℕ) (start : Option ℕ) (g p h : Gapped) (e : Entry) (mark now : Option ℕ) (at : ℕ)
      (pushed : p ≡ record g { before = g.before ++ e ∷ [] }) (skip : IsSkipped mark at p now h) where
    before_is : h.before ≡ g.before ++ e ∷ []
    before_is = skip.before ∙ ap (λ (x : Gapped). x.before) pushed

    pub more_len : h.len ≡ g.len
    more_len = skip.len ∙ ap (λ (x : Gapped). x.len) pushed

    pub more_last : last_end start h.before ≡ Some e.found.end
    more_last = ap (last_end start) before_is ∙ end_push start g.before e

    pub more_first : (last : Option ℕ) → last ≡ last_end start g.before → IsEntry kind s c last e → AreFirst kind s c start g.before →
        AreFirst kind s c start h.before
    more_first last same is first =
        subst (AreFirst kind s c start) (sym before_is)
        (first_append kind s c start g.before (e ∷ []) first (subst (λ l. IsEntry kind s c l e) same is, tt))

    pub more_rest : MeetsUpTo kind s c stop mark g.after → MeetsUpTo kind s c stop now h.after
    more_rest meets = skipped_to c stop mark now g.after skip.dropped h.after meets (sym (ap (λ (x : Gapped). x.after) pushed) ∙ skip.split) skip.mark_is

  -- ---- the whole list

  pub met : (c : List ℕ) (stop : ℕ) (start mark : Option ℕ) (es fs : List Entry) (q : ℕ) → AreFirst kind s c start es → mark ≡ Some q →
      last_end start es ≡ Some q → MeetsUpTo kind s c stop mark fs → AreUpTo kind s c stop start (es ++ fs)
  met c stop start mark es fs q first there same meets =
      let rest : AreUpTo kind s c stop (last_end start es) fs = subst (λ l. AreUpTo kind s c stop l fs) (sym same)
      (subst (λ m. MeetsUpTo kind s c stop m fs) there meets) in
      record {
        first = first_append kind s c start es fs first rest.first;
        done = subst (λ l. (is_before l stop ≡ false) ⊎ (next_after kind s c l ≡ None)) (sym (end_append kind s start es fs)) rest.done;
      }

  pub far : (c : List ℕ) (stop : ℕ) (start : Option ℕ) (es : List Entry) → AreFirst kind s c start es → is_before (last_end start es) stop ≡ false →
      AreUpTo kind s c stop start (es ++ [])
  far c stop start es first late = subst (AreUpTo kind s c stop start) (sym (append-nil es)) (record { first = first; done = inl late })

  pub none : (c : List ℕ) (stop : ℕ) (start : Option ℕ) (es : List Entry) → AreFirst kind s c start es → next_after kind s c (last_end start es) ≡ None →
      AreUpTo kind s c stop start (es ++ [])
  none c stop start es first ends = subst (AreUpTo kind s c stop start) (sym (append-nil es)) (record { first = first; done = inr ends })

  -- a range that ends after the text
  before_end : (n stop : ℕ) (last : Option ℕ) → place_of last ≤ n → n < stop → is_before last stop ≡ true
  before_end n stop None h l = refl
  before_end n stop (Some p) h l = lt-ltb p stop (omega (arith, h, l))

  pub to_end : (c : List ℕ) (stop : ℕ) (es : List Entry) → AreUpTo kind s c stop None es → length c < stop → AreEntries kind s c None es
  to_end c stop es are over = record {
    first = are.first;
    ended = ⊎_elim
        (λ late. absurd (true≢false (sym (before_end (length c) stop (last_end None es) (ends_inside kind s c None es (omega arith) are.first) over) ∙ late)))
        (λ e. e) are.done;
  }

  -- ---- the entries of a range that doesn't begin with the text lie after the gap

  pub none_below : (c : List ℕ) (p : ℕ) (es : List Entry) → 0 < p → AreFirst kind s c (Some p) es → AreBelow 0 es → es ≡ []
  none_below c p [] some first below = refl
  none_below c p (e ∷ es) some first below =
      let h = (lies kind s c (Some p) e.found first.0.found).0 in absurd (omega (arith, h.0, h.2, below.0, some))

  pub all_after : (c : List ℕ) (stop p : ℕ) (g h : Gapped) → 0 < p → AreUpTo kind s c stop (Some p) (all_of g) → IsSettledTo 0 g h →
      AreUpTo kind s c stop (Some p) h.after
  all_after c stop p g h some are set =
      let all = subst (AreUpTo kind s c stop (Some p)) (sym set.all) are in
      let few = none_below c p h.before some (first_split kind s c (Some p) h.before h.after all.first).0 set.below in
      subst (λ es. AreUpTo kind s c stop (Some p) (es ++ h.after)) few all

  pub all_before : (c : List ℕ) (start : Option ℕ) (at : ℕ) (g h : Gapped) → AreFirst kind s c start (all_of g) → IsSettledTo at g h → AreFirst kind s c start h.before
  all_before c start at g h first set = (first_split kind s c start h.before h.after (subst (AreFirst kind s c start) (sym set.all) first)).0

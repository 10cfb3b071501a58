-- The steps of a stream: bytes come, matches are told, the search goes on, bytes are let go.
use Rattle.std.proofs.Common.{◌≡◌, ℕ, ◌+◌, ◌≤◌, Bool, true, false, List, [], ◌∷◌, ◌++◌, length, drop, Option, Some, None, sym, ap, ◌∙◌, refl, arith, append_assoc, length-append, length-drop}
use Rattle.std.proofs.lemmas.List.{append-nil, drop-append-le, drop-drop}
use Rattle.rc_text.specs.Found.{Found}
use Rattle.rc_text.specs.declared.types.MatchKind.{MatchKind}
use Rattle.rc_program.specs.Answer.{Search}
use Rattle.rc_program.specs.Kinds.{matches_by_kind}
use Rattle.rc_program.specs.Matches
use Rattle.rc_program.specs.Matches.{AreMatches, begin_of, end_of, next_match}
use Rattle.rc_program.proofs.KindLemmas.{kinds_are, kinds_law}
use Rattle.rc_reach.specs.Live.{found_by, list_by, over_content}
use Rattle.stream_search.specs.Streams.{BeginsWith, GoesOn, IsStream, MayBecome}
use Rattle.stream_search.proofs.Contents.{became_all, became_more}

module _ (kind : MatchKind) (s : Search) where
  abbrev next : List ℕ → ℕ → Option ℕ → Option Found
  next content = next_match begin_of end_of (found_by kind s content)

  -- there are matches from each place on
  there_are : (content : List ℕ) (from : ℕ) (last : Option ℕ) (o : Option Found) → next content from last ≡ o →
      (rest : List Found) × AreMatches begin_of end_of (found_by kind s content) from last rest
  there_are content from last None e = ([], Matches.ends e)
  there_are content from last (Some m) e = (
    m ∷ matches_by_kind kind (over_content s content) m.end (Some m.end),
    Matches.goes_on m e (kinds_are kind (over_content s content) m.end (Some m.end) refl),
  )

  begins_with : (content : List ℕ) (told : List Found) (from : ℕ) (last : Option ℕ) → GoesOn kind s content told from last →
      BeginsWith told (list_by kind s content)
  begins_with content told from last on =
      let r = there_are content from last (next content from last) refl in (r.0, on r.0 r.1)

  -- before anything is fed
  pub first : IsStream kind s [] [] false [] 0 0 None
  first = record {
    begins = λ content b. (list_by kind s content, refl);
    goes_on = λ content b rest are. sym (kinds_law.alone kind (over_content s content) 0 rest are);
    kept_is = refl;
    inside = omega arith;
  }

  module _ (fed : List ℕ) (told : List Found) (is_finished : Bool) (kept : List ℕ) (gone from : ℕ) (last : Option ℕ)
      (was : IsStream kind s fed told is_finished kept gone from last) where
    same_rest : (content : List ℕ) (to : ℕ) (rest : List Found) → next content from last ≡ next content to last →
        AreMatches begin_of end_of (found_by kind s content) to last rest → AreMatches begin_of end_of (found_by kind s content) from last rest
    same_rest content to [] same (Matches.ends e) = Matches.ends (same ∙ e)
    same_rest content to (m ∷ rest) same (Matches.goes_on n e more) = Matches.goes_on m (same ∙ e) more

    -- the search goes on from another place, if the next match is the same
    pub moved_on : (to : ℕ) → ((content : List ℕ) → MayBecome is_finished fed content → next content from last ≡ next content to last) →
        IsStream kind s fed told is_finished kept gone to last
    moved_on to same = record {
      begins = was.begins;
      goes_on = λ content b rest are. was.goes_on content b rest (same_rest content to rest (same content b) are);
      kept_is = was.kept_is;
      inside = was.inside;
    }

    -- the next match is told
    pub told_one : (m : Found) → ((content : List ℕ) → MayBecome is_finished fed content → next content from last ≡ Some m) →
        IsStream kind s fed (told ++ m ∷ []) is_finished kept gone m.end (Some m.end)
    told_one m is =
        let on : (content : List ℕ) → MayBecome is_finished fed content → GoesOn kind s content (told ++ m ∷ []) m.end (Some m.end)
        = λ content b rest are. was.goes_on content b (m ∷ rest) (Matches.goes_on m (is content b) are) ∙ sym (append_assoc told (m ∷ []) rest) in
        record {
          begins = λ content b. begins_with content (told ++ m ∷ []) m.end (Some m.end) (on content b);
          goes_on = on;
          kept_is = was.kept_is;
          inside = was.inside;
        }

    -- no more follows
    pub finished : IsStream kind s fed told true kept gone from last
    finished = record {
      begins = λ content b. was.begins content (became_all is_finished fed content b);
      goes_on = λ content b. was.goes_on content (became_all is_finished fed content b);
      kept_is = was.kept_is;
      inside = was.inside;
    }

  -- all matches are told
  pub all_told : (fed : List ℕ) (told : List Found) (kept : List ℕ) (gone from : ℕ) (last : Option ℕ) →
      IsStream kind s fed told true kept gone from last → next fed from last ≡ None → told ≡ list_by kind s fed
  all_told fed told kept gone from last was none =
      sym (append-nil told) ∙ sym (was.goes_on fed refl [] (Matches.ends none))

  -- bytes are let go, and more come
  pub fed_more : (fed chunk : List ℕ) (told : List Found) (kept now : List ℕ) (gone less from : ℕ) (last : Option ℕ) →
      IsStream kind s fed told false kept gone from last → less ≤ length kept → now ≡ drop less kept ++ chunk →
      IsStream kind s (fed ++ chunk) told false now (gone + less) from last
  fed_more fed chunk told kept now gone less from last was few is =
      let l = ap length was.kept_is in
      let d = length-drop gone fed in
      let i = was.inside in
      let there : gone + less ≤ length fed = omega (arith, few, l, d, i) in
      let a = length-append fed chunk in
      record {
        begins = λ content b. was.begins content (became_more fed chunk content b);
        goes_on = λ content b. was.goes_on content (became_more fed chunk content b);
        kept_is = is ∙ ap (λ k. drop less k ++ chunk) was.kept_is ∙ ap (λ k. k ++ chunk) (drop-drop less gone fed)
            ∙ sym (drop-append-le (gone + less) fed chunk there);
        inside = omega (arith, there, a);
      }

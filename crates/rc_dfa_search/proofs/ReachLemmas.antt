-- What the bytes tell at which the runs of a search looked.
use Rattle.std.proofs.Common.{◌≡◌, ℕ, ◌+◌, ◌<◌, ◌≤◌, ◌⊎◌, Bool, true, false, true≢false, List, Option, Some, None, Result, IfOk, max, min, sym, subst, ap, ◌∙◌, refl, arith}
use Rattle.rc_text.specs.Found.{Found}
use Rattle.rc_text.specs.Plain.{is_anchored as anchors}
use Rattle.rc_text.specs.Text.{Searched, low, high, slice_end}
use Rattle.rc_text.specs.declared.types.MatchKind.{MatchKind}
use Rattle.rc_text.specs.declared.types.MatchError as error
use Rattle.rc_text.specs.declared.types.Anchored.{Anchored}
use Rattle.rc_text.specs.declared.types.Anchored.TheVariants.{No, Yes, Pattern}
use Rattle.rc_pattern.specs.Re.{Re}
use Rattle.rc_program.specs.Answer.{Search}
use Rattle.rc_program.specs.Kinds.{answer_by}
use Rattle.rc_program.specs.Sought.{text_of}
use Rattle.rc_utf8.specs.Laws.{by_bytes}
use Rattle.rc_determinize.specs.Laws.{may_end_at}
use Rattle.rc_reach.specs.Settled.{AgreesBelow, IsInside}
use Rattle.rc_reach.proofs.AgreeLemmas.{same_bound}
use Rattle.rc_reach.proofs.LawLemmas.{reach_law}
use Rattle.rc_reach.proofs.SliceLemmas.{slice_law}
use Rattle.rc_dfa.specs.Machine.{Machine, IsAsked}
use Rattle.rc_dfa.specs.Reads.{HasEndedBelow, SearchEndsBelow}
use Rattle.rc_dfa.specs.Runs.{met_last, SearchEnds, SearchEndsDown}
use Rattle.rc_dfa.specs.declared.ended.Ended.{Ended}
use Rattle.rc_dfa.specs.declared.ended.Ended.TheVariants.{Found as found_last, Idle, Quit, GaveUp}
use Rattle.rc_dfa.specs.declared.ended.Met.{Met}
use Rattle.rc_dfa.specs.declared.ended.Reading.{Reading}
use Rattle.rc_dfa_reach.specs.RunReach.{seen_to}
use Rattle.rc_dfa_reach.proofs.RunReachLemmas.{run_reach_law}
use Rattle.rc_dfa_reach.proofs.TableReachLemmas.{look_same, table_reach_law}
use Rattle.rc_dfa_search.specs.declared.search.Aim.{Aim}
use Rattle.rc_dfa_search.specs.Aims.{AreHalvesOf, search_for}
use Rattle.rc_dfa_search.specs.Ends.{Asks, told_of}
use Rattle.rc_dfa_search.specs.Laws.{met_from}
use Rattle.rc_dfa_search.specs.Leftmost.{IsLeftmost, IsRaisedBy}
use Rattle.rc_dfa_search.specs.Machines.{IsCase}
use Rattle.rc_dfa_search.specs.Reaches.{BeginsBy, HasMetBelow, IsAnswerBelow, TellsReach}
use Rattle.rc_dfa_search.proofs.CaseLemmas.{same_reading}
use Rattle.rc_dfa_search.proofs.LeftmostLemmas.{leftmost_law}
use Rattle.rc_dfa_search.proofs.SeekLemmas.{void_answer}
use Rattle.rc_dfa_search.proofs.SeenLemmas.{seen_past}
use Rattle.rc_dfa_search.proofs.ToldLemmas.{asked_so, case_of}

-- the end of the slice, and the byte there, settle each answer
pub answer_far : (kind : MatchKind) (s : Search) (r : ℕ) (found : Option Found) → IsInside s → s.text.slice_end + 1 ≤ r → answer_by kind s ≡ found →
    IsAnswerBelow kind s r found
answer_far kind s r found inside far is t in2 agrees =
    reach_law.match kind s r (reach_law.more kind s (s.text.slice_end + 1) r far (slice_law kind s inside)) t in2 agrees ∙ is

pub itself : (s : Search) (r : ℕ) → AgreesBelow r s s
itself s r = record {
  places = refl;
  terminator = refl;
  slice_start = refl;
  lo = refl;
  anchoring = refl;
  passes_over = refl;
  read = refl;
  seen = refl;
  content = refl;
}

pub is_no : (anchored : Anchored) → anchors anchored ≡ false → anchored ≡ No
is_no No e = refl
is_no Yes e = absurd (true≢false e)
is_no (Pattern p) e = absurd (true≢false e)

module _ (hs : List Re) (kind : MatchKind) (left : IsLeftmost kind) (m n : Machine) (anchored : Anchored) (s : Search) (c : IsCase hs kind m n anchored s)
    (inside : IsInside s) (all : s.passes_over ≡ false) (r : ℕ) where
  module _ (t : Search) (in2 : IsInside t) (agrees : AgreesBelow r s t) (far : s.lo ≤ r) where
    pub same_case : IsCase hs kind m n anchored t
    same_case =
        let bound = same_bound s t r inside in2 agrees in
        let ordered = c.ordered in
        let lo = agrees.lo in
        record {
          alphabet = c.alphabet;
          machines = subst (λ x. Rattle.rc_dfa_search.specs.Machines.AreMachinesOver c.alphabet hs x kind m n) (sym agrees.terminator) c.machines;
          places = agrees.places ∙ c.places;
          anchoring = agrees.anchoring ∙ c.anchoring;
          inside = record { low = in2.lo; high = in2.hi; bounded = in2.slice_end };
          ordered = omega (arith, bound, ordered, lo, far);
          asked = c.asked;
        }

    pub may_end : (e : ℕ) → may_end_at t e ≡ true
    may_end e = rw (agrees.passes_over ∙ all) refl

    begins_too : IsRaisedBy kind (by_bytes t) t.lo
    begins_too = leftmost_law.begins hs kind m n anchored t same_case

-- a run that read so far, in each search that is the same below what decides that
module _ (hs : List Re) (kind : MatchKind) (left : IsLeftmost kind) (m n : Machine) (anchored : Anchored) (s : Search) (c : IsCase hs kind m n anchored s)
    (inside : IsInside s) (all : s.passes_over ≡ false) (r : ℕ) where
  abbrev Seen : ℕ
  Seen = seen_to m.alphabet r

  ends_too : (t : Search) → IsInside t → AgreesBelow Seen s t → (o : Option (ℕ × ℕ)) →
      SearchEndsBelow m s.text s.hi s.lo anchored false (met_last o) r → SearchEnds m t.text t.hi t.lo anchored false (met_last o)
  ends_too t in2 agrees o h =
      subst (λ x. SearchEnds m t.text t.hi x anchored false (met_last o)) (sym agrees.lo)
      (table_reach_law m s t s.lo anchored false (met_last o) r inside in2 c.ordered h agrees)

  far_enough : (o : Option (ℕ × ℕ)) → SearchEndsBelow m s.text s.hi s.lo anchored false (met_last o) r → s.lo ≤ Seen
  far_enough o h =
      let far = (run_reach_law.onward m s.text s.hi s.lo anchored false (met_last o) r c.ordered h).0 in
      let past = seen_past m.alphabet r in omega (arith, far, past)

  here : (t : Search) → IsInside t → AgreesBelow Seen s t → s.lo ≤ Seen → IsCase hs kind m n anchored t
  here = same_case hs kind left m n anchored s c inside all Seen

  begins_here : (t : Search) → IsInside t → AgreesBelow Seen s t → s.lo ≤ Seen → IsRaisedBy kind (by_bytes t) t.lo
  begins_here = begins_too hs kind left m n anchored s c inside all Seen

  ends_here : (t : Search) → IsInside t → AgreesBelow Seen s t → s.lo ≤ Seen → (e : ℕ) → may_end_at t e ≡ true
  ends_here = may_end hs kind left m n anchored s c inside all Seen

  pub none_below : SearchEndsBelow m s.text s.hi s.lo anchored false (met_last None) r → IsAnswerBelow kind s Seen None
  none_below h t in2 agrees =
      let far = far_enough None h in
      leftmost_law.none hs kind m n anchored t t.lo left (here t in2 agrees far) (begins_here t in2 agrees far) (ends_too t in2 agrees None h)

  -- where the search is anchored, the start is known
  pub some_held : (q e : ℕ) → SearchEndsBelow m s.text s.hi s.lo anchored false (met_last (Some (q, e))) r → anchors anchored ≡ true →
      IsAnswerBelow kind s Seen (Some (met_from m q s.lo e))
  some_held q e h so t in2 agrees =
      let far = far_enough (Some (q, e)) h in
      let k = leftmost_law.at_start hs kind m n anchored t t.lo q e left (here t in2 agrees far) (begins_here t in2 agrees far)
      (ends_too t in2 agrees (Some (q, e)) h) (ends_here t in2 agrees far e) so in
      subst (λ x. answer_by kind t ≡ Some (met_from m q x e)) agrees.lo k.2

-- where it isn't, it is what a run backwards met
module _ (hs : List Re) (kind : MatchKind) (left : IsLeftmost kind) (m n : Machine) (s : Search) (c : IsCase hs kind m n No s) (inside : IsInside s)
    (all : s.passes_over ≡ false) (r q e : ℕ) (h : SearchEndsBelow m s.text s.hi s.lo No false (met_last (Some (q, e))) r) where
  down_too : (o : Option (ℕ × ℕ)) (t : Search) → IsInside t → AgreesBelow (seen_to m.alphabet r) s t → SearchEndsDown n s.text s.lo e No false (met_last o) →
      SearchEndsDown n t.text t.lo e No false (met_last o)
  down_too o t in2 agrees d =
      subst (λ x. SearchEndsDown n t.text x e No false (met_last o)) (sym agrees.lo)
      (run_reach_law.down n s.text s.hi s.lo e No false (met_last o) r t.text t.hi (run_reach_law.met_before m s.text s.hi s.lo No false q e r h) d
      (look_same n.alphabet s t r inside in2 (subst (λ a. AgreesBelow (seen_to a r) s t) (same_reading c) agrees)))

  pub some_free : (x k : ℕ) → SearchEndsDown n s.text s.lo e No false (met_last (Some (x, k))) →
      IsAnswerBelow kind s (seen_to m.alphabet r) (Some (met_from m q x e))
  some_free x k d t in2 agrees =
      let far = far_enough hs kind left m n No s c inside all r (Some (q, e)) h in
      (leftmost_law.starts hs kind m n t t.lo q e x k left (here hs kind left m n No s c inside all r t in2 agrees far)
      (begins_here hs kind left m n No s c inside all r t in2 agrees far)
      (ends_too hs kind left m n No s c inside all r t in2 agrees (Some (q, e)) h) (ends_here hs kind left m n No s c inside all r t in2 agrees far e)
      (down_too (Some (x, k)) t in2 agrees d)).3

  free_within : (x k : ℕ) → SearchEndsDown n s.text s.lo e No false (met_last (Some (x, k))) → (s.lo ≤ x) × (x ≤ e) × (e ≤ s.hi)
  free_within x k d =
      let far = far_enough hs kind left m n No s c inside all r (Some (q, e)) h in
      let o = itself s (seen_to m.alphabet r) in
      let w = leftmost_law.starts hs kind m n s s.lo q e x k left c (begins_here hs kind left m n No s c inside all r s inside o far)
      (ends_too hs kind left m n No s c inside all r s inside o (Some (q, e)) h) (ends_here hs kind left m n No s c inside all r s inside o far e) d in
      (w.0, w.1, w.2)

  never_none : ¬ SearchEndsDown n s.text s.lo e No false (met_last None)
  never_none d =
      let far = far_enough hs kind left m n No s c inside all r (Some (q, e)) h in
      let o = itself s (seen_to m.alphabet r) in
      leftmost_law.some_start hs kind m n s s.lo q e left c (begins_here hs kind left m n No s c inside all r s inside o far)
      (ends_too hs kind left m n No s c inside all r s inside o (Some (q, e)) h) (ends_here hs kind left m n No s c inside all r s inside o far e) d

-- IN CODE

told_below : (m : Machine) (t : Rattle.rc_program.specs.Text.Text) (hi from : ℕ) (anchored : Anchored) (e : Ended) (r : ℕ) →
    HasEndedBelow m t hi from anchored false false e r → IfOk (told_of e) (HasMetBelow m t hi from anchored r)
told_below m t hi from anchored (found_last None) r h = h
told_below m t hi from anchored (found_last (Some met)) r h = h
told_below m t hi from anchored (Idle i) r h = absurd (true≢false (sym h.0))
told_below m t hi from anchored (Quit b p) r h = tt
told_below m t hi from anchored (GaveUp p memory) r h = tt

-- a span within the bounds
abbrev span : ℕ → ℕ → ℕ → Found
span p x e = record { pattern = p; start = x; end = e }

module _ (AreOf : Machine → Machine → Type 0) (aim : Aim) (tells : TellsReach aim) (hs : List Re) (terminator : ℕ) (of : AreHalvesOf AreOf aim hs terminator)
    (i : Searched) where
  abbrev q : Search
  q = search_for aim hs terminator i

  inside : IsInside q
  inside = record { lo = omega arith; hi = omega arith; slice_end = omega arith }

  -- where there is no position, or no such pattern
  pub void_below : (r : ℕ) → slice_end i + 1 ≤ r → (high i < low i) ⊎ (¬ Asks aim.patterns i.anchored) → IsAnswerBelow aim.kind q r None
  void_below r far void =
      answer_far aim.kind q r None inside far (sym (void_answer hs aim.patterns aim.kind false i.anchored q refl refl of.counted void))

  module _ (le : low i ≤ high i) (asks : Asks aim.patterns i.anchored) where
    case : IsCase hs aim.kind of.ahead of.back i.anchored q
    case = case_of AreOf aim hs terminator i of le asks

    -- what the run forwards met
    pub met_below : (run : Reading) (told : Result (Option Met) error.MatchError) (from : ℕ) (anchored : Anchored) → told ≡ told_of run.ended → from ≡ low i →
        anchored ≡ i.anchored →
        ((m n : Machine) → AreOf m n → IsAsked m anchored → HasEndedBelow m (text_of m.setting.terminator i) (high i) from anchored false false run.ended run.read) →
        IfOk told (HasMetBelow of.ahead (text_of terminator i) (high i) (low i) i.anchored run.read)
    met_below run told from anchored is at same h =
        let ms = of.machines in
        let asked = asked_so of.ahead hs aim.patterns i.anchored (ap (λ (m : Machine). m.entries) ms.ahead) of.counted asks in
        let here = subst (λ a. (m n : Machine) → AreOf m n → IsAsked m a →
        HasEndedBelow m (text_of m.setting.terminator i) (high i) (low i) a false false run.ended run.read) same
        (subst (λ k. (m n : Machine) → AreOf m n → IsAsked m anchored →
        HasEndedBelow m (text_of m.setting.terminator i) (high i) k anchored false false run.ended run.read) at h) of.ahead of.back of.are_of asked in
        subst (λ o. IfOk o (HasMetBelow of.ahead (text_of terminator i) (high i) (low i) i.anchored run.read)) (sym is)
        (told_below of.ahead (text_of terminator i) (high i) (low i) i.anchored run.ended run.read
        (subst (λ x. HasEndedBelow of.ahead (text_of x i) (high i) (low i) i.anchored false false run.ended run.read)
        (ap (λ (m : Machine). m.setting.terminator) ms.ahead) here))

    pub none_settled : (r : ℕ) → HasMetBelow of.ahead (text_of terminator i) (high i) (low i) i.anchored r None →
        IsAnswerBelow aim.kind q (seen_to of.ahead.alphabet r) None
    none_settled r h = none_below hs aim.kind tells.kind of.ahead of.back i.anchored q case inside tells.all r h

    module _ (r : ℕ) (met : Met) (h : HasMetBelow of.ahead (text_of terminator i) (high i) (low i) i.anchored r (Some met)) where
      -- it ends in the bounds
      met_within : (low i ≤ met.at) × (met.at ≤ high i)
      met_within =
          let far = far_enough hs aim.kind tells.kind of.ahead of.back i.anchored q case inside tells.all r (Some (h.0, met.at)) h.2 in
          let o = itself q (seen_to of.ahead.alphabet r) in
          let w = leftmost_law.ends hs aim.kind of.ahead of.back i.anchored q q.lo h.0 met.at tells.kind case
          (begins_here hs aim.kind tells.kind of.ahead of.back i.anchored q case inside tells.all r q inside o far)
          (ends_too hs aim.kind tells.kind of.ahead of.back i.anchored q case inside tells.all r q inside o (Some (h.0, met.at)) h.2)
          (ends_here hs aim.kind tells.kind of.ahead of.back i.anchored q case inside tells.all r q inside o far met.at) in
          let a = w.1 in let b = w.2 in (omega (arith, a, b), w.3)

      pub end_is : (end : ℕ) → end ≡ min (max met.at (low i)) (high i) → end ≡ met.at
      end_is end is = let w = met_within in let a = w.0 in let b = w.1 in omega (arith, is, a, b)

      -- the run looked at the byte there
      pub met_past : met.at < r
      met_past = run_reach_law.met_before of.ahead q.text q.hi q.lo i.anchored false h.0 met.at r h.2

      -- from where a match begins that ends there
      pub start_settled : (end : ℕ) → end ≡ met.at → BeginsBy of.back (text_of terminator i) (low i) end i.anchored None → ⊥
      start_settled end is begins =
          let start = subst (λ e. BeginsBy of.back (text_of terminator i) (low i) e i.anchored None) is begins in
          by_anchor (anchors i.anchored) refl start
        where
          by_anchor : (b : Bool) → anchors i.anchored ≡ b → BeginsBy of.back (text_of terminator i) (low i) met.at i.anchored None → ⊥
          by_anchor true so s = cc (s.0 so)
          by_anchor false so s =
              let no = is_no i.anchored so in
              never_none hs aim.kind tells.kind of.ahead of.back q
              (subst (λ a. IsCase hs aim.kind of.ahead of.back a q) no case) inside tells.all r h.0 met.at
              (subst (λ a. SearchEndsBelow of.ahead q.text q.hi q.lo a false (met_last (Some (h.0, met.at))) r) no h.2)
              (subst (λ a. SearchEndsDown of.back q.text q.lo met.at a false (met_last None)) no (s.1 so))

      pub some_settled : (end least start p : ℕ) → end ≡ met.at → BeginsBy of.back (text_of terminator i) (low i) end i.anchored (Some least) →
          start ≡ min (max least (low i)) end → p ≡ met.pattern → IsAnswerBelow aim.kind q (seen_to of.ahead.alphabet r) (Some (span p start end))
      some_settled end least start p is begins clamped same =
          let by_end = subst (λ e. BeginsBy of.back (text_of terminator i) (low i) e i.anchored (Some least)) is begins in
          let all = by_anchor (anchors i.anchored) refl by_end in
          let at : start ≡ least = let w = all.0 in let a = w.0 in let b = w.1 in omega (arith, clamped, is, a, b) in
          subst (λ o. IsAnswerBelow aim.kind q (seen_to of.ahead.alphabet r) (Some o)) (cc (at, is, same, h.1)) all.1
        where
          by_anchor : (b : Bool) → anchors i.anchored ≡ b → BeginsBy of.back (text_of terminator i) (low i) met.at i.anchored (Some least) →
              ((low i ≤ least) × (least ≤ met.at)) × IsAnswerBelow aim.kind q (seen_to of.ahead.alphabet r) (Some (met_from of.ahead h.0 least met.at))
          by_anchor true so s =
              let low : least ≡ low i = cc (s.0 so) in
              let w = met_within in let a = w.0 in (
                (omega (arith, low), omega (arith, low, a)),
                subst (λ x. IsAnswerBelow aim.kind q (seen_to of.ahead.alphabet r) (Some (met_from of.ahead h.0 x met.at))) (sym low)
                    (some_held hs aim.kind tells.kind of.ahead of.back i.anchored q case inside tells.all r h.0 met.at h.2 so),
              )
          by_anchor false so s =
              let no = is_no i.anchored so in
              let c = subst (λ a. IsCase hs aim.kind of.ahead of.back a q) no case in
              let ends = subst (λ a. SearchEndsBelow of.ahead q.text q.hi q.lo a false (met_last (Some (h.0, met.at))) r) no h.2 in
              let d = s.1 so in
              let down = subst (λ a. SearchEndsDown of.back q.text q.lo met.at a false (met_last (Some (least, d.0)))) no d.1 in
              let w = free_within hs aim.kind tells.kind of.ahead of.back q c inside tells.all r h.0 met.at ends least d.0 down in
              ((w.0, w.1), some_free hs aim.kind tells.kind of.ahead of.back q c inside tells.all r h.0 met.at ends least d.0 down)

-- The laws.
use Rattle.std.proofs.Common.{◌≡◌, ℕ, zero, suc, ◌+◌, ◌<◌, ◌≤◌, false, List, [], ◌∷◌, length, Option, Some, None, IsTrue, ◌↔◌, inl, inr, ⊎_elim, sym, subst, ap, ap₂, ◌∙◌, refl, arith}
use Rattle.std.proofs.lemmas.Bool.{cases_lt, cases_eq}
use Rattle.std.proofs.lemmas.Option.{same_Some}
use Rattle.rc_walks.specs.Walks.{Pair, IsIn}
use Rattle.rc_program.specs.Text.{before_at, after_at}
use Rattle.rc_program.specs.Program.{Place, reads, ways, ways_out, place_at, is_match_place}
use Rattle.rc_program.specs.Answer.{Search, is_anchored, ends, next_of}
use Rattle.rc_program.proofs.WayLemmas.{past_places}
use Rattle.rc_determinize.specs.Gives.{Gives}
use Rattle.rc_determinize.specs.Steps.{AreBelow, IsByBytes}
use Rattle.rc_determinize.specs.declared.sides.Sides.{Sides}
use Rattle.rc_determinize.specs.Sides.{AreAlike, told, byte_of}
use Rattle.rc_determinize.proofs.Leads.{IsLeastStart}
use Rattle.rc_determinize.specs.States.{Setting, State, IsNextOver, IsFirstBeside, Stops, all_starts}
use Rattle.rc_determinize.proofs.TextLemmas.{told_before, told_after, near_told, ahead_told, behind_told}
use Rattle.rc_determinize.specs.Steps.{HasWay}
use Rattle.rc_determinize.specs.Backward.{LeadsBy, LeadsHere, still_out, IsPrior, IsPriorOver, IsLastBeside, IsFirstRoot, ReadsTo}
use Rattle.rc_determinize.specs.Laws.{GatherLaw, IsRaised, IsSettingOf, ForwardLaw, BackwardLaw, SpanLaw}
use Rattle.rc_determinize.proofs.ForwardLemmas as forward
use Rattle.rc_determinize.specs.Sets.{Comes, ComesBy, ComesOver, IsNextOfAllOver}
use Rattle.rc_determinize.proofs.SidesLemmas.{alike_out}
use Rattle.rc_determinize.proofs.SetLemmas as sets
use Rattle.rc_determinize.specs.Gives.{starts}
use Rattle.rc_determinize.proofs.BackwardLemmas as backward
use Rattle.rc_determinize.proofs.BackwardLemmas.{least_start}
use Rattle.rc_determinize.proofs.AnswerLemmas as answer
use Rattle.rc_determinize.proofs.LimitLemmas as limit
use Rattle.rc_determinize.proofs.KindLemmas.{rising_once}

alike_prior : (g : Setting) (roots : List ℕ) (b c : ℕ) (s s2 : State) → AreAlike g.places g.needs g.terminator b c → IsPrior g roots s (Some b) s2 →
    IsPrior g roots s (Some c) s2
alike_prior g roots b c s s2 a n =
    let to : (q p : ℕ) → ReadsTo g.places b q p → ReadsTo g.places c q p = λ q p h. subst (λ ws. HasWay (reads 1 p) ws) (a.read_same q (λ l. false)) h in
    let back : (q p : ℕ) → ReadsTo g.places c q p → ReadsTo g.places b q p = λ q p h. subst (λ ws. HasWay (reads 1 p) ws) (sym (a.read_same q (λ l. false))) h in
    let go : (q : ℕ) → LeadsHere g s (Some b) q → LeadsHere g s (Some c) q = λ q h. subst (λ x. LeadsBy (still_out g.places x s.beside) s.list q) a.told_same h in
    let come : (q : ℕ) → LeadsHere g s (Some c) q → LeadsHere g s (Some b) q = λ q h. subst (λ x. LeadsBy (still_out g.places x s.beside) s.list q) (sym a.told_same) h in
    record {
      list = λ q. let l = n.list q in (
        (λ h. let x = l.0 h in (
          c,
          refl,
          x.2,
          to q x.2 (subst (λ k. ReadsTo g.places k q x.2) (sym (same_Some b x.0 x.1)) x.3),
          go x.2 x.4,
        )),
        (λ x. l.1 (b, refl, x.2, back q x.2 (subst (λ k. ReadsTo g.places k q x.2) (sym (same_Some c x.0 x.1)) x.3), come x.2 x.4)),
      );
      rising = n.rising;
      matched = subst (λ x. IsFirstRoot (LeadsBy (still_out g.places x s.beside) s.list) roots s2.matched) a.told_same n.matched;
      goes_on = n.goes_on;
      beside = n.beside ∙ a.told_same;
    }

prior_below : (places : List Place) (roots : List ℕ) (s s2 : State) (sides : Sides) → IsPriorOver places roots s sides s2 → AreBelow (length places) s2.list
prior_below places roots s s2 sides p q h =
    let x = (p.list q).0 h in
    ⊎_elim (λ lt. lt)
    (λ ge. absurd (subst (λ k. HasWay (reads 1 x.2) (ways_out (λ l. false) (x.0 ∷ []) k)) (past_places places q ge) x.3))
    (cases_lt q (length places))

pub backward_law : BackwardLaw
backward_law = record {
  comes_beside = λ g t hi end s ok e le l. backward.comes g ok t e hi end le s l;
  tells_over = λ g t hi end i roots s s2 far ok e le here inside c p.
      backward.tells g ok t e hi end le i inside.low here inside.high inside.bounded s c roots s2 far p;
  descends_over = λ g t hi end i roots s s2 ok e le below inside c p.
      backward.descends g ok t e hi end le i inside.low below inside.high inside.bounded roots s s2 c p;
  comes = λ g t hi end s ok e le r l.
      backward.comes g ok t e hi end le s (subst (λ x. IsLastBeside g.places x s) (told_after g.needs g.terminator t end r) l);
  tells = λ g t hi end i roots s s2 ok e le here inside c r p.
      backward.tells g ok t e hi end le i inside.low here inside.high inside.bounded s c roots s2 _
      (subst (λ x. IsPriorOver g.places roots s x s2) (near_told g.needs g.terminator (before_at t i) _ (told_before g.needs g.terminator t i r) refl) p);
  descends = λ g t hi end i roots s s2 ok e le below inside c r p.
      backward.descends g ok t e hi end le i inside.low below inside.high inside.bounded roots s s2 c
      (subst (λ x. IsPriorOver g.places roots s x s2) (behind_told g t hi i (omega (arith, below, le)) inside r) p);
  dies = λ g t hi end i y root s ok c empty le below. backward.nothing_before g ok t hi end i s c empty le (root, y) below;
  alike = alike_prior;
  inside = λ places roots s s2 sides p. (rising_once s2.list p.rising, prior_below places roots s s2 sides p);
  short = λ places roots s s2 sides p.
      limit.short (length places) s2.list (rising_once s2.list p.rising) (prior_below places roots s s2 sides p);
  lowers = λ g t hi end i roots matched least le f l. backward.lowers g t hi end roots i matched least le f l;
}

pub forward_law : ForwardLaw
forward_law = record {
  begins_beside = λ g t hi root lo anchored s ok e f. forward.begins g ok t e hi root (all_starts anchored root lo hi) lo anchored s f refl;
  goes_over = λ g t hi root origin i s s2 best ok e lt inside u n. forward.goes g ok t e hi root origin i s s2 best lt inside u n;
  ends_over = λ g t hi root origin s s2 best far ok e u n. forward.ends g ok t e hi root origin s s2 best far u n;
  begins = λ g t hi root lo anchored s ok e r f.
      forward.begins g ok t e hi root (all_starts anchored root lo hi) lo anchored s
      (subst (λ x. IsFirstBeside root x anchored s) (told_before g.needs g.terminator t lo r) f) refl;
  goes = λ g t hi root origin i s s2 best ok e lt inside u r n.
      forward.goes g ok t e hi root origin i s s2 best lt inside u (subst (λ x. IsNextOver g.places root s x s2) (ahead_told g t hi i lt inside r) n);
  ends = λ g t hi root origin s s2 best ok e u r n.
      forward.ends g ok t e hi root origin s s2 best _ u
      (subst (λ x. IsNextOver g.places root s x s2) (near_told g.needs g.terminator (after_at t hi) _ (told_after g.needs g.terminator t hi r) refl) n);
  dies = λ g t hi root origin i s best ok e u empty done. forward.dies g ok t e hi root origin i s best u empty done;
}

module _ (s : Search) (g : Setting) (ok : IsSettingOf s g) where
  pub by_bytes : IsByBytes s.places
  by_bytes = subst (λ ps. IsByBytes ps) ok.places (let k = ok.setting in k.by_bytes)

  pub ends_are : (n : Pair) → Stops g.places n ≡ IsTrue (ends s n)
  ends_are n = ap₂ (λ ps (o : Option ℕ). IsTrue (is_match_place o (place_at ps n.0))) ok.places (sym ok.all)

  same_gives : (from : List Pair) (r : Option Pair) → Gives (ways g.places s.text s.hi) (Stops g.places) [] from r → Gives (next_of s) (λ n. IsTrue (ends s n)) [] from r
  same_gives from r h = subst (λ E. Gives (next_of s) E [] from r) (λ i n. ends_are n i) (subst (λ ps. Gives (ways ps s.text s.hi) (Stops g.places) [] from r) ok.places h)

  pub least_is : (from end x : ℕ) → IsLeastStart (ways g.places s.text s.hi) (Stops g.places) 0 from end x → IsLeastStart (next_of s) (λ n. IsTrue (ends s n)) 0 from end x
  least_is from end x h = subst (λ E. IsLeastStart (next_of s) E 0 from end x) (λ i n. ends_are n i) (subst (λ ps. IsLeastStart (ways ps s.text s.hi) (Stops g.places) 0 from end x) ok.places h)

  raised : (from : ℕ) → IsRaised s from → answer.IsRaised s by_bytes from
  raised from r = record { start = r.start; passed = r.passed }

pub span_law : SpanLaw
span_law = record {
  answers = λ s g from x e ok r h least may.
      answer.answers s (by_bytes s g ok) from x e (raised s g ok from r) (same_gives s g ok (all_starts (is_anchored s.anchoring) 0 from s.hi) (Some e) h)
      (least_is s g ok from e.1 x (least_start g s.text s.hi e.1 0 from x 0 least)) may;
  raises = λ s g from e ok r h off.
      let p = answer.raises s (by_bytes s g ok) from e (raised s g ok from r) (same_gives s g ok (all_starts (is_anchored s.anchoring) 0 from s.hi) (Some e) h) off in (
        p,
        (λ lt free. let q = answer.raised_on s (by_bytes s g ok) from (raised s g ok from r) p lt free in record { start = q.start; passed = q.passed }),
        answer.passed_all s (by_bytes s g ok) from (raised s g ok from r) p,
      );
  none = λ s g from ok r h.
      answer.no_answer s (by_bytes s g ok) from (raised s g ok from r) (same_gives s g ok (all_starts (is_anchored s.anchoring) 0 from s.hi) None h);
}

pub in_starts : (root x count q y : ℕ) → IsIn (q, y) (starts root x count) → (q ≡ root) × (x ≤ y) × (y < x + count)
in_starts root x zero q y h = absurd h
in_starts root x (suc count) q y h =
    ⊎_elim (λ e. let f : x ≡ y = ap (λ (p : Pair). p.1) e in (sym (ap (λ (p : Pair). p.0) e), omega (arith, f), omega (arith, f)))
    (λ i. let r = in_starts root (x + 1) count q y i in let a = r.1 in let b = r.2 in (r.0, omega (arith, a), omega (arith, b))) h

pub starts_in : (root x count y : ℕ) → x ≤ y → y < x + count → IsIn (root, y) (starts root x count)
starts_in root x zero y a b = absurd (omega (arith, a, b))
starts_in root x (suc count) y a b =
    ⊎_elim (λ e. inl (ap (λ k. (root, k)) e)) (λ ne. inr (starts_in root (x + 1) count y (omega (arith, a, ne)) (omega (arith, b)))) (cases_eq x y)

pub gather_law : GatherLaw
gather_law = record {
  tells_over = λ g t hi root origin i s s2 far ok e here inside c n.
      sets.ends_here g ok t e hi origin i here inside.high inside.bounded s c root s2 far n;
  comes_over = λ g t hi origin i s far ok e here inside c q. sets.gathers g ok t e hi origin i here inside.high inside.bounded s c far q;
  goes_over = λ g t hi root origin i s s2 ok e lt inside first c n.
      sets.gathers_on g ok t e hi origin i (omega (arith, lt)) inside.high inside.bounded s c root s2 inside.low lt first n;
  tells = λ g t hi root origin i s s2 ok e here inside c r n.
      sets.ends_here g ok t e hi origin i here inside.high inside.bounded s c root s2 _
      (subst (λ x. IsNextOfAllOver g.places root s x s2) (near_told g.needs g.terminator (after_at t i) _ (told_after g.needs g.terminator t i r) refl) n);
  comes = λ g t hi origin i s ok e here inside c r q.
      subst (λ x. ComesOver g.places s x q ↔ Comes (ways g.places t hi) origin (q, i))
      (sym (near_told g.needs g.terminator (after_at t i) _ (told_after g.needs g.terminator t i r) refl))
      (sets.gathers g ok t e hi origin i here inside.high inside.bounded s c (told g.needs g.terminator (byte_of (after_at t i))) q);
  alike = λ g b c s q a h. subst (λ o. ComesBy o s.list q) (alike_out g.places g.needs g.terminator b c s.beside a) h;
  goes = λ g t hi root origin i s s2 ok e lt inside first c r n.
      sets.gathers_on g ok t e hi origin i (omega (arith, lt)) inside.high inside.bounded s c root s2 inside.low lt first
      (subst (λ x. IsNextOfAllOver g.places root s x s2) (ahead_told g t hi i lt inside r) n);
  dies = λ g t hi origin i s ok c empty started q y le h. sets.nothing_later g ok t hi origin i s c empty started h le;
  start = λ root x count q y. (in_starts root x count q y, λ h. subst (λ k. IsIn (k, y) (starts root x count)) (sym h.0) (starts_in root x count y h.1 h.2));
}

-- The laws of the step for the longest match.
use Rattle.std.proofs.Common.{◌≡◌, ℕ, ◌+◌, ◌*◌, ◌<◌, ◌≤◌, ◌⊎◌, Bool, true, false, List, [], ◌∷◌, ◌++◌, length, Some, inl, inr, ⊎_elim, sym, subst, ap, ◌∙◌, refl, arith, append_assoc}
use Rattle.std.proofs.lemmas.List.{append-nil, length-append}
use Rattle.rc_program.specs.Laws.{IsClosed}
use Rattle.rc_program.specs.Program.{Place}
use Rattle.rc_determinize.specs.Steps.{HasPlace, AreOnce, AreBelow}
use Rattle.rc_determinize.specs.declared.sides.Sides.{Sides}
use Rattle.rc_determinize.specs.Sides.{holds_by, out_over, AreAlike}
use Rattle.rc_program.specs.Text.{after_at}
use Rattle.rc_determinize.specs.States.{Setting, State, IsFirstBeside, is_match, all_starts}
use Rattle.rc_determinize.proofs.TextLemmas.{told_before, told_after, near_told, ahead_told}
use Rattle.rc_determinize.specs.Longest.{groups_of, joined, parted, flat, GroupSteps, AddsGroups, all_added, adds, root_group, IsNextOfLongest, IsNextOfLongestOver}
use Rattle.rc_determinize.specs.LongestLaws.{IsMarkedList, LongestStepLaw, LongestForwardLaw}
use Rattle.rc_determinize.proofs.SidesLemmas.{alike_out}
use Rattle.rc_determinize.proofs.MachineLemmas.{has_parts, has_left, has_right}
use Rattle.rc_determinize.proofs.LimitLemmas.{once_kept, under_kept}
use Rattle.rc_determinize.proofs.LimitLemmas as limit
use Rattle.rc_determinize.proofs.UnderLemmas.{out_under}
use Rattle.rc_determinize.proofs.RaceLemmas.{groups_below}
use Rattle.rc_determinize.proofs.LongestLemmas.{flat_append}
use Rattle.rc_determinize.proofs.RacingLemmas as racing

alike : (g : Setting) (root b c : ℕ) (s t : State) → AreAlike g.places g.needs g.terminator b c → IsNextOfLongest g root s (Some b) t → IsNextOfLongest g root s (Some c) t
alike g root b c s t a n = record {
  onward = n.onward;
  groups = n.groups;
  steps = subst (λ o. GroupSteps o (is_match g.places) [] (groups_of (length g.places) s.list) n.onward t.matched)
      (alike_out g.places g.needs g.terminator b c s.beside a) n.steps;
  goes_on = n.goes_on;
  once = n.once;
  list = n.list;
  beside = n.beside ∙ a.told_same;
}

adds_once : {listed : List ℕ} {groups new : List (List ℕ)} → AddsGroups listed groups new → AreOnce listed → AreOnce (listed ++ flat new)
adds_once {listed} all_added a = subst (λ z. AreOnce z) (sym (append-nil listed)) a
adds_once {listed} (adds {own = own} {new = new} added rest) a =
    subst (λ z. AreOnce z) (append_assoc listed own (flat new)) (adds_once rest (once_kept added a))

adds_below : (n : ℕ) {listed : List ℕ} {groups new : List (List ℕ)} → AddsGroups listed groups new → AreBelow n listed → AreBelow n (flat groups) →
    AreBelow n (listed ++ flat new)
adds_below n {listed} all_added a b = subst (λ z. AreBelow n z) (sym (append-nil listed)) a
adds_below n {listed} (adds {group = group} {own = own} {groups = groups} {new = new} added rest) a b =
    subst (λ z. AreBelow n z) (append_assoc listed own (flat new))
    (adds_below n rest (under_kept n added a (λ k h. b k (has_left k group (flat groups) h))) (λ k h. b k (has_right k group (flat groups) h)))

root_below : (b : Bool) (root n : ℕ) → root < n → AreBelow n (flat (root_group b root))
root_below b root n lt = by b
  where
    by : (b : Bool) → AreBelow n (flat (root_group b root))
    by true k h = ⊎_elim (λ e. subst (λ x. x < n) e lt) (λ never. absurd never) h
    by false k h = absurd h

inside : (places : List Place) (root : ℕ) (s t : State) (sides : Sides) → IsClosed places → root < length places → IsNextOfLongestOver places root s sides t →
    IsMarkedList (length places) t.list
inside places root s t sides closed rooted n =
    let mark = length places in
    let onward = groups_below (out_over places s.beside sides) (is_match places) mark
    (out_under places closed (holds_by s.beside sides.near) sides.byte) n.steps in
    record {
      groups = n.groups;
      is_parted = n.list;
      once = adds_once n.once tt;
      below = adds_below mark n.once (λ k h. absurd h)
          (λ k h. ⊎_elim (onward k) (root_below t.goes_on root mark rooted k)
          (has_parts k (flat n.onward) (flat (root_group t.goes_on root)) (subst (λ z. HasPlace k z) (flat_append n.onward (root_group t.goes_on root)) h)));
    }

parted_short : (mark : ℕ) (gs : List (List ℕ)) → length (parted mark gs) ≤ 2 * length (flat gs)
parted_short mark [] = omega arith
parted_short mark ([] ∷ gs) = parted_short mark gs
parted_short mark ((q ∷ g) ∷ gs) = longer (parted mark gs) (parted_short mark gs)
  where
    longer : (rest : List ℕ) → length rest ≤ 2 * length (flat gs) → length (joined mark (q ∷ g) rest) ≤ 2 * length ((q ∷ g) ++ flat gs)
    longer [] h = let e = length-append (q ∷ g) (flat gs) in omega (arith, e)
    longer (p ∷ rest) h =
        let e = length-append (q ∷ g) (flat gs) in
        let f = length-append (q ∷ g) (mark ∷ p ∷ rest) in
        omega (arith, e, f, h)

short : (places : List Place) (root : ℕ) (s t : State) (sides : Sides) → IsClosed places → root < length places → IsNextOfLongestOver places root s sides t →
    length t.list ≤ 2 * length places
short places root s t sides closed rooted n =
    let i = inside places root s t sides closed rooted n in
    let few = limit.short (length places) (flat i.groups) i.once i.below in
    let l = parted_short (length places) i.groups in
    let e : length t.list ≡ length (parted (length places) i.groups) = ap (λ z. length z) i.is_parted in
    omega (arith, few, l, e)

parted_has : (mark q : ℕ) (gs : List (List ℕ)) → HasPlace q (parted mark gs) → (mark ≡ q) ⊎ HasPlace q (flat gs)
parted_has mark q [] h = absurd h
parted_has mark q ([] ∷ gs) h = parted_has mark q gs h
parted_has mark q ((x ∷ g) ∷ gs) h = either (parted mark gs) (parted_has mark q gs) h
  where
    either : (rest : List ℕ) → (HasPlace q rest → (mark ≡ q) ⊎ HasPlace q (flat gs)) → HasPlace q (joined mark (x ∷ g) rest) →
        (mark ≡ q) ⊎ HasPlace q ((x ∷ g) ++ flat gs)
    either [] f h = inr (has_left q (x ∷ g) (flat gs) h)
    either (p ∷ rest) f h =
        ⊎_elim (λ a. inr (has_left q (x ∷ g) (flat gs) a))
        (λ b. ⊎_elim (λ e. inl e) (λ z. ⊎_elim (λ e. inl e) (λ y. inr (has_right q (x ∷ g) (flat gs) y)) (f z)) b)
        (has_parts q (x ∷ g) (mark ∷ p ∷ rest) h)

within : (mark : ℕ) (list : List ℕ) → IsMarkedList mark list → AreBelow (mark + 1) list
within mark list i k h =
    ⊎_elim (λ e. omega (arith, e)) (λ z. let l = i.below k z in omega (arith, l)) (parted_has mark k i.groups (subst (λ z. HasPlace k z) i.is_parted h))

pub longest_step_law : LongestStepLaw
longest_step_law = record {
  alike = alike;
  inside = inside;
  short = short;
  within = within;
  forgets = λ places root s t sides matched n.
      record { onward = n.onward; groups = n.groups; steps = n.steps; goes_on = n.goes_on; once = n.once; list = n.list; beside = n.beside };
  tells = λ places root s t sides n. n.beside;
}

pub longest_forward_law : LongestForwardLaw
longest_forward_law = record {
  begins_beside = λ g t hi root lo anchored s ok rooted e f. racing.begins g ok t e hi root (all_starts anchored root lo hi) lo anchored s rooted f refl;
  goes_over = λ g t hi root origin i s s2 best ok closed rooted e lt inside u n. racing.goes g ok t e hi root origin i s s2 best closed rooted lt inside u n;
  ends_over = λ g t hi root origin s s2 best far ok e u n. racing.ends g ok t e hi root origin s s2 best far u n;
  begins = λ g t hi root lo anchored s ok rooted e r f.
      racing.begins g ok t e hi root (all_starts anchored root lo hi) lo anchored s rooted
      (subst (λ x. IsFirstBeside root x anchored s) (told_before g.needs g.terminator t lo r) f) refl;
  goes = λ g t hi root origin i s s2 best ok closed rooted e lt inside u r n.
      racing.goes g ok t e hi root origin i s s2 best closed rooted lt inside u
      (subst (λ x. IsNextOfLongestOver g.places root s x s2) (ahead_told g t hi i lt inside r) n);
  ends = λ g t hi root origin s s2 best ok e u r n.
      racing.ends g ok t e hi root origin s s2 best _ u
      (subst (λ x. IsNextOfLongestOver g.places root s x s2) (near_told g.needs g.terminator (after_at t hi) _ (told_after g.needs g.terminator t hi r) refl) n);
  dies = λ g t hi root origin i s best ok e u empty done. racing.dies g ok t e hi root origin i s best u empty done;
  rests = λ g t hi root origin i s ok e u one on r h. racing.rests g ok t e hi root origin i s u one on r h;
}

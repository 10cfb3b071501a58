-- A text is read as the pattern to which its marks lead.
use Rattle.std.proofs.Common.{◌≡◌, Bool, true, false, List, [], ◌∷◌, Option, Some, None, refl, ap, sym, subst, ◌∙◌}
use Rattle.std.proofs.lemmas.Option.{none-some, same_Some}
use Rattle.rc_pattern.specs.Re.{empty}
use Rattle.rc_tokens.specs.Text.{Characters, ◌>>=◌}
use Rattle.rc_tokens.specs.Said as said
use Rattle.rc_tokens.proofs.StepLemmas.{some_parts}
use Rattle.rc_parser.specs.Settings.{Settings}
use Rattle.rc_parser.specs.Pieces.{Subpattern, leaf}
use Rattle.rc_parser.specs.Grammar.{Level, add, set_flags, switched, end_branch, whole, repeated_once, inside, closed, tie}
use Rattle.rc_parser.specs.Machine.{Outside, Work, work, settled, nameless, take_said, finish}
use Rattle.rc_full_tokens.specs.declared.flags.FlagChange.{FlagChange}
use Rattle.rc_full_parser.specs.Marks as mark
use Rattle.rc_full_parser.specs.Grammar as items
use Rattle.rc_full_parser.specs.Grammar.{Place, flags, here, at, behind, with_flags, behind_group, Begins, Items, fresh, Reads}
use Rattle.rc_full_parser.specs.Machine.{State, state, place, appended, shut, Moves, Leads, ends, goes, start}
use Rattle.rc_full_parser.specs.Laws.{PatternsByMarks}

pub same_flags : (last : Option Subpattern) (l : Level) → (settled last l).flags ≡ l.flags
same_flags None l = refl
same_flags (Some q) l = refl

-- flags that are set in a level, from those of the place
set_there : (to : FlagChange) (p : Place) →
    add (leaf empty) (record (here p) { flags = set_flags to.stated (here p).flags }) ≡ add (leaf empty) (record (here p) { flags = set_flags to.stated (flags p) })
set_there to p = ap (λ f. add (leaf empty) (record (here p) { flags = set_flags to.stated f })) (same_flags p.last p.level)

-- behind a group that ends at e, and for which f waits
abbrev back : Subpattern → Place → Outside → Bool → Place
back q e f x = at (record (f.1) { groups = (here e).groups; names = (here e).names }) x (Some q)

abbrev in_state : Place → List Outside → List Bool → State
in_state p fs xs = state (work p.level p.last fs) p.verbose xs

module _ (s : Settings) where
  pub took : (k : said.Said) (w : Work) (x : Bool) (xs : List Bool) (n : State) → (take_said s k w >>= λ v. Some (state v x xs)) ≡ Some n →
      (v : Work) × (take_said s k w ≡ Some v) × (state v x xs ≡ n)
  took k w x xs n h =
      let (v, is, same) = some_parts (take_said s k w) (λ v. Some (state v x xs)) n h in (v, is, same_Some (state v x xs) n same)

  -- the levels that wait go on, each behind its group, to the end of the text
  abbrev Rest : List Outside → List Bool → Place → Characters → Subpattern → Type 0
  Rest [] xs p t re = (end : Place) × Items s false p t end [] × (whole s (here end) ≡ Some re)
  Rest (f ∷ fs) [] p t re = ⊥
  Rest (f ∷ fs) (x ∷ xs) p t re = (end : Place) × (u : Characters) × (body : Subpattern) × (q : Subpattern) × Items s true p t end u
      × (whole s (here end) ≡ Some body) × (closed s (f.0) body ≡ Some q) × Rest fs xs (back q end f x) u re

  abbrev RestOf : State → Characters → Subpattern → Type 0
  RestOf m t re = Rest m.work.outer m.around (place m) t re

  -- what goes before the items of a body goes before the rest
  before : (fs : List Outside) (xs : List Bool) (p next : Place) (t v : Characters) (re : Subpattern) →
      ((g : Bool) (end : Place) (u : Characters) → Items s g next v end u → Items s g p t end u) → Rest fs xs next v re → Rest fs xs p t re
  before [] xs p next t v re f (end, i, done) = (end, f false end [] i, done)
  before (o ∷ os) [] p next t v re f r = r
  before (o ∷ os) (x ∷ xs) p next t v re f (end, u, body, q, i, done, shuts, rest) = (end, u, body, q, f true end u i, done, shuts, rest)

  to_next : (m n : State) (u v : Characters) (re : Subpattern) → m ≡ n → u ≡ v → RestOf n v re → RestOf m u re
  to_next m n u v re same e r = subst (λ x. RestOf x u re) (sym same) (subst (λ x. RestOf n x re) (sym e) r)

  closed_rest : (p : Place) (fs : List Outside) (xs : List Bool) (n : State) (t u v : Characters) (re : Subpattern) → Begins s p t mark.closes u →
      shut s (work p.level p.last fs) xs ≡ Some n → u ≡ v → RestOf n v re → Rest fs xs p t re
  closed_rest p fs [] n t u v re b h e r = absurd (none-some n h)
  closed_rest p [] (x ∷ xs) n t u v re b h e r =
      let (w, fails, _) = took said.Closes (work p.level p.last []) x xs n h in absurd (none-some w fails)
  closed_rest p (f ∷ fs) (x ∷ xs) n t u v re b h e r =
      let (w, is, same) = took said.Closes (work p.level p.last (f ∷ fs)) x xs n h in
      let (body, done, next) = some_parts (whole s (here p)) _ w is in
      let (q, shuts, made) = some_parts (closed s (f.0) body) _ w next in
      let m = in_state (back q p f x) fs xs in
      let there : m ≡ n = ap (λ w. state w x xs) (same_Some m.work w made) ∙ same in
      (p, u, body, q, items.closes p t u b, done, shuts, to_next m n u v re there e r)

  moved : (k : mark.Mark) (m n : State) (t u v : Characters) (re : Subpattern) → Begins s (place m) t k u → Moves s k m u n v → RestOf n v re → RestOf m t re
  moved mark.bar m n t u v re b (h, e) r =
      let (w, is, same) = took said.Bar m.work m.verbose m.around n h in
      let (l, done, made) = some_parts (end_branch s (here (place m))) (λ l. Some (work l None m.work.outer)) w is in
      let next = in_state (at l m.verbose None) m.work.outer m.around in
      before m.work.outer m.around (place m) (at l m.verbose None) t u re (λ g end x i. items.bars g (place m) end t u x l b done i)
      (to_next next n u v re (ap (λ w. state w m.verbose m.around) (same_Some next.work w made) ∙ same) e r)
  moved mark.closes m n t u v re b (h, e) r = closed_rest (place m) m.work.outer m.around n t u v re b h e r
  moved (mark.sets to) m n t u v re b (h, e) r =
      let next = in_state (with_flags to (place m)) m.work.outer m.around in
      let same = same_Some _ n h in
      let made : next ≡ n = ap (λ l. state (work l None m.work.outer) (switched m.verbose to.ignore_whitespace) m.around) (sym (set_there to (place m))) ∙ same in
      before m.work.outer m.around (place m) (with_flags to (place m)) t u re (λ g end x i. items.sets g (place m) end t u x to b i)
      (to_next next n u v re made e r)
  moved (mark.opens k x) m n t u v re b (h, e) r =
      let l = here (place m) in
      let (w, is, same) = took (said.Opens k) m.work (switched m.verbose x) (m.verbose ∷ m.around) n h in
      let (from, into, made) = some_parts (inside k l) _ w is in
      let next = in_state (at from (switched m.verbose x) None) ((tie k l, nameless l) ∷ m.work.outer) (m.verbose ∷ m.around) in
      let there : next ≡ n = ap (λ w. state w (switched m.verbose x) (m.verbose ∷ m.around)) (same_Some next.work w made) ∙ same in
      let (end, c, body, q, i, done, shuts, rest) = to_next next n u v re there e r in
      before m.work.outer m.around (place m) (behind_group q end (place m)) t c re
      (λ g last y j. items.group g (place m) end last t u c y k x from body q b into i done shuts j) rest
  moved (mark.repeats n) m next t u v re b (h, e) r =
      let (w, is, same) = took (said.Repeats n) m.work m.verbose m.around next h in
      let (q, last, more) = some_parts m.work.last _ w is in
      let (a, done, made) = some_parts (repeated_once s m.work.level.flags n q) _ w more in
      let there = in_state (at m.work.level m.verbose (Some a)) m.work.outer m.around in
      before m.work.outer m.around (place m) (at m.work.level m.verbose (Some a)) t u re (λ g end x i. items.repeats g (place m) end t u x n q a b last done i)
      (to_next there next u v re (ap (λ w. state w m.verbose m.around) (same_Some there.work w made) ∙ same) e r)
  moved mark.brackets m n t u v re b (c, d, q, is, part, same) r =
      before m.work.outer m.around (place m) (behind q (place m)) t v re (λ g end x i. items.list g (place m) end t u v x c d q b is part i)
      (to_next (appended q m) n v v re same refl r)
  moved (mark.stands k) m n t u v re b (q, is, same, e) r =
      before m.work.outer m.around (place m) (behind q (place m)) t u re (λ g end x i. items.stands g (place m) end t u x k q b is i)
      (to_next (appended q m) n u v re same e r)

  ended : (p : Place) (fs : List Outside) (xs : List Bool) (t : Characters) (re : Subpattern) → Items s false p t p [] → finish s (here p) fs ≡ Some re → Rest fs xs p t re
  ended p [] xs t re i h = (p, i, h)
  ended p (f ∷ fs) xs t re i h = absurd (none-some re h)

  rest_of : (m : State) (t : Characters) (re : Subpattern) → Leads s m t re → RestOf m t re
  rest_of _ _ _ (ends m t re gaps done) = ended (place m) m.work.outer m.around t re (items.ends (place m) t gaps) done
  rest_of _ _ _ (goes m n t u v k re b moves l) = moved k m n t u v re b moves (rest_of n v re l)

  -- behind the items of a body
  abbrev Then : Bool → Place → Characters → List Outside → List Bool → Subpattern → Type 0
  Then false end u fs xs re = (fs ≡ []) × (whole s (here end) ≡ Some re)
  Then true end u [] xs re = ⊥
  Then true end u (f ∷ fs) [] re = ⊥
  Then true end u (f ∷ fs) (x ∷ xs) re = (body : Subpattern) × (q : Subpattern) × (whole s (here end) ≡ Some body) × (closed s (f.0) body ≡ Some q)
      × Leads s (in_state (back q end f x) fs xs) u re

  shuts : (p : Place) (fs : List Outside) (xs : List Bool) (t u : Characters) (re : Subpattern) → Begins s p t mark.closes u → Then true p u fs xs re →
      Leads s (in_state p fs xs) t re
  shuts p [] xs t u re b h = absurd h
  shuts p (f ∷ fs) [] t u re b h = absurd h
  shuts p (f ∷ fs) (x ∷ xs) t u re b (body, q, done, shut, l) =
      goes (in_state p (f ∷ fs) (x ∷ xs)) (in_state (back q p f x) fs xs) t u u mark.closes re b (rw done (rw shut refl), refl) l

  leads : (g : Bool) (p end : Place) (t u : Characters) (fs : List Outside) (xs : List Bool) (re : Subpattern) → Items s g p t end u → Then g end u fs xs re →
      Leads s (in_state p fs xs) t re
  leads _ _ _ _ _ fs xs re (items.ends p t gaps) (none, done) =
      ends (in_state p fs xs) t re gaps (ap (finish s (here p)) none ∙ done)
  leads _ _ _ _ _ fs xs re (items.closes p t u b) h = shuts p fs xs t u re b h
  leads _ _ _ _ _ fs xs re (items.bars g p end t u v l b done i) h =
      goes (in_state p fs xs) (in_state (at l p.verbose None) fs xs) t u u mark.bar re b (rw done refl, refl) (leads g (at l p.verbose None) end u v fs xs re i h)
  leads _ _ _ _ _ fs xs re (items.sets g p end t u v to b i) h =
      goes (in_state p fs xs) (in_state (with_flags to p) fs xs) t u u (mark.sets to) re b
      (ap (λ l. Some (state (work l None fs) (switched p.verbose to.ignore_whitespace) xs)) (set_there to p), refl)
      (leads g (with_flags to p) end u v fs xs re i h)
  leads _ _ _ _ _ fs xs re (items.repeats g p end t u v n q r b last done i) h =
      goes (in_state p fs xs) (in_state (at p.level p.verbose (Some r)) fs xs) t u u (mark.repeats n) re b (rw last (rw done refl), refl)
      (leads g (at p.level p.verbose (Some r)) end u v fs xs re i h)
  leads _ _ _ _ _ fs xs re (items.stands g p end t u v k q b is i) h =
      goes (in_state p fs xs) (in_state (behind q p) fs xs) t u u (mark.stands k) re b (q, is, refl, refl) (leads g (behind q p) end u v fs xs re i h)
  leads _ _ _ _ _ fs xs re (items.list g p end t u v w c d q b is part i) h =
      goes (in_state p fs xs) (in_state (behind q p) fs xs) t u v mark.brackets re b (c, d, q, is, part, refl) (leads g (behind q p) end v w fs xs re i h)
  leads _ _ _ _ _ fs xs re (items.group g p e end t u v w k x from body q b into i done shut j) h =
      let l = here p in
      let y = switched p.verbose x in
      goes (in_state p fs xs) (in_state (at from y None) ((tie k l, nameless l) ∷ fs) (p.verbose ∷ xs)) t u u (mark.opens k x) re b (rw into refl, refl)
      (leads true (at from y None) e u v ((tie k l, nameless l) ∷ fs) (p.verbose ∷ xs) re i
      (body, q, done, shut, leads g (behind_group q e p) end v w fs xs re j h))

pub marks_law : PatternsByMarks
marks_law s text re = (
  λ r. (r.depth, leads s false (fresh s) r.end text [] [] [] (record { re = re; depth = r.depth }) r.is_read (refl, r.is_whole)),
  λ (depth, l). let (end, i, done) = rest_of s (start s) text (record { re = re; depth = depth }) l in
      record { end = end; is_read = i; depth = depth; is_whole = done },
)

-- Where the reading of a body stands: its groups are numbered in order, and no name stands twice.
use Rattle.std.proofs.Common.{◌≡◌, ◌≢◌, ℕ, zero, suc, ◌+◌, ◌<◌, Bool, true, false, not, ◌&&◌, ◌||◌, ◌==◌, List, [], ◌∷◌, ◌++◌, Option, Some, None, length, map, refl, ap, sym, subst, ◌∙◌, arith, append_assoc, append-nil}
use Rattle.std.proofs.lemmas.Option.{none-some, same_Some}
use Rattle.std.proofs.lemmas.List.FromFn.{length-range_with_len}
use Rattle.std.specs.List.{range_with_len}
use Rattle.rc_pattern.specs.Re.{Re, empty, capture}
use Rattle.rc_pattern.specs.Meaning.{concat_of, alternation_of}
use Rattle.rc_pattern.specs.WellFormed.{group_numbers, IsNew, AreDistinct, IsWellFormed}
use Rattle.rc_tokens.specs.Text.{Characters, ◌>>=◌, same_text}
use Rattle.rc_tokens.specs.Said.{Start, Capturing, Named, Flagged}
use Rattle.rc_tokens.specs.Marks.{piece_says, opening_says, flags_of}
use Rattle.rc_tokens.proofs.StepLemmas.{some_parts, guard_parts}
use Rattle.rc_parser.specs.Settings.{Settings, first_flags}
use Rattle.rc_parser.specs.Pieces.{Subpattern, leaf, sense_part}
use Rattle.rc_parser.specs.Grammar.{Body, ends, bars, sets, piece, group, Parts, no_parts, with_part, Level, begin, add, set_flags, is_named, inside, Tie, tie, tied, join, end_branch, whole, repeated, closed, reads, Reads}
use Rattle.rc_parser.proofs.SpineLemmas.{Numbered, groups, all_groups, map-append, numbers_are, names_are, concat_fine, concat_groups, alternation_fine, alternation_groups}
use Rattle.rc_parser.proofs.FitLemmas.{Fit, AllFit, fit_with, no_fit, with_groups, deeper_fit, join_fit, repeated_fit, sense_fit, plain_fit}

-- ---- numbers and names

number : Numbered → ℕ
number g = g.0

range_more : (a n : ℕ) → range_with_len a (suc n) ≡ range_with_len a n ++ (a + n) ∷ []
range_more a zero = ap (λ x. x ∷ []) (plus a)
  where
    plus : (a : ℕ) → a ≡ a + 0
    plus a = omega arith
range_more a (suc n) = ap (λ t. a ∷ t) (range_more (a + 1) n ∙ ap (λ x. range_with_len (a + 1) n ++ x ∷ []) (shift a n))
  where
    shift : (a n : ℕ) → a + 1 + n ≡ a + suc n
    shift a n = omega arith

-- the names that are there
abbrev somes : List (Option (List ℕ)) → List (List ℕ)
somes [] = []
somes (None ∷ names) = somes names
somes (Some name ∷ names) = name ∷ somes names

somes_append : (xs ys : List (Option (List ℕ))) → somes (xs ++ ys) ≡ somes xs ++ somes ys
somes_append [] ys = refl
somes_append (None ∷ xs) ys = somes_append xs ys
somes_append (Some name ∷ xs) ys = ap (λ t. name ∷ t) (somes_append xs ys)

abbrev given : List (List ℕ) → List (Option (List ℕ))
given [] = []
given (name ∷ names) = Some name ∷ given names

not_none : (name : List ℕ) → ◌≡◌ {A = Option (List ℕ)} None (Some name) → ⊥
not_none name e = none-some name e

new_among : (name : List ℕ) (names : List (Option (List ℕ))) → IsNew (Some name) (given (somes names)) → IsNew (Some name) names
new_among name [] h = tt
new_among name (None ∷ names) h = ((λ e. not_none name e), new_among name names h)
new_among name (Some other ∷ names) h = (h.0, new_among name names h.1)

distinct_among : (names : List (Option (List ℕ))) → AreDistinct (given (somes names)) → AreDistinct names
distinct_among [] h = tt
distinct_among (None ∷ names) h = (tt, distinct_among names h)
distinct_among (Some name ∷ names) h = (new_among name names h.0, distinct_among names h.1)

same_itself : (t : List ℕ) → same_text t t ≡ true
same_itself [] = refl
same_itself (c ∷ t) = rw (same_itself t) (both c)
  where
    both : (c : ℕ) → (c == c && true) ≡ true
    both c = grind (arith)

or_false : (a b : Bool) → (a || b) ≡ false → (a ≡ false) × (b ≡ false)
or_false true b h = absurd (cc)
or_false false b h = (refl, h)

apart : (name other : List ℕ) → same_text name other ≡ false → Some name ≢ Some other
apart name other h e = clash (sym (same_itself name) ∙ ap (same_text name) (same_Some name other e) ∙ h)
  where
    clash : true ≡ false → ⊥
    clash e = cc

new_at_end : (first : List ℕ) (name : List ℕ) (names : List (List ℕ)) → Some name ≢ Some first → IsNew (Some first) (given names) → IsNew (Some first) (given (names ++ name ∷ []))
new_at_end first name [] n h = (n, tt)
new_at_end first name (other ∷ names) n h = (h.0, new_at_end first name names n h.1)

distinct_more : (name : List ℕ) (names : List (List ℕ)) → is_named name names ≡ false → AreDistinct (given names) → AreDistinct (given (names ++ name ∷ []))
distinct_more name [] n h = (tt, tt)
distinct_more name (other ∷ names) n h =
    let (a, b) = or_false (same_text name other) (is_named name names) n in
    (new_at_end other name names (apart name other a) h.0, distinct_more name names b h.1)

-- the groups so far, with their number and the names that are taken
pub record Ordered (gs : List Numbered) (n : ℕ) (names : List (List ℕ)) : Type 0 where
  pub numbered : map (λ (g : Numbered). g.0) gs ≡ range_with_len 1 n
  pub named : somes (map (λ (g : Numbered). g.1) gs) ≡ names
  pub distinct : AreDistinct (given names)

pub ordered_as : (gs hs : List Numbered) (n : ℕ) (names : List (List ℕ)) → gs ≡ hs → Ordered hs n names → Ordered gs n names
ordered_as gs hs n names e h = subst (λ x. Ordered x n names) (sym e) h

one_number : (n : ℕ) → 1 + n ≡ n + 1
one_number n = omega arith

one_after : (n : ℕ) → range_with_len 1 (n + 1) ≡ range_with_len 1 n ++ (n + 1) ∷ []
one_after n = ap (range_with_len 1) (plus n) ∙ range_more 1 n ∙ ap (λ x. range_with_len 1 n ++ x ∷ []) (one_number n)
  where
    plus : (n : ℕ) → n + 1 ≡ suc n
    plus n = omega arith

numbers_more : (gs : List Numbered) (n : ℕ) (name : Option (List ℕ)) → map (λ (g : Numbered). g.0) gs ≡ range_with_len 1 n →
    map (λ (g : Numbered). g.0) (gs ++ (n + 1, name) ∷ []) ≡ range_with_len 1 (n + 1)
numbers_more gs n name h = map-append (λ (g : Numbered). g.0) gs ((n + 1, name) ∷ []) ∙ ap (λ t. t ++ (n + 1) ∷ []) h ∙ sym (one_after n)

ordered_plain : (gs : List Numbered) (n : ℕ) (names : List (List ℕ)) → Ordered gs n names → Ordered (gs ++ (n + 1, None) ∷ []) (n + 1) names
ordered_plain gs n names h = record {
  numbered = numbers_more gs n None h.numbered;
  named = ap somes (map-append (λ (g : Numbered). g.1) gs ((n + 1, None) ∷ [])) ∙ somes_append (map (λ (g : Numbered). g.1) gs) (None ∷ [])
      ∙ append-nil (somes (map (λ (g : Numbered). g.1) gs)) ∙ h.named;
  distinct = h.distinct;
}

ordered_named : (gs : List Numbered) (n : ℕ) (names : List (List ℕ)) (name : List ℕ) → is_named name names ≡ false → Ordered gs n names →
    Ordered (gs ++ (n + 1, Some name) ∷ []) (n + 1) (names ++ name ∷ [])
ordered_named gs n names name new h = record {
  numbered = numbers_more gs n (Some name) h.numbered;
  named = ap somes (map-append (λ (g : Numbered). g.1) gs ((n + 1, Some name) ∷ [])) ∙ somes_append (map (λ (g : Numbered). g.1) gs) (Some name ∷ [])
      ∙ ap (λ t. t ++ name ∷ []) h.named;
  distinct = distinct_more name names new h.distinct;
}

-- ---- levels

-- the groups of what a level holds
abbrev pub held : Level → List Numbered
held l = all_groups l.branches.res ++ all_groups l.items.res

pub record Stands (pre : List Numbered) (l : Level) : Type 0 where
  pub ordered : Ordered (pre ++ held l) l.groups l.names
  pub items : AllFit 1 l.items
  pub branches : AllFit 2 l.branches

pub add_stands : (pre : List Numbered) (m : Level) (q : Subpattern) → AllFit 1 m.items → AllFit 2 m.branches → Fit 1 q →
    Ordered (pre ++ (held m ++ groups q.re)) m.groups m.names → Stands pre (add q m)
add_stands pre m q i b f o = record {
  ordered = ordered_as (pre ++ held (add q m)) (pre ++ (held m ++ groups q.re)) m.groups m.names
      (ap (λ t. pre ++ t) (ap (λ t. all_groups m.branches.res ++ t) (with_groups q m.items)
      ∙ sym (append_assoc (all_groups m.branches.res) (all_groups m.items.res) (groups q.re)))) o;
  items = fit_with 1 q m.items f i;
  branches = b;
}

pub add_nothing : (pre : List Numbered) (m : Level) (q : Subpattern) → AllFit 1 m.items → AllFit 2 m.branches → Fit 1 q → groups q.re ≡ [] →
    Ordered (pre ++ held m) m.groups m.names → Stands pre (add q m)
add_nothing pre m q i b f none o = add_stands pre m q i b f (ordered_as (pre ++ (held m ++ groups q.re)) (pre ++ held m) m.groups m.names
    (ap (λ t. pre ++ t) (ap (λ t. held m ++ t) none ∙ append-nil (held m))) o)

module _ (s : Settings) where
  pub branch_stands : (pre : List Numbered) (l m : Level) → Stands pre l → end_branch s l ≡ Some m → Stands pre m × (all_groups m.branches.res ≡ held l)
  branch_stands pre l m h e =
      let (branch, is, same) = some_parts (join s concat_of l.items) (λ branch. Some (record l { branches = with_part branch l.branches; items = no_parts })) m e in
      let (fit, gs) = join_fit s 1 concat_of l.items branch concat_fine concat_groups h.items is in
      let next : Level = record l { branches = with_part branch l.branches; items = no_parts } in
      let all : all_groups next.branches.res ≡ held l = with_groups branch l.branches ∙ ap (λ t. all_groups l.branches.res ++ t) gs in
      subst (λ (m : Level). Stands pre m × (all_groups m.branches.res ≡ held l)) (same_Some next m same) (
        record {
          ordered = ordered_as (pre ++ held next) (pre ++ held l) l.groups l.names (ap (λ t. pre ++ t) (append-nil (all_groups next.branches.res) ∙ all)) h.ordered;
          items = no_fit 1;
          branches = fit_with 2 branch l.branches fit h.branches;
        },
        all,
      )

  pub whole_stands : (pre : List Numbered) (l : Level) (body : Subpattern) → Stands pre l → whole s l ≡ Some body → Fit 3 body × (groups body.re ≡ held l)
  whole_stands pre l body h e =
      let (m, is, joined) = some_parts (end_branch s l) (λ m. join s alternation_of m.branches) body e in
      let (stands, all) = branch_stands pre l m h is in
      let (fit, gs) = join_fit s 2 alternation_of m.branches body alternation_fine alternation_groups stands.branches joined in
      (fit, gs ∙ all)

  pub closed_fit : (t : Tie) (body p : Subpattern) → Fit 3 body → closed s t body ≡ Some p → Fit 1 p × (p.re ≡ tied t body.re)
  closed_fit None body p h e = deeper_fit s 1 3 body.re body.depth p (omega arith) h.fine e
  closed_fit (Some t) body p h e =
      let deep = h.fine.shallow in
      deeper_fit s 1 4 (capture t.0 t.1 body.re) body.depth p (omega arith) (record { bounded = h.fine.bounded; shallow = omega (arith, deep); spine = tt }) e

  -- what stands before the inside of a group
  abbrev pub before : List Numbered → Level → Tie → List Numbered
  before pre l None = pre ++ held l
  before pre l (Some t) = (pre ++ held l) ++ t ∷ []

  begin_stands : (gs : List Numbered) (start : Level) → start.items ≡ no_parts → start.branches ≡ no_parts → Ordered gs start.groups start.names → Stands gs start
  begin_stands gs start i b o = record {
    ordered = ordered_as (gs ++ held start) gs start.groups start.names
        (ap (λ t. gs ++ t) (ap (λ (ps : Parts). all_groups ps.res ++ all_groups start.items.res) b ∙ ap (λ (ps : Parts). all_groups ps.res) i) ∙ append-nil gs) o;
    items = subst (AllFit 1) (sym i) (no_fit 1);
    branches = subst (AllFit 2) (sym b) (no_fit 2);
  }

  pub inside_stands : (k : Start) (pre : List Numbered) (l start : Level) → Stands pre l → inside k l ≡ Some start → Stands (before pre l (tie k l)) start
  inside_stands Capturing pre l start h e =
      subst (Stands ((pre ++ held l) ++ (l.groups + 1, None) ∷ [])) (same_Some (begin l.flags (l.groups + 1) l.names) start e)
      (begin_stands ((pre ++ held l) ++ (l.groups + 1, None) ∷ []) (begin l.flags (l.groups + 1) l.names) refl refl (ordered_plain (pre ++ held l) l.groups l.names h.ordered))
  inside_stands (Named name) pre l start h e =
      let (new, same) = guard_parts (not (is_named name l.names)) (Some (begin l.flags (l.groups + 1) (l.names ++ name ∷ []))) start e in
      subst (Stands ((pre ++ held l) ++ (l.groups + 1, Some name) ∷ [])) (same_Some (begin l.flags (l.groups + 1) (l.names ++ name ∷ [])) start same)
      (begin_stands ((pre ++ held l) ++ (l.groups + 1, Some name) ∷ []) (begin l.flags (l.groups + 1) (l.names ++ name ∷ [])) refl refl
      (ordered_named (pre ++ held l) l.groups l.names name (not_true (is_named name l.names) new) h.ordered))
    where
      not_true : (b : Bool) → not b ≡ true → b ≡ false
      not_true true h = absurd (cc)
      not_true false h = refl
  inside_stands (Flagged to) pre l start h e =
      subst (Stands (pre ++ held l)) (same_Some (begin (set_flags to l.flags) l.groups l.names) start e)
      (begin_stands (pre ++ held l) (begin (set_flags to l.flags) l.groups l.names) refl refl h.ordered)

  pub around : (t : Tie) (pre : List Numbered) (l : Level) (re : Re) (gs : List Numbered) → groups re ≡ gs → pre ++ (held l ++ groups (tied t re)) ≡ before pre l t ++ gs
  around None pre l re gs e = sym (append_assoc pre (held l) (groups re)) ∙ ap (λ t. (pre ++ held l) ++ t) e
  around (Some t) pre l re gs e = sym (append_assoc pre (held l) (t ∷ groups re)) ∙ ap (λ x. (pre ++ held l) ++ t ∷ x) e ∙ sym (append_assoc (pre ++ held l) (t ∷ []) gs)

  pub reads_stands : (b : Body) (pre : List Numbered) (l end : Level) → s.line_terminator < 256 → Stands pre l → reads s l b ≡ Some end → Stands pre end
  reads_stands ends pre l end byte h e = subst (Stands pre) (same_Some l end e) h
  reads_stands (bars b) pre l end byte h e =
      let (m, is, rest) = some_parts (end_branch s l) (λ m. reads s m b) end e in
      reads_stands b pre m end byte ((branch_stands pre l m h is).0) rest
  reads_stands (sets f b) pre l end byte h e =
      let (to, _, rest) = some_parts (flags_of f) (λ to. reads s (add (leaf empty) (record l { flags = set_flags to l.flags })) b) end e in
      reads_stands b pre (add (leaf empty) (record l { flags = set_flags to l.flags })) end byte
      (add_nothing pre (record l { flags = set_flags to l.flags }) (leaf empty) h.items h.branches (plain_fit s empty (tt, omega arith, tt, refl)) refl h.ordered) rest
  reads_stands (piece x os b) pre l end byte h e =
      let (k, _, next) = some_parts (piece_says x) (λ k. sense_part s l.flags k >>= λ p. repeated s l.flags os p >>= λ q. reads s (add q l) b) end e in
      let (p, is, more) = some_parts (sense_part s l.flags k) (λ p. repeated s l.flags os p >>= λ q. reads s (add q l) b) end next in
      let (q, are, rest) = some_parts (repeated s l.flags os p) (λ q. reads s (add q l) b) end more in
      let (fit, none) = sense_fit s l.flags k p byte is in
      let (last, same) = repeated_fit s l.flags os p q fit are in
      reads_stands b pre (add q l) end byte (add_nothing pre l q h.items h.branches last (same ∙ none) h.ordered) rest
  reads_stands (group o inner os b) pre l end byte h e =
      let (k, _, e1) = some_parts (opening_says o) _ end e in
      let (start, at_start, e2) = some_parts (inside k l) _ end e1 in
      let (last, at_last, e3) = some_parts (reads s start inner) _ end e2 in
      let (body, at_body, e4) = some_parts (whole s last) _ end e3 in
      let (p, at_p, e5) = some_parts (closed s (tie k l) body) _ end e4 in
      let (q, at_q, e6) = some_parts (repeated s l.flags os p) _ end e5 in
      let within = reads_stands inner (before pre l (tie k l)) start last byte (inside_stands k pre l start h at_start) at_last in
      let (fit, gs) = whole_stands (before pre l (tie k l)) last body within at_body in
      let (closed_in, is) = closed_fit (tie k l) body p fit at_p in
      let (done, same) = repeated_fit s l.flags os p q closed_in at_q in
      reads_stands b pre (add q (record l { groups = last.groups; names = last.names })) end byte
      (add_stands pre (record l { groups = last.groups; names = last.names }) q h.items h.branches done
      (ordered_as (pre ++ (held l ++ groups q.re)) (before pre l (tie k l) ++ held last) last.groups last.names
      (ap (λ t. pre ++ (held l ++ t)) (same ∙ ap groups is) ∙ around (tie k l) pre l body.re (held last) gs) within.ordered)) e6

  -- before a pattern
  pub first_stands : Stands [] (begin (first_flags s) 0 [])
  first_stands = begin_stands [] (begin (first_flags s) 0 []) refl refl (record { numbered = refl; named = refl; distinct = tt })

  -- the whole of a body that stands so
  pub whole_formed : (end : Level) (re : Re) (d : ℕ) → Stands [] end → whole s end ≡ Some (record { re = re; depth = d }) → IsWellFormed re
  whole_formed end re d last is_whole =
      let (fit, gs) = whole_stands [] end (record { re = re; depth = d }) last is_whole in
      let numbers : group_numbers re ≡ range_with_len 1 end.groups = numbers_are re ∙ ap (map (λ (g : Numbered). g.0)) gs ∙ last.ordered.numbered in
      let deep = fit.fine.shallow in let least = fit.within in
      record {
        numbered = numbers ∙ ap (range_with_len 1) (sym (ap length numbers ∙ length-range_with_len 1 end.groups));
        named = subst AreDistinct (sym (names_are re ∙ ap (map (λ (g : Numbered). g.1)) gs))
            (distinct_among (map (λ (g : Numbered). g.1) (held end)) (subst (λ x. AreDistinct (given x)) (sym last.ordered.named) last.ordered.distinct));
        bounded = fit.fine.bounded;
        shallow = omega (arith, deep, least);
      }

  pub well_formed : (text : Characters) (re : Re) → s.line_terminator < 256 → Reads s text re → IsWellFormed re
  well_formed text re byte r =
      whole_formed r.end re r.depth (reads_stands r.body [] (begin (first_flags s) 0 []) r.end byte first_stands r.is_read) r.is_whole

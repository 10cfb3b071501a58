-- How deep a pattern is nested at least, and at most.
use Rattle.std.proofs.Common.{◌≡◌, ℕ, ◌+◌, ◌-◌, ◌<◌, ◌≤◌, max, min, Bool, true, false, nat_lt, nat_le, not, List, [], ◌∷◌, ◌++◌, Option, Some, None, length, map, reverse, take, get_or, refl, ap, sym, subst, ◌∙◌, arith, if◌then◌else◌}
use Rattle.std.proofs.lemmas.Bool.{ltb-true, leb-false}
use Rattle.std.proofs.lemmas.Option.{none-some, same_Some}
use Rattle.std.proofs.lemmas.List.{length-append, reverse-append, take_more}
use Rattle.rc_pattern.specs.Re.{Re, empty}
use Rattle.rc_pattern.specs.Meaning.{concat_of, alternation_of}
use Rattle.rc_tokens.specs.Text.{Characters, ◌>>=◌}
use Rattle.rc_tokens.specs.Classes.{class_of, perl_ranges, list_ranges}
use Rattle.rc_tokens.specs.Marks.{Mark, said}
use Rattle.rc_tokens.specs.Said as sense
use Rattle.rc_tokens.specs.Said.{Said, Start, Stands, Bar, Setting, Opens, Closes, Repeats, Capturing, Named, Flagged}
use Rattle.rc_tokens.specs.declared.tokens.Bounds.{Bounds}
use Rattle.rc_tokens.proofs.StepLemmas.{some_parts, guard_parts}
use Rattle.rc_tokens.proofs.ClassLemmas.{le_true}
use Rattle.rc_parser.specs.Settings.{Settings}
use Rattle.rc_parser.specs.Pieces.{Subpattern, leaf, depth_limit, deeper, set_re, char_re, byte_re, has_dot, sense_part}
use Rattle.rc_parser.specs.Grammar.{Parts, no_parts, with_part, Level, begin, add, set_flags, tied, is_named, inside, tie, join, end_branch, whole, repeated_once, closed}
use Rattle.rc_parser.specs.Machine.{Outside, Work, work, nameless, settled, step, close, take_said, finish, run_marks, Has, fresh}
use Rattle.rc_parser.specs.Nesting.{body_depth, body_depth_with, closed_depth, least_depth}
use Rattle.rc_parser.specs.declared.flags.Flags.{Flags}
use Rattle.rc_parser.specs.View as view
use Rattle.rc_parser.specs.declared.builder.Outside as code
use Rattle.rc_parser.proofs.ReadLemmas.{Same}

-- ---- numbers

one_longer : {A : Type 0} (xs : List A) (x : A) → length (xs ++ x ∷ []) ≡ length xs + 1
one_longer xs x = length-append xs (x ∷ [])

with_grows : (b i n m d e : ℕ) → d ≤ e → max b (max i d + min 1 n) + min 1 m ≤ max b (max i e + min 1 n) + min 1 m
with_grows b i n m d e h = omega arith

item_grows : (b i n m d : ℕ) → max b (i + min 1 (n - 1)) + min 1 m ≤ max b (max i d + min 1 n) + min 1 m
item_grows b i n m d = omega arith

bar_grows : (b d m : ℕ) → max b d + min 1 m ≤ max (max b d) (0 + min 1 (0 - 1)) + min 1 (m + 1)
bar_grows b d m = omega arith

pub closed_grows : (d e : ℕ) (outer : List Outside) → d ≤ e → closed_depth d outer ≤ closed_depth e outer
closed_grows d e [] h = h
closed_grows d e (f ∷ outer) h =
    closed_grows (body_depth_with (d + 1) (f.1)) (body_depth_with (e + 1) (f.1)) outer
    (with_grows (f.1).branches.deepest (f.1).items.deepest (length (f.1).items.res) (length (f.1).branches.res) (d + 1) (e + 1) (omega (arith, h)))

-- what the groups around a body add is never less than nothing
pub closed_above : (d : ℕ) (outer : List Outside) → d ≤ closed_depth d outer
closed_above d [] = omega arith
closed_above d (f ∷ outer) =
    let more = closed_above (body_depth_with (d + 1) (f.1)) outer in
    let here = above (f.1).branches.deepest (f.1).items.deepest (length (f.1).items.res) (length (f.1).branches.res) d in
    omega (arith, more, here)
  where
    above : (b i n m d : ℕ) → d ≤ max b (max i (d + 1) + min 1 n) + min 1 m
    above b i n m d = omega arith

pub add_depth : (p : Subpattern) (l : Level) → body_depth (add p l) ≡ body_depth_with p.depth l
add_depth p l = ap (λ n. max l.branches.deepest (max l.items.deepest p.depth + min 1 (n - 1)) + min 1 (length l.branches.res)) (one_longer l.items.res p.re)
    ∙ ap (λ n. max l.branches.deepest (max l.items.deepest p.depth + min 1 n) + min 1 (length l.branches.res)) (less_one (length l.items.res))
  where
    less_one : (n : ℕ) → n + 1 - 1 ≡ n
    less_one n = omega arith

pub add_grows : (p : Subpattern) (l : Level) → body_depth l ≤ body_depth (add p l)
add_grows p l =
    let same = add_depth p l in
    let more = item_grows l.branches.deepest l.items.deepest (length l.items.res) (length l.branches.res) p.depth in
    omega (arith, same, more)

-- ---- the loop over the groups that are open

pub one_out : (depth : ℕ) (xs : List code.Outside) (i : ℕ) (x : code.Outside) → i < length xs → x ≡ get_or xs i x →
    closed_depth depth (map view.outside (reverse (take (i + 1) xs))) ≡ closed_depth (body_depth_with (depth + 1) (view.level x.level)) (map view.outside (reverse (take i xs)))
one_out depth xs i x h e = ap (λ ys. closed_depth depth (map view.outside ys))
    (ap reverse (take_more xs i x h) ∙ reverse-append (take i xs) (get_or xs i x ∷ []) ∙ ap (λ y. y ∷ reverse (take i xs)) (sym e))

-- ---- steps

module _ (s : Settings) where
  abbrev limit : ℕ
  limit = depth_limit s

  pub deeper_depth : (re : Re) (d : ℕ) (p : Subpattern) → deeper s re d ≡ Some p → (p.depth ≡ d + 1) × (p.depth ≤ depth_limit s)
  deeper_depth re d p h =
      let (less, same) = guard_parts (nat_lt d (depth_limit s)) (Some (record { re = re; depth = d + 1 })) p h in
      let l = ltb-true d (depth_limit s) less in
      let e = same_Some (record { re = re; depth = d + 1 }) p same in
      (ap (λ (p : Subpattern). p.depth) (sym e), subst (λ (p : Subpattern). p.depth ≤ depth_limit s) e (omega (arith, l)))

  -- parts that are joined: how deep they are then
  join_depth : (all : List Re → Re) (ps : Parts) (p : Subpattern) → join s all ps ≡ Some p →
      (p.depth ≡ ps.deepest + min 1 (length ps.res - 1)) × (ps.deepest ≤ depth_limit s → p.depth ≤ depth_limit s)
  join_depth all ps p e = go (nat_le (length ps.res) 1) refl e
    where
      go : (b : Bool) → nat_le (length ps.res) 1 ≡ b → (if b then Some (record { re = all ps.res; depth = ps.deepest }) else deeper s (all ps.res) ps.deepest) ≡ Some p →
          (p.depth ≡ ps.deepest + min 1 (length ps.res - 1)) × (ps.deepest ≤ depth_limit s → p.depth ≤ depth_limit s)
      go true t g =
          let few = le_true (length ps.res) 1 t in
          let is = ap (λ (p : Subpattern). p.depth) (same_Some (record { re = all ps.res; depth = ps.deepest }) p g) in
          (omega (arith, few, is), λ h. omega (arith, is, h))
      go false t g =
          let many = leb-false (length ps.res) 1 t in
          let (is, within) = deeper_depth (all ps.res) ps.deepest p g in
          (omega (arith, many, is), λ h. within)

  -- a branch that ends: how deep it is, and the level behind it
  branch_parts : (l l' : Level) → end_branch s l ≡ Some l' → (branch : Subpattern)
      × (branch.depth ≡ l.items.deepest + min 1 (length l.items.res - 1)) × (l.items.deepest ≤ depth_limit s → branch.depth ≤ depth_limit s)
      × (record l { branches = with_part branch l.branches; items = no_parts } ≡ l')
  branch_parts l l' h =
      let (branch, is, same) = some_parts (join s concat_of l.items) (λ branch. Some (record l { branches = with_part branch l.branches; items = no_parts })) l' h in
      let (deep, within) = join_depth concat_of l.items branch is in
      (branch, deep, within, same_Some (record l { branches = with_part branch l.branches; items = no_parts }) l' same)

  bar_deeper : (l l' : Level) → end_branch s l ≡ Some l' → body_depth l ≤ body_depth l'
  bar_deeper l l' h =
      let (branch, deep, _, is) = branch_parts l l' h in
      subst (λ (x : Level). body_depth l ≤ body_depth x) is (at branch deep)
    where
      at : (branch : Subpattern) → branch.depth ≡ l.items.deepest + min 1 (length l.items.res - 1) →
          body_depth l ≤ body_depth (record l { branches = with_part branch l.branches; items = no_parts })
      at branch deep =
          let more = bar_grows l.branches.deepest branch.depth (length l.branches.res) in
          let longer = one_longer l.branches.res branch.re in
          let d : body_depth l ≡ max l.branches.deepest branch.depth + min 1 (length l.branches.res) = ap (λ n. max l.branches.deepest n + min 1 (length l.branches.res)) (sym deep) in
          rw longer (rw d more)

  -- a body that ends: how deep it is
  whole_depth : (l : Level) (p : Subpattern) → whole s l ≡ Some p →
      (p.depth ≡ body_depth l) × (l.items.deepest ≤ depth_limit s → l.branches.deepest ≤ depth_limit s → p.depth ≤ depth_limit s)
  whole_depth l p h =
      let (l', ended, joined) = some_parts (end_branch s l) (λ l'. join s alternation_of l'.branches) p h in
      let (branch, deep, within, is) = branch_parts l l' ended in
      let (depth, small) = join_depth alternation_of (with_part branch l.branches) p (subst (λ (x : Level). join s alternation_of x.branches ≡ Some p) (sym is) joined) in (
        depth ∙ ap (λ n. max l.branches.deepest branch.depth + min 1 (n - 1)) (one_longer l.branches.res branch.re)
            ∙ ap (λ n. max l.branches.deepest branch.depth + min 1 n) (less_one (length l.branches.res))
            ∙ ap (λ n. max l.branches.deepest n + min 1 (length l.branches.res)) deep,
        λ i b. let w = within i in small (omega (arith, w, b)),
      )
    where
      less_one : (n : ℕ) → n + 1 - 1 ≡ n
      less_one n = omega arith

  -- ---- no step makes the pattern less deep

  close_deeper : (l : Level) (outer : List Outside) (v : Work) → close s l outer ≡ Some v → closed_depth (body_depth l) outer ≤ least_depth v
  close_deeper l [] v h = absurd (none-some v h)
  close_deeper l (f ∷ outer) v h =
      let (body, is, next) = some_parts (whole s l) (λ body. closed s (f.0) body >>= λ p. Some (work (record (f.1) { groups = l.groups; names = l.names }) (Some p) outer)) v h in
      let (p, made, same) = some_parts (closed s (f.0) body) (λ p. Some (work (record (f.1) { groups = l.groups; names = l.names }) (Some p) outer)) v next in
      let (depth, _) = whole_depth l body is in
      let (more, _) = deeper_depth (tied (f.0) body.re) body.depth p made in
      subst (λ (x : Work). closed_depth (body_depth l) (f ∷ outer) ≤ least_depth x) (same_Some (work (record (f.1) { groups = l.groups; names = l.names }) (Some p) outer) v same)
      (at p (more ∙ ap (λ n. n + 1) depth))
    where
      no_less : (n : ℕ) → n ≤ n
      no_less n = omega arith

      at : (p : Subpattern) → p.depth ≡ body_depth l + 1 → closed_depth (body_depth_with (body_depth l + 1) (f.1)) outer ≤ closed_depth (body_depth (add p (f.1))) outer
      at p e = rw (add_depth p (f.1)) (rw e (no_less (closed_depth (body_depth_with (body_depth l + 1) (f.1)) outer)))

  step_deeper : (k : Said) (l : Level) (outer : List Outside) (v : Work) → step s k l outer ≡ Some v → closed_depth (body_depth l) outer ≤ least_depth v
  step_deeper (Stands k) l outer v h =
      let (p, _, same) = some_parts (sense_part s l.flags k) (λ p. Some (work l (Some p) outer)) v h in
      subst (λ (x : Work). closed_depth (body_depth l) outer ≤ least_depth x) (same_Some (work l (Some p) outer) v same)
      (closed_grows (body_depth l) (body_depth (add p l)) outer (add_grows p l))
  step_deeper Bar l outer v h =
      let (l', is, same) = some_parts (end_branch s l) (λ l'. Some (work l' None outer)) v h in
      subst (λ (x : Work). closed_depth (body_depth l) outer ≤ least_depth x) (same_Some (work l' None outer) v same)
      (closed_grows (body_depth l) (body_depth l') outer (bar_deeper l l' is))
  step_deeper (Setting to) l outer v h =
      subst (λ (x : Work). closed_depth (body_depth l) outer ≤ least_depth x) (same_Some (work (add (leaf empty) (record l { flags = set_flags to l.flags })) None outer) v h)
      (closed_grows (body_depth l) (body_depth (add (leaf empty) l)) outer (add_grows (leaf empty) l))
  step_deeper (Opens k) l outer v h =
      let (start, _, same) = some_parts (inside k l) (λ start. Some (work start None ((tie k l, nameless l) ∷ outer))) v h in
      subst (λ (x : Work). closed_depth (body_depth l) outer ≤ least_depth x) (same_Some (work start None ((tie k l, nameless l) ∷ outer)) v same)
      (closed_grows (body_depth l) (body_depth_with (body_depth start + 1) l) outer
      (item_grows l.branches.deepest l.items.deepest (length l.items.res) (length l.branches.res) (body_depth start + 1)))
  step_deeper Closes l outer v h = close_deeper l outer v h
  step_deeper (Repeats b) l outer v h = absurd (none-some v h)

  repeat_deeper : (b : Bounds) (last : Option Subpattern) (l : Level) (outer : List Outside) (v : Work) →
      (last >>= λ p. repeated_once s l.flags b p >>= λ q. Some (work l (Some q) outer)) ≡ Some v → closed_depth (body_depth (settled last l)) outer ≤ least_depth v
  repeat_deeper b None l outer v h = absurd (none-some v h)
  repeat_deeper b (Some p) l outer v h =
      let (q, made, same) = some_parts (repeated_once s l.flags b p) (λ q. Some (work l (Some q) outer)) v h in
      let (more, _) = deeper_depth _ p.depth q made in
      subst (λ (x : Work). closed_depth (body_depth (add p l)) outer ≤ least_depth x) (same_Some (work l (Some q) outer) v same)
      (closed_grows (body_depth (add p l)) (body_depth (add q l)) outer (at q more))
    where
      at : (q : Subpattern) → q.depth ≡ p.depth + 1 → body_depth (add p l) ≤ body_depth (add q l)
      at q e = rw (add_depth p l) (rw (add_depth q l)
          (with_grows l.branches.deepest l.items.deepest (length l.items.res) (length l.branches.res) p.depth q.depth (omega (arith, e))))

  pub take_deeper : (k : Said) (w v : Work) → take_said s k w ≡ Some v → least_depth w ≤ least_depth v
  take_deeper (Repeats b) w v h = repeat_deeper b w.last w.level w.outer v h
  take_deeper (Stands k) w v h = step_deeper (Stands k) (settled w.last w.level) w.outer v h
  take_deeper Bar w v h = step_deeper Bar (settled w.last w.level) w.outer v h
  take_deeper (Setting to) w v h = step_deeper (Setting to) (settled w.last w.level) w.outer v h
  take_deeper (Opens k) w v h = step_deeper (Opens k) (settled w.last w.level) w.outer v h
  take_deeper Closes w v h = step_deeper Closes (settled w.last w.level) w.outer v h

  pub finish_deeper : (l : Level) (outer : List Outside) (p : Subpattern) → finish s l outer ≡ Some p → closed_depth (body_depth l) outer ≤ p.depth
  finish_deeper l [] p h = let (depth, _) = whole_depth l p h in omega (arith, depth)
  finish_deeper l (f ∷ outer) p h = absurd (none-some p h)

  run_deeper : (ms : List Mark) (w : Work) (p : Subpattern) → run_marks s w ms ≡ Some p → least_depth w ≤ p.depth
  run_deeper [] w p h = finish_deeper (settled w.last w.level) w.outer p h
  run_deeper (m ∷ ms) w p h =
      let (k, _, more) = some_parts (said m) (λ k. take_said s k w >>= λ v. run_marks s v ms) p h in
      let (v, took, rest) = some_parts (take_said s k w) (λ v. run_marks s v ms) p more in
      let here = take_deeper k w v took in
      let there = run_deeper ms v p rest in
      omega (arith, here, there)

  -- ---- no part is deeper than the limit

  abbrev pub Fits : Level → Type 0
  Fits l = (l.items.deepest ≤ depth_limit s) × (l.branches.deepest ≤ depth_limit s)

  abbrev pub FitsLast : Option Subpattern → Type 0
  FitsLast None = Unit {0}
  FitsLast (Some p) = p.depth ≤ depth_limit s

  abbrev pub AllFit : List Outside → Type 0
  AllFit [] = Unit {0}
  AllFit (f ∷ outer) = Fits (f.1) × AllFit outer

  abbrev pub WorkFits : Work → Type 0
  WorkFits w = Fits w.level × FitsLast w.last × AllFit w.outer

  leaf_within : (o : Option Re) (p : Subpattern) → (o >>= λ re. Some (leaf re)) ≡ Some p → p.depth ≤ depth_limit s
  leaf_within o p h =
      let (re, _, same) = some_parts o (λ re. Some (leaf re)) p h in
      subst (λ (p : Subpattern). p.depth ≤ depth_limit s) (same_Some (leaf re) p same) (omega arith)

  sense_within : (f : Flags) (k : sense.Sense) (p : Subpattern) → sense_part s f k ≡ Some p → p.depth ≤ depth_limit s
  sense_within f (sense.Character c) p h = leaf_within (char_re s f c) p h
  sense_within f (sense.Byte b) p h = leaf_within (byte_re s f b) p h
  sense_within f sense.Dot p h =
      let (_, same) = guard_parts (has_dot s f) (Some (leaf _)) p h in
      subst (λ (p : Subpattern). p.depth ≤ depth_limit s) (same_Some (leaf _) p same) (omega arith)
  sense_within f (sense.PerlClass q) p h = leaf_within (set_re s f (perl_ranges f.unicode q)) p h
  sense_within f (sense.Asserts a) p h = subst (λ (p : Subpattern). p.depth ≤ depth_limit s) (same_Some (leaf _) p h) (omega arith)
  sense_within f (sense.Members negated bracket ms) p h =
      let (rs, _, next) = some_parts (list_ranges f.unicode bracket ms) _ p h in
      let (re, _, deep) = some_parts (set_re s f (class_of f.unicode f.case_insensitive negated rs)) (λ re. deeper s re 0) p next in
      (deeper_depth re 0 p deep).1

  pub add_fits : (p : Subpattern) (l : Level) → p.depth ≤ depth_limit s → Fits l → Fits (add p l)
  add_fits p l h fits = let i = fits.0 in (omega (arith, i, h), fits.1)

  pub settled_fits : (last : Option Subpattern) (l : Level) → FitsLast last → Fits l → Fits (settled last l)
  settled_fits None l h fits = fits
  settled_fits (Some p) l h fits = add_fits p l h fits

  begin_fits : (k : Start) (l start : Level) → inside k l ≡ Some start → Fits start
  begin_fits Capturing l start h = subst Fits (same_Some _ start h) (omega arith, omega arith)
  begin_fits (Named name) l start h =
      let (_, same) = guard_parts (not (is_named name l.names)) (Some (begin l.flags (l.groups + 1) (l.names ++ name ∷ []))) start h in
      subst Fits (same_Some _ start same) (omega arith, omega arith)
  begin_fits (Flagged to) l start h = subst Fits (same_Some _ start h) (omega arith, omega arith)

  close_fits : (l : Level) (outer : List Outside) (v : Work) → Fits l → AllFit outer → close s l outer ≡ Some v → WorkFits v
  close_fits l [] v fits all h = absurd (none-some v h)
  close_fits l (f ∷ outer) v fits all h =
      let (body, is, next) = some_parts (whole s l) (λ body. closed s (f.0) body >>= λ p. Some (work (record (f.1) { groups = l.groups; names = l.names }) (Some p) outer)) v h in
      let (p, made, same) = some_parts (closed s (f.0) body) (λ p. Some (work (record (f.1) { groups = l.groups; names = l.names }) (Some p) outer)) v next in
      subst WorkFits (same_Some (work (record (f.1) { groups = l.groups; names = l.names }) (Some p) outer) v same)
      (all.0, (deeper_depth (tied (f.0) body.re) body.depth p made).1, all.1)

  step_fits : (k : Said) (l : Level) (outer : List Outside) (v : Work) → Fits l → AllFit outer → step s k l outer ≡ Some v → WorkFits v
  step_fits (Stands k) l outer v fits all h =
      let (p, is, same) = some_parts (sense_part s l.flags k) (λ p. Some (work l (Some p) outer)) v h in
      subst WorkFits (same_Some (work l (Some p) outer) v same) (fits, sense_within l.flags k p is, all)
  step_fits Bar l outer v fits all h =
      let (l', is, same) = some_parts (end_branch s l) (λ l'. Some (work l' None outer)) v h in
      let (branch, _, within, ended) = branch_parts l l' is in
      let small = within (fits.0) in let b = fits.1 in
      subst WorkFits (same_Some (work l' None outer) v same) (subst Fits ended (omega arith, omega (arith, small, b)), tt, all)
  step_fits (Setting to) l outer v fits all h =
      subst WorkFits (same_Some (work (add (leaf empty) (record l { flags = set_flags to l.flags })) None outer) v h)
      (add_fits (leaf empty) (record l { flags = set_flags to l.flags }) (omega arith) fits, tt, all)
  step_fits (Opens k) l outer v fits all h =
      let (start, is, same) = some_parts (inside k l) (λ start. Some (work start None ((tie k l, nameless l) ∷ outer))) v h in
      subst WorkFits (same_Some (work start None ((tie k l, nameless l) ∷ outer)) v same) (begin_fits k l start is, tt, (fits, all))
  step_fits Closes l outer v fits all h = close_fits l outer v fits all h
  step_fits (Repeats b) l outer v fits all h = absurd (none-some v h)

  pub take_fits : (k : Said) (w v : Work) → WorkFits w → take_said s k w ≡ Some v → WorkFits v
  take_fits (Repeats b) w v fits h =
      let (p, _, next) = some_parts w.last (λ p. repeated_once s w.level.flags b p >>= λ q. Some (work w.level (Some q) w.outer)) v h in
      let (q, made, same) = some_parts (repeated_once s w.level.flags b p) (λ q. Some (work w.level (Some q) w.outer)) v next in
      subst WorkFits (same_Some (work w.level (Some q) w.outer) v same) (fits.0, (deeper_depth _ p.depth q made).1, fits.2)
  take_fits (Stands k) w v fits h = step_fits (Stands k) (settled w.last w.level) w.outer v (settled_fits w.last w.level (fits.1) (fits.0)) (fits.2) h
  take_fits Bar w v fits h = step_fits Bar (settled w.last w.level) w.outer v (settled_fits w.last w.level (fits.1) (fits.0)) (fits.2) h
  take_fits (Setting to) w v fits h = step_fits (Setting to) (settled w.last w.level) w.outer v (settled_fits w.last w.level (fits.1) (fits.0)) (fits.2) h
  take_fits (Opens k) w v fits h = step_fits (Opens k) (settled w.last w.level) w.outer v (settled_fits w.last w.level (fits.1) (fits.0)) (fits.2) h
  take_fits Closes w v fits h = step_fits Closes (settled w.last w.level) w.outer v (settled_fits w.last w.level (fits.1) (fits.0)) (fits.2) h

  pub finish_within : (l : Level) (outer : List Outside) (p : Subpattern) → Fits l → finish s l outer ≡ Some p → p.depth ≤ depth_limit s
  finish_within l [] p fits h = (whole_depth l p h).1 (fits.0) (fits.1)
  finish_within l (f ∷ outer) p fits h = absurd (none-some p h)

  run_within : (ms : List Mark) (w : Work) (p : Subpattern) → WorkFits w → run_marks s w ms ≡ Some p → p.depth ≤ depth_limit s
  run_within [] w p fits h = finish_within (settled w.last w.level) w.outer p (settled_fits w.last w.level (fits.1) (fits.0)) h
  run_within (m ∷ ms) w p fits h =
      let (k, _, more) = some_parts (said m) (λ k. take_said s k w >>= λ v. run_marks s v ms) p h in
      let (v, took, rest) = some_parts (take_said s k w) (λ v. run_marks s v ms) p more in
      run_within ms v p (take_fits k w v fits took) rest

  -- where the pattern is too deep whatever follows, nothing is read
  pub same_deep : (w : Work) (text t : Characters) → Same s (fresh s) text w t → depth_limit s < least_depth w → (p : Subpattern) → ¬ Has s (fresh s) text p
  same_deep w text t same deep p h =
      let (ms, _, run) = same.takes p h in
      let (all, _, whole_run) = h in
      let least = run_deeper ms w p run in
      let most = run_within all (fresh s) p ((omega arith, omega arith), tt, tt) whole_run in
      omega (arith, deep, least, most)

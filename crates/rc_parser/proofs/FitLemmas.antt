-- What the grammar reads is well-formed.
use Rattle.std.proofs.Common.{◌≡◌, ℕ, ◌+◌, ◌-◌, ◌*◌, ◌<◌, ◌≤◌, max, Bool, true, false, not, ◌&&◌, ◌||◌, ◌==◌, nat_lt, nat_le, List, [], ◌∷◌, ◌++◌, Option, Some, None, length, refl, ap, sym, subst, ◌∙◌, arith, append-nil, if◌then◌else◌, encode_utf8_all}
use Rattle.std.proofs.lemmas.Bool.{ltb-true, eqb-true, eqb-false, false_from_ne_true}
use Rattle.std.proofs.lemmas.Option.{same_Some}
use Rattle.rc_pattern.specs.Re.{Re, Range, byte_in, char_in, look, repeat}
use Rattle.rc_pattern.specs.Meaning.{literal_of}
use Rattle.rc_pattern.specs.Dots.{dot_of, char_before, char_after, chars_except, bytes_except}
use Rattle.rc_pattern.specs.WellFormed.{AreAscending, HasBounds, depth}
use Rattle.rc_pattern.specs.declared.hir.dots.Dot.TheVariants.{AnyChar, AnyByte, AnyCharExcept, AnyByteExcept, AnyCharExceptCRLF, AnyByteExceptCRLF}
use Rattle.rc_tokens.specs.Text.{◌>>=◌, ◌>>◌, is_letter}
use Rattle.rc_tokens.specs.Classes.{class_of, perl_ranges, list_ranges, has_high}
use Rattle.rc_tokens.specs.Said as sense
use Rattle.rc_tokens.specs.Said.{Start, Capturing, Named, Flagged}
use Rattle.rc_tokens.specs.Marks.{Operator, Amount, any, some, maybe, exactly, from, between, count, bounds, bounds_of}
use Rattle.rc_tokens.specs.declared.tokens.Bounds.{Bounds}
use Rattle.rc_tokens.proofs.StepLemmas.{some_parts, guard_parts, and_parts}
use Rattle.rc_tokens.proofs.ClassLemmas.{class_ascending, perl_ascending, list_codes, letter_codes, le_true}
use Rattle.rc_parser.proofs.PieceLemmas.{letter_small}
use Rattle.rc_parser.specs.Settings.{Settings}
use Rattle.rc_parser.specs.Pieces.{Subpattern, leaf, depth_limit, deeper, set_re, char_re, byte_re, dot_kind, has_dot, look_of, sense_part}
use Rattle.rc_parser.specs.Grammar.{Parts, no_parts, with_part, join, repeated_once, repeated}
use Rattle.rc_parser.specs.declared.flags.Flags.{Flags}
use Rattle.rc_parser.proofs.SpineLemmas.{groups, all_groups, all_append, IsSpine, front, Fine, AllFine, fine_more, all_more, fine_append}

-- ---- parts

-- a part of a body: its depth is in step with the depth that was counted
pub record Fit (c : ℕ) (p : Subpattern) : Type 0 where
  pub fine : Fine (3 * p.depth + c) p.re
  pub within : p.depth ≤ 250

pub record AllFit (c : ℕ) (ps : Parts) : Type 0 where
  pub fine : AllFine (3 * ps.deepest + c) ps.res
  pub within : ps.deepest ≤ 250

pub fit_with : (c : ℕ) (p : Subpattern) (ps : Parts) → Fit c p → AllFit c ps → AllFit c (with_part p ps)
fit_with c p ps h g =
    let a = h.within in let b = g.within in
    record {
      fine = fine_append (3 * max ps.deepest p.depth + c) ps.res (p.re ∷ []) (all_more (3 * ps.deepest + c) (3 * max ps.deepest p.depth + c) ps.res (omega arith) g.fine)
          (fine_more (3 * p.depth + c) (3 * max ps.deepest p.depth + c) p.re (omega arith) h.fine, tt);
      within = omega (arith, a, b);
    }

pub no_fit : (c : ℕ) → AllFit c no_parts
no_fit c = record { fine = tt; within = omega arith }

pub with_groups : (p : Subpattern) (ps : Parts) → all_groups (with_part p ps).res ≡ all_groups ps.res ++ groups p.re
with_groups p ps = all_append ps.res (p.re ∷ []) ∙ ap (λ t. all_groups ps.res ++ t) (append-nil (groups p.re))

module _ (s : Settings) where
  deeper_parts : (re : Re) (d : ℕ) (p : Subpattern) → deeper s re d ≡ Some p → (p.re ≡ re) × (p.depth ≡ d + 1) × (p.depth ≤ 250)
  deeper_parts re d p h =
      let (less, same) = guard_parts (nat_lt d (depth_limit s)) (Some (record { re = re; depth = d + 1 })) p h in
      let l = ltb-true d (depth_limit s) less in
      let e = same_Some (record { re = re; depth = d + 1 }) p same in
      (ap (λ (p : Subpattern). p.re) (sym e), ap (λ (p : Subpattern). p.depth) (sym e), subst (λ (p : Subpattern). p.depth ≤ 250) e (omega (arith, l)))

  pub deeper_fit : (c k : ℕ) (re : Re) (d : ℕ) (p : Subpattern) → k ≤ c + 3 → Fine (3 * d + k) re → deeper s re d ≡ Some p → Fit c p × (p.re ≡ re)
  deeper_fit c k re d p l h e =
      let (is, deep, within) = deeper_parts re d p e in
      (record { fine = subst (Fine (3 * p.depth + c)) (sym is) (fine_more (3 * d + k) (3 * p.depth + c) re (omega (arith, deep, l)) h); within = within }, is)

  -- parts joined by what makes a pattern of patterns
  pub join_fit : (c : ℕ) (all : List Re → Re) (ps : Parts) (p : Subpattern) →
      ((d : ℕ) (res : List Re) → AllFine d res → Fine (d + 1) (all res)) → ((d : ℕ) (res : List Re) → AllFine d res → groups (all res) ≡ all_groups res) →
      AllFit c ps → join s all ps ≡ Some p → Fit (c + 1) p × (groups p.re ≡ all_groups ps.res)
  join_fit c all ps p makes keeps h e = go (nat_le (length ps.res) 1) e
    where
      fine : Fine (3 * ps.deepest + c + 1) (all ps.res)
      fine = makes (3 * ps.deepest + c) ps.res h.fine

      same : groups (all ps.res) ≡ all_groups ps.res
      same = keeps (3 * ps.deepest + c) ps.res h.fine

      go : (b : Bool) → (if b then Some (record { re = all ps.res; depth = ps.deepest }) else deeper s (all ps.res) ps.deepest) ≡ Some p →
          Fit (c + 1) p × (groups p.re ≡ all_groups ps.res)
      go true g =
          let is = same_Some (record { re = all ps.res; depth = ps.deepest }) p g in
          subst (λ (p : Subpattern). Fit (c + 1) p × (groups p.re ≡ all_groups ps.res)) is
          (record { fine = fine_more (3 * ps.deepest + c + 1) (3 * ps.deepest + (c + 1)) (all ps.res) (omega arith) fine; within = h.within }, same)
      go false g =
          let (fit, is) = deeper_fit (c + 1) (c + 1) (all ps.res) ps.deepest p (omega arith)
          (fine_more (3 * ps.deepest + c + 1) (3 * ps.deepest + (c + 1)) (all ps.res) (omega arith) fine) g in
          (fit, ap groups is ∙ same)

  bounds_ordered : (o : Operator) (b : Bounds) → bounds_of o.lazy o.amount ≡ Some b → (re : Re) → HasBounds re → (greedy : Bool) → HasBounds (repeat b.min b.max greedy re)
  bounds_ordered o b h re g greedy = go o.amount h
    where
      at : (x : Bounds) → HasBounds (repeat x.min x.max greedy re) → Some x ≡ Some b → HasBounds (repeat b.min b.max greedy re)
      at x y e = subst (λ (x : Bounds). HasBounds (repeat x.min x.max greedy re)) (same_Some x b e) y

      go : (a : Amount) → bounds_of o.lazy a ≡ Some b → HasBounds (repeat b.min b.max greedy re)
      go any e = at (bounds o.lazy 0 None) g e
      go some e = at (bounds o.lazy 1 None) g e
      go maybe e = at (bounds o.lazy 0 (Some 1)) (omega arith, g) e
      go (exactly n) e = let (k, _, same) = some_parts (count n) _ b e in at (bounds o.lazy k (Some k)) (omega arith, g) same
      go (from n) e = let (k, _, same) = some_parts (count n) _ b e in at (bounds o.lazy k None) g same
      go (between n m) e =
          let (k, _, next) = some_parts (count n) _ b e in
          let (j, _, rest) = some_parts (count m) _ b next in
          let (ordered, same) = guard_parts (nat_le k j) _ b rest in
          at (bounds o.lazy k (Some j)) (le_true k j ordered, g) same

  pub repeated_fit : (f : Flags) (os : List Operator) (p q : Subpattern) → Fit 1 p → repeated s f os p ≡ Some q → Fit 1 q × (groups q.re ≡ groups p.re)
  repeated_fit f [] p q h e = let is = same_Some p q e in subst (λ (q : Subpattern). Fit 1 q × (groups q.re ≡ groups p.re)) is (h, refl)
  repeated_fit f (o ∷ os) p q h e =
      let (b, at_b, next) = some_parts (bounds_of o.lazy o.amount) _ q e in
      let (r, at_r, rest) = some_parts (repeated_once s f b p) (λ r. repeated s f os r) q next in
      let deep = h.fine.shallow in
      let greedy : Bool = if b.lazy then f.swap_greed else not f.swap_greed in
      let (fit, is) = deeper_fit 1 2 (repeat b.min b.max greedy p.re) p.depth r (omega arith)
      (record { bounded = bounds_ordered o b at_b p.re h.fine.bounded greedy; shallow = omega (arith, deep); spine = tt }) at_r in
      let (last, same) = repeated_fit f os r q fit rest in
      (last, same ∙ ap groups is)

  -- ---- pieces

  abbrev pub Plain : Re → Type 0
  Plain re = HasBounds re × (depth re ≤ 1) × IsSpine front re × (groups re ≡ [])

  pub plain_fit : (re : Re) → Plain re → Fit 1 (leaf re)
  plain_fit re h = record { fine = record { bounded = h.0; shallow = let d = h.1 in omega (arith, d); spine = h.2 }; within = omega arith }

  pub plain_literal : (bs : List ℕ) → Plain (literal_of bs)
  plain_literal [] = (tt, omega arith, tt, refl)
  plain_literal (b ∷ bs) = (tt, omega arith, tt, refl)

  pub set_plain : (f : Flags) (rs : List Range) (re : Re) → AreAscending 0 rs → set_re s f rs ≡ Some re → Plain re
  set_plain f rs re h e = go f.unicode e
    where
      go : (b : Bool) → (if b then Some (char_in rs) else (not (s.utf8 && has_high rs) >> Some (byte_in rs))) ≡ Some re → Plain re
      go true g = subst Plain (same_Some (char_in rs) re g) (h, omega arith, tt, refl)
      go false g = let (_, same) = guard_parts (not (s.utf8 && has_high rs)) (Some (byte_in rs)) re g in
          subst Plain (same_Some (byte_in rs) re same) (h, omega arith, tt, refl)

  char_plain : (f : Flags) (c : ℕ) (re : Re) → char_re s f c ≡ Some re → Plain re
  char_plain f c re e = go (f.case_insensitive && is_letter c) refl e
    where
      go : (b : Bool) → (f.case_insensitive && is_letter c) ≡ b → (if b then set_re s f (class_of f.unicode true false ((c, c) ∷ [])) else Some (literal_of (encode_utf8_all (c ∷ [])))) ≡ Some re → Plain re
      go true t g = let (_, letter) = and_parts f.case_insensitive (is_letter c) t in
          set_plain f (class_of f.unicode true false ((c, c) ∷ [])) re (class_ascending f.unicode true false ((c, c) ∷ []) (letter_codes f.unicode c (letter_small c letter))) g
      go false t g = subst Plain (same_Some (literal_of (encode_utf8_all (c ∷ []))) re g) (plain_literal (encode_utf8_all (c ∷ [])))

  byte_plain : (f : Flags) (b : ℕ) (re : Re) → byte_re s f b ≡ Some re → Plain re
  byte_plain f b re e = go (not f.unicode && nat_le 128 b) e
    where
      go : (t : Bool) → (if t then (not s.utf8 >> Some (literal_of (b ∷ []))) else char_re s f b) ≡ Some re → Plain re
      go true g = let (_, same) = guard_parts (not s.utf8) (Some (literal_of (b ∷ []))) re g in subst Plain (same_Some (literal_of (b ∷ [])) re same) (plain_literal (b ∷ []))
      go false g = char_plain f b re g

  gap_ascending : (b d : Bool) (x y z : ℕ) → x < y → (d ≡ false → y ≤ z) → AreAscending 0 ((if b then [] else (0, x) ∷ []) ++ (if d then [] else (y, z) ∷ []))
  gap_ascending true true x y z l h = tt
  gap_ascending true false x y z l h = (omega arith, h refl, tt)
  gap_ascending false true x y z l h = (omega arith, omega arith, tt)
  gap_ascending false false x y z l h = (omega arith, omega arith, (omega (arith, l), h refl, tt))

  no_code : (c d : ℕ) → c < d → (c == d) ≡ false
  no_code c d l = false_from_ne_true (c == d) (λ e. absurd (let h = eqb-true c d e in omega (arith, l, h)))

  chars_ascending : (c : ℕ) → c < 128 → AreAscending 0 (chars_except c)
  chars_ascending c l = gap_ascending (c == 0) (c == 0x10FFFF) (char_before c) (char_after c) 0x10FFFF
      (rw (no_code c 0xE000 (omega (arith, l))) (rw (no_code c 0xD7FF (omega (arith, l))) (omega arith)))
      (λ _. rw (no_code c 0xD7FF (omega (arith, l))) (omega (arith, l)))

  bytes_ascending : (b : ℕ) → b < 256 → AreAscending 0 (bytes_except b)
  bytes_ascending b l = gap_ascending (b == 0) (b == 255) (b - 1) (b + 1) 255 (omega arith) (λ e. let n = eqb-false b 255 e in omega (arith, l, n))

  pub dot_plain : (f : Flags) → s.line_terminator < 256 → has_dot s f ≡ true → Plain (dot_of (dot_kind s f))
  dot_plain f byte h = go f.dot_matches_new_line f.crlf f.unicode h
    where
      go : (d r u : Bool) → (if u then d || r || nat_lt s.line_terminator 128 else not s.utf8) ≡ true →
          Plain (dot_of (if d then (if u then AnyChar else AnyByte) else if r then (if u then AnyCharExceptCRLF else AnyByteExceptCRLF)
          else (if u then AnyCharExcept s.line_terminator else AnyByteExcept s.line_terminator)))
      go true r true h = ((omega arith, omega arith, tt), omega arith, tt, refl)
      go true r false h = ((omega arith, omega arith, tt), omega arith, tt, refl)
      go false true true h = ((omega arith, omega arith, (omega arith, omega arith, (omega arith, omega arith, tt))), omega arith, tt, refl)
      go false true false h = ((omega arith, omega arith, (omega arith, omega arith, (omega arith, omega arith, tt))), omega arith, tt, refl)
      go false false true h = (chars_ascending s.line_terminator (ltb-true s.line_terminator 128 h), omega arith, tt, refl)
      go false false false h = (bytes_ascending s.line_terminator byte, omega arith, tt, refl)

  leaf_fit : (o : Option Re) (p : Subpattern) → ((re : Re) → o ≡ Some re → Plain re) → (o >>= λ re. Some (leaf re)) ≡ Some p → Fit 1 p × (groups p.re ≡ [])
  leaf_fit o p plain e =
      let (re, is, same) = some_parts o (λ re. Some (leaf re)) p e in
      subst (λ (p : Subpattern). Fit 1 p × (groups p.re ≡ [])) (same_Some (leaf re) p same) (plain_fit re (plain re is), (plain re is).3)

  pub sense_fit : (f : Flags) (k : sense.Sense) (p : Subpattern) → s.line_terminator < 256 → sense_part s f k ≡ Some p → Fit 1 p × (groups p.re ≡ [])
  sense_fit f (sense.Character c) p l e = leaf_fit (char_re s f c) p (λ re h. char_plain f c re h) e
  sense_fit f (sense.Byte b) p l e = leaf_fit (byte_re s f b) p (λ re h. byte_plain f b re h) e
  sense_fit f sense.Dot p l e =
      let (ok, same) = guard_parts (has_dot s f) (Some (leaf (dot_of (dot_kind s f)))) p e in
      let plain = dot_plain f l ok in
      subst (λ (p : Subpattern). Fit 1 p × (groups p.re ≡ [])) (same_Some (leaf (dot_of (dot_kind s f))) p same) (plain_fit (dot_of (dot_kind s f)) plain, plain.3)
  sense_fit f (sense.PerlClass q) p l e = leaf_fit (set_re s f (perl_ranges f.unicode q)) p (λ re h. set_plain f (perl_ranges f.unicode q) re (perl_ascending f.unicode q) h) e
  sense_fit f (sense.Asserts a) p l e =
      subst (λ (p : Subpattern). Fit 1 p × (groups p.re ≡ [])) (same_Some (leaf (look (look_of f a))) p e) (plain_fit (look (look_of f a)) (tt, omega arith, tt, refl), refl)
  sense_fit f (sense.Members negated bracket ms) p l e =
      let (rs, are, next) = some_parts (list_ranges f.unicode bracket ms) _ p e in
      let (re, is, deep) = some_parts (set_re s f (class_of f.unicode f.case_insensitive negated rs)) (λ re. deeper s re 0) p next in
      let plain = set_plain f (class_of f.unicode f.case_insensitive negated rs) re (class_ascending f.unicode f.case_insensitive negated rs (list_codes f.unicode bracket ms rs are)) is in
      let (fit, same) = deeper_fit 1 1 re 0 p (omega arith) (plain_fit re plain).fine deep in
      (fit, ap groups same ∙ plain.3)

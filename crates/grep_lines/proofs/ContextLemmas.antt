-- Only proofs use this file.
-- What is printed of lines, step by step.
use Rattle.std.proofs.Common.{ℕ, zero, suc, ◌≡◌, ◌<◌, ◌≤◌, ◌+◌, ◌-◌, ◌∙◌, ◌++◌, ◌∷◌, [], ◌&&◌, ◌||◌, ◌⊎◌, inl, inr, Bool, false, true, List, Option, Some, None, cond, ap, ap₂, append_assoc, arith, refl, sym, subst, length, length-append, map, nat_lt, take}
use Rattle.std.specs.List.{list_any}
use Rattle.std.proofs.lemmas.Bool.{and_right, cases_lt, le-ltb, lt-ltb, or_from, or_left, or_parts}
use Rattle.std.proofs.lemmas.List.{append-nil}
use Rattle.std.proofs.lemmas.List.Folds.{list_any-append}
use Rattle.grep_lines.specs.Context.{Marked, Part, Prints, Shown, gap, is_selected, line_of, marked, separated, shown, size_of}
use Rattle.std.specs.Prelude.{Vec}
use Rattle.std.specs.declared.alloc.Global.{Global}
use Rattle.grep_lines.specs.Ahead.{ahead_of, contents, later, left_behind, plain}
use Rattle.grep_lines.specs.declared.context.Extent.{Extent}

-- ---- what was printed

pub prints_none : (o : Option (List Part)) → Prints o o []
prints_none None = tt
prints_none (Some xs) = ap Some (sym (append-nil xs))

pub prints_both : (a b c : Option (List Part)) (xs ys : List Part) → Prints a b xs → Prints b c ys → Prints a c (xs ++ ys)
prints_both None b c xs ys p q = tt
prints_both (Some zs) b c xs ys p q = subst (λ o. Prints o c ys) p q ∙ ap Some (append_assoc zs xs ys)

-- ---- lines of which none is selected

any_take : (n : ℕ) (ms : List Marked) → list_any is_selected ms ≡ false → list_any is_selected (take n ms) ≡ false
any_take zero ms none = refl
any_take (suc n) [] none = refl
any_take (suc n) (m ∷ ms) none =
    let parts = or_parts m.selected (list_any is_selected ms) none in
    or_from m.selected (list_any is_selected (take n ms)) parts.0 (any_take n ms parts.1)

pub marked_none : (picks : ℕ → List ℕ → Bool) (p : ℕ) (ls : List (List ℕ)) → list_any is_selected (marked picks 0 p ls) ≡ false
marked_none picks p [] = refl
marked_none picks p (l ∷ ls) =
    let no : (picks p l && false) ≡ false = and_right (picks p l) false refl in
    or_from (picks p l && false) (list_any is_selected (marked picks (cond (picks p l && false) 0 0) (p + length l + 1) ls)) no
    (subst (λ k. list_any is_selected (marked picks k (p + length l + 1) ls) ≡ false) (sym (ap (λ b. cond b 0 0) no)) (marked_none picks (p + length l + 1) ls))

-- where a test looks at the line alone, places don't matter
pub marked_anywhere : (picks : List ℕ → Bool) (most p q : ℕ) (ls : List (List ℕ)) → marked (λ _. picks) most p ls ≡ marked (λ _. picks) most q ls
marked_anywhere picks most p q [] = refl
marked_anywhere picks most p q (l ∷ ls) =
    let passes = picks l && nat_lt 0 most in
    ap (λ (ms : List Marked). record { line = l; selected = passes } ∷ ms)
    (marked_anywhere picks (cond passes (most - 1) most) (p + length l + 1) (q + length l + 1) ls)

plains_none : (ls : List (List ℕ)) → list_any is_selected (map plain ls) ≡ false
plains_none [] = refl
plains_none (l ∷ ls) = plains_none ls

pub kept_none : (ls : List (List ℕ)) (ms : List Marked) → list_any is_selected ms ≡ false → list_any is_selected (map plain ls ++ ms) ≡ false
kept_none ls ms none = list_any-append is_selected (map plain ls) ms ∙ or_from (list_any is_selected (map plain ls)) (list_any is_selected ms) (plains_none ls) none

none_within : (n : ℕ) (ls : List (List ℕ)) (rest : List Marked) → length ls ≡ n → list_any is_selected (take n (map plain ls ++ rest)) ≡ false
none_within zero ls rest e = refl
none_within (suc n) [] rest e = absurd (omega (arith, e))
none_within (suc n) (l ∷ ls) rest e = none_within n ls rest (omega (arith, e))

none_before : (n : ℕ) (ls ks : List (List ℕ)) (rest : List Marked) → n ≤ length ks → list_any is_selected (take n (map plain ls ++ (map plain ks ++ rest))) ≡ false
none_before zero ls ks rest few = refl
none_before (suc n) [] [] rest few = absurd (omega (arith, few))
none_before (suc n) [] (k ∷ ks) rest few = none_before n [] ks rest (omega (arith, few))
none_before (suc n) (l ∷ ls) ks rest few = none_before n ls ks rest (omega (arith, few))

plains_both : (ks ls : List (List ℕ)) (rest : List Marked) → map plain ks ++ (map plain ls ++ rest) ≡ map plain (ks ++ ls) ++ rest
plains_both [] ls rest = refl
plains_both (k ∷ ks) ls rest = ap (λ ms. plain k ∷ ms) (plains_both ks ls rest)

size_both : (ks ls : List (List ℕ)) → size_of (map plain (ks ++ ls)) ≡ size_of (map plain ks) + size_of (map plain ls)
size_both [] ls = omega arith
size_both (k ∷ ks) ls = ap (λ n. length k + 1 + n) (size_both ks ls) ∙ omega arith

one_within : (n : ℕ) (ls : List (List ℕ)) (m : Marked) (rest : List Marked) → length ls < n → m.selected ≡ true →
    list_any is_selected (take n (map plain ls ++ m ∷ rest)) ≡ true
one_within zero ls m rest lt h = absurd (omega (arith, lt))
one_within (suc n) [] m rest lt h = or_left m.selected (list_any is_selected (take n rest)) h
one_within (suc n) (l ∷ ls) m rest lt h = one_within n ls m rest (omega (arith, lt)) h

-- ---- a line behind others

lt_before : (k x : ℕ) → (k + 1 < x) ⊎ (x ≤ k + 1) → nat_lt k (x - 1) ≡ nat_lt (k + 1) x
lt_before k x (inl lt) = lt-ltb k (x - 1) (omega (arith, lt)) ∙ sym (lt-ltb (k + 1) x lt)
lt_before k x (inr le) = le-ltb k (x - 1) (omega (arith, le)) ∙ sym (le-ltb (k + 1) x le)

module _ (e : Extent) where
  abbrev item : ℕ → ℕ → Marked → Shown
  item n p m = record { number = n; place = p; selected = m.selected; line = m.line }

  abbrev is_next : ℕ → Marked → List Marked → Bool
  is_next left m rest = m.selected || (nat_lt 0 left || list_any is_selected (take e.before rest))

  pub later_yes : (left n p : ℕ) (m : Marked) (rest : List Marked) → is_next left m rest ≡ true →
      later e left n p (m ∷ rest) ≡ item n p m ∷ later e (left_behind e m left) (n + 1) (p + length m.line + 1) rest
  later_yes left n p m rest h =
      let behind = later e (left_behind e m left) (n + 1) (p + length m.line + 1) rest in
      ap (λ b. cond b (item n p m ∷ behind) behind) h

  pub later_no : (left n p : ℕ) (m : Marked) (rest : List Marked) → is_next left m rest ≡ false →
      later e left n p (m ∷ rest) ≡ later e (left_behind e m left) (n + 1) (p + length m.line + 1) rest
  later_no left n p m rest h =
      let behind = later e (left_behind e m left) (n + 1) (p + length m.line + 1) rest in
      ap (λ b. cond b (item n p m ∷ behind) behind) h

  -- nothing is printed of lines of which none is selected
  pub later_none : (n p : ℕ) (ms : List Marked) → list_any is_selected ms ≡ false → later e 0 n p ms ≡ []
  later_none n p [] none = refl
  later_none n p (m ∷ ms) none =
      let parts = or_parts m.selected (list_any is_selected ms) none in
      let place = p + length m.line + 1 in
      later_no 0 n p m ms (or_from m.selected (list_any is_selected (take e.before ms)) parts.0 (any_take e.before ms parts.1))
      ∙ ap (λ b. later e (cond b e.after 0) (n + 1) place ms) parts.0 ∙ later_none (n + 1) place ms parts.1

  -- the oldest line that is kept isn't context
  pub later_dropped : (n p : ℕ) (l : List ℕ) (ls : List (List ℕ)) (rest : List Marked) → length ls ≡ e.before →
      later e 0 n p (plain l ∷ (map plain ls ++ rest)) ≡ later e 0 (n + 1) (p + length l + 1) (map plain ls ++ rest)
  later_dropped n p l ls rest size = later_no 0 n p (plain l) (map plain ls ++ rest) (none_within e.before ls rest size)

  -- before a selected line it is
  pub later_kept : (n p : ℕ) (l : List ℕ) (ls : List (List ℕ)) (m : Marked) (rest : List Marked) → length ls < e.before → m.selected ≡ true →
      later e 0 n p (plain l ∷ (map plain ls ++ m ∷ rest)) ≡ item n p (plain l) ∷ later e 0 (n + 1) (p + length l + 1) (map plain ls ++ m ∷ rest)
  later_kept n p l ls m rest size h = later_yes 0 n p (plain l) (map plain ls ++ m ∷ rest) (one_within e.before ls m rest size h)

  -- lines aren't, if as many as may be context follow of which none is selected
  later_skipped : (n p : ℕ) (ls ks : List (List ℕ)) (rest : List Marked) → e.before ≤ length ks →
      later e 0 n p (map plain ls ++ (map plain ks ++ rest)) ≡ later e 0 (n + length ls) (p + size_of (map plain ls)) (map plain ks ++ rest)
  later_skipped n p [] ks rest few = ap₂ (λ i j. later e 0 i j (map plain ks ++ rest)) (omega arith) (omega arith)
  later_skipped n p (l ∷ ls) ks rest few =
      later_no 0 n p (plain l) (map plain ls ++ (map plain ks ++ rest)) (none_before e.before ls ks rest few)
      ∙ later_skipped (n + 1) (p + length l + 1) ls ks rest few
      ∙ ap₂ (λ i j. later e 0 i j (map plain ks ++ rest)) (omega arith) (omega arith)

  -- the lines that are context of the last selected line
  left_of : List Marked → ℕ
  left_of [] = 0
  left_of (m ∷ seen) = left_behind e m (left_of seen)

  seen_any : (seen : List Marked) (n k : ℕ) → n ≡ e.after - k → list_any is_selected (take n seen) ≡ nat_lt k (left_of seen)
  unfolding left_of
  seen_any [] zero k is = sym (le-ltb k 0 (omega arith))
  seen_any [] (suc n) k is = sym (le-ltb k 0 (omega arith))
  seen_any (m ∷ seen) n k is = at (λ n' k'. seen_any seen n' k') m.selected refl n is
    where
      at : ((n' k' : ℕ) → n' ≡ e.after - k' → list_any is_selected (take n' seen) ≡ nat_lt k' (left_of seen)) → (b : Bool) → m.selected ≡ b →
          (n : ℕ) → n ≡ e.after - k → list_any is_selected (take n (m ∷ seen)) ≡ nat_lt k (cond m.selected e.after (left_of seen - 1))
      at before true h zero is = sym (le-ltb k e.after (omega (arith, is))) ∙ ap (λ b. nat_lt k (cond b e.after (left_of seen - 1))) (sym h)
      at before true h (suc n) is =
          or_left m.selected (list_any is_selected (take n seen)) h ∙ sym (lt-ltb k e.after (omega (arith, is)))
          ∙ ap (λ b. nat_lt k (cond b e.after (left_of seen - 1))) (sym h)
      at before false h zero is =
          before zero (k + 1) (omega (arith, is)) ∙ sym (lt_before k (left_of seen) (cases_lt (k + 1) (left_of seen)))
          ∙ ap (λ b. nat_lt k (cond b e.after (left_of seen - 1))) (sym h)
      at before false h (suc n) is =
          ap (λ b. b || list_any is_selected (take n seen)) h
          ∙ before n (k + 1) (omega (arith, is)) ∙ sym (lt_before k (left_of seen) (cases_lt (k + 1) (left_of seen)))
          ∙ ap (λ b. nat_lt k (cond b e.after (left_of seen - 1))) (sym h)

  -- the lines that are printed are those that are printed later
  shown_later : (seen ms : List Marked) → shown e seen ms ≡ later e (left_of seen) (length seen + 1) (size_of seen) ms
  unfolding left_of
  shown_later seen [] = refl
  shown_later seen (m ∷ ms) =
      let next : length (m ∷ seen) + 1 ≡ length seen + 1 + 1 = omega arith in
      let place : size_of (m ∷ seen) ≡ size_of seen + length m.line + 1 = omega arith in
      ap₂ (λ (b : Bool) (r : List Shown). cond b (item (length seen + 1) (size_of seen) m ∷ r) r)
      (ap (λ b. m.selected || (b || list_any is_selected (take e.before ms))) (seen_any seen e.after 0 (omega arith)))
      (shown_later (m ∷ seen) ms ∙ ap₂ (λ n p. later e (left_behind e m (left_of seen)) n p ms) next place)

  pub shown_all : (ms : List Marked) → shown e [] ms ≡ later e 0 1 0 ms
  unfolding left_of
  shown_all ms = shown_later [] ms

-- a line is put behind its separator
pub put_line : (behind : Option ℕ) (s : Shown) (rest : List Shown) →
    separated behind (s ∷ rest) ≡ (gap behind s.number ++ line_of s ∷ []) ++ separated (Some (s.number + 1)) rest
put_line behind s rest = sym (append_assoc (gap behind s.number) (line_of s ∷ []) (separated (Some (s.number + 1)) rest))

-- ---- lines in buffers

pub contents_length : (vs : List (Vec ℕ Global)) → length (contents vs) ≡ length vs
contents_length [] = refl
contents_length (v ∷ vs) = ap suc (contents_length vs)

pub contents_more : (vs : List (Vec ℕ Global)) (v : Vec ℕ Global) → contents (vs ++ v ∷ []) ≡ contents vs ++ v.items ∷ []
contents_more [] v = refl
contents_more (w ∷ vs) v = ap (λ ls. w.items ∷ ls) (contents_more vs v)

plain_more : (ls : List (List ℕ)) (l : List ℕ) (rest : List Marked) → map plain (ls ++ l ∷ []) ++ rest ≡ map plain ls ++ plain l ∷ rest
plain_more [] l rest = refl
plain_more (k ∷ ls) l rest = ap (λ ms. plain k ∷ ms) (plain_more ls l rest)

-- ---- what is to be printed yet

module _ (e : Extent) (behind : Option ℕ) where
  -- a selected line is printed
  pub ahead_selected : (left n p : ℕ) (line : List ℕ) (rest : List Marked) →
      ahead_of e behind left n p [] (record { line = line; selected = true } ∷ rest)
      ≡ (gap behind n ++ line_of (record { number = n; place = p; selected = true; line = line }) ∷ [])
      ++ ahead_of e (Some (n + 1)) e.after (n + 1) (p + length line + 1) [] rest
  ahead_selected left n p line rest =
      let m : Marked = record { line = line; selected = true } in
      ap (separated behind) (later_yes e left n p m rest refl) ∙ put_line behind (item e n p m) (later e e.after (n + 1) (p + length line + 1) rest)

  -- a line of context is
  pub ahead_context : (left n p : ℕ) (line : List ℕ) (rest : List Marked) → 0 < left →
      ahead_of e behind left n p [] (plain line ∷ rest)
      ≡ (gap behind n ++ line_of (record { number = n; place = p; selected = false; line = line }) ∷ [])
      ++ ahead_of e (Some (n + 1)) (left - 1) (n + 1) (p + length line + 1) [] rest
  ahead_context left n p line rest some =
      ap (separated behind) (later_yes e left n p (plain line) rest (ap (λ b. b || list_any is_selected (take e.before rest)) (lt-ltb 0 left some)))
      ∙ put_line behind (item e n p (plain line)) (later e (left - 1) (n + 1) (p + length line + 1) rest)

  -- a kept line is, before a selected one
  pub ahead_kept : (n p : ℕ) (l : List ℕ) (ls : List (List ℕ)) (m : Marked) (rest : List Marked) → length ls < e.before → m.selected ≡ true →
      ahead_of e behind 0 n p (l ∷ ls) (m ∷ rest)
      ≡ (gap behind n ++ line_of (record { number = n; place = p; selected = false; line = l }) ∷ [])
      ++ ahead_of e (Some (n + 1)) 0 (n + 1) (p + length l + 1) ls (m ∷ rest)
  ahead_kept n p l ls m rest size h =
      ap (separated behind) (later_kept e n p l ls m rest size h)
      ∙ put_line behind (item e n p (plain l)) (later e 0 (n + 1) (p + length l + 1) (map plain ls ++ m ∷ rest))

  -- a line more is kept
  pub ahead_more : (left n p : ℕ) (ls : List (List ℕ)) (l : List ℕ) (rest : List Marked) →
      ahead_of e behind left n p ls (plain l ∷ rest) ≡ ahead_of e behind left n p (ls ++ l ∷ []) rest
  ahead_more left n p ls l rest = ap (λ ms. separated behind (later e left n p ms)) (sym (plain_more ls l rest))

  -- a line is kept, and the oldest one isn't any more
  pub ahead_dropped : (left n p : ℕ) (kept popped : List (Vec ℕ Global)) (v oldest : Vec ℕ Global) (rest : List Marked) → left ≡ 0 →
      kept ++ v ∷ [] ≡ oldest ∷ popped → length kept ≤ e.before → e.before < length (oldest ∷ popped) →
      ahead_of e behind left n p (contents kept) (plain v.items ∷ rest)
      ≡ ahead_of e behind left (n + 1) (p + length oldest.items + 1) (contents popped) rest
  ahead_dropped left n p kept popped v oldest rest none is few many =
      let Goal : ℕ → Type 0 = λ k. ahead_of e behind k n p (contents kept) (plain v.items ∷ rest)
      ≡ ahead_of e behind k (n + 1) (p + length oldest.items + 1) (contents popped) rest in
      let size : length (contents popped) ≡ e.before = omega (arith, contents_length popped, ap length is, length-append kept (v ∷ []), few, many) in
      subst Goal (sym none)
      (ahead_more 0 n p (contents kept) v.items rest ∙ ap (λ ls. ahead_of e behind 0 n p ls rest) (sym (contents_more kept v) ∙ ap contents is)
      ∙ ap (separated behind) (later_dropped e n p oldest.items (contents popped) rest size))

  -- the last lines are kept, and the others aren't
  pub ahead_skipped : (n p : ℕ) (kept ls ks : List (List ℕ)) (rest : List Marked) → e.before ≤ length ks →
      ahead_of e behind 0 n p kept (map plain ls ++ (map plain ks ++ rest))
      ≡ ahead_of e behind 0 (n + length kept + length ls) (p + size_of (map plain kept) + size_of (map plain ls)) ks rest
  ahead_skipped n p kept ls ks rest few =
      ap (separated behind)
      (ap (later e 0 n p) (plains_both kept ls (map plain ks ++ rest)) ∙ later_skipped e n p (kept ++ ls) ks rest few
      ∙ ap₂ (λ i j. later e 0 i j (map plain ks ++ rest)) (omega (arith, length-append kept ls)) (omega (arith, size_both kept ls)))

  -- nothing is printed any more
  pub ahead_none : (n p : ℕ) (ls : List (List ℕ)) (ms : List Marked) → list_any is_selected ms ≡ false → ahead_of e behind 0 n p ls ms ≡ []
  ahead_none n p ls ms none = ap (separated behind) (later_none e n p (map plain ls ++ ms) (kept_none ls ms none))

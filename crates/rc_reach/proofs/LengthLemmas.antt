-- No trail of a program reads more bytes than the greatest length of its patterns.
use Rattle.std.proofs.Common.{◌≡◌, ℕ, zero, suc, ◌+◌, ◌-◌, ◌*◌, ◌<◌, ◌≤◌, ◌⊎◌, Bool, true, false, IsTrue, List, [], ◌∷◌, ◌++◌, length, map, max, Option, Some, None, if◌then◌else◌, inl, inr, ⊎_elim, sym, subst, ap, ◌∙◌, refl, arith, append_assoc, length-append, nat_le}
use Rattle.std.specs.Prelude.{All, option_and_then}
use Rattle.std.specs.List.{slice_get}
use Rattle.std.specs.Char.{encode_utf8, IsScalar}
use Rattle.std.proofs.lemmas.Bool.{cases_Bool}
use Rattle.std.proofs.lemmas.List.Elements.{All-head, All-tail}
use Rattle.std.proofs.lemmas.Option.{none-some, same_Some}
use Rattle.rc_pattern.specs.Re.{Re, Range, empty, literal, byte_in, char_in, look, repeat, capture, cat, alt, none}
use Rattle.rc_pattern.specs.Properties.{greatest_usize, capped, both, maximum_len}
use Rattle.rc_pattern.specs.WellFormed.{HasBounds, group_count}
use Rattle.rc_pattern.specs.declared.hir.Look.{Look}
use Rattle.rc_walks.specs.Walks.{Pair, IsIn, EndsAt}
use Rattle.rc_walks.proofs.CutLemmas.{Leads, stays, steps, leads_along}
use Rattle.rc_trails.specs.Trails.{IsTrail}
use Rattle.rc_program.specs.Text.{Text, holds, ahead}
use Rattle.rc_program.specs.Scalars.{scalar_at}
use Rattle.rc_program.specs.Spells.{Stands}
use Rattle.rc_program.specs.Program.{Place, choice, byte, scalar, guard, slot, accept, Way, stays as Stays, reads, in_ranges, over_byte, over_scalar, pair_at, place_at, ways, Part, one, pass, dead, then_part, either, optional, copies, up_to, body_or_out, bytes_in_order, part, pattern_part, choice_of_patterns, program}
use Rattle.rc_program.proofs.SideLemmas.{scalar_law}
use Rattle.rc_program.proofs.PropertyLemmas.{property_law}
use Rattle.rc_program.proofs.PlaceLemmas.{part_sized, pattern_sized}
use Rattle.rc_program.proofs.PartLemmas.{Stand, Stand-left, Stand-right, Stand-first, Stand-second, ways_of, at_place}
use Rattle.rc_program.proofs.WholeLemmas.{stand_all, pattern_stands, pattern_ends}

-- each of the patterns has a greatest length, which is at most n
abbrev pub AreShort : ℕ → List Re → Type 0
AreShort n hs = All (λ h. (k : ℕ) × (maximum_len h ≡ Some k) × (k ≤ n)) hs

-- ---- numbers that are there

pub both_are : (f : ℕ → ℕ → Option ℕ) (o p : Option ℕ) (n : ℕ) → both f o p ≡ Some n →
    (x y : ℕ) × (o ≡ Some x) × (p ≡ Some y) × (f x y ≡ Some n)
both_are f None p n e = absurd (none-some n e)
both_are f (Some x) None n e = absurd (none-some n e)
both_are f (Some x) (Some y) n e = (x, y, refl, refl, e)

is_there : (f : ℕ → Option ℕ) (o : Option ℕ) (n : ℕ) → option_and_then f o ≡ Some n → (k : ℕ) × (o ≡ Some k) × (f k ≡ Some n)
is_there f None n e = absurd (none-some n e)
is_there f (Some k) n e = (k, refl, e)

capped_same : (x n : ℕ) → capped x ≡ Some n → x ≡ n
capped_same x n e = ⊎_elim (λ t. same_Some x n (rw t at e)) (λ f. absurd (none-some n (rw f at e))) (cases_Bool (nat_le x greatest_usize))

-- ---- the longest scalar of a class

byte_after : (before bs : List ℕ) (b : ℕ) → slice_get (before ++ b ∷ bs) (length before) ≡ Some b
byte_after [] bs b = refl
byte_after (x ∷ xs) bs b = byte_after xs bs b

stands_after : (before bs : List ℕ) → Stands (before ++ bs) bs (length before) (length before + length bs)
stands_after before [] = omega arith
stands_after before (b ∷ bs) =
    let n : length (before ++ b ∷ []) ≡ length before + 1 = length-append before (b ∷ []) in
    let m : length (before ++ b ∷ []) + length bs ≡ length before + suc (length bs) = omega (arith, n) in (
      byte_after before bs b,
      subst (λ k. Stands (before ++ b ∷ bs) bs k (length before + suc (length bs))) n
          (subst (λ k. Stands (before ++ b ∷ bs) bs (length (before ++ b ∷ [])) k) m
          (subst (λ xs. Stands xs bs (length (before ++ b ∷ [])) (length (before ++ b ∷ []) + length bs)) (append_assoc before (b ∷ []) bs)
          (stands_after (before ++ b ∷ []) bs))),
    )

scalar_short : (rs : List Range) (c n : ℕ) → IsScalar c → IsTrue (in_ranges rs c) → maximum_len (char_in rs) ≡ Some n → length (encode_utf8 c) ≤ n
scalar_short rs c n is within e =
    let t : Text = record { content = encode_utf8 c; slice_start = 0; slice_end = 0; terminator = 0 } in
    let sum : 0 + length (encode_utf8 c) ≡ length (encode_utf8 c) = omega arith in
    let there : Stands (encode_utf8 c) (encode_utf8 c) 0 (length (encode_utf8 c)) =
    subst (λ k. Stands (encode_utf8 c) (encode_utf8 c) 0 k) sum (stands_after [] (encode_utf8 c)) in
    let l = property_law.greatest t (char_in rs) 0 (length (encode_utf8 c)) n (c, is, within, there) e in omega (arith, l)

-- ---- paths through parts

module _ (t : Text) (hi : ℕ) where
  -- the path leaves the part within n bytes, and a shorter one leads on
  pub record Goes (prog : List Place) (next n len i : ℕ) (e : Pair) : Type 0 where
    pub at : ℕ
    pub near : at ≤ i + n
    pub left : ℕ
    pub less : left < len
    pub leads : Leads (ways prog t hi) left (next, at) e

  -- each path that begins where the part does ends within n bytes, or leaves it within n bytes
  abbrev pub IsShort : Part → ℕ → Type 0
  IsShort a n = (prog : List Place) (slots start next : ℕ) → Stand prog start (a.places slots start next) →
      (len i : ℕ) (e : Pair) → Leads (ways prog t hi) len (start, i) e → (e.1 ≤ i + n) ⊎ Goes prog next n len i e

  abbrev IsSized : Part → Type 0
  IsSized a = (slots start next : ℕ) → length (a.places slots start next) ≡ a.size

  more : (a : Part) (m n : ℕ) → m ≤ n → IsShort a m → IsShort a n
  more a m n h x prog slots start next st len i e l =
      ⊎_elim (λ near. inl (omega (arith, near, h)))
      (λ u. inr (record { at = u.at; near = let z = u.near in omega (arith, z, h); left = u.left; less = u.less; leads = u.leads }))
      (x prog slots start next st len i e l)

  one_short : (place : ℕ → ℕ → Place) (n : ℕ) →
      ((slots next i : ℕ) (m : Pair) → IsIn m (ways_of t hi (place slots next) i) → (j : ℕ) × ((next, j) ≡ m) × (j ≤ i + n)) → IsShort (one place) n
  one_short place n back prog slots start next st len i e l = go st l
    where
      go : Stand prog start (place slots next ∷ []) → {len i : ℕ} {e : Pair} → Leads (ways prog t hi) len (start, i) e →
          (e.1 ≤ i + n) ⊎ Goes prog next n len i e
      go st (stays k) = inl (omega arith)
      go st {i = i} (steps {len = len} k m e h l) =
          let b = back slots next i m (at_place t hi prog start _ st.0 i m h) in
          inr (record { at = b.0; near = b.2; left = len; less = omega arith; leads = subst (λ x. Leads (ways prog t hi) len x e) (sym b.1) l })

  then_short : (a b : Part) (m n : ℕ) → IsSized a → IsShort a m → IsShort b n → IsShort (then_part a b) (m + n)
  then_short a b m n sized x y prog slots start next st len i e l =
      let before = Stand-left prog start (a.places slots start (start + a.size)) (b.places slots (start + a.size) next) st in
      let behind = subst (λ k. Stand prog (start + k) (b.places slots (start + a.size) next)) (sized slots start (start + a.size))
      (Stand-right prog start (a.places slots start (start + a.size)) (b.places slots (start + a.size) next) st) in
      ⊎_elim (λ near. inl (omega (arith, near)))
      (λ u. let un = u.near in let ul = u.less in
      ⊎_elim (λ near. inl (omega (arith, near, un)))
      (λ v. let vn = v.near in let vl = v.less in
      inr (record { at = v.at; near = omega (arith, un, vn); left = v.left; less = omega (arith, ul, vl); leads = v.leads }))
      (y prog slots (start + a.size) next behind u.left u.at e u.leads))
      (x prog slots start (start + a.size) before len i e l)

  -- a step more
  further_goes : (prog : List Place) (next n len i : ℕ) (e : Pair) → Goes prog next n len i e → Goes prog next n (suc len) i e
  further_goes prog next n len i e u = record { at = u.at; near = u.near; left = u.left; less = let l = u.less in omega (arith, l); leads = u.leads }

  either_short : (a b : Part) (n : ℕ) → IsSized a → IsShort a n → IsShort b n → IsShort (either a b) n
  either_short a b n sized x y prog slots start next st len i e l = go l
    where
      go : {len i : ℕ} {e : Pair} → Leads (ways prog t hi) len (start, i) e → (e.1 ≤ i + n) ⊎ Goes prog next n len i e
      go (stays k) = inl (omega arith)
      go {i = i} (steps {len = len} k m e h l) =
          ⊎_elim
          (λ q. ⊎_elim (λ near. inl near) (λ u. inr (further_goes prog next n len i e u))
          (x prog slots (start + 1) next (Stand-first prog a b slots start next st) len i e (subst (λ z. Leads (ways prog t hi) len z e) (sym q) l)))
          (λ o. ⊎_elim
          (λ q. ⊎_elim (λ near. inl near) (λ u. inr (further_goes prog next n len i e u))
          (y prog slots (start + 1 + a.size) next (Stand-second prog a b slots start next (sized slots (start + 1) next) st) len i e
          (subst (λ z. Leads (ways prog t hi) len z e) (sym q) l)))
          (λ never. absurd never) o)
          (at_place t hi prog start _ st.0 i m h)

  body_or_out_ways : (greedy : Bool) (body out i : ℕ) (m : Pair) → IsIn m (ways_of t hi (body_or_out greedy body out) i) →
      ((body, i) ≡ m) ⊎ ((out, i) ≡ m)
  body_or_out_ways true body out i m h = ⊎_elim (λ e. inl e) (λ q. ⊎_elim (λ e. inr e) (λ never. absurd never) q) h
  body_or_out_ways false body out i m h = ⊎_elim (λ e. inr e) (λ q. ⊎_elim (λ e. inl e) (λ never. absurd never) q) h

  optional_short : (greedy : Bool) (a : Part) (n : ℕ) → IsShort a n → IsShort (optional greedy a) n
  optional_short greedy a n x prog slots start next st len i e l = go l
    where
      inner : Stand prog (start + 1) (a.places slots (start + 1) next)
      inner = let k : suc start ≡ start + 1 = omega arith in subst (λ s. Stand prog s (a.places slots (start + 1) next)) k st.1

      go : {len i : ℕ} {e : Pair} → Leads (ways prog t hi) len (start, i) e → (e.1 ≤ i + n) ⊎ Goes prog next n len i e
      go (stays k) = inl (omega arith)
      go {i = i} (steps {len = len} k m e h l) =
          ⊎_elim
          (λ q. ⊎_elim (λ near. inl near) (λ u. inr (further_goes prog next n len i e u))
          (x prog slots (start + 1) next inner len i e (subst (λ z. Leads (ways prog t hi) len z e) (sym q) l)))
          (λ q. inr (record { at = i; near = omega arith; left = len; less = omega arith; leads = subst (λ z. Leads (ways prog t hi) len z e) (sym q) l }))
          (body_or_out_ways greedy (start + 1) next i m (at_place t hi prog start _ st.0 i m h))

  pass_short : IsShort pass 0
  pass_short = one_short (λ slots next. choice (next ∷ [])) 0 (λ slots next i m h. ⊎_elim (λ e. (i, e, omega arith)) (λ never. absurd never) h)

  copies_short : (k : ℕ) (a b : Part) (m n : ℕ) → IsSized a → IsShort a m → IsShort b n → IsShort (copies k a b) (k * m + n)
  copies_short zero a b m n sized x y = more b n (0 * m + n) (omega arith) y
  copies_short (suc k) a b m n sized x y =
      more (then_part a (copies k a b)) (m + (k * m + n)) (suc k * m + n) (let e : suc k * m ≡ m + k * m = omega arith in omega (arith, e))
      (then_short a (copies k a b) m (k * m + n) sized x (copies_short k a b m n sized x y))

  up_to_short : (greedy : Bool) (k : ℕ) (a : Part) (m : ℕ) → IsSized a → IsShort a m → IsShort (up_to greedy k a) (k * m)
  up_to_short greedy zero a m sized x = more pass 0 (0 * m) (omega arith) pass_short
  up_to_short greedy (suc k) a m sized x =
      more (optional greedy (then_part a (up_to greedy k a))) (m + k * m) (suc k * m) (let e : suc k * m ≡ m + k * m = omega arith in omega (arith, e))
      (optional_short greedy (then_part a (up_to greedy k a)) (m + k * m)
      (then_short a (up_to greedy k a) m (k * m) sized x (up_to_short greedy k a m sized x)))

  way_in : (b : Bool) (w : Way) (i : ℕ) (m : Pair) → IsIn m (map (pair_at i) (if b then w ∷ [] else [])) → (b ≡ true) × (pair_at i w ≡ m)
  way_in true w i m h = ⊎_elim (λ e. (refl, e)) (λ never. absurd never) h
  way_in false w i m h = absurd h

  byte_short : (rs : List Range) → IsShort (one (λ slots. byte rs)) 1
  byte_short rs = one_short (λ slots. byte rs) 1 (λ slots next i m h. go next i m (ahead t hi i) h)
    where
      go : (next i : ℕ) (m : Pair) (xs : List ℕ) → IsIn m (map (pair_at i) (over_byte (λ b. if in_ranges rs b then reads 1 next ∷ [] else []) xs)) →
          (j : ℕ) × ((next, j) ≡ m) × (j ≤ i + 1)
      go next i m [] h = absurd h
      go next i m (b ∷ xs) h = (i + 1, (way_in (in_ranges rs b) (reads 1 next) i m h).1, omega arith)

  scalar_is_short : (rs : List Range) (n : ℕ) → maximum_len (char_in rs) ≡ Some n → IsShort (one (λ slots. scalar rs)) n
  scalar_is_short rs n e = one_short (λ slots. scalar rs) n (λ slots next i m h. go next i m (scalar_at (ahead t hi i)) refl h)
    where
      go : (next i : ℕ) (m : Pair) (o : Option (ℕ × ℕ)) → scalar_at (ahead t hi i) ≡ o → IsIn m (map (pair_at i) (over_scalar rs next o)) →
          (j : ℕ) × ((next, j) ≡ m) × (j ≤ i + n)
      go next i m None f h = absurd h
      go next i m (Some s) f h =
          let p = way_in (in_ranges rs s.0) (reads s.1 next) i m h in
          let b = (scalar_law.begins (ahead t hi i) s.0 s.1).0 f in
          let len = b.1 in
          let l = scalar_short rs s.0 n b.0 p.0 e in (i + s.1, p.1, omega (arith, len, l))

  guard_short : (l : Look) → IsShort (one (λ slots. guard l)) 0
  guard_short l =
      one_short (λ slots. guard l) 0 (λ slots next i m h. (i, (way_in (holds t l i) (Stays next) i m h).1, omega arith))

  slot_short : (number : ℕ → ℕ) → IsShort (one (λ slots. slot (number slots))) 0
  slot_short number =
      one_short (λ slots. slot (number slots)) 0 (λ slots next i m h. ⊎_elim (λ e. (i, e, omega arith)) (λ never. absurd never) h)

  dead_short : IsShort dead 0
  dead_short = one_short (λ slots next. choice []) 0 (λ slots next i m h. absurd h)

  one_sized : (place : ℕ → ℕ → Place) → IsSized (one place)
  one_sized place slots start next = refl

  bytes_short : (b : ℕ) (bs : List ℕ) → IsShort (bytes_in_order b bs) (suc (length bs))
  bytes_short b [] = byte_short ((b, b) ∷ [])
  bytes_short b (c ∷ cs) =
      more (bytes_in_order b (c ∷ cs)) (1 + suc (length cs)) (suc (length (c ∷ cs))) (omega arith)
      (then_short (one (λ slots. byte ((b, b) ∷ []))) (bytes_in_order c cs) 1 (suc (length cs)) (one_sized (λ slots. byte ((b, b) ∷ [])))
      (byte_short ((b, b) ∷ [])) (bytes_short c cs))

  sized : (h : Re) → IsSized (part h)
  sized h = part_sized h

  -- the part of a pattern, by the pattern's greatest length
  part_short : (h : Re) (n : ℕ) → HasBounds h → maximum_len h ≡ Some n → IsShort (part h) n
  part_short empty n ok e = more pass 0 n (omega arith) pass_short
  part_short (literal []) n ok e = more pass 0 n (omega arith) pass_short
  part_short (literal (b ∷ bs)) n ok e =
      let f = capped_same (suc (length bs)) n e in more (bytes_in_order b bs) (suc (length bs)) n (omega (arith, f)) (bytes_short b bs)
  part_short (byte_in []) n ok e = absurd (none-some n e)
  part_short (byte_in (r ∷ rs)) n ok e = let f = same_Some 1 n e in more (one (λ slots. byte (r ∷ rs))) 1 n (omega (arith, f)) (byte_short (r ∷ rs))
  part_short (char_in rs) n ok e = scalar_is_short rs n e
  part_short (look l) n ok e = more (one (λ slots. guard l)) 0 n (omega arith) (guard_short l)
  part_short (repeat min None greedy a) n ok e = absurd (none-some n e)
  part_short (repeat min (Some most) greedy a) n ok e =
      let q = is_there (λ k. capped (most * k)) (maximum_len a) n e in
      let f = capped_same (most * q.0) n q.2 in
      let x = part_short a q.0 ok.1 q.1 in
      let split : min + (most - min) ≡ most = let le = ok.0 in omega (arith, le) in
      let sum : min * q.0 + (most - min) * q.0 ≡ most * q.0 = times min (most - min) q.0 ∙ ap (λ k. k * q.0) split in
      more (copies min (part a) (up_to greedy (most - min) (part a))) (min * q.0 + (most - min) * q.0) n (omega (arith, f, sum))
      (copies_short min (part a) (up_to greedy (most - min) (part a)) q.0 ((most - min) * q.0) (sized a) x
      (up_to_short greedy (most - min) (part a) q.0 (sized a) x))
    where
      times : (i j k : ℕ) → i * k + j * k ≡ (i + j) * k
      times i j k = omega arith
  part_short (capture m name a) n ok e =
      more (part (capture m name a)) (0 + (n + 0)) n (omega arith)
      (then_short (one (λ slots. slot (slots + 2 * (m - 1)))) (then_part (part a) (one (λ slots. slot (slots + 2 * (m - 1) + 1)))) 0 (n + 0)
      (one_sized (λ slots. slot (slots + 2 * (m - 1)))) (slot_short (λ slots. slots + 2 * (m - 1)))
      (then_short (part a) (one (λ slots. slot (slots + 2 * (m - 1) + 1))) n 0 (sized a) (part_short a n ok e)
      (slot_short (λ slots. slots + 2 * (m - 1) + 1))))
  part_short (cat a rest) n ok e =
      let q = both_are (λ m n. capped (m + n)) (maximum_len a) (maximum_len rest) n e in
      let f = capped_same (q.0 + q.1) n q.4 in
      more (then_part (part a) (part rest)) (q.0 + q.1) n (omega (arith, f))
      (then_short (part a) (part rest) q.0 q.1 (sized a) (part_short a q.0 ok.0 q.2) (part_short rest q.1 ok.1 q.3))
  part_short (alt a rest) n ok e =
      let q = both_are (λ m n. Some (max m n)) (maximum_len a) (maximum_len rest) n e in
      let f = same_Some (max q.0 q.1) n q.4 in
      either_short (part a) (part rest) n (sized a)
      (more (part a) q.0 n (omega (arith, f)) (part_short a q.0 ok.0 q.2))
      (more (part rest) q.1 n (omega (arith, f)) (part_short rest q.1 ok.1 q.3))
  part_short none n ok e = more dead 0 n (omega arith) dead_short

  -- each path that begins where the part does ends within n bytes
  abbrev StaysShort : Part → ℕ → Type 0
  StaysShort a n = (prog : List Place) (slots start next : ℕ) → Stand prog start (a.places slots start next) →
      (len i : ℕ) (e : Pair) → Leads (ways prog t hi) len (start, i) e → e.1 ≤ i + n

  pattern_short : (p s : ℕ) (h : Re) (n : ℕ) → HasBounds h → (k : ℕ) → maximum_len h ≡ Some k → k ≤ n → StaysShort (pattern_part p s h) n
  pattern_short p s h n ok k e le prog slots start next st len i end l =
      ⊎_elim (λ near. omega (arith, near, le))
      (λ u. let near = u.near in let f = over (pattern_ends prog p s h slots start next st) u.leads in omega (arith, near, f, le))
      (part_short h k ok e prog s start (start + (part h).size) (pattern_stands prog p s h slots start next st) len i end l)
    where
      over : {last : ℕ} → place_at prog last ≡ accept p → {len at : ℕ} {end : Pair} → Leads (ways prog t hi) len (last, at) end → end.1 ≤ at
      over f (stays m) = omega arith
      over {last} f {at = at} (steps m k z inside l) = absurd (at_place t hi prog last (accept p) f at k inside)

  dead_stays : (n : ℕ) → StaysShort dead n
  dead_stays n prog slots start next st len i e l = go l
    where
      go : {len i : ℕ} {e : Pair} → Leads (ways prog t hi) len (start, i) e → e.1 ≤ i + n
      go (stays k) = omega arith
      go {i = i} (steps k m e h l) = absurd (at_place t hi prog start _ st.0 i m h)

  either_stays : (a b : Part) (n : ℕ) → IsSized a → StaysShort a n → StaysShort b n → StaysShort (either a b) n
  either_stays a b n sized x y prog slots start next st len i e l = go l
    where
      go : {len i : ℕ} {e : Pair} → Leads (ways prog t hi) len (start, i) e → e.1 ≤ i + n
      go (stays k) = omega arith
      go {i = i} (steps {len = len} k m e h l) =
          ⊎_elim
          (λ q. x prog slots (start + 1) next (Stand-first prog a b slots start next st) len i e
          (subst (λ z. Leads (ways prog t hi) len z e) (sym q) l))
          (λ o. ⊎_elim
          (λ q. y prog slots (start + 1 + a.size) next (Stand-second prog a b slots start next (sized slots (start + 1) next) st) len i e
          (subst (λ z. Leads (ways prog t hi) len z e) (sym q) l))
          (λ never. absurd never) o)
          (at_place t hi prog start _ st.0 i m h)

  choice_short : (p s : ℕ) (hs : List Re) (n : ℕ) → All HasBounds hs → AreShort n hs → StaysShort (choice_of_patterns p s hs) n
  choice_short p s [] n ok short = dead_stays n
  choice_short p s (h ∷ hs) n ok short =
      let first = All-head (λ h. (k : ℕ) × (maximum_len h ≡ Some k) × (k ≤ n)) h hs short in
      either_stays (pattern_part p s h) (choice_of_patterns (p + 1) (s + 2 * group_count h) hs) n (pattern_sized p s h)
      (pattern_short p s h n (All-head HasBounds h hs ok) first.0 first.1 first.2)
      (choice_short (p + 1) (s + 2 * group_count h) hs n (All-tail HasBounds h hs ok)
      (All-tail (λ h. (k : ℕ) × (maximum_len h ≡ Some k) × (k ≤ n)) h hs short))

-- a trail from x ends within n bytes
pub trail_short : (hs : List Re) (t : Text) (hi n : ℕ) → All HasBounds hs → AreShort n hs → (x : ℕ) (v : List Pair) (e : Pair) →
    IsTrail (ways (program hs) t hi) [] ((0, x) ∷ []) v → EndsAt v e → e.1 ≤ x + n
trail_short hs t hi n ok short x v e trail at =
    let r = leads_along (ways (program hs) t hi) (λ n. Unit {0}) e trail at in
    let from : (0, x) ≡ r.0 = ⊎_elim (λ q. q) (λ never. absurd never) r.1 in
    choice_short t hi 0 (2 * length hs) hs n ok short (program hs) 0 0 0 (stand_all [] (program hs)) r.2.0 x e
    (subst (λ z. Leads (ways (program hs) t hi) r.2.0 z e) (sym from) r.2.1)

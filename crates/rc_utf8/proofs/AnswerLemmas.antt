-- The answers of a search over a byte program are those of the search over the program.
use Rattle.std.proofs.Common.{◌≡◌, ℕ, zero, suc, ◌+◌, ◌*◌, ◌<◌, ◌≤◌, ◌⊎◌, List, [], ◌∷◌, length, map, inl, inr, ⊎_elim, sym, subst, ap, ap₂, ◌∙◌, refl, arith, Bool, true, false, true≢false, not, ◌||◌, Option, Some, None, nat_eq, if◌then◌else◌}
use Rattle.std.specs.List.{range_with_len}
use Rattle.std.specs.Option.{option_or, option_map, option_and_then}
use Rattle.std.proofs.lemmas.Bool.{cases_Bool, cases_lt}
use Rattle.rc_text.specs.Text.{is_boundary}
use Rattle.rc_text.specs.Found.{Found}
use Rattle.rc_walks.specs.Walks.{Pair}
use Rattle.rc_walks.specs.Tries.{walk_by}
use Rattle.rc_walks.proofs.CutLemmas.{first_is_one}
use Rattle.rc_walks.proofs.TryLemmas.{Finds, walk_by_finds}
use Rattle.rc_program.specs.Program.{Place, choice, byte, branch, scalar, guard, slot, accept, is_match_place}
use Rattle.rc_program.specs.Laws.{IsClosed}
use Rattle.rc_program.specs.Answer.{last_of, Search, only, is_anchored, ends, next_of, is_allowed, Chosen, found, slot_of, slots_of, allowed_only, from_start, first_given, start_count, chosen, answer, groups}
use Rattle.rc_program.proofs.WayLemmas.{same_pair}
use Rattle.rc_program.proofs.AnswerLemmas.{last_pair, is_bounded}
use Rattle.rc_utf8.specs.Bytes.{bytes_of}
use Rattle.rc_utf8.specs.Laws.{by_bytes}
use Rattle.rc_utf8.proofs.SameLemmas.{Same, Also, walk_also}

map_alike : {X Y : Type 0} (f g : X → Y) → ((x : X) → f x ≡ g x) → (xs : List X) → map f xs ≡ map g xs
map_alike f g h [] = refl
map_alike f g h (x ∷ xs) = ap₂ (λ y ys. y ∷ ys) (h x) (map_alike f g h xs)

pub any_match : (only : Option ℕ) (q : Place) → is_match_place only q ≡ true → is_match_place None q ≡ true
any_match None q e = e
any_match (Some p) (choice ns) e = absurd (true≢false (sym e))
any_match (Some p) (byte rs n) e = absurd (true≢false (sym e))
any_match (Some p) (branch ts) e = absurd (true≢false (sym e))
any_match (Some p) (scalar rs n) e = absurd (true≢false (sym e))
any_match (Some p) (guard l n) e = absurd (true≢false (sym e))
any_match (Some p) (slot k n) e = absurd (true≢false (sym e))
any_match (Some p) (accept k) e = refl

-- a match place of an allowed pattern
abbrev pub match_of : Search → Place → ℕ → Bool
match_of s q y = is_match_place (only s.anchoring) q

pub match_accepts : (s : Search) (q : Place) (y : ℕ) → match_of s q y ≡ true → is_match_place None q ≡ true
match_accepts s q y e = any_match (only s.anchoring) q e

module _ (s : Search) (closed : IsClosed s.places) where
  abbrev B : List Place
  B = bytes_of s.places

  abbrev T : Pair → List Pair
  T = next_of (by_bytes s)

  abbrev F : Pair → Type 0
  F n = (ends (by_bytes s) n) ≡ true

  abbrev Walks : Option (List Pair) → Option (List Pair) → Type 0
  Walks None None = Unit {0}
  Walks None (Some v) = ⊥
  Walks (Some w) None = ⊥
  Walks (Some w) (Some v) = Same s closed (match_of s) (match_accepts s) w v

  walks_alike : (p f : List Pair) (o q : Option (List Pair)) → Also s closed (match_of s) (match_accepts s) p f o → Finds T F p f q → Walks o q
  walks_alike p f None None a b = tt
  walks_alike p f None (Some v) a b = absurd (a v b.is_walk)
  walks_alike p f (Some w) None a b = absurd (b a.0 a.1.is_walk)
  walks_alike p f (Some w) (Some v) a b = subst (Same s closed (match_of s) (match_accepts s) w) (first_is_one T F p f a.0 v a.1 b) a.2

  -- what two searches choose is the same but for the places along the walk
  abbrev Chosens : Option Chosen → Option Chosen → Type 0
  Chosens None None = Unit {0}
  Chosens None (Some d) = ⊥
  Chosens (Some c) None = ⊥
  Chosens (Some c) (Some d) = (c.start ≡ d.start) × Same s closed (match_of s) (match_accepts s) c.walk d.walk

  allowed_alike : (w v : List Pair) → Same s closed (match_of s) (match_accepts s) w v → is_allowed (by_bytes s) v ≡ is_allowed s w
  allowed_alike w v x = ap (λ (n : Pair). not s.passes_over || is_boundary s.text.content n.1) x.last

  both_or_none : (a b : Bool) → b ≡ a → (c d : Chosen) → (c.start ≡ d.start) × Same s closed (match_of s) (match_accepts s) c.walk d.walk →
      Chosens (if a then Some c else None) (if b then Some d else None)
  both_or_none true true e c d x = x
  both_or_none true false e c d x = absurd (true≢false (sym e))
  both_or_none false true e c d x = absurd (true≢false e)
  both_or_none false false e c d x = tt

  allows : (x : ℕ) (w v : List Pair) → Same s closed (match_of s) (match_accepts s) w v → Chosens (allowed_only s x w) (allowed_only (by_bytes s) x v)
  allows x w v a =
      both_or_none (is_allowed s w) (is_allowed (by_bytes s) v) (allowed_alike w v a) (record { start = x; walk = w }) (record { start = x; walk = v }) (refl, a)

  chosen_of : (x : ℕ) (o q : Option (List Pair)) → Walks o q →
      Chosens (option_and_then (allowed_only s x) o) (option_and_then (allowed_only (by_bytes s) x) q)
  chosen_of x None None a = tt
  chosen_of x None (Some v) a = absurd a
  chosen_of x (Some w) None a = absurd a
  chosen_of x (Some w) (Some v) a = allows x w v a

  start_alike : 0 < length s.places → (x : ℕ) → x ≤ s.hi → Chosens (from_start s x) (from_start (by_bytes s) x)
  start_alike some x h =
      chosen_of x (walk_by (next_of s) (ends s) (length s.places * (s.hi + 1)) [] (0, x))
      (walk_by T (ends (by_bytes s)) (length B * (s.hi + 1)) [] (0, x))
      (walks_alike [] ((0, x) ∷ []) (walk_by (next_of s) (ends s) (length s.places * (s.hi + 1)) [] (0, x))
      (walk_by T (ends (by_bytes s)) (length B * (s.hi + 1)) [] (0, x))
      (walk_also s closed (match_of s) (match_accepts s) (length s.places * (s.hi + 1)) [] (0, x) (omega arith) tt tt (λ k i. absurd i) some (omega arith))
      (walk_by_finds T (ends (by_bytes s)) same_pair (last_pair (by_bytes s)) (length B) (s.hi + 1) (is_bounded (by_bytes s))
      (length B * (s.hi + 1)) [] (0, x) (omega arith) tt tt (omega arith)))

  end_alike : (o q : Option (List Pair)) → Walks o q → option_map last_of q ≡ option_map last_of o
  end_alike None None a = refl
  end_alike None (Some v) a = absurd a
  end_alike (Some w) None a = absurd a
  end_alike (Some w) (Some v) a = ap (λ n. Some n) a.last

  -- from each place of the program
  pub same_from : (k x : ℕ) → k < length s.places → x ≤ s.hi →
      option_map last_of (walk_by T (ends (by_bytes s)) (length B * (s.hi + 1)) [] (k, x))
      ≡ option_map last_of (walk_by (next_of s) (ends s) (length s.places * (s.hi + 1)) [] (k, x))
  same_from k x some h =
      end_alike (walk_by (next_of s) (ends s) (length s.places * (s.hi + 1)) [] (k, x)) (walk_by T (ends (by_bytes s)) (length B * (s.hi + 1)) [] (k, x))
      (walks_alike [] ((k, x) ∷ []) (walk_by (next_of s) (ends s) (length s.places * (s.hi + 1)) [] (k, x))
      (walk_by T (ends (by_bytes s)) (length B * (s.hi + 1)) [] (k, x))
      (walk_also s closed (match_of s) (match_accepts s) (length s.places * (s.hi + 1)) [] (k, x) (omega arith) tt tt (λ j i. absurd i) some (omega (arith, h)))
      (walk_by_finds T (ends (by_bytes s)) same_pair (last_pair (by_bytes s)) (length B) (s.hi + 1) (is_bounded (by_bytes s))
      (length B * (s.hi + 1)) [] (k, x) (omega arith) tt tt (omega (arith, h))))

  or_alike : (o q r u : Option Chosen) → Chosens o q → Chosens r u → Chosens (option_or o r) (option_or q u)
  or_alike None None r u a b = b
  or_alike None (Some d) r u a b = absurd a
  or_alike (Some c) None r u a b = absurd a
  or_alike (Some c) (Some d) r u a b = a

  starts_alike : 0 < length s.places → (n x : ℕ) → x + n ≤ s.hi + 1 →
      Chosens (first_given (from_start s) n x) (first_given (from_start (by_bytes s)) n x)
  starts_alike some zero x h = tt
  starts_alike some (suc n) x h =
      or_alike (from_start s x) (from_start (by_bytes s) x) (first_given (from_start s) n (x + 1)) (first_given (from_start (by_bytes s)) n (x + 1))
      (start_alike some x (omega arith)) (starts_alike some n (x + 1) (omega arith))

  pub count_in : (s.lo + start_count s ≤ s.hi + 1) ⊎ (start_count s ≡ 0)
  count_in =
      ⊎_elim (λ t. rw t (⊎_elim (λ l. inr (omega arith)) (λ ge. inl (omega arith)) (cases_lt s.hi s.lo)))
      (λ f. rw f (⊎_elim (λ l. inr (omega arith)) (λ ge. inl (omega arith)) (cases_lt s.hi s.lo)))
      (cases_Bool (is_anchored s.anchoring))

  -- without a place there is no walk
  none_of : (q : Search) → length q.places ≡ 0 → (x : ℕ) → from_start q x ≡ None
  none_of q e x =
      let z : length q.places * (q.hi + 1) ≡ 0 = ap (λ k. k * (q.hi + 1)) e ∙ omega arith in
      ap (λ k. option_and_then (allowed_only q x) (walk_by (next_of q) (ends q) k [] (0, x))) z

  nothing_left : (q : Search) → length q.places ≡ 0 → (n x : ℕ) → first_given (from_start q) n x ≡ None
  nothing_left q e zero x = refl
  nothing_left q e (suc n) x = ap₂ option_or (none_of q e x) (nothing_left q e n (x + 1))

  pub no_bytes : (qs : List Place) → length qs ≡ 0 → length (bytes_of qs) ≡ 0
  no_bytes [] e = refl
  no_bytes (q ∷ qs) e = absurd (omega (arith, e))

  pub chosen_alike : Chosens (chosen s) (chosen (by_bytes s))
  unfolding chosen
  chosen_alike =
      ⊎_elim
      (λ some. ⊎_elim (λ h. starts_alike some (start_count s) s.lo h)
      (λ e. subst (λ n. Chosens (first_given (from_start s) n s.lo) (first_given (from_start (by_bytes s)) n s.lo)) (sym e) tt) count_in)
      (λ none. let e : length s.places ≡ 0 = omega (arith, none) in
      subst (λ o. Chosens o (first_given (from_start (by_bytes s)) (start_count s) s.lo)) (sym (nothing_left s e (start_count s) s.lo))
      (subst (λ o. Chosens None o) (sym (nothing_left (by_bytes s) (no_bytes s.places e) (start_count s) s.lo)) tt))
      (cases_lt 0 (length s.places))

  found_alike : (c d : Chosen) → c.start ≡ d.start → Same s closed (match_of s) (match_accepts s) c.walk d.walk → found (by_bytes s) d ≡ found s c
  found_alike c d e x =
      ap₂ (λ (p : ℕ) (q : ℕ × ℕ). let f : Found = record { pattern = p; start = q.0; end = q.1 } in f) x.pattern
      (ap₂ (λ (a : ℕ) (n : Pair). (a, n.1)) (sym e) x.last)

  slot_alike : (c d : Chosen) → c.start ≡ d.start → Same s closed (match_of s) (match_accepts s) c.walk d.walk → (k : ℕ) → slot_of (by_bytes s) d k ≡ slot_of s c k
  slot_alike c d e x k =
      ap₂ (λ (p : ℕ) (q : ℕ × ℕ × Option ℕ). if nat_eq k (2 * p) then Some q.0 else if nat_eq k (2 * p + 1) then Some q.1 else q.2) x.pattern
      (ap₂ (λ (q : ℕ × ℕ) (v : Option ℕ). (q.0, q.1, v)) (ap₂ (λ (a : ℕ) (n : Pair). (a, n.1)) (sym e) x.last) (x.visits k))

  answer_of : (o q : Option Chosen) → Chosens o q → option_map (found (by_bytes s)) q ≡ option_map (found s) o
  answer_of None None a = refl
  answer_of None (Some d) a = absurd a
  answer_of (Some c) None a = absurd a
  answer_of (Some c) (Some d) a = ap Some (found_alike c d a.0 a.1)

  groups_of : (n : ℕ) (o q : Option Chosen) → Chosens o q → option_map (slots_of (by_bytes s) n) q ≡ option_map (slots_of s n) o
  groups_of n None None a = refl
  groups_of n None (Some d) a = absurd a
  groups_of n (Some c) None a = absurd a
  groups_of n (Some c) (Some d) a = ap Some (map_alike (slot_of (by_bytes s) d) (slot_of s c) (slot_alike c d a.0 a.1) (range_with_len 0 n))

  pub same_answer : answer (by_bytes s) ≡ answer s
  unfolding answer
  same_answer = answer_of (chosen s) (chosen (by_bytes s)) chosen_alike

  pub same_groups : (n : ℕ) → groups (by_bytes s) n ≡ groups s n
  unfolding groups
  same_groups n = groups_of n (chosen s) (chosen (by_bytes s)) chosen_alike

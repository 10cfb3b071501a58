-- The greatest span of a search over a byte program is that of the search over the program.
use Rattle.std.proofs.Common.{◌≡◌, ℕ, zero, suc, ◌+◌, ◌*◌, ◌<◌, ◌≤◌, List, [], ◌∷◌, ◌++◌, length, ⊎_elim, sym, ap, ap₂, ◌∙◌, refl, arith, Bool, true, ◌&&◌, Option, Some, None, nat_eq, max}
use Rattle.std.specs.List.{AllByRecursion}
use Rattle.std.specs.Option.{option_or, option_map}
use Rattle.std.proofs.lemmas.Bool.{cases_lt, and_parts}
use Rattle.rc_text.specs.Found.{Found}
use Rattle.rc_walks.specs.Walks.{Pair}
use Rattle.rc_walks.specs.Tries.{walk_by}
use Rattle.rc_walks.proofs.TryLemmas.{Finds, walk_by_finds}
use Rattle.rc_program.specs.Program.{Place, choice, byte, branch, scalar, guard, slot, accept, is_match_place}
use Rattle.rc_program.specs.Laws.{IsClosed}
use Rattle.rc_program.specs.Answer.{Search, only, next_of, start_count, first_given}
use Rattle.rc_program.specs.Greatest.{ends_for, span_by, last_below, past_patterns, by_patterns, to_end, greatest}
use Rattle.rc_program.proofs.WayLemmas.{same_pair}
use Rattle.rc_utf8.specs.Bytes.{block, byte_places, blocks, bytes_of}
use Rattle.rc_utf8.specs.Laws.{by_bytes}
use Rattle.rc_utf8.proofs.SameLemmas.{Also, may_end, walk_also, last_of_bytes, bytes_bounded}
use Rattle.rc_utf8.proofs.AnswerLemmas.{any_match, count_in, no_bytes}
use Rattle.rc_utf8.proofs.SizeLemmas.{IsBranching, blocks_branching}

past_branching : (qs : List Place) → AllByRecursion IsBranching qs → past_patterns qs ≡ 0
past_branching [] each = refl
past_branching (q ∷ qs) each = ap (λ r. past_patterns (r ∷ qs)) each.0.1 ∙ past_branching qs each.1

past_bytes : (start : ℕ) (qs behind : List Place) → past_patterns behind ≡ 0 → past_patterns (byte_places start qs ++ behind) ≡ past_patterns qs
past_bytes start [] behind e = e
past_bytes start (choice ns ∷ qs) behind e = past_bytes (start + 0) qs behind e
past_bytes start (byte rs n ∷ qs) behind e = past_bytes (start + 0) qs behind e
past_bytes start (branch ts ∷ qs) behind e = past_bytes (start + 0) qs behind e
past_bytes start (scalar rs n ∷ qs) behind e = past_bytes (start + length (block start (scalar rs n))) qs behind e
past_bytes start (guard l n ∷ qs) behind e = past_bytes (start + 0) qs behind e
past_bytes start (slot k n ∷ qs) behind e = past_bytes (start + 0) qs behind e
past_bytes start (accept p ∷ qs) behind e = ap (λ n. max (p + 1) n) (past_bytes (start + 0) qs behind e)

past_same : (qs : List Place) → past_patterns (bytes_of qs) ≡ past_patterns qs
past_same qs = past_bytes (length qs) qs (blocks (length qs) qs) (past_branching (blocks (length qs) qs) (blocks_branching (length qs) qs))

first_same : (f g : ℕ → Option Found) (b : ℕ) → ((y : ℕ) → y < b → f y ≡ g y) → (n x : ℕ) → x + n ≤ b → first_given f n x ≡ first_given g n x
first_same f g b h zero x le = refl
first_same f g b h (suc n) x le = ap₂ option_or (h x (omega arith)) (first_same f g b h n (x + 1) (omega arith))

below_same : (f g : ℕ → Option Found) → ((y : ℕ) → f y ≡ g y) → (n : ℕ) → last_below f n ≡ last_below g n
below_same f g h zero = refl
below_same f g h (suc n) = ap₂ option_or (h n) (below_same f g h n)

module _ (s : Search) (closed : IsClosed s.places) where
  abbrev B : List Place
  B = bytes_of s.places

  abbrev T : Pair → List Pair
  T = next_of (by_bytes s)

  -- a match place of pattern p, at e
  abbrev ends_at : ℕ → ℕ → Place → ℕ → Bool
  ends_at p e q y = is_match_place (only s.anchoring) q && is_match_place (Some p) q && nat_eq y e

  accepts : (p e : ℕ) (q : Place) (y : ℕ) → ends_at p e q y ≡ true → is_match_place None q ≡ true
  accepts p e q y h = any_match (Some p) q (and_parts _ _ (and_parts _ _ h).0).1

  span_of : (p e x : ℕ) (o q : Option (List Pair)) → Also s closed (ends_at p e) (accepts p e) [] ((0, x) ∷ []) o →
      Finds T (λ n. may_end s closed (ends_at p e) (accepts p e) B n ≡ true) [] ((0, x) ∷ []) q →
      option_map (λ (w : List Pair). let m : Found = record { pattern = p; start = x; end = e } in m) q
      ≡ option_map (λ (w : List Pair). let m : Found = record { pattern = p; start = x; end = e } in m) o
  span_of p e x None None a b = refl
  span_of p e x None (Some v) a b = absurd (a v b.is_walk)
  span_of p e x (Some w) None a b = absurd (b a.0 a.1.is_walk)
  span_of p e x (Some w) (Some v) a b = refl

  span_some : 0 < length s.places → (p e x : ℕ) → x ≤ s.hi → span_by (by_bytes s) e x p ≡ span_by s e x p
  span_some some p e x h =
      span_of p e x
      (walk_by (next_of s) (may_end s closed (ends_at p e) (accepts p e) s.places) (length s.places * (s.hi + 1)) [] (0, x))
      (walk_by T (may_end s closed (ends_at p e) (accepts p e) B) (length B * (s.hi + 1)) [] (0, x))
      (walk_also s closed (ends_at p e) (accepts p e) (length s.places * (s.hi + 1)) [] (0, x) (omega arith) tt tt (λ k i. absurd i) some (omega arith))
      (walk_by_finds T (may_end s closed (ends_at p e) (accepts p e) B) same_pair (last_of_bytes s closed (ends_at p e) (accepts p e)) (length B)
      (s.hi + 1) (bytes_bounded s closed (ends_at p e) (accepts p e)) (length B * (s.hi + 1)) [] (0, x) (omega arith) tt tt (omega arith))

  span_none : (q : Search) → length q.places ≡ 0 → (p e x : ℕ) → span_by q e x p ≡ None
  span_none q none p e x =
      let z : length q.places * (q.hi + 1) ≡ 0 = ap (λ k. k * (q.hi + 1)) none ∙ omega arith in
      ap (λ k. option_map (λ (w : List Pair). let m : Found = record { pattern = p; start = x; end = e } in m)
      (walk_by (next_of q) (ends_for q p e) k [] (0, x))) z

  span_same : (p e x : ℕ) → x ≤ s.hi → span_by (by_bytes s) e x p ≡ span_by s e x p
  span_same p e x h =
      ⊎_elim (λ some. span_some some p e x h)
      (λ none. let z : length s.places ≡ 0 = omega (arith, none) in
      span_none (by_bytes s) (no_bytes s closed s.places z) p e x ∙ sym (span_none s z p e x))
      (cases_lt 0 (length s.places))

  patterns_same : (e x : ℕ) → x ≤ s.hi → by_patterns (by_bytes s) e x ≡ by_patterns s e x
  patterns_same e x h =
      ap (λ n. first_given (span_by (by_bytes s) e x) n 0) (past_same s.places)
      ∙ first_same (span_by (by_bytes s) e x) (span_by s e x) (past_patterns s.places) (λ p l. span_same p e x h) (past_patterns s.places) 0 (omega arith)

  ends_same : (e : ℕ) → to_end (by_bytes s) e ≡ to_end s e
  ends_same e =
      ⊎_elim
      (λ h. first_same (by_patterns (by_bytes s) e) (by_patterns s e) (s.hi + 1) (λ x l. patterns_same e x (omega arith)) (start_count s) s.lo h)
      (λ none. ap (λ n. first_given (by_patterns (by_bytes s) e) n s.lo) none ∙ sym (ap (λ n. first_given (by_patterns s e) n s.lo) none))
      (count_in s closed)

  pub same_greatest : greatest (by_bytes s) ≡ greatest s
  unfolding greatest
  same_greatest = below_same (to_end (by_bytes s)) (to_end s) ends_same (s.hi + 1)

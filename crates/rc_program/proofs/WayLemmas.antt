-- The ways out of places and of pairs.
use Rattle.std.proofs.Common.{◌≡◌, ◌≢◌, ℕ, ◌+◌, ◌-◌, ◌*◌, ◌≤◌, ◌⊎◌, List, [], ◌∷◌, length, map, drop, inl, inr, ⊎_elim, sym, subst, ap, ap₂, ◌∙◌, refl, arith, Bool, true, false, true≢false, IsTrue, Option, Some, None, nat_le, nat_lt, ◌&&◌, if◌then◌else◌, length-drop}
use Rattle.std.specs.List.{AllByRecursion}
use Rattle.std.proofs.lemmas.Bool.{cases_eq}
use Rattle.std.proofs.lemmas.List.{get_or_past, length-take}
use Rattle.std.proofs.lemmas.Option.{none-some, same_Some}
use Rattle.rc_pattern.specs.declared.hir.Look.{Look}
use Rattle.rc_walks.specs.Walks.{Pair, IsIn}
use Rattle.rc_program.specs.Text.{Text, ahead, holds}
use Rattle.rc_program.specs.Scalars.{continues, scalar_at, in_bytes, of_two, of_three, of_four}
use lib.Utf8.{scalar as is_scalar}
use Rattle.rc_program.specs.Program.{Place, choice, byte, branch, scalar, guard, slot, accept, Way, stays, reads, in_ranges, over_scalar, branch_ways, ways_out, pair_at, place_at, ways, is_match_place}

pub same_pair : (n m : Pair) → (n ≡ m) ⊎ (n ≢ m)
same_pair n m =
    ⊎_elim (λ e. ⊎_elim (λ f. inl (ap₂ (λ x y. (x, y)) e f)) (λ ne. inr (λ p. ne (ap (λ (q : Pair). q.1) p))) (cases_eq n.1 m.1))
    (λ ne. inr (λ p. ne (ap (λ (q : Pair). q.0) p))) (cases_eq n.0 m.0)

pub no_match : (only : Option ℕ) (ns : List ℕ) → is_match_place only (choice ns) ≡ false
no_match None ns = refl
no_match (Some p) ns = refl

-- a match place has no way out
pub no_way_from : (only : Option ℕ) (test : Look → Bool) (bytes : List ℕ) (q : Place) (i : ℕ) (m : Pair) → IsTrue (is_match_place only q) →
    ¬ IsIn m (map (pair_at i) (ways_out test bytes q))
no_way_from only test bytes (choice ns) i m e = absurd (true≢false (sym e ∙ no_match only ns))
no_way_from None test bytes (byte rs n) i m e = absurd (true≢false (sym e))
no_way_from (Some p) test bytes (byte rs n) i m e = absurd (true≢false (sym e))
no_way_from None test bytes (branch ts) i m e = absurd (true≢false (sym e))
no_way_from (Some p) test bytes (branch ts) i m e = absurd (true≢false (sym e))
no_way_from None test bytes (scalar rs n) i m e = absurd (true≢false (sym e))
no_way_from (Some p) test bytes (scalar rs n) i m e = absurd (true≢false (sym e))
no_way_from None test bytes (guard l n) i m e = absurd (true≢false (sym e))
no_way_from (Some p) test bytes (guard l n) i m e = absurd (true≢false (sym e))
no_way_from None test bytes (slot s n) i m e = absurd (true≢false (sym e))
no_way_from (Some p) test bytes (slot s n) i m e = absurd (true≢false (sym e))
no_way_from only test bytes (accept p) i m e = λ h. h

-- what a member of a mapped list comes from
pub in_map : (P : Way → Type 0) (ws : List Way) (i : ℕ) (m : Pair) → AllByRecursion P ws → IsIn m (map (pair_at i) ws) →
    (w : Way) × P w × (pair_at i w ≡ m)
in_map P [] i m all h = absurd h
in_map P (w ∷ ws) i m all h = ⊎_elim (λ e. (w, all.0, e)) (λ q. in_map P ws i m all.1 q) h

-- the way goes over one byte at least, and no more than stand ahead
abbrev pub Fits : ℕ → Way → Type 0
Fits len (stays n) = Unit {0}
Fits len (reads count n) = (1 ≤ count) × (count ≤ len)

-- the scalar takes one byte at least, four at most, and no more than there are
pub record IsShort (bs : List ℕ) (o : Option (ℕ × ℕ)) : Type 0 where
  pub takes : (s : ℕ × ℕ) → o ≡ Some s → (1 ≤ s.1) × (s.1 ≤ length bs) × (s.1 ≤ 4)

short_none : (bs : List ℕ) → IsShort bs None
short_none bs = record { takes = λ s e. absurd (none-some s e) }

short_some : (bs : List ℕ) (c n : ℕ) → 1 ≤ n → n ≤ length bs → n ≤ 4 → IsShort bs (Some (c, n))
short_some bs c n h k l = record {
  takes = λ s e. let q : n ≡ s.1 = ap (λ (z : ℕ × ℕ). z.1) (same_Some (c, n) s e) in (omega (arith, q, h), omega (arith, q, k), omega (arith, q, l));
}

short_if : (bs : List ℕ) (b : Bool) (x y : Option (ℕ × ℕ)) → IsShort bs x → IsShort bs y → IsShort bs (if b then x else y)
short_if bs true x y h k = h
short_if bs false x y h k = k

short_in : (bs : List ℕ) (b : Bool) (count least c : ℕ) → 1 ≤ count → count ≤ length bs → count ≤ 4 →
    IsShort bs (if b then in_bytes count least c else None)
short_in bs b count least c h k l =
    short_if bs b (in_bytes count least c) None
    (short_if bs (nat_le least c && is_scalar c) (Some (c, count)) None (short_some bs c count h k l) (short_none bs)) (short_none bs)

short_two : (x a : ℕ) (bs : List ℕ) → IsShort (x ∷ bs) (of_two a bs)
short_two x a [] = short_none (x ∷ [])
short_two x a (b ∷ bs) =
    short_in (x ∷ b ∷ bs) (continues b) 2 0x80 (a * 64 + (b - 128)) (omega arith) (omega arith) (omega arith)

short_three : (x a : ℕ) (bs : List ℕ) → IsShort (x ∷ bs) (of_three a bs)
short_three x a [] = short_none (x ∷ [])
short_three x a (b ∷ []) = short_none (x ∷ b ∷ [])
short_three x a (b ∷ c ∷ bs) =
    short_in (x ∷ b ∷ c ∷ bs) (continues b && continues c) 3 0x800 ((a * 64 + (b - 128)) * 64 + (c - 128))
    (omega arith) (omega arith) (omega arith)

short_four : (x a : ℕ) (bs : List ℕ) → IsShort (x ∷ bs) (of_four a bs)
short_four x a [] = short_none (x ∷ [])
short_four x a (b ∷ []) = short_none (x ∷ b ∷ [])
short_four x a (b ∷ c ∷ []) = short_none (x ∷ b ∷ c ∷ [])
short_four x a (b ∷ c ∷ d ∷ bs) =
    short_in (x ∷ b ∷ c ∷ d ∷ bs) (continues b && continues c && continues d) 4 0x1_0000
    (((a * 64 + (b - 128)) * 64 + (c - 128)) * 64 + (d - 128)) (omega arith) (omega arith) (omega arith)

-- a scalar takes one to four of the bytes that it begins
pub scalar_at_short : (bs : List ℕ) → IsShort bs (scalar_at bs)
scalar_at_short [] = short_none []
scalar_at_short (a ∷ bs) =
    short_if (a ∷ bs) (nat_lt a 128) (Some (a, 1)) _ (short_some (a ∷ bs) a 1 (omega arith) (omega arith) (omega arith))
    (short_if (a ∷ bs) (nat_lt a 192) None _ (short_none (a ∷ bs))
    (short_if (a ∷ bs) (nat_lt a 224) (of_two (a - 192) bs) _ (short_two a (a - 192) bs)
    (short_if (a ∷ bs) (nat_lt a 240) (of_three (a - 224) bs) _ (short_three a (a - 224) bs)
    (short_if (a ∷ bs) (nat_lt a 248) (of_four (a - 240) bs) None (short_four a (a - 240) bs) (short_none (a ∷ bs))))))

stays_fit : (len : ℕ) (ns : List ℕ) → AllByRecursion (Fits len) (map stays ns)
stays_fit len [] = tt
stays_fit len (n ∷ ns) = (tt, stays_fit len ns)

fit_if : (len : ℕ) (b : Bool) (w : Way) → Fits len w → AllByRecursion (Fits len) (if b then w ∷ [] else [])
fit_if len true w h = (h, tt)
fit_if len false w h = tt

more_fit : (len : ℕ) (b : Bool) (w : Way) (ws : List Way) → Fits len w → AllByRecursion (Fits len) ws → AllByRecursion (Fits len) (if b then w ∷ ws else ws)
more_fit len true w ws h k = (h, k)
more_fit len false w ws h k = k

branch_fit : (len b : ℕ) (ts : List ((ℕ × ℕ) × ℕ)) → 1 ≤ len → AllByRecursion (Fits len) (branch_ways b ts)
branch_fit len b [] h = tt
branch_fit len b (t ∷ ts) h = more_fit len _ (reads 1 t.1) (branch_ways b ts) (omega arith, h) (branch_fit len b ts h)

scalar_fits : (rs : List (ℕ × ℕ)) (n : ℕ) (bytes : List ℕ) (o : Option (ℕ × ℕ)) → IsShort bytes o → AllByRecursion (Fits (length bytes)) (over_scalar rs n o)
scalar_fits rs n bytes None h = tt
scalar_fits rs n bytes (Some s) h =
    let k = h.takes s refl in fit_if (length bytes) (in_ranges rs s.0) (reads s.1 n) (k.0, k.1)

-- each way out fits the bytes that stand ahead
pub ways_out_fit : (test : Look → Bool) (bytes : List ℕ) (q : Place) → AllByRecursion (Fits (length bytes)) (ways_out test bytes q)
ways_out_fit test bytes (choice ns) = stays_fit (length bytes) ns
ways_out_fit test [] (byte rs n) = tt
ways_out_fit test (b ∷ bs) (byte rs n) = fit_if (length (b ∷ bs)) (in_ranges rs b) (reads 1 n) (omega arith, omega arith)
ways_out_fit test [] (branch ts) = tt
ways_out_fit test (b ∷ bs) (branch ts) = branch_fit (length (b ∷ bs)) b ts (omega arith)
ways_out_fit test bytes (scalar rs n) = scalar_fits rs n bytes (scalar_at bytes) (scalar_at_short bytes)
ways_out_fit test bytes (guard l n) = fit_if (length bytes) (test l) (stays n) tt
ways_out_fit test bytes (slot k n) = (tt, tt)
ways_out_fit test bytes (accept p) = tt

-- how many bytes stand ahead
pub length-ahead : (t : Text) (hi p : ℕ) → (length (ahead t hi p) ≤ hi - p) × (length (ahead t hi p) ≤ length t.content - p)
length-ahead t hi p =
    let e = length-take (hi - p) (drop p t.content) in let d = length-drop p t.content in (omega (arith, e, d), omega (arith, e, d))

goes_to : (t : Text) (hi i : ℕ) (w : Way) → Fits (length (ahead t hi i)) w → (i ≤ (pair_at i w).1) × (i ≤ hi → (pair_at i w).1 ≤ hi)
goes_to t hi i (stays n) h = (omega arith, λ le. le)
goes_to t hi i (reads count n) h = (omega arith, λ le. let a = length-ahead t hi i in omega (arith, h.0, h.1, a.0))

-- a way out goes forward, and not past hi
way_goes : (places : List Place) (t : Text) (hi : ℕ) (n m : Pair) → IsIn m (ways places t hi n) → (n.1 ≤ m.1) × (n.1 ≤ hi → m.1 ≤ hi)
way_goes places t hi n m h =
    let r = in_map (Fits (length (ahead t hi n.1))) (ways_out (λ l. holds t l n.1) (ahead t hi n.1) (place_at places n.0)) n.1 m
    (ways_out_fit (λ l. holds t l n.1) (ahead t hi n.1) (place_at places n.0)) h in
    subst (λ (k : Pair). (n.1 ≤ k.1) × (n.1 ≤ hi → k.1 ≤ hi)) r.2 (goes_to t hi n.1 r.0 r.1)

-- a walk doesn't go back
pub ways_onward : (places : List Place) (t : Text) (hi : ℕ) (n m : Pair) → IsIn m (ways places t hi n) → n.1 ≤ m.1
ways_onward places t hi n m h = (way_goes places t hi n m h).0

-- no walk goes past hi
pub ways_within : (places : List Place) (t : Text) (hi : ℕ) (n m : Pair) → n.1 ≤ hi → IsIn m (ways places t hi n) → m.1 ≤ hi
ways_within places t hi n m le h = (way_goes places t hi n m h).1 le

-- a number past the end is that of no place
pub past_places : (places : List Place) (q : ℕ) → length places ≤ q → place_at places q ≡ choice []
past_places places q h = get_or_past places q (choice []) h

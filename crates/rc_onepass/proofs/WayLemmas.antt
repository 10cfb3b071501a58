-- The ways out of a place over an ASCII byte.
use Rattle.std.proofs.Common.{◌≡◌, ℕ, zero, suc, ◌+◌, ◌<◌, ◌≤◌, ◌⊎◌, Bool, true, false, true≢false, List, [], ◌∷◌, map, Option, Some, None, slice_index_or, nat_le, ◌&&◌, if◌then◌else◌, inl, inr, ⊎_elim, sym, subst, ap, refl, arith}
use Rattle.std.specs.List.{AllByRecursion, Contains}
use Rattle.rc_pattern.specs.Re.{Range}
use Rattle.rc_pattern.specs.declared.hir.Look.{Look}
use Rattle.rc_walks.specs.Walks.{Pair, IsIn}
use Rattle.rc_program.specs.Scalars.{scalar_at}
use Rattle.rc_program.specs.Program.{Place, choice, byte, branch, scalar, guard, slot, accept, Way, stays, reads, in_ranges, over_byte, over_scalar, branch_ways, ways_out, pair_at}
use Rattle.rc_program.specs.Heads.{silent}
use Rattle.rc_program.proofs.SideLemmas.{at_one}
use Rattle.rc_program.proofs.WayLemmas.{in_map, scalar_at_short, IsShort}
use Rattle.rc_onepass.specs.OnePass.{Takes, named}

first_item : {X : Type 0} (x y : X) (xs : List X) → x ≡ y → Contains (x ∷ xs) y
first_item x y xs e = (0, omega arith, e)

later_item : {X : Type 0} (x y : X) (xs : List X) → Contains xs y → Contains (x ∷ xs) y
later_item x y xs c = (suc c.0, (let l = c.1 in omega (arith, l)), c.2)

-- where a way leads that reads nothing
abbrev pub Stays : Place → ℕ → Pair → Type 0
Stays q i m = Contains (silent q) m.0 × (m.1 ≡ i)

-- and where one leads over the byte
abbrev pub Reads : Place → ℕ → ℕ → Pair → Type 0
Reads q b i m = Takes q b m.0 × (m.1 ≡ i + 1)

same_start : (n i : ℕ) (m : Pair) → (n, i) ≡ m → (n ≡ m.0) × (m.1 ≡ i)
same_start n i m e = (ap (λ (p : Pair). p.0) e, sym (ap (λ (p : Pair). p.1) e))

from_choice : (ns : List ℕ) (i : ℕ) (m : Pair) → IsIn m (map (pair_at i) (map stays ns)) → Contains ns m.0 × (m.1 ≡ i)
from_choice [] i m h = absurd h
from_choice (n ∷ ns) i m h =
    ⊎_elim (λ e. let s = same_start n i m e in (first_item n m.0 ns s.0, s.1))
    (λ q. let r = from_choice ns i m q in (later_item n m.0 ns r.0, r.1)) h

from_one : (c : Bool) (n i : ℕ) (m : Pair) → IsIn m (map (pair_at i) (if c then stays n ∷ [] else [])) → Contains (n ∷ []) m.0 × (m.1 ≡ i)
from_one true n i m h = from_choice (n ∷ []) i m h
from_one false n i m h = absurd h

if_takes : (c : Bool) (n k : ℕ) → c ≡ true → n ≡ k → Contains (if c then reads 1 n ∷ [] else []) (reads 1 k)
if_takes true n k e same = first_item (reads 1 n) (reads 1 k) [] (ap (λ x. reads 1 x) same)
if_takes false n k e same = absurd (true≢false (sym e))

from_if : (c : Bool) (n i : ℕ) (m : Pair) → IsIn m (map (pair_at i) (if c then reads 1 n ∷ [] else [])) → (c ≡ true) × (n ≡ m.0) × (m.1 ≡ i + 1)
from_if true n i m h = ⊎_elim (λ e. let s = same_start n (i + 1) m e in (refl, s.0, s.1)) (λ never. absurd never) h
from_if false n i m h = absurd h

from_branch : (ts : List (Range × ℕ)) (b i : ℕ) (m : Pair) → IsIn m (map (pair_at i) (branch_ways b ts)) →
    Contains (branch_ways b ts) (reads 1 m.0) × (m.1 ≡ i + 1)
from_branch [] b i m h = absurd h
from_branch (t ∷ ts) b i m h = by_test (nat_le t.0.0 b && nat_le b t.0.1) (λ q. from_branch ts b i m q) h
  where
    by_test : (c : Bool) → (IsIn m (map (pair_at i) (branch_ways b ts)) → Contains (branch_ways b ts) (reads 1 m.0) × (m.1 ≡ i + 1)) →
        IsIn m (map (pair_at i) (if c then reads 1 t.1 ∷ branch_ways b ts else branch_ways b ts)) →
        Contains (if c then reads 1 t.1 ∷ branch_ways b ts else branch_ways b ts) (reads 1 m.0) × (m.1 ≡ i + 1)
    by_test true others h =
        ⊎_elim (λ e. let s = same_start t.1 (i + 1) m e in (first_item (reads 1 t.1) (reads 1 m.0) (branch_ways b ts) (ap (λ x. reads 1 x) s.0), s.1))
        (λ q. let r = others q in (later_item (reads 1 t.1) (reads 1 m.0) (branch_ways b ts) r.0, r.1)) h
    by_test false others h = others h

-- each way out over an ASCII byte reads nothing, or that byte
pub out_over : (test : Look → Bool) (b : ℕ) (bs : List ℕ) (q : Place) (i : ℕ) (m : Pair) → b < 128 →
    IsIn m (map (pair_at i) (ways_out test (b ∷ bs) q)) → Stays q i m ⊎ Reads q b i m
out_over test b bs (choice ns) i m l h = inl (from_choice ns i m h)
out_over test b bs (byte rs n) i m l h = let r = from_if (in_ranges rs b) n i m h in inr (if_takes (in_ranges rs b) n m.0 r.0 r.1, r.2)
out_over test b bs (branch ts) i m l h = inr (from_branch ts b i m h)
out_over test b bs (scalar rs n) i m l h =
    let r = from_if (in_ranges rs b) n i m (subst (λ o. IsIn m (map (pair_at i) (over_scalar rs n o))) (at_one b bs l) h) in
    inr (
      subst (λ o. Contains (over_scalar rs n o) (reads 1 m.0)) (sym (at_one b [] l)) (if_takes (in_ranges rs b) n m.0 r.0 r.1),
      r.2,
    )
out_over test b bs (guard k n) i m l h = inl (from_one (test k) n i m h)
out_over test b bs (slot k n) i m l h = inl (from_choice (n ∷ []) i m h)
out_over test b bs (accept p) i m l h = absurd h

-- the way reads something
abbrev Onward : Way → Type 0
Onward (stays n) = ⊥
Onward (reads count n) = 1 ≤ count

if_onward : (c : Bool) (n : ℕ) (ws : List Way) → AllByRecursion Onward ws → AllByRecursion Onward (if c then reads 1 n ∷ ws else ws)
if_onward true n ws h = (omega arith, h)
if_onward false n ws h = h

branch_onward : (ts : List (Range × ℕ)) (b : ℕ) → AllByRecursion Onward (branch_ways b ts)
branch_onward [] b = tt
branch_onward (t ∷ ts) b = if_onward (nat_le t.0.0 b && nat_le b t.0.1) t.1 (branch_ways b ts) (branch_onward ts b)

byte_onward : (f : ℕ → List Way) → ((b : ℕ) → AllByRecursion Onward (f b)) → (bytes : List ℕ) → AllByRecursion Onward (over_byte f bytes)
byte_onward f each [] = tt
byte_onward f each (b ∷ bs) = each b

scalar_onward : (rs : List Range) (n : ℕ) (bytes : List ℕ) (o : Option (ℕ × ℕ)) → IsShort bytes o → AllByRecursion Onward (over_scalar rs n o)
scalar_onward rs n bytes None short = tt
scalar_onward rs n bytes (Some s) short = by_test (in_ranges rs s.0)
  where
    by_test : (c : Bool) → AllByRecursion Onward (if c then reads s.1 n ∷ [] else [])
    by_test true = ((short.takes s refl).0, tt)
    by_test false = tt

goes_onward : (ws : List Way) (i : ℕ) (m : Pair) → AllByRecursion Onward ws → IsIn m (map (pair_at i) ws) → i < m.1
goes_onward ws i m all h = let r = in_map Onward ws i m all h in past r.0 r.1 r.2
  where
    past : (w : Way) → Onward w → pair_at i w ≡ m → i < m.1
    past (stays n) o e = absurd o
    past (reads count n) o e = let at : i + count ≡ m.1 = ap (λ (p : Pair). p.1) e in omega (arith, at, o)

-- each way out reads nothing, or goes on
pub out_any : (test : Look → Bool) (bytes : List ℕ) (q : Place) (i : ℕ) (m : Pair) → IsIn m (map (pair_at i) (ways_out test bytes q)) →
    Stays q i m ⊎ (i < m.1)
out_any test bytes (choice ns) i m h = inl (from_choice ns i m h)
out_any test bytes (byte rs n) i m h =
    inr (goes_onward (over_byte (λ b. if in_ranges rs b then reads 1 n ∷ [] else []) bytes) i m
    (byte_onward (λ b. if in_ranges rs b then reads 1 n ∷ [] else []) (λ b. if_onward (in_ranges rs b) n [] tt) bytes) h)
out_any test bytes (branch ts) i m h =
    inr (goes_onward (over_byte (λ b. branch_ways b ts) bytes) i m (byte_onward (λ b. branch_ways b ts) (branch_onward ts) bytes) h)
out_any test bytes (scalar rs n) i m h =
    inr (goes_onward (over_scalar rs n (scalar_at bytes)) i m (scalar_onward rs n bytes (scalar_at bytes) (scalar_at_short bytes)) h)
out_any test bytes (guard k n) i m h = inl (from_one (test k) n i m h)
out_any test bytes (slot k n) i m h = inl (from_choice (n ∷ []) i m h)
out_any test bytes (accept p) i m h = absurd h

abbrev IsStay : Way → Type 0
IsStay (stays n) = Unit {0}
IsStay (reads count n) = ⊥

-- a place that reads names no slot
no_read : (n k : ℕ) → Contains (stays n ∷ []) (reads 1 k) → ⊥
no_read n k c = none c.0 c.1 c.2
  where
    none : (j : ℕ) → j < 1 → slice_index_or (stays n ∷ []) j (reads 1 k) ≡ reads 1 k → ⊥
    none zero l e = subst (λ (w : Way). IsStay w) e tt
    none (suc j) l e = omega (arith, l)

pub named_reads : (q : Place) (b n : ℕ) (ks : List ℕ) → Takes q b n → named q ks ≡ ks
named_reads (slot k m) b n ks c = absurd (no_read m n c)
named_reads (choice ns) b n ks c = refl
named_reads (byte rs m) b n ks c = refl
named_reads (branch ts) b n ks c = refl
named_reads (scalar rs m) b n ks c = refl
named_reads (guard l m) b n ks c = refl
named_reads (accept p) b n ks c = refl

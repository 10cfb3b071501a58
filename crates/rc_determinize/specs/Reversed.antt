-- Only proofs use this file.
-- Reverse edges: the edges of a program, by the places to which they lead.
use Rattle.std.specs.Prelude.{◌≡◌, ℕ, Bool, true, false, ◌&&◌, List, [], ◌∷◌, ◌++◌, length, map, Option, Some, None, nat_le, nat_eq, ◌+◌, slice_index_or, if◌then◌else◌, ◌↔◌}
use Rattle.rc_pattern.specs.Re.{Range}
use Rattle.rc_program.specs.Program.{Place, choice, byte, branch, scalar, guard, slot, accept, stays}
use Rattle.rc_determinize.specs.declared.sides.Seen.{Seen}
use Rattle.rc_determinize.specs.declared.backward.Over.{Over}
use Rattle.rc_determinize.specs.declared.backward.Over.TheVariants.{Nothing, Where, Within}
use Rattle.rc_determinize.specs.declared.backward.Source.{Source}
use Rattle.rc_determinize.specs.declared.backward.Reversed.{Reversed}
use Rattle.rc_determinize.specs.Sides.{holds_by}
use Rattle.rc_determinize.specs.Steps.{HasPlace, AreBelow, HasWay}
use Rattle.rc_determinize.specs.Backward.{still_out, ReadsTo}

-- The edge is followed without reading.
abbrev pub passes : Seen → Seen → Over → Bool
passes behind ahead Nothing = true
passes behind ahead (Where l) = holds_by behind ahead l
passes behind ahead (Within first last) = false

-- The edge is followed over the byte.
abbrev pub reads_over : Option ℕ → Over → Bool
reads_over None over = false
reads_over (Some b) (Within first last) = nat_le first b && nat_le b last
reads_over (Some b) over = false

-- Where the edges begin of which it holds.
abbrev pub sources : (Over → Bool) → List Source → List ℕ
sources holds [] = []
sources holds (e ∷ es) = if holds e.over then e.from ∷ sources holds es else sources holds es

-- The edges that lead to a place.
abbrev pub into_at : Reversed → ℕ → List Source
into_at r p = slice_index_or (map (λ v. v.items) r.into.items) p []

-- Each edge of the program is stored at the place to which it leads, and no other is.
pub record IsReversed (places : List Place) (r : Reversed) : Type 0 where
  pub size : length r.into.items ≡ length places
  pub below : (p : ℕ) → AreBelow (length places) (map (λ (e : Source). e.from) (into_at r p))
  pub still : (behind ahead : Seen) (q p : ℕ) → HasPlace q (sources (passes behind ahead) (into_at r p)) ↔ HasWay (stays p) (still_out places behind ahead q)
  pub reading : (b q p : ℕ) → HasPlace q (sources (reads_over (Some b)) (into_at r p)) ↔ ReadsTo places b q p

-- The edges from place number i to place number p.
abbrev pub branch_edges : ℕ → ℕ → List (Range × ℕ) → List Source
branch_edges p i [] = []
branch_edges p i (t ∷ ts) =
    if nat_eq t.1 p then record { from = i; over = Within t.0.0 t.0.1 } ∷ branch_edges p i ts else branch_edges p i ts

abbrev pub range_edges : ℕ → ℕ → ℕ → List Range → List Source
range_edges p i n [] = []
range_edges p i n (r ∷ rs) =
    if nat_eq n p then record { from = i; over = Within r.0 r.1 } ∷ range_edges p i n rs else range_edges p i n rs

abbrev pub choice_edges : ℕ → ℕ → List ℕ → List Source
choice_edges p i [] = []
choice_edges p i (n ∷ ns) = if nat_eq n p then record { from = i; over = Nothing } ∷ choice_edges p i ns else choice_edges p i ns

abbrev pub edges_from : ℕ → ℕ → Place → List Source
edges_from p i (choice ns) = choice_edges p i ns
edges_from p i (byte rs n) = range_edges p i n rs
edges_from p i (branch ts) = branch_edges p i ts
edges_from p i (scalar rs n) = []
edges_from p i (guard l n) = if nat_eq n p then record { from = i; over = Where l } ∷ [] else []
edges_from p i (slot k n) = if nat_eq n p then record { from = i; over = Nothing } ∷ [] else []
edges_from p i (accept q) = []

-- The edges to place number p from the places, of which the first has number i.
abbrev pub all_edges : ℕ → ℕ → List Place → List Source
all_edges p i [] = []
all_edges p i (q ∷ qs) = edges_from p i q ++ all_edges p (i + 1) qs

-- Each edge begins at a place.
abbrev pub AreInside : Reversed → Type 0
AreInside r = (p : ℕ) → AreBelow (length r.into.items) (map (λ (e : Source). e.from) (into_at r p))

-- At each place all edges that lead to it, in the order of the places from which they lead.
abbrev pub AreEdges : List Place → Reversed → Type 0
AreEdges places r = (length r.into.items ≡ length places) × ((p : ℕ) → into_at r p ≡ all_edges p 0 places)

-- The edges of the place with number i are added.
abbrev pub HasAdded : (ℕ → List Source) → Reversed → Reversed → Type 0
HasAdded more old new = (length new.into.items ≡ length old.into.items) × ((p : ℕ) → into_at new p ≡ into_at old p ++ more p)

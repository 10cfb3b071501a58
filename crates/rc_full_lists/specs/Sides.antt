-- How far a list is read: the operator under way, what stands to its left, and the items behind it.
use Rattle.std.specs.Prelude.{◌≡◌, Bool, false, Option, Some, None}
use Rattle.rc_tokens.specs.ClassView.{pairs}
use Rattle.rc_class_sets.specs.Sets.{CodeSet, Denote, AreRangesOf, union, intersection, difference, symmetric_difference}
use Rattle.rc_full_lists.specs.declared.parts.Operation.{Operation}
use Rattle.rc_full_lists.specs.declared.parts.Operation.TheVariants.{Intersection, Difference, SymmetricDifference}
use Rattle.rc_full_lists.specs.declared.sides.Left as code
use Rattle.rc_full_lists.specs.declared.sides.Sides as sides

abbrev pub apply : Operation → CodeSet → CodeSet → CodeSet
apply Intersection = intersection
apply Difference = difference
apply SymmetricDifference = symmetric_difference

pub record Side : Type 0 where
  pub left : Option (CodeSet × Operation)
  pub items : CodeSet

abbrev pub no_codes : CodeSet
no_codes c = false

abbrev pub with_set : CodeSet → Side → Side
with_set p s = record { left = s.left; items = union s.items p }

-- All operators bind alike, less than the union of items, and from the left.
abbrev pub so_far_by : Option (CodeSet × Operation) → CodeSet → CodeSet
so_far_by None p = p
so_far_by (Some l) p = apply l.1 l.0 p

abbrev pub so_far : Side → CodeSet
so_far s = so_far_by s.left s.items

abbrev pub behind_operator : Operation → Side → Side
behind_operator o s = record { left = Some (so_far s, o); items = no_codes }

-- the ranges to the left are those of the set to the left
abbrev pub IsLeft : Bool → Option (code.Left) → Option (CodeSet × Operation) → Type 0
IsLeft unicode None None = Unit {0}
IsLeft unicode None (Some q) = ⊥
IsLeft unicode (Some l) None = ⊥
IsLeft unicode (Some l) (Some q) = AreRangesOf unicode q.0 (pairs l.class.items) × (l.operation ≡ q.1)

-- The ranges to the left are those of the set there, and the ranges of the items denote theirs.
pub record AreSides (unicode : Bool) (code : sides.Sides) (s : Side) : Type 0 where
  pub left : IsLeft unicode code.left s.left
  pub items : Denote unicode s.items (pairs code.items.items)

-- Whole lists: what stands behind a `[` up to its `]`, the codes that the list has, and how deep it is nested.
use Rattle.std.specs.Prelude.{ℕ, ◌+◌, max, Bool, Option, Some, None}
use Rattle.rc_tokens.specs.Text.{Characters}
use Rattle.rc_class_sets.specs.Sets.{CodeSet}
use Rattle.rc_class_sets.specs.Folding.{complement_if}
use Rattle.rc_full_lists.specs.declared.parts.Settings.{Settings}
use Rattle.rc_full_lists.specs.declared.parts.Part.TheVariants as part
use Rattle.rc_full_lists.specs.declared.parts.Operation.{Operation}
use Rattle.rc_full_lists.specs.declared.items.Item.{Item}
use Rattle.rc_full_lists.specs.declared.items.Item.TheVariants.{Codes}
use Rattle.rc_full_lists.specs.Items.{item_set}
use Rattle.rc_full_lists.specs.Parts.{Passes, IsPart}
use Rattle.rc_full_lists.specs.Openings.{IsOpening}
use Rattle.rc_full_lists.specs.Sides.{Side, no_codes, with_set, so_far, behind_operator}

-- How far a list is read: its sides, and how deep the deepest list in it is nested.
pub record Progress : Type 0 where
  pub side : Side
  pub deepest : ℕ

-- the item of one code
abbrev pub one : ℕ → Item
one c = Codes (record { start = c; end = c })

-- what leads is an item as any other
abbrev pub lead_set : Bool → Bool → Option ℕ → CodeSet
lead_set unicode fold None = no_codes
lead_set unicode fold (Some c) = item_set unicode fold (one c)

abbrev pub begun : CodeSet → Progress
begun p = record { side = record { left = None; items = p }; deepest = 0 }

abbrev pub with_item : CodeSet → Progress → Progress
with_item p r = record { side = with_set p r.side; deepest = r.deepest }

abbrev pub with_list : CodeSet → ℕ → Progress → Progress
with_list p depth r = record { side = with_set p r.side; deepest = max r.deepest depth }

abbrev pub operated : Operation → Progress → Progress
operated o r = record { side = behind_operator o r.side; deepest = r.deepest }

-- a `^` binds least: it negates all that stands behind it
abbrev pub list_set : Bool → Progress → CodeSet
list_set negated r = complement_if negated (so_far r.side)

module _ (s : Settings) (fold : Bool) where
  mutual
    -- What stands between the brackets from here on, up to the `]`, and the text behind that. With
    -- `fold` each item is folded before it is negated, and so before all else.
    pub data Inside : Progress → Characters → Progress → Characters → Type 0 where
      closes : (r : Progress) (t a u : Characters) → Passes s.verbose t a → IsPart s a part.Closes u → Inside r t r u
      item : (r end : Progress) (t a b u : Characters) (i : Item) → Passes s.verbose t a → IsPart s a (part.Has i) b →
          Inside (with_item (item_set s.unicode fold i) r) b end u → Inside r t end u
      operator : (r end : Progress) (t a b u : Characters) (o : Operation) → Passes s.verbose t a → IsPart s a (part.Operates o) b →
          Inside (operated o r) b end u → Inside r t end u
      nested : (r end : Progress) (t a b c u : Characters) (p : CodeSet) (depth : ℕ) → Passes s.verbose t a → IsPart s a part.Opens b →
          IsList b p depth c → Inside (with_list p depth r) c end u → Inside r t end u

    -- behind `[`: the codes of the list, how deep it is nested, and the text behind its `]`
    pub data IsList : Characters → CodeSet → ℕ → Characters → Type 0 where
      brackets : (t a u : Characters) (negated : Bool) (lead : Option ℕ) (end : Progress) → IsOpening s.verbose t negated lead a →
          Inside (begun (lead_set s.unicode fold lead)) a end u → IsList t (list_set negated end) (end.deepest + 1) u

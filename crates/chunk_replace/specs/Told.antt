-- Only proofs use this file.
-- What captures tell of the items of a template.
use Rattle.std.specs.Prelude.{ℕ, List, [], ◌∷◌}
use Rattle.std.specs.List.{flat_map}
use Rattle.rc_captures.specs.Captures.{group_span, named_span}
use Rattle.rc_captures.specs.declared.captures.Captures.{Captures}
use Rattle.rc_program.specs.Answer.{Search}
use Rattle.rc_program.specs.Sought.{search_for}
use Rattle.api_meta.specs.Left.{captures_input, captures_regex}
use Rattle.api_meta.specs.Views.{sought}
use Rattle.api_meta.specs.declared.iterators.CapturesMatches.{CapturesMatches}
use Rattle.chunk_replace.specs.declared.template.Part.{Part}
use Rattle.chunk_replace.specs.Template.{Item, byte, group, named, items_of}
use Rattle.chunk_replace.specs.Spans.{bytes_in}

-- what is searched for the matches that are left
abbrev pub searched : {C : Type 0} → CapturesMatches C → Search
searched s = search_for (sought (captures_regex s)) (captures_input s)

-- the bytes for an item, by what the captures hold
abbrev pub told : List ℕ → Captures → Item → List ℕ
told content caps (byte b) = b ∷ []
told content caps (group n) = bytes_in content (group_span caps n)
told content caps (named name) = bytes_in content (named_span caps name)

-- for a part
abbrev pub told_part : List ℕ → Captures → Part → List ℕ
told_part content caps p = flat_map (told content caps) (items_of p)

-- and for some, one after another
abbrev pub told_parts : List ℕ → Captures → List Part → List ℕ
told_parts content caps ps = flat_map (told content caps) (flat_map items_of ps)

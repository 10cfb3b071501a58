-- Only proofs use this file.
-- The ranges of a list, an item at a time.
use Rattle.std.specs.Prelude.{ℕ, Bool, true, false, nat_le, List, [], ◌∷◌, ◌++◌, Option, Some, None}
use Rattle.rc_pattern.specs.Re.{Range}
use Rattle.rc_tokens.specs.Text.{◌>>=◌, ◌>>◌}
use Rattle.rc_tokens.specs.Classes.{perl_ranges, code_of, items, led_items}
use Rattle.rc_tokens.specs.declared.tokens.Member.{Member}
use Rattle.rc_tokens.specs.declared.tokens.Member.TheVariants.{Character, Byte, Hyphen}
use Rattle.rc_tokens.specs.declared.tokens.Member.TheVariants as member

-- the ranges so far, whether a range stands before what is left, and that
abbrev pub Taken : Type 0
Taken = List Range × (Bool × List Member)

abbrev pub taken : List Range → Bool → List Member → Option Taken
taken done after ms = Some (done, (after, ms))

abbrev pub may_be_itself : Bool → List Member → Bool
may_be_itself after [] = true
may_be_itself after (Hyphen ∷ ms) = false
may_be_itself after (Character c ∷ ms) = after
may_be_itself after (Byte b ∷ ms) = after
may_be_itself after (member.Perl p ∷ ms) = after

abbrev pub is_hyphen : Member → Bool
is_hyphen Hyphen = true
is_hyphen (Character c) = false
is_hyphen (Byte b) = false
is_hyphen (member.Perl p) = false

abbrev pub range_end : List Member → Option (Member × List Member)
range_end [] = None
range_end (x ∷ []) = None
range_end (x ∷ b ∷ ms) = is_hyphen x >> Some (b, ms)

abbrev pub ends_range : Bool → ℕ → List Range → Member × List Member → Option Taken
ends_range unicode c done r = code_of unicode r.0 >>= λ high. nat_le c high >> taken (done ++ (c, high) ∷ []) true r.1

abbrev pub ranged_to : Bool → ℕ → List Member → List Range → Option (Member × List Member) → Option Taken
ranged_to unicode c ms done None = taken (done ++ (c, c) ∷ []) false ms
ranged_to unicode c ms done (Some r) = ends_range unicode c done r

-- c, or a range that begins with it
abbrev pub ranged : Bool → ℕ → List Member → List Range → Option Taken
ranged unicode c ms done = ranged_to unicode c ms done (range_end ms)

-- the item at the front
abbrev pub item : Bool → Bool → Member → List Member → List Range → Option Taken
item unicode after Hyphen ms done = may_be_itself after ms >> taken (done ++ (45, 45) ∷ []) false ms
item unicode after (member.Perl p) ms done = taken (done ++ perl_ranges unicode p) false ms
item unicode after (Character c) ms done = code_of unicode (Character c) >>= λ c. ranged unicode c ms done
item unicode after (Byte b) ms done = code_of unicode (Byte b) >>= λ c. ranged unicode c ms done

-- the ranges so far, and those of what is left
abbrev pub more : Bool → Bool → List Member → List Range → Option (List Range)
more unicode after ms done = items unicode after ms >>= λ rs. Some (done ++ rs)

abbrev pub led_more : Bool → List Member → List Range → Option (List Range)
led_more unicode ms done = led_items unicode ms >>= λ rs. Some (done ++ rs)

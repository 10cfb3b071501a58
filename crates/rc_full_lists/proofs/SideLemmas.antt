-- The ranges of the sides of a list.
use Rattle.std.proofs.Common.{Bool, List, [], Option, Some, None, sym, subst, true≢false}
use Rattle.rc_pattern.specs.Re.{Range}
use Rattle.rc_tokens.specs.ClassView.{pairs}
use Rattle.rc_class_sets.specs.Sets.{CodeSet, Denote, AreRangesOf}
use Rattle.rc_full_lists.specs.declared.parts.Operation.{Operation}
use Rattle.rc_full_lists.specs.declared.sides.Left as code
use Rattle.rc_full_lists.specs.Sides.{no_codes, apply, so_far_by, IsLeft}

-- no ranges denote the empty set
pub no_ranges : (unicode : Bool) → Denote unicode no_codes []
no_ranges unicode = record { codes = tt; members = λ c is. ((λ h. absurd h), (λ h. absurd (true≢false (sym h)))) }

-- with an operator under way
pub far_left : (u : Bool) (l : code.Left) (q : Option (CodeSet × Operation)) (p : CodeSet) → IsLeft u (Some l) q →
    (a : CodeSet) × AreRangesOf u a (pairs l.class.items) × ((rs : List Range) → AreRangesOf u (apply l.operation a p) rs → AreRangesOf u (so_far_by q p) rs)
far_left u l None p h = absurd h
far_left u l (Some q) p h = (q.0, h.0, λ rs is. subst (λ o. AreRangesOf u (apply o q.0 p) rs) h.1 is)

pub far_none : (u : Bool) (q : Option (CodeSet × Operation)) (p : CodeSet) (rs : List Range) → IsLeft u None q → AreRangesOf u p rs → AreRangesOf u (so_far_by q p) rs
far_none u None p rs h is = is
far_none u (Some q) p rs h is = absurd h

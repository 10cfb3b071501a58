-- Only proofs use this file.
-- Search rules: which walk of the least start a search chooses.
use Rattle.std.specs.Prelude.{ℕ, ◌+◌, ◌<◌, List, [], ◌++◌, map, Option}
use Rattle.rc_text.specs.declared.types.MatchKind.{MatchKind}
use Rattle.rc_text.specs.declared.types.MatchKind.TheVariants.{LeftmostFirst as leftmost_first, LeftmostLongest as leftmost_longest}
use Rattle.rc_program.specs.Answer.{Search, Chosen, chosen}
use Rattle.rc_program.specs.Longest.{longest_chosen}
use Rattle.rc_pikevm.specs.Sights.{Sight}
use Rattle.rc_pikevm.specs.Trace.{Trace}
use Rattle.rc_walks.specs.Walks.{Pair}
use Rattle.rc_pikevm.specs.Threads.{ThreadList}
use Rattle.rc_pikevm.specs.Passing.{GivesTrace, Pending, Tells, pending}
use Rattle.rc_pikevm.specs.Races.{GivesLongest, Races, starts_to}
use Rattle.rc_pikevm.specs.declared.pass.Ending.{Ending}
use Rattle.rc_pikevm.specs.declared.rule.Rule.{Rule}
use Rattle.rc_pikevm.specs.declared.rule.Rule.TheVariants.{First, Longest}

-- The kind of match that the rule chooses.
abbrev pub kind_of : Rule → MatchKind
kind_of (First root) = leftmost_first
kind_of Longest = leftmost_longest

-- The place at which walks enter is one of the n places, and stands for place 0.
abbrev pub MayEnter : ℕ → (ℕ → Type 0) → Rule → Type 0
MayEnter n Stands (First root) = (root < n) × Stands root
MayEnter n Stands Longest = Unit {0}

-- The walk that a search chooses.
abbrev pub picked_by : Rule → Search → Option Chosen
picked_by (First root) s = chosen s
picked_by Longest s = longest_chosen s

-- The place at which walks enter.
abbrev pub root_of : Rule → ℕ
root_of (First root) = root
root_of Longest = 0

-- By the rule, the one or the other.
abbrev pub Under : Rule → Type 0 → Type 0 → Type 0
Under (First root) A B = A
Under Longest A B = B

-- What a pass over the starts from `from` to `last` gives.
abbrev pub GivesBy : Rule → Sight → ℕ → ℕ → ℕ → Option Trace → Type 0
GivesBy rule s width from last o = Under rule (GivesTrace s width from last o) (GivesLongest s width from last o)

-- What a pass for the first walk tells, also if it ends where some walk does.
abbrev pub TellsBy : Rule → Sight → ℕ → ℕ → Option Ending → Type 0
TellsBy rule s from last best = Under rule (Tells s from last best) (Unit {0})

-- What is under way before the next position gives what is under way before `at`.
abbrev pub Turns : Rule → Sight → ℕ → ℕ → ℕ → ThreadList → ThreadList → Option Ending → Option Ending → List (Option ℕ) → List (Option ℕ) → Type 0
Turns rule s width last at curr next best best2 found found2 =
    Under rule
    ((o : Option Trace) → Pending s width last (at + 1) next.items best2 found2 o → Pending s width last at curr.items best found o)
    ((all : List (Trace × Pair)) → Races s all at [] [] (map pending curr.items ++ starts_to width at last) best found →
    Races s all (at + 1) [] [] (map pending next.items ++ starts_to width (at + 1) last) best2 found2)

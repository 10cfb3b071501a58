-- What holds of all searches.
use Rattle.std.specs.Prelude.{◌≡◌}
use Rattle.rc_text.specs.Text.{Searched, Keeps}
use Rattle.rc_program.specs.Sought.{Sought, search_for}

-- the same is searched where the shown chunk and the position alone differ
abbrev pub CuttingLaw : Type 0
CuttingLaw = (q : Sought) (s t : Searched) → Keeps s t → search_for q t ≡ search_for q s

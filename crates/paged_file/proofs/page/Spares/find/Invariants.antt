use Rattle.std.proofs.Common.{◌≡◌, ◌<◌, ℕ, Some}
use Rattle.std.specs.List.{slice_get}
use Rattle.paged_file.specs.Kept.{IsPageAt}
use Rattle.paged_file.specs.declared.page.Page.{Page}
use Rattle.paged_file.proofs.page.Spares.find.Given as goal

-- none was found so far
abbrev pub invariant-loop-slot : goal.invariant-loop-slot
invariant-loop-slot l = (k : ℕ) (p : Page) → k < l.slot → slice_get l.self.pages.items k ≡ Some p → IsPageAt l.at p → ⊥

use Rattle.std.proofs.Common.{◌≡◌, ◌<◌, ◌≤◌, ℕ, Some, length}
use Rattle.std.specs.List.{slice_get}
use Rattle.paged_file.specs.declared.page.Page.{Page}
use Rattle.paged_file.proofs.page.Spares.oldest.Given as goal

-- it's the oldest so far
abbrev pub invariant-loop-slot : goal.invariant-loop-slot
invariant-loop-slot l = record {
  within : l.oldest < length l.self.pages.items;
  least : (k : ℕ) (a b : Page) → k < l.slot → slice_get l.self.pages.items l.oldest ≡ Some a → slice_get l.self.pages.items k ≡ Some b → a.number ≤ b.number;
}

use Rattle.std.proofs.Common.{◌≡◌, ℕ, All, List, vec_len}
use Rattle.paged_file.specs.Kept.{IsHeld}
use Rattle.paged_file.proofs.page.Spares.new.Given as goal

abbrev pub invariant-loop : goal.invariant-loop
invariant-loop l = record {
  count : vec_len l.pages ≡ l.counter;
  each : (bytes : List ℕ) → All (IsHeld bytes l.page_len) l.pages.items;
}

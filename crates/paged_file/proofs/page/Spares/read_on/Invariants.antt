use Rattle.std.proofs.Common.{◌≡◌, ◌-◌, length, vec_capacity, vec_len}
use Rattle.paged_file.specs.Kept.{AreHeld, room_of}
use Rattle.paged_file.proofs.page.Spares.read_on.Given as goal

abbrev pub invariant-loop-slot : goal.invariant-loop-slot
invariant-loop-slot g l = record {
  stored : g.P.Pages.stored l.file ≡ g.P.Pages.stored l.fn.file;
  count : vec_len l.self.pages ≡ vec_len l.fn.self.pages;
  held : AreHeld (g.P.Pages.stored l.fn.file).bytes l.page_len l.self.pages.items;
  room : room_of l.self.pages.items ≡ room_of l.fn.self.pages.items;
  entries : vec_capacity l.self.pages ≡ vec_capacity l.fn.self.pages;
}

abbrev pub decreases-loop-slot : goal.decreases-loop-slot
decreases-loop-slot g l = length (g.P.Pages.stored l.fn.file).bytes - l.at

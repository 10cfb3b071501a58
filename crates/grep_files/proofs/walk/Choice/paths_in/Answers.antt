use Rattle.std.proofs.Common.{List, String, subst, sym, string_bytes}
use Rattle.std.specs.Prelude.{All}
use Rattle.std.specs.declared.alloc.Global.{Global}
use Rattle.std.proofs.lemmas.List.Elements.{All-push}
use Rattle.std.proofs.lemmas.List.Sorted.{All-permutation}
use Rattle.grep_files.specs.Walks.{IsEntry}
use Rattle.grep_files.proofs.walk.Choice.paths_in.Goals as goal

pub loop-entry-preserved-in-Continue-1 : goal.loop-entry-preserved-in-Continue-1
loop-entry-preserved-in-Continue-1 c =
    let P : String Global → Type 0 = λ p. IsEntry c.args.self.now (string_bytes p) in
    subst (λ (l : List (String Global)). All P l) (sym {A = List (String Global)} c.in_ok-push-in-Ok-Some.ensures.items)
    (All-push P c.loop-entry.paths.items c.in-Ok-Some.path c.loop-entry.invariant (rw c.in-Ok-Some.field-0-is at c.in-Ok-Some.ensures))

pub returns : goal.returns
returns c = record {
  ordered = c.in_ok-sort.ensures.sorted;
  taken = All-permutation (λ (p : String Global). IsEntry c.args.self.now (string_bytes p)) c.loop-entry.paths.items c.sort.new.self.items c.in_ok-sort.ensures.permutation
      c.loop-entry.invariant;
}

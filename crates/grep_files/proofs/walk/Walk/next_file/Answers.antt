use Rattle.std.proofs.Common.{◌∙◌, arith, refl, subst}
use Rattle.std.specs.Prelude.{IsTrue}
use Rattle.grep_files.specs.Walks.{IsOpen}
use Rattle.grep_files.specs.Walks.GoesOn.{there}
use Rattle.grep_files.proofs.WalkLemmas.{entered_more}
use Rattle.grep_files.proofs.walk.Walk.next_file.Goals as goal

pub loop-init : goal.loop-init
loop-init c = record { choice = refl; went = there }

pub returns-in-Err-clause-found : goal.returns-in-Err-clause-found
returns-in-Err-clause-found c =
    let is : IsTrue c.is_folder.result = first_of (assumption (c.if-not-is_folder.false), grind (arith, c.if-not-is_folder.false)) in
    entered_more c.args.self.now.choice c.loop.self.choice c.args.self.now.left.items c.loop.self.left.items c.pop_front.new.self.items c.enter.new.self.left.items
    c.enter.ensures.entries c.in-Some.file c.as_str.result.now c.loop.invariant.went c.in-Some.ensures.items c.loop.invariant.choice (c.is_folder.ensures is) c.as_str.ensures.value
    c.enter.ensures.are
    (subst (λ path. IsOpen c.loop.self.choice path c.enter.ensures.entries) c.as_str-in-loop.ensures.value c.enter.ensures.none_shut) c.enter.ensures.is

pub loop-preserved : goal.loop-preserved
loop-preserved c =
    let is : IsTrue c.is_folder.result = first_of (assumption (c.if-not-is_folder.false), grind (arith, c.if-not-is_folder.false)) in
    record {
      choice = c.enter.ensures.choice ∙ c.loop.invariant.choice;
      went = entered_more c.args.self.now.choice c.loop.self.choice c.args.self.now.left.items c.loop.self.left.items c.pop_front.new.self.items c.enter.new.self.left.items
          c.enter.ensures.entries c.in-Some.file c.as_str.result.now c.loop.invariant.went c.in-Some.ensures.items c.loop.invariant.choice (c.is_folder.ensures is)
          c.as_str.ensures.value c.enter.ensures.are
          (subst (λ path. IsOpen c.loop.self.choice path c.enter.ensures.entries) c.as_str-in-loop.ensures.value c.enter.ensures.none_shut) c.enter.ensures.is;
    }

use Rattle.std.proofs.Common.{refl, rules, true, Some, None, Ok, Err, subst, sym}
use Rattle.std.specs.Fn.{always_mut}
use Rattle.rc_iter.specs.Finders.{IsLawfulFinder, offset_of}
use Rattle.rc_iter.proofs.Going.{is_going}
use Rattle.rc_iter.proofs.halves.TryHalfMatchesOfIterator.next.Goals as goal

pub next_by-requires-clause-callable : goal.next_by-requires-clause-callable
next_by-requires-clause-callable g c = subst (λ s. always_mut g.F.FnMut s.finder) (sym c.self.view_is) c.requires.0

pub next_by-requires-clause-lawful : goal.next_by-requires-clause-lawful
next_by-requires-clause-lawful g c =
    subst (λ s. IsLawfulFinder offset_of offset_of g.I.KeptInput.searched g.F.FnMut s.finder) (sym c.self.view_is) c.requires.1

pub returns-in-Ok-Some-clause-steps : goal.returns-in-Ok-Some-clause-steps
returns-in-Ok-Some-clause-steps g c =
    let h = c.next_by.ensures in (
      is_going g.I.KeptInput.searched g.F.FnMut c.args.self.now _
          (record { searcher = c.next_by.new.self; finder = c.next_by.new.finder; is_done = c.self.inside.is_done }) c.next_by.result
          (Some (Ok c.in-Ok-Some.found)) (search rules) c.self.view_is c.if-self.false c.if-self.false
          (h.exact, h.failed, h.within, h.rises, h.leaves) h.stays,
      h.callable,
      h.lawful,
    )

pub returns-in-Ok-None-clause-steps : goal.returns-in-Ok-None-clause-steps
returns-in-Ok-None-clause-steps g c =
    let h = c.next_by.ensures in (
      is_going g.I.KeptInput.searched g.F.FnMut c.args.self.now _
          (record { searcher = c.next_by.new.self; finder = c.next_by.new.finder; is_done = true }) c.next_by.result None (search rules)
          c.self.view_is c.if-self.false refl (h.exact, h.failed, h.within, h.rises, h.leaves) h.stays,
      h.callable,
      h.lawful,
    )

-- the finder's error is the last item
pub returns-in-Err-clause-steps : goal.returns-in-Err-clause-steps
returns-in-Err-clause-steps g c =
    let h = c.next_by.ensures in (
      is_going g.I.KeptInput.searched g.F.FnMut c.args.self.now _
          (record { searcher = c.next_by.new.self; finder = c.next_by.new.finder; is_done = true }) c.next_by.result (Some (Err c.in-Err.e))
          (search rules) c.self.view_is c.if-self.false refl (h.exact, h.failed, h.within, h.rises, h.leaves) h.stays,
      h.callable,
      h.lawful,
    )

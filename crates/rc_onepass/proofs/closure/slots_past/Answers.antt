use Rattle.std.proofs.Common.{arith, subst, sym}
use Rattle.rc_program.specs.Places.{place_of}
use Rattle.rc_onepass.specs.OnePass.{named}
use Rattle.rc_onepass.specs.Rows.{Names}
use Rattle.rc_onepass.proofs.LinkLemmas.{link_named}
use Rattle.rc_onepass.proofs.closure.slots_past.Goals as goal

pub returns-clause-names : goal.returns-clause-names
returns-clause-names c ks names =
    subst (λ p. Names c.push.new.self.items c.len.result (named (place_of p) ks)) (sym c.in-Slot.is)
    (link_named c.args.links.now.items c.push.new.self.items (record { slot = c.in-Slot.slot; before = c.args.slots }) c.len.result ks
    c.in_ok-push.ensures.items (let e = c.len.ensures in let o = c.push.new.self.ok.0 in omega (arith, e, o)) names)

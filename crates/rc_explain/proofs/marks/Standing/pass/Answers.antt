use Rattle.rc_explain.proofs.Begins.{open_more}
use Rattle.rc_explain.proofs.marks.Standing.pass.Goals as goal

pub returns-in-Flagged : goal.returns-in-Flagged
returns-in-Flagged c = λ text opens held.
    open_more text c.args.token.now c.in-Opens.opening c.args.at c.args.self.now.groups.items c.push.new.self.items c.args.self.now.is_unicode
    c.in-Opens.is c.in_ok-push-in-Opens.ensures.items opens held

pub returns-in_ok-push-in-Named : goal.returns-in_ok-push-in-Named
returns-in_ok-push-in-Named c = λ text opens held.
    open_more text c.args.token.now c.in-Opens.opening c.args.at c.args.self.now.groups.items c.push.new.self.items c.args.self.now.is_unicode
    c.in-Opens.is c.in_ok-push-in-Opens.ensures.items opens held

pub returns-in-Capturing : goal.returns-in-Capturing
returns-in-Capturing c = λ text opens held.
    open_more text c.args.token.now c.in-Opens.opening c.args.at c.args.self.now.groups.items c.push.new.self.items c.args.self.now.is_unicode
    c.in-Opens.is c.in_ok-push-in-Opens.ensures.items opens held

use Rattle.std.proofs.Common.{refl}
use Rattle.rcsub.proofs.Standing.{ready_fed, stands_fed}
use Rattle.rcsub.proofs.streamed.Streamed.feed.Goals as goal

pub returns-clause-ready : goal.returns-clause-ready
returns-clause-ready c =
    ready_fed c.args.page.now c.args.self.now _ c.requires.ready c.requires.close c.in_ok-feed.ensures.takes refl refl refl

pub returns-clause-stands : goal.returns-clause-stands
returns-clause-stands c = λ items fed told old new st.
    stands_fed items fed c.args.page.now told c.args.self.now _ old new st (c.in_ok-feed.ensures.fed fed told st.was) c.in_ok-feed.ensures.takes refl refl

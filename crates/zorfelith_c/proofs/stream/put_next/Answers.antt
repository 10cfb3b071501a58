use Rattle.std.proofs.Common.{inl, inr, refl, subst, sym}
use Rattle.rc_text.specs.Found.{Found}
use Rattle.zorfelith_c.specs.Streams.{IsTold}
use Rattle.zorfelith_c.proofs.stream.put_next.Goals as goal

pub returns-in-Some-clause-answered : goal.returns-in-Some-clause-answered
returns-in-Some-clause-answered c =
    let next = c.in-Some.ensures in
    let told : IsTold c.in-Some.m c.args.stream.now c.next_match.new.self = record {
      stays = next.stays;
      onward = next.lies.0;
      order = next.lies.1;
      inside = next.lies.2;
      falls = next.falls;
      told = next.told;
    } in
    inl (refl, subst (λ (m : Found). IsTold m c.args.stream.now c.next_match.new.self) (sym c.of.ensures) told)

pub returns-in-None-clause-answered : goal.returns-in-None-clause-answered
returns-in-None-clause-answered c =
    let next = c.in-None.ensures in
    inr (
      refl,
      record {
        stays = next.stays;
        same = next.told;
        all = λ fed told was ends. next.all fed told was ends refl;
      },
    )

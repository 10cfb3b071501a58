use Rattle.std.proofs.Common.{inl, inr, refl, rules}
use Rattle.rc_explain.specs.Shown.{Stands}
use Rattle.rc_explain.proofs.FullMarks.{named_at}
use Rattle.rc_explain.proofs.Tokens.{name_long, name_short}
use Rattle.rc_explain.proofs.openings.name_of.Goals as goal

pub returns-then-is_at : goal.returns-then-is_at
returns-then-is_at c =
    let letter : Stands c.args.text.now 2 80 = search rules in
    let end = c.saturating_sub-end.ensures in
    record {
      stated = λ name token. name_long c.args.text.now name c.args.count c.saturating_sub-end.result letter end token;
      full = λ name fits opens. named_at c.args.text.now name c.args.count c.saturating_sub-end.result 4 fits end opens (inl (letter, refl));
    }

pub returns-else-is_at : goal.returns-else-is_at
returns-else-is_at c =
    let none : Stands c.args.text.now 2 80 → ⊥ = search rules in
    let end = c.saturating_sub-end.ensures in
    record {
      stated = λ name token. name_short c.args.text.now name c.args.count c.saturating_sub-end.result none end token;
      full = λ name fits opens. named_at c.args.text.now name c.args.count c.saturating_sub-end.result 3 fits end opens (inr (none, refl));
    }

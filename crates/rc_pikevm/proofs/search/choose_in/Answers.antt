use Rattle.std.proofs.Common.{ℕ, ◌-◌, ◌∙◌, List, Option, None, ap, slice_index_or, sym}
use Rattle.rc_program.specs.Answer.{Search}
use Rattle.rc_program.specs.Columns.{range_of, row_width}
use Rattle.rc_program.specs.Programs.{search_of}
use Rattle.rc_pikevm.proofs.RuleLemmas.{spread_by}
use Rattle.rc_pikevm.proofs.search.choose_in.Goals as goal

pub returns-in-Some-clause-chosen : goal.returns-in-Some-clause-chosen
returns-in-Some-clause-chosen g c =
    let s : Search = search_of c.args.program.now c.args.input.now in
    let e = c.in-Some.end in
    let r = c.in-Some.ensures.chosen in (
      r.0,
      spread_by c.args.rule s c.args.program.now.own e c.choose.new.scratch.found.items c.put_groups.new.slots
          (record {
            wide = c.choose.new.scratch.wide.0 ∙ c.in-Some.ensures.same.width ∙ c.widen.ensures.width ∙ c.width.ensures
                ∙ ap (row_width s.places) (sym c.put_groups.ensures.long);
            own = λ k l a. c.put_groups.ensures.own k l a
                ∙ ap (λ (row : List (Option ℕ)). slice_index_or row (k - (range_of s.places e.pattern).first) None) c.deref.ensures.value;
            others = c.put_groups.ensures.others;
          }) r.0 r.1,
    )

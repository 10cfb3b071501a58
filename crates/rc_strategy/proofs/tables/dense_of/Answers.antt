use Rattle.std.proofs.Common.{◌⊎◌, ⊎_elim, inl, inr, ap, sym, subst, ◌∙◌, not, true≢false, length}
use Rattle.rc_dfa.specs.Automata.{machine_of, samples_of}
use Rattle.rc_dfa.specs.Machine.{bytes, Machine}
use Rattle.rc_dfa.specs.declared.automaton.Direction.TheVariants.{Backwards, Forwards}
use Rattle.rc_dense_dfa.specs.Makes.{IsRefused}
use Rattle.rc_strategy.proofs.LimitLemmas.{exceeds_from, exceeds_so, tables_by, too_heavy}
use Rattle.rc_strategy.proofs.tables.dense_of.Goals as goal

pub returns-then-exceeds-clause-none : goal.returns-then-exceeds-clause-none
returns-then-exceeds-clause-none g c none =
    inl (inr (exceeds_so c.args.engine.now g.hs c.args.automaton.now c.requires.0 c.args.limits.state_limit c.places_len.result
    (c.places_len.ensures Forwards) (c.exceeds.ensures.0 c.if-exceeds.true)))

pub new-requires : goal.new-requires
new-requires g c = let of = c.requires.0 in ap (λ (m : Machine). m.alphabet) of.ahead

pub returns-in-Ok-clause-fit : goal.returns-in-Ok-clause-fit
returns-in-Ok-clause-fit g c =
    (tables_by bytes c.args.engine.now g.hs c.args.automaton.now c.requires.0 c.args.patterns c.in-Ok.tables c.requires.1.0 c.requires.1.1.0
    c.requires.1.1.1 c.in-Ok.ensures.halves).are_halves

pub returns-in-Ok-clause-read : goal.returns-in-Ok-clause-read
returns-in-Ok-clause-read g c =
    tables_by bytes c.args.engine.now g.hs c.args.automaton.now c.requires.0 c.args.patterns c.in-Ok.tables c.requires.1.0 c.requires.1.1.0
    c.requires.1.1.1 c.in-Ok.ensures.halves

pub returns-in-Ok-clause-off : goal.returns-in-Ok-clause-off
returns-in-Ok-clause-off g c off =
    absurd (⊎_elim
    (λ none. true≢false (sym (ap not none) ∙ c.if-not-limits.false))
    (λ more. true≢false (sym (c.exceeds.ensures.1 (exceeds_from c.args.engine.now g.hs c.args.automaton.now c.requires.0 c.args.limits.state_limit
    c.places_len.result (c.places_len.ensures Forwards) more)) ∙ c.if-exceeds.false))
    off)

pub returns-in-Err-TooBig-clause-none : goal.returns-in-Err-TooBig-clause-none
returns-in-Err-TooBig-clause-none g c none =
    let a = c.args.automaton.now in
    let limit = c.args.limits.size_limit in
    inr (too_heavy c.args.engine.now g.hs a c.requires.0 c.args.limits
    (subst (λ e. IsRefused (machine_of a Forwards) (length (samples_of a)) limit e ⊎ IsRefused (machine_of a Backwards) (length (samples_of a)) limit e)
    c.in-Err-TooBig.field-0-is c.in-Err-TooBig.ensures.refused))

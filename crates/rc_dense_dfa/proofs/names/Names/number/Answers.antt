use Rattle.std.proofs.Common.{◌≡◌, ◌∙◌, ◌+◌, ◌-◌, ◌*◌, ◌<◌, ◌++◌, ◌∷◌, [], ap, refl, subst, arith, length}
use Rattle.std.proofs.lemmas.List.{length_push}
use Rattle.rc_determinize.specs.Places.{state_of}
use Rattle.rc_dfa.specs.Keys.{IsAbsent, IsFound}
use Rattle.rc_dfa.proofs.ListLemmas.{get_more, get_last}
use Rattle.rc_dense_dfa.proofs.NameLemmas.{more_states, weighed_more, too_heavy}
use Rattle.rc_dense_dfa.proofs.names.Names.number.Goals as goal
use Rattle.rc_dense_dfa.proofs.names.Names.number.Goals.{In_default-weigh, In_ok-add}

pub returns-in_default-weigh-clause-refused : goal.returns-in_default-weigh-clause-refused
returns-in_default-weigh-clause-refused g c =
    let n = c.args.self.now in
    let s = state_of c.args.state.now in
    let absent : IsAbsent n.states s = subst (IsFound n.states s) c.in_default.is c.in_ok-number.ensures.found in
    let len : c.len.result ≡ length s.list = c.len.ensures ∙ c.args.state.now.list.ok.0 in
    too_heavy g.m n.width n.states s n.weight (8 * (n.width + 1) + 32 + 8 * c.len.result) n.limit (ap (λ l. 8 * (n.width + 1) + 32 + 8 * l) len)
    c.requires.0.weighed c.in_default-weigh.ensures.weight (more_states g.m n.states s c.requires.0.are_states c.requires.1 absent)

longer : (g : _) (c : In_ok-add g) → c.add.new.self ≡ c.args.self.now.states ++ state_of c.args.state.now ∷ []
longer g c = c.in_ok-add.ensures.added ∙ ap (λ ss. ss ++ state_of c.args.state.now ∷ []) c.in_ok-number.ensures.kept

pub returns-clause-named : goal.returns-clause-named
returns-clause-named g c =
    let n = c.args.self.now in
    let s = state_of c.args.state.now in
    let absent : IsAbsent n.states s = subst (IsFound n.states s) c.in_default.is c.in_ok-number.ensures.found in
    let len : c.len.result ≡ length s.list = c.len.ensures ∙ c.args.state.now.list.ok.0 in
    let number : c.len-number.result ≡ length n.states = c.len-number.ensures ∙ ap length c.in_ok-number.ensures.kept in
    let room : n.width < 2305843009213693952 - length n.states * n.width = subst (λ k. n.width < 2305843009213693952 - k * n.width) number c.if-self-number.false in
    let small = c.requires.0.small in
    rw (longer g (goal.at.returns-clause-named g c).In_ok-add) (record {
      machine = c.requires.0.machine;
      are_states = more_states g.m n.states s c.requires.0.are_states c.requires.1 absent;
      wide = c.requires.0.wide;
      small = rw length_push (omega arith);
      light = c.in-Some-weigh.ensures.light;
      weighed = weighed_more g.m n.width n.states s n.weight c.in-Some-weigh.weight (8 * (n.width + 1) + 32 + 8 * c.len.result) n.limit (ap (λ l. 8 * (n.width + 1) + 32 + 8 * l) len)
          c.requires.0.weighed c.in-Some-weigh.ensures.weight;
    })

pub returns-clause-grows : goal.returns-clause-grows
returns-clause-grows g c =
    let n = c.args.self.now in
    rw (longer g (goal.at.returns-clause-grows g c).In_ok-add) (record {
      width = refl;
      limit = refl;
      kept = λ id t e. get_more n.states (state_of c.args.state.now ∷ []) id t e;
    })

pub returns-clause-number : goal.returns-clause-number
returns-clause-number g c =
    let n = c.args.self.now in
    let number : c.len-number.result ≡ length n.states = c.len-number.ensures ∙ ap length c.in_ok-number.ensures.kept in
    rw (longer g (goal.at.returns-clause-number g c).In_ok-add, number) (get_last n.states (state_of c.args.state.now))

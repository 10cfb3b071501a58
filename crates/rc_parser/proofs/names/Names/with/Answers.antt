use Rattle.std.proofs.Common.{◌≡◌, [], ◌∷◌, ◌++◌, map, string_bytes, ap, sym, ◌∙◌}
use Rattle.rc_parser.specs.Grammar.{is_named}
use Rattle.rc_parser.proofs.NameLemmas.{named_with}
use Rattle.rc_parser.proofs.SpineLemmas.{map-append}
use Rattle.rc_parser.proofs.names.Names.with.Goals as goal

pub invariant_of-result : goal.invariant_of-result
invariant_of-result c =
    let names = c.args.self.list.items in
    let listed = c.in_ok-copy_of.field-0 in
    let key = c.in_ok-copy_of-2.field-0 in
    let alike : string_bytes key ≡ string_bytes listed = c.in_ok-copy_of-2.ensures ∙ sym c.in_ok-copy_of.ensures in
    let longer : map string_bytes names ++ string_bytes key ∷ [] ≡ map string_bytes c.push.new.self.items =
    ap (λ x. map string_bytes names ++ x ∷ []) alike ∙ sym (map-append string_bytes names (listed ∷ [])) ∙ ap (map string_bytes) (sym c.in_ok-push.ensures.items) in
    record {
      same = λ q. named_with (string_bytes key) (map string_bytes names) c.args.self.set c.insert.new.self c.in_ok-insert.ensures.updates c.args.self.same q ∙ ap (is_named q) longer;
    }

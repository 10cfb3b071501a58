use Rattle.std.proofs.Common.{refl}
use Rattle.rc_pattern.proofs.PlainNodeLemmas.{plain_behind, plain_node_of}
use Rattle.rc_parser.proofs.nested.Parts.push.Goals as goal

pub invariant_of-self-2 : goal.invariant_of-self-2
invariant_of-self-2 c =
    let added = c.args.added.hir in record {
      plain = plain_behind c.args.self.now.hirs.items c.push.new.self.items added c.in_ok-push.ensures.items c.args.self.now.plain
          (plain_node_of added added.kind refl c.args.added.plain);
    }

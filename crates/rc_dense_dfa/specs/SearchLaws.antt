-- Only proofs use this file.
-- DFA searches: they change nothing.
use Rattle.std.proofs.Common.{Bool, arith}
use Rattle.rc_table_search.specs.Views.{IsLawful}
use Rattle.rc_dense_dfa.specs.Searches.{view_of}
use Rattle.rc_dense_dfa.specs.declared.dense.Dense.{Dense}

pub lawful : (d : Dense) (backwards : Bool) → IsLawful (view_of d backwards)
lawful d backwards = record {
  reads = λ m of. let table = of.0.1 in table.reads;
  spends_nothing = λ a n. tt;
  spends_both = λ a b c n k x y. tt;
  spends_within = λ a b n k le x. tt;
  gives_up_later = λ a b c n k memory x y. y;
  gives_up_within = λ a b n k memory le x. x;
  era_rises = λ a b n x. omega arith;
  holds = λ a b n x cache same below. record {
    is_row = λ row y. y;
    has_state = λ m row s y z. z;
  };
}

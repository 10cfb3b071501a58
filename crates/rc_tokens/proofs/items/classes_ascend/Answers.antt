use Rattle.rc_tokens.proofs.ClassLemmas.{class_codes, class_ascending, list_codes}
use Rattle.rc_tokens.proofs.items.classes_ascend.Goals as goal

pub returns-clause-classes : goal.returns-clause-classes
returns-clause-classes c = λ u fold negated rs h. (class_codes u fold negated rs h, class_ascending u fold negated rs h)

pub returns-clause-lists : goal.returns-clause-lists
returns-clause-lists c = λ u bracket ms rs h. list_codes u bracket ms rs h

use Rattle.std.proofs.Common.{true, false, refl, rules}
use Rattle.std.specs.Prelude.{codes}
use Rattle.ipdl_term.specs.Rules.{heading_named}
use Rattle.ipdl_term.proofs.RuleWords.{at_word, unknown_word}
use Rattle.ipdl_term.proofs.words.plain_rule.Goals as goal

pub returns-in-beta-clause-plain : goal.returns-in-beta-clause-plain
unfolding heading_named
returns-in-beta-clause-plain c = at_word (codes "beta") c.args.word.now true (search rules) refl

pub returns-in-eta-clause-plain : goal.returns-in-eta-clause-plain
unfolding heading_named
returns-in-eta-clause-plain c = at_word (codes "eta") c.args.word.now true (search rules) refl

pub returns-in-assoc-clause-plain : goal.returns-in-assoc-clause-plain
unfolding heading_named
returns-in-assoc-clause-plain c = at_word (codes "assoc") c.args.word.now true (search rules) refl

pub returns-in-swap-clause-plain : goal.returns-in-swap-clause-plain
unfolding heading_named
returns-in-swap-clause-plain c = at_word (codes "swap") c.args.word.now true (search rules) refl

pub returns-in-dropr-clause-plain : goal.returns-in-dropr-clause-plain
unfolding heading_named
returns-in-dropr-clause-plain c = at_word (codes "dropr") c.args.word.now true (search rules) refl

pub returns-in-again-clause-plain : goal.returns-in-again-clause-plain
unfolding heading_named
returns-in-again-clause-plain c = at_word (codes "again") c.args.word.now true (search rules) refl

pub returns-in-iftrue-clause-plain : goal.returns-in-iftrue-clause-plain
unfolding heading_named
returns-in-iftrue-clause-plain c = at_word (codes "iftrue") c.args.word.now true (search rules) refl

pub returns-in-iffalse-clause-plain : goal.returns-in-iffalse-clause-plain
unfolding heading_named
returns-in-iffalse-clause-plain c = at_word (codes "iffalse") c.args.word.now true (search rules) refl

pub returns-in-ifsame-clause-plain : goal.returns-in-ifsame-clause-plain
unfolding heading_named
returns-in-ifsame-clause-plain c = at_word (codes "ifsame") c.args.word.now true (search rules) refl

pub returns-in-ifbind-clause-plain : goal.returns-in-ifbind-clause-plain
unfolding heading_named
returns-in-ifbind-clause-plain c = at_word (codes "ifbind") c.args.word.now true (search rules) refl

pub returns-in-mask-clause-plain : goal.returns-in-mask-clause-plain
unfolding heading_named
returns-in-mask-clause-plain c = at_word (codes "mask") c.args.word.now false (search rules) refl

pub returns-in-perm-clause-plain : goal.returns-in-perm-clause-plain
unfolding heading_named
returns-in-perm-clause-plain c = at_word (codes "perm") c.args.word.now false (search rules) refl

pub returns-in-join-clause-plain : goal.returns-in-join-clause-plain
unfolding heading_named
returns-in-join-clause-plain c = at_word (codes "join") c.args.word.now true (search rules) refl

pub returns-in-flip0-clause-plain : goal.returns-in-flip0-clause-plain
unfolding heading_named
returns-in-flip0-clause-plain c = at_word (codes "flip0") c.args.word.now true (search rules) refl

pub returns-in-tidy-clause-plain : goal.returns-in-tidy-clause-plain
unfolding heading_named
returns-in-tidy-clause-plain c = at_word (codes "tidy") c.args.word.now true (search rules) refl

pub returns-in-table-clause-plain : goal.returns-in-table-clause-plain
unfolding heading_named
returns-in-table-clause-plain c = at_word (codes "table") c.args.word.now false (search rules) refl

pub returns-in-lin-clause-plain : goal.returns-in-lin-clause-plain
unfolding heading_named
returns-in-lin-clause-plain c = at_word (codes "lin") c.args.word.now false (search rules) refl

pub returns-in-comm-clause-plain : goal.returns-in-comm-clause-plain
unfolding heading_named
returns-in-comm-clause-plain c = at_word (codes "comm") c.args.word.now true (search rules) refl

pub returns-in-assocl-clause-plain : goal.returns-in-assocl-clause-plain
unfolding heading_named
returns-in-assocl-clause-plain c = at_word (codes "assocl") c.args.word.now true (search rules) refl

pub returns-in-assocr-clause-plain : goal.returns-in-assocr-clause-plain
unfolding heading_named
returns-in-assocr-clause-plain c = at_word (codes "assocr") c.args.word.now true (search rules) refl

pub returns-in-unit-clause-plain : goal.returns-in-unit-clause-plain
unfolding heading_named
returns-in-unit-clause-plain c = at_word (codes "unit") c.args.word.now true (search rules) refl

pub returns-in-newswap-clause-plain : goal.returns-in-newswap-clause-plain
unfolding heading_named
returns-in-newswap-clause-plain c = at_word (codes "newswap") c.args.word.now true (search rules) refl

pub returns-in-scope-clause-plain : goal.returns-in-scope-clause-plain
unfolding heading_named
returns-in-scope-clause-plain c = at_word (codes "scope") c.args.word.now true (search rules) refl

pub returns-in-rename-clause-plain : goal.returns-in-rename-clause-plain
unfolding heading_named
returns-in-rename-clause-plain c = at_word (codes "rename") c.args.word.now false (search rules) refl

pub returns-in-absorb-clause-plain : goal.returns-in-absorb-clause-plain
unfolding heading_named
returns-in-absorb-clause-plain c = at_word (codes "absorb") c.args.word.now true (search rules) refl

pub returns-in-fold-clause-plain : goal.returns-in-fold-clause-plain
unfolding heading_named
returns-in-fold-clause-plain c = at_word (codes "fold") c.args.word.now false (search rules) refl

pub returns-in-subst-clause-plain : goal.returns-in-subst-clause-plain
unfolding heading_named
returns-in-subst-clause-plain c = at_word (codes "subst") c.args.word.now false (search rules) refl

pub returns-in-drop-clause-plain : goal.returns-in-drop-clause-plain
unfolding heading_named
returns-in-drop-clause-plain c = at_word (codes "drop") c.args.word.now true (search rules) refl

pub returns-in-subsume-clause-plain : goal.returns-in-subsume-clause-plain
unfolding heading_named
returns-in-subsume-clause-plain c = at_word (codes "subsume") c.args.word.now false (search rules) refl

pub returns-in-diverge-clause-plain : goal.returns-in-diverge-clause-plain
unfolding heading_named
returns-in-diverge-clause-plain c = at_word (codes "diverge") c.args.word.now true (search rules) refl

pub returns-in-shape-clause-plain : goal.returns-in-shape-clause-plain
unfolding heading_named
returns-in-shape-clause-plain c = at_word (codes "shape") c.args.word.now true (search rules) refl

pub returns-in_default-clause-plain : goal.returns-in_default-clause-plain
returns-in_default-clause-plain c = unknown_word c.args.word.now (search rules)

use Rattle.std.proofs.Common.{◌++◌, ap, ◌∙◌}
use Rattle.ipdl_tree.specs.Spelling.{tree_text}
use Rattle.ipdl_tree.specs.Views.{located}
use Rattle.ipdl_tree.proofs.Outcomes.{read_back}
use Rattle.ipdl_tree.proofs.write.write_tree.Goals as goal

pub returns-clause-read_back : goal.returns-clause-read_back
returns-clause-read_back c =
    let tree = located c.args.tree.now in
    let text = c.in_ok-push_tree.ensures.text ∙ ap (λ x. x ++ tree_text tree) c.new-text.ensures.items in
    λ shallow. read_back tree c.push_tree.new.text.items c.in_ok-push_tree.ensures.well_formed text shallow

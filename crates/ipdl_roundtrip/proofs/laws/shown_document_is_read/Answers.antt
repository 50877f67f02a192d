use Rattle.std.proofs.Common.{sym, ap, ◌∙◌}
use Rattle.ipdl_tree.specs.Spelling.{tree_text}
use Rattle.ipdl_tree.specs.Trees.{without_offsets}
use Rattle.ipdl_roundtrip.specs.ShownDocuments.{document_tree}
use Rattle.ipdl_roundtrip.proofs.PrintedDocuments.{SpellsDocument-printed, depth_of-document_tree}
use Rattle.ipdl_roundtrip.proofs.laws.shown_document_is_read.Goals as goal

pub returns-clause-read : goal.returns-clause-read
returns-clause-read c = λ d may. (c.written_is_read.ensures (document_tree d) may.formed (depth_of-document_tree d may)).0

pub returns-clause-spelled : goal.returns-clause-spelled
returns-clause-spelled c = λ d may t spelled.
    let read = c.written_is_read.ensures (document_tree d) may.formed (depth_of-document_tree d may) in
    let same = c.one_tree.ensures t (read.1).0 (tree_text (document_tree d)) spelled ((read.1).1) in
    c.offsets_are_free.ensures.documents d (document_tree d) t (SpellsDocument-printed d may) (sym (ap without_offsets same ∙ (read.1).2))

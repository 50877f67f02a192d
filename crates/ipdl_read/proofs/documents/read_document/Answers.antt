use Rattle.std.proofs.Common.{◌≡◌, [], sym, subst}
use Rattle.std.specs.Prelude.{OnOk, IfOk, IfErr}
use Rattle.ipdl_tree.specs.Trees.{Located}
use Rattle.ipdl_forms.specs.Documents.{document_of}
use Rattle.ipdl_forms.specs.Faults.{TellsFirst}
use Rattle.ipdl_forms.specs.Items.{SpellsDocument, document_faults}
use Rattle.ipdl_read_terms.proofs.Lists.{located_headed}
use Rattle.ipdl_read.proofs.documents.read_document.Goals as goal

pub returns-in-Word-node-clause-spelled : goal.returns-in-Word-node-clause-spelled
returns-in-Word-node-clause-spelled c =
    let is = located_headed c.args.tree.now c.head-item.result c.in-Group.parts c.as_slice.result.now c.in-Word-node.name c.in-Group.is c.as_slice.ensures.value c.in-len1-up.len_at_least c.head-item.is c.in-Word-node.is in
    let P : Located → Type 0 = λ u. IfOk c.read_headed.result (λ d. SpellsDocument (document_of d) u) in
    subst P (sym is) c.read_headed.ensures.spelled

pub returns-in-Word-node-clause-clean : goal.returns-in-Word-node-clause-clean
returns-in-Word-node-clause-clean c =
    let is = located_headed c.args.tree.now c.head-item.result c.in-Group.parts c.as_slice.result.now c.in-Word-node.name c.in-Group.is c.as_slice.ensures.value c.in-len1-up.len_at_least c.head-item.is c.in-Word-node.is in
    let P : Located → Type 0 = λ u. OnOk c.read_headed.result (document_faults u ≡ []) in
    subst P (sym is) c.read_headed.ensures.clean

pub returns-in-Word-node-clause-first : goal.returns-in-Word-node-clause-first
returns-in-Word-node-clause-first c =
    let is = located_headed c.args.tree.now c.head-item.result c.in-Group.parts c.as_slice.result.now c.in-Word-node.name c.in-Group.is c.as_slice.ensures.value c.in-len1-up.len_at_least c.head-item.is c.in-Word-node.is in
    let P : Located → Type 0 = λ u. IfErr c.read_headed.result (λ fault. TellsFirst fault (document_faults u)) in
    subst P (sym is) c.read_headed.ensures.first

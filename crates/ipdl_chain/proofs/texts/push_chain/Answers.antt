use Rattle.std.proofs.Common.{◌≡◌, ◌<◌, length, get_or, arith}
use Rattle.ipdl_forms.specs.Documents.{document_of}
use Rattle.ipdl_term.specs.Views.{protocol_of}
use Rattle.ipdl_chain.specs.ChainTexts.{assumptions_in}
use Rattle.ipdl_chain.specs.Views.{chain_of}
use Rattle.ipdl_chain.proofs.Counts.{neighbour_count-sum}
use Rattle.ipdl_chain.proofs.Lines.{first_of-get_or, chain_text-pieces}
use Rattle.ipdl_chain.proofs.texts.push_chain.Goals as goal

pub overflow_sub-neighbours : goal.overflow_sub-neighbours
overflow_sub-neighbours c =
    omega (arith, neighbour_count-sum (chain_of c.args.chain.now).links, c.exact-exact.ensures, c.neighbours.ensures)

pub returns : goal.returns
returns c =
    let terms = c.args.chain.now.terms in
    let first = c.index-as_slice-0.result in
    let some : 0 < length terms = omega (arith, c.requires.paired) in
    let is_first : first ≡ get_or terms 0 first = (let is = c.index-as_slice-0.is in let slice = c.as_slice.ensures in cc) in
    chain_text-pieces c.args.document.now.sig (assumptions_in (document_of c.args.document.now).entries) c.args.chain.now.name c.args.chain.now.left c.args.chain.now.right (chain_of c.args.chain.now) (protocol_of first) _ _ _ _ _ _ _ _
    (first_of-get_or terms first some is_first) c.exact-exact.ensures c.neighbours.ensures c.in_ok-push_theorem.ensures
    c.in_ok-push_term.ensures c.in_ok-push_links.ensures c.in_ok-push_counts.ensures c.in_ok-push_assumptions.ensures

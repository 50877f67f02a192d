use Rattle.std.proofs.Common.{◌≡◌, length, take, sym, ap, ◌∙◌, arith}
use Rattle.std.proofs.lemmas.List.{take_all}
use Rattle.std.specs.List.{sum_by}
use Rattle.ipdl_chain.specs.Chains.{exact_in}
use Rattle.ipdl_chain.specs.Views.{mark_of, others_of}
use Rattle.ipdl_chain.proofs.Counts.{exact_count-links_of}
use Rattle.ipdl_chain.proofs.chain.Chain.exact.Goals as goal

pub returns : goal.returns
returns c =
    let marks = c.args.self.now.marks in
    let ended : take c.loop-mark.mark-index marks ≡ marks = take_all c.loop-mark.mark-index marks (omega (arith, ap length c.as_slice-mark-items.ensures)) in
    c.loop-mark.invariant.counted
    ∙ ap (sum_by (λ mark. exact_in (mark_of mark))) ended
    ∙ sym (exact_count-links_of marks (others_of c.args.self.now.terms))

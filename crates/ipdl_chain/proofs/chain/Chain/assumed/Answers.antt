use Rattle.std.proofs.Common.{◌≡◌, length, take, sym, ap, ◌∙◌, arith}
use Rattle.std.proofs.lemmas.List.{take_all}
use Rattle.std.specs.List.{sum_by}
use Rattle.ipdl_chain.specs.Chains.{count_in}
use Rattle.ipdl_chain.specs.Views.{mark_of, others_of}
use Rattle.ipdl_chain.proofs.Counts.{count_of-links_of}
use Rattle.ipdl_chain.proofs.chain.Chain.assumed.Goals as goal

pub returns : goal.returns
returns c =
    let marks = c.args.self.now.marks in
    let ended : take c.loop-mark.mark-index marks ≡ marks = take_all c.loop-mark.mark-index marks (omega (arith, ap length c.as_slice-mark-items.ensures)) in
    c.loop-mark.invariant.counted
    ∙ ap (sum_by (λ mark. count_in c.args.assumption.now (mark_of mark))) ended
    ∙ sym (count_of-links_of c.args.assumption.now marks (others_of c.args.self.now.terms))

use Rattle.std.proofs.Common.{sym, ap, ◌∙◌}
use Rattle.std.proofs.lemmas.Result.{IfOk-weaker}
use Rattle.ipdl_chain.specs.Chains.{Chain}
use Rattle.ipdl_chain.specs.Views.{chain_of}
use Rattle.ipdl_term.specs.Steps.{direction_of}
use Rattle.ipdl_uses.proofs.AddedLinks.{used_all, used_exact}
use Rattle.ipdl_uses.specs.Views.{use_at}
use Rattle.ipdl_uses.proofs.adding.chain_added.Goals as goal

pub returns-then-rests_on_none-clause-links : goal.returns-then-rests_on_none-clause-links
returns-then-rests_on_none-clause-links c =
    let same = used_exact (direction_of c.args.dir) (use_at c.args.name.now c.args.site.now) (chain_of c.args.chain.now) (sym c.rests_on_none.ensures ∙ c.if-rests_on_none.true) in
    IfOk-weaker c.theorem_added.result _ _ (λ added h. h ∙ sym (ap (λ (chain : Chain). chain.links) same)) c.theorem_added.ensures.links

pub returns-else-rests_on_none-clause-links : goal.returns-else-rests_on_none-clause-links
returns-else-rests_on_none-clause-links c =
    let same = used_all (direction_of c.args.dir) (use_at c.args.name.now c.args.site.now) (chain_of c.args.chain.now) (sym c.rests_on_none.ensures ∙ c.if-rests_on_none.false) in
    IfOk-weaker c.all_added.result _ _ (λ added h. h ∙ sym (ap (λ (chain : Chain). chain.links) same)) c.all_added.ensures.links

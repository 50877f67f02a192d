use Rattle.std.proofs.Common.{[], ◌∷◌, subst}
use Rattle.std.proofs.lemmas.Result.{IfOk-weaker}
use Rattle.std.specs.Map.{values_of}
use Rattle.ipdl_term.specs.Channels.{AreDisjoint}
use Rattle.ipdl_term.specs.Renaming.{hidden_channels}
use Rattle.ipdl_term.specs.Views.{protocol_of}
use Rattle.ipdl_term.specs.Within.{IsProtocolWithin}
use Rattle.ipdl_term.specs.declared.protocol.Proto.{Proto}
use Rattle.ipdl_uses.proofs.LentTerms.{all_among, both, free_sides, free_terms}
use Rattle.ipdl_uses.specs.Lemmas.{hidden_in_chain}
use Rattle.ipdl_uses.specs.Views.{IsKeptClaim, claim_chain}
use Rattle.ipdl_uses.proofs.adding.neighbours_added.Goals as goal

-- ---- an assumption

pub returns-in-Assumption-clause-links : goal.returns-in-Assumption-clause-links
returns-in-Assumption-clause-links c = rw c.in-Assumption.is c.assumption_added.ensures.links

pub returns-in-Assumption-clause-terms : goal.returns-in-Assumption-clause-terms
returns-in-Assumption-clause-terms c = λ symbols kept.
    let left = c.in-Assumption.left.now in
    let right = c.in-Assumption.right.now in
    let Within : Proto → Type 0 = λ term. IsProtocolWithin symbols (protocol_of term) in
    let sides = subst (IsKeptClaim symbols) c.in-Assumption.is kept in
    IfOk-weaker c.assumption_added.result _ _ (λ added among. all_among Within (left ∷ right ∷ []) added.terms.items (both Within left right sides.0 sides.1) among) c.assumption_added.ensures.terms

pub returns-in-Assumption-clause-free : goal.returns-in-Assumption-clause-free
returns-in-Assumption-clause-free c = λ apart.
    let names = values_of c.args.site.now.renaming.now in
    let name = c.args.known.now.name.now in
    let i = c.args.known.now.interface.now in
    let left = c.in-Assumption.left.now in
    let right = c.in-Assumption.right.now in
    let Free : Proto → Type 0 = λ term. AreDisjoint names (hidden_channels (protocol_of term)) in
    let none = subst (λ claim. AreDisjoint names (hidden_in_chain (claim_chain name i claim))) c.in-Assumption.is apart in
    IfOk-weaker c.assumption_added.result _ _ (λ added among. all_among Free (left ∷ right ∷ []) added.terms.items (free_sides names name i left right none) among) c.assumption_added.ensures.terms

-- ---- a theorem

pub returns-in-Theorem-clause-links : goal.returns-in-Theorem-clause-links
returns-in-Theorem-clause-links c = rw c.in-Theorem.is c.chain_added.ensures.links

pub returns-in-Theorem-clause-marks : goal.returns-in-Theorem-clause-marks
returns-in-Theorem-clause-marks c = λ symbols kept around.
    c.chain_added.ensures.marks symbols (subst (IsKeptClaim symbols) c.in-Theorem.is kept).within around

pub returns-in-Theorem-clause-terms : goal.returns-in-Theorem-clause-terms
returns-in-Theorem-clause-terms c = λ symbols kept.
    let chain = c.in-Theorem.chain.now in
    let Within : Proto → Type 0 = λ term. IsProtocolWithin symbols (protocol_of term) in
    let whole = subst (IsKeptClaim symbols) c.in-Theorem.is kept in
    IfOk-weaker c.chain_added.result _ _ (λ added among. all_among Within chain.terms added.terms.items whole.within.terms among) c.chain_added.ensures.terms

pub returns-in-Theorem-clause-free : goal.returns-in-Theorem-clause-free
returns-in-Theorem-clause-free c = λ apart.
    let names = values_of c.args.site.now.renaming.now in
    let name = c.args.known.now.name.now in
    let i = c.args.known.now.interface.now in
    let chain = c.in-Theorem.chain.now in
    let Free : Proto → Type 0 = λ term. AreDisjoint names (hidden_channels (protocol_of term)) in
    let none = subst (λ claim. AreDisjoint names (hidden_in_chain (claim_chain name i claim))) c.in-Theorem.is apart in
    let whole = subst (IsKeptClaim c.requires.kept.0) c.in-Theorem.is c.requires.kept.1 in
    IfOk-weaker c.chain_added.result _ _ (λ added among. all_among Free chain.terms added.terms.items (free_terms names chain whole.complete none) among) c.chain_added.ensures.terms

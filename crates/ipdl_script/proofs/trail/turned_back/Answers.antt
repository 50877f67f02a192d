use Rattle.std.proofs.Common.{rules, ◌≡◌, ◌++◌, length, take, ap, ap₂, sym, ◌∙◌}
use Rattle.std.proofs.lemmas.List.Elements.{All-take, All-same}
use Rattle.ipdl_chain.specs.Views.{IsMarkWithin}
use Rattle.ipdl_chain.specs.declared.chain.Mark.{Mark}
use Rattle.ipdl_script.proofs.TrailLists.{back_links-turned, back_links-take}
use Rattle.ipdl_script.specs.Trails.{back_links, trail_links}
use Rattle.ipdl_term.specs.Views.{protocol_of}
use Rattle.ipdl_term.specs.Within.{IsProtocolWithin}
use Rattle.ipdl_term.specs.declared.protocol.Proto.{Proto}
use Rattle.ipdl_script.proofs.trail.turned_back.Goals as goal

pub returns-clause-links : goal.returns-clause-links
returns-clause-links c =
    let marks : c.into_vec-marks.result.items ≡ c.args.rights.marks = c.into_vec-marks.ensures in
    let len : c.len.result ≡ length c.into_vec-marks.result.items = search rules in
    let terms : c.truncate.new.self.items ≡ take (length c.args.rights.marks) c.args.rights.terms =
    c.truncate.ensures.items ∙ ap₂ take (len ∙ ap length marks) c.into_vec-terms.ensures in
    c.in_ok-push_back.ensures.links
    ∙ ap (λ links. trail_links c.args.lefts ++ links)
    (ap₂ back_links marks terms ∙ back_links-take c.args.rights.marks c.args.rights.terms ∙ sym (back_links-turned c.args.rights.marks c.args.rights.terms))

pub returns-clause-within : goal.returns-clause-within
returns-clause-within c = λ symbols left right.
    let marks : c.into_vec-marks.result.items ≡ c.args.rights.marks = c.into_vec-marks.ensures in
    let len : c.len.result ≡ length c.into_vec-marks.result.items = search rules in
    let terms : c.truncate.new.self.items ≡ take (length c.args.rights.marks) c.args.rights.terms =
    c.truncate.ensures.items ∙ ap₂ take (len ∙ ap length marks) c.into_vec-terms.ensures in
    let Printed : Proto → Type 0 = λ term. IsProtocolWithin symbols (protocol_of term) in
    let Carried : Mark → Type 0 = λ mark. IsMarkWithin symbols mark in
    c.in_ok-push_back.ensures.within symbols left
    (All-same Printed _ _ terms (All-take Printed (length c.args.rights.marks) c.args.rights.terms right.terms))
    (All-same Carried _ _ marks right.marks)

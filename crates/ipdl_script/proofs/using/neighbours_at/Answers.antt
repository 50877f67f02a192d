use Rattle.std.proofs.Common.{◌≡◌, Some, map, sym, ◌∙◌, subst}
use Rattle.std.specs.Borrow.{Bor}
use Rattle.std.specs.Prelude.{IfOk}
use Rattle.ipdl_instances.proofs.WithinLaws.{IsContextWithin-context_at}
use Rattle.ipdl_script.proofs.AddedTests.{links_of_lent}
use Rattle.ipdl_script.specs.Adding.{use_in, whole_in}
use Rattle.ipdl_term.specs.Steps.{direction_of}
use Rattle.ipdl_term.specs.Terms.{Context}
use Rattle.ipdl_term.specs.Views.{context_of, protocol_of}
use Rattle.ipdl_term.specs.declared.protocol.Proto.{Proto}
use Rattle.ipdl_uses.specs.Adding.{links_by}
use Rattle.ipdl_uses.specs.Uses.{used}
use Rattle.ipdl_uses.specs.Views.{lemma_of}
use Rattle.ipdl_script.proofs.using.neighbours_at.Goals as goal

pub returns-in_ok-pairs-in-Ok-clause-links : goal.returns-in_ok-pairs-in-Ok-clause-links
returns-in_ok-pairs-in-Ok-clause-links c = λ C at.
    let both : Some (context_of c.in-Ok.ctx) ≡ Some C = sym c.in-Ok.ensures.value ∙ at in
    let same : context_of c.in-Ok.ctx ≡ C = cc in
    let use_there = use_in (context_of c.in-Ok.ctx) c.args.known.now.name.now c.args.path.now c.args.renaming.now in
    subst
    (λ (D : Context). IfOk c.neighbours_added.result (λ added. links_by added.marks.items (map (λ (term : Bor Proto). whole_in D c.args.renaming.now term.now) added.terms.items)
    ≡ (used (direction_of c.args.dir) (use_in D c.args.known.now.name.now c.args.path.now c.args.renaming.now) (lemma_of c.args.known.now).chain).links))
    same
    (links_of_lent use_there (used (direction_of c.args.dir) use_there (lemma_of c.args.known.now).chain).links c.neighbours_added.result c.neighbours_added.ensures.links)

pub returns-in_ok-pairs-in-Ok-clause-marks : goal.returns-in_ok-pairs-in-Ok-clause-marks
returns-in_ok-pairs-in-Ok-clause-marks c = λ symbols kept within.
    c.neighbours_added.ensures.marks symbols kept
    (IsContextWithin-context_at symbols (protocol_of c.args.before.now) c.args.path.now (context_of c.in-Ok.ctx) c.in-Ok.ensures.value within)

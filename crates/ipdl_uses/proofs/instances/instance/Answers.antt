use Rattle.std.proofs.Common.{◌≡◌, sym, ap, ◌∙◌}
use Rattle.ipdl_term.specs.Renaming.{renamed, renaming_of}
use Rattle.ipdl_term.specs.Terms.{protocol_term}
use Rattle.ipdl_term.specs.Views.{protocol_of, term_of}
use Rattle.ipdl_term.specs.declared.part.Part.TheVariants.{P}
use Rattle.ipdl_uses.proofs.Standing.{of_its_kind, placed_if_made}
use Rattle.ipdl_uses.proofs.instances.instance.Goals as goal

pub replaced-requires : goal.replaced-requires
replaced-requires c =
    let made : P c.in_ok-made.made ≡ c.in_ok-part.part.value = (let is = c.in_ok-part.ensures in cc) in
    of_its_kind (protocol_of c.args.before.now) c.args.path.now (protocol_of c.in_ok-made.made) _ (ap term_of (sym made)) c.requires.place

pub returns : goal.returns
returns c = λ C around_it.
    let made : P c.in_ok-made.made ≡ c.in_ok-part.part.value = (let is = c.in_ok-part.ensures in cc) in
    placed_if_made c.replaced.result (protocol_of c.args.before.now) c.args.path.now
    (renamed (renaming_of c.args.renaming.now) (protocol_of c.args.term.now)) _ C
    (ap term_of (sym made) ∙ ap protocol_term c.in_ok-made.ensures) around_it c.replaced.ensures

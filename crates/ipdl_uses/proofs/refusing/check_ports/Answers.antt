use Rattle.std.proofs.Common.{◌≡◌, ◌++◌, Some, sym, ap, ◌∙◌}
use Rattle.ipdl_embed.specs.Fitting.{first_unfit}
use Rattle.ipdl_term.specs.Renaming.{renaming_of}
use Rattle.ipdl_term.specs.Typing.{scope_of}
use Rattle.ipdl_uses.proofs.UnseenPorts.{pair_there, port_told}
use Rattle.ipdl_uses.proofs.refusing.check_ports.Goals as goal

pub new_name_at-requires : goal.new_name_at-requires
new_name_at-requires c =
    let i = c.args.interface.now in
    let pairs = c.args.renaming.now in
    let unfit : first_unfit (scope_of c.args.scope.now) (renaming_of pairs) (i.inputs ++ i.outputs) ≡ Some c.in-Err.fault.place =
    ap (λ s. first_unfit (scope_of s) (renaming_of pairs) (i.inputs ++ i.outputs)) (sym c.in_ok-visible.ensures) ∙ c.in-Err.ensures.err in
    pair_there i (scope_of c.args.scope.now) pairs c.requires c.in-Err.fault.place unfit

pub returns : goal.returns
returns c =
    let i = c.args.interface.now in
    let pairs = c.args.renaming.now in
    let unfit : first_unfit (scope_of c.args.scope.now) (renaming_of pairs) (i.inputs ++ i.outputs) ≡ Some c.in-Err.fault.place =
    ap (λ s. first_unfit (scope_of s) (renaming_of pairs) (i.inputs ++ i.outputs)) (sym c.in_ok-visible.ensures) ∙ c.in-Err.ensures.err in
    port_told i (scope_of c.args.scope.now) pairs c.requires c.in-Err.fault.place _ unfit c.in_ok-new_name_at-in-Err.ensures

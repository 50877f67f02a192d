use Rattle.std.proofs.Common.{rules, ◌≡◌, get_or, take, [], ◌∷◌, ◌++◌, sym, ap, ◌∙◌, Bor, List, ℕ, if◌then◌else◌, true, nat_eq, ◌&&◌}
use Rattle.std.specs.Prelude.{bytes_eq}
use Rattle.std.proofs.lemmas.List.{take_more}
use Rattle.ipdl_typing.specs.Checks.{has_port}
use Rattle.ipdl_typing.proofs.Ports.{has_port-push}
use Rattle.ipdl_typing.proofs.sides.keys_of.Goals as goal

pub loop-port-preserved : goal.loop-port-preserved
loop-port-preserved c p =
    let ports = c.args.ports.now in
    let x = c.port-item.result in
    let i = c.loop-port.port-index in
    let name : Bor (List ℕ) = record { ref_ptr = (0, 0); now = p.name } in
    let here : get_or ports i x ≡ x = search rules in
    let more = take_more ports i x (search rules) in
    c.in_ok-insert.ensures.updates.0 (name, p.width)
    ∙ ap (λ before. if bytes_eq x.name p.name && nat_eq x.width p.width then true else before) (c.loop-port.invariant p)
    ∙ sym (has_port-push (take i ports) x p)
    ∙ ap (λ y. has_port (take i ports ++ y ∷ []) p) (sym here)
    ∙ ap (λ list. has_port list p) (sym more)

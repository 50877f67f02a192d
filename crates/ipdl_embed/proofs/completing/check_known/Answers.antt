use Rattle.std.proofs.Common.{rules, ◌≡◌, ◌<◌, false, ◌||◌, length, get_or, Some, refl, sym, ap, ◌∙◌}
use Rattle.ipdl_term.specs.Channels.{has}
use Rattle.ipdl_term.specs.Typing.{port_names}
use Rattle.ipdl_embed.specs.Tables.{holds}
use Rattle.ipdl_embed.proofs.Completions.{looked_up, unknown-first, unknown-next}
use Rattle.ipdl_embed.proofs.completing.check_known.Goals as goal

pub returns-then-not-contains-clause-first : goal.returns-then-not-contains-clause-first
returns-then-not-contains-clause-first c =
    let i = c.args.interface.now in
    let pairs = c.args.pairs.now in
    let n = c.loop-pair.pair-index in
    let x = c.pair-item.result in
    let d = x.0 in
    let within : n < length pairs = search rules in
    let at : get_or pairs n x ≡ x = search rules in
    let found = looked_up i d c.contains.result (holds c.enter_ports.new.names d) (holds c.enter_ports-2.new.names d) c.contains.ensures
    (c.in_ok-enter_ports-2.ensures d ∙ ap (λ ports. has (port_names ports) d || holds c.enter_ports.new.names d) c.as_slice-2.ensures)
    (c.in_ok-enter_ports.ensures d ∙ ap (λ ports. has (port_names ports) d || holds c.new-names.result d) c.as_slice.ensures ∙ ap (λ b. has (port_names i.inputs) d || b) (rw c.new-names.ensures.empty refl)) in
    let absent : c.contains.result ≡ false = search rules in
    unknown-first i pairs n x within at (found ∙ absent) c.loop-pair.invariant ∙ ap Some (sym c.in_ok-copy.ensures)

pub loop-pair-preserved : goal.loop-pair-preserved
loop-pair-preserved c =
    let i = c.args.interface.now in
    let pairs = c.args.pairs.now in
    let n = c.loop-pair.pair-index in
    let x = c.pair-item.result in
    let d = x.0 in
    let within : n < length pairs = search rules in
    let at : get_or pairs n x ≡ x = search rules in
    let found = looked_up i d c.contains.result (holds c.enter_ports.new.names d) (holds c.enter_ports-2.new.names d) c.contains.ensures
    (c.in_ok-enter_ports-2.ensures d ∙ ap (λ ports. has (port_names ports) d || holds c.enter_ports.new.names d) c.as_slice-2.ensures)
    (c.in_ok-enter_ports.ensures d ∙ ap (λ ports. has (port_names ports) d || holds c.new-names.result d) c.as_slice.ensures ∙ ap (λ b. has (port_names i.inputs) d || b) (rw c.new-names.ensures.empty refl)) in
    unknown-next i pairs n x within at (found ∙ c.if-not-contains.false) c.loop-pair.invariant

use Rattle.std.proofs.Common.{◌≡◌, ◌<◌, ◌≤◌, ◌-◌, take, drop, length, arith, ap, sym, ◌∙◌, subst, IfOk}
use Rattle.std.proofs.lemmas.List.{take_rest, length-drop, length-take-le}
use Rattle.std.proofs.lemmas.Result.{IfOk-weaker}
use Rattle.ipdl_mean.specs.Closed.{Closed, body_of, signature_in}
use Rattle.ipdl_mean.specs.Running.{written_in}
use Rattle.ipdl_mean.proofs.Held.{segment_within, flips_are_narrow, run_is_round}
use Rattle.ipdl_term.specs.Networks.{assignment_count, flat_round, network}
use Rattle.ipdl_term.specs.Protocols.{coins}
use Rattle.ipdl_truth.specs.Tables.{tables_of}
use Rattle.ipdl_typing.specs.Signatures.{signature_of}
use Rattle.ipdl_mean.proofs.net.Net.written_at.Goals as goal

pub slice_bounds-rest-count : goal.slice_bounds-rest-count
slice_bounds-rest-count c =
    let x = c.self.inside in
    let within = subst (λ (p : Closed). c.args.number < assignment_count (body_of p)) (sym c.self.view_is) c.requires.within in
    let long = subst (λ (p : Closed). coins (body_of p) ≤ length c.args.tape.now) (sym c.self.view_is) c.requires.long in
    let ends = segment_within x.sig.now x.item.now x.nodes.items x.outputs.items x.coins c.self.invariant c.args.number within c.index-node.result.now c.index-node.ensures in
    omega (arith, ends, long)

pub slice_bounds-rest-start : goal.slice_bounds-rest-start
slice_bounds-rest-start c =
    let x = c.self.inside in
    let within = subst (λ (p : Closed). c.args.number < assignment_count (body_of p)) (sym c.self.view_is) c.requires.within in
    let long = subst (λ (p : Closed). coins (body_of p) ≤ length c.args.tape.now) (sym c.self.view_is) c.requires.long in
    let ends = segment_within x.sig.now x.item.now x.nodes.items x.outputs.items x.coins c.self.invariant c.args.number within c.index-node.result.now c.index-node.ensures in
    omega (arith, ends, long)

pub slice_bounds-run-end : goal.slice_bounds-run-end
slice_bounds-run-end c =
    let x = c.self.inside in
    let within = subst (λ (p : Closed). c.args.number < assignment_count (body_of p)) (sym c.self.view_is) c.requires.within in
    let long = subst (λ (p : Closed). coins (body_of p) ≤ length c.args.tape.now) (sym c.self.view_is) c.requires.long in
    let ends = segment_within x.sig.now x.item.now x.nodes.items x.outputs.items x.coins c.self.invariant c.args.number within c.index-node.result.now c.index-node.ensures in
    let tape = c.args.tape.now in
    let from = c.index-node.result.now.first_bit in
    let rest = take (length tape - from) (drop from tape) in
    let size : length rest ≡ length tape - from = ap length (take_rest tape from) ∙ length-drop from tape in
    sym (length-take-le c.index-node.result.now.coins rest (omega (arith, ends, long, size)))

pub react-requires : goal.react-requires
react-requires c =
    let x = c.self.inside in
    let within = subst (λ (p : Closed). c.args.number < assignment_count (body_of p)) (sym c.self.view_is) c.requires.within in
    flips_are_narrow x.sig.now x.item.now x.nodes.items x.outputs.items x.coins c.self.invariant c.args.number within c.index-node.result.now c.index-node.ensures

pub returns-clause-value : goal.returns-clause-value
returns-clause-value c =
    let x = c.self.inside in
    let within = subst (λ (p : Closed). c.args.number < assignment_count (body_of p)) (sym c.self.view_is) c.requires.within in
    subst (λ (p : Closed). IfOk c.react.result (λ value. value ≡ flat_round (tables_of (signature_in p)) (network (body_of p)) c.args.tape.now (written_in c.args.values.now) c.args.number)) c.self.view_is
    (IfOk-weaker c.react.result _ _
    (λ value ended. run_is_round x.sig.now x.item.now x.nodes.items x.outputs.items x.coins c.self.invariant c.args.number within c.index-node.result.now c.index-node.ensures
    (tables_of (signature_of x.sig.now)) c.args.tape.now c.args.values.now c.args.run.now.env.items c.requires.env value c.react.new.run.tape.now c.react.new.run.writers.now (λ writers behind is. ended writers behind (c.as_slice-run.ensures.value ∙ is)))
    c.react.ensures.ends)

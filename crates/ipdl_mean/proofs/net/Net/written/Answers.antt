use Rattle.std.proofs.Common.{◌≡◌, ℕ, length, map, take, sym, ap, ◌∙◌, subst, arith}
use Rattle.std.proofs.Math.Seq.{take-length}
use Rattle.ipdl_mean.proofs.Solved.{values_at_outputs}
use Rattle.ipdl_mean.specs.Closed.{Closed, body_of, signature_in, outputs_of}
use Rattle.ipdl_mean.specs.Running.{written_in}
use Rattle.ipdl_term.specs.Interpretations.{Interprets}
use Rattle.ipdl_term.specs.Networks.{flat_written, network, writer_number, written_by}
use Rattle.ipdl_term.specs.Protocols.{protocol_valuation}
use Rattle.ipdl_term.specs.Typing.{port_names}
use Rattle.ipdl_term.specs.Valuations.{nothing}
use Rattle.ipdl_term.specs.Views.{protocol_of}
use Rattle.ipdl_truth.specs.Tables.{tables_of}
use Rattle.ipdl_typing.specs.Signatures.{signature_of}
use Rattle.ipdl_mean.proofs.net.Net.written.Goals as goal

pub returns : goal.returns
returns c = λ J.
    let x = c.self.inside in
    let sig = signature_of x.sig.now in
    let body = protocol_of x.item.now.body in
    let tape = c.args.tape.now in
    let solution = c.in_ok-solution.solution.items in
    let written = c.loop-writer.written.items in
    let writers = c.deref-writer-items.result.now in
    let all = subst (λ (p : Closed). (k : ℕ) → written_in solution k ≡ flat_written (tables_of (signature_in p)) (network (body_of p)) tape k) (sym c.self.view_is) c.in_ok-solution.ensures in
    let last : c.loop-writer.writer-index ≡ length writers = omega (arith, c.loop-writer-test.false, c.loop-writer.auto.writer-index-end) in
    let passed : take c.loop-writer.writer-index writers ≡ map (writer_number body 0) (port_names x.item.now.interface.outputs) =
    ap (λ n. take n writers) last ∙ take-length writers ∙ c.deref-writer-items.ensures.value ∙ c.self.invariant.outputs in
    subst (λ (p : Closed). Interprets (signature_in p) J → written ≡ map (protocol_valuation J (body_of p) tape nothing) (outputs_of p)) c.self.view_is
    (λ interprets.
    c.loop-writer.invariant ∙
    ap (map (λ writer. written_by writer (written_in solution))) passed ∙
    values_at_outputs sig _ body c.self.invariant.typed.typed c.self.invariant.tables tape solution all J interprets (port_names x.item.now.interface.outputs))

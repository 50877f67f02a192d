use Rattle.std.proofs.Common.{◌≡◌, ℕ, ◌++◌, List, Option, length, take, drop, sym, ap, ◌∙◌, subst, arith}
use Rattle.std.proofs.Math.Seq.{take-append_seam}
use Rattle.ipdl_mean.proofs.Rounds.{all_is_written}
use Rattle.ipdl_mean.specs.Closed.{body_of, signature_in}
use Rattle.ipdl_mean.specs.Running.{written_in}
use Rattle.ipdl_term.specs.Networks.{flat_written, network, WrittenWithin}
use Rattle.ipdl_term.specs.Terms.{Value}
use Rattle.ipdl_truth.specs.Tables.{tables_of}
use Rattle.ipdl_mean.proofs.net.Net.solution.Goals as goal

-- what a vector holds after all of it was handed out
refilled : (values before : List (Option Value)) (n : ℕ) → n ≡ length values → take n (values ++ drop (length values) before) ≡ values
refilled values before n is =
    ap (λ m. take m (values ++ drop (length values) before)) is ∙ take-append_seam values (drop (length values) before)

pub returns : goal.returns
returns c =
    let J = tables_of (signature_in c.args.self.now) in
    let nodes = network (body_of c.args.self.now) in
    let tape = c.args.tape.now in
    let values = c.round.new.values in
    let size : c.loop-run.values.len ≡ length values = omega (arith, c.loop-run.values.ok.0, c.round.auto.values, c.deref_mut.ensures.len) in
    let given = subst (λ vs. WrittenWithin (written_in vs) (flat_written J nodes tape)) (sym c.deref_mut.ensures.value) c.loop-run.invariant.within in
    let within = c.in_ok-round.ensures.within given in
    let all = all_is_written J nodes tape (written_in values) within (c.in_ok-round.ensures.done c.if-branch.false) in
    subst (λ vs. (number : ℕ) → written_in vs number ≡ flat_written J nodes tape number) (sym (refilled values c.loop-run.values.items c.loop-run.values.len size)) all

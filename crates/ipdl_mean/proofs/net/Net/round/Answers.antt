use Rattle.std.proofs.Common.{◌≡◌, ◌+◌, ◌<◌, ◌≤◌, Some, None, slice_get, Bool, true, List, Option, length, sym, ap, ◌∙◌, subst, arith}
use Rattle.std.proofs.Math.ListN.{set}
use Rattle.std.specs.Prelude.{not}
use Rattle.ipdl_mean.proofs.Networks.{length-network}
use Rattle.ipdl_mean.proofs.Rounds.{IsSoFar, so_far_passed, so_far_written, so_far_at_end, none_there, some_there, missing_at, written_at}
use Rattle.ipdl_mean.specs.Closed.{Closed, body_of, signature_in}
use Rattle.ipdl_mean.specs.declared.reacting.Run.{Run}
use Rattle.ipdl_term.specs.Networks.{assignment_count, network}
use Rattle.ipdl_term.specs.Terms.{Value}
use Rattle.ipdl_term.specs.Views.{protocol_of}
use Rattle.ipdl_truth.specs.Tables.{tables_of}
use Rattle.ipdl_mean.proofs.net.Net.round.Goals as goal
use Rattle.ipdl_mean.proofs.net.Net.round.Goals.{then-is_none+in_ok-value+then-is_some, then-is_none+in_ok-value+else-is_some, else-is_none}

pub loop-number-preserved : goal.loop-number-preserved
loop-number-preserved c =
    let J = tables_of (signature_in c.args.self.now) in
    let nodes = network (body_of c.args.self.now) in
    let tape = c.args.tape.now in
    let before = c.args.values.now in
    let values = c.loop-number.values in
    let n = c.loop-number.number in
    let more = c.loop-number.more in
    let so_far = c.loop-number.invariant.so_far in
    let x = c.self.inside in
    let there : n < length values = omega (arith, c.loop-number-test.true, c.len-number-end.ensures, x.nodes.ok.0, c.self.invariant.count, ap (λ (p : Closed). assignment_count (body_of p)) c.self.view_is, c.requires.count, c.loop-number.auto.values) in
    let tested = c.is_none.ensures in
    let d = c.index-values-number.result in
    let missing_here : c.is_none.result ≡ true → slice_get values n ≡ Some None = λ e. missing_at values n d there (tested ∙ ap not e) in
    let Here : List (Option Value) → Bool → Type 0 = λ vs m. IsSoFar J nodes tape before vs m (n + 1) in
    elim c.if-is_none.branch [
      | then-is_none+in_ok-value+then-is_some w ↦
          let v = some_there w.in_ok-value.value (sym w.is_some.ensures ∙ w.if-is_some.true) in
          let wrote = so_far_written J nodes tape before values more n so_far v.0 (missing_here w.if-is_none.true) (sym w.in_ok-value.ensures.value ∙ v.1) in
          let kept = subst (λ o. Here (set values n o) true) (sym v.1) wrote in
          record {
            env = ap (λ (r : Run). r.env.items) w.run-is ∙ w.in_ok-value.ensures.env;
            so_far = subst (Here c.if-is_none.values) (sym w.more-is) (subst (λ vs. Here vs true) (sym w.values-is) kept);
          }
      | then-is_none+in_ok-value+else-is_some w ↦
          let none = none_there w.in_ok-value.value (sym w.is_some.ensures ∙ w.if-is_some.false) in
          let passed = so_far_passed J nodes tape before values more n so_far (λ e. sym w.in_ok-value.ensures.value ∙ none) in
          record {
            env = ap (λ (r : Run). r.env.items) w.run-is ∙ w.in_ok-value.ensures.env;
            so_far = subst (Here c.if-is_none.values) (sym w.more-is) (subst (λ vs. Here vs more) (sym w.values-is) passed);
          }
      | else-is_none w ↦
          let passed = so_far_passed J nodes tape before values more n so_far (written_at values n d there (tested ∙ ap not w.if-is_none.false)) in
          record {
            env = ap (λ (r : Run). r.env.items) w.run-is ∙ c.loop-number.invariant.env;
            so_far = subst (Here c.if-is_none.values) (sym w.more-is) (subst (λ vs. Here vs more) (sym w.values-is) passed);
          }
    ]

pub returns-clause-done : goal.returns-clause-done
returns-clause-done c =
    let x = c.self.inside in
    let J = tables_of (signature_in c.args.self.now) in
    let nodes = network (body_of c.args.self.now) in
    let size = length-network x.nodes.items (network (protocol_of x.item.now.body)) c.self.invariant.assignments in
    let last : length nodes ≤ c.loop-number.number = omega (arith, size, ap (λ (p : Closed). length (network (body_of p))) c.self.view_is, c.loop-number-test.false, c.len-number-end.ensures, x.nodes.ok.0) in
    so_far_at_end J nodes c.args.tape.now c.args.values.now c.loop-number.values c.loop-number.more c.loop-number.number c.loop-number.invariant.so_far last

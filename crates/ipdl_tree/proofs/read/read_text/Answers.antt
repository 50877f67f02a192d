use Rattle.std.proofs.Common.{ℕ, ◌+◌, List, [], length, sym, ap, ◌∙◌, subst, arith, Ok}
use Rattle.std.specs.Str.{chars}
use Rattle.std.proofs.lemmas.Iterator.{YieldsList-from_chars}
use Rattle.std.proofs.lemmas.Iterator.Consumers.{YieldsList-turn, YieldsList-end}
use Rattle.std.proofs.lemmas.List.{length_push}
use Rattle.std.proofs.lemmas.Result.{err_from_is_err_and}
use Rattle.std.proofs.lemmas.Str.{encodes-chars}
use Rattle.ipdl_tree.specs.Reading.{Reading, refusal_of, read_on}
use Rattle.ipdl_tree.specs.ReaderViews.{IsTokenAfter}
use Rattle.ipdl_tree.specs.declared.token.OpenToken.{OpenToken}
use Rattle.ipdl_tree.proofs.ReaderSteps.{Gives-from_error}
use Rattle.ipdl_tree.proofs.LoopSteps.{IsAt, IsNext, IsAt-next, IsAt-boundary, slice_front, taken, refused, token_stays, reads_on, refuses, front_whole, read_whole}
use Rattle.ipdl_tree.proofs.read.read_text.Goals as goal

pub loop-c-init : goal.loop-c-init
loop-c-init c = record {
  within = omega arith;
  rest = sym (encodes-chars c.args.text.now c.utf8.text);
  token = (let P : OpenToken → Type 0 = IsTokenAfter [] in subst P (sym c.new-reader.ensures.token) tt);
  read = ap (λ (r : Reading). read_on {A = Reading} refusal_of r 0 (chars c.args.text.now) (λ r _. Ok r)) c.new-reader.ensures.nothing;
}

pub range-requires-clause-end_boundary : goal.range-requires-clause-end_boundary
range-requires-clause-end_boundary c =
    let here : IsAt c.args.text.now c.loop-c.at (length c.loop-c.yielded) = record { within = c.loop-c.invariant.within; rest = c.loop-c.invariant.rest } in
    IsAt-boundary c.args.text.now c.loop-c.at (length c.loop-c.yielded) c.utf8.text here

pub returns-in_err-take-clause-read : goal.returns-in_err-take-clause-read
returns-in_err-take-clause-read c =
    let text = c.args.text.now in
    let turn = YieldsList-turn (YieldsList-from_chars text c.utf8.text cc) c.loop-c.yielded _ c.loop-c.yielded_by _ _ c.in-Some.c c.in-Some.is c.next.ensures.steps in
    let here : IsAt text c.loop-c.at (length c.loop-c.yielded) = record { within = c.loop-c.invariant.within; rest = c.loop-c.invariant.rest } in
    let next : IsNext text (length c.loop-c.yielded) c.in-Some.c = record { below = turn.0; here = turn.1 } in
    let fails = refused text c.range.result.now c.loop-c.at _ c.in-Some.c c.loop-c.reader c.in_err-take.field-0.0 here (c.range.ensures.value ∙ slice_front text c.loop-c.at) c.in_err-take.ensures.step in
    let all = refuses text c.loop-c.at _ c.in-Some.c c.loop-c.reader c.in_err-take.field-0.0 (λ r _. Ok r) _ next c.loop-c.invariant.read fails in
    let p = err_from_is_err_and c.from_residual.result c.from_residual.ensures.1 in
    Gives-from_error _ _ _ p.0 _ p.1 p.2 all

pub loop-c-preserved : goal.loop-c-preserved
loop-c-preserved c =
    let text = c.args.text.now in
    let turn = YieldsList-turn (YieldsList-from_chars text c.utf8.text cc) c.loop-c.yielded _ c.loop-c.yielded_by _ _ c.in-Some.c c.in-Some.is c.next.ensures.steps in
    let push = length_push c.loop-c.yielded c.in-Some.c in
    let past = ap (λ k. c.loop-c.at + k) c.len_utf8-at.ensures.value in
    let here : IsAt text c.loop-c.at (length c.loop-c.yielded) = record { within = c.loop-c.invariant.within; rest = c.loop-c.invariant.rest } in
    let next : IsNext text (length c.loop-c.yielded) c.in-Some.c = record { below = turn.0; here = turn.1 } in
    let step = taken text c.range.result.now c.loop-c.at _ c.in-Some.c _ c.loop-c.reader c.take.new.self here next past (c.range.ensures.value ∙ slice_front text c.loop-c.at) c.in_ok-take.ensures.step in
    let there = IsAt-next text c.loop-c.at _ c.in-Some.c _ _ here next past push in
    record {
      within = there.within;
      rest = there.rest;
      token = token_stays text c.loop-c.at _ c.in-Some.c _ c.loop-c.reader c.take.new.self c.utf8.text next c.loop-c.invariant.token step;
      read = reads_on text c.loop-c.at _ c.in-Some.c _ _ c.loop-c.reader c.take.new.self (λ r _. Ok r) next past push step ∙ c.loop-c.invariant.read;
    }

pub returns-clause-read : goal.returns-clause-read
returns-clause-read c =
    let text = c.args.text.now in
    let end = YieldsList-end (YieldsList-from_chars text c.utf8.text cc) c.loop-c.yielded _ c.loop-c.yielded_by _ _ c.in-None.is c.next.ensures.steps in
    let here : IsAt text c.loop-c.at (length c.loop-c.yielded) = record { within = c.loop-c.invariant.within; rest = c.loop-c.invariant.rest } in
    read_whole text c.loop-c.at _ c.loop-c.reader _ here end.1 c.loop-c.invariant.read

pub returns-clause-token : goal.returns-clause-token
returns-clause-token c =
    let text = c.args.text.now in
    let end = YieldsList-end (YieldsList-from_chars text c.utf8.text cc) c.loop-c.yielded _ c.loop-c.yielded_by _ _ c.in-None.is c.next.ensures.steps in
    let here : IsAt text c.loop-c.at (length c.loop-c.yielded) = record { within = c.loop-c.invariant.within; rest = c.loop-c.invariant.rest } in
    let P : List ℕ → Type 0 = λ front. IsTokenAfter front c.loop-c.reader.token in
    subst P (front_whole text c.loop-c.at _ here end.1) c.loop-c.invariant.token

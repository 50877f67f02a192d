use Rattle.std.proofs.Common.{slice_get, sym, ap, ◌∙◌}
use Rattle.std.specs.Option.{option_copied}
use Rattle.ipdl_term.specs.Renaming.{hidden_channels}
use Rattle.ipdl_term.specs.Views.{protocol_of, context_of}
use Rattle.ipdl_embed.specs.Captures.{captured, hidden_in_context}
use Rattle.ipdl_embed.proofs.Captures.{captured_left, captured_right}
use Rattle.ipdl_embed.proofs.contexts.+first_captured_in.Goals as goal

pub returns-in-Some : goal.returns-in-Some
returns-in-Some t c =
    let cs = hidden_in_context (context_of c.in-Left.inner.value) in
    let ds = hidden_channels (protocol_of c.in-Left.q) in
    let pairs = c.args.renaming.now in
    let there = c.in-Some.ensures ∙ ap (λ x. slice_get (captured pairs (hidden_in_context (context_of x))) 0) c.deref.ensures in
    captured_left pairs cs ds c.in-Some.name.now there ∙ ap (λ x. slice_get (captured pairs (hidden_in_context (context_of x))) 0) (sym c.in-Left.is)

pub returns-in-None : goal.returns-in-None
returns-in-None t c =
    let cs = hidden_in_context (context_of c.in-Left.inner.value) in
    let ds = hidden_channels (protocol_of c.in-Left.q) in
    let pairs = c.args.renaming.now in
    let none = c.in-None.ensures ∙ ap (λ x. slice_get (captured pairs (hidden_in_context (context_of x))) 0) c.deref.ensures in
    captured_right pairs cs ds (option_copied c.first_captured.result) none c.first_captured.ensures ∙ ap (λ x. slice_get (captured pairs (hidden_in_context (context_of x))) 0) (sym c.in-Left.is)

pub returns-in-Some-first_captured : goal.returns-in-Some-first_captured
returns-in-Some-first_captured t c =
    let cs = hidden_channels (protocol_of c.in-Right.p) in
    let ds = hidden_in_context (context_of c.in-Right.inner.value) in
    let pairs = c.args.renaming.now in
    captured_left pairs cs ds c.in-Some-first_captured.name.now c.in-Some-first_captured.ensures ∙ ap (λ x. slice_get (captured pairs (hidden_in_context (context_of x))) 0) (sym c.in-Right.is)

pub returns-in-None-first_captured : goal.returns-in-None-first_captured
returns-in-None-first_captured t c =
    let cs = hidden_channels (protocol_of c.in-Right.p) in
    let ds = hidden_in_context (context_of c.in-Right.inner.value) in
    let pairs = c.args.renaming.now in
    let there = c.first_captured_in-in-None-first_captured.ensures ∙ ap (λ x. slice_get (captured pairs (hidden_in_context (context_of x))) 0) c.deref-in-None-first_captured.ensures in
    captured_right pairs cs ds (option_copied c.first_captured_in-in-None-first_captured.result) c.in-None-first_captured.ensures there ∙ ap (λ x. slice_get (captured pairs (hidden_in_context (context_of x))) 0) (sym c.in-Right.is)

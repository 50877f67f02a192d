use Rattle.std.proofs.Common.{slice_get, sym, ap, ◌∙◌}
use Rattle.std.specs.Option.{option_copied}
use Rattle.ipdl_term.specs.Renaming.{hidden_channels}
use Rattle.ipdl_term.specs.Views.{protocol_of}
use Rattle.ipdl_embed.specs.Captures.{captured}
use Rattle.ipdl_embed.proofs.Captures.{captured_left, captured_right}
use Rattle.ipdl_embed.proofs.embedding.+first_captured.Goals as goal

pub returns-in-Some : goal.returns-in-Some
returns-in-Some t c =
    let cs = hidden_channels (protocol_of c.in-Par.p.value) in
    let ds = hidden_channels (protocol_of c.in-Par.q.value) in
    let pairs = c.args.renaming.now in
    let there = c.in-Some.ensures ∙ ap (λ p. slice_get (captured pairs (hidden_channels (protocol_of p))) 0) c.deref.ensures in
    captured_left pairs cs ds c.in-Some.name.now there ∙ ap (λ p. slice_get (captured pairs (hidden_channels (protocol_of p))) 0) (sym c.in-Par.is)

pub returns-in-None : goal.returns-in-None
returns-in-None t c =
    let cs = hidden_channels (protocol_of c.in-Par.p.value) in
    let ds = hidden_channels (protocol_of c.in-Par.q.value) in
    let pairs = c.args.renaming.now in
    let none = c.in-None.ensures ∙ ap (λ p. slice_get (captured pairs (hidden_channels (protocol_of p))) 0) c.deref.ensures in
    let there = c.first_captured-in-None.ensures ∙ ap (λ p. slice_get (captured pairs (hidden_channels (protocol_of p))) 0) c.deref-in-None.ensures in
    captured_right pairs cs ds (option_copied c.first_captured-in-None.result) none there ∙ ap (λ p. slice_get (captured pairs (hidden_channels (protocol_of p))) 0) (sym c.in-Par.is)
